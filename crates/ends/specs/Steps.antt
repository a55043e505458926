-- Which calls an end makes on its carrier, by the carrier's own steps: in which order, with which string, and none else.
-- The carrier's rules alone allow that a string is not kept, so they do not tell a put from none; its steps do.
use Rattle.std.specs.Prelude.{◌≡◌, ℕ, List, length, Some, None, Ok, Option, Result}
use Rattle.terms.specs.declared.refusal.Refusal.{Refusal}
use Rattle.terms.specs.declared.role.Role.{Role}
use Rattle.carrier.specs.declared.Keeping.{Keeping}
use Rattle.ends.specs.declared.answer.Answer.{Answer}
use Rattle.states.specs.declared.state.State.{State}
use Rattle.states.specs.States.{EndValue}
use Rattle.ends.specs.Ways.{tick_way}
use Rattle.ends.specs.Effects.{tick_put, after_fetch, fetch_put, delivers}
use Rattle.ends.specs.Puts.{put_into}
use Rattle.ends.specs.Calls.{answering, out_refusal, tick_refusal, fetch_refusal, opening_refusal, said, came_way, came_length, stop_put, opening_put}

-- the steps of a put: the carrier before, the side, the string, the answer, the carrier after
abbrev pub Putting : Type 0 → Type 1
Putting C = C → Role → List ℕ → Result Keeping Refusal → C → Type 0

-- the steps of a fetch: the carrier before, the side, the buffer before, the answer, the buffer after, the carrier after
abbrev pub Fetching : Type 0 → Type 1
Fetching C = C → Role → List ℕ → Result (Option ℕ) Refusal → List ℕ → C → Type 0

-- Puts:

-- the string was put once, and nothing else was done; what the carrier answered is its own affair
pub record PutMade {C : Type 0} (putting : Putting C) (c d : C) (from : Role) (s : List ℕ) : Type 0 where
  pub answer : Result Keeping Refusal
  pub step : putting c from s answer d

-- where there is nothing to put, the carrier was not called: it is the one from before
abbrev pub PutStep : {C : Type 0} → Putting C → C → C → Role → Option (List ℕ) → Type 0
PutStep putting c d from None = d ≡ c
PutStep putting c d from (Some s) = PutMade putting c d from s

-- Ticks:

-- a refused tick makes no call, any other puts the frame of its rule, if that has one
abbrev pub TickStepped : {C : Type 0} → Option Refusal → Putting C → C → C → EndValue → List ℕ → Type 0
TickStepped (Some x) putting c d e message = d ≡ c
TickStepped None putting c d e message = PutStep putting c d e.role (tick_put e (tick_way e) (said e.values message))

abbrev pub TickStep : {C : Type 0} → Putting C → C → C → EndValue → ℕ → List ℕ → List ℕ → Type 0
TickStep putting c d e largest message out = TickStepped (tick_refusal e largest (length out)) putting c d e message

-- Fetches:

-- one fetch at the end's own side, then the put of the rule that applies to what came;
-- what came in just this fetch is what end, output buffer and answer go by
pub record FetchMade {C : Type 0} (putting : Putting C) (fetching : Fetching C) (c d : C) (e e' : EndValue) (buf buf' out out' : List ℕ) (r : Answer) : Type 0 where
  pub came : Option ℕ
  pub between : C
  pub fetched : fetching c e.role buf (Ok came) buf' between
  pub put : PutStep putting between d e.role (fetch_put e (came_way e buf' came))
  pub end : e' ≡ after_fetch e (came_way e buf' came)
  pub output : out' ≡ put_into (fetch_put e (came_way e buf' came)) out
  pub answer : r ≡ answering e' None (delivers (came_way e buf' came) (came_length came)) (fetch_put e (came_way e buf' came))

-- a refused fetch makes no call
abbrev pub FetchStepped : {C : Type 0} → Option Refusal → Putting C → Fetching C → C → C → EndValue → EndValue → List ℕ → List ℕ → List ℕ → List ℕ → Answer → Type 0
FetchStepped (Some x) putting fetching c d e e' buf buf' out out' r = d ≡ c
FetchStepped None putting fetching c d e e' buf buf' out out' r = FetchMade putting fetching c d e e' buf buf' out out' r

abbrev pub FetchStep : {C : Type 0} → Putting C → Fetching C → C → C → EndValue → EndValue → ℕ → List ℕ → List ℕ → List ℕ → List ℕ → Answer → Type 0
FetchStep putting fetching c d e e' largest buf buf' out out' r =
    FetchStepped (fetch_refusal e largest (length buf) (length out)) putting fetching c d e e' buf buf' out out' r

-- Stops:

-- the release is put, unless the end is out: then no call is made
abbrev pub StopStep : {C : Type 0} → Putting C → C → C → EndValue → Type 0
StopStep putting c d e = PutStep putting c d e.role (stop_put e (out_refusal e.state))

-- Openings:

-- a refused opening makes no call, any other puts the frame of the first state, if that has one
abbrev pub OpeningStepped : {C : Type 0} → Option Refusal → Putting C → C → C → Role → State → Type 0
OpeningStepped (Some x) putting c d role first = d ≡ c
OpeningStepped None putting c d role first = PutStep putting c d role (opening_put first)

abbrev pub OpeningStep : {C : Type 0} → Putting C → C → C → Role → State → ℕ → List ℕ → Type 0
OpeningStep putting c d role first largest out = OpeningStepped (opening_refusal largest (length out)) putting c d role first
