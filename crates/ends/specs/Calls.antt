-- The calls on an end: what each answers, and what it leaves of end, carrier and buffers.
use Rattle.std.specs.Prelude.{◌≡◌, ℕ, Bool, cond, ◌&&◌, List, [], length, take, Some, None, Ok, Err, Option, Result, ◌==◌, nat_le, nat_lt}
use Rattle.terms.specs.declared.refusal.Refusal.{Refusal}
use Rattle.terms.specs.declared.refusal.Refusal.TheVariants as refusal
use Rattle.terms.specs.declared.role.Role.{Role}
use Rattle.codec.specs.Frames.{au1, bytes_of}
use Rattle.terms.specs.Numbers.{Bytes}
use Rattle.carrier.specs.declared.Keeping.{Keeping}
use Rattle.carrier.specs.Rules.{Meaning, PutRules, FetchRules}
use Rattle.params.specs.declared.values.Values.{Values}
use Rattle.ends.specs.declared.answer.Answer.{Answer}
use Rattle.ends.specs.declared.answer.Place.{Place}
use Rattle.states.specs.declared.reason.Reason.TheVariants as reason
use Rattle.states.specs.declared.state.State.{State}
use Rattle.states.specs.declared.state.State.TheVariants as state
use Rattle.ends.specs.declared.ways.FetchWay.{FetchWay}
use Rattle.ends.specs.declared.ways.FetchWay.TheVariants as fetch
use Rattle.states.specs.States.{EndValue, status_of, in_up}
use Rattle.ends.specs.Ways.{tick_way, fetch_way}
use Rattle.ends.specs.Effects.{released, release_frame, after_tick, tick_put, after_fetch, fetch_put, delivers}
use Rattle.ends.specs.Puts.{longest_frame, put_length, put_into}

-- Refusals:

-- an end that is out
abbrev pub out_refusal : State → Option Refusal
out_refusal (state.Out release) = Some refusal.EndIsOut
out_refusal _ = None

-- first the carrier, then the buffers, which have room or not, then the end
abbrev pub call_refusal : ℕ → Bool → Option Refusal → Option Refusal
call_refusal largest room else = cond (nat_lt largest longest_frame) (Some refusal.CarrierTooNarrow) (cond room else (Some refusal.BufferTooShort))

abbrev pub tick_refusal : EndValue → ℕ → ℕ → Option Refusal
tick_refusal e largest out = call_refusal largest (nat_le longest_frame out) (out_refusal e.state)

abbrev pub fetch_refusal : EndValue → ℕ → ℕ → ℕ → Option Refusal
fetch_refusal e largest buf out = call_refusal largest (nat_le largest buf && nat_le longest_frame out) (out_refusal e.state)

abbrev pub opening_refusal : ℕ → ℕ → Option Refusal
opening_refusal largest out = call_refusal largest (nat_le longest_frame out) None

-- Answers:

abbrev pub answering : EndValue → Option Refusal → Option Place → Option (List ℕ) → Answer
answering e refused delivered put = record { refused = refused; status = status_of e.state; delivered = delivered; put = put_length put }

-- the answer of a call that was tried: one that was refused puts and delivers nothing
abbrev pub answer_of : EndValue → Result Answer Refusal → Answer
answer_of e (Ok r) = r
answer_of e (Err x) = answering e (Some x) None None

-- What a put leaves of the carrier: where it was not asked, it is as it was; else what it kept is open, within the carrier's rules.
pub record PutDone (m m' : Meaning) (from : Role) (s : List ℕ) : Type 0 where
  pub answer : Result Keeping Refusal
  pub rules : PutRules m m' from s answer

abbrev pub Puts : Meaning → Meaning → Role → Option (List ℕ) → Type 0
Puts m m' from None = m' ≡ m
Puts m m' from (Some s) = PutDone m m' from s

-- Ticks:

-- the message that goes out: one that is too long is left out
abbrev pub said : Values → List ℕ → List ℕ
said v message = cond (nat_le (length message) v.longest) message []

-- why a message is refused though the tick goes on: too long, or there and the end is not up after the tick
abbrev pub message_refusal : Values → ℕ → State → Option Refusal
message_refusal v len after =
    cond (nat_le len v.longest)
    (cond (len == 0) None (in_up (λ words sent last synced. None) (Some refusal.EndNotUp) after))
    (Some refusal.MessageTooLong)

-- a call that was refused: nothing changed
pub record Unchanged (e e' : EndValue) (m m' : Meaning) (out out' : List ℕ) (x : Refusal) (r : Answer) : Type 0 where
  pub answer : r ≡ answering e (Some x) None None
  pub end : e' ≡ e
  pub carrier : m' ≡ m
  pub output : out' ≡ out

-- a tick that was not: the rule that applies says what it does
pub record TickDone (e e' : EndValue) (m m' : Meaning) (message out out' : List ℕ) (r : Answer) : Type 0 where
  pub end : e' ≡ after_tick e (tick_way e)
  pub carrier : Puts m m' e.role (tick_put e (tick_way e) (said e.values message))
  pub output : out' ≡ put_into (tick_put e (tick_way e) (said e.values message)) out
  pub answer : r ≡ answering e' (message_refusal e.values (length message) e'.state) None (tick_put e (tick_way e) (said e.values message))

abbrev pub Ticked : Option Refusal → EndValue → EndValue → Meaning → Meaning → List ℕ → List ℕ → List ℕ → Answer → Type 0
Ticked (Some x) e e' m m' message out out' r = Unchanged e e' m m' out out' x r
Ticked None e e' m m' message out out' r = TickDone e e' m m' message out out' r

abbrev pub Ticks : EndValue → EndValue → Meaning → Meaning → List ℕ → List ℕ → List ℕ → Answer → Type 0
Ticks e e' m m' message out out' r = Ticked (tick_refusal e m.largest (length out)) e e' m m' message out out' r

-- Fetches:

-- the rule that applies to what came, of n bytes at the start of the buffer
abbrev pub came_way : EndValue → List ℕ → Option ℕ → FetchWay
came_way e buf None = fetch.Drops
came_way e buf (Some n) = fetch_way e (take n buf)

-- the length of what came
abbrev pub came_length : Option ℕ → ℕ
came_length None = 0
came_length (Some n) = n

-- what came is bytes, and as many as the fetch answered
abbrev pub Octets : List ℕ → Option ℕ → Type 0
Octets buf None = Unit {0}
Octets buf (Some n) = Bytes (take n buf) × (length (take n buf) ≡ n)

-- what comes, if anything, is open, within the carrier's rules; by it the rule that applies says what the fetch does
pub record FetchDone (e e' : EndValue) (m m' : Meaning) (buf buf' out out' : List ℕ) (r : Answer) : Type 0 where
  pub came : Option ℕ
  pub between : Meaning
  pub fetched : FetchRules m between e.role buf buf' (Ok came)
  pub octets : Octets buf' came
  pub end : e' ≡ after_fetch e (came_way e buf' came)
  pub carrier : Puts between m' e.role (fetch_put e (came_way e buf' came))
  pub output : out' ≡ put_into (fetch_put e (came_way e buf' came)) out
  pub answer : r ≡ answering e' None (delivers (came_way e buf' came) (came_length came)) (fetch_put e (came_way e buf' came))

pub record FetchRefused (e e' : EndValue) (m m' : Meaning) (buf buf' out out' : List ℕ) (x : Refusal) (r : Answer) : Type 0 where
  pub call : Unchanged e e' m m' out out' x r
  pub buffer : buf' ≡ buf

abbrev pub Fetched : Option Refusal → EndValue → EndValue → Meaning → Meaning → List ℕ → List ℕ → List ℕ → List ℕ → Answer → Type 0
Fetched (Some x) e e' m m' buf buf' out out' r = FetchRefused e e' m m' buf buf' out out' x r
Fetched None e e' m m' buf buf' out out' r = FetchDone e e' m m' buf buf' out out' r

abbrev pub Fetches : EndValue → EndValue → Meaning → Meaning → List ℕ → List ℕ → List ℕ → List ℕ → Answer → Type 0
Fetches e e' m m' buf buf' out out' r = Fetched (fetch_refusal e m.largest (length buf) (length out)) e e' m m' buf buf' out out' r

-- Stops:

-- never refused: an end that is out stays as it is
abbrev pub stopped : EndValue → Option Refusal → EndValue
stopped e None = released e reason.Stopped
stopped e (Some x) = e

abbrev pub stop_put : EndValue → Option Refusal → Option (List ℕ)
stop_put e None = Some (release_frame e reason.Stopped)
stop_put e (Some x) = None

pub record Stops (e e' : EndValue) (m m' : Meaning) (r : Answer) : Type 0 where
  pub end : e' ≡ stopped e (out_refusal e.state)
  pub carrier : Puts m m' e.role (stop_put e (out_refusal e.state))
  pub answer : r ≡ answering e' None None (stop_put e (out_refusal e.state))

-- Openings:

-- an end just opened, in its first state
abbrev pub opened : Values → Role → State → EndValue
opened v role st = record { values = v; role = role; ec = v.ec; count = record { 0 = 0 }; state = st }

-- the initiator puts AU1, the responder nothing
abbrev pub opening_put : State → Option (List ℕ)
opening_put (state.WaitAu2 rb rc) = Some (bytes_of (au1 rb))
opening_put _ = None

-- an opening that was not refused
pub record Opens (e : EndValue) (v : Values) (role : Role) (first : State) (m m' : Meaning) (out out' : List ℕ) (r : Answer) : Type 0 where
  pub end : e ≡ opened v role first
  pub carrier : Puts m m' role (opening_put first)
  pub output : out' ≡ put_into (opening_put first) out
  pub answer : r ≡ answering e None None (opening_put first)
