-- Runs of one link: any succession of openings, ticks, fetches and stops on the two ends of one carrier.
use Rattle.std.specs.Prelude.{◌≡◌, ℕ, ◌-◌, Bool, true, false, List, [], length, take, drop, Some, None, Option}
use Rattle.terms.specs.declared.refusal.Refusal.{Refusal}
use Rattle.terms.specs.declared.refusal.Refusal.TheVariants.{EndIsOut}
use Rattle.terms.specs.declared.role.Role.{Role}
use Rattle.terms.specs.declared.role.Role.TheVariants.{Initiator, Responder}
use Rattle.terms.specs.Roles.{far}
use Rattle.carrier.specs.Rules.{Meaning}
use Rattle.params.specs.declared.values.Values.{Values}
use Rattle.ends.specs.declared.answer.Answer.{Answer}
use Rattle.ends.specs.declared.answer.Place.{Place}
use Rattle.states.specs.declared.state.State.{State}
use Rattle.states.specs.declared.state.State.TheVariants as state
use Rattle.states.specs.States.{EndValue}
use Rattle.ends.specs.Ways.{tick_way}
use Rattle.ends.specs.Effects.{tick_put, fetch_put}
use Rattle.ends.specs.Calls.{Opens, opening_refusal, opening_put, Ticks, tick_refusal, said, FetchDone, FetchRefused, fetch_refusal, came_way, Stops, stop_put, out_refusal, answering}
use Rattle.link.specs.Times.{History, new, ◌▸◌}

-- the parameter sets of the two ends
abbrev pub Sheets : Type 0
Sheets = Role → Values

-- an end on its side, and whether its stop token is still out
pub record SeatValue : Type 0 where
  pub end : EndValue
  pub held : Bool

-- a link between two calls, its carrier by what it means; an end is there once it is opened
pub record LinkValue : Type 0 where
  pub carrier : Meaning
  pub initiator : Option SeatValue
  pub responder : Option SeatValue

abbrev pub seat : Role → LinkValue → Option SeatValue
seat Initiator t = t.initiator
seat Responder t = t.responder

-- what is asked of an end; an opening by the state that its session numbers give
pub data Deed : Type 0 where
  opens : State → Deed
  ticks : List ℕ → Deed
  fetches : Deed
  stops : Deed

-- One call: of which end, what, its answer, the bytes that it delivered, the string that it put and the one that it took, the link before and after.
pub record Moment : Type 0 where
  pub role : Role
  pub deed : Deed
  pub answer : Answer
  pub got : List ℕ
  pub put : Option (List ℕ)
  pub took : Option (List ℕ)
  pub before : LinkValue
  pub after : LinkValue

-- the bytes at a place of a buffer
abbrev pub at_place : List ℕ → Option Place → List ℕ
at_place buf None = []
at_place buf (Some p) = take (p.to - p.from) (drop p.from buf)

-- An opening: the initiator's numbers are Rb and Rc, the responder's Ra.
abbrev pub First : Role → State → Type 0
First Initiator st = (rb : ℕ) × (rc : ℕ) × (st ≡ state.WaitAu2 rb rc)
First Responder st = (ra : ℕ) × (st ≡ state.Listen ra)

pub record Opening (sheets : Sheets) (m : Moment) (first : State) : Type 0 where
  pub numbers : First m.role first
  pub unopened : seat m.role m.before ≡ None
  pub end : EndValue
  pub opened : seat m.role m.after ≡ Some record { end = end; held = true }
  pub out : List ℕ
  pub out' : List ℕ
  pub wide : opening_refusal m.before.carrier.largest (length out) ≡ None
  pub call : Opens end (sheets m.role) m.role first m.before.carrier m.after.carrier out out' m.answer
  pub put : m.put ≡ opening_put first
  pub took : m.took ≡ None
  pub got : m.got ≡ []

-- what a tick puts, unless it is refused
abbrev pub tick_puts : Option Refusal → EndValue → List ℕ → Option (List ℕ)
tick_puts (Some x) e message = None
tick_puts None e message = tick_put e (tick_way e) (said e.values message)

pub record Tick (m : Moment) (message : List ℕ) : Type 0 where
  pub e : EndValue
  pub e' : EndValue
  pub held : Bool
  pub was : seat m.role m.before ≡ Some record { end = e; held = held }
  pub is : seat m.role m.after ≡ Some record { end = e'; held = held }
  pub out : List ℕ
  pub out' : List ℕ
  pub call : Ticks e e' m.before.carrier m.after.carrier message out out' m.answer
  pub put : m.put ≡ tick_puts (tick_refusal e m.before.carrier.largest (length out)) e message
  pub took : m.took ≡ None
  pub got : m.got ≡ []

-- the string that came
abbrev pub came_string : List ℕ → Option ℕ → Option (List ℕ)
came_string buf None = None
came_string buf (Some n) = Some (take n buf)

-- what a fetch takes and puts, unless it is refused
abbrev pub FetchDoes : Option Refusal → Moment → EndValue → EndValue → List ℕ → List ℕ → List ℕ → List ℕ → Type 0
FetchDoes (Some x) m e e' buf buf' out out' =
    FetchRefused e e' m.before.carrier m.after.carrier buf buf' out out' x m.answer × (m.took ≡ None) × (m.put ≡ None)
FetchDoes None m e e' buf buf' out out' =
    (d : FetchDone e e' m.before.carrier m.after.carrier buf buf' out out' m.answer)
    × (m.took ≡ came_string buf' d.came) × (m.put ≡ fetch_put e (came_way e buf' d.came))

pub record Fetch (m : Moment) : Type 0 where
  pub e : EndValue
  pub e' : EndValue
  pub held : Bool
  pub was : seat m.role m.before ≡ Some record { end = e; held = held }
  pub is : seat m.role m.after ≡ Some record { end = e'; held = held }
  pub buf : List ℕ
  pub buf' : List ℕ
  pub out : List ℕ
  pub out' : List ℕ
  pub call : FetchDoes (fetch_refusal e m.before.carrier.largest (length buf) (length out)) m e e' buf buf' out out'
  pub got : m.got ≡ at_place buf' m.answer.delivered

-- the first stop takes the token back; a second one is refused
abbrev pub StopDoes : Bool → Moment → EndValue → EndValue → Type 0
StopDoes true m e e' =
    Stops e e' m.before.carrier m.after.carrier m.answer × (m.put ≡ stop_put e (out_refusal e.state))
StopDoes false m e e' =
    (e' ≡ e) × (m.after.carrier ≡ m.before.carrier) × (m.answer ≡ answering e (Some EndIsOut) None None) × (m.put ≡ None)

pub record Stop (m : Moment) : Type 0 where
  pub e : EndValue
  pub e' : EndValue
  pub held : Bool
  pub was : seat m.role m.before ≡ Some record { end = e; held = held }
  pub is : seat m.role m.after ≡ Some record { end = e'; held = false }
  pub call : StopDoes held m e e'
  pub took : m.took ≡ None
  pub got : m.got ≡ []

-- what a call does, by the contracts of the calls
abbrev pub Does : Sheets → Moment → Deed → Type 0
Does sheets m (opens first) = Opening sheets m first
Does sheets m (ticks message) = Tick m message
Does sheets m fetches = Fetch m
Does sheets m stops = Stop m

-- and nothing but that: the other end is as it was
pub record Step (sheets : Sheets) (m : Moment) : Type 0 where
  pub does : Does sheets m m.deed
  pub other : seat (far m.role) m.after ≡ seat (far m.role) m.before

-- a carrier with no end on it
abbrev pub unopened : Meaning → LinkValue
unopened c = record { carrier = c; initiator = None; responder = None }

-- h is a run over a carrier that meant c before any opening, and t is the link after it
abbrev pub Ran : Sheets → Meaning → History Moment → LinkValue → Type 0
Ran sheets c new t = t ≡ unopened c
Ran sheets c (h ▸ m) t = Ran sheets c h m.before × Step sheets m × (t ≡ m.after)
