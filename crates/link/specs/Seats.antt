-- The two seats of a link by their values, and what the calls on them do, for the functions below a run.
use Rattle.std.specs.Prelude.{◌≡◌, ℕ, ◌≤◌, Bool, true, false, List, [], ◌∷◌, ◌++◌, map, length, take, Some, None, Ok, Err, vec_items, Option, Result, Vec}
use Rattle.std.specs.declared.alloc.AllocError.{AllocError}
use Rattle.std.specs.declared.alloc.Global.{Global}
use Rattle.terms.specs.declared.refusal.Refusal.{Refusal}
use Rattle.terms.specs.declared.refusal.Refusal.TheVariants.{EndIsOut}
use Rattle.terms.specs.declared.role.Role.{Role}
use Rattle.carrier.specs.Rules.{Meaning}
use Rattle.params.specs.declared.call.Action.TheVariants as action
use Rattle.params.specs.Calls.{OwnAction, OwnCall}
use Rattle.params.specs.Made.{Sheet}
use Rattle.params.specs.declared.values.Values.{Values}
use Rattle.ends.specs.declared.answer.Answer.{Answer}
use Rattle.ends.specs.declared.answer.Place.{Place}
use Rattle.ends.specs.declared.session.StopToken.{StopToken}
use Rattle.states.specs.declared.state.State.{State}
use Rattle.ends.specs.Calls.{Opens, opening_refusal, Ticks, Fetches, Stops, answering}
use Rattle.ends.specs.Ends.{end_value}
use Rattle.states.specs.States.{EndValue}
use Rattle.link.specs.declared.runs.Line.{Line}
use Rattle.link.specs.declared.runs.Numbers.{Numbers}
use Rattle.link.specs.declared.runs.Seats.{Seats}
use Rattle.link.specs.declared.seat.Seat.{Seat}
use Rattle.link.specs.Times.{History}
use Rattle.link.specs.Runs.{Sheets, SeatValue, LinkValue, Moment, Step, Ran, at_place}
use Rattle.link.specs.Tells.{sheets_of, Asked, deeds, openings, deed_of, asked_of, Told, told, told_by, RunRefused}

abbrev pub held_of : Option StopToken → Bool
held_of None = false
held_of (Some token) = true

abbrev pub seat_value : Seat → SeatValue
seat_value s = record { end = end_value s.end; held = held_of s.token }

-- both ends on a carrier that means m
abbrev pub link_value : Meaning → Seats → LinkValue
link_value m s = record { carrier = m; initiator = Some (seat_value s.0.initiator); responder = Some (seat_value s.0.responder) }

-- an end opened in its first state, its token out; or none, and the carrier as it was
pub record SeatOpened (v : Values) (role : Role) (first : State) (m m' : Meaning) (out out' : List ℕ) (s : SeatValue) : Type 0 where
  pub answer : Answer
  pub wide : opening_refusal m.largest (length out) ≡ None
  pub held : s.held ≡ true
  pub opens : Opens s.end v role first m m' out out' answer

pub record SeatRefused (m m' : Meaning) (out out' : List ℕ) (x : Refusal) : Type 0 where
  pub refusal : opening_refusal m.largest (length out) ≡ Some x
  pub carrier : m' ≡ m

abbrev pub OpensSeat : Values → Role → State → Meaning → Meaning → List ℕ → List ℕ → Result Seat Refusal → Type 0
OpensSeat v role first m m' out out' (Ok s) = SeatOpened v role first m m' out out' (seat_value s)
OpensSeat v role first m m' out out' (Err x) = SeatRefused m m' out out' x

-- a stop: the first takes the token back, a second is refused
abbrev pub StopsHeld : Bool → EndValue → EndValue → Meaning → Meaning → Answer → Type 0
StopsHeld true e e' m m' r = Stops e e' m m' r
StopsHeld false e e' m m' r = (e' ≡ e) × (m' ≡ m) × (r ≡ answering e (Some EndIsOut) None None)

pub record StopActs (s s' : SeatValue) (m m' : Meaning) (r : Answer) : Type 0 where
  pub call : StopsHeld s.held s.end s'.end m m' r
  pub held : s'.held ≡ false

-- a call of a script on one end
pub record TickActs (message : List ℕ) (s s' : SeatValue) (m m' : Meaning) (out out' : List ℕ) (r : Answer) : Type 0 where
  pub call : Ticks s.end s'.end m m' message out out' r
  pub held : s'.held ≡ s.held

pub record FetchActs (s s' : SeatValue) (m m' : Meaning) (buf buf' out out' : List ℕ) (r : Answer) : Type 0 where
  pub call : Fetches s.end s'.end m m' buf buf' out out' r
  pub held : s'.held ≡ s.held

abbrev pub Acts : OwnAction → SeatValue → SeatValue → Meaning → Meaning → List ℕ → List ℕ → List ℕ → List ℕ → Answer → Type 0
Acts (action.Tick message) s s' m m' buf buf' out out' r = TickActs (vec_items message) s s' m m' out out' r
Acts action.Fetch s s' m m' buf buf' out out' r = FetchActs s s' m m' buf buf' out out' r
Acts action.Stop s s' m m' buf buf' out out' r = StopActs s s' m m' r

-- a place lies within a buffer of n bytes
abbrev pub Within : ℕ → Option Place → Type 0
Within n None = Unit {0}
Within n (Some p) = (p.from ≤ p.to) × (p.to ≤ n)

-- a call on a link is one step of any run, with any two parameter sets
abbrev pub moment : OwnCall → Answer → List ℕ → Option (List ℕ) → Option (List ℕ) → LinkValue → LinkValue → Moment
moment c r got put took t t' =
    record { role = c.end; deed = deed_of c.action; answer = r; got = got; put = put; took = took; before = t; after = t' }

pub record Steps (c : OwnCall) (t t' : LinkValue) (buf' : List ℕ) (r : Answer) : Type 0 where
  pub put : Option (List ℕ)
  pub took : Option (List ℕ)
  pub step : (sheets : Sheets) → Step sheets (moment c r (at_place buf' r.delivered) put took t t')
  pub within : Within (length buf') r.delivered

-- a run to t with these deeds and these answers
pub record RunTo (sheets : Sheets) (m : Meaning) (t : LinkValue) (asked : List Asked) (answers : List Told) : Type 0 where
  pub history : History Moment
  pub ran : Ran sheets m history t
  pub asks : deeds history ≡ asked
  pub says : told history ≡ answers

-- both openings; or none, and the carrier as it was
pub record SeatsOpened (sheet : Sheet) (numbers : Numbers) (m m' : Meaning) (s : Seats) : Type 0 where
  pub first : Told
  pub second : Told
  pub run : RunTo (sheets_of sheet) m (link_value m' s) (openings numbers) (first ∷ (second ∷ []))

abbrev pub OpensSeats : Sheet → Numbers → Meaning → Meaning → Result Seats Refusal → Type 0
OpensSeats sheet numbers m m' (Ok s) = SeatsOpened sheet numbers m m' s
OpensSeats sheet numbers m m' (Err x) = RunRefused m m' x

-- calls one after another, from t to t': every run to t goes on by them to t'
pub record Played (t t' : LinkValue) (calls : List OwnCall) (answers : List Told) : Type 0 where
  pub on : (sheets : Sheets) (m : Meaning) (asked : List Asked) (before : List Told)
      → RunTo sheets m t asked before → RunTo sheets m t' (asked ++ map asked_of calls) (before ++ answers)

-- for want of memory only the first of them
pub record Halted (t t' : LinkValue) (calls : List OwnCall) : Type 0 where
  pub number : ℕ
  pub answers : List Told
  pub played : Played t t' (take number calls) answers

abbrev pub Plays : LinkValue → LinkValue → List OwnCall → Result (Vec Line Global) AllocError → Type 0
Plays t t' calls (Ok lines) = Played t t' calls (map told_by (vec_items lines))
Plays t t' calls (Err e) = Halted t t' calls
