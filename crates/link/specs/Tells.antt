-- What a run of a script tells: which calls were made of the two ends, what each answered, and what became of the carrier.
use Rattle.std.specs.Prelude.{◌≡◌, ℕ, Bool, true, false, List, [], ◌∷◌, ◌++◌, map, take, drop, Some, None, Ok, Err, vec_items, Option, Result, Vec}
use Rattle.std.specs.declared.alloc.Global.{Global}
use Rattle.terms.specs.declared.failure.Failure.{Failure}
use Rattle.terms.specs.declared.failure.Failure.TheVariants.{NoMemory, Cause}
use Rattle.terms.specs.declared.refusal.Refusal.{Refusal}
use Rattle.terms.specs.declared.role.Role.{Role}
use Rattle.terms.specs.declared.role.Role.TheVariants.{Initiator, Responder}
use Rattle.terms.specs.Sides.{at}
use Rattle.carrier.specs.Rules.{Meaning}
use Rattle.params.specs.declared.call.Action.TheVariants as action
use Rattle.params.specs.Calls.{OwnAction, OwnCall}
use Rattle.params.specs.Made.{Sheet}
use Rattle.ends.specs.declared.answer.Answer.{Answer}
use Rattle.states.specs.declared.state.State.TheVariants.{WaitAu2, Listen}
use Rattle.ends.specs.Calls.{Stops, opening_refusal}
use Rattle.ends.specs.Puts.{longest_frame}
use Rattle.states.specs.States.{EndValue}
use Rattle.link.specs.declared.runs.Line.{Line}
use Rattle.link.specs.declared.runs.Numbers.{Numbers}
use Rattle.link.specs.Times.{History, new, ◌▸◌}
use Rattle.link.specs.Runs.{Sheets, SeatValue, LinkValue, Deed, opens, ticks, fetches, stops, Moment, Ran}

-- the parameter sets by role
abbrev pub sheets_of : Sheet → Sheets
sheets_of s role = (at s role).values

-- What is asked:

pub record Asked : Type 0 where
  pub role : Role
  pub deed : Deed

-- of which ends, and what, from the first call to the last
abbrev pub deeds : History Moment → List Asked
deeds new = []
deeds (h ▸ m) = deeds h ++ (record { role = m.role; deed = m.deed } ∷ [])

-- a link from new: the initiator is opened with Rb and Rc, then the responder with Ra
abbrev pub openings : Numbers → List Asked
openings n =
    record { role = Initiator; deed = opens (WaitAu2 n.rb.value n.rc.value) }
    ∷ (record { role = Responder; deed = opens (Listen n.ra.value) } ∷ [])

abbrev pub deed_of : OwnAction → Deed
deed_of (action.Tick message) = ticks (vec_items message)
deed_of action.Fetch = fetches
deed_of action.Stop = stops

abbrev pub asked_of : OwnCall → Asked
asked_of c = record { role = c.end; deed = deed_of c.action }

-- What is told:

pub record Told : Type 0 where
  pub answer : Answer
  pub got : List ℕ

-- the answers and the bytes delivered, from the first call to the last
abbrev pub told : History Moment → List Told
told new = []
told (h ▸ m) = told h ++ (record { answer = m.answer; got = m.got } ∷ [])

abbrev pub told_by : Line → Told
told_by l = record { answer = l.answer; got = vec_items l.got }

-- The end of a run:

-- an end is stopped unless its token was taken back before
pub record LastStop (e : EndValue) (m m' : Meaning) : Type 0 where
  pub after : EndValue
  pub answer : Answer
  pub stop : Stops e after m m' answer

abbrev pub LetGoHeld : Bool → EndValue → Meaning → Meaning → Type 0
LetGoHeld true e m m' = LastStop e m m'
LetGoHeld false e m m' = m' ≡ m

abbrev pub LetGo : SeatValue → Meaning → Meaning → Type 0
LetGo s m m' = LetGoHeld s.held s.end m m'

abbrev pub LetGoSeat : Option SeatValue → Meaning → Meaning → Type 0
LetGoSeat None m m' = m' ≡ m
LetGoSeat (Some s) m m' = LetGo s m m'

-- the initiator first
pub record Closed (t : LinkValue) (m : Meaning) : Type 0 where
  pub between : Meaning
  pub first : LetGoSeat t.initiator t.carrier between
  pub second : LetGoSeat t.responder between m

-- A run of the calls asked, and the carrier after the last stops.
pub record RunMade (sheet : Sheet) (numbers : Numbers) (m m' : Meaning) (calls : List OwnCall) (answers : List Told) : Type 0 where
  pub history : History Moment
  pub last : LinkValue
  pub ran : Ran (sheets_of sheet) m history last
  pub asked : deeds history ≡ openings numbers ++ map asked_of calls
  pub said : drop 2 (told history) ≡ answers
  pub closed : Closed last m'

-- for want of memory only the first calls were made; what they answered is not returned
pub record RunHalted (sheet : Sheet) (numbers : Numbers) (m m' : Meaning) (calls : List OwnCall) : Type 0 where
  pub number : ℕ
  pub answers : List Told
  pub run : RunMade sheet numbers m m' (take number calls) answers

-- no end was opened, and the carrier is as it was
pub record RunRefused (m m' : Meaning) (x : Refusal) : Type 0 where
  pub refusal : opening_refusal m.largest longest_frame ≡ Some x
  pub carrier : m' ≡ m

abbrev pub Tells : Sheet → Numbers → Meaning → Meaning → List OwnCall → Result (Vec Line Global) (Failure Refusal) → Type 0
Tells sheet numbers m m' calls (Ok lines) = RunMade sheet numbers m m' calls (map told_by (vec_items lines))
Tells sheet numbers m m' calls (Err NoMemory) = RunHalted sheet numbers m m' calls
Tells sheet numbers m m' calls (Err (Cause x)) = RunRefused m m' x
