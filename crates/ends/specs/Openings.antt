-- Openings: what each answers, and what it leaves of carrier and buffer.
use Rattle.std.specs.Prelude.{◌≡◌, ℕ, List, length, Some, None, Ok, Err, Result}
use Rattle.terms.specs.declared.refusal.Refusal.{Refusal}
use Rattle.terms.specs.declared.role.Role.{Role}
use Rattle.carrier.specs.Rules.{Meaning}
use Rattle.params.specs.declared.values.Values.{Values}
use Rattle.ends.specs.declared.opening.Opened.{Opened}
use Rattle.ends.specs.declared.opening.NotOpened.{NotOpened}
use Rattle.states.specs.declared.state.State.{State}
use Rattle.ends.specs.Ends.{end_value}
use Rattle.ends.specs.Calls.{Opens, opening_refusal}

-- an opening in this first state; a refused one hands the numbers back, and carrier and buffer are as they were
pub record OpenRefused {N : Type 0} (numbers : N) (m m' : Meaning) (out out' : List ℕ) (r : NotOpened N) : Type 0 where
  pub refusal : opening_refusal m.largest (length out) ≡ Some r.refusal
  pub handed_back : r.numbers ≡ numbers
  pub carrier : m' ≡ m
  pub output : out' ≡ out

pub record OpenDone (v : Values) (role : Role) (first : State) (m m' : Meaning) (out out' : List ℕ) (r : Opened) : Type 0 where
  pub not_refused : opening_refusal m.largest (length out) ≡ None
  pub opens : Opens (end_value r.end) v role first m m' out out' r.answer

abbrev pub OpensAs : {N : Type 0} → Values → N → Role → State → Meaning → Meaning → List ℕ → List ℕ → Result Opened (NotOpened N) → Type 0
OpensAs v numbers role first m m' out out' (Ok o) = OpenDone v role first m m' out out' o
OpensAs v numbers role first m m' out out' (Err x) = OpenRefused numbers m m' out out' x

-- the same where the numbers of a refused opening are still to be handed back
abbrev pub handed_back : {N : Type 0} → N → Result Opened Refusal → Result Opened (NotOpened N)
handed_back numbers (Ok o) = Ok o
handed_back numbers (Err x) = Err record { refusal = x; numbers = numbers }
