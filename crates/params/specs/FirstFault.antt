-- The fault that is named is the first one: every line and every value before it is good.
use Rattle.std.specs.Prelude.{◌≡◌, ℕ, zero, suc, ◌-◌, ◌<◌, ◌≤◌, Bool, true, false, cond, ◌≢◌, ◌⊎◌, List, [], ◌∷◌, length, get_or, is_ok, Ok, Err, Result, ◌==◌, slice_index_or}
use Rattle.terms.specs.declared.role.Role.{Role}
use Rattle.terms.specs.declared.role.Role.TheVariants.{Initiator, Responder}
use Rattle.texts.specs.declared.columns.Column.{Column}
use Rattle.texts.specs.declared.fault.Fault.{Fault}
use Rattle.texts.specs.declared.fault.Fault.TheVariants.{NamesDiffer, WrongCount, DifferingBits}
use Rattle.texts.specs.declared.fault.File.TheVariants.{Sheet, Script}
use Rattle.texts.specs.declared.fault.LineFault.{LineFault}
use Rattle.texts.specs.declared.fault.FileFault.{FileFault}
use Rattle.texts.specs.Columns.{text_in}
use Rattle.texts.specs.Faults.{verdict}
use Rattle.texts.specs.Headings.{read_names}
use Rattle.texts.specs.Numbers.{read_number, read_below, read_hex}
use Rattle.texts.specs.Pieces.{before, after, count_of}
use Rattle.terms.specs.declared.failure.Failure.TheVariants.{Cause, NoMemory}
use Rattle.params.specs.Calls.{ScriptError}
use Rattle.params.specs.Columns.{names, versions, periods, windows, mmins, mmaxs, asks, waits, setups, datas, ecs}
use Rattle.params.specs.Lines.{role_column}
use Rattle.params.specs.Scripts.{read_role, read_deed, read_call, script_names}
use Rattle.params.specs.Sheets.{read_row}

-- what a column says to a text: it is good, or at fault
abbrev pub on_number : Column → List ℕ → Result (Unit {0}) Fault
on_number c s = verdict (read_number c.range s)

abbrev pub on_below : Column → List ℕ → Result (Unit {0}) Fault
on_below c s = verdict (read_below c.range s)

abbrev pub on_hex : List ℕ → Result (Unit {0}) Fault
on_hex s = verdict (read_hex s)

-- the fifteen columns, in order
abbrev pub columns : Role → List (List ℕ → Result (Unit {0}) Fault)
columns role =
    on_number (role_column role) ∷ on_hex ∷ on_hex ∷ on_hex ∷ on_hex
    ∷ on_number versions ∷ on_number periods ∷ on_number windows ∷ on_below mmins ∷ on_number mmaxs
    ∷ on_number asks ∷ on_number waits ∷ on_number setups ∷ on_number datas ∷ on_number ecs ∷ []

-- what column k, from 1, says to its text in a line
abbrev pub judged : Role → List ℕ → ℕ → Result (Unit {0}) Fault
judged role line k = get_or (columns role) (k - 1) (λ _. Ok tt) (text_in k line)

-- the values in the columns before n are good
abbrev pub GoodBefore : Role → List ℕ → ℕ → Type 0
GoodBefore role line n = (k : ℕ) → 1 ≤ k → k < n → judged role line k ≡ Ok tt

-- the first fault of a line: the value named is at fault, and those before it are good; or there are not fifteen values; or all
-- fifteen are good, and the differing bits are not
pub record FirstInLine (role : Role) (line : List ℕ) (f : LineFault) : Type 0 where
  pub earlier : GoodBefore role line f.column
  pub here : 1 ≤ f.column → judged role line f.column ≡ Err f.fault
  pub whole : f.column ≡ 0 → ((f.fault ≡ WrongCount) × (count_of 32 line ≢ 14)) ⊎ ((f.fault ≡ DifferingBits) × GoodBefore role line 16)

-- a text from line n on, counted from 1
abbrev pub past_lines : ℕ → List ℕ → List ℕ
past_lines zero s = s
past_lines (suc k) s = past_lines k (after 10 s)

abbrev pub from_line : ℕ → List ℕ → List ℕ
from_line n text = past_lines (n - 1) text

-- whether each of the three lines of a sheet is good
abbrev pub good_lines : List ℕ → List Bool
good_lines text =
    is_ok (read_names names text) ∷ is_ok (read_row Initiator 2 (from_line 2 text)) ∷ is_ok (read_row Responder 3 (from_line 3 text)) ∷ []

-- line 2 is the initiator's, line 3 the responder's
abbrev pub role_of : ℕ → Role
role_of n = cond (n == 2) Initiator Responder

-- what is wrong with the line that is named
pub data Wrong (text : List ℕ) (f : FileFault) : Type 0 where
  -- it is not the line of names
  not_names : f.line ≡ 1 → f.fault ≡ NamesDiffer → f.column ≡ 0 → Wrong text f
  -- it is missing or has no end
  not_ended : (2 ≤ f.line) × (f.line ≤ 3) → f.fault ≡ WrongCount → f.column ≡ 0 → count_of 10 (from_line f.line text) ≡ 0 → Wrong text f
  -- it is one too many
  one_more : f.line ≡ 4 → f.fault ≡ WrongCount → f.column ≡ 0 → length (from_line 4 text) ≢ 0 → Wrong text f
  -- its own first fault
  in_line : (2 ≤ f.line) × (f.line ≤ 3) → FirstInLine (role_of f.line) (before 10 (from_line f.line text)) record { fault = f.fault; column = f.column } → Wrong text f

-- the first fault of a sheet
pub record FirstFault (text : List ℕ) (f : FileFault) : Type 0 where
  pub file : f.file ≡ Sheet
  pub earlier : (k : ℕ) → 1 ≤ k → k < f.line → slice_index_or (good_lines text) (k - 1) false ≡ true
  pub here : Wrong text f

-- the columns of a script whose verdict needs no other
abbrev pub call_columns : List (List ℕ → Result (Unit {0}) Fault)
call_columns = (λ s. verdict (read_role s)) ∷ (λ s. verdict (read_deed s)) ∷ []

-- the first fault of a script: the line of names is good before any call, the calls before the line named are good, and so are the
-- values before the one named
pub record FirstInScript (text : List ℕ) (f : FileFault) : Type 0 where
  pub file : f.file ≡ Script
  pub names : 2 ≤ f.line → is_ok (read_names script_names text) ≡ true
  pub earlier : (k : ℕ) → 2 ≤ k → k < f.line → is_ok (read_call k (from_line k text)) ≡ true
  pub values : (k : ℕ) → 1 ≤ k → k < f.column → get_or call_columns (k - 1) (λ _. Ok tt) (text_in k (before 10 (from_line f.line text))) ≡ Ok tt

-- an error that is a fault is the first one
abbrev pub by_fault_first : List ℕ → ScriptError → Type 0
by_fault_first text (Cause f) = FirstInScript text f
by_fault_first text NoMemory = Unit {0}
