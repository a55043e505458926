-- A sheet: the line of names, the initiator's line, the responder's line.
use Rattle.std.specs.Prelude.{ℕ, cond, List, length, Ok, Err, Result, ◌==◌}
use Rattle.terms.specs.declared.role.Role.{Role}
use Rattle.terms.specs.declared.role.Role.TheVariants.{Initiator, Responder}
use Rattle.terms.specs.Outcomes.{then}
use Rattle.texts.specs.declared.fault.Fault.TheVariants.{WrongCount}
use Rattle.texts.specs.declared.fault.File.TheVariants.{Sheet}
use Rattle.texts.specs.declared.fault.FileFault.{FileFault}
use Rattle.texts.specs.Faults.{on_line, whole_line}
use Rattle.texts.specs.Headings.{read_names, read_end}
use Rattle.texts.specs.Pieces.{before, after}
use Rattle.params.specs.declared.values.Values.{Values}
use Rattle.params.specs.Columns.{names}
use Rattle.params.specs.Lines.{read_line}

-- nothing stands behind the last line
abbrev pub no_more : Values × Values → List ℕ → Result (Values × Values) FileFault
no_more both text = cond (length text == 0) (Ok both) (on_line (Err (whole_line WrongCount)) Sheet 4)

-- the line that a text begins with, which is line n of the sheet
abbrev pub read_row : Role → ℕ → List ℕ → Result Values FileFault
read_row role n text =
    then (on_line (read_end text) Sheet n) (λ _. on_line (read_line role (before 10 text)) Sheet n)

-- the lines 2 and 3
abbrev pub read_rows : List ℕ → Result (Values × Values) FileFault
read_rows text =
    then (read_row Initiator 2 text) (λ a.
    then (read_row Responder 3 (after 10 text)) (λ b.
    no_more (a, b) (after 10 (after 10 text))))

-- the initiator's values and the responder's, or the first fault
abbrev pub read_sheet : List ℕ → Result (Values × Values) FileFault
read_sheet text = then (on_line (read_names names text) Sheet 1) (λ _. read_rows (after 10 text))
