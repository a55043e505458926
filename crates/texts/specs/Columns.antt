-- The values of a line by their columns.
use Rattle.std.specs.Prelude.{ℕ, ◌-◌, List, ℤ, Result}
use Rattle.texts.specs.declared.columns.Column.{Column}
use Rattle.texts.specs.declared.fault.LineFault.{LineFault}
use Rattle.texts.specs.Faults.{at_column}
use Rattle.texts.specs.Numbers.{read_number, read_below, read_hex}
use Rattle.texts.specs.Pieces.{value_at}

-- the text in a column, whose place counts from 1
abbrev pub text_in : ℕ → List ℕ → List ℕ
text_in place line = value_at (place - 1) line

-- the number in a column, and a fault that names the column
abbrev pub number_in : Column → List ℕ → Result ℕ LineFault
number_in c line = at_column (read_number c.range (text_in c.place line)) c.place

abbrev pub below_in : Column → List ℕ → Result ℤ LineFault
below_in c line = at_column (read_below c.range (text_in c.place line)) c.place

abbrev pub hex_in : ℕ → List ℕ → Result ℕ LineFault
hex_in place line = at_column (read_hex (text_in place line)) place
