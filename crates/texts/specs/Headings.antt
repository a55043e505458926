-- The line of names that a file begins with, and the end of a line.
use Rattle.std.specs.Prelude.{ℕ, cond, List, Ok, Err, Result, ◌==◌}
use Rattle.std.specs.Str.{bytes_eq}
use Rattle.texts.specs.declared.fault.Fault.TheVariants.{NamesDiffer, WrongCount}
use Rattle.texts.specs.declared.fault.LineFault.{LineFault}
use Rattle.texts.specs.Faults.{whole_line}
use Rattle.texts.specs.Pieces.{before, count_of}

-- the text begins with a line of just these names; a line feed is 10
abbrev pub read_names : List ℕ → List ℕ → Result (Unit {0}) LineFault
read_names wanted text =
    cond (count_of 10 text == 0) (Err (whole_line NamesDiffer))
    (cond (bytes_eq (before 10 text) wanted) (Ok tt) (Err (whole_line NamesDiffer)))

-- a line is there, and has its end
abbrev pub read_end : List ℕ → Result (Unit {0}) LineFault
read_end text = cond (count_of 10 text == 0) (Err (whole_line WrongCount)) (Ok tt)
