-- The faults of a file: their numbers, how they gain their place, and how they are shown.
use Rattle.std.specs.Prelude.{ℕ, List, ◌∷◌, ◌++◌, Ok, Err, codes, decimal, Result}
use Rattle.texts.specs.declared.fault.Fault.{Fault}
use Rattle.texts.specs.declared.fault.Fault.TheVariants as fault
use Rattle.texts.specs.declared.fault.LineFault.{LineFault}
use Rattle.texts.specs.declared.fault.FileFault.{FileFault}
use Rattle.texts.specs.declared.fault.File.{File}
use Rattle.texts.specs.declared.fault.File.TheVariants.{Sheet, Script}

-- the number under which a fault is reported
abbrev pub fault_number : Fault → ℕ
fault_number fault.NamesDiffer = 1
fault_number fault.WrongCount = 2
fault_number fault.WrongForm = 3
fault_number fault.OutOfRange = 4
fault_number fault.DifferingBits = 5

-- a value's fault as its line's
abbrev pub fault_at : ℕ → Fault → LineFault
fault_at column e = record { fault = e; column = column }

-- a fault of a whole line stands in column 0
abbrev pub whole_line : Fault → LineFault
whole_line e = fault_at 0 e

-- that an answer is there, whatever it gives, or why it is not
abbrev pub verdict : {T E : Type 0} → Result T E → Result (Unit {0}) E
verdict (Ok x) = Ok tt
verdict (Err e) = Err e

-- a value's answer as its line's
abbrev pub at_column : {T : Type 0} → Result T Fault → ℕ → Result T LineFault
at_column (Ok x) column = Ok x
at_column (Err e) column = Err (fault_at column e)

-- a line's fault as its file's
abbrev pub fault_on : File → ℕ → LineFault → FileFault
fault_on file line e = record { fault = e.fault; file = file; line = line; column = e.column }

-- a line's answer as its file's
abbrev pub on_line : {T : Type 0} → Result T LineFault → File → ℕ → Result T FileFault
on_line (Ok x) file line = Ok x
on_line (Err e) file line = Err (fault_on file line e)

-- the name of a file
abbrev pub file_word : File → List ℕ
file_word Sheet = codes "sheet"
file_word Script = codes "script"

-- the number, the file, the line and the column, with a space, 32, before each
abbrev pub fault_text : FileFault → List ℕ
fault_text f =
    codes "fault"
    ++ (32 ∷ (decimal (fault_number f.fault)
    ++ (32 ∷ (file_word f.file
    ++ (32 ∷ (decimal f.line
    ++ (32 ∷ decimal f.column)))))))
