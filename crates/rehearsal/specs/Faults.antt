-- The one line that a faulty file gives.
use Rattle.std.specs.Prelude.{ℕ, List, [], ◌∷◌, ◌++◌}
use Rattle.texts.specs.declared.fault.FileFault.{FileFault}
use Rattle.texts.specs.Faults.{fault_text}

-- the fault's text with a line feed, 10, behind it
abbrev pub fault_line : FileFault → List ℕ
fault_line f = fault_text f ++ (10 ∷ [])
