-- Answers one after another, as `?` passes them on.
use Rattle.std.specs.Prelude.{Ok, Err, Result}

-- what f makes of an answer, or the refusal
abbrev pub then : {T U E : Type 0} → Result T E → (T → Result U E) → Result U E
then (Ok x) f = f x
then (Err e) f = Err e
