-- Why something was not made.
use Rattle.terms.specs.declared.failure.Failure.{Failure}
use Rattle.terms.specs.declared.failure.Failure.TheVariants as failure

abbrev pub by_cause : {E : Type 0} → E → Failure E
by_cause e = failure.Cause e

abbrev pub no_memory : {E : Type 0} → Failure E
no_memory = failure.NoMemory
