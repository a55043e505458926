-- What a cut cable answers: it keeps nothing, so nothing comes out.
use Rattle.std.specs.Prelude.{ℕ, cond, List, length, None, Ok, Err, Option, Result, nat_le}
use Rattle.terms.specs.declared.refusal.Refusal.{Refusal}
use Rattle.terms.specs.declared.refusal.Refusal.TheVariants.{StringTooLong, BufferTooShort}
use Rattle.carrier.specs.declared.Keeping.{Keeping}
use Rattle.carrier.specs.declared.Keeping.TheVariants.{NotKept}
use Rattle.carrier.specs.Rules.{greatest_length}

abbrev pub cut_put : List ℕ → Result Keeping Refusal
cut_put s = cond (nat_le (length s) greatest_length) (Ok NotKept) (Err StringTooLong)

abbrev pub cut_fetch : List ℕ → Result (Option ℕ) Refusal
cut_fetch buf = cond (nat_le greatest_length (length buf)) (Ok None) (Err BufferTooShort)
