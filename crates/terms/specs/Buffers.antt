-- What writing leaves in the caller's buffer.
use Rattle.std.specs.Prelude.{ℕ, cond, List, ◌++◌, length, drop, Ok, Err, Result, nat_le}
use Rattle.terms.specs.declared.refusal.Refusal.{Refusal}
use Rattle.terms.specs.declared.refusal.Refusal.TheVariants as refusal

-- s at the start of the buffer, whose rest stays
abbrev pub overlay : List ℕ → List ℕ → List ℕ
overlay s out = s ++ drop (length s) out

-- the length of what is written, or the refusal of a buffer that is too short
abbrev pub put_answer : List ℕ → List ℕ → Result ℕ Refusal
put_answer s out = cond (nat_le (length s) (length out)) (Ok (length s)) (Err refusal.BufferTooShort)

-- the buffer after: a refusal leaves it as it was
abbrev pub put_after : List ℕ → List ℕ → List ℕ
put_after s out = cond (nat_le (length s) (length out)) (overlay s out) out
