-- What writing answers and leaves, where a value has these bytes, and is refused for a reason of its own unless it fits.
use Rattle.std.specs.Prelude.{ℕ, Bool, cond, List, length, Ok, Err, Result, nat_le}
use Rattle.terms.specs.Buffers.{overlay}
use Rattle.terms.specs.declared.refusal.Refusal.{Refusal}
use Rattle.terms.specs.declared.refusal.Refusal.TheVariants as refusal

-- whether the value may be written, as an answer
abbrev pub allowed : Bool → Refusal → Result (Unit {0}) Refusal
allowed fits unfit = cond fits (Ok tt) (Err unfit)

-- a buffer that is too short is refused first, then the value itself
abbrev pub write_answer : List ℕ → Bool → Refusal → List ℕ → Result ℕ Refusal
write_answer s fits unfit out = cond (nat_le (length s) (length out)) (cond fits (Ok (length s)) (Err unfit)) (Err refusal.BufferTooShort)

-- the buffer after: a refusal leaves it as it was
abbrev pub write_after : List ℕ → Bool → List ℕ → List ℕ
write_after s fits out = cond (nat_le (length s) (length out)) (cond fits (overlay s out) out) out
