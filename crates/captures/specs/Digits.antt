-- Hexadecimal text.
use Rattle.std.specs.Prelude.{◌≡◌, ℕ, ◌+◌, ◌-◌, ◌*◌, ◌^◌, Bool, cond, ◌&&◌, List, [], ◌∷◌, length, Ok, Err, vec_items, Result, Vec, ◌==◌, nat_le, slice_index}
use Rattle.std.specs.declared.alloc.Global.{Global}
use Rattle.terms.specs.Outcomes.{then}
use Rattle.terms.specs.declared.failure.Failure.{Failure}
use Rattle.terms.specs.declared.failure.Failure.TheVariants.{Cause, NoMemory}
use Rattle.captures.specs.declared.line.LineFault.{LineFault}
use Rattle.captures.specs.declared.line.LineFault.TheVariants.{NotHex}

-- from one byte to another
abbrev pub between : ℕ → ℕ → ℕ → Bool
between low high b = nat_le low b && nat_le b high

-- `0` to `9`, `A` to `F`, `a` to `f`
abbrev pub digit_value : ℕ → Result ℕ LineFault
digit_value b =
    cond (between 48 57 b) (Ok (b - 48)) (cond (between 65 70 b) (Ok (b - 65 + 10)) (cond (between 97 102 b) (Ok (b - 97 + 10)) (Err NotHex)))

-- two digits are a byte, the first the higher
abbrev pub byte_value : ℕ → ℕ → Result ℕ LineFault
byte_value high low = then (digit_value high) (λ h. then (digit_value low) (λ l. Ok (h * 16 + l)))

-- eight digits are a number of 32 bits
abbrev pub word_value : List ℕ → Result ℕ LineFault
word_value s =
    cond (length s == 8)
    (then (byte_value (slice_index s 0) (slice_index s 1)) (λ w.
    then (byte_value (slice_index s 2) (slice_index s 3)) (λ x.
    then (byte_value (slice_index s 4) (slice_index s 5)) (λ y.
    then (byte_value (slice_index s 6) (slice_index s 7)) (λ z.
    Ok (w * 2 ^ 24 + x * 2 ^ 16 + y * 2 ^ 8 + z))))))
    (Err NotHex)

-- two digits to a byte
unfoldable pub pairs_value : List ℕ → Result (List ℕ) LineFault
pairs_value [] = Ok []
pairs_value (a ∷ []) = Err NotHex
pairs_value (a ∷ b ∷ s) = then (byte_value a b) (λ x. then (pairs_value s) (λ xs. Ok (x ∷ xs)))

-- the bytes that a text writes: `-` alone writes none
abbrev pub bytes_value : List ℕ → Result (List ℕ) LineFault
bytes_value text = cond (length text == 1 && slice_index text 0 == 45) (Ok []) (pairs_value text)

-- the answer to a text whose value is this: its bytes, or its fault, or that there was no memory for them
abbrev pub Decoded : Result (List ℕ) LineFault → Result (Vec ℕ Global) (Failure LineFault) → Type 0
Decoded value (Ok v) = value ≡ Ok (vec_items v)
Decoded value (Err (Cause fault)) = value ≡ Err fault
Decoded value (Err NoMemory) = Unit {0}
