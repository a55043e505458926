-- The values of a line, as texts.
use Rattle.std.specs.Prelude.{ℕ, ◌+◌, ◌-◌, ◌*◌, ◌≤◌, Bool, true, cond, not, ◌&&◌, List, [], ◌∷◌, length, drop, ℤ, pos, neg_ℤ, Ok, Err, Result, ◌==◌, nat_le, slice_index}
use Rattle.terms.specs.Outcomes.{then}
use Rattle.texts.specs.declared.fault.Fault.{Fault}
use Rattle.texts.specs.declared.fault.Fault.TheVariants.{WrongForm, OutOfRange}
use Rattle.texts.specs.declared.numbers.Range.{Range}

-- a number lies within a range; the same as a test
abbrev pub Within : Range → ℕ → Type 0
Within r n = (r.low ≤ n) × (n ≤ r.high)

abbrev pub within : Range → ℕ → Bool
within r n = nat_le r.low n && nat_le n r.high

-- a number outside its range is refused
abbrev pub ranged : Range → ℕ → Result ℕ Fault
ranged r n = cond (within r n) (Ok n) (Err OutOfRange)

-- the digits 0 to 9 are the bytes 48 to 57
abbrev pub digits : List ℕ → Bool
digits [] = true
digits (b ∷ s) = (nat_le 48 b && nat_le b 57) && digits s

-- there is a digit, and no zero in front of others
abbrev pub proper : List ℕ → Bool
proper s = cond (nat_le 2 (length s)) (not (slice_index s 0 == 48)) (length s == 1)

abbrev pub is_number : List ℕ → Bool
is_number s = digits s && proper s

-- the number that the digits write, behind v
abbrev pub value_of : ℕ → List ℕ → ℕ
value_of v [] = v
value_of v (b ∷ s) = value_of (v * 10 + (b - 48)) s

-- a number of the right form, however long, and within its range
abbrev pub read_number : Range → List ℕ → Result ℕ Fault
read_number r s = cond (is_number s) (ranged r (value_of 0 s)) (Err WrongForm)

-- a hexadecimal digit: 0 to 9, or one of the capitals A to F, the bytes 65 to 70
abbrev pub read_digit : ℕ → Result ℕ Fault
read_digit b = cond (nat_le 48 b && nat_le b 57) (Ok (b - 48)) (cond (nat_le 65 b && nat_le b 70) (Ok (b - 65 + 10)) (Err WrongForm))

-- two digits are a byte, the first the higher
abbrev pub read_byte : ℕ → ℕ → Result ℕ Fault
read_byte high low = then (read_digit high) (λ h. then (read_digit low) (λ l. Ok (h * 16 + l)))

-- hexadecimal digits behind v
abbrev pub hex_on : ℕ → List ℕ → Result ℕ Fault
hex_on v [] = Ok v
hex_on v (b ∷ s) = then (read_digit b) (λ d. hex_on (v * 16 + d) s)

-- eight of them
abbrev pub read_hex : List ℕ → Result ℕ Fault
read_hex s = cond (length s == 8) (hex_on 0 s) (Err WrongForm)

-- a minus, the byte 45, and how far below zero; a number without minus has the right form and is out of range
abbrev pub read_below : Range → List ℕ → Result ℤ Fault
read_below r s =
    cond (slice_index s 0 == 45) (then (read_number r (drop 1 s)) (λ n. Ok (neg_ℤ (pos n))))
    (cond (is_number s) (Err OutOfRange) (Err WrongForm))
