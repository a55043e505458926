-- Writing a value as it is read.
use Rattle.std.specs.Prelude.{ℕ, zero, suc, ◌+◌, ◌-◌, ◌/◌, ◌%◌, ◌^◌, cond, List, [], ◌∷◌, nat_lt}

-- a hexadecimal digit, with capitals
abbrev pub hex_char : ℕ → ℕ
hex_char d = cond (nat_lt d 10) (48 + d) (65 + (d - 10))

-- the last k hexadecimal digits of a number
abbrev pub hex_digits : ℕ → ℕ → List ℕ
hex_digits zero n = []
hex_digits (suc k) n = hex_char (n / 16 ^ k % 16) ∷ hex_digits k n

-- eight of them
abbrev pub hex_text : ℕ → List ℕ
hex_text n = hex_digits 8 n
