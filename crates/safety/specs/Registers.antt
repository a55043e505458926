-- The shift register by which the code finds the remainder.
use Rattle.std.specs.Prelude.{ℕ, zero, suc, ◌*◌, ◌^◌, bit_xor}
use Rattle.safety.specs.Remainder.{less}

-- one turn of the shift register
unfoldable pub shifted : ℕ → ℕ → ℕ
shifted p r = less p (2 * r)

-- n turns
unfoldable pub turns : ℕ → ℕ → ℕ → ℕ
turns p zero r = r
turns p (suc n) r = turns p n (shifted p r)

-- one byte through the shift register
unfoldable pub fed : ℕ → ℕ → ℕ → ℕ
fed p r b = turns p 8 (bit_xor r (b * 2 ^ 24))
