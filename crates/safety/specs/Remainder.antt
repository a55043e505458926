-- The cyclic redundancy check of a byte string.
-- A polynomial over the field of two elements is a number: bit k is the coefficient of x^k. Its sum is `bit_xor`.
use Rattle.std.specs.Prelude.{◌≡◌, ℕ, zero, suc, ◌+◌, ◌*◌, ◌/◌, ◌%◌, ◌^◌, ◌<◌, cond, List, [], ◌∷◌, ◌++◌, replicate, bit_xor, nat_lt}
use Rattle.safety.specs.declared.crc.Channel.{Channel}
use Rattle.safety.specs.declared.crc.Channel.TheVariants.{First, Second}

-- the divisor of each check, x^32 left out
abbrev pub polynomial : Channel → ℕ
polynomial First = 0x100D4E63
polynomial Second = 0x8CE56011

-- the n low bits of v, the highest first
unfoldable pub bits : ℕ → ℕ → List ℕ
bits zero v = []
bits (suc n) v = (v / 2 ^ n % 2) ∷ bits n v

-- the bits of a byte string, the highest bit of the first byte first
unfoldable pub bits_of : List ℕ → List ℕ
bits_of [] = []
bits_of (b ∷ bs) = bits 8 b ++ bits_of bs

-- less p t is t, of degree at most 32, less the divisor x^32 + p where t has x^32
unfoldable pub less : ℕ → ℕ → ℕ
less p t = cond (nat_lt t (2 ^ 32)) t (bit_xor t (2 ^ 32 + p))

-- long division by x^32 + p: r is left so far, the next bit is brought down, and the divisor taken off
unfoldable pub divide : ℕ → ℕ → List ℕ → ℕ
divide p r [] = r
divide p r (b ∷ bs) = divide p (less p (2 * r + b)) bs

-- the remainder of the string times x^32, which is 32 zeros behind it, modulo x^32 + p
unfoldable pub remainder : ℕ → List ℕ → ℕ
remainder p s = divide p 0 (bits_of s ++ replicate 32 0)

-- What makes it the remainder:

-- the polynomial whose coefficients are bs, the highest first, behind those of v
unfoldable pub value : ℕ → List ℕ → ℕ
value v [] = v
value v (b ∷ bs) = value (2 * v + b) bs

-- each is a bit
abbrev pub Bits : List ℕ → Type 0
Bits [] = Unit {0}
Bits (b ∷ bs) = (b < 2) × Bits bs

-- the product of g and the polynomial whose coefficients are q, the highest first; v is the product so far
unfoldable pub product : ℕ → ℕ → List ℕ → ℕ
product g v [] = v
product g v (b ∷ q) = product g (bit_xor (2 * v) (b * g)) q

-- r is what m leaves modulo x^32 + p: m is a multiple of that, plus r, and the degree of r is below 32
pub record Leaves (p m r : ℕ) : Type 0 where
  pub low : r < 2 ^ 32
  pub multiple : (q : List ℕ) × Bits q × (m ≡ bit_xor (product (2 ^ 32 + p) 0 q) r)

-- the string times x^32
abbrev pub times_x32 : List ℕ → ℕ
times_x32 s = value 0 (bits_of s) * 2 ^ 32
