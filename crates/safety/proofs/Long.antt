-- Long division gives the remainder.
use Rattle.std.proofs.Common.{◌≡◌, ℕ, zero, suc, ◌+◌, ◌*◌, ◌^◌, ◌<◌, List, [], ◌∷◌, ◌++◌, replicate, sym, refl, ap, ◌∙◌, ap₂, ⊎_elim, add-zero, mul_assoc, mul_comm, pow-suc, zero-mul, mul-one, arith}
use lib.Bits.{bit_xor, xor_block, xor_zero_r, xor_self}
use Rattle.std.proofs.lemmas.Bool.{cases_lt}
use Rattle.safety.specs.Remainder.{bits, bits_of, less, divide, remainder, value, Bits, product, Leaves, times_x32}
use Rattle.safety.proofs.Register.{less_low, less_high, less_lt, medial, remainder_lt}

pub both_bits : (xs ys : List ℕ) → Bits xs → Bits ys → Bits (xs ++ ys)
both_bits [] ys h k = k
both_bits (x ∷ xs) ys h k = (h.0, both_bits xs ys h.1 k)

bits_bits : (n v : ℕ) → Bits (bits n v)
unfolding bits
bits_bits zero v = tt
bits_bits (suc n) v = (omega arith, bits_bits n v)

bits_bits_of : (s : List ℕ) → Bits (bits_of s)
unfolding bits_of
bits_bits_of [] = tt
bits_bits_of (b ∷ s) = both_bits (bits 8 b) (bits_of s) (bits_bits 8 b) (bits_bits_of s)

pub zeros_bits : (n : ℕ) → Bits (replicate n 0)
zeros_bits zero = tt
zeros_bits (suc n) = (omega arith, zeros_bits n)

value_append : (v : ℕ) (xs ys : List ℕ) → value v (xs ++ ys) ≡ value (value v xs) ys
unfolding value
value_append v [] ys = refl
value_append v (x ∷ xs) ys = value_append (2 * v + x) xs ys

value_zeros : (n v : ℕ) → value v (replicate n 0) ≡ v * 2 ^ n
unfolding value
value_zeros zero v = sym (mul-one v)
value_zeros (suc n) v =
    value_zeros n (2 * v + 0) ∙ ap (λ u. u * 2 ^ n) (add-zero (2 * v) ∙ mul_comm 2 v) ∙ mul_assoc v 2 (2 ^ n)
    ∙ ap (λ u. v * u) (mul_comm 2 (2 ^ n) ∙ sym (pow-suc 2 n))

module _ (p : ℕ) (hp : p < 2 ^ 32) where
  down : (a r b : ℕ) → b < 2 → 2 * bit_xor a r + b ≡ bit_xor (2 * a) (2 * r + b)
  down a r b h =
      let ea : 2 * a ≡ a * 2 ^ 1 + 0 = omega arith in
      let er : 2 * r + b ≡ r * 2 ^ 1 + b = omega arith in
      let ev : 2 * bit_xor a r + b ≡ bit_xor a r * 2 ^ 1 + b = omega arith in
      ev ∙ sym (ap₂ bit_xor ea er ∙ xor_block 1 a r 0 b (omega arith) h)

  long : (bs : List ℕ) (v a r : ℕ) → Bits bs → r < 2 ^ 32 → v ≡ bit_xor a r
      → (q : List ℕ) × Bits q × (value v bs ≡ bit_xor (product (2 ^ 32 + p) a q) (divide p r bs))
  unfolding value product divide
  long [] v a r h hr e = ([], tt, e)
  long (b ∷ bs) v a r h hr e =
      let is : 2 * v + b ≡ bit_xor (2 * a) (2 * r + b) = ap (λ u. 2 * u + b) e ∙ down a r b h.0 in
      let lt = less_lt p hp r b hr h.0 in
      ⊎_elim
      (λ low.
      let t : 2 * v + b ≡ bit_xor (bit_xor (2 * a) (0 * (2 ^ 32 + p))) (less p (2 * r + b)) =
      is ∙ sym (ap₂ bit_xor (ap (bit_xor (2 * a)) (zero-mul (2 ^ 32 + p)) ∙ xor_zero_r (2 * a)) (less_low p (2 * r + b) low)) in
      let m = long bs (2 * v + b) (bit_xor (2 * a) (0 * (2 ^ 32 + p))) (less p (2 * r + b)) h.1 lt t in
      (0 ∷ m.0, (omega arith, m.1), m.2))
      (λ high.
      let g = 2 ^ 32 + p in
      let one : 1 * g ≡ g = omega arith in
      let t : 2 * v + b ≡ bit_xor (bit_xor (2 * a) (1 * g)) (less p (2 * r + b)) =
      is ∙ sym (ap₂ bit_xor (ap (bit_xor (2 * a)) one) (less_high p (2 * r + b) high)
      ∙ medial (2 * a) g (2 * r + b) g ∙ ap (bit_xor (bit_xor (2 * a) (2 * r + b))) (xor_self g) ∙ xor_zero_r (bit_xor (2 * a) (2 * r + b))) in
      let m = long bs (2 * v + b) (bit_xor (2 * a) (1 * g)) (less p (2 * r + b)) h.1 lt t in
      (1 ∷ m.0, (omega arith, m.1), m.2))
      (cases_lt (2 * r + b) (2 ^ 32))

pub is_remainder : (p : ℕ) (s : List ℕ) → p < 2 ^ 32 → Leaves p (times_x32 s) (remainder p s)
unfolding remainder
is_remainder p s hp =
    let zs : List ℕ = replicate 32 0 in
    let m = long p hp (bits_of s ++ zs) 0 0 0 (both_bits (bits_of s) zs (bits_bits_of s) (zeros_bits 32)) (omega arith) refl in
    record {
      low = remainder_lt p hp s;
      multiple = (m.0, m.1, sym (value_zeros 32 (value 0 (bits_of s))) ∙ sym (value_append 0 (bits_of s) zs) ∙ m.2);
    }
