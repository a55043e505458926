-- A polynomial leaves one remainder.
use Rattle.std.proofs.Common.{◌≡◌, ℕ, zero, suc, ◌+◌, ◌*◌, ◌/◌, ◌%◌, ◌^◌, ◌<◌, ◌≤◌, ◌⊎◌, List, [], ◌∷◌, ◌++◌, length, replicate, sym, refl, ap, ◌∙◌, subst, ap₂, inl, inr, ⊎_elim, zero-mul, arith, length-append}
use lib.Bits.{bit_xor, xor_block, xor_zero_r, xor_self, xor_lt, xor_assoc}
use lib.ListN.{length-replicate}
use Rattle.safety.specs.Remainder.{Bits, product, Leaves}
use Rattle.safety.proofs.Register.{medial, xor_double, scale, cases_two}
use Rattle.safety.proofs.Long.{both_bits, zeros_bits}

-- zeros in front change nothing
padded : (g : ℕ) (k : ℕ) (q : List ℕ) → product g 0 (replicate k 0 ++ q) ≡ product g 0 q
unfolding product
padded g zero q = refl
padded g (suc k) q = ap (λ u. product g u (replicate k 0 ++ q)) (zero-mul g) ∙ padded g k q

both : List ℕ → List ℕ → List ℕ
both [] ys = []
both (x ∷ xs) [] = []
both (x ∷ xs) (y ∷ ys) = bit_xor x y ∷ both xs ys

bits_both : (xs ys : List ℕ) → Bits xs → Bits ys → Bits (both xs ys)
unfolding both
bits_both [] ys h k = tt
bits_both (x ∷ xs) [] h k = tt
bits_both (x ∷ xs) (y ∷ ys) h k = (xor_lt 1 x y h.0 k.0, bits_both xs ys h.1 k.1)

sums : (g u v : ℕ) (xs ys : List ℕ) → length xs ≡ length ys → Bits xs → Bits ys
    → bit_xor (product g u xs) (product g v ys) ≡ product g (bit_xor u v) (both xs ys)
unfolding product both
sums g u v [] [] e h k = refl
sums g u v [] (y ∷ ys) e h k = absurd (omega arith)
sums g u v (x ∷ xs) [] e h k = absurd (omega arith)
sums g u v (x ∷ xs) (y ∷ ys) e h k =
    sums g (bit_xor (2 * u) (x * g)) (bit_xor (2 * v) (y * g)) xs ys (omega arith) h.1 k.1
    ∙ ap (λ w. product g w (both xs ys))
    (medial (2 * u) (x * g) (2 * v) (y * g) ∙ ap₂ bit_xor (xor_double u v) (scale g x y h.0 k.0))

-- nothing, or of degree 32 at least
Large : ℕ → Type 0
Large v = (v ≡ 0) ⊎ (2 ^ 32 ≤ v)

module _ (p : ℕ) (hp : p < 2 ^ 32) where
  step : (v b : ℕ) → b < 2 → Large v → Large (bit_xor (2 * v) (b * (2 ^ 32 + p)))
  unfolding Large
  step v b hb l =
      ⊎_elim
      (λ e. ⊎_elim
      (λ z. inl (ap₂ (λ x y. bit_xor (2 * x) (y * (2 ^ 32 + p))) e z ∙ zero-mul (2 ^ 32 + p)))
      (λ o. inr (subst (λ w. 2 ^ 32 ≤ w) (sym (ap₂ (λ x y. bit_xor (2 * x) (y * (2 ^ 32 + p))) e o)) (omega arith)))
      (cases_two b hb))
      (λ big.
      let low : b * (2 ^ 32 + p) < 2 ^ 33 = ⊎_elim (λ z. subst (λ y. y * (2 ^ 32 + p) < 2 ^ 33) (sym z) (omega arith)) (λ o. subst (λ y. y * (2 ^ 32 + p) < 2 ^ 33) (sym o) (omega arith)) (cases_two b hb) in
      let hi : ℕ = 2 * v / 2 ^ 33 in
      let lo : ℕ = 2 * v % 2 ^ 33 in
      let y : ℕ = b * (2 ^ 32 + p) in
      let parts : 2 * v ≡ hi * 2 ^ 33 + lo = omega arith in
      let none : y ≡ 0 * 2 ^ 33 + y = omega arith in
      let whole : bit_xor (2 * v) y ≡ bit_xor hi 0 * 2 ^ 33 + bit_xor lo y = ap₂ bit_xor parts none ∙ xor_block 33 hi 0 lo y (omega arith) low in
      let some : 1 ≤ bit_xor hi 0 = subst (λ w. 1 ≤ w) (sym (xor_zero_r hi)) (omega arith) in
      inr (omega arith))
      l

  large : (q : List ℕ) (v : ℕ) → Bits q → Large v → Large (product (2 ^ 32 + p) v q)
  unfolding product
  large [] v h l = l
  large (b ∷ q) v h l = large q (bit_xor (2 * v) (b * (2 ^ 32 + p))) h.1 (step v b h.0 l)

  -- two multiples that differ by less than x^32 are equal
  close : (q t : List ℕ) → Bits q → Bits t → bit_xor (product (2 ^ 32 + p) 0 q) (product (2 ^ 32 + p) 0 t) < 2 ^ 32
      → bit_xor (product (2 ^ 32 + p) 0 q) (product (2 ^ 32 + p) 0 t) ≡ 0
  unfolding Large
  close q t h k lt =
      let g : ℕ = 2 ^ 32 + p in
      let xs : List ℕ = replicate (length t) 0 ++ q in
      let ys : List ℕ = replicate (length q) 0 ++ t in
      let hx = both_bits (replicate (length t) 0) q (zeros_bits (length t)) h in
      let hy = both_bits (replicate (length q) 0) t (zeros_bits (length q)) k in
      let long : length xs ≡ length ys = length-append (replicate (length t) 0) q ∙ ap (λ n. n + length q) (length-replicate (length t) 0) ∙ (omega arith) ∙ sym (length-append (replicate (length q) 0) t ∙ ap (λ n. n + length t) (length-replicate (length q) 0)) in
      let one : bit_xor (product g 0 q) (product g 0 t) ≡ product g 0 (both xs ys) = ap₂ bit_xor (sym (padded g (length t) q)) (sym (padded g (length q) t)) ∙ sums g 0 0 xs ys long hx hy in
      ⊎_elim (λ e. one ∙ e) (λ big. absurd (omega arith)) (large (both xs ys) 0 (bits_both xs ys hx hy) (inl refl))

same : (a b : ℕ) → bit_xor a b ≡ 0 → a ≡ b
same a b e = sym (xor_zero_r a) ∙ ap (bit_xor a) (sym (xor_self b)) ∙ sym (xor_assoc a b b) ∙ ap (λ u. bit_xor u b) e

pub one_remainder : (p m r t : ℕ) → p < 2 ^ 32 → Leaves p m r → Leaves p m t → r ≡ t
one_remainder p m r t hp x y =
    let g : ℕ = 2 ^ 32 + p in
    let a : ℕ = product g 0 x.multiple.0 in
    let b : ℕ = product g 0 y.multiple.0 in
    -- a + b = r + t
    let across : bit_xor a b ≡ bit_xor r t =
    sym (xor_zero_r (bit_xor a b)) ∙ ap (bit_xor (bit_xor a b)) (sym (xor_self m) ∙ ap₂ bit_xor x.multiple.2 y.multiple.2 ∙ medial a r b t)
    ∙ sym (xor_assoc (bit_xor a b) (bit_xor a b) (bit_xor r t)) ∙ ap (λ u. bit_xor u (bit_xor r t)) (xor_self (bit_xor a b)) in
    same r t (sym across ∙ close p hp x.multiple.0 y.multiple.0 x.multiple.1 y.multiple.1 (subst (λ u. u < 2 ^ 32) (sym across) (xor_lt 32 r t x.low y.low)))
