-- The shift register: one turn is linear, and a byte string fed through it gives the remainder of long division.
use Rattle.std.proofs.Common.{◌≡◌, ℕ, zero, suc, ◌+◌, ◌-◌, ◌*◌, ◌/◌, ◌%◌, ◌^◌, ◌<◌, ◌≤◌, ◌≢◌, ◌⊎◌, List, [], ◌∷◌, ◌++◌, replicate, sym, refl, ap, ◌∙◌, subst, ap₂, inl, inr, ⊎_elim, append_assoc, append-nil, add-zero, mod-eq_of_lt, mul_assoc, mul_comm, add-mul, pow-suc, zero-add, zero-mul, one-add, arith}
use native.Mathlib.Nat.{mod-one}
use lib.Bits.{bit_xor, xor_block, xor_assoc, xor_comm, xor_lt, xor_self, xor_zero_r, xor_shifted}
use Rattle.std.proofs.lemmas.Nat.{mod-pow-add, shl_below, mod_below, pow_pos, pow-add}
use Rattle.std.proofs.lemmas.Bool.{cond-true, cond-false, lt-ltb, le-ltb, cases_lt}
use Rattle.std.specs.List.{fold}
use Rattle.terms.specs.Numbers.{Bytes}
use Rattle.safety.specs.Remainder.{bits, bits_of, less, divide, remainder}
use Rattle.safety.specs.Registers.{shifted, turns, fed}

pub less_low : (p t : ℕ) → t < 2 ^ 32 → less p t ≡ t
unfolding less
less_low p t h = cond-true _ _ _ (lt-ltb t (2 ^ 32) h)

pub less_high : (p t : ℕ) → 2 ^ 32 ≤ t → less p t ≡ bit_xor t (2 ^ 32 + p)
unfolding less
less_high p t h = cond-false _ _ _ (le-ltb t (2 ^ 32) h)

pub medial : (x y z w : ℕ) → bit_xor (bit_xor x y) (bit_xor z w) ≡ bit_xor (bit_xor x z) (bit_xor y w)
medial x y z w =
    xor_assoc x y (bit_xor z w) ∙ ap (bit_xor x) (sym (xor_assoc y z w) ∙ ap (λ u. bit_xor u w) (xor_comm y z) ∙ xor_assoc z y w)
    ∙ sym (xor_assoc x z (bit_xor y w))

pub xor_double : (a b : ℕ) → bit_xor (2 * a) (2 * b) ≡ 2 * bit_xor a b
xor_double a b =
    let e = xor_block 1 a b 0 0 (omega arith) (omega arith) in
    ap₂ bit_xor (let q : 2 * a ≡ a * 2 + 0 = omega arith in q) (let q : 2 * b ≡ b * 2 + 0 = omega arith in q) ∙ e
    ∙ (let q : bit_xor a b * 2 + 0 ≡ 2 * bit_xor a b = omega arith in q)

pub cases_two : (t : ℕ) → t < 2 → (t ≡ 0) ⊎ (t ≡ 1)
cases_two zero h = inl refl
cases_two (suc zero) h = inr refl
cases_two (suc (suc t)) h = absurd (omega arith)

-- a turn, by the top bit t and the rest a of the register
split_turn : (p t a : ℕ) → p < 2 ^ 32 → t < 2 → a < 2 ^ 31 → shifted p (t * 2 ^ 31 + a) ≡ bit_xor (2 * a) (t * p)
unfolding shifted
split_turn p t a hp ht ha =
    ⊎_elim
    (λ e. let is : 2 * (t * 2 ^ 31 + a) ≡ 2 * a = omega arith in
    ap (less p) is ∙ less_low p (2 * a) (omega arith) ∙ sym (ap (λ u. bit_xor (2 * a) (u * p)) e ∙ ap (bit_xor (2 * a)) (let z : 0 * p ≡ 0 = omega arith in z) ∙ xor_zero_r (2 * a)))
    (λ e. let is : 2 * (t * 2 ^ 31 + a) ≡ 1 * 2 ^ 32 + 2 * a = omega arith in
    let bs : 2 ^ 32 + p ≡ 1 * 2 ^ 32 + p = omega arith in
    let one : p ≡ t * p = ap (λ u. u) (let z : p ≡ 1 * p = omega arith in z ∙ ap (λ u. u * p) (sym e)) in
    ap (less p) is ∙ less_high p (1 * 2 ^ 32 + 2 * a) (omega arith) ∙ ap (bit_xor (1 * 2 ^ 32 + 2 * a)) bs
    ∙ xor_block 32 1 1 (2 * a) p (omega arith) hp ∙ (let z : bit_xor 1 1 * 2 ^ 32 + bit_xor (2 * a) p ≡ bit_xor (2 * a) p = zero-add _ in z) ∙ ap (bit_xor (2 * a)) one)
    (cases_two t ht)

-- times 0 or 1, bit by bit
pub scale : (p t s : ℕ) → t < 2 → s < 2 → bit_xor (t * p) (s * p) ≡ bit_xor t s * p
scale p zero zero ht hs = simp zero-mul
scale p zero (suc zero) ht hs = simp zero-mul
scale p (suc zero) zero ht hs = simp zero-mul (xor_zero_r (1 * p))
scale p (suc zero) (suc zero) ht hs = simp zero-mul (xor_self (1 * p))
scale p (suc (suc t)) s ht hs = absurd (omega arith)
scale p zero (suc (suc s)) ht hs = absurd (omega arith)
scale p (suc zero) (suc (suc s)) ht hs = absurd (omega arith)

module _ (p : ℕ) (hp : p < 2 ^ 32) where
  top_split : (a : ℕ) → a < 2 ^ 32 → (a / 2 ^ 31 * 2 ^ 31 + a % 2 ^ 31 ≡ a) × (a / 2 ^ 31 < 2) × (a % 2 ^ 31 < 2 ^ 31)
  top_split a h = (omega arith, omega arith, omega arith)

  pub by_top : (a : ℕ) → a < 2 ^ 32 → shifted p a ≡ bit_xor (2 * (a % 2 ^ 31)) (a / 2 ^ 31 * p)
  by_top a h =
      let s = top_split a h in
      ap (shifted p) (sym s.0) ∙ split_turn p (a / 2 ^ 31) (a % 2 ^ 31) hp s.1 s.2

  -- one turn is linear
  pub turn_xor : (a b : ℕ) → a < 2 ^ 32 → b < 2 ^ 32 → shifted p (bit_xor a b) ≡ bit_xor (shifted p a) (shifted p b)
  turn_xor a b ha hb =
      let s = top_split a ha in
      let t = top_split b hb in
      ap (shifted p) (ap₂ bit_xor (sym s.0) (sym t.0) ∙ xor_block 31 (a / 2 ^ 31) (b / 2 ^ 31) (a % 2 ^ 31) (b % 2 ^ 31) s.2 t.2)
      ∙ split_turn p (bit_xor (a / 2 ^ 31) (b / 2 ^ 31)) (bit_xor (a % 2 ^ 31) (b % 2 ^ 31)) hp (xor_lt 1 _ _ s.1 t.1) (xor_lt 31 _ _ s.2 t.2)
      ∙ ap₂ bit_xor (sym (xor_double (a % 2 ^ 31) (b % 2 ^ 31))) (sym (scale p (a / 2 ^ 31) (b / 2 ^ 31) s.1 t.1))
      ∙ medial (2 * (a % 2 ^ 31)) (2 * (b % 2 ^ 31)) (a / 2 ^ 31 * p) (b / 2 ^ 31 * p)
      ∙ sym (ap₂ bit_xor (by_top a ha) (by_top b hb))

  scaled_lt : (t : ℕ) → t < 2 → t * p < 2 ^ 32
  scaled_lt zero h = omega arith
  scaled_lt (suc zero) h = omega arith
  scaled_lt (suc (suc t)) h = absurd (omega arith)

  pub turn_lt : (a : ℕ) → a < 2 ^ 32 → shifted p a < 2 ^ 32
  turn_lt a h =
      let s = top_split a h in
      subst (λ u. u < 2 ^ 32) (sym (by_top a h)) (xor_lt 32 _ _ (omega arith) (scaled_lt (a / 2 ^ 31) s.1))

  pub turns_lt : (n a : ℕ) → a < 2 ^ 32 → turns p n a < 2 ^ 32
  unfolding turns
  turns_lt zero a h = h
  turns_lt (suc n) a h = turns_lt n (shifted p a) (turn_lt a h)

  pub turns_xor : (n a b : ℕ) → a < 2 ^ 32 → b < 2 ^ 32 → turns p n (bit_xor a b) ≡ bit_xor (turns p n a) (turns p n b)
  unfolding turns
  turns_xor zero a b ha hb = refl
  turns_xor (suc n) a b ha hb = ap (turns p n) (turn_xor a b ha hb) ∙ turns_xor n (shifted p a) (shifted p b) (turn_lt a ha) (turn_lt b hb)

  pub turns_last : (n a : ℕ) → turns p n (shifted p a) ≡ shifted p (turns p n a)
  unfolding turns
  turns_last zero a = refl
  turns_last (suc n) a = turns_last n (shifted p a)

  -- a low register only moves up
  pub turn_low : (a : ℕ) → a < 2 ^ 31 → shifted p a ≡ 2 * a
  unfolding shifted
  turn_low a h = less_low p (2 * a) (omega arith)

  shifted_is : (r : ℕ) → less p (2 * r) ≡ shifted p r
  unfolding shifted
  shifted_is r = refl

  -- the next bit brought down is one turn, and the bit
  bring : (r b : ℕ) → r < 2 ^ 32 → b < 2 → less p (2 * r + b) ≡ bit_xor (shifted p r) b
  bring r b hr hb =
      let pos : 2 * r + b ≡ bit_xor (r * 2) b = (let z : 2 * r + b ≡ r * 2 ^ 1 + b = omega arith in z) ∙ sym (xor_shifted r 1 b hb) in
      ⊎_elim
      (λ low. let h : r < 2 ^ 31 = omega arith in
      less_low p _ low ∙ pos ∙ ap (λ u. bit_xor u b) ((let z : r * 2 ≡ 2 * r = omega arith in z) ∙ sym (turn_low r h)))
      (λ high. less_high p _ high ∙ ap (λ u. bit_xor u (2 ^ 32 + p)) pos ∙ xor_assoc (r * 2) b (2 ^ 32 + p) ∙ ap (bit_xor (r * 2)) (xor_comm b (2 ^ 32 + p))
      ∙ sym (xor_assoc (r * 2) (2 ^ 32 + p) b)
      ∙ ap (λ u. bit_xor u b) (ap (λ u. bit_xor u (2 ^ 32 + p)) (let z : r * 2 ≡ 2 * r = omega arith in z) ∙ sym (less_high p (2 * r) (omega arith)) ∙ shifted_is r))
      (cases_lt (2 * r + b) (2 ^ 32))

  -- 32 turns are x^32 times
  zeros : (n r : ℕ) → divide p r (replicate n 0) ≡ turns p n r
  unfolding divide turns shifted
  zeros zero r = refl
  zeros (suc n) r = ap (λ u. divide p (less p u) (replicate n 0)) (add-zero (2 * r)) ∙ zeros n (less p (2 * r))

  divide_append : (r : ℕ) (xs ys : List ℕ) → divide p r (xs ++ ys) ≡ divide p (divide p r xs) ys
  unfolding divide
  divide_append r [] ys = refl
  divide_append r (b ∷ xs) ys = divide_append (less p (2 * r + b)) xs ys

  -- one bit at the top of the register
  walk : ℕ → List ℕ → ℕ
  walk r [] = r
  walk r (b ∷ bs) = walk (shifted p (bit_xor r (b * 2 ^ 31))) bs

  bit_32 : (b : ℕ) → b < 2 → turns p 32 b ≡ shifted p (b * 2 ^ 31)
  unfolding turns shifted less
  bit_32 zero h = refl
  bit_32 (suc zero) h = refl
  bit_32 (suc (suc b)) h = absurd (omega arith)

  pub less_lt : (r b : ℕ) → r < 2 ^ 32 → b < 2 → less p (2 * r + b) < 2 ^ 32
  less_lt r b hr hb = subst (λ u. u < 2 ^ 32) (sym (bring r b hr hb)) (xor_lt 32 _ _ (turn_lt r hr) (omega arith))

  -- bits brought down, and then 32 zeros: each bit at the top of the register
  step_32 : (r b : ℕ) → r < 2 ^ 32 → b < 2 → turns p 32 (less p (2 * r + b)) ≡ shifted p (bit_xor (turns p 32 r) (b * 2 ^ 31))
  step_32 r b hr hb =
      let hb32 : b < 2 ^ 32 = omega arith in
      let hbt : b * 2 ^ 31 < 2 ^ 32 = omega arith in
      ap (turns p 32) (bring r b hr hb) ∙ turns_xor 32 (shifted p r) b (turn_lt r hr) hb32
      ∙ ap₂ bit_xor (turns_last 32 r) (bit_32 b hb) ∙ sym (turn_xor (turns p 32 r) (b * 2 ^ 31) (turns_lt 32 r hr) hbt)

  bit_lt : (v : ℕ) → v % 2 < 2
  bit_lt v = omega arith

  walked : (n v r : ℕ) → r < 2 ^ 32 → turns p 32 (divide p r (bits n v)) ≡ walk (turns p 32 r) (bits n v)
  unfolding divide walk bits
  walked zero v r h = refl
  walked (suc n) v r h =
      walked n v (less p (2 * r + v / 2 ^ n % 2)) (less_lt r _ h (bit_lt (v / 2 ^ n)))
      ∙ ap (λ u. walk u (bits n v)) (step_32 r (v / 2 ^ n % 2) h (bit_lt (v / 2 ^ n)))

  -- n bits one by one are n turns of them all at the top
  at_once : (n m v r : ℕ) → n + m ≡ 32 → r < 2 ^ 32 → walk r (bits n v) ≡ turns p n (bit_xor r (v % 2 ^ n * 2 ^ m))
  unfolding walk bits turns
  at_once zero m v r e h = sym (ap (λ u. bit_xor r (u * 2 ^ m)) (mod-one v) ∙ ap (bit_xor r) (zero-mul (2 ^ m)) ∙ xor_zero_r r)
  at_once (suc n) m v r e h =
      let t : ℕ = v / 2 ^ n % 2 in
      let lo : ℕ = v % 2 ^ n in
      let ht : t < 2 = bit_lt (v / 2 ^ n) in
      let pos = pow_pos n in
      let e' : n + suc m ≡ 32 = omega arith in
      let e31 : n + m ≡ 31 = omega arith in
      let hlo : lo * 2 ^ m < 2 ^ 31 = subst (λ u. lo * 2 ^ m < 2 ^ u) e31 (shl_below lo n m (mod_below v (2 ^ n) pos)) in
      let hw : bit_xor r (t * 2 ^ 31) < 2 ^ 32 = xor_lt 32 _ _ h (omega arith) in
      let whole : v % 2 ^ suc n * 2 ^ m ≡ bit_xor (t * 2 ^ 31) (lo * 2 ^ m) =
      ap (λ u. v % 2 ^ u * 2 ^ m) (sym (one-add n)) ∙ ap (λ u. u * 2 ^ m) (mod-pow-add v 1 n) ∙ add-mul (t * 2 ^ n) lo (2 ^ m)
      ∙ ap (λ u. u + lo * 2 ^ m) (mul_assoc t (2 ^ n) (2 ^ m) ∙ ap (λ u. t * u) (sym (pow-add 2 n m) ∙ ap (λ u. 2 ^ u) e31)) ∙ sym (xor_shifted t 31 (lo * 2 ^ m) hlo) in
      let up : 2 * (lo * 2 ^ m) ≡ lo * 2 ^ suc m = mul_comm 2 (lo * 2 ^ m) ∙ mul_assoc lo (2 ^ m) 2 ∙ ap (λ u. lo * u) (sym (pow-suc 2 m)) in
      at_once n (suc m) v (shifted p (bit_xor r (t * 2 ^ 31))) e' (turn_lt _ hw)
      ∙ sym (ap (turns p n) (ap (shifted p) (ap (bit_xor r) whole ∙ sym (xor_assoc r _ _)) ∙ turn_xor _ _ hw (omega arith) ∙ ap (bit_xor _) (turn_low _ hlo ∙ up)))

  bits_lt : (n v r : ℕ) → r < 2 ^ 32 → divide p r (bits n v) < 2 ^ 32
  unfolding divide bits
  bits_lt zero v r h = h
  bits_lt (suc n) v r h = bits_lt n v (less p (2 * r + v / 2 ^ n % 2)) (less_lt r _ h (bit_lt (v / 2 ^ n)))

  divide_lt : (s : List ℕ) (r : ℕ) → r < 2 ^ 32 → divide p r (bits_of s) < 2 ^ 32
  unfolding bits_of divide
  divide_lt [] r h = h
  divide_lt (b ∷ s) r h = subst (λ u. u < 2 ^ 32) (sym (divide_append r (bits 8 b) (bits_of s))) (divide_lt s (divide p r (bits 8 b)) (bits_lt 8 b r h))

  bits_of_push : (s : List ℕ) (b : ℕ) → bits_of (s ++ b ∷ []) ≡ bits_of s ++ bits 8 b
  unfolding bits_of
  bits_of_push [] b = append-nil (bits 8 b)
  bits_of_push (a ∷ s) b = ap (λ u. bits 8 a ++ u) (bits_of_push s b) ∙ sym (append_assoc (bits 8 a) (bits_of s) (bits 8 b))

  by_turns : (s : List ℕ) → remainder p s ≡ turns p 32 (divide p 0 (bits_of s))
  unfolding remainder
  by_turns s = divide_append 0 (bits_of s) (replicate 32 0) ∙ zeros 32 (divide p 0 (bits_of s))

  -- one byte more is one byte through the register
  pub remainder_push : (s : List ℕ) (b : ℕ) → b < 256 → remainder p (s ++ b ∷ []) ≡ fed p (remainder p s) b
  unfolding fed
  remainder_push s b h =
      let low = divide_lt s 0 (omega arith) in
      by_turns (s ++ b ∷ []) ∙ ap (turns p 32) (ap (divide p 0) (bits_of_push s b) ∙ divide_append 0 (bits_of s) (bits 8 b))
      ∙ walked 8 b (divide p 0 (bits_of s)) low ∙ at_once 8 24 b (turns p 32 (divide p 0 (bits_of s))) refl (turns_lt 32 _ low)
      ∙ ap₂ (λ u v. turns p 8 (bit_xor u (v * 2 ^ 24))) (sym (by_turns s)) (mod-eq_of_lt h)

  pub remainder_nil : remainder p [] ≡ 0
  unfolding remainder divide less bits_of
  remainder_nil = refl

  pub remainder_lt : (s : List ℕ) → remainder p s < 2 ^ 32
  remainder_lt s = subst (λ u. u < 2 ^ 32) (sym (by_turns s)) (turns_lt 32 _ (divide_lt s 0 (omega arith)))

  -- bytes one after another through the register
  pub remainder_fold : (t s : List ℕ) → Bytes t → fold (fed p) (remainder p s) t ≡ remainder p (s ++ t)
  remainder_fold [] s h = ap (remainder p) (sym (append-nil s))
  remainder_fold (b ∷ t) s h =
      ap (λ r. fold (fed p) r t) (sym (remainder_push s b h.0)) ∙ remainder_fold t (s ++ b ∷ []) h.1 ∙ ap (remainder p) (append_assoc s (b ∷ []) t)

  -- the two ways of the code
  pub turn_high : (a : ℕ) → a < 2 ^ 32 → a / 2 ^ 31 ≡ 1 → bit_xor (a * 2 % 2 ^ 32) p ≡ shifted p a
  turn_high a h e =
      let up : a * 2 % 2 ^ 32 ≡ 2 * (a % 2 ^ 31) = omega arith in
      let one : p ≡ 1 * p = omega arith in
      ap₂ bit_xor up (one ∙ ap (λ u. u * p) (sym e)) ∙ sym (by_top a h)

  pub turn_plain : (a : ℕ) → a < 2 ^ 32 → a / 2 ^ 31 ≢ 1 → a * 2 % 2 ^ 32 ≡ shifted p a
  turn_plain a h ne = let low : a < 2 ^ 31 = omega arith in let up : a * 2 % 2 ^ 32 ≡ 2 * a = omega arith in up ∙ sym (turn_low a low)
