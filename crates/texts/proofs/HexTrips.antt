-- Hexadecimal digits and numbers below zero: written and read back, read and written again.
use Rattle.std.proofs.Common.{◌≡◌, ℕ, zero, suc, ◌+◌, ◌-◌, ◌*◌, ◌/◌, ◌%◌, ◌^◌, ◌<◌, ◌≤◌, Bool, true, false, cond, eqb, ◌≢◌, List, [], ◌∷◌, ◌++◌, replicate, length, get_or, drop, ℤ, pos, negsuc, neg_ℤ, ◌≤ℤ◌, Ok, Err, decimal, Result, sym, refl, ap, ◌∙◌, subst, mod-lt, pow-suc, div-add-mod', div-one, append-nil, length-append, arith}
use native.Mathlib.Numerals.{unary_clauses}
use native.Mathlib.Nat.{div-div-eq-div-mul, div-eq_of_lt}
use Rattle.std.proofs.lemmas.Int.{ints}
use Rattle.std.proofs.lemmas.List.{length-replicate}
use Rattle.std.proofs.lemmas.Bool.{ne_eqb, eqb-true, eqb-false}
use Rattle.std.proofs.lemmas.Bool.Decides.{nat_tests}
use Rattle.std.specs.Fmt.{signed_decimal, digit_glyph, digits_onto, digits, format_spec, padded_integral, char_count}
use Rattle.terms.specs.Outcomes.{then}
use Rattle.texts.specs.declared.fault.Fault.{Fault}
use Rattle.texts.specs.declared.fault.Fault.TheVariants.{WrongForm, OutOfRange}
use Rattle.texts.specs.declared.numbers.Range.{Range}
use Rattle.texts.specs.Numbers.{Within, is_number, read_number, read_digit, hex_on, read_hex, read_below}
use Rattle.texts.specs.Pieces.{count_of}
use Rattle.texts.specs.Writing.{hex_char, hex_digits, hex_text}
use Rattle.texts.proofs.Digits.{number_in}
use Rattle.texts.proofs.Trips.{number_back, number_reads, decimal_free}

-- where one answer after another is Ok, the first was
pub then_parts : {T U E : Type 0} (r : Result T E) (f : T → Result U E) (y : U) → then r f ≡ Ok y → (x : T) × (r ≡ Ok x) × (f x ≡ Ok y)
then_parts (Ok x) f y e = (x, refl, e)
then_parts (Err w) f y e = absurd (grind arith)

pub then_at : {T U E : Type 0} {r : Result T E} {x : T} (f : T → Result U E) → r ≡ Ok x → then r f ≡ f x
then_at f e = ap (λ q. then q f) e

digit_back : (b d : ℕ) → read_digit b ≡ Ok d → (d < 16) × (hex_char d ≡ b)
digit_back b d e = (grind (arith, nat_tests), grind (arith, nat_tests))

digit_reads : (d : ℕ) → d < 16 → read_digit (hex_char d) ≡ Ok d
digit_reads d h = grind (arith, nat_tests)

one_up : (n k : ℕ) → n / 16 ^ suc k ≡ n / 16 ^ k / 16
one_up n k = ap (λ m. n / m) (pow-suc 16 k) ∙ sym (div-div-eq-div-mul n (16 ^ k) 16)

hex_on_back : (s : List ℕ) (v n : ℕ) → hex_on v s ≡ Ok n → (hex_digits (length s) n ≡ s) × (n / 16 ^ length s ≡ v)
hex_on_back [] v n e = let i : v ≡ n = grind arith in (refl, div-one n ∙ sym i)
hex_on_back (b ∷ s) v n e =
    let p = then_parts (read_digit b) (λ d. hex_on (v * 16 + d) s) n e in
    let d = p.0 in
    let q = digit_back b d p.1 in
    let r = hex_on_back s (v * 16 + d) n p.2 in
    let m : n / 16 ^ length s % 16 ≡ d = omega arith in
    let u : n / 16 ^ length s / 16 ≡ v = omega arith in
    (ap (λ x. hex_char x ∷ hex_digits (length s) n) m ∙ ap (λ x. x ∷ hex_digits (length s) n) q.1 ∙ ap (λ l. b ∷ l) r.0, one_up n (length s) ∙ u)

pub hex_back : (s : List ℕ) (n : ℕ) → read_hex s ≡ Ok n → hex_text n ≡ s
hex_back s n e =
    let l : length s ≡ 8 = grind (arith, nat_tests) in
    let h : hex_on 0 s ≡ Ok n = grind (arith, nat_tests) in
    subst (λ k. hex_digits k n ≡ s) l (hex_on_back s 0 n h).0

hex_on_reads : (k n : ℕ) → hex_on (n / 16 ^ k) (hex_digits k n) ≡ Ok n
hex_on_reads zero n = ap (λ m. Ok m) (div-one n)
hex_on_reads (suc k) n =
    let d = n / 16 ^ k % 16 in
    let e : n / 16 ^ suc k * 16 + d ≡ n / 16 ^ k = ap (λ m. m * 16 + d) (one_up n k) ∙ div-add-mod' (n / 16 ^ k) 16 in
    then_at (λ x. hex_on (n / 16 ^ suc k * 16 + x) (hex_digits k n)) (digit_reads d (mod-lt (n / 16 ^ k) {m = 16} (omega arith)))
    ∙ ap (λ m. hex_on m (hex_digits k n)) e ∙ hex_on_reads k n

pub hex_reads : (n : ℕ) → n < 2 ^ 32 → read_hex (hex_text n) ≡ Ok n
hex_reads n h =
    let z : n / 16 ^ 8 ≡ 0 = div-eq_of_lt {n = n} {m = 16 ^ 8} h in
    subst (λ m. hex_on m (hex_digits 8 n) ≡ Ok n) z (hex_on_reads 8 n)

-- what the library shows as hexadecimal digits reads as the number, and zeros in front change nothing
glyph_reads : (d : ℕ) → d < 16 → read_digit (digit_glyph true d) ≡ Ok d
glyph_reads d h = grind (arith, nat_tests)

glyph_on : (v d : ℕ) (s : List ℕ) → d < 16 → hex_on v (digit_glyph true d ∷ s) ≡ hex_on (v * 16 + d) s
glyph_on v d s h = then_at (λ x. hex_on (v * 16 + x) s) (glyph_reads d h)

shown_reads : (k n : ℕ) (s : List ℕ) → n < 16 ^ k → hex_on 0 (digits_onto k 16 true n s) ≡ hex_on n s
shown_reads zero n s h = ap (λ v. hex_on v s) (let z : 0 ≡ n = omega arith in z)
shown_reads (suc k) n s h =
    let low = mod-lt n {m = 16} (omega arith) in
    let small : n < 16 ^ k * 16 = subst (λ m. n < m) (pow-suc 16 k) h in
    (elim (eqb (n / 16) 0) as (λ t. eqb (n / 16) 0 ≡ t → hex_on 0 (cond t (digit_glyph true (n % 16) ∷ s) (digits_onto k 16 true (n / 16) (digit_glyph true (n % 16) ∷ s))) ≡ hex_on n s) [
      | true ↦ λ e. glyph_on 0 (n % 16) s low ∙ ap (λ v. hex_on v s) (let z : 0 * 16 + n % 16 ≡ n = omega (arith, eqb-true _ _ e) in z)
      | false ↦ λ e. shown_reads k (n / 16) (digit_glyph true (n % 16) ∷ s) (omega arith) ∙ glyph_on (n / 16) (n % 16) s low
          ∙ ap (λ v. hex_on v s) (let z : n / 16 * 16 + n % 16 ≡ n = omega arith in z)
    ]) refl

shown_shorter : (k j n : ℕ) (s : List ℕ) → n < 16 ^ j * 16 → n / 16 ≢ 0 → (0 < j → n / 16 < 16 ^ j → length (digits_onto k 16 true (n / 16) (digit_glyph true (n % 16) ∷ s)) ≤ j + suc (length s))
    → length (digits_onto k 16 true (n / 16) (digit_glyph true (n % 16) ∷ s)) ≤ suc j + length s
shown_shorter k zero n s h z f = absurd (omega arith)
shown_shorter k (suc j) n s h z f = let i = f (omega arith) (omega arith) in omega arith

shown_short : (k j n : ℕ) (s : List ℕ) → 0 < j → n < 16 ^ j → length (digits_onto k 16 true n s) ≤ j + length s
shown_short zero j n s p h = omega arith
shown_short (suc k) zero n s p h = absurd (omega arith)
shown_short (suc k) (suc j) n s p h =
    let small : n < 16 ^ j * 16 = subst (λ m. n < m) (pow-suc 16 j) h in
    (elim (eqb (n / 16) 0) as (λ t. eqb (n / 16) 0 ≡ t → length (cond t (digit_glyph true (n % 16) ∷ s) (digits_onto k 16 true (n / 16) (digit_glyph true (n % 16) ∷ s))) ≤ suc j + length s) [
      | true ↦ λ e. omega arith
      | false ↦ λ e. shown_shorter k j n s small (eqb-false _ _ e) (shown_short k j (n / 16) (digit_glyph true (n % 16) ∷ s))
    ]) refl

zeros_read : (m : ℕ) (s : List ℕ) → hex_on 0 (replicate m 48 ++ s) ≡ hex_on 0 s
zeros_read zero s = refl
zeros_read (suc m) s = zeros_read m s

zero_padded : (s : List ℕ) → padded_integral (format_spec 32 0 4 8 (2 ^ 64 - 1)) false [] s ≡ replicate (8 - length s) 48 ++ s
unfolding padded_integral char_count
zero_padded s = simp unary_clauses (rw (append-nil s))

digits_read : (n : ℕ) → n < 2 ^ 32 → (hex_on 0 (digits 16 true n) ≡ Ok n) × (length (digits 16 true n) ≤ 8)
unfolding digits
digits_read n h = (shown_reads 64 n [] (omega arith), shown_short 64 8 n [] (omega arith) (omega arith))

-- so eight digits with zeros in front are the number's text
pub hex_shown : (n : ℕ) → n < 2 ^ 32 → padded_integral (format_spec 32 0 4 8 (2 ^ 64 - 1)) false [] (digits 16 true n) ≡ hex_text n
hex_shown n h =
    let s = digits 16 true n in
    let d = digits_read n h in
    let t = replicate (8 - length s) 48 ++ s in
    let long : length t ≡ 8 = length-append (replicate (8 - length s) 48) s ∙ omega (arith, length-replicate {A = ℕ} (8 - length s) 48, d.1) in
    zero_padded s ∙ sym (subst (λ k. hex_digits k n ≡ t) long (hex_on_back t 0 n (zeros_read (8 - length s) s ∙ d.0)).0)

hex_digits_free : (c : ℕ) → c < 48 → (k n : ℕ) → count_of c (hex_digits k n) ≡ 0
hex_digits_free c h zero n = refl
hex_digits_free c h (suc k) n =
    let d = n / 16 ^ k % 16 in
    let z : eqb (hex_char d) c ≡ false = ne_eqb (hex_char d) c (λ e. grind (arith, nat_tests)) in
    ap (λ t. cond t 1 0 + count_of c (hex_digits k n)) z ∙ omega (arith, hex_digits_free c h k n)

pub hex_free : (c : ℕ) → c < 48 → (n : ℕ) → count_of c (hex_text n) ≡ 0
hex_free c h n = hex_digits_free c h 8 n

-- numbers below zero
minus_first : (s : List ℕ) → get_or s 0 0 ≡ 45 → s ≡ 45 ∷ drop 1 s
minus_first [] e = absurd (omega arith)
minus_first (b ∷ s) e = ap (λ x. x ∷ s) e

signed_parts : (b c : Bool) (x : Result ℤ Fault) (z : ℤ) → cond b x (cond c (Err OutOfRange) (Err WrongForm)) ≡ Ok z → (b ≡ true) × (x ≡ Ok z)
signed_parts true c x z e = (refl, e)
signed_parts false true x z e = absurd (grind arith)
signed_parts false false x z e = absurd (grind arith)

below_parts : (r : Range) (s : List ℕ) (z : ℤ) → read_below r s ≡ Ok z → (get_or s 0 0 ≡ 45) × (then (read_number r (drop 1 s)) (λ n. Ok (neg_ℤ (pos n))) ≡ Ok z)
below_parts r s z e =
    let p = signed_parts (eqb (get_or s 0 0) 45) (is_number s) (then (read_number r (drop 1 s)) (λ n. Ok (neg_ℤ (pos n)))) z e in
    (eqb-true _ _ p.0, p.1)

negated : (n : ℕ) → 1 ≤ n → signed_decimal (neg_ℤ (pos n)) ≡ 45 ∷ decimal n
negated zero h = absurd (omega arith)
negated (suc n) h = refl

pub below_back : (r : Range) (s : List ℕ) (z : ℤ) → r.high < 2 ^ 64 → 1 ≤ r.low → read_below r s ≡ Ok z → signed_decimal z ≡ s
below_back r s z h low e =
    let p = below_parts r s z e in
    let q = then_parts (read_number r (drop 1 s)) (λ n. Ok (neg_ℤ (pos n))) z p.1 in
    let n = q.0 in
    let w = number_in (drop 1 s) r n q.1 in
    let i : neg_ℤ (pos n) ≡ z = grind arith in
    subst (λ y. signed_decimal y ≡ s) i (negated n (omega arith) ∙ ap (λ t. 45 ∷ t) (number_back r (drop 1 s) n h q.1) ∙ sym (minus_first s p.0))

-- a number below zero that was read lies in its range
negated_in : (r : Range) (n : ℕ) → Within r n → (neg_ℤ (pos r.high) ≤ℤ neg_ℤ (pos n)) × (neg_ℤ (pos n) ≤ℤ neg_ℤ (pos r.low))
negated_in r n w = (omega (arith, ints), omega (arith, ints))

pub below_kept_in : (r : Range) (s : List ℕ) (z : ℤ) → read_below r s ≡ Ok z → (neg_ℤ (pos r.high) ≤ℤ z) × (z ≤ℤ neg_ℤ (pos r.low))
below_kept_in r s z e =
    let q = then_parts (read_number r (drop 1 s)) (λ n. Ok (neg_ℤ (pos n))) z (below_parts r s z e).1 in
    let i : neg_ℤ (pos q.0) ≡ z = grind arith in
    subst (λ y. (neg_ℤ (pos r.high) ≤ℤ y) × (y ≤ℤ neg_ℤ (pos r.low))) i (negated_in r q.0 (number_in (drop 1 s) r q.0 q.1))

pub below_reads : (r : Range) (j : ℕ) → j < 2 ^ 63 → Within r (suc j) → read_below r (signed_decimal (negsuc j)) ≡ Ok (negsuc j)
below_reads r j h w = then_at (λ n. Ok (neg_ℤ (pos n))) (number_reads r (suc j) (omega arith) w)

pub below_free : (c : ℕ) → c < 45 → (j : ℕ) → j < 2 ^ 63 → count_of c (signed_decimal (negsuc j)) ≡ 0
below_free c h j k =
    let z : eqb 45 c ≡ false = ne_eqb 45 c (λ e. omega arith) in
    ap (λ t. cond t 1 0 + count_of c (decimal (suc j))) z ∙ omega (arith, decimal_free c (omega arith) (suc j) (omega arith))
