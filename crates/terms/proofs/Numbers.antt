-- Big endian numbers: written and read again is the same, and read and written again.
use Rattle.std.proofs.Common.{◌≡◌, ℕ, zero, suc, ◌+◌, ◌*◌, ◌/◌, ◌%◌, ◌^◌, ◌<◌, ◌≤◌, List, [], ◌∷◌, length, get_or, take, drop, sym, refl, ap, ◌∙◌, subst, ap₂, add-zero, add_assoc, mod-eq_of_lt, mul_assoc, mul_comm, add-mul, pow-suc, mul-one, div-one, arith, drop-cons}
use native.Mathlib.Nat.{mod-one}
use lib.Arith.{mod-mul, digits_lt}
use Rattle.std.proofs.lemmas.Nat.{div-mul-add, mod-mul-add}
use Rattle.std.proofs.lemmas.List.{take_all}
use Rattle.terms.specs.Numbers.{number, bytes, Bytes}

pub length_bytes : (n v : ℕ) → length (bytes n v) ≡ n
length_bytes zero v = refl
length_bytes (suc n) v = ap suc (length_bytes n v)

pos256 : (n : ℕ) → 0 < 256 ^ n
pos256 zero = omega arith
pos256 (suc n) = subst (λ u. 0 < u) (sym (pow-suc 256 n)) (let h = pos256 n in omega arith)

number_bytes : (n v a : ℕ) → number a (bytes n v) ≡ a * 256 ^ n + v % 256 ^ n
unfolding number
number_bytes zero v a = sym (ap (λ u. a * 1 + u) (mod-one v) ∙ add-zero (a * 1) ∙ mul-one a)
number_bytes (suc n) v a =
    number_bytes n v (a * 256 + v / 256 ^ n % 256)
    ∙ ap (λ u. u + v % 256 ^ n) (add-mul (a * 256) (v / 256 ^ n % 256) (256 ^ n) ∙ ap (λ u. u + v / 256 ^ n % 256 * 256 ^ n) (mul_assoc a 256 (256 ^ n)))
    ∙ add_assoc (a * (256 * 256 ^ n)) (v / 256 ^ n % 256 * 256 ^ n) (v % 256 ^ n)
    ∙ ap₂ (λ x y. a * x + y) (mul_comm 256 (256 ^ n) ∙ sym (pow-suc 256 n)) (sym (ap (λ u. v % u) (pow-suc 256 n ∙ mul_comm (256 ^ n) 256) ∙ mod-mul v {m = 256} {c = 256 ^ n} (omega arith) (pos256 n)))

-- n bytes written of a number that fits them are read as that number
pub number_back : (n v : ℕ) → v < 256 ^ n → number 0 (bytes n v) ≡ v
number_back n v h = number_bytes n v 0 ∙ (let z : 0 * 256 ^ n + v % 256 ^ n ≡ v % 256 ^ n = omega arith in z) ∙ mod-eq_of_lt h

number_split : (s : List ℕ) (a : ℕ) → number a s ≡ a * 256 ^ length s + number 0 s
unfolding number
number_split [] a = sym (add-zero (a * 1) ∙ mul-one a)
number_split (b ∷ s) a =
    number_split s (a * 256 + b)
    ∙ ap (λ u. u + number 0 s) (add-mul (a * 256) b (256 ^ length s) ∙ ap (λ u. u + b * 256 ^ length s) (mul_assoc a 256 (256 ^ length s)))
    ∙ add_assoc (a * (256 * 256 ^ length s)) (b * 256 ^ length s) (number 0 s)
    ∙ ap₂ (λ x y. a * x + y) (mul_comm 256 (256 ^ length s) ∙ sym (pow-suc 256 (length s))) (sym (ap (λ u. number u s) (let z : 0 * 256 + b ≡ b = omega arith in z) ∙ number_split s b))

pub number_lt : (s : List ℕ) → Bytes s → number 0 s < 256 ^ length s
unfolding number
number_lt [] h = omega arith
number_lt (b ∷ s) h =
    subst (λ u. u < 256 ^ suc (length s)) (sym (ap (λ u. number u s) (let z : 0 * 256 + b ≡ b = omega arith in z) ∙ number_split s b))
    (subst (λ u. b * 256 ^ length s + number 0 s < u) (mul_comm 256 (256 ^ length s) ∙ sym (pow-suc 256 (length s))) (digits_lt h.0 (number_lt s h.1)))

bytes_number : (s : List ℕ) (a : ℕ) → Bytes s → bytes (length s) (number a s) ≡ s
unfolding number
bytes_number [] a h = refl
bytes_number (b ∷ s) a h =
    let low = number_lt s h.1 in
    ap₂ (λ x xs. x ∷ xs)
    (ap (λ u. u / 256 ^ length s % 256) (number_split s (a * 256 + b)) ∙ ap (λ u. u % 256) (div-mul-add (a * 256 + b) (256 ^ length s) (number 0 s) low) ∙ mod-mul-add a 256 b h.0)
    (bytes_number s (a * 256 + b) h.1)

-- n bytes are the writing of the number that they stand for
pub bytes_back : (n : ℕ) (s : List ℕ) → Bytes s → length s ≡ n → bytes n (number 0 s) ≡ s
bytes_back n s h e = ap (λ k. bytes k (number 0 s)) (sym e) ∙ bytes_number s 0 h

pub Bytes-drop : (n : ℕ) (s : List ℕ) → Bytes s → Bytes (drop n s)
Bytes-drop zero s h = h
Bytes-drop (suc n) [] h = tt
Bytes-drop (suc n) (b ∷ s) h = Bytes-drop n s h.1

pub Bytes-take : (n : ℕ) (s : List ℕ) → Bytes s → Bytes (take n s)
Bytes-take zero s h = tt
Bytes-take (suc n) [] h = tt
Bytes-take (suc n) (b ∷ s) h = (h.0, Bytes-take n s h.1)

-- the elements of a slice of bytes are bytes
pub Bytes-all : (s : List ℕ) → ((i : ℕ) → i < length s → get_or s i 0 < 256) → Bytes s
Bytes-all [] h = tt
Bytes-all (b ∷ s) h = (h 0 (omega arith), Bytes-all s (λ i k. h (suc i) (omega arith)))

-- n elements of s from index k on, one by one
unfoldable pub spell : ℕ → ℕ → List ℕ → List ℕ
spell zero k s = []
spell (suc n) k s = get_or s k 0 ∷ spell n (suc k) s

-- the same as a part of s
pub spell_take : (n k : ℕ) (s : List ℕ) → k + n ≤ length s → spell n k s ≡ take n (drop k s)
unfolding spell
spell_take zero k s h = refl
spell_take (suc n) k s h =
    ap (λ l. get_or s k 0 ∷ l) (spell_take n (suc k) s (omega arith)) ∙ sym (ap (take (suc n)) (drop-cons s k 0 (omega arith)))

-- a string of n elements, spelled out
pub spelled : (n : ℕ) (s : List ℕ) → length s ≡ n → spell n 0 s ≡ s
spelled n s e = spell_take n 0 s (omega arith) ∙ take_all n s (omega arith)

-- what `to_be_bytes` gives at 64 bits
pub big_endian : (v : ℕ)
    → (v / 72057594037927936 % 256) ∷ (v / 281474976710656 % 256) ∷ (v / 1099511627776 % 256) ∷ (v / 4294967296 % 256) ∷ (v / 16777216 % 256) ∷ (v / 65536 % 256) ∷ (v / 256 % 256) ∷ (v % 256) ∷ []
    ≡ bytes 8 v
big_endian v = simp div-one
