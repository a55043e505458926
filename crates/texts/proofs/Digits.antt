-- Laws of the values of a line, as the loops and calls use them.
use Rattle.std.proofs.Common.{◌≡◌, ℕ, ◌+◌, ◌-◌, ◌*◌, ◌^◌, ◌<◌, ◌≤◌, min, ◌&&◌, List, [], ◌∷◌, length, Ok, Err, Result, slice_index, ◌==◌, cond, sym, refl, ap, ◌∙◌, arith}
use Rattle.std.proofs.lemmas.List.Recursion.{same_from_clauses}
use Rattle.std.specs.Char.{is_ascii_digit, is_ascii_graphic}
use Rattle.std.specs.List.{list_all, fold}
use Rattle.texts.specs.Words.{printable}
use Rattle.std.proofs.lemmas.Bool.{cond-false, ne_eqb}
use Rattle.std.proofs.lemmas.Bool.Decides.{nat_tests}
use Rattle.terms.specs.Outcomes.{then}
use Rattle.texts.specs.declared.fault.Fault.{Fault}
use Rattle.texts.specs.declared.fault.Fault.TheVariants.{WrongForm}
use Rattle.texts.specs.declared.numbers.Range.{Range}
use Rattle.texts.specs.Numbers.{digits, value_of, read_number, read_digit, read_byte, read_hex}

pub digits_law : (s : List ℕ) → list_all is_ascii_digit s ≡ digits s
digits_law = same_from_clauses (list_all is_ascii_digit) digits (λ b r. is_ascii_digit b && r) refl (λ _ _. refl) (λ _ _. refl)

pub printable_law : (s : List ℕ) → list_all is_ascii_graphic s ≡ printable s
printable_law = same_from_clauses (list_all is_ascii_graphic) printable (λ b r. is_ascii_graphic b && r) refl (λ _ _. refl) (λ _ _. refl)

-- one more digit, in 64 bits
abbrev pub saturated : ℕ → ℕ → ℕ
saturated n b = min (min (n * 10) (2 ^ 64 - 1) + (b - 48)) (2 ^ 64 - 1)

one_more : (v b : ℕ) → saturated (min v (2 ^ 64 - 1)) b ≡ min (v * 10 + (b - 48)) (2 ^ 64 - 1)
one_more v b = omega arith

value_on : (s : List ℕ) (v : ℕ) → fold saturated (min v (2 ^ 64 - 1)) s ≡ min (value_of v s) (2 ^ 64 - 1)
value_on [] v = refl
value_on (b ∷ s) v = ap (λ n. fold saturated n s) (one_more v b) ∙ value_on s (v * 10 + (b - 48))

pub value_law : (s : List ℕ) → fold saturated 0 s ≡ min (value_of 0 s) (2 ^ 64 - 1)
value_law s = value_on s 0

pub number_in : (s : List ℕ) (r : Range) (n : ℕ) → read_number r s ≡ Ok n → (r.low ≤ n) × (n ≤ r.high)
number_in s r n e = grind (arith, nat_tests)

-- hexadecimal digits: two are a byte, and four bytes a number
abbrev pub byte_of : Result ℕ Fault → Result ℕ Fault → Result ℕ Fault
byte_of a b = then a (λ h. then b (λ l. Ok (h * 16 + l)))

abbrev pub word_of : Result ℕ Fault → Result ℕ Fault → Result ℕ Fault → Result ℕ Fault → Result ℕ Fault
word_of p q r s = then p (λ w. then q (λ x. then r (λ y. then s (λ z. Ok (w * 2 ^ 24 + x * 2 ^ 16 + y * 2 ^ 8 + z)))))

abbrev pub word_at : List ℕ → Result ℕ Fault
word_at s =
    cond (length s == 8)
    (word_of (read_byte (slice_index s 0) (slice_index s 1)) (read_byte (slice_index s 2) (slice_index s 3))
    (read_byte (slice_index s 4) (slice_index s 5)) (read_byte (slice_index s 6) (slice_index s 7)))
    (Err WrongForm)

same_word : (a b c d e f g h : Result ℕ Fault) → word_of (byte_of a b) (byte_of c d) (byte_of e f) (byte_of g h) ≡ then a (λ d0. then b (λ d1. then c (λ d2. then d (λ d3. then e (λ d4. then f (λ d5. then g (λ d6. then h (λ d7. Ok ((((((((0 * 16 + d0) * 16 + d1) * 16 + d2) * 16 + d3) * 16 + d4) * 16 + d5) * 16 + d6) * 16 + d7)))))))))
same_word (Err w) b c d e f g h = refl
same_word (Ok a) (Err w) c d e f g h = refl
same_word (Ok a) (Ok b) (Err w) d e f g h = refl
same_word (Ok a) (Ok b) (Ok c) (Err w) e f g h = refl
same_word (Ok a) (Ok b) (Ok c) (Ok d) (Err w) f g h = refl
same_word (Ok a) (Ok b) (Ok c) (Ok d) (Ok e) (Err w) g h = refl
same_word (Ok a) (Ok b) (Ok c) (Ok d) (Ok e) (Ok f) (Err w) h = refl
same_word (Ok a) (Ok b) (Ok c) (Ok d) (Ok e) (Ok f) (Ok g) (Err w) = refl
same_word (Ok a) (Ok b) (Ok c) (Ok d) (Ok e) (Ok f) (Ok g) (Ok h) = ap (λ n. Ok n) (omega arith)

pub by_bytes : (s : List ℕ) → read_hex s ≡ word_at s
by_bytes [] = refl
by_bytes (a ∷ []) = refl
by_bytes (a ∷ b ∷ []) = refl
by_bytes (a ∷ b ∷ c ∷ []) = refl
by_bytes (a ∷ b ∷ c ∷ d ∷ []) = refl
by_bytes (a ∷ b ∷ c ∷ d ∷ e ∷ []) = refl
by_bytes (a ∷ b ∷ c ∷ d ∷ e ∷ f ∷ []) = refl
by_bytes (a ∷ b ∷ c ∷ d ∷ e ∷ f ∷ g ∷ []) = refl
by_bytes (a ∷ b ∷ c ∷ d ∷ e ∷ f ∷ g ∷ h ∷ []) = sym (same_word (read_digit a) (read_digit b) (read_digit c) (read_digit d) (read_digit e) (read_digit f) (read_digit g) (read_digit h))
by_bytes (a ∷ b ∷ c ∷ d ∷ e ∷ f ∷ g ∷ h ∷ i ∷ s) =
    let long = ne_eqb (length (a ∷ b ∷ c ∷ d ∷ e ∷ f ∷ g ∷ h ∷ i ∷ s)) 8 (λ q. omega arith) in
    cond-false _ _ _ long ∙ sym (cond-false _ _ _ long)
