-- A value that is written reads back, and a value that is read is written as it stood.
use Rattle.std.proofs.Common.{◌≡◌, ℕ, ◌+◌, ◌^◌, ◌<◌, true, false, cond, eqb, List, [], ◌∷◌, length, get_or, Ok, decimal, sym, refl, ap, ◌∙◌, subst, ⊎_elim, arith, rules}
use Rattle.std.proofs.lemmas.Fmt.{decimal-digits_value, digits_decimal, digits_value-decimal, decimal_nonempty, decimal_digit, first_decimal}
use Rattle.std.proofs.lemmas.Str.Parse.{IsNumeralModel, numerals_by_fold}
use Rattle.std.proofs.lemmas.Bool.{cond-true, and_parts, and_from, leb-true, le-leb, cases_lt, ne_eqb, not_from_false}
use Rattle.std.proofs.lemmas.Bool.Decides.{nat_tests}
use Rattle.texts.specs.declared.numbers.Range.{Range}
use Rattle.texts.specs.Numbers.{Within, ranged, digits, proper, is_number, value_of, read_number}
use Rattle.texts.specs.Pieces.{count_of}

own : IsNumeralModel (λ s. digits s ≡ true) (value_of 0)
own = numerals_by_fold _ (search rules) value_of (search rules)

proper_some : (s : List ℕ) → proper s ≡ true → (0 < length s) × (get_or s 0 0 ≡ 48 → length s ≡ 1)
proper_some s h = (grind (arith, nat_tests), λ e. grind (arith, nat_tests))

proper_from : (s : List ℕ) → 0 < length s → (get_or s 0 0 ≡ 48 → length s ≡ 1) → proper s ≡ true
proper_from s h k =
    ⊎_elim
    (λ one. grind (arith, nat_tests))
    (λ more. cond-true _ _ _ (le-leb 2 (length s) more) ∙ not_from_false _ (ne_eqb (get_or s 0 0) 48 (λ e. let z : length s ≡ 1 = k e in omega arith)))
    (cases_lt (length s) 2)

-- what a reading of a number says
pub number_parts : (r : Range) (s : List ℕ) (n : ℕ) → read_number r s ≡ Ok n → (is_number s ≡ true) × (value_of 0 s ≡ n) × Within r n
number_parts r s n e = grind (arith, nat_tests)

pub number_back : (r : Range) (s : List ℕ) (n : ℕ) → r.high < 2 ^ 64 → read_number r s ≡ Ok n → decimal n ≡ s
number_back r s n h e =
    let p = number_parts r s n e in
    let d = and_parts (digits s) (proper s) p.0 in
    let q = proper_some s d.1 in
    let small : value_of 0 s < 2 ^ 64 = omega arith in
    subst (λ v. decimal v ≡ s) p.1 (decimal-digits_value own s d.0 q.0 q.1 small)

decimal_proper : (n : ℕ) → n < 2 ^ 64 → proper (decimal n) ≡ true
decimal_proper n h =
    ⊎_elim
    (λ low. subst (λ s. proper s ≡ true) (sym (decimal_digit n low)) refl)
    (λ high. let f = first_decimal n (omega arith) h in proper_from (decimal n) (decimal_nonempty n h) (λ e. absurd (omega arith)))
    (cases_lt n 10)

pub number_reads : (r : Range) (n : ℕ) → n < 2 ^ 64 → Within r n → read_number r (decimal n) ≡ Ok n
number_reads r n h w =
    cond-true _ _ _ (and_from _ _ (digits_decimal own n h) (decimal_proper n h))
    ∙ ap (ranged r) (digits_value-decimal own n h)
    ∙ cond-true _ _ _ (and_from _ _ (le-leb _ _ w.0) (le-leb _ _ w.1))

-- no byte below 48 stands among digits
digits_free : (c : ℕ) → c < 48 → (s : List ℕ) → digits s ≡ true → count_of c s ≡ 0
digits_free c h [] e = refl
digits_free c h (b ∷ s) e =
    let p = and_parts _ _ e in
    let q = leb-true 48 b (and_parts _ _ p.0).0 in
    let r = digits_free c h s p.1 in
    let z : eqb b c ≡ false = ne_eqb b c (λ i. omega arith) in
    ap (λ t. cond t 1 0 + count_of c s) z ∙ omega arith

pub decimal_free : (c : ℕ) → c < 48 → (n : ℕ) → n < 2 ^ 64 → count_of c (decimal n) ≡ 0
decimal_free c h n k = digits_free c h (decimal n) (digits_decimal own n k)
