-- Laws of cutting a text, as the library's calls find the places.
use Rattle.std.proofs.Common.{◌≡◌, ℕ, zero, suc, ◌+◌, ◌-◌, ◌%◌, ◌^◌, ◌≤◌, ◌<◌, Bool, true, false, not, cond, eqb, nat_lt, List, [], ◌∷◌, length, get_or, take, drop, Some, None, Option, sym, refl, ap, ◌∙◌, add-zero, zero-add, add_assoc, arith}
use Rattle.std.proofs.lemmas.List.{drop_all, take_all, take_rest}
use Rattle.std.proofs.lemmas.List.Recursion.{is_count_by}
use Rattle.std.proofs.lemmas.Bool.Decides.{nat_tests}
use Rattle.std.specs.List.{position_or_len, position, count_by, fold, slice_get, slice_split, onto_first}
use Rattle.std.specs.Option.{option_map, unwrap_or}
use denote.Ref.{Bor}
use Rattle.texts.specs.Pieces.{before, after, count_of, value_at}

module _ (c : ℕ) where
  -- the first c stands where the library finds it
  place_is : (s : List ℕ) → position_or_len (λ b. eqb b c) s ≡ length (before c s)
  place_is [] = refl
  place_is (b ∷ s) =
      elim (eqb b c) as (λ t. cond (not t) (1 + position_or_len (λ x. eqb x c) s) 0 ≡ length (cond t [] (b ∷ before c s)))
      [ true ↦ refl | false ↦ (let i = place_is s in omega (arith, i)) ]

  before_take : (s : List ℕ) → take (length (before c s)) s ≡ before c s
  before_take [] = refl
  before_take (b ∷ s) =
      elim (eqb b c) as (λ t. take (length (cond t [] (b ∷ before c s))) (b ∷ s) ≡ cond t [] (b ∷ before c s))
      [ true ↦ refl | false ↦ ap (λ v. b ∷ v) (before_take s) ]

  after_drop : (s : List ℕ) → drop (suc (length (before c s))) s ≡ after c s
  after_drop [] = refl
  after_drop (b ∷ s) =
      elim (eqb b c) as (λ t. drop (suc (length (cond t [] (b ∷ before c s)))) (b ∷ s) ≡ cond t s (after c s))
      [ true ↦ refl | false ↦ after_drop s ]

  found : (s : List ℕ) (i : ℕ) → position (λ b. eqb b c) s ≡ Some i → i ≡ length (before c s)
  found s i e = let p = place_is s in grind (arith, nat_tests)

  missed : (s : List ℕ) → position (λ b. eqb b c) s ≡ None → length s ≤ length (before c s)
  missed s e = let p = place_is s in grind (arith, nat_tests)

  -- what stands before the first c and behind it, as the code cuts it
  pub front_there : (s : List ℕ) (i : ℕ) → position (λ b. eqb b c) s ≡ Some i → take i s ≡ before c s
  front_there s i e = ap (λ n. take n s) (found s i e) ∙ before_take s

  pub back_there : (s : List ℕ) (i : ℕ) → position (λ b. eqb b c) s ≡ Some i → take (length s - (i + 1)) (drop (i + 1) s) ≡ after c s
  back_there s i e =
      let j : i + 1 ≡ suc (length (before c s)) = omega (arith, found s i e) in
      take_rest s (i + 1) ∙ ap (λ n. drop n s) j ∙ after_drop s

  pub front_whole : (s : List ℕ) → position (λ b. eqb b c) s ≡ None → s ≡ before c s
  front_whole s e = sym (take_all (length (before c s)) s (missed s e)) ∙ before_take s

  pub back_none : (s : List ℕ) → position (λ b. eqb b c) s ≡ None → [] ≡ after c s
  back_none s e = sym (drop_all (suc (length (before c s))) s (omega (arith, missed s e))) ∙ after_drop s

  -- a c stands there where one is counted
  there : (s : List ℕ) → nat_lt (position_or_len (λ b. eqb b c) s) (length s) ≡ not (eqb (count_of c s) 0)
  there [] = refl
  there (b ∷ s) =
      elim (eqb b c) as (λ t. nat_lt (cond (not t) (1 + position_or_len (λ x. eqb x c) s) 0) (length (b ∷ s)) ≡ not (eqb (cond t 1 0 + count_of c s) 0))
      [ true ↦ grind (arith, nat_tests) | false ↦ (let h = there s in grind (arith, nat_tests)) ]

  pub mark_there : (s : List ℕ) (i : ℕ) → position (λ b. eqb b c) s ≡ Some i → false ≡ eqb (count_of c s) 0
  mark_there s i e = let h = there s in grind (arith, nat_tests)

  pub mark_missing : (s : List ℕ) → position (λ b. eqb b c) s ≡ None → true ≡ eqb (count_of c s) 0
  mark_missing s e = let h = there s in grind (arith, nat_tests)

  counted : (t : Bool) (n : ℕ) → cond t 1 0 + n ≡ cond t (1 + n) n
  counted true n = refl
  counted false n = zero-add n

  pub count_law : (s : List ℕ) → count_of c s ≡ count_by (λ b. eqb b c) s
  count_law = is_count_by (count_of c) (λ b. eqb b c) refl (λ b s. counted (eqb b c) (count_of c s))

  -- one more for a c, in 64 bits
  abbrev pub tallied : ℕ → ℕ → ℕ
  tallied n b = (n + cond (eqb b c) 1 0) % 2 ^ 64

  count_short : (s : List ℕ) → count_of c s ≤ length s
  count_short [] = omega arith
  count_short (b ∷ s) =
      elim (eqb b c) as (λ t. cond t 1 0 + count_of c s ≤ suc (length s))
      [ true ↦ (let h = count_short s in omega (arith, h)) | false ↦ (let h = count_short s in omega (arith, h)) ]

  one_tallied : (t : Bool) (n k : ℕ) → n + (cond t 1 0 + k) < 2 ^ 64 → (n + cond t 1 0) % 2 ^ 64 ≡ n + cond t 1 0
  one_tallied true n k h = omega (arith, h)
  one_tallied false n k h = omega (arith, h)

  tally_on : (s : List ℕ) (n : ℕ) → n + count_of c s < 2 ^ 64 → fold tallied n s ≡ n + count_of c s
  tally_on [] n h = sym (add-zero n)
  tally_on (b ∷ s) n h =
      let e = one_tallied (eqb b c) n (count_of c s) h in
      ap (λ k. fold tallied k s) e ∙ tally_on s (n + cond (eqb b c) 1 0) (omega (arith, h)) ∙ add_assoc n (cond (eqb b c) 1 0) (count_of c s)

  -- no sum of a text wraps
  pub tally_law : (s : List ℕ) → length s < 2 ^ 64 → fold tallied 0 s ≡ count_of c s
  tally_law s h = let k = count_short s in tally_on s 0 (omega (arith, h, k)) ∙ zero-add (count_of c s)

  pub tally_is : (s : List ℕ) (r : ℕ) → length s < 2 ^ 64 → r ≡ fold tallied 0 s → r ≡ count_of c s
  tally_is s r h e = e ∙ tally_law s h

-- the pieces of a line, as the library splits it, are its values
first_onto : (b : ℕ) (ps : List (List ℕ)) → get_or (onto_first b ps) 0 [] ≡ b ∷ get_or ps 0 []
first_onto b [] = refl
first_onto b (p ∷ ps) = refl

later_onto : (b k : ℕ) (ps : List (List ℕ)) → get_or (onto_first b ps) (suc k) [] ≡ get_or ps (suc k) []
later_onto b k [] = refl
later_onto b k (p ∷ ps) = refl

first_piece : (s : List ℕ) → get_or (slice_split (λ b. eqb b 32) s) 0 [] ≡ before 32 s
first_piece [] = refl
first_piece (b ∷ s) =
    elim (eqb b 32) as (λ t. get_or (cond t ([] ∷ slice_split (λ x. eqb x 32) s) (onto_first b (slice_split (λ x. eqb x 32) s))) 0 [] ≡ cond t [] (b ∷ before 32 s))
    [ true ↦ refl | false ↦ first_onto b _ ∙ ap (λ v. b ∷ v) (first_piece s) ]

later_piece : (k : ℕ) (s : List ℕ) → get_or (slice_split (λ b. eqb b 32) s) (suc k) [] ≡ get_or (slice_split (λ b. eqb b 32) (after 32 s)) k []
later_piece zero [] = refl
later_piece (suc k) [] = refl
later_piece k (b ∷ s) =
    elim (eqb b 32) as (λ t. get_or (cond t ([] ∷ slice_split (λ x. eqb x 32) s) (onto_first b (slice_split (λ x. eqb x 32) s))) (suc k) [] ≡ get_or (slice_split (λ x. eqb x 32) (cond t s (after 32 s))) k [])
    [ true ↦ refl | false ↦ later_onto b k _ ∙ later_piece k s ]

pub piece_is : (k : ℕ) (s : List ℕ) → get_or (slice_split (λ b. eqb b 32) s) k [] ≡ value_at k s
piece_is zero s = first_piece s
piece_is (suc k) s = later_piece k s ∙ piece_is k (after 32 s)

-- the piece at a place, or nothing where there is none
pub piece_or : (r : Option (Bor (List ℕ))) (d : Bor (List ℕ)) (ps : List (List ℕ)) (k : ℕ) → d.now ≡ [] → option_map (λ x. x.now) r ≡ slice_get ps k → (unwrap_or r d).now ≡ get_or ps k []
piece_or None d [] k z e = z
piece_or None d (p ∷ ps) zero z e = absurd (cc)
piece_or None d (p ∷ ps) (suc k) z e = piece_or None d ps k z e
piece_or (Some x) d [] k z e = absurd (cc)
piece_or (Some x) d (p ∷ ps) zero z e = cc
piece_or (Some x) d (p ∷ ps) (suc k) z e = piece_or (Some x) d ps k z e
