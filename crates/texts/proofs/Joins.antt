-- Cutting undoes joining, and joining undoes cutting.
use Rattle.std.proofs.Common.{◌≡◌, ℕ, zero, suc, ◌+◌, ◌≤◌, true, false, cond, eqb, ◌≢◌, List, [], ◌∷◌, ◌++◌, length, get_or, sym, refl, ap, ◌∙◌, add_assoc, zero-add, arith}
use Rattle.std.proofs.lemmas.Bool.{cond-true, eq-eqb, eqb-true}
use Rattle.texts.specs.Pieces.{before, after, count_of, value_at}

module _ (c : ℕ) where
  pub count_join : (a b : List ℕ) → count_of c (a ++ b) ≡ count_of c a + count_of c b
  count_join [] b = sym (zero-add _)
  count_join (x ∷ a) b = ap (λ n. cond (eqb x c) 1 0 + n) (count_join a b) ∙ sym (add_assoc _ _ _)

  pub before_join : (a b : List ℕ) → count_of c a ≡ 0 → before c (a ++ c ∷ b) ≡ a
  before_join [] b h = cond-true _ _ _ (eq-eqb c c refl)
  before_join (x ∷ a) b h =
      (elim (eqb x c) as (λ t. cond t 1 0 + count_of c a ≡ 0 → cond t [] (x ∷ before c (a ++ c ∷ b)) ≡ x ∷ a)
      [ true ↦ λ z. absurd (omega arith) | false ↦ λ z. ap (λ l. x ∷ l) (before_join a b (omega arith)) ]) h

  pub after_join : (a b : List ℕ) → count_of c a ≡ 0 → after c (a ++ c ∷ b) ≡ b
  after_join [] b h = cond-true _ _ _ (eq-eqb c c refl)
  after_join (x ∷ a) b h =
      (elim (eqb x c) as (λ t. cond t 1 0 + count_of c a ≡ 0 → cond t (a ++ c ∷ b) (after c (a ++ c ∷ b)) ≡ b)
      [ true ↦ λ z. absurd (omega arith) | false ↦ λ z. after_join a b (omega arith) ]) h

  pub before_whole : (a : List ℕ) → count_of c a ≡ 0 → before c a ≡ a
  before_whole [] h = refl
  before_whole (x ∷ a) h =
      (elim (eqb x c) as (λ t. cond t 1 0 + count_of c a ≡ 0 → cond t [] (x ∷ before c a) ≡ x ∷ a)
      [ true ↦ λ z. absurd (omega arith) | false ↦ λ z. ap (λ l. x ∷ l) (before_whole a (omega arith)) ]) h

  pub cut_back : (s : List ℕ) → count_of c s ≢ 0 → before c s ++ c ∷ after c s ≡ s
  cut_back [] h = absurd (h refl)
  cut_back (x ∷ s) h =
      (elim (eqb x c) as (λ t. eqb x c ≡ t → cond t 1 0 + count_of c s ≢ 0 → cond t [] (x ∷ before c s) ++ c ∷ cond t s (after c s) ≡ x ∷ s) [
        | true ↦ λ e z. ap (λ y. y ∷ s) (sym (eqb-true x c e))
        | false ↦ λ e z. ap (λ l. x ∷ l) (cut_back s (λ n. z (omega arith)))
      ]) refl h

  pub before_free : (s : List ℕ) → count_of c (before c s) ≡ 0
  before_free [] = refl
  before_free (x ∷ s) =
      (elim (eqb x c) as (λ t. eqb x c ≡ t → count_of c (cond t [] (x ∷ before c s)) ≡ 0) [
        | true ↦ λ e. refl
        | false ↦ λ e. ap (λ t. cond t 1 0 + count_of c (before c s)) e ∙ zero-add _ ∙ before_free s
      ]) refl

  pub count_after : (s : List ℕ) (k : ℕ) → count_of c s ≡ suc k → count_of c (after c s) ≡ k
  count_after [] k h = absurd (omega arith)
  count_after (x ∷ s) k h =
      (elim (eqb x c) as (λ t. cond t 1 0 + count_of c s ≡ suc k → count_of c (cond t s (after c s)) ≡ k)
      [ true ↦ λ z. omega arith | false ↦ λ z. count_after s k (omega arith) ]) h

-- the first k + 1 values of a line, with their spaces
abbrev pub values_text : ℕ → List ℕ → List ℕ
values_text zero s = before 32 s
values_text (suc k) s = before 32 s ++ 32 ∷ values_text k (after 32 s)

pub values_back : (k : ℕ) (s : List ℕ) → count_of 32 s ≡ k → values_text k s ≡ s
values_back zero s h = before_whole 32 s h
values_back (suc k) s h =
    ap (λ l. before 32 s ++ 32 ∷ l) (values_back k (after 32 s) (count_after 32 s k h)) ∙ cut_back 32 s (λ z. omega arith)

-- values with single spaces between them
abbrev pub spaced : List ℕ → List (List ℕ) → List ℕ
spaced p [] = p
spaced p (q ∷ qs) = p ++ 32 ∷ spaced q qs

-- a byte stands in none of them
abbrev pub Frees : ℕ → List (List ℕ) → Type 0
Frees c [] = Unit {0}
Frees c (q ∷ qs) = (count_of c q ≡ 0) × Frees c qs

pub count_spaced : (p : List ℕ) (qs : List (List ℕ)) → count_of 32 p ≡ 0 → Frees 32 qs → count_of 32 (spaced p qs) ≡ length qs
count_spaced p [] f fs = f
count_spaced p (q ∷ qs) f fs = let e = count_join 32 p (32 ∷ spaced q qs) in let r = count_spaced q qs fs.0 fs.1 in omega arith

pub value_spaced : (k : ℕ) (p : List ℕ) (qs : List (List ℕ)) → count_of 32 p ≡ 0 → Frees 32 qs → k ≤ length qs → value_at k (spaced p qs) ≡ get_or (p ∷ qs) k []
value_spaced zero p [] f fs h = before_whole 32 p f
value_spaced zero p (q ∷ qs) f fs h = before_join 32 p (spaced q qs) f
value_spaced (suc k) p [] f fs h = absurd (omega arith)
value_spaced (suc k) p (q ∷ qs) f fs h = ap (value_at k) (after_join 32 p (spaced q qs) f) ∙ value_spaced k q qs fs.0 fs.1 (omega arith)

-- no line feed stands in a line whose values have none
pub spaced_free : (p : List ℕ) (qs : List (List ℕ)) → count_of 10 p ≡ 0 → Frees 10 qs → count_of 10 (spaced p qs) ≡ 0
spaced_free p [] f fs = f
spaced_free p (q ∷ qs) f fs = let e = count_join 10 p (32 ∷ spaced q qs) in let r = spaced_free q qs fs.0 fs.1 in omega arith
