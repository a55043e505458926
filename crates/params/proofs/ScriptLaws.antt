-- One line of a script after another.
use Rattle.std.proofs.Common.{◌≡◌, ℕ, zero, suc, ◌+◌, ◌-◌, ◌<◌, true, ◌≢◌, ◌⊎◌, List, [], ◌∷◌, ◌++◌, length, is_ok, Ok, Err, Vec, Result, sym, refl, ap, ◌∙◌, subst, inr, ⊎_elim, append_assoc, append-nil, arith}
use Rattle.std.proofs.lemmas.Bool.{cond-true, cond-false, eq-eqb, ne_eqb}
use Rattle.terms.specs.Outcomes.{then}
use Rattle.texts.specs.declared.fault.FileFault.{FileFault}
use Rattle.texts.specs.declared.fault.File.TheVariants.{Script}
use Rattle.texts.specs.declared.fault.Fault.TheVariants.{WrongCount}
use Rattle.texts.specs.Pieces.{after}
use Rattle.params.specs.declared.call.Call.{Call}
use Rattle.std.specs.declared.alloc.Global.{Global}
use Rattle.terms.specs.declared.failure.Failure.TheVariants.{Cause, NoMemory}
use Rattle.params.specs.Calls.{Said, said, all_said, Answers, ScriptError}
use Rattle.params.specs.Scripts.{read_call, read_calls, ahead}

pub calls_none : (k n : ℕ) (s : List ℕ) → length s ≡ 0 → read_calls k n s ≡ Ok []
unfolding read_calls
calls_none zero n s h = cond-true _ _ _ (eq-eqb _ _ h)
calls_none (suc k) n s h = cond-true _ _ _ (eq-eqb _ _ h)

pub calls_over : (n : ℕ) (s : List ℕ) → length s ≢ 0 → read_calls 0 n s ≡ Err record { fault = WrongCount; file = Script; line = n; column = 0 }
unfolding read_calls
calls_over n s h = cond-false _ _ _ (ne_eqb _ _ h)

pub calls_fault : (k n : ℕ) (s : List ℕ) (e : FileFault) → length s ≢ 0 → read_call n s ≡ Err e → read_calls (suc k) n s ≡ Err e
unfolding read_calls
calls_fault k n s e h r = cond-false _ _ _ (ne_eqb _ _ h) ∙ ap (λ x. then x (λ c. ahead (c ∷ []) (read_calls k (n + 1) (after 10 s)))) r

pub calls_step : (k n : ℕ) (s : List ℕ) (c : Said) → length s ≢ 0 → read_call n s ≡ Ok c → read_calls (suc k) n s ≡ ahead (c ∷ []) (read_calls k (n + 1) (after 10 s))
unfolding read_calls
calls_step k n s c h r = cond-false _ _ _ (ne_eqb _ _ h) ∙ ap (λ x. then x (λ c. ahead (c ∷ []) (read_calls k (n + 1) (after 10 s)))) r

pub ahead_more : (xs : List Said) (c : Said) (r : Result (List Said) FileFault) → ahead xs (ahead (c ∷ []) r) ≡ ahead (xs ++ c ∷ []) r
ahead_more xs c (Ok ys) = ap (λ l. Ok l) (simp append_assoc)
ahead_more xs c (Err e) = refl

-- how far the lines are read: the calls before what is left, and a good first line once there is a call
abbrev pub Reading : List Said → ℕ → List ℕ → List ℕ → Type 0
Reading cs line rest text =
    (ahead cs (read_calls (802 - line) line rest) ≡ read_calls 800 2 text)
    × (((line ≡ 2) × (rest ≡ text)) ⊎ (is_ok (read_call 2 text) ≡ true))

module _ (cs : List Said) (line : ℕ) (rest text : List ℕ) (r : Reading cs line rest text) where
  pub first_good : is_ok (read_call line rest) ≡ true → is_ok (read_call 2 text) ≡ true
  first_good h = ⊎_elim (λ e. subst (λ t. is_ok (read_call 2 t) ≡ true) e.1 (subst (λ n. is_ok (read_call n rest) ≡ true) e.0 h)) (λ e. e) r.1

  pub reading_done : length rest ≡ 0 → read_calls 800 2 text ≡ Ok cs
  reading_done h = sym r.0 ∙ ap (ahead cs) (calls_none (802 - line) line rest h) ∙ ap (λ l. Ok l) (append-nil cs)

  pub reading_over : line ≡ 802 → length rest ≢ 0 → read_calls 800 2 text ≡ Err record { fault = WrongCount; file = Script; line = 802; column = 0 }
  reading_over e h =
      sym r.0
      ∙ ap (ahead cs) (ap (λ n. read_calls (802 - n) n rest) e ∙ calls_over 802 rest h)

  module _ (low : line < 802) (some : length rest ≢ 0) where
    one_more : 802 - line ≡ suc (802 - (line + 1))
    one_more = omega arith

    pub reading_fault : (e : FileFault) → read_call line rest ≡ Err e → read_calls 800 2 text ≡ Err e
    reading_fault e is =
        sym r.0 ∙ ap (ahead cs) (ap (λ k. read_calls k line rest) one_more ∙ calls_fault (802 - (line + 1)) line rest e some is)

    pub reading_more : (c : Said) → read_call line rest ≡ Ok c → Reading (cs ++ c ∷ []) (line + 1) (after 10 rest) text
    reading_more c is = (
      sym (ahead_more cs c (read_calls (802 - (line + 1)) (line + 1) (after 10 rest)))
          ∙ ap (ahead cs) (sym (ap (λ k. read_calls k line rest) one_more ∙ calls_step (802 - (line + 1)) line rest c some is)) ∙ r.0,
      inr (first_good (ap is_ok is)),
    )

    pub reading_stops : (e : ScriptError) → Answers {T = Call (Vec ℕ Global)} said (read_call line rest) (is_ok (read_call line rest) ≡ true) (Err e) → Answers all_said (read_calls 800 2 text) (is_ok (read_call 2 text) ≡ true) (Err e)
    reading_stops (Cause f) h = reading_fault f h
    reading_stops NoMemory h = first_good h
