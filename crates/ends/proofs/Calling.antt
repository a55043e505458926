-- What a call put is what it laid at the start of its output buffer; and what a call that goes on has passed.
use Rattle.std.proofs.Common.{◌≡◌, ℕ, ◌≤◌, Bool, true, false, cond, ltb, leb, ◌&&◌, List, ◌++◌, length, drop, Some, None, Ok, Err, Option, Result, refl, sym, ap, ◌∙◌, subst, ap₂, arith, append_assoc, length-append, length-drop, length-take}
use Rattle.std.proofs.lemmas.Bool.{le-leb}
use Rattle.std.proofs.lemmas.List.{take-append-drop, drop-append-le}
use Rattle.std.specs.Array.{IsFirstChunk}
use Rattle.std.specs.Result.{IsOk, IsErrAnd}
use Rattle.terms.specs.declared.refusal.Refusal.{Refusal}
use Rattle.terms.specs.declared.refusal.Refusal.TheVariants.{CarrierTooNarrow, BufferTooShort}
use Rattle.terms.specs.declared.role.Role.{Role}
use Rattle.terms.specs.Buffers.{overlay}
use Rattle.terms.proofs.Laid.{laid_front}
use Rattle.carrier.specs.Rules.{Meaning, FetchRules}
use Rattle.ends.specs.declared.answer.Answer.{Answer}
use Rattle.ends.specs.Puts.{longest_frame, put_length, put_into, Lays, front, Fits}
use Rattle.ends.specs.Calls.{call_refusal, out_refusal, opening_refusal, tick_refusal, fetch_refusal}
use Rattle.states.specs.States.{EndValue}

-- the start of a buffer with the buffer's rest is the buffer
pub kept_out : (k : ℕ) (out ws : List ℕ) → IsFirstChunk out ws k → ws ++ drop k out ≡ out
kept_out k out ws h = ap (λ l. l ++ drop k out) h.same ∙ take-append-drop k out

-- a string laid into the start of a buffer, which keeps its length: n is its length, ws is what the start became
pub record Laid (p : Option (List ℕ)) (k : ℕ) (out : List ℕ) (n : Option ℕ) (ws : List ℕ) : Type 0 where
  pub fits : Fits n (length ws)
  pub front : front n ws ≡ p
  pub output : ws ++ drop k out ≡ put_into p out

laid_start : (p : Option (List ℕ)) (k : ℕ) (out ws : List ℕ) → IsFirstChunk out ws k → length (put_into p ws) ≡ k → Laid p k out (put_length p) (put_into p ws)
laid_start None k out ws h l = record { fits = tt; front = refl; output = kept_out k out ws h }
laid_start (Some s) k out ws h l =
    let enough = h.enough in
    let long : length ws ≡ k = ap length h.same ∙ simp length-take (omega arith) in
    let within : length s ≤ length ws = omega (arith, length-append s (drop (length s) ws), length-drop (length s) ws) in
    record {
      fits = omega (arith, length-append s (drop (length s) ws));
      front = ap Some (laid_front s ws (overlay s ws) (length s) refl refl);
      output =
          append_assoc s (drop (length s) ws) (drop k out)
          ∙ ap (λ t. s ++ t) (sym (drop-append-le (length s) ws (drop k out) within) ∙ ap (λ t. drop (length s) t) (kept_out k out ws h));
    }

pub laid_in : (p : Option (List ℕ)) (k : ℕ) (out ws ws' : List ℕ) (n : Option ℕ) → IsFirstChunk out ws k → length ws' ≡ k → Lays p ws ws' n → Laid p k out n ws'
laid_in p k out ws ws' n h l lays =
    subst (λ m. Laid p k out m ws') (sym lays.value)
    (subst (λ w. Laid p k out (put_length p) w) (sym lays.after) (laid_start p k out ws h (ap length (sym lays.after) ∙ l)))

passed : (b : Bool) (x : Refusal) (rest r : Option Refusal) → None ≡ cond b (Some x) None → r ≡ rest → cond b (Some x) rest ≡ r
passed true x rest r h e = let clash : ◌≡◌ {A = Option Refusal} None (Some x) = h in cc
passed false x rest r h e = sym e

-- the carrier and the buffers are passed, so the refusal is what the end says
judged : (largest : ℕ) (room : Bool) (end r : Option Refusal) → None ≡ cond (ltb largest longest_frame) (Some CarrierTooNarrow) None → room ≡ true → r ≡ end → call_refusal largest room end ≡ r
judged largest room end r carrier buffers e =
    passed (ltb largest longest_frame) _ _ r carrier (e ∙ sym (ap (λ b. cond b end (Some BufferTooShort)) buffers))

pub opening_judged : (largest out : ℕ) → None ≡ cond (ltb largest longest_frame) (Some CarrierTooNarrow) None → longest_frame ≤ out → opening_refusal largest out ≡ None
opening_judged largest out carrier room = judged largest (leb longest_frame out) None None carrier (le-leb _ _ room) refl

pub tick_judged : (e : EndValue) (largest out : ℕ) (r : Option Refusal) → None ≡ cond (ltb largest longest_frame) (Some CarrierTooNarrow) None → longest_frame ≤ out
    → r ≡ out_refusal e.state → tick_refusal e largest out ≡ r
tick_judged e largest out r carrier room is = judged largest (leb longest_frame out) (out_refusal e.state) r carrier (le-leb _ _ room) is

pub fetch_judged : (e : EndValue) (largest buf out : ℕ) (r : Option Refusal) → None ≡ cond (ltb largest longest_frame) (Some CarrierTooNarrow) None → largest ≤ buf → longest_frame ≤ out
    → r ≡ out_refusal e.state → fetch_refusal e largest buf out ≡ r
fetch_judged e largest buf out r carrier long room is =
    judged largest (leb largest buf && leb longest_frame out) (out_refusal e.state) r carrier (ap₂ ◌&&◌ (le-leb _ _ long) (le-leb _ _ room)) is

-- a fetch into a buffer that is long enough is not refused
pub fetched : (m m' : Meaning) (at : Role) (buf buf' : List ℕ) (r : Result (Option ℕ) Refusal) → m.largest ≤ length buf → FetchRules m m' at buf buf' r → IsOk r
fetched m m' at buf buf' (Ok x) h f = refl
fetched m m' at buf buf' (Err e) h f = let short = f.short in absurd (omega arith)

-- what `?` hands on
pub failed : (r : Result Answer Refusal) (x : Refusal) → IsErrAnd r (λ y. y ≡ x) → r ≡ Err x
failed (Ok a) x h = absurd h
failed (Err e) x h = ap Err h
