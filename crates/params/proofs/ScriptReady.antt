-- A script that is accepted has few calls, with short printable messages.
use Rattle.std.proofs.Common.{◌≡◌, ℕ, zero, suc, ◌+◌, ◌≤◌, Bool, true, false, cond, ◌&&◌, eqb, leb, List, [], ◌∷◌, length, IfOk, Ok, Err, codes, Result, refl, subst, arith}
use Rattle.std.proofs.lemmas.Bool.{and_parts, leb-true}
use Rattle.std.specs.Str.{bytes_eq}
use Rattle.terms.specs.Outcomes.{then}
use Rattle.texts.specs.declared.fault.Fault.TheVariants.{WrongForm}
use Rattle.texts.specs.declared.fault.File.TheVariants.{Script}
use Rattle.texts.specs.declared.fault.FileFault.{FileFault}
use Rattle.texts.specs.Columns.{text_in}
use Rattle.texts.specs.Faults.{at_column, on_line}
use Rattle.texts.specs.Headings.{read_names, read_end}
use Rattle.texts.specs.Pieces.{before, after}
use Rattle.texts.specs.Words.{printable, is_word}
use Rattle.texts.proofs.HexTrips.{then_parts}
use Rattle.params.specs.declared.call.Action.{Action}
use Rattle.params.specs.declared.call.Action.TheVariants as action
use Rattle.params.specs.Calls.{Said, message_of, Answers, ScriptError}
use Rattle.params.specs.Laws.{Ready, AllReady, ReadyScript}
use Rattle.params.specs.Scripts.{read_role, read_deed, read_message, read_text, read_values, read_call, read_calls, ahead, script_names, read_script}
use Rattle.params.proofs.Outcomes.{ok_same, at_parts, on_parts, cond_ok}

abbrev Short : List ℕ → Type 0
Short m = (length m ≤ 64) × (printable m ≡ true)

word_short : (s : List ℕ) → is_word 64 s ≡ true → Short s
word_short s e =
    let p = and_parts (leb 1 (length s) && leb (length s) 64) (printable s) e in
    (leb-true _ _ (and_parts (leb 1 (length s)) (leb (length s) 64) p.0).1, p.1)

nothing : Short []
nothing = (omega arith, refl)

-- a message that was read is short
message_by : (s m : List ℕ) (b : Bool) → cond b (Ok []) (cond (is_word 64 s) (Ok s) (Err WrongForm)) ≡ Ok m → Short m
message_by s m true e = subst Short (ok_same e) nothing
message_by s m false e = let p = cond_ok (is_word 64 s) (Ok s) WrongForm m e in subst Short (ok_same p.1) (word_short s p.0)

message_short : (s m : List ℕ) → read_message s ≡ Ok m → Short m
message_short s m e = message_by s m (bytes_eq s (codes "-")) e

text_short : (d : Action (Unit {0})) (s : List ℕ) (a : Action (List ℕ)) → read_text d s ≡ Ok a → Short (message_of a)
text_short (action.Tick _) s a e = let p = then_parts (read_message s) _ a e in subst (λ x. Short (message_of x)) (ok_same p.2) (message_short s p.0 p.1)
text_short action.Fetch s a e = subst (λ x. Short (message_of x)) (ok_same (cond_ok _ _ _ a e).1) nothing
text_short action.Stop s a e = subst (λ x. Short (message_of x)) (ok_same (cond_ok _ _ _ a e).1) nothing

values_ready : (line : List ℕ) (c : Said) → read_values line ≡ Ok c → Ready c
values_ready line c e =
    let p = cond_ok _ _ _ c e in
    let r = then_parts (at_column (read_role (text_in 1 line)) 1) _ c p.1 in
    let d = then_parts (at_column (read_deed (text_in 2 line)) 2) _ c r.2 in
    let t = then_parts (at_column (read_text d.0 (text_in 3 line)) 3) _ c d.2 in
    subst Ready (ok_same t.2) (text_short d.0 (text_in 3 line) t.0 (at_parts (read_text d.0 (text_in 3 line)) 3 t.0 t.1))

call_ready : (n : ℕ) (text : List ℕ) (c : Said) → read_call n text ≡ Ok c → Ready c
call_ready n text c e =
    let p = then_parts (on_line (read_end text) Script n) _ c e in
    values_ready (before 10 text) c (on_parts (read_values (before 10 text)) Script n c p.2)

abbrev FewReady : ℕ → List Said → Type 0
FewReady k cs = (length cs ≤ k) × AllReady cs

abbrev Readies : ℕ → Result (List Said) FileFault → Type 0
Readies k (Ok cs) = FewReady k cs
Readies k (Err f) = Unit {0}

first_ready : (k n : ℕ) (t : List ℕ) (c : Result Said FileFault) (r : Result (List Said) FileFault) → read_call n t ≡ c → Readies k r → Readies (suc k) (then c (λ x. ahead (x ∷ []) r))
first_ready k n t (Ok x) (Ok xs) e h = (omega arith, (call_ready n t x e, h.1))
first_ready k n t (Ok x) (Err f) e h = tt
first_ready k n t (Err f) r e h = tt

some_ready : (k : ℕ) (b : Bool) (r : Result (List Said) FileFault) → Readies k r → Readies k (cond b (Ok []) r)
some_ready k true r h = (omega arith, tt)
some_ready k false r h = h

calls_ready : (k n : ℕ) (t : List ℕ) → Readies k (read_calls k n t)
unfolding read_calls
calls_ready zero n t = some_ready zero (eqb (length t) 0) _ tt
calls_ready (suc k) n t = some_ready (suc k) (eqb (length t) 0) _ (first_ready k n t (read_call n t) (read_calls k (n + 1) (after 10 t)) refl (calls_ready k (n + 1) (after 10 t)))

pub script_ready : {T : Type 0} (P : Type 0) (text : List ℕ) (g : T → List Said) (r : Result T ScriptError) → Answers g (read_script text) P r → IfOk r (λ v. ReadyScript (g v))
script_ready P text g (Ok v) h =
    let p = then_parts (on_line (read_names script_names text) Script 1) _ (g v) h in
    let q : FewReady 800 (g v) = subst (Readies 800) p.2 (calls_ready 800 2 (after 10 text)) in
    record { few = q.0; ready = q.1 }
script_ready P text g (Err e) h = tt
