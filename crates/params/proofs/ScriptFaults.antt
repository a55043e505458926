-- The fault of a script is its first.
use Rattle.std.proofs.Common.{◌≡◌, ℕ, zero, suc, ◌+◌, ◌-◌, ◌<◌, ◌≤◌, Bool, true, false, cond, eqb, List, [], ◌∷◌, length, get_or, is_ok, IfErr, Ok, Err, Result, sym, refl, subst, ⊎_elim, arith}
use Rattle.std.proofs.lemmas.Bool.{cases_eq}
use Rattle.std.specs.Str.{bytes_eq}
use Rattle.terms.specs.Outcomes.{then}
use Rattle.terms.specs.declared.role.Role.{Role}
use Rattle.texts.specs.declared.fault.Fault.{Fault}
use Rattle.texts.specs.declared.fault.Fault.TheVariants.{NamesDiffer, WrongCount}
use Rattle.texts.specs.declared.fault.File.TheVariants.{Script}
use Rattle.texts.specs.declared.fault.LineFault.{LineFault}
use Rattle.texts.specs.declared.fault.FileFault.{FileFault}
use Rattle.texts.specs.Columns.{text_in}
use Rattle.texts.specs.Faults.{at_column, on_line, verdict, whole_line}
use Rattle.texts.specs.Headings.{read_names}
use Rattle.texts.specs.Pieces.{before, after, count_of}
use Rattle.terms.specs.declared.failure.Failure.TheVariants.{Cause, NoMemory}
use Rattle.params.specs.declared.call.Action.{Action}
use Rattle.params.specs.Calls.{Said, Answers, ScriptError}
use Rattle.params.specs.FirstFault.{by_fault_first, call_columns, past_lines, FirstInScript}
use Rattle.params.specs.Scripts.{read_role, read_deed, read_text, read_values, read_call, read_calls, ahead, script_names, read_script}
use Rattle.params.proofs.Outcomes.{ended_by, named_by}

-- the values before column n of a line are good
abbrev GoodValues : List ℕ → ℕ → Type 0
GoodValues line n = (k : ℕ) → 1 ≤ k → k < n → get_or call_columns (k - 1) (λ _. Ok tt) (text_in k line) ≡ Ok tt

-- the fault of a line, once it has its place in the script
abbrev CallFault : ℕ → List ℕ → FileFault → Type 0
CallFault n line f = (f.file ≡ Script) × (f.line ≡ n) × GoodValues line f.column

abbrev CallLaw : {T : Type 0} → ℕ → List ℕ → Result T FileFault → Type 0
CallLaw n line (Ok x) = Unit {0}
CallLaw n line (Err f) = CallFault n line f

abbrev ValuesLaw : {T : Type 0} → List ℕ → Result T LineFault → Type 0
ValuesLaw line (Ok x) = Unit {0}
ValuesLaw line (Err f) = GoodValues line f.column

none : (line : List ℕ) (n : ℕ) → n ≤ 1 → GoodValues line n
none line n h k low high = absurd (omega arith)

one_value : (line : List ℕ) → verdict (read_role (text_in 1 line)) ≡ Ok tt → GoodValues line 2
one_value line e k low high = subst (λ j. get_or call_columns (j - 1) (λ _. Ok tt) (text_in j line) ≡ Ok tt) (let i : 1 ≡ k = omega arith in i) e

two_values : (line : List ℕ) → verdict (read_role (text_in 1 line)) ≡ Ok tt → verdict (read_deed (text_in 2 line)) ≡ Ok tt → GoodValues line 3
two_values line e d k low high =
    ⊎_elim (λ i. subst (λ j. get_or call_columns (j - 1) (λ _. Ok tt) (text_in j line) ≡ Ok tt) (sym i) d)
    (λ ne. one_value line e k low (omega arith)) (cases_eq k 2)

text_law : (line : List ℕ) (role : Role) (r : Result (Action (List ℕ)) Fault) → GoodValues line 3
    → ValuesLaw {T = Said} line (then (at_column r 3) (λ a. Ok record { end = role; action = a }))
text_law line role (Ok a) g = tt
text_law line role (Err e) g = g

deed_law : (line : List ℕ) (role : Role) (r : Result (Action (Unit {0})) Fault) → verdict (read_role (text_in 1 line)) ≡ Ok tt → verdict (read_deed (text_in 2 line)) ≡ verdict r
    → ValuesLaw {T = Said} line (then (at_column r 2) (λ d. then (at_column (read_text d (text_in 3 line)) 3) (λ a. Ok record { end = role; action = a })))
deed_law line role (Ok d) e i = text_law line role (read_text d (text_in 3 line)) (two_values line e i)
deed_law line role (Err w) e i = one_value line e

role_law : (line : List ℕ) (r : Result Role Fault) → verdict (read_role (text_in 1 line)) ≡ verdict r
    → ValuesLaw {T = Said} line (then (at_column r 1) (λ role. then (at_column (read_deed (text_in 2 line)) 2) (λ d. then (at_column (read_text d (text_in 3 line)) 3) (λ a. Ok record { end = role; action = a }))))
role_law line (Ok role) i = deed_law line role (read_deed (text_in 2 line)) i refl
role_law line (Err w) i = none line 1 (omega arith)

counted_law : {T : Type 0} (line : List ℕ) (b : Bool) (r : Result T LineFault) → ValuesLaw line r → ValuesLaw line (cond b r (Err (whole_line WrongCount)))
counted_law line true r h = h
counted_law line false r h = none line 0 (omega arith)

values_law : (line : List ℕ) → ValuesLaw line (read_values line)
values_law line = counted_law line (eqb (count_of 32 line) 2) _ (role_law line (read_role (text_in 1 line)) refl)

placed_law : {T : Type 0} (n : ℕ) (line : List ℕ) (r : Result T LineFault) → ValuesLaw line r → CallLaw n line (on_line r Script n)
placed_law n line (Ok x) l = tt
placed_law n line (Err e) l = (refl, refl, l)

end_law : (n : ℕ) (line : List ℕ) (b : Bool) (r : Result Said FileFault) → CallLaw n line r → CallLaw n line (then (on_line (ended_by b) Script n) (λ _. r))
end_law n line true r h = (refl, refl, none line 0 (omega arith))
end_law n line false r h = h

call_law : (n : ℕ) (t : List ℕ) → CallLaw n (before 10 t) (read_call n t)
call_law n t =
    end_law n (before 10 t) (eqb (count_of 10 t) 0) _
    (placed_law n (before 10 t) (read_values (before 10 t)) (values_law (before 10 t)))

-- the calls from line n on
abbrev CallsFault : ℕ → List ℕ → FileFault → Type 0
CallsFault n t f =
    (f.file ≡ Script) × (n ≤ f.line) × ((k : ℕ) → n ≤ k → k < f.line → is_ok (read_call k (past_lines (k - n) t)) ≡ true)
    × GoodValues (before 10 (past_lines (f.line - n) t)) f.column

abbrev CallsLaw : {T : Type 0} → ℕ → List ℕ → Result T FileFault → Type 0
CallsLaw n t (Ok x) = Unit {0}
CallsLaw n t (Err f) = CallsFault n t f

here : (n : ℕ) (t : List ℕ) (f : FileFault) → CallFault n (before 10 t) f → CallsFault n t f
here n t f h = (
  h.0,
  omega arith,
  λ k low high. absurd (omega arith),
  subst (λ j. GoodValues (before 10 (past_lines j t)) f.column) (let z : 0 ≡ f.line - n = omega arith in z) h.2,
)

later : (n : ℕ) (t : List ℕ) (f : FileFault) → is_ok (read_call n t) ≡ true → CallsFault (n + 1) (after 10 t) f → CallsFault n t f
later n t f ok h = (
  h.0,
  omega arith,
  λ k low high. ⊎_elim
      (λ e. subst (λ j. is_ok (read_call j (past_lines (j - n) t)) ≡ true) (sym e) (subst (λ j. is_ok (read_call n (past_lines j t)) ≡ true) (let z : 0 ≡ n - n = omega arith in z) ok))
      (λ ne. subst (λ j. is_ok (read_call k (past_lines j t)) ≡ true) (let z : suc (k - (n + 1)) ≡ k - n = omega arith in z) (h.2 k (omega arith) high))
      (cases_eq k n),
  subst (λ j. GoodValues (before 10 (past_lines j t)) f.column) (let z : suc (f.line - (n + 1)) ≡ f.line - n = omega arith in z) h.3,
)

first_then : (n : ℕ) (t : List ℕ) (c : Result Said FileFault) (r : Result (List Said) FileFault) → (is_ok c ≡ true → is_ok (read_call n t) ≡ true) → CallLaw n (before 10 t) c
    → CallsLaw (n + 1) (after 10 t) r → CallsLaw n t (then c (λ x. ahead (x ∷ []) r))
first_then n t (Ok x) (Ok xs) ok l h = tt
first_then n t (Ok x) (Err f) ok l h = later n t f (ok refl) h
first_then n t (Err f) r ok l h = here n t f l

some_law : (n : ℕ) (t : List ℕ) (b : Bool) (r : Result (List Said) FileFault) → CallsLaw n t r → CallsLaw n t (cond b (Ok []) r)
some_law n t true r h = tt
some_law n t false r h = h

calls_law : (k n : ℕ) (t : List ℕ) → CallsLaw n t (read_calls k n t)
unfolding read_calls
calls_law zero n t = some_law n t (eqb (length t) 0) (Err record { fault = WrongCount; file = Script; line = n; column = 0 }) (here n t record { fault = WrongCount; file = Script; line = n; column = 0 } (refl, refl, none (before 10 t) 0 (omega arith)))
calls_law (suc k) n t =
    some_law n t (eqb (length t) 0) _ (first_then n t (read_call n t) (read_calls k (n + 1) (after 10 t)) (λ e. e) (call_law n t) (calls_law k (n + 1) (after 10 t)))

abbrev pub ScriptLaw : {T : Type 0} → List ℕ → Result T FileFault → Type 0
ScriptLaw text (Ok x) = Unit {0}
ScriptLaw text (Err f) = FirstInScript text f

not_named : (text : List ℕ) → FirstInScript text record { fault = NamesDiffer; file = Script; line = 1; column = 0 }
not_named text = record { file = refl; names = λ z. absurd (omega arith); earlier = λ k low high. absurd (omega arith); values = λ k low high. absurd (omega arith) }

from_calls : (text : List ℕ) (r : Result (List Said) FileFault) → is_ok (read_names script_names text) ≡ true → CallsLaw 2 (after 10 text) r → ScriptLaw text r
from_calls text (Ok xs) n h = tt
from_calls text (Err f) n h = record {
  file = h.0;
  names = λ _. n;
  earlier = λ k low high. subst (λ j. is_ok (read_call k (past_lines j text)) ≡ true) (let z : suc (k - 2) ≡ k - 1 = omega arith in z) (h.2 k low high);
  values = subst (λ j. GoodValues (before 10 (past_lines j text)) f.column) (let z : suc (f.line - 2) ≡ f.line - 1 = omega arith in z) h.3;
}

names_law : (text : List ℕ) (b c : Bool) (r : Result (List Said) FileFault) → (is_ok (named_by b c) ≡ true → ScriptLaw text r)
    → ScriptLaw text (then (on_line (named_by b c) Script 1) (λ _. r))
names_law text true c r h = not_named text
names_law text false true r h = h refl
names_law text false false r h = not_named text

pub script_first : (text : List ℕ) → ScriptLaw text (read_script text)
script_first text =
    names_law text (eqb (count_of 10 text) 0) (bytes_eq (before 10 text) script_names) (read_calls 800 2 (after 10 text))
    (λ n. from_calls text (read_calls 800 2 (after 10 text)) n (calls_law 800 2 (after 10 text)))

-- what the answer of the reader says, once it is known to be the definition's
pub script_first_fault : {T : Type 0} (P : Type 0) (text : List ℕ) (g : T → List Said) (r : Result T ScriptError) → Answers g (read_script text) P r → IfErr r (by_fault_first text)
script_first_fault P text g (Ok v) h = tt
script_first_fault P text g (Err (Cause f)) h = subst (ScriptLaw text) h (script_first text)
script_first_fault P text g (Err NoMemory) h = tt
