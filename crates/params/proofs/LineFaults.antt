-- The fault of a line is its first.
use Rattle.std.proofs.Common.{◌≡◌, ℕ, ◌+◌, ◌≤◌, List, Ok, Err, Result, sym, refl, subst, ⊎_elim, arith}
use Rattle.std.proofs.lemmas.Bool.{cases_eq}
use Rattle.terms.specs.Outcomes.{then}
use Rattle.terms.specs.declared.identifier.Identifier.{Identifier}
use Rattle.terms.specs.declared.role.Role.{Role}
use Rattle.terms.specs.declared.role.Role.TheVariants.{Initiator, Responder}
use Rattle.texts.specs.declared.fault.Fault.{Fault}
use Rattle.texts.specs.declared.fault.LineFault.{LineFault}
use Rattle.texts.specs.Columns.{text_in, number_in}
use Rattle.texts.specs.Faults.{at_column, verdict}
use Rattle.texts.specs.Numbers.{read_number, read_below, read_hex}
use Rattle.params.specs.Columns.{versions, periods, windows, mmins, mmaxs, asks, waits, setups, datas, ecs}
use Rattle.params.specs.FirstFault.{judged, GoodBefore, FirstInLine}
use Rattle.params.specs.Lines.{role_column, read_values}

module _ (role : Role) (line : List ℕ) where
  -- an answer names the first fault, or the values before column n are good
  abbrev pub Firsts : {T : Type 0} → ℕ → Result T LineFault → Type 0
  Firsts n (Ok x) = GoodBefore role line n
  Firsts n (Err f) = FirstInLine role line f

  more : (n : ℕ) → GoodBefore role line n → judged role line n ≡ Ok tt → GoodBefore role line (n + 1)
  more n g h k low high = ⊎_elim (λ e. subst (λ j. judged role line j ≡ Ok tt) (sym e) h) (λ ne. g k low (omega arith)) (cases_eq k n)

  -- one column after those before it
  step : {T U : Type 0} (n m : ℕ) (r : Result T Fault) (f : T → Result U LineFault) → 1 ≤ n → judged role line n ≡ verdict r → GoodBefore role line n
      → ((x : T) → GoodBefore role line (n + 1) → Firsts m (f x)) → Firsts m (then (at_column r n) f)
  step n m (Ok x) f low j g next = next x (more n g j)
  step n m (Err e) f low j g next = record { earlier = g; here = λ _. j; whole = λ z. absurd (omega arith) }

  -- one group of columns after those before it
  pub steps : {T U : Type 0} (n m : ℕ) (r : Result T LineFault) (f : T → Result U LineFault) → Firsts n r
      → ((x : T) → r ≡ Ok x → GoodBefore role line n → Firsts m (f x)) → Firsts m (then r f)
  steps n m (Ok x) f h next = next x refl h
  steps n m (Err e) f h next = h

  none : GoodBefore role line 1
  none k low high = absurd (omega arith)

  -- the two halves of an identifier after the columns before them
  halves : {U : Type 0} (n m : ℕ) (r s : Result ℕ Fault) (f : Identifier → Result U LineFault) → 1 ≤ n → judged role line n ≡ verdict r → judged role line (n + 1) ≡ verdict s
      → GoodBefore role line n → ((i : Identifier) → GoodBefore role line (n + 1 + 1) → Firsts m (f i))
      → Firsts m (then (then (at_column r n) (λ a. then (at_column s (n + 1)) (λ b. Ok record { first = a; second = b }))) f)
  halves n m (Ok a) (Ok b) f low j k g next = next record { first = a; second = b } (more (n + 1) (more n g j) k)
  halves n m (Ok a) (Err e) f low j k g next = record { earlier = more n g j; here = λ _. k; whole = λ z. absurd (omega arith) }
  halves n m (Err e) s f low j k g next = record { earlier = g; here = λ _. j; whole = λ z. absurd (omega arith) }

-- the role's column comes first
role_first : {U : Type 0} (role : Role) (line : List ℕ) (f : ℕ → Result U LineFault) → ((x : ℕ) → GoodBefore role line 2 → Firsts role line 16 (f x))
    → Firsts role line 16 (then (number_in (role_column role) line) f)
role_first Initiator line f next = step Initiator line 1 16 (read_number (role_column Initiator).range (text_in 1 line)) f (omega arith) refl (none Initiator line) next
role_first Responder line f next = step Responder line 1 16 (read_number (role_column Responder).range (text_in 1 line)) f (omega arith) refl (none Responder line) next

pub values_first : (role : Role) (line : List ℕ) → Firsts role line 16 (read_values role line)
values_first role line =
    role_first role line _ (λ _ g.
    halves role line 2 16 (read_hex (text_in 2 line)) (read_hex (text_in 3 line)) _ (omega arith) refl refl g (λ own g.
    halves role line 4 16 (read_hex (text_in 4 line)) (read_hex (text_in 5 line)) _ (omega arith) refl refl g (λ far g.
    step role line 6 16 (read_number versions.range (text_in 6 line)) _ (omega arith) refl g (λ version g.
    step role line 7 16 (read_number periods.range (text_in 7 line)) _ (omega arith) refl g (λ period g.
    step role line 8 16 (read_number windows.range (text_in 8 line)) _ (omega arith) refl g (λ window g.
    step role line 9 16 (read_below mmins.range (text_in 9 line)) _ (omega arith) refl g (λ mmin g.
    step role line 10 16 (read_number mmaxs.range (text_in 10 line)) _ (omega arith) refl g (λ mmax g.
    step role line 11 16 (read_number asks.range (text_in 11 line)) _ (omega arith) refl g (λ ask g.
    step role line 12 16 (read_number waits.range (text_in 12 line)) _ (omega arith) refl g (λ wait g.
    step role line 13 16 (read_number setups.range (text_in 13 line)) _ (omega arith) refl g (λ setup g.
    step role line 14 16 (read_number datas.range (text_in 14 line)) _ (omega arith) refl g (λ longest g.
    step role line 15 16 (read_number ecs.range (text_in 15 line)) _ (omega arith) refl g (λ ec g. g)))))))))))))
