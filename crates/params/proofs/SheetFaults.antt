-- The fault of a sheet is its first.
use Rattle.std.proofs.Common.{◌≡◌, ℕ, zero, suc, ◌-◌, ◌<◌, ◌≤◌, Bool, true, false, cond, eqb, ◌⊎◌, List, [], ◌∷◌, length, get_or, ℤ, is_ok, IfErr, Ok, Err, Result, sym, refl, ◌∙◌, subst, inl, inr, ⊎_elim, arith}
use Rattle.std.proofs.lemmas.Bool.{eqb-true, eqb-false}
use Rattle.std.specs.Str.{bytes_eq}
use Rattle.terms.specs.Outcomes.{then}
use Rattle.terms.specs.declared.role.Role.{Role}
use Rattle.terms.specs.declared.role.Role.TheVariants.{Initiator, Responder}
use Rattle.texts.specs.declared.columns.Column.{Column}
use Rattle.texts.specs.declared.fault.Fault.TheVariants.{WrongCount, DifferingBits}
use Rattle.texts.specs.declared.fault.File.TheVariants.{Sheet}
use Rattle.texts.specs.declared.fault.LineFault.{LineFault}
use Rattle.texts.specs.declared.fault.FileFault.{FileFault}
use Rattle.texts.specs.Columns.{text_in, number_in, below_in}
use Rattle.texts.specs.Faults.{whole_line, on_line}
use Rattle.texts.specs.Numbers.{within, read_number, read_below}
use Rattle.texts.specs.Pieces.{before, after, count_of}
use Rattle.texts.proofs.HexTrips.{then_at, below_kept_in}
use Rattle.texts.proofs.Trips.{number_parts}
use Rattle.params.specs.declared.values.Values.{Values}
use Rattle.params.specs.Made.{Sheet as SheetSets, sheet_values}
use Rattle.params.specs.Checks.{kept, kept_below, apart, checked}
use Rattle.params.specs.Columns.{names, differing, distance, versions, periods, windows, mmins, mmaxs, asks, waits, setups, datas, ecs}
use Rattle.params.specs.FirstFault.{GoodBefore, FirstInLine, from_line, good_lines, role_of, not_names, not_ended, one_more, in_line, FirstFault}
use Rattle.params.specs.Lines.{read_values, read_line}
use Rattle.params.specs.Sheets.{read_row, read_rows, read_sheet}
use Rattle.params.proofs.Outcomes.{ended_by, named_by, at_parts}
use Rattle.params.proofs.LineFaults.{Firsts, steps, values_first}
use Rattle.params.proofs.LineValues.{ColumnsRead, values_were}
use Rattle.params.proofs.LineRead.{kept_at, below_kept}

-- a value that was read passes the check of a parameter set
number_kept : (c : Column) (line : List ℕ) (n : ℕ) → number_in c line ≡ Ok n → kept c n ≡ Ok tt
number_kept c line n e = kept_at c n (number_parts c.range (text_in c.place line) n (at_parts (read_number c.range (text_in c.place line)) c.place n e)).2

mmin_kept : (line : List ℕ) (z : ℤ) → below_in mmins line ≡ Ok z → kept_below mmins z ≡ Ok tt
mmin_kept line z e = below_kept z (below_kept_in mmins.range (text_in 9 line) z (at_parts (read_below mmins.range (text_in 9 line)) 9 z e))

-- the differing bits, which alone are left to check
abbrev bits : Values → Result Values LineFault
bits v = then (apart v.own.first v.far.first) (λ _. then (apart v.own.second v.far.second) (λ _. Ok v))

only_bits : (role : Role) (line : List ℕ) (v : Values) → ColumnsRead role line v → checked v ≡ bits v
only_bits role line v r =
    then_at _ (number_kept versions line v.version r.version)
    ∙ then_at _ (number_kept periods line v.period.0 r.period)
    ∙ then_at _ (number_kept windows line v.window r.window)
    ∙ then_at _ (mmin_kept line v.mmin r.mmin)
    ∙ then_at _ (number_kept mmaxs line v.mmax r.mmax)
    ∙ then_at _ (number_kept asks line v.ask.0 r.ask)
    ∙ then_at _ (number_kept waits line v.wait.0 r.wait)
    ∙ then_at _ (number_kept setups line v.setup.0 r.setup)
    ∙ then_at _ (number_kept datas line v.longest r.longest)
    ∙ then_at _ (number_kept ecs line v.ec.0 r.ec)

bits_by : (role : Role) (line : List ℕ) (b : Bool) (f : Unit {0} → Result Values LineFault) → GoodBefore role line 16 → (GoodBefore role line 16 → Firsts role line 16 (f tt))
    → Firsts role line 16 (then (cond b (Ok tt) (Err (whole_line DifferingBits))) f)
bits_by role line true f g next = next g
bits_by role line false f g next = record { earlier = λ k low high. absurd (omega arith); here = λ z. absurd (omega arith); whole = λ _. inr (refl, g) }

bits_first : (role : Role) (line : List ℕ) (own far : ℕ) (f : Unit {0} → Result Values LineFault) → GoodBefore role line 16 → (GoodBefore role line 16 → Firsts role line 16 (f tt))
    → Firsts role line 16 (then (apart own far) f)
bits_first role line own far f g next = bits_by role line (within differing (distance own far)) f g next

counted_first : (role : Role) (line : List ℕ) (b : Bool) (r : Result Values LineFault) → eqb (count_of 32 line) 14 ≡ b → Firsts role line 16 r
    → Firsts role line 16 (cond b r (Err (whole_line WrongCount)))
counted_first role line true r e h = h
counted_first role line false r e h = record { earlier = λ k low high. absurd (omega arith); here = λ z. absurd (omega arith); whole = λ _. inl (refl, eqb-false _ _ e) }

pub line_first : (role : Role) (line : List ℕ) → Firsts role line 16 (read_line role line)
line_first role line =
    counted_first role line (eqb (count_of 32 line) 14) _ refl
    (steps role line 16 16 (read_values role line) checked (values_first role line) (λ v e g.
    subst (Firsts role line 16) (sym (only_bits role line v (values_were role line v e)))
    (bits_first role line v.own.first v.far.first (λ _. then (apart v.own.second v.far.second) (λ _. Ok v)) g
    (λ g. bits_first role line v.own.second v.far.second (λ _. Ok v) g (λ g. g)))))

-- what the fault of one of the two lines says
abbrev RowFault : Role → ℕ → List ℕ → FileFault → Type 0
RowFault role n t f =
    (f.file ≡ Sheet) × (f.line ≡ n)
    × (((f.fault ≡ WrongCount) × (f.column ≡ 0) × (count_of 10 t ≡ 0)) ⊎ FirstInLine role (before 10 t) record { fault = f.fault; column = f.column })

abbrev RowLaw : Role → ℕ → List ℕ → Result Values FileFault → Type 0
RowLaw role n t (Ok v) = Unit {0}
RowLaw role n t (Err f) = RowFault role n t f

line_law : (role : Role) (n : ℕ) (t : List ℕ) (r : Result Values LineFault) → Firsts role (before 10 t) 16 r → RowLaw role n t (on_line r Sheet n)
line_law role n t (Ok v) h = tt
line_law role n t (Err f) h = (refl, refl, inr h)

end_law : (role : Role) (n : ℕ) (t : List ℕ) (b : Bool) (r : Result Values FileFault) → eqb (count_of 10 t) 0 ≡ b → RowLaw role n t r
    → RowLaw role n t (then (on_line (ended_by b) Sheet n) (λ _. r))
end_law role n t true r e h = (refl, refl, inl (refl, refl, eqb-true _ _ e))
end_law role n t false r e h = h

row_law : (role : Role) (n : ℕ) (t : List ℕ) → RowLaw role n t (read_row role n t)
row_law role n t =
    end_law role n t (eqb (count_of 10 t) 0) (on_line (read_line role (before 10 t)) Sheet n) refl
    (line_law role n t (read_line role (before 10 t)) (line_first role (before 10 t)))

-- the first n lines are good
abbrev Goods : ℕ → List Bool → Type 0
Goods zero gs = Unit {0}
Goods (suc n) [] = ⊥
Goods (suc n) (g ∷ gs) = (g ≡ true) × Goods n gs

goods_at : (n : ℕ) (gs : List Bool) → Goods n gs → (j : ℕ) → j < n → get_or gs j false ≡ true
goods_at zero gs h j l = absurd (omega arith)
goods_at (suc n) [] h j l = absurd h
goods_at (suc n) (g ∷ gs) h zero l = h.0
goods_at (suc n) (g ∷ gs) h (suc j) l = goods_at n gs h.1 j (omega arith)

earlier_lines : (text : List ℕ) (n m : ℕ) → m ≡ suc n → Goods n (good_lines text) → (k : ℕ) → 1 ≤ k → k < m → get_or (good_lines text) (k - 1) false ≡ true
earlier_lines text n m e g k low high = goods_at n (good_lines text) g (k - 1) (omega arith)

abbrev pub SheetLaw : List ℕ → Result (Values × Values) FileFault → Type 0
SheetLaw text (Ok x) = Unit {0}
SheetLaw text (Err f) = FirstFault text f

-- a fault of line 2 or 3 of a sheet
row_first : (text : List ℕ) (n : ℕ) (role : Role) (f : FileFault) → (2 ≤ suc n) × (suc n ≤ 3) → role ≡ role_of (suc n) → Goods n (good_lines text)
    → RowFault role (suc n) (from_line (suc n) text) f → FirstFault text f
row_first text n role f low r g h = record {
  file = h.0;
  earlier = earlier_lines text n f.line h.1 g;
  here = ⊎_elim
      (λ u. not_ended (subst (λ m. (2 ≤ m) × (m ≤ 3)) (sym h.1) low) u.0 u.1 (subst (λ m. count_of 10 (from_line m text) ≡ 0) (sym h.1) u.2))
      (λ l. in_line (subst (λ m. (2 ≤ m) × (m ≤ 3)) (sym h.1) low)
      (subst (λ m. FirstInLine (role_of m) (before 10 (from_line m text)) record { fault = f.fault; column = f.column }) (sym h.1)
      (subst (λ q. FirstInLine q (before 10 (from_line (suc n) text)) record { fault = f.fault; column = f.column }) r l)))
      h.2;
}

row_step : (text : List ℕ) (n : ℕ) (role : Role) (r : Result Values FileFault) (f : Values → Result (Values × Values) FileFault)
    → (2 ≤ suc n) × (suc n ≤ 3) → role ≡ role_of (suc n) → Goods n (good_lines text) → RowLaw role (suc n) (from_line (suc n) text) r
    → ((v : Values) → is_ok r ≡ true → SheetLaw text (f v)) → SheetLaw text (then r f)
row_step text n role (Ok v) f low e g h next = next v refl
row_step text n role (Err w) f low e g h next = row_first text n role w low e g h

more_step : (text : List ℕ) (x : Values × Values) (b : Bool) → eqb (length (from_line 4 text)) 0 ≡ b → Goods 3 (good_lines text)
    → SheetLaw text (cond b (Ok x) (on_line (Err (whole_line WrongCount)) Sheet 4))
more_step text x true e g = tt
more_step text x false e g = record { file = refl; earlier = earlier_lines text 3 4 refl g; here = one_more refl refl refl (eqb-false _ _ e) }

names_step : (text : List ℕ) (b c : Bool) (r : Result (Values × Values) FileFault)
    → (is_ok (named_by b c) ≡ true → SheetLaw text r)
    → SheetLaw text (then (on_line (named_by b c) Sheet 1) (λ _. r))
names_step text true c r h = record { file = refl; earlier = earlier_lines text 0 1 refl tt; here = not_names refl refl refl }
names_step text false true r h = h refl
names_step text false false r h = record { file = refl; earlier = earlier_lines text 0 1 refl tt; here = not_names refl refl refl }

pub sheet_first : (text : List ℕ) → SheetLaw text (read_sheet text)
sheet_first text =
    names_step text (eqb (count_of 10 text) 0) (bytes_eq (before 10 text) names) (read_rows (after 10 text)) (λ n.
    row_step text 1 Initiator (read_row Initiator 2 (after 10 text)) _ (omega arith, omega arith) refl (n, tt) (row_law Initiator 2 (after 10 text)) (λ a i.
    row_step text 2 Responder (read_row Responder 3 (after 10 (after 10 text))) _ (omega arith, omega arith) refl (n, (i, tt)) (row_law Responder 3 (after 10 (after 10 text))) (λ b r.
    more_step text (a, b) (eqb (length (from_line 4 text)) 0) refl (n, (i, (r, tt))))))

pub sheet_first_fault : (text : List ℕ) (r : Result SheetSets FileFault) → sheet_values r ≡ read_sheet text → IfErr r (λ f. FirstFault text f)
sheet_first_fault text (Ok s) e = tt
sheet_first_fault text (Err f) e = subst (SheetLaw text) (sym e) (sheet_first text)
