-- A sheet that is written reads back, and a sheet that was read is written as it stood.
use Rattle.std.proofs.Common.{◌≡◌, ℕ, Bool, true, false, cond, eqb, ◌≢◌, List, [], ◌∷◌, ◌++◌, length, IfOk, Ok, Err, Result, sym, refl, ap, ◌∙◌, arith}
use Rattle.std.proofs.lemmas.Slice.Eq.{bytes_eq-Decides}
use Rattle.std.proofs.lemmas.List.{nil_from_length}
use Rattle.std.proofs.lemmas.Bool.{cond-true, cond-false, eqb-true, eqb-false, ne_eqb}
use Rattle.std.specs.Str.{bytes_eq}
use Rattle.terms.specs.declared.role.Role.{Role}
use Rattle.terms.specs.declared.role.Role.TheVariants.{Initiator, Responder}
use Rattle.texts.specs.declared.fault.File.TheVariants.{Sheet}
use Rattle.texts.specs.declared.fault.Fault.TheVariants.{NamesDiffer, WrongCount}
use Rattle.texts.specs.Faults.{on_line, whole_line}
use Rattle.texts.specs.Headings.{read_names, read_end}
use Rattle.texts.specs.Pieces.{before, after, count_of}
use Rattle.texts.proofs.HexTrips.{then_parts, then_at}
use Rattle.texts.proofs.Joins.{count_join, before_join, after_join, cut_back}
use Rattle.params.specs.declared.params.Params.{Params}
use Rattle.params.specs.Made.{Sheet as SheetSets, both_values, sheet_values}
use Rattle.texts.specs.declared.fault.FileFault.{FileFault}
use Rattle.params.specs.declared.values.Values.{Values}
use Rattle.params.specs.Columns.{names}
use Rattle.params.specs.Lines.{read_line}
use Rattle.params.specs.Sheets.{no_more, read_row, read_rows, read_sheet}
use Rattle.params.specs.Writing.{line_text, sheet_text}
use Rattle.params.proofs.Outcomes.{ok_same, on_parts, on_ok, cond_ok}
use Rattle.params.proofs.LineBack.{line_back}
use Rattle.params.proofs.LineRead.{line_reads, line_free}

cond_err : {T E : Type 0} (b : Bool) (x : Result T E) (w : E) (y : T) → cond b (Err w) x ≡ Ok y → (b ≡ false) × (x ≡ Ok y)
cond_err true x w y e = absurd (grind arith)
cond_err false x w y e = (refl, e)

some_line : (a b : List ℕ) → count_of 10 (a ++ 10 ∷ b) ≢ 0
some_line a b z = let e = count_join 10 a (10 ∷ b) in omega arith

-- read and written again
end_parts : (t : List ℕ) (u : Unit {0}) → read_end t ≡ Ok u → count_of 10 t ≢ 0
end_parts t u e = eqb-false _ _ (cond_err (eqb (count_of 10 t) 0) (Ok tt) (whole_line WrongCount) u e).0

names_back : (w t : List ℕ) (u : Unit {0}) → read_names w t ≡ Ok u → w ++ 10 ∷ after 10 t ≡ t
names_back w t u e =
    let p = cond_err (eqb (count_of 10 t) 0) (cond (bytes_eq (before 10 t) w) (Ok tt) (Err (whole_line NamesDiffer))) (whole_line NamesDiffer) u e in
    let q = cond_ok (bytes_eq (before 10 t) w) (Ok tt) (whole_line NamesDiffer) u p.1 in
    ap (λ s. s ++ 10 ∷ after 10 t) (sym ((bytes_eq-Decides (before 10 t) w).0 q.0)) ∙ cut_back 10 t (eqb-false _ _ p.0)

row_back : (role : Role) (n : ℕ) (t : List ℕ) (v : Values) → read_row role n t ≡ Ok v → line_text role v ++ 10 ∷ after 10 t ≡ t
row_back role n t v e =
    let p = then_parts (on_line (read_end t) Sheet n) _ v e in
    let l = on_parts (read_line role (before 10 t)) Sheet n v p.2 in
    ap (λ s. s ++ 10 ∷ after 10 t) (line_back role (before 10 t) v l)
    ∙ cut_back 10 t (end_parts t p.0 (on_parts (read_end t) Sheet n p.0 p.1))

more_parts : (x y : Values × Values) (t : List ℕ) → no_more x t ≡ Ok y → (t ≡ []) × (x ≡ y)
more_parts x y t e =
    let p = cond_ok (eqb (length t) 0) (Ok x) _ y e in
    (nil_from_length t (eqb-true _ _ p.0), ok_same p.1)

pub sheet_back : (text : List ℕ) (x : Values × Values) → read_sheet text ≡ Ok x → sheet_text x ≡ text
sheet_back text x e =
    let n = then_parts (on_line (read_names names text) Sheet 1) _ x e in
    let t = after 10 text in
    let a = then_parts (read_row Initiator 2 t) _ x n.2 in
    let b = then_parts (read_row Responder 3 (after 10 t)) _ x a.2 in
    let m = more_parts (a.0, b.0) x (after 10 (after 10 t)) b.2 in
    let last : line_text Responder b.0 ++ (10 ∷ []) ≡ after 10 t =
    ap (λ s. line_text Responder b.0 ++ 10 ∷ s) (sym m.0) ∙ row_back Responder 3 (after 10 t) b.0 b.1 in
    ap sheet_text (sym m.1)
    ∙ ap (λ s. names ++ (10 ∷ (line_text Initiator a.0 ++ (10 ∷ s)))) last
    ∙ ap (λ s. names ++ (10 ∷ s)) (row_back Initiator 2 t a.0 a.1)
    ∙ names_back names text n.0 (on_parts (read_names names text) Sheet 1 n.0 n.1)

-- written and read back
names_read : (w b : List ℕ) → count_of 10 w ≡ 0 → read_names w (w ++ 10 ∷ b) ≡ Ok tt
names_read w b f =
    cond-false _ _ _ (ne_eqb _ _ (some_line w b))
    ∙ cond-true _ _ _ ((bytes_eq-Decides (before 10 (w ++ 10 ∷ b)) w).1 (before_join 10 w b f))

row_reads : (role : Role) (n : ℕ) (p : Params) (b : List ℕ) → read_row role n (line_text role p.values ++ 10 ∷ b) ≡ Ok p.values
row_reads role n p b =
    let a = line_text role p.values in
    then_at _ (on_ok Sheet n (cond-false _ _ _ (ne_eqb _ _ (some_line a b))))
    ∙ on_ok Sheet n (ap (read_line role) (before_join 10 a b (line_free role p)) ∙ line_reads role p)

pub sheet_reads : (a b : Params) → read_sheet (sheet_text (a.values, b.values)) ≡ Ok (a.values, b.values)
sheet_reads a b =
    let i = line_text Initiator a.values in
    let r = line_text Responder b.values in
    let u = r ++ (10 ∷ []) in
    let t = i ++ (10 ∷ u) in
    let e : after 10 (names ++ 10 ∷ t) ≡ t = after_join 10 names t refl in
    let f : after 10 t ≡ u = after_join 10 i u (line_free Initiator a) in
    let g : after 10 u ≡ [] = after_join 10 r [] (line_free Responder b) in
    then_at _ (on_ok Sheet 1 (names_read names t refl)) ∙ ap read_rows e
    ∙ then_at _ (row_reads Initiator 2 a u)
    ∙ then_at _ (ap (read_row Responder 3) f ∙ row_reads Responder 3 b [])
    ∙ ap (no_more (a.values, b.values)) (ap (after 10) f ∙ g)

-- what the answer of the reader says of the text, once it is known to be the definition's
pub sheet_rewritten : (text : List ℕ) (r : Result SheetSets FileFault) → sheet_values r ≡ read_sheet text → IfOk r (λ s. sheet_text (both_values s) ≡ text)
sheet_rewritten text (Ok s) e = sheet_back text (both_values s) (sym e)
sheet_rewritten text (Err f) e = tt
