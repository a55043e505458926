-- A line that was read is written as it stood.
use Rattle.std.proofs.Common.{◌≡◌, ℕ, ◌^◌, ◌<◌, ◌≤◌, List, ◌∷◌, ◌++◌, ℤ, Ok, decimal, sym, ap, ◌∙◌, append_assoc, lit<, lit≤, arith}
use Rattle.std.proofs.lemmas.Bool.{eqb-true}
use Rattle.std.specs.Fmt.{signed_decimal}
use Rattle.terms.specs.declared.role.Role.{Role}
use Rattle.terms.specs.declared.role.Role.TheVariants.{Initiator, Responder}
use Rattle.texts.specs.declared.columns.Column.{Column}
use Rattle.texts.specs.Columns.{text_in, number_in, below_in, hex_in}
use Rattle.texts.specs.Numbers.{read_number, read_below, read_hex}
use Rattle.texts.specs.Writing.{hex_text}
use Rattle.texts.proofs.HexTrips.{then_parts, hex_back, below_back}
use Rattle.texts.proofs.Joins.{values_text, values_back}
use Rattle.texts.proofs.Trips.{number_back, number_parts}
use Rattle.params.specs.declared.values.Values.{Values}
use Rattle.params.specs.Checks.{kept, kept_below, apart, checked}
use Rattle.params.specs.Columns.{versions, periods, windows, mmins, mmaxs, asks, waits, setups, datas, ecs}
use Rattle.params.specs.Lines.{role_column, read_values, read_line}
use Rattle.params.specs.Writing.{role_number, line_text}
use Rattle.params.proofs.LineValues.{ColumnsRead, values_were}
use Rattle.params.proofs.Outcomes.{ok_same, at_parts, cond_ok}

number_was : (c : Column) (line : List ℕ) (n : ℕ) → c.range.high < 2 ^ 64 → number_in c line ≡ Ok n → decimal n ≡ text_in c.place line
number_was c line n h e = number_back c.range (text_in c.place line) n h (at_parts (read_number c.range (text_in c.place line)) c.place n e)

below_was : (c : Column) (line : List ℕ) (z : ℤ) → c.range.high < 2 ^ 64 → 1 ≤ c.range.low → below_in c line ≡ Ok z → signed_decimal z ≡ text_in c.place line
below_was c line z h l e = below_back c.range (text_in c.place line) z h l (at_parts (read_below c.range (text_in c.place line)) c.place z e)

hex_was : (place : ℕ) (line : List ℕ) (n : ℕ) → hex_in place line ≡ Ok n → hex_text n ≡ text_in place line
hex_was place line n e = hex_back (text_in place line) n (at_parts (read_hex (text_in place line)) place n e)

-- the role is the line's own
role_was : (role : Role) (line : List ℕ) (n : ℕ) → number_in (role_column role) line ≡ Ok n → decimal (role_number role) ≡ text_in 1 line
role_was Initiator line n e =
    let w = (number_parts (role_column Initiator).range (text_in 1 line) n (at_parts (read_number (role_column Initiator).range (text_in 1 line)) 1 n e)).2 in
    let one : 1 ≡ n = omega arith in
    ap decimal one ∙ number_was (role_column Initiator) line n (omega arith) e
role_was Responder line n e =
    let w = (number_parts (role_column Responder).range (text_in 1 line) n (at_parts (read_number (role_column Responder).range (text_in 1 line)) 1 n e)).2 in
    let none : 0 ≡ n = omega arith in
    ap decimal none ∙ number_was (role_column Responder) line n (omega arith) e

joins : {a b s t : List ℕ} → a ≡ b → s ≡ t → a ++ (32 ∷ s) ≡ b ++ (32 ∷ t)
joins {b = b} {s = s} e r = ap (λ l. l ++ (32 ∷ s)) e ∙ ap (λ l. b ++ (32 ∷ l)) r

-- the values one behind another, as they stood
line_was : (role : Role) (line : List ℕ) (v : Values) → ColumnsRead role line v → line_text role v ≡ values_text 14 line
line_was role line v r =
    simp append_assoc
    (joins (role_was role line r.number r.role_read)
    (joins (hex_was 2 line v.own.first r.own1)
    (joins (hex_was 3 line v.own.second r.own2)
    (joins (hex_was 4 line v.far.first r.far1)
    (joins (hex_was 5 line v.far.second r.far2)
    (joins (number_was versions line v.version (lit< tt) r.version)
    (joins (number_was periods line v.period.0 (lit< tt) r.period)
    (joins (number_was windows line v.window (lit< tt) r.window)
    (joins (below_was mmins line v.mmin (lit< tt) (lit≤ tt) r.mmin)
    (joins (number_was mmaxs line v.mmax (lit< tt) r.mmax)
    (joins (number_was asks line v.ask.0 (lit< tt) r.ask)
    (joins (number_was waits line v.wait.0 (lit< tt) r.wait)
    (joins (number_was setups line v.setup.0 (lit< tt) r.setup)
    (joins (number_was datas line v.longest (lit< tt) r.longest)
    (number_was ecs line v.ec.0 (lit< tt) r.ec)))))))))))))))

-- checking changes no value
pub checked_same : (w v : Values) → checked w ≡ Ok v → w ≡ v
checked_same w v e =
    let a = then_parts (kept versions w.version) _ v e in
    let b = then_parts (kept periods w.period.0) _ v a.2 in
    let c = then_parts (kept windows w.window) _ v b.2 in
    let d = then_parts (kept_below mmins w.mmin) _ v c.2 in
    let f = then_parts (kept mmaxs w.mmax) _ v d.2 in
    let g = then_parts (kept asks w.ask.0) _ v f.2 in
    let h = then_parts (kept waits w.wait.0) _ v g.2 in
    let i = then_parts (kept setups w.setup.0) _ v h.2 in
    let j = then_parts (kept datas w.longest) _ v i.2 in
    let k = then_parts (kept ecs w.ec.0) _ v j.2 in
    let l = then_parts (apart w.own.first w.far.first) _ v k.2 in
    let m = then_parts (apart w.own.second w.far.second) _ v l.2 in
    ok_same m.2

pub line_back : (role : Role) (line : List ℕ) (v : Values) → read_line role line ≡ Ok v → line_text role v ≡ line
line_back role line v e =
    let p = cond_ok _ _ _ v e in
    let r = then_parts (read_values role line) checked v p.1 in
    ap (line_text role) (sym (checked_same r.0 v r.2)) ∙ line_was role line r.0 (values_were role line r.0 r.1) ∙ values_back 14 line (eqb-true _ _ p.0)
