-- A line that is written reads back as its values.
use Rattle.std.proofs.Common.{◌≡◌, ℕ, ◌^◌, ◌<◌, ◌≤◌, List, [], ◌∷◌, get_or, ℤ, pos, negsuc, Ok, decimal, sym, refl, ap, ◌∙◌, subst, append_assoc, arith}
use Rattle.std.proofs.lemmas.Int.{ints}
use Rattle.std.proofs.lemmas.Bool.{cond-true, eq-eqb, and_from, le-leb}
use Rattle.std.proofs.lemmas.Bool.Decides.{nat_tests}
use Rattle.std.specs.Fmt.{signed_decimal}
use Rattle.terms.specs.declared.role.Role.{Role}
use Rattle.terms.specs.declared.role.Role.TheVariants.{Initiator, Responder}
use Rattle.texts.specs.declared.columns.Column.{Column}
use Rattle.texts.specs.Columns.{text_in, number_in, below_in, hex_in}
use Rattle.texts.specs.Numbers.{Within, read_number, read_below, read_hex}
use Rattle.texts.specs.Pieces.{value_at, count_of}
use Rattle.texts.specs.Writing.{hex_text}
use Rattle.texts.proofs.HexTrips.{then_at, hex_reads, hex_free, below_reads, below_free}
use Rattle.texts.proofs.Joins.{spaced, Frees, count_spaced, value_spaced, spaced_free}
use Rattle.texts.proofs.Trips.{number_reads, decimal_free}
use Rattle.params.specs.declared.params.Params.{Params}
use Rattle.params.specs.declared.values.Values.{Values}
use Rattle.params.specs.Checks.{kept, kept_below, checked}
use Rattle.params.specs.Columns.{KeepsBelow, versions, periods, windows, mmins, mmaxs, asks, waits, setups, datas, ecs}
use Rattle.params.specs.Lines.{role_column, read_line}
use Rattle.params.specs.Writing.{role_number, line_text}
use Rattle.params.proofs.LineValues.{ColumnsRead, values_read}
use Rattle.params.proofs.Outcomes.{at_ok}

-- the values of a line, each as it is written
abbrev pieces : Values → List (List ℕ)
pieces v =
    hex_text v.own.first ∷ hex_text v.own.second ∷ hex_text v.far.first ∷ hex_text v.far.second
    ∷ decimal v.version ∷ decimal v.period.0 ∷ decimal v.window ∷ signed_decimal v.mmin ∷ decimal v.mmax
    ∷ decimal v.ask.0 ∷ decimal v.wait.0 ∷ decimal v.setup.0 ∷ decimal v.longest ∷ decimal v.ec.0 ∷ []

pub line_spaced : (role : Role) (v : Values) → line_text role v ≡ spaced (decimal (role_number role)) (pieces v)
line_spaced role v = simp append_assoc

-- a number below zero, as the column of mmin has it
below_is : (z : ℤ) → KeepsBelow mmins z → (j : ℕ) × (z ≡ negsuc j) × (j < 1000)
below_is (pos n) h = absurd (omega (arith, ints))
below_is (negsuc j) h = (j, refl, omega (arith, ints))

role_small : (role : Role) → role_number role < 2
role_small Initiator = omega arith
role_small Responder = omega arith

module _ (c : ℕ) (low : c < 45) (role : Role) (p : Params) where
  -- no byte below the minus stands in a value
  pub role_free : count_of c (decimal (role_number role)) ≡ 0
  role_free = decimal_free c (omega arith) (role_number role) (omega (arith, role_small role))

  mmin_free : count_of c (signed_decimal p.values.mmin) ≡ 0
  mmin_free = let b = below_is p.values.mmin p.mmin in subst (λ z. count_of c (signed_decimal z) ≡ 0) (sym b.1) (below_free c low b.0 (omega arith))

  n_free : (n : ℕ) → n ≤ 4294967295 → count_of c (decimal n) ≡ 0
  n_free n h = decimal_free c (omega arith) n (omega arith)

  h_free : (n : ℕ) → count_of c (hex_text n) ≡ 0
  h_free n = hex_free c (omega arith) n

frees : (c : ℕ) → c < 45 → (p : Params) → Frees c (pieces p.values)
frees c low p =
    let v = p.values in
    let n = n_free c low Initiator p in
    let h = h_free c low Initiator p in (
      h v.own.first,
      (
        h v.own.second,
        (
          h v.far.first,
          (
            h v.far.second,
            (
              n v.version (omega arith),
              (
                n v.period.0 (omega arith),
                (
                  n v.window (omega arith),
                  (
                    mmin_free c low Initiator p,
                    (
                      n v.mmax (omega arith),
                      (n v.ask.0 (omega arith), (n v.wait.0 (omega arith), (n v.setup.0 (omega arith), (n v.longest (omega arith), (n v.ec.0 (omega arith), tt))))),
                    ),
                  ),
                ),
              ),
            ),
          ),
        ),
      ),
    )

-- no line feed stands in a line
pub line_free : (role : Role) (p : Params) → count_of 10 (line_text role p.values) ≡ 0
line_free role p =
    ap (count_of 10) (line_spaced role p.values)
    ∙ spaced_free (decimal (role_number role)) (pieces p.values) (role_free 10 (omega arith) role p) (frees 10 (omega arith) p)

value_is : (role : Role) (p : Params) (k : ℕ) → k ≤ 14 → value_at k (line_text role p.values) ≡ get_or (decimal (role_number role) ∷ pieces p.values) k []
value_is role p k h =
    ap (value_at k) (line_spaced role p.values)
    ∙ value_spaced k (decimal (role_number role)) (pieces p.values) (role_free 32 (omega arith) role p) (frees 32 (omega arith) p) h

number_at : (c : Column) (line : List ℕ) (n : ℕ) → text_in c.place line ≡ decimal n → n < 2 ^ 64 → Within c.range n → number_in c line ≡ Ok n
number_at c line n e h w = at_ok c.place (ap (read_number c.range) e ∙ number_reads c.range n h w)

role_at : (role : Role) (line : List ℕ) → value_at 0 line ≡ decimal (role_number role) → number_in (role_column role) line ≡ Ok (role_number role)
role_at Initiator line e = number_at (role_column Initiator) line 1 e (omega arith) (omega arith, omega arith)
role_at Responder line e = number_at (role_column Responder) line 0 e (omega arith) (omega arith, omega arith)

hex_at : (place : ℕ) (line : List ℕ) (n : ℕ) → text_in place line ≡ hex_text n → n < 2 ^ 32 → hex_in place line ≡ Ok n
hex_at place line n e h = at_ok place (ap read_hex e ∙ hex_reads n h)

below_at : (line : List ℕ) (z : ℤ) → text_in 9 line ≡ signed_decimal z → KeepsBelow mmins z → below_in mmins line ≡ Ok z
below_at line z e k =
    let b = below_is z k in
    let r = below_reads mmins.range b.0 (omega arith) (omega arith, omega arith) in
    at_ok 9 (ap (read_below mmins.range) e ∙ subst (λ y. read_below mmins.range (signed_decimal y) ≡ Ok y) (sym b.1) r)

pub kept_at : (c : Column) (n : ℕ) → Within c.range n → kept c n ≡ Ok tt
kept_at c n w = cond-true _ _ _ (and_from _ _ (le-leb _ _ w.0) (le-leb _ _ w.1))

pub below_kept : (z : ℤ) → KeepsBelow mmins z → kept_below mmins z ≡ Ok tt
below_kept z h = grind (arith, nat_tests, ints)

checks : (p : Params) → checked p.values ≡ Ok p.values
checks p =
    let v = p.values in
    then_at _ (kept_at versions v.version p.version) ∙ then_at _ (kept_at periods v.period.0 p.period)
    ∙ then_at _ (kept_at windows v.window p.window) ∙ then_at _ (below_kept v.mmin p.mmin)
    ∙ then_at _ (kept_at mmaxs v.mmax p.mmax) ∙ then_at _ (kept_at asks v.ask.0 p.ask)
    ∙ then_at _ (kept_at waits v.wait.0 p.wait) ∙ then_at _ (kept_at setups v.setup.0 p.setup)
    ∙ then_at _ (kept_at datas v.longest p.longest) ∙ then_at _ (kept_at ecs v.ec.0 p.ec)
    ∙ then_at _ (cond-true _ _ _ (and_from _ _ (le-leb _ _ p.apart1.0) (le-leb _ _ p.apart1.1)))
    ∙ then_at _ (cond-true _ _ _ (and_from _ _ (le-leb _ _ p.apart2.0) (le-leb _ _ p.apart2.1)))

pub line_reads : (role : Role) (p : Params) → read_line role (line_text role p.values) ≡ Ok p.values
line_reads role p =
    let v = p.values in
    let line = line_text role v in
    let at = value_is role p in
    let count : count_of 32 line ≡ 14 = ap (count_of 32) (line_spaced role v) ∙ count_spaced (decimal (role_number role)) (pieces v) (role_free 32 (omega arith) role p) (frees 32 (omega arith) p) in
    let values : ColumnsRead role line v = record {
      number = role_number role;
      role_read = role_at role line (at 0 (omega arith));
      own1 = hex_at 2 line v.own.first (at 1 (omega arith)) p.halves1.0;
      own2 = hex_at 3 line v.own.second (at 2 (omega arith)) p.halves2.0;
      far1 = hex_at 4 line v.far.first (at 3 (omega arith)) p.halves1.1;
      far2 = hex_at 5 line v.far.second (at 4 (omega arith)) p.halves2.1;
      version = number_at versions line v.version (at 5 (omega arith)) (omega arith) p.version;
      period = number_at periods line v.period.0 (at 6 (omega arith)) (omega arith) p.period;
      window = number_at windows line v.window (at 7 (omega arith)) (omega arith) p.window;
      mmin = below_at line v.mmin (at 8 (omega arith)) p.mmin;
      mmax = number_at mmaxs line v.mmax (at 9 (omega arith)) (omega arith) p.mmax;
      ask = number_at asks line v.ask.0 (at 10 (omega arith)) (omega arith) p.ask;
      wait = number_at waits line v.wait.0 (at 11 (omega arith)) (omega arith) p.wait;
      setup = number_at setups line v.setup.0 (at 12 (omega arith)) (omega arith) p.setup;
      longest = number_at datas line v.longest (at 13 (omega arith)) (omega arith) p.longest;
      ec = number_at ecs line v.ec.0 (at 14 (omega arith)) (omega arith) p.ec;
    } in
    cond-true _ _ _ (eq-eqb _ _ count) ∙ then_at checked (values_read role line v values) ∙ checks p
