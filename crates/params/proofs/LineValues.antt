-- A line reads as its values exactly where each of its columns reads as its value.
use Rattle.std.proofs.Common.{◌≡◌, ℕ, List, Ok, ◌∙◌, subst}
use Rattle.terms.specs.declared.identifier.Identifier.{Identifier}
use Rattle.terms.specs.declared.role.Role.{Role}
use Rattle.texts.specs.Columns.{number_in, below_in, hex_in}
use Rattle.texts.proofs.HexTrips.{then_parts, then_at}
use Rattle.params.specs.declared.values.Values.{Values}
use Rattle.params.specs.Columns.{versions, periods, windows, mmins, mmaxs, asks, waits, setups, datas, ecs}
use Rattle.params.specs.Lines.{role_column, read_identifier, read_values}
use Rattle.params.proofs.Outcomes.{ok_same}

pub record ColumnsRead (role : Role) (line : List ℕ) (v : Values) : Type 0 where
  pub number : ℕ
  pub role_read : number_in (role_column role) line ≡ Ok number
  pub own1 : hex_in 2 line ≡ Ok v.own.first
  pub own2 : hex_in 3 line ≡ Ok v.own.second
  pub far1 : hex_in 4 line ≡ Ok v.far.first
  pub far2 : hex_in 5 line ≡ Ok v.far.second
  pub version : number_in versions line ≡ Ok v.version
  pub period : number_in periods line ≡ Ok v.period.0
  pub window : number_in windows line ≡ Ok v.window
  pub mmin : below_in mmins line ≡ Ok v.mmin
  pub mmax : number_in mmaxs line ≡ Ok v.mmax
  pub ask : number_in asks line ≡ Ok v.ask.0
  pub wait : number_in waits line ≡ Ok v.wait.0
  pub setup : number_in setups line ≡ Ok v.setup.0
  pub longest : number_in datas line ≡ Ok v.longest
  pub ec : number_in ecs line ≡ Ok v.ec.0

pub values_read : (role : Role) (line : List ℕ) (v : Values) → ColumnsRead role line v → read_values role line ≡ Ok v
values_read role line v r =
    then_at _ r.role_read
    ∙ then_at _ (then_at _ r.own1 ∙ then_at _ r.own2)
    ∙ then_at _ (then_at _ r.far1 ∙ then_at _ r.far2)
    ∙ then_at _ r.version
    ∙ then_at _ r.period
    ∙ then_at _ r.window
    ∙ then_at _ r.mmin
    ∙ then_at _ r.mmax
    ∙ then_at _ r.ask
    ∙ then_at _ r.wait
    ∙ then_at _ r.setup
    ∙ then_at _ r.longest
    ∙ then_at _ r.ec

halves_were : (a b : ℕ) (line : List ℕ) (i : Identifier) → read_identifier a b line ≡ Ok i → (hex_in a line ≡ Ok i.first) × (hex_in b line ≡ Ok i.second)
halves_were a b line i e =
    let first = then_parts (hex_in a line) _ i e in
    let second = then_parts (hex_in b line) _ i first.2 in
    subst (λ x. (hex_in a line ≡ Ok x.first) × (hex_in b line ≡ Ok x.second)) (ok_same second.2) (first.1, second.1)

pub values_were : (role : Role) (line : List ℕ) (v : Values) → read_values role line ≡ Ok v → ColumnsRead role line v
values_were role line v e =
    let number = then_parts (number_in (role_column role) line) _ v e in
    let own = then_parts (read_identifier 2 3 line) _ v number.2 in
    let far = then_parts (read_identifier 4 5 line) _ v own.2 in
    let version = then_parts (number_in versions line) _ v far.2 in
    let period = then_parts (number_in periods line) _ v version.2 in
    let window = then_parts (number_in windows line) _ v period.2 in
    let mmin = then_parts (below_in mmins line) _ v window.2 in
    let mmax = then_parts (number_in mmaxs line) _ v mmin.2 in
    let ask = then_parts (number_in asks line) _ v mmax.2 in
    let wait = then_parts (number_in waits line) _ v ask.2 in
    let setup = then_parts (number_in setups line) _ v wait.2 in
    let longest = then_parts (number_in datas line) _ v setup.2 in
    let ec = then_parts (number_in ecs line) _ v longest.2 in
    subst (ColumnsRead role line) (ok_same ec.2) record {
      number = number.0;
      role_read = number.1;
      own1 = (halves_were 2 3 line own.0 own.1).0;
      own2 = (halves_were 2 3 line own.0 own.1).1;
      far1 = (halves_were 4 5 line far.0 far.1).0;
      far2 = (halves_were 4 5 line far.0 far.1).1;
      version = version.1;
      period = period.1;
      window = window.1;
      mmin = mmin.1;
      mmax = mmax.1;
      ask = ask.1;
      wait = wait.1;
      setup = setup.1;
      longest = longest.1;
      ec = ec.1;
    }
