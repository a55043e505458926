-- One line of a sheet: fifteen values with single spaces between them.
use Rattle.std.specs.Prelude.{ℕ, cond, List, Ok, Err, Result, ◌==◌}
use Rattle.terms.specs.declared.identifier.Identifier.{Identifier}
use Rattle.terms.specs.declared.role.Role.{Role}
use Rattle.terms.specs.Outcomes.{then}
use Rattle.terms.specs.Sides.{at}
use Rattle.texts.specs.declared.columns.Column.{Column}
use Rattle.texts.specs.declared.fault.Fault.TheVariants.{WrongCount}
use Rattle.texts.specs.declared.fault.LineFault.{LineFault}
use Rattle.texts.specs.Columns.{number_in, below_in, hex_in}
use Rattle.texts.specs.Faults.{whole_line}
use Rattle.texts.specs.Pieces.{count_of}
use Rattle.params.specs.declared.values.Values.{Values}
use Rattle.params.specs.Checks.{checked}
use Rattle.params.specs.Columns.{roles, versions, periods, windows, mmins, mmaxs, asks, waits, setups, datas, ecs}

-- the role's column, in which only its own number may stand
abbrev pub role_column : Role → Column
role_column role = at roles role

-- the two halves of an identifier, by their columns
abbrev pub read_identifier : ℕ → ℕ → List ℕ → Result Identifier LineFault
read_identifier first second line =
    then (hex_in first line) (λ a.
    then (hex_in second line) (λ b.
    Ok record { first = a; second = b }))

-- the values in order, each within its column's range
abbrev pub read_values : Role → List ℕ → Result Values LineFault
read_values role line =
    then (number_in (role_column role) line) (λ _.
    then (read_identifier 2 3 line) (λ own.
    then (read_identifier 4 5 line) (λ far.
    then (number_in versions line) (λ version.
    then (number_in periods line) (λ period.
    then (number_in windows line) (λ window.
    then (below_in mmins line) (λ mmin.
    then (number_in mmaxs line) (λ mmax.
    then (number_in asks line) (λ ask.
    then (number_in waits line) (λ wait.
    then (number_in setups line) (λ setup.
    then (number_in datas line) (λ longest.
    then (number_in ecs line) (λ ec.
    Ok record {
      own = own;
      far = far;
      version = version;
      period = record { 0 = period };
      window = window;
      mmin = mmin;
      mmax = mmax;
      ask = record { 0 = ask };
      wait = record { 0 = wait };
      setup = record { 0 = setup };
      longest = longest;
      ec = record { 0 = ec };
    })))))))))))))

-- a line has fifteen values, so fourteen spaces; then come the values; then the differing bits
abbrev pub read_line : Role → List ℕ → Result Values LineFault
read_line role line = cond (count_of 32 line == 14) (then (read_values role line) checked) (Err (whole_line WrongCount))
