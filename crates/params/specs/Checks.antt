-- What a parameter set is checked for.
use Rattle.std.specs.Prelude.{ℕ, cond, ℤ, Ok, Err, Result}
use Rattle.terms.specs.Outcomes.{then}
use Rattle.texts.specs.declared.columns.Column.{Column}
use Rattle.texts.specs.declared.fault.Fault.TheVariants.{OutOfRange, DifferingBits}
use Rattle.texts.specs.declared.fault.LineFault.{LineFault}
use Rattle.texts.specs.Faults.{whole_line}
use Rattle.texts.specs.Numbers.{within}
use Rattle.params.specs.declared.values.Values.{Values}
use Rattle.params.specs.Columns.{versions, periods, windows, mmins, mmaxs, asks, waits, setups, datas, ecs, keeps_below, differing, distance}

-- a value within its column's range, or the fault that names the column
abbrev pub kept : Column → ℕ → Result (Unit {0}) LineFault
kept c n = cond (within c.range n) (Ok tt) (Err record { fault = OutOfRange; column = c.place })

abbrev pub kept_below : Column → ℤ → Result (Unit {0}) LineFault
kept_below c z = cond (keeps_below c z) (Ok tt) (Err record { fault = OutOfRange; column = c.place })

-- two halves of identifiers that differ enough, or the fault of the whole line
abbrev pub apart : ℕ → ℕ → Result (Unit {0}) LineFault
apart own far = cond (within differing (distance own far)) (Ok tt) (Err (whole_line DifferingBits))

-- the values themselves, or the first fault among them
abbrev pub checked : Values → Result Values LineFault
checked v =
    then (kept versions v.version) (λ _.
    then (kept periods v.period.0) (λ _.
    then (kept windows v.window) (λ _.
    then (kept_below mmins v.mmin) (λ _.
    then (kept mmaxs v.mmax) (λ _.
    then (kept asks v.ask.0) (λ _.
    then (kept waits v.wait.0) (λ _.
    then (kept setups v.setup.0) (λ _.
    then (kept datas v.longest) (λ _.
    then (kept ecs v.ec.0) (λ _.
    then (apart v.own.first v.far.first) (λ _.
    then (apart v.own.second v.far.second) (λ _.
    Ok v))))))))))))
