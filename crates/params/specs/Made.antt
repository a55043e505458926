-- The values that a parameter set, and a sheet, were made of.
use Rattle.std.specs.Prelude.{Ok, Err, Result}
use Rattle.terms.specs.declared.sides.Sides.{Sides}
use Rattle.params.specs.declared.values.Values.{Values}
use Rattle.params.specs.declared.params.Params.{Params}

abbrev pub values_of : {E : Type 0} → Result Params E → Result Values E
values_of (Ok p) = Ok p.values
values_of (Err e) = Err e

-- the parameter sets of the two ends
abbrev pub Sheet : Type 0
Sheet = Sides Params

abbrev pub both_values : Sheet → Values × Values
both_values s = (s.initiator.values, s.responder.values)

abbrev pub sheet_values : {E : Type 0} → Result Sheet E → Result (Values × Values) E
sheet_values (Ok s) = Ok (both_values s)
sheet_values (Err e) = Err e
