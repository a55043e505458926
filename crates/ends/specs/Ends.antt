-- The values of an end.
use Rattle.ends.specs.declared.end.End.{End}
use Rattle.states.specs.States.{EndValue}

abbrev pub end_value : End → EndValue
end_value e = record { values = e.params.values; role = e.role; ec = e.ec; count = e.count; state = e.state }
