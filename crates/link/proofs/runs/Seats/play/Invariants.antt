use Rattle.std.proofs.Common.{map, take, vec_items}
use Rattle.link.specs.Seats.{link_value, Played}
use Rattle.link.specs.Tells.{told_by}
use Rattle.link.proofs.runs.Seats.play.Given as goal

abbrev pub invariant-loop-call : goal.invariant-loop-call
invariant-loop-call g l =
    Played (link_value (g.C.Carrier.meaning l.initial.carrier) l.initial.self) (link_value (g.C.Carrier.meaning l.carrier) l.self)
    (take l.call-index l.calls) (map told_by (vec_items l.lines))
