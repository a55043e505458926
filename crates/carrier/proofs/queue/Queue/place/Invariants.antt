use Rattle.std.proofs.Common.{◌≡◌, take, vec_items}
use Rattle.carrier.specs.Packing.{bulk, unpacked}
use Rattle.carrier.proofs.queue.Queue.place.Given as goal

abbrev pub invariant-loop-i : goal.invariant-loop-i
invariant-loop-i l = l.start ≡ bulk (take l._i (unpacked l.self.count (vec_items l.self.memory)))
