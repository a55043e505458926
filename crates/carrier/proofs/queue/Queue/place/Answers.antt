use Rattle.std.proofs.Common.{◌≡◌, ◌+◌, [], length, get_or, take, arith}
use Rattle.carrier.specs.Held.{held}
use Rattle.carrier.specs.Packing.{bulk}
use Rattle.carrier.proofs.Spots.{spot}
use Rattle.carrier.proofs.queue.Queue.place.Goals as goal

pub end_of-start-requires : goal.end_of-start-requires
end_of-start-requires c = let p = spot c.args.self.now c.loop-i._i (omega arith) in omega arith

pub loop-i-preserved : goal.loop-i-preserved
loop-i-preserved c = let p = spot c.args.self.now c.loop-i._i (omega arith) in cc

pub end_of-requires : goal.end_of-requires
end_of-requires c =
    let p = spot c.args.self.now c.args.k c.requires in
    let i : c.loop-i._i ≡ c.args.k = omega arith in
    let e : c.loop-i.start ≡ bulk (take c.args.k (held c.args.self.now)) = cc in
    omega arith

pub returns : goal.returns
returns c =
    let p = spot c.args.self.now c.args.k c.requires in
    let i : c.loop-i._i ≡ c.args.k = omega arith in
    let e : c.loop-i.start ≡ bulk (take c.args.k (held c.args.self.now)) = cc in
    let end : c.end_of.result ≡ c.loop-i.start + (length (get_or (held c.args.self.now) c.args.k []) + 2) = cc in
    record { start = e; end = end; within = omega arith }
