use Rattle.std.proofs.Common.{◌≡◌, ◌+◌, ◌-◌, [], get_or, length, take, drop, ap, arith}
use Rattle.carrier.specs.Held.{held}
use Rattle.carrier.proofs.Spots.{spot}
use Rattle.carrier.proofs.queue.Queue.read.Goals as goal

pub returns : goal.returns
returns c =
    let p = spot c.args.self.now c.args.k c.requires.within in
    let n : c.place-start.result.end - (c.place-start.result.start + 2) ≡ length (get_or (held c.args.self.now) c.args.k []) = omega arith in
    let s : take (c.place-start.result.end - (c.place-start.result.start + 2)) (drop (c.place-start.result.start + 2) c.deref.result.now) ≡ get_or (held c.args.self.now) c.args.k [] = cc in
    record { value = ap length s; written = cc }
