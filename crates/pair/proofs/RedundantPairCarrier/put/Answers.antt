-- Both carriers are put a packet of the frame.
use Rattle.std.proofs.Common.{◌≡◌, ℕ, ◌+◌, ◌^◌, ◌<◌, ◌≤◌, List, length, Ok, sym, subst, arith}
use Rattle.packets.specs.declared.packet.Cable.{Cable}
use Rattle.packets.specs.declared.packet.Cable.TheVariants.{Normal, Redundant}
use Rattle.packets.specs.Packets.{PacketValue, packet_bytes, read_packet}
use Rattle.packets.proofs.PacketLaws.{read_writing, packet_writing}
use Rattle.carrier.specs.declared.Keeping.{Keeping}
use Rattle.carrier.specs.Rules.{Meaning, PutRules, greatest_length}
use Rattle.pair.specs.Counts.{next_number}
use Rattle.pair.specs.Frames.{packet_overhead, pair_largest, pair_meaning}
use Rattle.pair.specs.Pairs.{numbered}
use Rattle.pair.proofs.Merged.{pair_put, frame_own}
use Rattle.pair.proofs.Wraps.{within}
use Rattle.pair.proofs.RedundantPairCarrier.put.Goals as goal

-- the packet of a short frame is read as it was put
own : (q : PacketValue) (cable : Cable) → q.number < 2 ^ 16 → length q.frame + packet_overhead ≤ greatest_length → read_packet (packet_bytes q cable) ≡ Ok q
own q cable n short = read_writing q (packet_bytes q cable) (packet_writing q cable n (omega (arith, within q cable short)))

pub returns-clause-rules : goal.returns-clause-rules
returns-clause-rules g c =
    let p = c.args.self.now in
    let p' = c.put_both.new.self in
    let n : Meaning = g.N.Carrier.meaning p.normal in
    let n' : Meaning = g.N.Carrier.meaning p'.normal in
    let r : Meaning = g.R.Carrier.meaning p.redundant in
    let r' : Meaning = g.R.Carrier.meaning p'.redundant in
    let s : List ℕ = c.args.s.now in
    let from = c.args.from in
    let q : PacketValue = numbered p.counters from s in
    let le : length s ≤ pair_largest n.largest r.largest = omega arith in
    let limit-n = g.met.N.Carrier.limit p.normal in
    let short : length s + packet_overhead ≤ greatest_length = omega arith in
    let fits : next_number p.counters from < 2 ^ 16 = c.put_both.ensures.counted in
    let h = c.put_both.ensures.both in
    subst (λ (x : Keeping). PutRules (pair_meaning n r) (pair_meaning n' r') from s (Ok x)) (sym h.either)
    (pair_put n n' r r' from (packet_bytes q Normal) (packet_bytes q Redundant) s le
    (frame_own _ (packet_bytes q Normal) q (own q Normal fits short)) (frame_own _ (packet_bytes q Redundant) q (own q Redundant fits short))
    h.first h.second h.normal.0 h.redundant.0)
