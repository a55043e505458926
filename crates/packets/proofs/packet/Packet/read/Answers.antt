-- The laws hold of what `parse` answers.
use Rattle.std.proofs.Common.{sym, subst, arith}
use Rattle.packets.specs.Packets.{packet_values}
use Rattle.packets.specs.PacketLaws.{Judged}
use Rattle.packets.proofs.PacketLaws.{judged, again_of}
use Rattle.packets.proofs.packet.Packet.read.Goals as goal

pub returns : goal.returns
returns c =
    let s = c.args.s.now in
    let j : Judged s (packet_values c.parse.result) = subst (Judged s) (sym c.parse.ensures) (judged s (λ i. omega (arith, c.type_inv.s i))) in
    record { answer = c.parse.ensures; judged = j; again = again_of s (packet_values c.parse.result) j }
