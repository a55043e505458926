-- A frame that is short enough can be wrapped.
use Rattle.std.proofs.Common.{◌+◌, ◌≤◌, length, arith, length-append}
use Rattle.packets.specs.declared.packet.Cable.{Cable}
use Rattle.packets.specs.declared.packet.PacketType.{PacketType}
use Rattle.packets.specs.declared.packet.PacketType.TheVariants.{Au1, Au2, Data, Di}
use Rattle.packets.specs.Packets.{PacketValue, type_of, preamble, packet_bytes}
use Rattle.carrier.specs.Rules.{greatest_length}
use Rattle.pair.specs.Frames.{packet_overhead}

short_preamble : (k : PacketType) → length (preamble k) ≤ 9
short_preamble Au1 = omega arith
short_preamble Au2 = omega arith
short_preamble Data = omega arith
short_preamble Di = omega arith

pub within : (q : PacketValue) (cable : Cable) → length q.frame + packet_overhead ≤ greatest_length → length (packet_bytes q cable) ≤ greatest_length
within q cable short = omega (arith, length-append (preamble (type_of q.frame)) q.frame, short_preamble (type_of q.frame))
