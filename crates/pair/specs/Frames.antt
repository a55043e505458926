-- What comes out of a pair: the frames of good packets.
use Rattle.std.specs.Prelude.{ℕ, ◌-◌, min, cond, List, [], ◌∷◌, ◌++◌, length, take, drop, Some, None, Ok, Err, Option, Result, nat_le}
use Rattle.std.specs.List.{flat_map}
use Rattle.terms.specs.declared.refusal.Refusal.{Refusal}
use Rattle.packets.specs.declared.packet.TransportNumber.{TransportNumber}
use Rattle.packets.specs.Packets.{PacketValue, read_packet}
use Rattle.carrier.specs.Rules.{Strings, Meaning}
use Rattle.pair.specs.declared.Taken.{Taken}
use Rattle.pair.specs.Counts.{is_newer}

-- as many bytes as a packet adds to a frame at most
abbrev pub packet_overhead : ℕ
packet_overhead = 15

-- the largest length of a pair over carriers of the two largest lengths
abbrev pub pair_largest : ℕ → ℕ → ℕ
pair_largest n r = min n r - packet_overhead

-- the frame of a packet that was read, if it is within a length
abbrev pub frame_within : ℕ → Result PacketValue Refusal → Strings
frame_within most (Err e) = []
frame_within most (Ok q) = cond (nat_le (length q.frame) most) (q.frame ∷ []) []

-- the frames within a length of the good packets among some strings
abbrev pub frames : ℕ → Strings → Strings
frames most ps = flat_map (λ p. frame_within most (read_packet p)) ps

-- a pair as a carrier: what may come out are the frames of the good packets that may come out of either carrier
abbrev pub pair_meaning : Meaning → Meaning → Meaning
pair_meaning n r = record {
  largest = pair_largest n.largest r.largest;
  strings = λ side. frames (pair_largest n.largest r.largest) (n.strings side ++ r.strings side);
}

-- what a packet that was read gives: its frame goes out if it is within a length, and new
abbrev pub given_by : ℕ → Option TransportNumber → Result PacketValue Refusal → Option PacketValue
given_by most last (Err e) = None
given_by most last (Ok q) = cond (nat_le (length q.frame) most) (cond (is_newer last q.number) (Some q) None) None

abbrev pub gives : ℕ → Option TransportNumber → List ℕ → Option PacketValue
gives most last p = given_by most last (read_packet p)

-- its number and its frame's length
abbrev pub taken_of : Option PacketValue → Option Taken
taken_of None = None
taken_of (Some q) = Some (record { number = record { 0 = q.number }; len = length q.frame })

-- the buffer with the frame at its start, the rest as it was
abbrev pub written : List ℕ → Option PacketValue → List ℕ
written buf None = buf
written buf (Some q) = q.frame ++ drop (length q.frame) buf

-- what a fetch of a carrier gives, by its answer and the memory that it wrote
abbrev pub got : ℕ → Option TransportNumber → List ℕ → Result (Option ℕ) Refusal → Option PacketValue
got most last memory (Err e) = None
got most last memory (Ok None) = None
got most last memory (Ok (Some n)) = gives most last (take n memory)
