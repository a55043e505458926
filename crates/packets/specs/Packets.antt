-- The layout of the packets: how a frame is wrapped, and what a string is read as.
-- A packet is its length field (2 bytes: how many bytes follow it), a transport number (2 bytes), the N/R byte, the packet type (1 byte),
-- what the type puts before the frame, and the frame.
use Rattle.std.specs.Prelude.{ℕ, ◌+◌, ◌-◌, ◌*◌, ◌^◌, Bool, true, cond, List, [], ◌∷◌, ◌++◌, length, drop, replicate, Ok, Err, Result, ◌==◌, nat_le, nat_lt, slice_index}
use Rattle.terms.specs.declared.refusal.Refusal.{Refusal}
use Rattle.terms.specs.declared.refusal.Refusal.TheVariants as refusal
use Rattle.packets.specs.declared.packet.Cable.{Cable}
use Rattle.packets.specs.declared.packet.Cable.TheVariants.{Normal, Redundant}
use Rattle.packets.specs.declared.packet.PacketType.{PacketType}
use Rattle.packets.specs.declared.packet.PacketType.TheVariants.{Au1, Au2, Data, Di}
use Rattle.packets.specs.declared.packet.Packet.{Packet}
use Rattle.terms.specs.Numbers.{bytes}
use Rattle.terms.specs.Outcomes.{then}
use Rattle.terms.specs.Layouts.{write_answer, write_after}

-- a packet by what it says, wherever its bytes lie
pub record PacketValue : Type 0 where
  pub number : ℕ
  pub frame : List ℕ

abbrev pub packet_value : Packet → PacketValue
packet_value p = record { number = p.number.0; frame = p.frame.now }

abbrev pub packet_values : Result Packet Refusal → Result PacketValue Refusal
packet_values (Ok p) = Ok (packet_value p)
packet_values (Err e) = Err e

-- the N/R byte
abbrev pub mark : Cable → ℕ
mark Normal = 1
mark Redundant = 0

-- the type byte
abbrev pub type_code : PacketType → ℕ
type_code Au1 = 1
type_code Au2 = 2
type_code Data = 3
type_code Di = 4

-- the type of the packet that a frame goes in, by the frame's first byte
abbrev pub type_of : List ℕ → PacketType
type_of [] = Di
type_of (b ∷ bs) = cond (b == 0x02) Au1 (cond (b == 0x05) Au2 (cond (b == 0x10) Di (cond (b == 0x11) Di Data)))

-- how many ignored bytes stand behind the type byte
abbrev pub ignored_count : PacketType → ℕ
ignored_count Au1 = 8
ignored_count Au2 = 4
ignored_count Data = 0
ignored_count Di = 0

-- what stands before the frame, with the ignored bytes
abbrev pub before_frame : PacketType → List ℕ → List ℕ
before_frame Au1 ignored = ignored ++ 3 ∷ []
before_frame Au2 ignored = ignored
before_frame Data ignored = ignored
before_frame Di ignored = ignored

-- the same as it is written: ignored bytes are 0
abbrev pub preamble : PacketType → List ℕ
preamble k = before_frame k (replicate (ignored_count k) 0)

-- a packet as it is written for a cable
abbrev pub packet_bytes : PacketValue → Cable → List ℕ
packet_bytes q cable =
    bytes 2 (4 + (length (preamble (type_of q.frame)) + length q.frame))
    ++ (bytes 2 q.number ++ (mark cable ∷ type_code (type_of q.frame) ∷ (preamble (type_of q.frame) ++ q.frame)))

-- Writing:

-- whether all bytes behind the length field can be counted in it
abbrev pub countable : List ℕ → Bool
countable packet = nat_lt (length packet - 2) (2 ^ 16)

-- a buffer that is too short is refused first, then a frame that is too long for the length field
abbrev pub wrap_answer : List ℕ → List ℕ → Result ℕ Refusal
wrap_answer packet out = write_answer packet (countable packet) refusal.StringTooLong out

-- the buffer after: a refusal leaves it as it was
abbrev pub wrap_after : List ℕ → List ℕ → List ℕ
wrap_after packet out = write_after packet (countable packet) out

-- Reading:

-- the type that a type byte names
abbrev pub coded_type : ℕ → Result PacketType Refusal
coded_type n =
    cond (n == 1) (Ok Au1) (cond (n == 2) (Ok Au2) (cond (n == 3) (Ok Data) (cond (n == 4) (Ok Di) (Err refusal.PacketType))))

-- whether the 03 stands before the frame where the type wants it
abbrev pub marked : PacketType → List ℕ → Bool
marked Au1 body = slice_index body 8 == 3
marked Au2 body = true
marked Data body = true
marked Di body = true

-- the frame in what follows the type byte
abbrev pub frame_in : PacketType → List ℕ → Result (List ℕ) Refusal
frame_in k body =
    cond (nat_le (length (preamble k)) (length body)) (cond (marked k body) (Ok (drop (length (preamble k)) body)) (Err refusal.PacketType)) (Err refusal.PacketLength)

-- the packet of a number and a frame, whose type the frame has to suit
abbrev pub suited : ℕ → PacketType → List ℕ → Result PacketValue Refusal
suited n k f = cond (type_code (type_of f) == type_code k) (Ok (record { number = n; frame = f })) (Err refusal.PacketType)

abbrev pub read_packet : List ℕ → Result PacketValue Refusal
read_packet s =
    cond (nat_le 6 (length s))
    (cond (slice_index s 0 * 256 + slice_index s 1 + 2 == length s)
    (then (coded_type (slice_index s 5)) (λ k. then (frame_in k (drop 6 s)) (λ f. suited (slice_index s 2 * 256 + slice_index s 3) k f)))
    (Err refusal.PacketLength))
    (Err refusal.PacketLength)
