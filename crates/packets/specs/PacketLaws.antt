-- What it means that a string is a packet, and that it is none; and that writing and reading undo each other.
use Rattle.std.specs.Prelude.{◌≡◌, ℕ, ◌+◌, ◌-◌, ◌*◌, ◌^◌, ◌<◌, cond, ◌⊎◌, List, ◌∷◌, ◌++◌, length, take, drop, replicate, Ok, Err, Result, IfOk, ◌==◌, ◌≢◌, slice_index}
use Rattle.terms.specs.declared.refusal.Refusal.{Refusal}
use Rattle.terms.specs.declared.refusal.Refusal.TheVariants as refusal
use Rattle.packets.specs.declared.packet.Cable.{Cable}
use Rattle.packets.specs.declared.packet.PacketType.{PacketType}
use Rattle.packets.specs.declared.packet.PacketType.TheVariants as type
use Rattle.terms.specs.Numbers.{bytes}
use Rattle.packets.specs.Packets.{PacketValue, mark, type_code, type_of, ignored_count, before_frame, preamble, packet_bytes, read_packet}

-- s is a writing of q: with any byte for N/R, and any bytes where the type has ignored ones
pub record Writing (q : PacketValue) (s : List ℕ) : Type 0 where
  pub n_r : ℕ
  pub ignored : List ℕ
  pub number_fits : q.number < 2 ^ 16
  pub length_fits : length s < 2 ^ 16 + 2
  pub ignored_all : length ignored ≡ ignored_count (type_of q.frame)
  pub form : s ≡ bytes 2 (length s - 2) ++ (bytes 2 q.number ++ (n_r ∷ type_code (type_of q.frame) ∷ (before_frame (type_of q.frame) ignored ++ q.frame)))

-- s is shorter than its layout, or its length field does not count the bytes behind it
abbrev pub WrongLength : List ℕ → Type 0
WrongLength s =
    (length s < 6)
    ⊎ ((slice_index s 0 * 256 + slice_index s 1 + 2 ≢ length s) ⊎ ((k : PacketType) × (slice_index s 5 ≡ type_code k) × (length s < 6 + length (preamble k))))

-- the lengths suit, and the type is none that is known, or lacks its 03, or is not that of the frame
abbrev pub WrongType : List ℕ → Type 0
WrongType s =
    (WrongLength s → ⊥)
    × (((k : PacketType) → slice_index s 5 ≢ type_code k)
    ⊎ ((k : PacketType) × (slice_index s 5 ≡ type_code k)
    × (((k ≡ type.Au1) × (slice_index s 14 ≢ 3)) ⊎ (type_code (type_of (drop (6 + length (preamble k)) s)) ≢ type_code k))))

-- why s is no packet
abbrev pub NoPacket : List ℕ → Refusal → Type 0
NoPacket s e = ((e ≡ refusal.PacketLength) × WrongLength s) ⊎ ((e ≡ refusal.PacketType) × WrongType s)

-- the string is a writing of the packet answered and of no other, and there is no reason to refuse it;
-- or there is exactly the reason answered, and it is a writing of no packet
abbrev pub Judged : List ℕ → Result PacketValue Refusal → Type 0
Judged s (Ok q) = Writing q s × ((other : PacketValue) → Writing other s → other ≡ q) × ((e : Refusal) → NoPacket s e → ⊥)
Judged s (Err e) = NoPacket s e × ((q : PacketValue) → Writing q s → ⊥) × ((other : Refusal) → NoPacket s other → other ≡ e)

-- how many ignored bytes a type byte says
abbrev pub ignored_by : ℕ → ℕ
ignored_by code = cond (code == 1) 8 (cond (code == 2) 4 0)

-- s with what reading ignores as it is written for a cable: the N/R byte, and the ignored bytes behind the type byte
abbrev pub settled : List ℕ → Cable → List ℕ
settled s cable = take 4 s ++ (mark cable ∷ slice_index s 5 ∷ (replicate (ignored_by (slice_index s 5)) 0 ++ drop (6 + ignored_by (slice_index s 5)) s))

-- what was read is written again as the same bytes, but for those that reading ignores
abbrev pub WrittenAgain : List ℕ → Result PacketValue Refusal → Type 0
WrittenAgain s (Ok q) = (cable : Cable) → packet_bytes q cable ≡ settled s cable
WrittenAgain s (Err e) = Unit {0}

-- what is written is read as the same packet
abbrev pub ReadBack : PacketValue → Result ℕ Refusal → List ℕ → Type 0
ReadBack q r out = IfOk r (λ n. read_packet (take n out) ≡ Ok q)
