-- What a pair does with its two carriers. What a carrier below does is passed in, as a relation between a call and its answer.
use Rattle.std.specs.Prelude.{◌≡◌, ℕ, ◌<◌, ◌≤◌, List, length, replicate, Some, None, Ok, Err, Option, Result}
use Rattle.std.specs.Option.{option_map}
use Rattle.terms.specs.declared.refusal.Refusal.{Refusal}
use Rattle.terms.specs.declared.refusal.Refusal.TheVariants.{StringTooLong, BufferTooShort}
use Rattle.terms.specs.declared.role.Role.{Role}
use Rattle.packets.specs.declared.packet.Cable.TheVariants.{Normal, Redundant}
use Rattle.packets.specs.declared.packet.TransportNumber.{TransportNumber}
use Rattle.packets.specs.Packets.{PacketValue, packet_bytes}
use Rattle.carrier.specs.declared.Keeping.{Keeping}
use Rattle.carrier.specs.declared.Keeping.TheVariants.{Kept, NotKept}
use Rattle.carrier.specs.Rules.{greatest_length}
use Rattle.pair.specs.declared.Taken.{Taken}
use Rattle.pair.specs.Counts.{Counters, next_number, last_number, advanced, noted}
use Rattle.pair.specs.Frames.{taken_of, written, got}

-- a frame with the next number of a side
abbrev pub numbered : Counters → Role → List ℕ → PacketValue
numbered c from s = record { number = next_number c from; frame = s }

-- kept by either
abbrev pub kept_either : Result Keeping Refusal → Result Keeping Refusal → Keeping
kept_either (Ok Kept) second = Kept
kept_either (Ok NotKept) (Ok Kept) = Kept
kept_either (Ok NotKept) (Ok NotKept) = NotKept
kept_either (Ok NotKept) (Err e) = NotKept
kept_either (Err e) (Ok Kept) = Kept
kept_either (Err e) (Ok NotKept) = NotKept
kept_either (Err e) (Err f) = NotKept

-- both carriers are put the packet, each with its own mark; it is kept if either kept it
pub record BothPut (on-normal on-redundant : List ℕ → Result Keeping Refusal → Type 0) (q : PacketValue) (kept : Keeping) : Type 0 where
  pub first : Result Keeping Refusal
  pub second : Result Keeping Refusal
  pub normal : on-normal (packet_bytes q Normal) first
  pub redundant : on-redundant (packet_bytes q Redundant) second
  pub either : kept ≡ kept_either first second

-- the frame is put in packets of the side's next number, which is then used up
pub record PairKept (on-normal on-redundant : List ℕ → Result Keeping Refusal → Type 0) (most : ℕ) (c c' : Counters) (from : Role) (s : List ℕ) (kept : Keeping) : Type 0 where
  pub fits : length s ≤ most
  pub both : BothPut on-normal on-redundant (numbered c from s) kept
  pub counters : c' ≡ advanced c from

-- a put that is refused leaves the pair the same
pub record PairPutRefused (same : Type 0) (most : ℕ) (s : List ℕ) (e : Refusal) : Type 0 where
  pub reason : e ≡ StringTooLong
  pub long : most < length s
  pub unchanged : same

-- a put on a pair of a largest length
abbrev pub PairPut : ℕ → Type 0 → (List ℕ → Result Keeping Refusal → Type 0) → (List ℕ → Result Keeping Refusal → Type 0) → Counters → Counters → Role → List ℕ → Result Keeping Refusal → Type 0
PairPut most same on-normal on-redundant c c' from s (Err e) = PairPutRefused same most s e
PairPut most same on-normal on-redundant c c' from s (Ok kept) = PairKept on-normal on-redundant most c c' from s kept

-- a carrier is asked once, into a memory of zeros; a good new packet that it gives goes out
pub record Asked (ask : List ℕ → Result (Option ℕ) Refusal → List ℕ → Type 0) (most : ℕ) (last : Option TransportNumber) (buf buf' : List ℕ) (t : Option Taken) : Type 0 where
  pub answer : Result (Option ℕ) Refusal
  pub memory : List ℕ
  pub asked : ask (replicate greatest_length 0) answer memory
  pub value : t ≡ taken_of (got most last memory answer)
  pub buffer : buf' ≡ written buf (got most last memory answer)

-- the redundant carrier is asked if the normal one gave nothing, and is else the same
abbrev pub Otherwise : Type 0 → (List ℕ → Result (Option ℕ) Refusal → List ℕ → Type 0) → ℕ → Option TransportNumber → List ℕ → List ℕ → Option Taken → Option Taken → Type 0
Otherwise same ask most last mid buf' t (Some x) = (t ≡ Some x) × (buf' ≡ mid) × same
Otherwise same ask most last mid buf' t None = Asked ask most last mid buf' t

-- the normal carrier is asked, and then perhaps the redundant one
pub record AskedBoth (same : Type 0) (ask-normal ask-redundant : List ℕ → Result (Option ℕ) Refusal → List ℕ → Type 0) (most : ℕ) (last : Option TransportNumber) (buf buf' : List ℕ)
    (t : Option Taken) : Type 0 where
  pub mid : List ℕ
  pub first : Option Taken
  pub normal : Asked ask-normal most last buf mid first
  pub redundant : Otherwise same ask-redundant most last mid buf' t first

-- the same, into all of a buffer
pub record AskedInTurn (same : Type 0) (ask-normal ask-redundant : List ℕ → Result (Option ℕ) Refusal → List ℕ → Type 0) (last : Option TransportNumber) (buf buf' : List ℕ) (t : Option Taken) : Type 0 where
  pub mid : List ℕ
  pub first : Option Taken
  pub normal : Asked ask-normal (length buf) last buf mid first
  pub redundant : Otherwise same ask-redundant (length mid) last mid buf' t first

-- the counters after a packet went out, or none
abbrev pub after_taken : Counters → Role → Option Taken → Counters
after_taken c at None = c
after_taken c at (Some t) = noted c at t.number

-- what came out of either carrier comes out of the pair, and its number is the last handed out
pub record PairAsked (same : Type 0) (ask-normal ask-redundant : List ℕ → Result (Option ℕ) Refusal → List ℕ → Type 0) (most : ℕ) (c c' : Counters) (at : Role) (buf buf' : List ℕ)
    (len : Option ℕ) : Type 0 where
  pub room : most ≤ length buf
  pub out : Option Taken
  pub asked : AskedBoth same ask-normal ask-redundant most (last_number c at) buf buf' out
  pub value : len ≡ option_map (λ t. t.len) out
  pub counters : c' ≡ after_taken c at out

-- a fetch that is refused leaves the pair and the buffer the same
pub record PairFetchRefused (same : Type 0) (most : ℕ) (buf buf' : List ℕ) (e : Refusal) : Type 0 where
  pub reason : e ≡ BufferTooShort
  pub short : length buf < most
  pub unchanged : same
  pub buffer : buf' ≡ buf

-- a fetch on a pair of a largest length
abbrev pub PairFetch : ℕ → Type 0 → Type 0 → (List ℕ → Result (Option ℕ) Refusal → List ℕ → Type 0) → (List ℕ → Result (Option ℕ) Refusal → List ℕ → Type 0) → Counters → Counters → Role → List ℕ → List ℕ
    → Result (Option ℕ) Refusal → Type 0
PairFetch most same same-redundant ask-normal ask-redundant c c' at buf buf' (Err e) = PairFetchRefused same most buf buf' e
PairFetch most same same-redundant ask-normal ask-redundant c c' at buf buf' (Ok len) = PairAsked same-redundant ask-normal ask-redundant most c c' at buf buf' len
