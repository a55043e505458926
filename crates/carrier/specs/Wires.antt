-- What the wires keep and hand out, as equations on the strings and the memory that they hold.
use Rattle.std.specs.Prelude.{◌≡◌, ℕ, ◌+◌, ◌-◌, Bool, true, false, cond, List, [], ◌∷◌, ◌++◌, length, drop, replicate, Some, None, Ok, Err, Option, Result, nat_le, slice_index_or}
use Rattle.std.specs.List.{remove}
use Rattle.terms.specs.declared.role.Role.{Role}
use Rattle.terms.specs.declared.role.Role.TheVariants.{Initiator, Responder}
use Rattle.terms.specs.declared.refusal.Refusal.{Refusal}
use Rattle.terms.specs.declared.refusal.Refusal.TheVariants.{StringTooLong, BufferTooShort}
use Rattle.terms.specs.Roles.{far}
use Rattle.terms.specs.Sides.{at}
use Rattle.carrier.specs.declared.Keeping.{Keeping}
use Rattle.carrier.specs.declared.Keeping.TheVariants.{Kept, NotKept}
use Rattle.carrier.specs.declared.store.Store.{Store}
use Rattle.carrier.specs.Rules.{Strings, Meaning, greatest_length}
use Rattle.carrier.specs.Packing.{bulk, laid_out}
use Rattle.carrier.specs.Held.{held, contents, size}

-- the strings held for a side, the oldest first
abbrev pub strings_at : Store → Role → Strings
strings_at t side = held (at t.queues side)

-- the bytes of a side's memory
abbrev pub memory_at : Store → Role → List ℕ
memory_at t side = contents (at t.queues side)

-- how many bytes a side's memory has
abbrev pub room_at : Store → Role → ℕ
room_at t side = size (at t.queues side)

-- a wire as a carrier: what it holds for a side may come out there
abbrev pub wire_meaning : Store → Meaning
wire_meaning t = record { largest = greatest_length; strings = strings_at t }

-- a store of which nothing is used yet, its memories of so many bytes
pub record Fresh (t : Store) (initiator responder : ℕ) : Type 0 where
  pub none : (side : Role) → strings_at t side ≡ []
  pub initiator_memory : memory_at t Initiator ≡ replicate initiator 0
  pub responder_memory : memory_at t Responder ≡ replicate responder 0
  pub initiator_room : room_at t Initiator ≡ initiator
  pub responder_room : room_at t Responder ≡ responder

-- whether a memory of so many bytes that holds ss has room for s
abbrev pub fits : ℕ → Strings → List ℕ → Bool
fits room ss s = nat_le (bulk ss + (length s + 2)) room

-- what a put of s answers, and the strings held then, where ss was held in a memory of so many bytes
abbrev pub put_answer : ℕ → Strings → List ℕ → Result Keeping Refusal
put_answer room ss s = cond (nat_le (length s) greatest_length) (cond (fits room ss s) (Ok Kept) (Ok NotKept)) (Err StringTooLong)

abbrev pub put_strings : ℕ → Strings → List ℕ → Strings
put_strings room ss s = cond (nat_le (length s) greatest_length) (cond (fits room ss s) (ss ++ s ∷ []) ss) ss

-- the memory then: all strings lie in it from the start, the oldest first, if one was added
abbrev pub put_memory : ℕ → Strings → List ℕ → List ℕ → List ℕ
put_memory room ss memory s = cond (nat_le (length s) greatest_length) (cond (fits room ss s) (laid_out (ss ++ s ∷ []) memory) memory) memory

-- a put on a wire
pub record WirePut (before after : Store) (from : Role) (s : List ℕ) (r : Result Keeping Refusal) : Type 0 where
  pub answer : r ≡ put_answer (room_at before (far from)) (strings_at before (far from)) s
  pub across : strings_at after (far from) ≡ put_strings (room_at before (far from)) (strings_at before (far from)) s
  pub across_memory : memory_at after (far from) ≡ put_memory (room_at before (far from)) (strings_at before (far from)) (memory_at before (far from)) s
  pub near : strings_at after from ≡ strings_at before from
  pub near_memory : memory_at after from ≡ memory_at before from
  pub rooms : (side : Role) → room_at after side ≡ room_at before side

-- the place of the string that a number names: 1 names the oldest, whose place is 0; there is none for 0 or a number too large
abbrev pub place_of : Strings → ℕ → Option ℕ
place_of ss n = cond (nat_le 1 n) (cond (nat_le n (length ss)) (Some (n - 1)) None) None

-- what a fetch answers, leaves and writes where the string of a place comes out, or none, if the buffer is long enough
abbrev pub fetch_answer : Bool → Strings → Option ℕ → Result (Option ℕ) Refusal
fetch_answer false ss chosen = Err BufferTooShort
fetch_answer true ss None = Ok None
fetch_answer true ss (Some k) = Ok (Some (length (slice_index_or ss k [])))

abbrev pub fetch_strings : Bool → Strings → Option ℕ → Bool → Strings
fetch_strings false ss chosen stays = ss
fetch_strings true ss None stays = ss
fetch_strings true ss (Some k) stays = cond stays ss (remove ss k)

abbrev pub fetch_memory : Bool → Strings → List ℕ → Option ℕ → Bool → List ℕ
fetch_memory false ss memory chosen stays = memory
fetch_memory true ss memory None stays = memory
fetch_memory true ss memory (Some k) stays = cond stays memory (laid_out (remove ss k) memory)

abbrev pub fetch_buffer : Bool → List ℕ → Strings → Option ℕ → List ℕ
fetch_buffer false buf ss chosen = buf
fetch_buffer true buf ss None = buf
fetch_buffer true buf ss (Some k) = slice_index_or ss k [] ++ drop (length (slice_index_or ss k [])) buf

-- a fetch at a side of a wire that chooses a string by its place, or none, and lets it stay or not
pub record WireFetch (before after : Store) (at : Role) (chosen : Option ℕ) (stays : Bool) (buf buf' : List ℕ) (r : Result (Option ℕ) Refusal) : Type 0 where
  pub answer : r ≡ fetch_answer (nat_le greatest_length (length buf)) (strings_at before at) chosen
  pub near : strings_at after at ≡ fetch_strings (nat_le greatest_length (length buf)) (strings_at before at) chosen stays
  pub near_memory : memory_at after at ≡ fetch_memory (nat_le greatest_length (length buf)) (strings_at before at) (memory_at before at) chosen stays
  pub across : strings_at after (far at) ≡ strings_at before (far at)
  pub across_memory : memory_at after (far at) ≡ memory_at before (far at)
  pub written : buf' ≡ fetch_buffer (nat_le greatest_length (length buf)) buf (strings_at before at) chosen
  pub rooms : (side : Role) → room_at after side ≡ room_at before side

-- the oldest string comes out, and does not stay
abbrev pub FifoFetch : Store → Store → Role → List ℕ → List ℕ → Result (Option ℕ) Refusal → Type 0
FifoFetch before after at buf buf' r = WireFetch before after at (place_of (strings_at before at) 1) false buf buf' r
