-- Laws of the packet layout: a string is read as the one packet of which it is a writing, or there is one reason why it is none.
use Rattle.std.proofs.Common.{◌≡◌, ℕ, ◌+◌, ◌*◌, ◌<◌, ◌≤◌, List, length, get_or, drop, Ok, Err, ◌∙◌, eq-eqb, ne_eqb, le-leb}
use borrow.Author.Tests.{lt-leb}
use Rattle.terms.specs.declared.refusal.Refusal.{Refusal}
use Rattle.terms.specs.declared.refusal.Refusal.TheVariants as refusal
use Rattle.packets.specs.declared.packet.PacketType.{PacketType}
use Rattle.packets.specs.declared.packet.PacketType.TheVariants.{Au1, Au2, Data, Di}
use Rattle.terms.specs.Outcomes.{then}
use Rattle.packets.specs.Packets.{type_code, type_of, coded_type, frame_in, suited, read_packet}

pub read_short : (s : List ℕ) → length s < 6 → read_packet s ≡ Err refusal.PacketLength
read_short s h = rw (lt-leb 6 (length s) h)

pub read_miscounted : (s : List ℕ) → 6 ≤ length s → (get_or s 0 0 * 256 + get_or s 1 0 + 2 ≡ length s → ⊥) → read_packet s ≡ Err refusal.PacketLength
read_miscounted s six n = rw (le-leb 6 (length s) six, ne_eqb (get_or s 0 0 * 256 + get_or s 1 0 + 2) (length s) n)

unknown_code : (n : ℕ) → ((k : PacketType) → n ≡ type_code k → ⊥) → coded_type n ≡ Err refusal.PacketType
unknown_code n u = rw (ne_eqb n 1 (u Au1), ne_eqb n 2 (u Au2), ne_eqb n 3 (u Data), ne_eqb n 4 (u Di))

pub read_unknown : (s : List ℕ) → 6 ≤ length s → get_or s 0 0 * 256 + get_or s 1 0 + 2 ≡ length s → ((k : PacketType) → get_or s 5 0 ≡ type_code k → ⊥) → read_packet s ≡ Err refusal.PacketType
read_unknown s six counts u = rw (le-leb 6 (length s) six, eq-eqb (get_or s 0 0 * 256 + get_or s 1 0 + 2) (length s) counts, unknown_code (get_or s 5 0) u)

-- a string whose lengths suit and whose type is known
module _ (s : List ℕ) (k : PacketType) (six : 6 ≤ length s) (counts : get_or s 0 0 * 256 + get_or s 1 0 + 2 ≡ length s) (type : coded_type (get_or s 5 0) ≡ Ok k) where
  read_at : read_packet s ≡ then (frame_in k (drop 6 s)) (λ f. suited (get_or s 2 0 * 256 + get_or s 3 0) k f)
  read_at = rw (le-leb 6 (length s) six, eq-eqb (get_or s 0 0 * 256 + get_or s 1 0 + 2) (length s) counts, type)

  pub read_refused : (e : Refusal) → frame_in k (drop 6 s) ≡ Err e → read_packet s ≡ Err e
  read_refused e h = read_at ∙ rw h

  pub read_unsuited : (f : List ℕ) → frame_in k (drop 6 s) ≡ Ok f → (type_code (type_of f) ≡ type_code k → ⊥) → read_packet s ≡ Err refusal.PacketType
  read_unsuited f h n = read_at ∙ rw (h, ne_eqb (type_code (type_of f)) (type_code k) n)

  pub read_good : (f : List ℕ) → frame_in k (drop 6 s) ≡ Ok f → type_code (type_of f) ≡ type_code k → read_packet s ≡ Ok (record { number = get_or s 2 0 * 256 + get_or s 3 0; frame = f })
  read_good f h e = read_at ∙ rw (h, eq-eqb (type_code (type_of f)) (type_code k) e)
