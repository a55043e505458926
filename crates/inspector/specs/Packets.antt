-- Packets with the frames in them.
use Rattle.std.specs.Prelude.{ℕ, List, Ok, Err, Result, slice_index}
use Rattle.terms.specs.declared.refusal.Refusal.{Refusal}
use Rattle.codec.specs.Frames.{read_frame}
use Rattle.packets.specs.Packets.{PacketValue, type_code}
use Rattle.inspector.specs.declared.session.Session.{Session}
use Rattle.inspector.specs.declared.session.Unwrapped.{Unwrapped}
use Rattle.inspector.specs.Sessions.{FindingValue, finding_values, heard, found}

-- the packet's own fields, and what its frame says
pub record UnwrappedValue : Type 0 where
  pub number : ℕ
  pub n_r : ℕ
  pub packet_type : ℕ
  pub frame : Result FindingValue Refusal

abbrev pub unwrapped_value : Unwrapped → UnwrappedValue
unwrapped_value u =
    record { number = u.envelope.number.0; n_r = u.envelope.n_r; packet_type = type_code u.envelope.packet_type; frame = finding_values u.frame }

abbrev pub unwrapped_values : Result Unwrapped Refusal → Result UnwrappedValue Refusal
unwrapped_values (Ok u) = Ok (unwrapped_value u)
unwrapped_values (Err e) = Err e

-- the fifth byte is N/R, the sixth the type
abbrev pub unwrapped : Session → List ℕ → Result PacketValue Refusal → Result UnwrappedValue Refusal
unwrapped s bytes (Ok p) =
    Ok record { number = p.number; n_r = slice_index bytes 4; packet_type = slice_index bytes 5; frame = found s (read_frame p.frame) }
unwrapped s bytes (Err e) = Err e

-- a packet tells what its frame tells, and a refused one nothing
abbrev pub heard_in : Session → Result PacketValue Refusal → Session
heard_in s (Ok p) = heard s (read_frame p.frame)
heard_in s (Err e) = s
