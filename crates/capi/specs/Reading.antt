-- The numbers by which C learns what a string was read as.
use Rattle.std.specs.Prelude.{ℕ, ℤ, pos, neg_ℤ, Ok, Err, Result}
use Rattle.terms.specs.declared.refusal.Refusal.{Refusal}
use Rattle.codec.specs.Frames.{FrameValue, bare_di, au1, au2, au3, ar, di, dt}
use Rattle.packets.specs.Packets.{PacketValue, type_of, type_code}
use Rattle.terms.specs.Refusals.{refusal_number}

abbrev pub kind_number : FrameValue → ℕ
kind_number bare_di = 0
kind_number (au1 rb) = 1
kind_number (au2 ra-xor-rb) = 2
kind_number (au3 ra-xor-rc) = 3
kind_number (ar rb) = 4
kind_number (di towards codes) = 5
kind_number (dt towards telegram code) = 6

-- a frame's kind, or the refusal's number below zero
abbrev pub frame_answer : Result FrameValue Refusal → ℤ
frame_answer (Ok f) = pos (kind_number f)
frame_answer (Err e) = neg_ℤ (pos (refusal_number e))

-- a packet's type, or the refusal's number below zero
abbrev pub packet_answer : Result PacketValue Refusal → ℤ
packet_answer (Ok p) = pos (type_code (type_of p.frame))
packet_answer (Err e) = neg_ℤ (pos (refusal_number e))
