-- The numbers under which refusals are reported.
use Rattle.std.specs.Prelude.{ℕ}
use Rattle.terms.specs.declared.refusal.Refusal.{Refusal}
use Rattle.terms.specs.declared.refusal.Refusal.TheVariants as refusal

abbrev pub refusal_number : Refusal → ℕ
refusal_number refusal.CarrierTooNarrow = 6
refusal_number refusal.BufferTooShort = 7
refusal_number refusal.EndIsOut = 8
refusal_number refusal.MessageTooLong = 9
refusal_number refusal.EndNotUp = 10
refusal_number refusal.StringTooLong = 11
refusal_number refusal.PacketLength = 12
refusal_number refusal.PacketType = 13
refusal_number refusal.FrameType = 14
refusal_number refusal.FrameLength = 15
refusal_number refusal.FrameFixed = 16
