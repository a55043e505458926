-- The types of frame: first bytes, lengths and reasons.
use Rattle.std.specs.Prelude.{◌≡◌, ℕ, ◌+◌, ◌*◌, ◌/◌, ◌≤◌, Bool, cond, ◌&&◌, List, ◌∷◌, ◌++◌, Some, None, decimal, Option, ◌==◌, nat_le}
use Rattle.codec.specs.declared.frame_type.FrameType.{FrameType}
use Rattle.codec.specs.declared.frame_type.FrameType.TheVariants.{Au1, Au2, Au3, Dt, Di, Ar}
use Rattle.codec.specs.declared.frame_type.FrameRule.{FrameRule}
use Rattle.codec.specs.declared.frame_type.Lengths.{Lengths}
use Rattle.codec.specs.declared.frame_type.Lengths.TheVariants.{Exactly, WithMessage}
use Rattle.codec.specs.declared.frame_type.ReasonCodes.{ReasonCodes}
use Rattle.terms.specs.Roles.{flag}
use Rattle.terms.specs.declared.role.Role.{Role}
use Rattle.terms.specs.declared.role.Role.TheVariants.{Initiator, Responder}

-- the number of a type
abbrev pub type_number : FrameType → ℕ
type_number Au1 = 1
type_number Au2 = 2
type_number Au3 = 3
type_number Dt = 5
type_number Di = 8
type_number Ar = 9

-- the type that a first byte names, whatever its flag
abbrev pub type_named : ℕ → Option FrameType
type_named first =
    cond (first / 2 == 1) (Some Au1)
    (cond (first / 2 == 2) (Some Au2)
    (cond (first / 2 == 3) (Some Au3)
    (cond (first / 2 == 5) (Some Dt)
    (cond (first / 2 == 8) (Some Di)
    (cond (first / 2 == 9) (Some Ar)
    None)))))

-- the first byte of a frame
abbrev pub first_byte : FrameType → Role → ℕ
first_byte t towards = 2 * type_number t + flag towards

-- the ways that a type of frame goes: some only to the responder or only to the initiator
abbrev pub Goes : FrameType → Role → Type 0
Goes Au1 towards = towards ≡ Responder
Goes Au2 towards = towards ≡ Initiator
Goes Au3 towards = towards ≡ Responder
Goes Dt towards = Unit {0}
Goes Di towards = Unit {0}
Goes Ar towards = towards ≡ Initiator

-- allowed lengths, and the reason where the length is wrong
abbrev pub rule_of : FrameType → FrameRule
rule_of Au1 = record { lengths = Exactly 13; wrong_length = record { reason = 10; sub_reason = 1 } }
rule_of Au2 = record { lengths = Exactly 21; wrong_length = record { reason = 10; sub_reason = 2 } }
rule_of Au3 = record { lengths = Exactly 9; wrong_length = record { reason = 10; sub_reason = 3 } }
rule_of Dt = record { lengths = WithMessage 18; wrong_length = record { reason = 10; sub_reason = 5 } }
rule_of Di = record { lengths = Exactly 3; wrong_length = record { reason = 8; sub_reason = 1 } }
rule_of Ar = record { lengths = Exactly 9; wrong_length = record { reason = 10; sub_reason = 8 } }

abbrev pub allows : Lengths → ℕ → ℕ → Bool
allows (Exactly n) len most = len == n
allows (WithMessage least) len most = nat_le least len && nat_le len (least + most)

-- a frame of this type may have len bytes where a message has at most `most`
abbrev pub suits_length : FrameType → ℕ → ℕ → Bool
suits_length t len most = allows (rule_of t).lengths len most

-- the same of what stands behind the first byte, as a fact, whatever the longest message
abbrev pub Suits : FrameType → ℕ → Type 0
Suits Au1 n = n ≡ 12
Suits Au2 n = n ≡ 20
Suits Au3 n = n ≡ 8
Suits Dt n = 17 ≤ n
Suits Di n = n ≡ 2
Suits Ar n = n ≡ 8

-- the two codes of a release with a slash, 47, between them
abbrev pub codes_text : ReasonCodes → List ℕ
codes_text c = decimal c.reason ++ (47 ∷ decimal c.sub_reason)
