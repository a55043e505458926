-- What a fetched string is to an end: a frame, or a reason to release.
use Rattle.std.specs.Prelude.{ℕ, ◌%◌, cond, List, [], ◌∷◌, Some, None, Ok, Err, Option, Result, ◌==◌}
use Rattle.terms.specs.declared.refusal.Refusal.{Refusal}
use Rattle.terms.specs.declared.refusal.Refusal.TheVariants as refusal
use Rattle.terms.specs.declared.role.Role.{Role}
use Rattle.terms.specs.declared.role.Role.TheVariants.{Initiator, Responder}
use Rattle.codec.specs.declared.frame_type.FrameType.{FrameType}
use Rattle.codec.specs.declared.frame_type.FrameType.TheVariants as type
use Rattle.codec.specs.declared.frame.Frame.{Frame}
use Rattle.terms.specs.Roles.{flag}
use Rattle.codec.specs.FrameTypes.{type_named}
use Rattle.codec.specs.Frames.{FrameValue, bare_di, frame_value, read_typed}
use Rattle.states.specs.declared.reason.Reason.{Reason}
use Rattle.states.specs.declared.reason.Reason.TheVariants as reason

-- a frame with the flag of one that goes the other way
abbrev pub wrong_flag : Role → Reason
wrong_flag Initiator = reason.FlagClear
wrong_flag Responder = reason.FlagSet

-- the fixed bytes of an AU1, or of an AU2, differ
abbrev pub wrong_fixed : FrameType → Reason
wrong_fixed type.Au1 = reason.Au1Fixed
wrong_fixed _ = reason.Malformed

-- what a refusal of the frame reader is to an end: the length does not suit, or else the fixed bytes differ
abbrev pub refused_frame : FrameType → Refusal → Reason
refused_frame t refusal.FrameLength = reason.WrongLength t
refused_frame t _ = wrong_fixed t

abbrev pub judged_frame : FrameType → Result FrameValue Refusal → Result FrameValue Reason
judged_frame t (Ok f) = Ok f
judged_frame t (Err e) = Err (refused_frame t e)

-- type, then flag, then length and fixed bytes
abbrev pub typed_arrival : Role → ℕ → ℕ → List ℕ → Option FrameType → Result FrameValue Reason
typed_arrival role most first body None = Err reason.Malformed
typed_arrival role most first body (Some t) =
    cond (first % 2 == flag role) (judged_frame t (read_typed t role most body)) (Err (wrong_flag role))

-- a string that arrives at an end of this role, where a message has at most `most` bytes
abbrev pub arrival : Role → ℕ → List ℕ → Result FrameValue Reason
arrival role most [] = Ok bare_di
arrival role most (first ∷ body) = typed_arrival role most first body (type_named first)

abbrev pub arrived : Result Frame Reason → Result FrameValue Reason
arrived (Ok f) = Ok (frame_value f)
arrived (Err e) = Err e
