-- The layout of the frames: how each is written, and what a string is read as.
use Rattle.std.specs.Prelude.{◌≡◌, ℕ, suc, ◌-◌, ◌≤◌, Bool, true, cond, ◌&&◌, List, [], ◌∷◌, ◌++◌, length, take, drop, Some, None, Ok, Err, Option, Result, ◌==◌, nat_le, slice_index}
use Rattle.std.specs.Str.{bytes_eq}
use Rattle.terms.specs.declared.refusal.Refusal.{Refusal}
use Rattle.terms.specs.declared.refusal.Refusal.TheVariants as refusal
use Rattle.terms.specs.declared.role.Role.{Role}
use Rattle.terms.specs.declared.role.Role.TheVariants.{Initiator, Responder}
use Rattle.codec.specs.declared.frame_type.FrameType.{FrameType}
use Rattle.codec.specs.declared.frame_type.FrameType.TheVariants as type
use Rattle.codec.specs.declared.frame_type.ReasonCodes.{ReasonCodes}
use Rattle.codec.specs.declared.frame.Frame.{Frame}
use Rattle.codec.specs.declared.frame.Frame.TheVariants.{BareDi, Au1, Au2, Au3, Ar, Di, Dt}
use Rattle.terms.specs.Numbers.{number, bytes}
use Rattle.terms.specs.Layouts as layout
use Rattle.codec.specs.FrameTypes.{first_byte, suits_length}

-- a frame by what it says, wherever its bytes lie
pub data FrameValue : Type 0 where
  bare_di : FrameValue
  au1 : ℕ → FrameValue
  au2 : ℕ → FrameValue
  au3 : ℕ → FrameValue
  ar : ℕ → FrameValue
  di : Role → ReasonCodes → FrameValue
  dt : Role → List ℕ → List ℕ → FrameValue

abbrev pub frame_value : Frame → FrameValue
frame_value BareDi = bare_di
frame_value (Au1 rb) = au1 rb
frame_value (Au2 ra-xor-rb) = au2 ra-xor-rb
frame_value (Au3 ra-xor-rc) = au3 ra-xor-rc
frame_value (Ar rb) = ar rb
frame_value (Di towards codes) = di towards codes
frame_value (Dt towards telegram code) = dt towards telegram.now code.now

abbrev pub frame_values : Result Frame Refusal → Result FrameValue Refusal
frame_values (Ok f) = Ok (frame_value f)
frame_values (Err e) = Err e

-- the longest message that any frame may have
abbrev pub most_data : ℕ
most_data = 1023

-- the eight bytes of an AU2 that reading ignores, as they are written
abbrev pub ignored_text : List ℕ
ignored_text = 0x22 ∷ 0x47 ∷ 0x52 ∷ 0x41 ∷ 0x54 ∷ 0x49 ∷ 0x53 ∷ 0x22 ∷ []

-- the fixed bytes behind the first of an AU1 or an AU2
abbrev pub fixed_bytes : List ℕ
fixed_bytes = 0 ∷ 0 ∷ 0 ∷ 2 ∷ []

-- a frame as it is written
abbrev pub bytes_of : FrameValue → List ℕ
bytes_of bare_di = []
bytes_of (au1 rb) = first_byte type.Au1 Responder ∷ (fixed_bytes ++ bytes 8 rb)
bytes_of (au2 mix) = first_byte type.Au2 Initiator ∷ (fixed_bytes ++ (ignored_text ++ bytes 8 mix))
bytes_of (au3 mix) = first_byte type.Au3 Responder ∷ bytes 8 mix
bytes_of (ar rb) = first_byte type.Ar Initiator ∷ bytes 8 rb
bytes_of (di towards codes) = first_byte type.Di towards ∷ codes.reason ∷ codes.sub_reason ∷ []
bytes_of (dt towards telegram code) = first_byte type.Dt towards ∷ (telegram ++ code)

-- a data frame holds a telegram of 9 to 1,032 bytes and a code of 8
abbrev pub sized : FrameValue → Bool
sized bare_di = true
sized (au1 rb) = true
sized (au2 mix) = true
sized (au3 mix) = true
sized (ar rb) = true
sized (di towards codes) = true
sized (dt towards telegram code) = nat_le 9 (length telegram) && (nat_le (length telegram) 1032 && length code == 8)

-- the parts of a data frame that was read, for those who take them
abbrev pub Parts : Frame → Type 0
Parts BareDi = Unit {0}
Parts (Au1 rb) = Unit {0}
Parts (Au2 mix) = Unit {0}
Parts (Au3 mix) = Unit {0}
Parts (Ar rb) = Unit {0}
Parts (Di towards codes) = Unit {0}
Parts (Dt towards telegram code) = (9 ≤ length telegram.now) × (length code.now ≡ 8)

-- Reading:

-- the type of frame and the direction that a first byte names
abbrev pub head_of : ℕ → Option (FrameType × Role)
head_of h =
    cond (h == 0x02) (Some (type.Au1, Responder))
    (cond (h == 0x05) (Some (type.Au2, Initiator))
    (cond (h == 0x06) (Some (type.Au3, Responder))
    (cond (h == 0x0A) (Some (type.Dt, Responder))
    (cond (h == 0x0B) (Some (type.Dt, Initiator))
    (cond (h == 0x10) (Some (type.Di, Responder))
    (cond (h == 0x11) (Some (type.Di, Initiator))
    (cond (h == 0x13) (Some (type.Ar, Initiator))
    None)))))))

-- what follows the first byte, at a length that suits
abbrev pub read_au1 : List ℕ → Result FrameValue Refusal
read_au1 body = cond (bytes_eq (take 4 body) fixed_bytes) (Ok (au1 (number 0 (drop 4 body)))) (Err refusal.FrameFixed)

abbrev pub read_au2 : List ℕ → Result FrameValue Refusal
read_au2 body = cond (bytes_eq (take 4 body) fixed_bytes) (Ok (au2 (number 0 (drop 12 body)))) (Err refusal.FrameFixed)

abbrev pub read_di : Role → List ℕ → Result FrameValue Refusal
read_di towards body = Ok (di towards record { reason = slice_index body 0; sub_reason = slice_index body 1 })

abbrev pub read_dt : Role → List ℕ → Result FrameValue Refusal
read_dt towards body = Ok (dt towards (take (length body - 8) body) (drop (length body - 8) body))

abbrev pub read_body : FrameType → Role → List ℕ → Result FrameValue Refusal
read_body type.Au1 towards body = read_au1 body
read_body type.Au2 towards body = read_au2 body
read_body type.Au3 towards body = Ok (au3 (number 0 body))
read_body type.Dt towards body = read_dt towards body
read_body type.Di towards body = read_di towards body
read_body type.Ar towards body = Ok (ar (number 0 body))

-- first the length, where a message has at most `most` bytes, then the fixed bytes
abbrev pub read_typed : FrameType → Role → ℕ → List ℕ → Result FrameValue Refusal
read_typed t towards most body = cond (suits_length t (suc (length body)) most) (read_body t towards body) (Err refusal.FrameLength)

-- before both the type
abbrev pub read_as : Option (FrameType × Role) → List ℕ → Result FrameValue Refusal
read_as None body = Err refusal.FrameType
read_as (Some head) body = read_typed head.0 head.1 most_data body

abbrev pub read_frame : List ℕ → Result FrameValue Refusal
read_frame [] = Ok bare_di
read_frame (h ∷ body) = read_as (head_of h) body

-- Writing:

-- a buffer that is too short is refused first, then a data frame whose parts have no length that suits
abbrev pub write_answer : FrameValue → List ℕ → Result ℕ Refusal
write_answer f out = layout.write_answer (bytes_of f) (sized f) refusal.FrameLength out

abbrev pub write_after : FrameValue → List ℕ → List ℕ
write_after f out = layout.write_after (bytes_of f) (sized f) out
