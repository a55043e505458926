-- What it means that a string is a frame, and that it is none; and that writing and reading undo each other.
use Rattle.std.specs.Prelude.{◌≡◌, ℕ, ◌^◌, ◌<◌, ◌≤◌, true, false, cond, ◌⊎◌, List, [], ◌∷◌, ◌++◌, length, take, drop, Ok, Err, Result, IfOk, ◌==◌, ◌≢◌}
use Rattle.terms.specs.declared.refusal.Refusal.{Refusal}
use Rattle.terms.specs.declared.refusal.Refusal.TheVariants as refusal
use Rattle.terms.specs.declared.role.Role.{Role}
use Rattle.terms.specs.declared.role.Role.TheVariants.{Initiator}
use Rattle.codec.specs.declared.frame_type.FrameType.{FrameType}
use Rattle.codec.specs.declared.frame_type.FrameType.TheVariants as type
use Rattle.terms.specs.Numbers.{bytes}
use Rattle.codec.specs.FrameTypes.{Goes, first_byte, suits_length}
use Rattle.codec.specs.Frames.{FrameValue, bare_di, au1, au2, au3, ar, di, dt, most_data, ignored_text, fixed_bytes, bytes_of, read_frame}

-- s is a writing of f: only an AU2 has more than one, by the eight bytes that reading ignores
abbrev pub Writing : FrameValue → List ℕ → Type 0
Writing bare_di s = s ≡ []
Writing (au1 rb) s = (rb < 2 ^ 64) × (s ≡ bytes_of (au1 rb))
Writing (au2 mix) s =
    (mix < 2 ^ 64) × ((ignored : List ℕ) × (length ignored ≡ 8) × (s ≡ first_byte type.Au2 Initiator ∷ (fixed_bytes ++ (ignored ++ bytes 8 mix))))
Writing (au3 mix) s = (mix < 2 ^ 64) × (s ≡ bytes_of (au3 mix))
Writing (ar rb) s = (rb < 2 ^ 64) × (s ≡ bytes_of (ar rb))
Writing (di towards codes) s = s ≡ bytes_of (di towards codes)
Writing (dt towards telegram code) s =
    (9 ≤ length telegram) × (length telegram ≤ 1032) × (length code ≡ 8) × (s ≡ bytes_of (dt towards telegram code))

-- the first byte is that of no frame
abbrev pub UnknownType : List ℕ → Type 0
UnknownType s =
    (h : ℕ) × (body : List ℕ) × (s ≡ h ∷ body) × ((t : FrameType) (towards : Role) → Goes t towards → h ≢ first_byte t towards)

-- it is, and the length does not suit it
abbrev pub WrongLength : List ℕ → Type 0
WrongLength s =
    (t : FrameType) × (towards : Role) × (body : List ℕ) × Goes t towards × (s ≡ first_byte t towards ∷ body)
    × (suits_length t (length s) most_data ≡ false)

-- both suit, and the fixed bytes differ
abbrev pub WrongFixed : List ℕ → Type 0
WrongFixed s =
    (t : FrameType) × (towards : Role) × (body : List ℕ) × Goes t towards × (s ≡ first_byte t towards ∷ body)
    × (suits_length t (length s) most_data ≡ true) × ((t ≡ type.Au1) ⊎ (t ≡ type.Au2)) × (take 4 body ≢ fixed_bytes)

-- why s is no frame
abbrev pub NoFrame : List ℕ → Refusal → Type 0
NoFrame s e =
    ((e ≡ refusal.FrameType) × UnknownType s)
    ⊎ (((e ≡ refusal.FrameLength) × WrongLength s) ⊎ ((e ≡ refusal.FrameFixed) × WrongFixed s))

-- the string is a writing of the frame answered and of no other, and there is no reason to refuse it;
-- or there is exactly the reason answered, and it is a writing of no frame
abbrev pub Judged : List ℕ → Result FrameValue Refusal → Type 0
Judged s (Ok f) = Writing f s × ((g : FrameValue) → Writing g s → g ≡ f) × ((e : Refusal) → NoFrame s e → ⊥)
Judged s (Err e) = NoFrame s e × ((g : FrameValue) → Writing g s → ⊥) × ((other : Refusal) → NoFrame s other → other ≡ e)

-- s with what reading ignores as it is written
abbrev pub settled : List ℕ → List ℕ
settled [] = []
settled (h ∷ body) = cond (h == 0x05) (h ∷ (take 4 body ++ (ignored_text ++ drop 12 body))) (h ∷ body)

-- what was read is written again as the same bytes, but for those that reading ignores
abbrev pub WrittenAgain : List ℕ → Result FrameValue Refusal → Type 0
WrittenAgain s (Ok f) = bytes_of f ≡ settled s
WrittenAgain s (Err e) = Unit {0}

-- the numbers of a frame fit their fields
abbrev pub FitsFields : FrameValue → Type 0
FitsFields bare_di = Unit {0}
FitsFields (au1 rb) = rb < 2 ^ 64
FitsFields (au2 mix) = mix < 2 ^ 64
FitsFields (au3 mix) = mix < 2 ^ 64
FitsFields (ar rb) = rb < 2 ^ 64
FitsFields (di towards codes) = Unit {0}
FitsFields (dt towards telegram code) = Unit {0}

-- what is written is read as the same frame
abbrev pub ReadBack : FrameValue → Result ℕ Refusal → List ℕ → Type 0
ReadBack f r out = IfOk r (λ n. read_frame (take n out) ≡ Ok f)
