-- Data frames and the word that each bears.
use Rattle.std.specs.Prelude.{◌≡◌, ℕ, ◌^◌, ◌<◌, List, ◌∷◌, ◌++◌, take, Some, None, Ok, Err, Option, Result, IfOk}
use Rattle.terms.specs.declared.refusal.Refusal.{Refusal}
use Rattle.terms.specs.declared.role.Role.{Role}
use Rattle.codec.specs.declared.frame_type.FrameType.TheVariants as type
use Rattle.safety.specs.declared.word.SafetyWord.{SafetyWord}
use Rattle.terms.specs.Numbers.{number, bytes}
use Rattle.codec.specs.FrameTypes.{first_byte}
use Rattle.codec.specs.Frames.{FrameValue, bare_di, au1, au2, au3, ar, di, dt, read_frame}
use Rattle.codec.specs.FrameLaws.{Writing}
use Rattle.safety.specs.Words.{code_of, word_borne}

-- all bytes before the code
abbrev pub guarded : Role → List ℕ → List ℕ
guarded towards telegram = first_byte type.Dt towards ∷ telegram

-- a data frame that bears a word
unfoldable pub sealed : Role → List ℕ → ℕ → List ℕ
sealed towards telegram word = guarded towards telegram ++ bytes 8 (code_of word (guarded towards telegram))

-- the word that makes the code right, where what was read is a data frame
abbrev pub word_in : Result FrameValue Refusal → Option SafetyWord
word_in (Ok bare_di) = None
word_in (Ok (au1 rb)) = None
word_in (Ok (au2 mix)) = None
word_in (Ok (au3 mix)) = None
word_in (Ok (ar rb)) = None
word_in (Ok (di towards codes)) = None
word_in (Ok (dt towards telegram code)) = Some record { 0 = word_borne (number 0 code) (guarded towards telegram) }
word_in (Err e) = None

-- s is a data frame whose code is right under the word
pub record Bears (word : ℕ) (s : List ℕ) : Type 0 where
  pub towards : Role
  pub telegram : List ℕ
  pub code : List ℕ
  pub data_frame : Writing (dt towards telegram code) s
  pub right : code ≡ bytes 8 (code_of word (guarded towards telegram))

-- a data frame bears exactly one word, and nothing else bears any
abbrev pub BearsOne : List ℕ → Option SafetyWord → Type 0
BearsOne s (Some w) = (w.0 < 2 ^ 64) × Bears w.0 s × ((other : ℕ) → other < 2 ^ 64 → Bears other s → other ≡ w.0)
BearsOne s None = (other : ℕ) → Bears other s → ⊥

-- s is read as the data frame with the telegram, and bears the word
abbrev pub SealedIn : Role → List ℕ → ℕ → List ℕ → Type 0
SealedIn towards telegram word s =
    (read_frame s ≡ Ok (dt towards telegram (bytes 8 (code_of word (guarded towards telegram))))) × Bears word s

-- what was sealed is read so, and bears the word
abbrev pub Seals : Role → List ℕ → ℕ → Result ℕ Refusal → List ℕ → Type 0
Seals towards telegram word r out = IfOk r (λ n. SealedIn towards telegram word (take n out))
