-- What the frames of an opening make known, and what it means that a word was found.
use Rattle.std.specs.Prelude.{◌≡◌, ℕ, List, [], ◌∷◌, Some, None, Ok, Err, Option, Result, bit_xor}
use Rattle.terms.specs.declared.refusal.Refusal.{Refusal}
use Rattle.safety.specs.declared.word.SafetyWord.{SafetyWord}
use Rattle.codec.specs.Frames.{FrameValue, au1, au2, au3, ar}
use Rattle.captures.specs.declared.parties.Parties.{Parties}
use Rattle.inspector.specs.declared.session.Session.{Session}
use Rattle.inspector.specs.Sessions.{FindingValue, bare_di_found, au1_found, au2_found, au3_found, ar_found, di_found, dt_found, heard}

-- a session that has heard frames one after another
abbrev pub hears : Session → List FrameValue → Session
hears s [] = s
hears s (f ∷ fs) = hears (heard s (Ok f)) fs

-- the four frames by which a connection with these session numbers is opened
abbrev pub opening : ℕ → ℕ → ℕ → List FrameValue
opening ra rb rc = au1 rb ∷ au2 (bit_xor ra rb) ∷ au3 (bit_xor ra rc) ∷ ar rb ∷ []

-- a session whose three numbers are known
abbrev pub known : Option Parties → ℕ → ℕ → ℕ → Session
known parties ra rb rc = record { parties = parties; ra = Some ra; rb = Some rb; rc = Some rc }

-- whatever was known before, after an opening exactly its three numbers are known
abbrev pub OpeningTells : Type 0
OpeningTells = (s : Session) (ra rb rc : ℕ) → hears s (opening ra rb rc) ≡ known s.parties ra rb rc

-- the word that was found
abbrev pub word_of : Result FindingValue Refusal → Option SafetyWord
word_of (Ok bare_di_found) = None
word_of (Ok (au1_found rb)) = None
word_of (Ok (au2_found mix ra)) = None
word_of (Ok (au3_found mix rc)) = None
word_of (Ok (ar_found rb echo)) = None
word_of (Ok (di_found towards codes)) = None
word_of (Ok (dt_found towards telegram word verdict)) = Some record { 0 = word }
word_of (Err e) = None
