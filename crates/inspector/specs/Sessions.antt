-- What the frames of a session say one after another.
use Rattle.std.specs.Prelude.{ℕ, Bool, cond, List, Some, None, Ok, Err, Option, Result, ◌==◌, bit_xor}
use Rattle.terms.specs.declared.refusal.Refusal.{Refusal}
use Rattle.terms.specs.declared.role.Role.{Role}
use Rattle.terms.specs.declared.role.Role.TheVariants.{Initiator, Responder}
use Rattle.codec.specs.declared.frame_type.ReasonCodes.{ReasonCodes}
use Rattle.terms.specs.declared.identifier.Identifier.{Identifier}
use Rattle.codec.specs.Frames.{FrameValue, bare_di, au1, au2, au3, ar, di, dt}
use Rattle.terms.specs.Numbers.{number}
use Rattle.terms.specs.Outcomes.{then}
use Rattle.codec.specs.Sealing.{guarded}
use Rattle.codec.specs.Telegrams.{TelegramValue, telegram_value, read_telegram}
use Rattle.safety.specs.declared.word.SafetyWord.{SafetyWord}
use Rattle.safety.specs.Words.{word_borne, connection_word}
use Rattle.captures.specs.declared.parties.Parties.{Parties}
use Rattle.inspector.specs.declared.session.Session.{Session}
use Rattle.inspector.specs.declared.session.Verdict.{Verdict}
use Rattle.inspector.specs.declared.session.Verdict.TheVariants.{Same, Different, Unknown}
use Rattle.inspector.specs.declared.session.Finding.{Finding}
use Rattle.inspector.specs.declared.session.Finding.TheVariants as finding

-- before any frame has passed
abbrev pub begun : Option Parties → Session
begun parties = record { parties = parties; ra = None; rb = None; rc = None }

-- one of two numbers, from both mixed and the other
abbrev pub unmixed : ℕ → Option ℕ → Option ℕ
unmixed mix (Some r) = Some (bit_xor mix r)
unmixed mix None = None

-- what is known after a frame: an AU1 begins anew with Rb, an AU2 gives Ra, an AU3 Rc; nothing else tells a number
abbrev pub heard : Session → Result FrameValue Refusal → Session
heard s (Ok bare_di) = s
heard s (Ok (au1 rb)) = record { parties = s.parties; ra = None; rb = Some rb; rc = None }
heard s (Ok (au2 mix)) = record { parties = s.parties; ra = unmixed mix s.rb; rb = s.rb; rc = None }
heard s (Ok (au3 mix)) = record { parties = s.parties; ra = s.ra; rb = s.rb; rc = unmixed mix s.ra }
heard s (Ok (ar rb)) = s
heard s (Ok (di towards codes)) = s
heard s (Ok (dt towards telegram code)) = s
heard s (Err e) = s

-- a word from the receiver's identifier and the sender's session number
abbrev pub worded : Identifier → Option ℕ → Option SafetyWord
worded receiver (Some r) = Some record { 0 = connection_word receiver r }
worded receiver None = None

-- the connection's word: the responder's identifier with Rc on the initiator's frames, the initiator's with Ra on the responder's
abbrev pub word_from : Option Parties → Role → Option ℕ → Option ℕ → Option SafetyWord
word_from None receiver ra rc = None
word_from (Some p) Initiator ra rc = worded p.identifiers.initiator ra
word_from (Some p) Responder ra rc = worded p.identifiers.responder rc

abbrev pub word_towards : Session → Role → Option SafetyWord
word_towards s receiver = word_from s.parties receiver s.ra s.rc

-- whether two words are one
abbrev pub one_word : SafetyWord → SafetyWord → Bool
one_word v w = v.0 == w.0

-- whether a number or a word is the one wanted, where `equal` says which are one
abbrev pub compared : {T : Type 0} → (T → T → Bool) → T → Option T → Verdict
compared equal x (Some y) = cond (equal x y) Same Different
compared equal x None = Unknown

-- what a frame says, and what follows from it in the session, wherever its bytes lie
pub data FindingValue : Type 0 where
  bare_di_found : FindingValue
  au1_found : ℕ → FindingValue
  au2_found : ℕ → Option ℕ → FindingValue
  au3_found : ℕ → Option ℕ → FindingValue
  ar_found : ℕ → Verdict → FindingValue
  di_found : Role → ReasonCodes → FindingValue
  dt_found : Role → TelegramValue → ℕ → Verdict → FindingValue

abbrev pub finding_value : Finding → FindingValue
finding_value finding.BareDi = bare_di_found
finding_value (finding.Au1 rb) = au1_found rb
finding_value (finding.Au2 mix ra) = au2_found mix ra
finding_value (finding.Au3 mix rc) = au3_found mix rc
finding_value (finding.Ar rb echo) = ar_found rb echo
finding_value (finding.Di towards codes) = di_found towards codes
finding_value (finding.Dt towards telegram word verdict) = dt_found towards (telegram_value telegram) word.0 verdict

abbrev pub finding_values : Result Finding Refusal → Result FindingValue Refusal
finding_values (Ok f) = Ok (finding_value f)
finding_values (Err e) = Err e

-- a data frame: its telegram, the word it bears, and whether that is the connection's
abbrev pub data_found : Session → Role → List ℕ → ℕ → Result FindingValue Refusal
data_found s towards telegram word = then (read_telegram telegram) (λ t. Ok (dt_found towards t word (compared one_word record { 0 = word } (word_towards s towards))))

-- what a frame says in a session that has heard it
abbrev pub finding_of : Session → FrameValue → Result FindingValue Refusal
finding_of s bare_di = Ok bare_di_found
finding_of s (au1 rb) = Ok (au1_found rb)
finding_of s (au2 mix) = Ok (au2_found mix s.ra)
finding_of s (au3 mix) = Ok (au3_found mix s.rc)
finding_of s (ar rb) = Ok (ar_found rb (compared ◌==◌ rb s.rb))
finding_of s (di towards codes) = Ok (di_found towards codes)
finding_of s (dt towards telegram code) = data_found s towards telegram (word_borne (number 0 code) (guarded towards telegram))

-- what is found in a string that was read as this
abbrev pub found : Session → Result FrameValue Refusal → Result FindingValue Refusal
found s (Ok f) = finding_of (heard s (Ok f)) f
found s (Err e) = Err e
