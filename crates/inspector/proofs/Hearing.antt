-- The laws of a session.
use Rattle.std.proofs.Common.{◌≡◌, ℕ, ◌≤◌, true, List, length, Ok, Err, Result, refl, ap, ◌∙◌, rules}
use lib.Bits.{bit_xor, xor_assoc, xor_comm, xor_self, xor_zero_r}
use Rattle.terms.specs.declared.refusal.Refusal.{Refusal}
use Rattle.codec.specs.Frames.{FrameValue, bare_di, au1, au2, au3, ar, di, dt}
use Rattle.codec.specs.FrameLaws.{Judged}
use Rattle.codec.specs.Sealing.{word_in}
use Rattle.codec.specs.Telegrams.{telegram_length}
use Rattle.inspector.specs.declared.session.Session.{Session}
use Rattle.inspector.specs.Sessions.{found}
use Rattle.inspector.specs.SessionLaws.{word_of, known, OpeningTells}

-- a mix and one of its numbers give the other
unmix_first : (a b : ℕ) → bit_xor (bit_xor a b) b ≡ a
unmix_first a b = xor_assoc a b b ∙ ap (bit_xor a) (xor_self b) ∙ xor_zero_r a

unmix_second : (a b : ℕ) → bit_xor (bit_xor a b) a ≡ b
unmix_second a b = ap (λ m. bit_xor m a) (xor_comm a b) ∙ unmix_first b a

pub opening_tells : OpeningTells
opening_tells s ra rb rc =
    let a = unmix_first ra rb in
    ap (λ x. known s.parties x rb (bit_xor (bit_xor ra rc) x)) a ∙ ap (λ y. known s.parties ra rb y) (unmix_second ra rc)

-- the word found is the one in the frame, since a telegram in a data frame is always read
pub word_found : (s : Session) (bytes : List ℕ) (r : Result FrameValue Refusal) → Judged bytes r → word_of (found s r) ≡ word_in r
word_found s bytes (Ok bare_di) j = refl
word_found s bytes (Ok (au1 rb)) j = refl
word_found s bytes (Ok (au2 mix)) j = refl
word_found s bytes (Ok (au3 mix)) j = refl
word_found s bytes (Ok (ar rb)) j = refl
word_found s bytes (Ok (di towards codes)) j = refl
word_found s bytes (Ok (dt towards telegram code)) j =
    let low : 9 ≤ length telegram = j.0.0 in
    let high : length telegram ≤ 1032 = j.0.1 in
    let fits : telegram_length (length telegram) ≡ true = search rules in
    rw fits refl
word_found s bytes (Err e) j = refl
