-- Sealed frames, and the one word that a data frame bears.
use Rattle.std.proofs.Common.{◌≡◌, ℕ, suc, ◌+◌, ◌-◌, ◌^◌, ◌<◌, ◌≤◌, true, List, length, take, drop, Some, None, Ok, Err, Option, Result, sym, refl, ap, ◌∙◌, subst, arith, length-append, take_at, drop_at}
use lib.Bits.{bit_xor, xor_assoc, xor_self, xor_zero_l, xor_lt}
use Rattle.terms.specs.declared.refusal.Refusal.{Refusal}
use Rattle.std.proofs.lemmas.Bool.{leb-true}
use Rattle.terms.specs.declared.role.Role.{Role}
use Rattle.safety.specs.declared.crc.Channel.TheVariants.{First, Second}
use Rattle.safety.specs.declared.word.SafetyWord.{SafetyWord}
use Rattle.terms.specs.Numbers.{number, bytes, Bytes}
use Rattle.safety.specs.Remainder.{polynomial}
use Rattle.codec.specs.Frames.{FrameValue, bare_di, au1, au2, au3, ar, di, dt, read_frame}
use Rattle.codec.specs.FrameLaws.{Writing, Judged}
use Rattle.safety.specs.Words.{checks, code_of, word_borne}
use Rattle.codec.specs.Sealing.{guarded, sealed, word_in, Bears, BearsOne, SealedIn}
use Rattle.safety.proofs.Channels.{low}
use Rattle.safety.proofs.Register.{remainder_lt}
use Rattle.terms.proofs.Numbers.{number_back, bytes_back, number_lt, Bytes-drop}
use Rattle.codec.specs.Telegrams.{TelegramValue, telegram_bytes, body_fits}
use Rattle.codec.proofs.TelegramTrips.{length_telegram}
use Rattle.codec.proofs.Judging.{writing_reads, judged}

-- laid over twice is not laid over
pub over_twice : (a b : ℕ) → bit_xor a (bit_xor a b) ≡ b
over_twice a b = sym (xor_assoc a a b) ∙ ap (λ u. bit_xor u b) (xor_self a) ∙ xor_zero_l b

pub checks_lt : (s : List ℕ) → checks s < 2 ^ 64
unfolding checks
checks_lt s =
    let a = remainder_lt (polynomial First) (low First) s in
    let b = remainder_lt (polynomial Second) (low Second) s in
    omega arith

pub code_lt : (word : ℕ) (s : List ℕ) → word < 2 ^ 64 → code_of word s < 2 ^ 64
code_lt word s h = xor_lt 64 _ _ (checks_lt s) h

pub length_sealed : (towards : Role) (t : List ℕ) (word : ℕ) → length (sealed towards t word) ≡ suc (length t) + 8
unfolding sealed
length_sealed towards t word = length-append (guarded towards t) _

-- a sealed frame is a writing of the data frame that it is
pub sealed_writing : (towards : Role) (t : List ℕ) (word : ℕ) → 9 ≤ length t → length t ≤ 1032
    → Writing (dt towards t (bytes 8 (code_of word (guarded towards t)))) (sealed towards t word)
unfolding sealed
sealed_writing towards t word low high = (low, high, refl, refl)

pub sealed_bears : (towards : Role) (t : List ℕ) (word : ℕ) → 9 ≤ length t → length t ≤ 1032 → Bears word (sealed towards t word)
sealed_bears towards t word low high =
    record { towards = towards; telegram = t; code = bytes 8 (code_of word (guarded towards t)); data_frame = sealed_writing towards t word low high; right = refl }

-- the word of a frame that bears one is found by reading it
pub bears_reads : (word : ℕ) (s : List ℕ) → word < 2 ^ 64 → Bears word s → word_in (read_frame s) ≡ Some record { 0 = word }
bears_reads word s h b =
    let m = guarded b.towards b.telegram in
    ap word_in (writing_reads (dt b.towards b.telegram b.code) s b.data_frame)
    ∙ ap (λ w. Some record { 0 = w }) (ap (λ c. word_borne (number 0 c) m) b.right ∙ ap (bit_xor (checks m)) (number_back 8 (code_of word m) (code_lt word m h)) ∙ over_twice (checks m) word)

-- all of a data frame but its last eight bytes is what its code guards
pub guarded_front : (towards : Role) (t c s : List ℕ) → Writing (dt towards t c) s → take (length s - 8) s ≡ guarded towards t
guarded_front towards t c s w =
    let long : length s ≡ suc (length t + length c) = ap length w.3 ∙ ap suc (length-append t c) in
    ap (take (length s - 8)) w.3 ∙ take_at (guarded towards t) c (length s - 8) (omega (arith, w.2))

pub code_behind : (towards : Role) (t c s : List ℕ) → Writing (dt towards t c) s → 8 ≤ length s
code_behind towards t c s w = let long : length s ≡ suc (length t + length c) = ap length w.3 ∙ ap suc (length-append t c) in omega (arith, w.2)

code_bytes : (towards : Role) (t c s : List ℕ) → Writing (dt towards t c) s → Bytes s → Bytes c
code_bytes towards t c s w h = subst Bytes (ap (drop (suc (length t))) w.3 ∙ drop_at t c (length t) refl) (Bytes-drop (suc (length t)) s h)

none_bears : (s : List ℕ) (r : Result FrameValue Refusal) → read_frame s ≡ r → ((towards : Role) (t c : List ℕ) → r ≡ Ok (dt towards t c) → ⊥)
    → (other : ℕ) → Bears other s → ⊥
none_bears s r e not-data other b = not-data b.towards b.telegram b.code (sym e ∙ writing_reads (dt b.towards b.telegram b.code) s b.data_frame)

number_in : Option SafetyWord → ℕ
number_in (Some w) = w.0
number_in None = 0

one_of : (s : List ℕ) (r : Result FrameValue Refusal) → read_frame s ≡ r → Bytes s → Judged s r → BearsOne s (word_in r)
unfolding number_in
one_of s (Ok bare_di) e h j = none_bears s _ e (λ w t c p. cc)
one_of s (Ok (au1 rb)) e h j = none_bears s _ e (λ w t c p. cc)
one_of s (Ok (au2 mix)) e h j = none_bears s _ e (λ w t c p. cc)
one_of s (Ok (au3 mix)) e h j = none_bears s _ e (λ w t c p. cc)
one_of s (Ok (ar rb)) e h j = none_bears s _ e (λ w t c p. cc)
one_of s (Ok (di towards codes)) e h j = none_bears s _ e (λ w t c p. cc)
one_of s (Err x) e h j = none_bears s _ e (λ w t c p. cc)
one_of s (Ok (dt towards t c)) e h j =
    let m = guarded towards t in
    let hc = code_bytes towards t c s j.0 h in
    let code_fits : number 0 c < 2 ^ 64 = let l = subst (λ n. number 0 c < 256 ^ n) j.0.2 (number_lt c hc) in omega arith in
    let fits = xor_lt 64 (checks m) (number 0 c) (checks_lt m) code_fits in
    let back : c ≡ bytes 8 (code_of (word_borne (number 0 c) m) m) = sym (ap (bytes 8) (over_twice (checks m) (number 0 c)) ∙ bytes_back 8 c hc j.0.2) in (
      fits,
      record { towards = towards; telegram = t; code = c; data_frame = j.0; right = back },
      (λ other lt b. let both : Some record { 0 = other } ≡ Some record { 0 = word_borne (number 0 c) m } = sym (bears_reads other s lt b) ∙ ap word_in e in ap number_in both),
    )

pub bears_one : (s : List ℕ) (word : Option SafetyWord) → Bytes s → word ≡ word_in (read_frame s) → BearsOne s word
bears_one s word h e = subst (BearsOne s) (sym e) (one_of s (read_frame s) refl h (judged s h))

-- what is sealed is read as the data frame that it is, and bears the word
pub sealed_in : (towards : Role) (t : TelegramValue) (word : ℕ) → body_fits t ≡ true → SealedIn towards (telegram_bytes t) word (sealed towards (telegram_bytes t) word)
sealed_in towards t word fits =
    let s = telegram_bytes t in
    let long = length_telegram t in
    let room = leb-true _ _ fits in
    let low : 9 ≤ length s = omega arith in
    let high : length s ≤ 1032 = omega arith in
    (writing_reads _ _ (sealed_writing towards s word low high), sealed_bears towards s word low high)
