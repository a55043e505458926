-- What it means that a string is a telegram; and that writing and reading undo each other.
use Rattle.std.specs.Prelude.{◌≡◌, ℕ, ◌^◌, ◌<◌, ◌≤◌, List, length, take, Ok, Err, Result, IfOk, ◌≢◌}
use Rattle.terms.specs.declared.refusal.Refusal.{Refusal}
use Rattle.terms.specs.declared.refusal.Refusal.TheVariants as refusal
use Rattle.codec.specs.Telegrams.{ContentValue, ec_start, am, am_req, am_ack, other, TelegramValue, content_bytes, telegram_bytes, read_telegram}

-- what is none of the four is not one of them under another name
abbrev pub Proper : ContentValue → Type 0
Proper (ec_start version period) = period < 2 ^ 16
Proper (am message) = Unit {0}
Proper (am_req message) = Unit {0}
Proper (am_ack message) = Unit {0}
Proper (other type-byte body) =
    (type-byte ≡ 0x81 → length body ≢ 3) × (type-byte ≢ 0x86) × (type-byte ≢ 0x87) × (type-byte ≢ 0x88)

-- s is the writing of t
pub record TelegramWriting (t : TelegramValue) (s : List ℕ) : Type 0 where
  pub sn_fits : t.sn < 2 ^ 32
  pub ec_fits : t.ec < 2 ^ 32
  pub proper : Proper t.content
  pub length_fits : length (content_bytes t.content) ≤ 1023
  pub written : s ≡ telegram_bytes t

-- the string is the writing of the telegram answered, and of no other; or it has a length that no telegram has
abbrev pub TelegramJudged : List ℕ → Result TelegramValue Refusal → Type 0
TelegramJudged s (Ok t) = TelegramWriting t s × ((other : TelegramValue) → TelegramWriting other s → other ≡ t)
TelegramJudged s (Err e) = (e ≡ refusal.FrameLength) × ((other : TelegramValue) → TelegramWriting other s → ⊥)

-- what is written is read as the same telegram
abbrev pub TelegramBack : TelegramValue → Result ℕ Refusal → List ℕ → Type 0
TelegramBack t r out = IfOk r (λ n. Proper t.content → read_telegram (take n out) ≡ Ok t)
