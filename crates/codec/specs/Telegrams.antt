-- The layout of the telegrams that data frames carry.
use Rattle.std.specs.Prelude.{ℕ, Bool, cond, ◌&&◌, List, ◌∷◌, ◌++◌, length, take, drop, Ok, Err, Result, ◌==◌, nat_le, slice_index}
use Rattle.terms.specs.declared.refusal.Refusal.{Refusal}
use Rattle.terms.specs.declared.refusal.Refusal.TheVariants as refusal
use Rattle.codec.specs.declared.telegram.Content.{Content}
use Rattle.codec.specs.declared.telegram.Content.TheVariants.{EcStart, Am, AmReq, AmAck, Other}
use Rattle.codec.specs.declared.telegram.Telegram.{Telegram}
use Rattle.terms.specs.Numbers.{number, bytes}
use Rattle.terms.specs.Layouts.{write_answer, write_after}

-- what a telegram says, wherever its bytes lie
pub data ContentValue : Type 0 where
  ec_start : ℕ → ℕ → ContentValue
  am : List ℕ → ContentValue
  am_req : List ℕ → ContentValue
  am_ack : List ℕ → ContentValue
  other : ℕ → List ℕ → ContentValue

pub record TelegramValue : Type 0 where
  pub sn : ℕ
  pub ec : ℕ
  pub content : ContentValue

abbrev pub content_value : Content → ContentValue
content_value (EcStart version period) = ec_start version period
content_value (Am message) = am message.now
content_value (AmReq message) = am_req message.now
content_value (AmAck message) = am_ack message.now
content_value (Other type-byte body) = other type-byte body.now

abbrev pub telegram_value : Telegram → TelegramValue
telegram_value t = record { sn = t.sn.0; ec = t.ec.0; content = content_value t.content }

abbrev pub telegram_values : Result Telegram Refusal → Result TelegramValue Refusal
telegram_values (Ok t) = Ok (telegram_value t)
telegram_values (Err e) = Err e

-- the first byte
abbrev pub content_type : ContentValue → ℕ
content_type (ec_start version period) = 0x81
content_type (am message) = 0x86
content_type (am_req message) = 0x87
content_type (am_ack message) = 0x88
content_type (other type-byte body) = type-byte

-- what stands behind SN and EC
abbrev pub content_bytes : ContentValue → List ℕ
content_bytes (ec_start version period) = version ∷ bytes 2 period
content_bytes (am message) = message
content_bytes (am_req message) = message
content_bytes (am_ack message) = message
content_bytes (other type-byte body) = body

-- type, SN and EC
abbrev pub header : TelegramValue → List ℕ
header t = content_type t.content ∷ (bytes 4 t.sn ++ bytes 4 t.ec)

-- a telegram as it is written
unfoldable pub telegram_bytes : TelegramValue → List ℕ
telegram_bytes t = header t ++ content_bytes t.content

-- the lengths that a data frame leaves for its telegram
abbrev pub telegram_length : ℕ → Bool
telegram_length n = nat_le 9 n && nat_le n 1032

-- ECStart has exactly version and period behind SN and EC; another length is none
abbrev pub read_start : List ℕ → ContentValue
read_start body = cond (length body == 3) (ec_start (slice_index body 0) (number 0 (drop 1 body))) (other 0x81 body)

abbrev pub read_content : ℕ → List ℕ → ContentValue
read_content type-byte body =
    cond (type-byte == 0x81) (read_start body)
    (cond (type-byte == 0x86) (am body)
    (cond (type-byte == 0x87) (am_req body)
    (cond (type-byte == 0x88) (am_ack body)
    (other type-byte body))))

abbrev pub read_telegram : List ℕ → Result TelegramValue Refusal
read_telegram t =
    cond (telegram_length (length t))
    (Ok record { sn = number 0 (take 4 (drop 1 t)); ec = number 0 (take 4 (drop 5 t)); content = read_content (slice_index t 0) (drop 9 t) })
    (Err refusal.FrameLength)

-- what stands behind SN and EC is no longer than a message may be
abbrev pub body_fits : TelegramValue → Bool
body_fits t = nat_le (length (content_bytes t.content)) 1023

-- a buffer that is too short is refused first, then a body that is longer than any message
abbrev pub telegram_answer : TelegramValue → List ℕ → List ℕ → Result ℕ Refusal
telegram_answer t s out = write_answer s (body_fits t) refusal.MessageTooLong out

abbrev pub telegram_after : TelegramValue → List ℕ → List ℕ → List ℕ
telegram_after t s out = write_after s (body_fits t) out
