-- A data frame finds its place in an output buffer of the longest frame.
use Rattle.std.proofs.Common.{◌≡◌, ℕ, ◌≤◌, true, leb, List, length, Ok, ◌∙◌, arith}
use Rattle.std.proofs.lemmas.Bool.{cond-true, le-leb}
use Rattle.terms.specs.declared.role.Role.{Role}
use Rattle.codec.specs.Frames.{most_data}
use Rattle.codec.specs.Sealing.{sealed}
use Rattle.codec.specs.Telegrams.{TelegramValue, telegram_bytes, telegram_answer, content_bytes}
use Rattle.codec.proofs.Sealings.{length_sealed}
use Rattle.codec.proofs.TelegramTrips.{length_telegram}
use Rattle.ends.specs.Puts.{longest_frame}

-- what sealing answers where there is room
pub finds_place : (towards : Role) (t : TelegramValue) (word : ℕ) (out : List ℕ) → length out ≡ longest_frame → length (content_bytes t.content) ≤ most_data
    → telegram_answer t (sealed towards (telegram_bytes t) word) out ≡ Ok (length (sealed towards (telegram_bytes t) word))
finds_place towards t word out room short =
    let s = sealed towards (telegram_bytes t) word in
    let long = length_sealed towards (telegram_bytes t) word in
    let body = length_telegram t in
    let fits : leb (length s) (length out) ≡ true = le-leb _ _ (omega arith) in
    let small : leb (length (content_bytes t.content)) most_data ≡ true = le-leb _ _ short in
    cond-true _ _ _ fits ∙ cond-true _ _ _ small
