use Rattle.std.proofs.Common.{◌≡◌, ◌≤◌, true, length, get_or, take, drop, ap, ◌∙◌, arith, rules}
use Rattle.std.proofs.lemmas.List.{take_rest}
use Rattle.std.proofs.lemmas.Bool.{and_from, le-leb}
use Rattle.terms.specs.Numbers.{number}
use Rattle.codec.specs.Telegrams.{telegram_length, content_value, read_content}
use Rattle.terms.proofs.Numbers.{spell, spell_take}
use Rattle.codec.proofs.telegram.parse.Goals as goal

pub returns : goal.returns
unfolding number spell
returns c =
    let t = c.args.t.now in
    let long : 9 ≤ length t = search rules in
    let suits : telegram_length (length t) ≡ true = and_from _ _ (le-leb 9 (length t) (omega arith)) (le-leb (length t) 1032 (omega arith)) in
    let sn : c.from_be_bytes.result ≡ number 0 (take 4 (drop 1 t)) = c.from_be_bytes.ensures ∙ (omega arith) ∙ ap (number 0) (spell_take 4 1 t (omega arith)) in
    let ec : c.from_be_bytes-2.result ≡ number 0 (take 4 (drop 5 t)) = c.from_be_bytes-2.ensures ∙ (omega arith) ∙ ap (number 0) (spell_take 4 5 t (omega arith)) in
    let content : content_value c.content_from.result ≡ read_content (get_or t 0 0) (drop 9 t) = c.content_from.ensures ∙ ap (read_content (get_or t 0 0)) (take_rest t 9) in
    simp (suits, sn, ec, content)
