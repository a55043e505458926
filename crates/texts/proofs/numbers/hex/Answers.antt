use Rattle.std.proofs.Common.{◌≡◌, sym, ◌∙◌, arith}
use Rattle.std.proofs.lemmas.Grind.{common_steps}
use Rattle.texts.proofs.Digits.{word_at, by_bytes}
use Rattle.texts.proofs.numbers.hex.Goals as goal

pub returns-in_err-y : goal.returns-in_err-y
returns-in_err-y c =
    let e : c.from_residual-in_err-y.result ≡ word_at c.args.s.now = grind (arith, common_steps) in
    e ∙ sym (by_bytes c.args.s.now)

pub returns-in_err-z : goal.returns-in_err-z
returns-in_err-z c =
    let e : c.from_residual-in_err-z.result ≡ word_at c.args.s.now = grind (arith, common_steps) in
    e ∙ sym (by_bytes c.args.s.now)
