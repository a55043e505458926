use Rattle.std.proofs.Common.{◌≡◌, true, eqb, length, drop, ap, ◌∙◌, arith, length-drop, rules, eq-eqb}
use Rattle.std.proofs.lemmas.List.{take_all}
use Rattle.terms.specs.Numbers.{number}
use Rattle.terms.proofs.Numbers.{spell, spell_take}
use Rattle.codec.proofs.telegram.content_from.Goals as goal

pub returns-in-129-len3 : goal.returns-in-129-len3
unfolding number spell
returns-in-129-len3 c =
    let body = c.args.body.now in
    let long : length body ≡ 3 = search rules in
    let three : eqb (length body) 3 ≡ true = eq-eqb (length body) 3 long in
    let period : c.from_be_bytes.result ≡ number 0 (drop 1 body) =
    c.from_be_bytes.ensures ∙ (omega arith) ∙ ap (number 0) (spell_take 2 1 body (omega arith) ∙ take_all 2 (drop 1 body) (omega (arith, length-drop 1 body))) in
    simp (c.in-129-len3.is-0, three, period)
