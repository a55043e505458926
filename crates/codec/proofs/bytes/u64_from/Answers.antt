use Rattle.std.proofs.Common.{◌≡◌, length, ap, ◌∙◌, arith, rules}
use Rattle.terms.specs.Numbers.{number}
use Rattle.terms.proofs.Numbers.{spell, spelled}
use Rattle.codec.proofs.bytes.u64_from.Goals as goal

pub returns : goal.returns
unfolding number spell
returns c =
    let same : c.unwrap.result.now ≡ c.args.s.now = search rules in
    c.from_be_bytes.ensures ∙ (omega arith) ∙ ap (number 0) (spelled 8 c.unwrap.result.now (ap length same ∙ c.requires) ∙ same)
