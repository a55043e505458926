use Rattle.std.proofs.Common.{◌≡◌, ◌∙◌, rules}
use Rattle.std.proofs.iter.runs.Made.{chains}
use Rattle.std.specs.List.{fold}
use Rattle.texts.proofs.Digits.{saturated, value_law}
use Rattle.texts.proofs.numbers.value_of.Goals as goal

pub returns : goal.returns
returns c =
    let f : c.fold.result ≡ fold saturated 0 c.args.digits.now = search (rules, chains) in
    f ∙ value_law c.args.digits.now
