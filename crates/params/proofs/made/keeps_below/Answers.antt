use Rattle.std.proofs.Common.{◌≡◌, true, false, rules, arith}
use Rattle.params.specs.Columns.{keeps_below}
use Rattle.params.proofs.made.keeps_below.Goals as goal

pub returns-then-not-contains-clause-answer : goal.returns-then-not-contains-clause-answer
returns-then-not-contains-clause-answer c =
    let e : keeps_below c.args.column c.args.z ≡ false = search rules in
    grind (arith, e)

pub returns-clause-answer : goal.returns-clause-answer
returns-clause-answer c =
    let e : keeps_below c.args.column c.args.z ≡ true = search rules in
    grind (arith, e)
