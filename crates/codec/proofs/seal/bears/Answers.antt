use Rattle.std.proofs.Common.{arith, rules}
use Rattle.terms.proofs.Numbers.{Bytes-all}
use Rattle.codec.proofs.Sealings.{bears_one}
use Rattle.codec.proofs.seal.bears.Goals as goal

pub returns-clause-one : goal.returns-clause-one
returns-clause-one c = bears_one c.args.s.now _ (Bytes-all c.args.s.now (λ i h. omega (arith, c.type_inv.s i))) (search rules)
