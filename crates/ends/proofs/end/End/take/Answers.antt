use Rattle.std.proofs.Common.{arith}
use Rattle.terms.proofs.Numbers.{Bytes-all}
use Rattle.ends.proofs.end.End.take.Goals as goal

pub returns-clause-octets : goal.returns-clause-octets
returns-clause-octets c = Bytes-all c.args.s.now (λ i h. omega (arith, c.type_inv.s i))
