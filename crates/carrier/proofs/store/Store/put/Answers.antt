-- What the store keeps is within the rules of a carrier.
use Rattle.std.proofs.Common.{rules}
use Rattle.terms.specs.Sides.{with_side}
use Rattle.carrier.proofs.Kept.{put_rules}
use Rattle.carrier.proofs.store.Store.put.Goals as goal

pub returns-clause-rules : goal.returns-clause-rules
returns-clause-rules c =
    let store = c.args.self.now in
    put_rules store (record { queues = with_side store.queues c.far.result c.put.new.self }) c.args.from c.args.s.now c.put.result (search rules)
