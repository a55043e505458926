-- What is handed out is within the rules of a carrier.
use Rattle.std.proofs.Common.{rules}
use Rattle.terms.specs.Sides.{with_side}
use Rattle.carrier.specs.Wires.{strings_at, place_of}
use Rattle.carrier.proofs.Kept.{fetch_rules, place_within}
use Rattle.carrier.proofs.store.Store.fetch.Goals as goal

pub returns-clause-rules : goal.returns-clause-rules
returns-clause-rules c =
    let store = c.args.self.now in
    let held = strings_at store c.args.at in
    fetch_rules store (record { queues = with_side store.queues c.args.at c.fetch.new.self }) c.args.at (place_of held c.args.choice.number) c.args.choice.stays c.args.buf.now c.fetch.new.buf c.fetch.result
    (place_within held c.args.choice.number) (search rules)
