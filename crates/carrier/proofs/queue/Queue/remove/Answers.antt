-- The strings behind it move up over the one that is taken out.
use Rattle.std.proofs.Common.{◌≡◌, ◌-◌, drop, vec_items, sym, subst, arith, rules}
use Rattle.std.proofs.lemmas.List.{with_items_is}
use Rattle.std.specs.List.{remove}
use Rattle.std.specs.Vec.{with_items}
use lib.Seq.{paste}
use Rattle.carrier.specs.Held.{held}
use Rattle.carrier.proofs.Packing.{Holding}
use Rattle.carrier.proofs.Spots.{removing}
use Rattle.carrier.proofs.queue.Queue.remove.Goals as goal
use Rattle.carrier.proofs.queue.Queue.remove.Goals.{After-close_gap-self}

after : (c : After-close_gap-self)
    → Holding (vec_items c.args.self.now.memory) (vec_items (with_items c.args.self.now.memory c.close_gap-self.new.memory)) c.close_gap-self.result (c.args.self.now.count - 1) (remove (held c.args.self.now) c.args.k)
after c =
    let q = c.args.self.now in
    let gap = c.place-gap.result in
    let behind = vec_items (with_items q.memory c.close_gap-self.new.memory) in
    let e = with_items_is q.memory c.close_gap-self.new.memory (omega arith) in
    let moved : behind ≡ paste (vec_items q.memory) gap.start (drop gap.end (vec_items q.memory)) (q.used - gap.end) = cc in
    subst (λ u. Holding (vec_items q.memory) behind u (q.count - 1) (remove (held q) c.args.k)) (sym c.close_gap-self.ensures.value)
    (removing q c.args.k gap.start gap.end behind c.requires.within c.place-gap.ensures.start c.place-gap.ensures.end moved)

pub invariant_of-self : goal.invariant_of-self
invariant_of-self c = let h = after (goal.at.invariant_of-self c).After-close_gap-self in record { whole = h.whole; room = search rules; short = h.short }

pub returns : goal.returns
returns c = let h = after (goal.at.returns c).After-close_gap-self in record { held = h.is; contents = h.laid; size = search rules }
