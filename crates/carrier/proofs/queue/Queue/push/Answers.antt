-- The string lies behind the others, whose bytes do not move.
use Rattle.std.proofs.Common.{◌≡◌, ◌+◌, [], ◌∷◌, ◌++◌, length, take, drop, vec_items, arith, rules}
use Rattle.std.proofs.lemmas.List.{with_items_is}
use Rattle.std.specs.Vec.{with_items}
use Rattle.carrier.specs.Packing.{packed, unpacked}
use Rattle.carrier.proofs.Packing.{Holding, holding_push, count_used}
use Rattle.carrier.proofs.queue.Queue.push.Goals as goal
use Rattle.carrier.proofs.queue.Queue.push.Goals.{After-store}

pub overflow_add-self-3 : goal.overflow_add-self-3
overflow_add-self-3 c = let q = c.args.self.now in omega (arith, count_used (vec_items q.memory) q.used q.count q.whole (omega arith))

after : (c : After-store) → Holding (vec_items c.args.self.now.memory) (vec_items (with_items c.args.self.now.memory c.store.new.memory)) (c.args.self.now.used + (length c.args.s.now + 2)) (c.args.self.now.count + 1)
    (unpacked c.args.self.now.count (vec_items c.args.self.now.memory) ++ c.args.s.now ∷ [])
after c =
    let q = c.args.self.now in
    let s = c.args.s.now in
    let e = with_items_is q.memory c.store.new.memory (omega arith) in
    let laid : vec_items (with_items q.memory c.store.new.memory) ≡ take q.used (vec_items q.memory) ++ (packed s ++ drop (q.used + (length s + 2)) (vec_items q.memory)) = cc in
    holding_push (vec_items q.memory) _ s q.used q.count q.whole (omega arith) q.short c.requires.short laid

pub invariant_of-self : goal.invariant_of-self
invariant_of-self c = let h = after (goal.at.invariant_of-self c).After-store in record { whole = h.whole; room = search rules; short = h.short }

pub returns : goal.returns
returns c = let h = after (goal.at.returns c).After-store in record { held = h.is; contents = h.laid; size = search rules }
