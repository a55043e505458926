-- The invariant of both ends, and that each deed keeps it.
use mathlib.Core.Path.{◌≡◌}
use Prim.Native.Nat.{ℕ, ◌+◌, ◌≤◌, ◌<◌}
use native.Mathlib.Omega.{arith}
use Rattle.terms.specs.declared.role.Role.{Role}
use Rattle.terms.specs.Roles.{far}
use Rattle.model.specs.Model.{Shape, Limits, Deed, fresh, after, counts, Can}
use Rattle.model.proofs.Ends.{code, own_fresh, own_after, next_after, floor_after, can_by}
use Rattle.model.proofs.Round.{Marks, unmarked, note, puts_req, puts_ack, Ordered, OfOther, OfMe, Live, Marked, Both, leads, marked_here, marked_there, live_here, live_there}

pub record Stands (s : Role) (l k : Limits) (e f : Shape) (x : ℕ) (q a : Marks) : Type 0 where
  pub ends : Both s l k e f
  pub marked : Marked e q a
  pub live : code e.mode ≡ 3 → Live l e f x q a

pub stands_new : (s : Role) (l k : Limits) (i j : ℕ) → Stands s l k (fresh i) (fresh j) 0 unmarked unmarked
stands_new s l k i j = record {
  ends = record { me = own_fresh s l i; other = own_fresh (far s) k j; me_heard = omega arith; other_heard = omega arith };
  marked = omega arith;
  live = λ u. absurd (omega arith);
}

-- an end that is up has been heard by the other
met : (s : Role) (l k : Limits) (e f : Shape) → Both s l k e f → code e.mode ≡ 3 → 1 ≤ f.floor
met s l k e f b u = omega (arith, leads s, b.me.up_floor u)

pub stands_here : (s : Role) (l k : Limits) (e f : Shape) (x : ℕ) (q a : Marks) (d : Deed) → Can s l (OfOther f a) e d → Ordered q → Ordered a → Stands s l k e f x q a → Stands s l k (after e d) f (x + counts d) (note (puts_req d) e.next x q) a
stands_here s l k e f x q a d c o o' b =
    let n : Both s l k (after e d) f = record {
      me = own_after s l (OfOther f a) e d c b.ends.me;
      other = b.ends.other;
      me_heard = (floor_after s l f.next e d (can_by s l (OfOther f a) (λ t. t.sn < f.next) e d (λ t p. p.0) c) b.ends.me b.ends.me_heard).1;
      other_heard = omega (arith, next_after e d, b.ends.other_heard);
    } in
    record {
      ends = n;
      marked = marked_here s l e f x q a d c b.ends.me b.marked;
      live = λ u. live_here s l e f x q a d c o o' b.marked (met s l k (after e d) f n u) b.live u;
    }

pub stands_there : (s : Role) (l k : Limits) (e f : Shape) (x : ℕ) (q a : Marks) (d : Deed) → Can (far s) k (OfMe e q) f d → Ordered q → Stands s l k e f x q a → Stands s l k e (after f d) x q (note (puts_ack d) f.next x a)
stands_there s l k e f x q a d c o b = record {
  ends = record {
    me = b.ends.me;
    other = own_after (far s) k (OfMe e q) f d c b.ends.other;
    me_heard = omega (arith, next_after f d, b.ends.me_heard);
    other_heard = (floor_after (far s) k e.next f d (can_by (far s) k (OfMe e q) (λ t. t.sn < e.next) f d (λ t p. p.0) c) b.ends.other b.ends.other_heard).1;
  };
  marked = marked_there (far s) k e f x q a d c b.ends.other o b.marked;
  live = λ u. live_there (far s) l k e f x q a d c b.ends.other (b.live u);
}
