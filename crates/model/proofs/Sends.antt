-- When the telegrams that the receiver accepts were put.
use mathlib.Core.Path.{◌≡◌, sym, ap, subst}
use mathlib.Core.Logic.{◌⊎◌, inl, inr}
use Prim.Native.Nat.{◌+◌, ◌≤◌, ◌<◌}
use native.Mathlib.Omega.{arith}
use Rattle.terms.specs.declared.role.Role.{Role}
use Rattle.terms.specs.Roles.{far}
use Rattle.model.specs.Times.{History, new, ◌▸◌, ◌≼◌, now', later}
use Rattle.model.specs.Model.{Who, here, there, Shape, Limits, Tel, after, counts, Can, by, By}
use Rattle.model.proofs.Times.{split, line_up, join, just_before}
use Rattle.model.proofs.Ends.{lead, Counted, put_ec, counted_after, floor_after, can_by}
use Rattle.model.proofs.Standing.{Stands}
use Rattle.model.proofs.Ways.{Since, since_after, Cause}
use Rattle.model.proofs.Words.{Calls, mine, other, my_ticks, other_ticks, In, Out, Run}
use Rattle.model.proofs.Runs.{by_there, done_there, reqs, acks, mine_rise, other_rise, put_by, latest_ack, of_other, stands}

module _ {M : Type 0} (W : Calls M) (s : Role) (l k : Limits) where
  pub ran_to : {g h : History M} → g ≼ h → Run W s l k h → Run W s l k g
  ran_to now' r = r
  ran_to (later p) r = ran_to p r.0

  -- the floor only rises
  pub floor_rise : {g h : History M} → g ≼ h → Run W s l k h → (mine W g).floor ≤ (mine W h).floor
  floor_rise now' r = omega arith
  floor_rise (later {h} {m} p) r = omega (arith, floor_rise p r.0, go (W.who m) r.1)
    where
      go : (w : Who) → By w (Can s l (λ f. In W f h) (mine W h) (W.deed m)) (Can (far s) k (λ f. Out W f h) (other W h) (W.deed m)) → (mine W h).floor ≤ (by w (after (mine W h) (W.deed m)) (mine W h)).floor
      go here c = let b = stands W s l k h r.0 in (floor_after s l (other W h).next (mine W h) (W.deed m) (can_by s l (λ f. In W f h) (λ f. f.sn < (other W h).next) (mine W h) (W.deed m) (λ f q. (of_other W h f q).0) c) b.ends.me b.ends.me_heard).0
      go there c = omega arith

  -- the EC of a telegram tells the other end's ticks
  counted : (h : History M) → Run W s l k h → Counted (other W h) (W.other_ec + other_ticks W h)
  counted new r = omega arith
  counted (h ▸ m) r = go (W.who m) r.1 (counted h r.0)
    where
      go : (w : Who) → By w (Can s l (λ f. In W f h) (mine W h) (W.deed m)) (Can (far s) k (λ f. Out W f h) (other W h) (W.deed m)) → Counted (other W h) (W.other_ec + other_ticks W h)
          → Counted (by w (other W h) (after (other W h) (W.deed m))) (W.other_ec + by w (other_ticks W h) (other_ticks W h + counts (W.deed m)))
      go here c o = o
      go there c o = λ u. omega (arith, counted_after (far s) k (λ f. Out W f h) (other W h) (W.deed m) (W.other_ec + other_ticks W h) c o u)

  pub told : (f : Tel) (h : History M) → Run W s l k h → (q : In W f h) → f.ec ≡ W.other_ec + other_ticks W (q.i ▸ q.m)
  told f h r q =
      let i = q.i in
      let d = W.deed q.m in
      let r' = ran_to q.earlier r in
      let c = done_there (W.who q.m) (Can s l (λ g. In W g i) (mine W i) d) (Can (far s) k (λ g. Out W g i) (other W i) d) q.mover r'.1 in
      omega (arith, put_ec (far s) k (λ g. Out W g i) f (other W i) d (W.other_ec + other_ticks W i) c q.puts (counted i r'.0), by_there (W.who q.m) (other_ticks W i) (other_ticks W i + counts d) q.mover)

  -- what the other end puts when it has heard of the receiver is put after the receiver has begun
  begun : (f : Tel) (h : History M) → Run W s l k h → (q : In W f h) → lead (far s) ≤ f.sn → 1 ≤ (mine W q.i).next
  begun f h r q n =
      let b = stands W s l k (q.i ▸ q.m) (ran_to q.earlier r) in
      let e = b.ends.other.heard (omega (arith, (put_by W f h q).1)) in
      omega (arith, e, b.ends.other_heard, ap (λ (a : Shape). a.next) (by_there (W.who q.m) (after (mine W q.i) (W.deed q.m)) (mine W q.i) q.mover))

  since : (i : History M) {h : History M} → i ≼ h → Run W s l k h → 1 ≤ (mine W i).next → Since (my_ticks W i) (mine W h) (my_ticks W h)
  since i now' r n = omega arith
  since i (later {h} {m} p) r n = go (W.who m) r.1 (since i p r.0 n)
    where
      go : (w : Who) → By w (Can s l (λ f. In W f h) (mine W h) (W.deed m)) (Can (far s) k (λ f. Out W f h) (other W h) (W.deed m)) → Since (my_ticks W i) (mine W h) (my_ticks W h)
          → Since (my_ticks W i) (by w (after (mine W h) (W.deed m)) (mine W h)) (by w (my_ticks W h + counts (W.deed m)) (my_ticks W h))
      go here c z = since_after s l (λ f. In W f h) (my_ticks W i) (my_ticks W h) (mine W h) (W.deed m) c (stands W s l k h r.0).ends.me (omega (arith, mine_rise W p)) z
      go there c z = z

  -- a telegram that may set the expectation was put at most `wait` ticks ago
  pub soon : (f : Tel) (h : History M) → Run W s l k h → Cause s (mine W h) f → (q : In W f h) → my_ticks W h ≤ my_ticks W (q.i ▸ q.m) + l.wait
  soon f h r c q = go c
    where
      z : lead (far s) ≤ f.sn → Since (my_ticks W q.i) (mine W h) (my_ticks W h)
      z n = since q.i (just_before q.earlier) r (begun f h r q n)

      b : Stands s l k (mine W h) (other W h) (my_ticks W h) (reqs W h) (acks W h)
      b = stands W s l k h r

      go : Cause s (mine W h) f → my_ticks W h ≤ my_ticks W (q.i ▸ q.m) + l.wait
      go (inl (inl u, n)) = omega (arith, (z n).0 u, b.ends.me.starting_count u, (put_by W f h q).2)
      go (inl (inr u, n)) = omega (arith, (z n).1 u, b.ends.me.first_count u, (put_by W f h q).2)
      go (inr (u, n, a)) = let v = b.live u in omega (arith, v.quick, v.one_ack, b.ends.me.up_count u, (put_by W f h q).2, latest_ack W f q.i q.m q.earlier q.mover q.puts a)

  -- of two telegrams the one with the smaller number was put first
  pub put_before : (f g : Tel) (i j h : History M) → i ≼ h → j ≼ h → (p : In W f i) (q : In W g j) → f.sn < g.sn → (p.i ▸ p.m) ≼ q.i
  put_before f g i j h a b p q n = go (line_up (join p.earlier a) (join q.earlier b))
    where
      next : (p.i ▸ p.m) ≡ (q.i ▸ q.m) ⊎ ((p.i ▸ p.m) ≼ q.i) → (p.i ▸ p.m) ≼ q.i
      next (inl e) = absurd (omega (arith, (put_by W f i p).1, (put_by W g j q).1, ap (λ t. (other W t).next) e))
      next (inr x) = x

      go : ((p.i ▸ p.m) ≼ (q.i ▸ q.m)) ⊎ ((q.i ▸ q.m) ≼ (p.i ▸ p.m)) → (p.i ▸ p.m) ≼ q.i
      go (inl x) = next (split x)
      go (inr x) = absurd (omega (arith, (put_by W f i p).1, (put_by W g j q).1, other_rise W x))

  -- and of the same number, at the same time
  pub put_once : (f : Tel) (h : History M) (p q : In W f h) → (p.i ▸ p.m) ≼ (q.i ▸ q.m)
  put_once f h p q = go (line_up p.earlier q.earlier)
    where
      next : (q.i ▸ q.m) ≡ (p.i ▸ p.m) ⊎ ((q.i ▸ q.m) ≼ p.i) → (p.i ▸ p.m) ≼ (q.i ▸ q.m)
      next (inl e) = subst (λ t. (p.i ▸ p.m) ≼ t) (sym e) now'
      next (inr x) = absurd (omega (arith, (put_by W f h p).0, (put_by W f h q).1, other_rise W x))

      go : ((p.i ▸ p.m) ≼ (q.i ▸ q.m)) ⊎ ((q.i ▸ q.m) ≼ (p.i ▸ p.m)) → (p.i ▸ p.m) ≼ (q.i ▸ q.m)
      go (inl x) = x
      go (inr x) = next (split x)
