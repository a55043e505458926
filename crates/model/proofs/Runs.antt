-- The invariant along a history, and what a telegram says of the call that put it.
use mathlib.Core.Path.{◌≡◌, sym, ap, subst, ◌∙◌}
use mathlib.Core.Logic.{◌⊎◌, inl, inr}
use Prim.Native.Nat.{ℕ, ◌+◌, ◌≤◌}
use native.Mathlib.Omega.{arith}
use Rattle.terms.specs.declared.role.Role.{Role}
use Rattle.terms.specs.Roles.{far}
use Rattle.model.specs.Times.{History, new, ◌▸◌, ◌≼◌, now', later}
use Rattle.model.specs.Model.{Who, here, there, Shape, Limits, Tel, req, ack, after, counts, Puts, Can, by, By}
use Rattle.model.proofs.Words.{Calls, mine, other, my_ticks, In, Out, Run}
use Rattle.model.proofs.Ends.{next_after, put_next, can_by}
use Rattle.model.proofs.Round.{Marks, unmarked, note, puts_req, puts_ack, Ordered, OfOther, OfMe}
use Rattle.model.proofs.Latest.{Latest, latest_note, ordered_note, req_put, ack_put}
use Rattle.model.proofs.Standing.{Stands, stands_new, stands_here, stands_there}

pub by_here : {A : Type 0} (w : Who) (x y : A) → w ≡ here → by w x y ≡ x
by_here w x y e = ap (λ (v : Who). by v x y) e

pub by_there : {A : Type 0} (w : Who) (x y : A) → w ≡ there → by w x y ≡ y
by_there w x y e = ap (λ (v : Who). by v x y) e

pub done_here : (w : Who) (x y : Type 0) → w ≡ here → By w x y → x
done_here w x y e c = subst (λ (v : Who). By v x y) e c

pub done_there : (w : Who) (x y : Type 0) → w ≡ there → By w x y → y
done_there w x y e c = subst (λ (v : Who). By v x y) e c

module _ {M : Type 0} (W : Calls M) where
  -- the receiver's AM+REQ, the other's AM+ACK
  abbrev pub reqs : History M → Marks
  reqs new = unmarked
  reqs (h ▸ m) = by (W.who m) (note (puts_req (W.deed m)) (mine W h).next (my_ticks W h) (reqs h)) (reqs h)

  abbrev pub acks : History M → Marks
  acks new = unmarked
  acks (h ▸ m) = by (W.who m) (acks h) (note (puts_ack (W.deed m)) (other W h).next (my_ticks W h) (acks h))

  -- along a history
  pub mine_rise : {g h : History M} → g ≼ h → (mine W g).next ≤ (mine W h).next
  mine_rise now' = omega arith
  mine_rise (later {h} {m} p) = omega (arith, mine_rise p, go (W.who m))
    where
      go : (w : Who) → (mine W h).next ≤ (by w (after (mine W h) (W.deed m)) (mine W h)).next
      go here = next_after (mine W h) (W.deed m)
      go there = omega arith

  pub other_rise : {g h : History M} → g ≼ h → (other W g).next ≤ (other W h).next
  other_rise now' = omega arith
  other_rise (later {h} {m} p) = omega (arith, other_rise p, go (W.who m))
    where
      go : (w : Who) → (other W h).next ≤ (by w (other W h) (after (other W h) (W.deed m))).next
      go here = omega arith
      go there = next_after (other W h) (W.deed m)

  reqs_ordered : (h : History M) → Ordered (reqs h) × ((reqs h).now ≤ (mine W h).next)
  reqs_ordered new = omega arith
  reqs_ordered (h ▸ m) = go (W.who m) (reqs_ordered h)
    where
      go : (w : Who) → Ordered (reqs h) × ((reqs h).now ≤ (mine W h).next) → Ordered (by w (note (puts_req (W.deed m)) (mine W h).next (my_ticks W h) (reqs h)) (reqs h)) × ((by w (note (puts_req (W.deed m)) (mine W h).next (my_ticks W h) (reqs h)) (reqs h)).now ≤ (by w (after (mine W h) (W.deed m)) (mine W h)).next)
      go here o = ordered_note (puts_req (W.deed m)) (mine W h).next (after (mine W h) (W.deed m)).next (my_ticks W h) (reqs h) (next_after (mine W h) (W.deed m)) o
      go there o = o

  acks_ordered : (h : History M) → Ordered (acks h) × ((acks h).now ≤ (other W h).next)
  acks_ordered new = omega arith
  acks_ordered (h ▸ m) = go (W.who m) (acks_ordered h)
    where
      go : (w : Who) → Ordered (acks h) × ((acks h).now ≤ (other W h).next) → Ordered (by w (acks h) (note (puts_ack (W.deed m)) (other W h).next (my_ticks W h) (acks h))) × ((by w (acks h) (note (puts_ack (W.deed m)) (other W h).next (my_ticks W h) (acks h))).now ≤ (by w (other W h) (after (other W h) (W.deed m))).next)
      go here o = o
      go there o = ordered_note (puts_ack (W.deed m)) (other W h).next (after (other W h) (W.deed m)).next (my_ticks W h) (acks h) (next_after (other W h) (W.deed m)) o

  latest_req : (f : Tel) (i : History M) (n : M) {h : History M} → (i ▸ n) ≼ h → W.who n ≡ here → Puts f (mine W i) (W.deed n) → f.kind ≡ req → Latest f.sn (my_ticks W i) (reqs h)
  latest_req f i n now' w p k = subst (Latest f.sn (my_ticks W i)) (sym (by_here (W.who n) (note (puts_req (W.deed n)) (mine W i).next (my_ticks W i) (reqs i)) (reqs i) w)) (req_put f (mine W i) (W.deed n) (my_ticks W i) (reqs i) p k)
  latest_req f i n (later {h} {m} q) w p k = go (W.who m) (latest_req f i n q w p k)
    where
      go : (v : Who) → Latest f.sn (my_ticks W i) (reqs h) → Latest f.sn (my_ticks W i) (by v (note (puts_req (W.deed m)) (mine W h).next (my_ticks W h) (reqs h)) (reqs h))
      go here x = latest_note (puts_req (W.deed m)) f.sn (my_ticks W i) (mine W h).next (my_ticks W h) (reqs h) (reqs_ordered h).0 x
      go there x = x

  pub latest_ack : (f : Tel) (i : History M) (n : M) {h : History M} → (i ▸ n) ≼ h → W.who n ≡ there → Puts f (other W i) (W.deed n) → f.kind ≡ ack → Latest f.sn (my_ticks W i) (acks h)
  latest_ack f i n now' w p k = subst (Latest f.sn (my_ticks W i)) (sym (by_there (W.who n) (acks i) (note (puts_ack (W.deed n)) (other W i).next (my_ticks W i) (acks i)) w)) (ack_put f (other W i) (W.deed n) (my_ticks W i) (acks i) p k)
  latest_ack f i n (later {h} {m} q) w p k = go (W.who m) (latest_ack f i n q w p k)
    where
      go : (v : Who) → Latest f.sn (my_ticks W i) (acks h) → Latest f.sn (my_ticks W i) (by v (acks h) (note (puts_ack (W.deed m)) (other W h).next (my_ticks W h) (acks h)))
      go here x = x
      go there x = latest_note (puts_ack (W.deed m)) f.sn (my_ticks W i) (other W h).next (my_ticks W h) (acks h) (acks_ordered h).0 x

  known : (n t : ℕ) (g : Marks) → Latest n t g → (n ≡ g.now) ⊎ (n ≤ g.before)
  known n t g (inl x) = inl x.0
  known n t g (inr x) = inr x

  -- the call that put a telegram of the other end: its number, and that it is no tick of the receiver
  pub put_by : (f : Tel) (h : History M) (q : In W f h) → (f.sn ≡ (other W q.i).next) × ((other W (q.i ▸ q.m)).next ≡ f.sn + 1) × (my_ticks W (q.i ▸ q.m) ≡ my_ticks W q.i)
  put_by f h q =
      let n = put_next f (other W q.i) (W.deed q.m) q.puts in (
        n.0,
        ap (λ (a : Shape). a.next) (by_there (W.who q.m) (other W q.i) (after (other W q.i) (W.deed q.m)) q.mover) ∙ n.1,
        by_there (W.who q.m) (my_ticks W q.i + counts (W.deed q.m)) (my_ticks W q.i) q.mover,
      )

  pub of_other : (h : History M) (f : Tel) → In W f h → OfOther (other W h) (acks h) f
  of_other h f q = (omega (arith, (put_by f h q).1, other_rise q.earlier), λ k. known f.sn (my_ticks W q.i) (acks h) (latest_ack f q.i q.m q.earlier q.mover q.puts k))

  of_me : (h : History M) (f : Tel) → Out W f h → OfMe (mine W h) (reqs h) f
  of_me h f q = (omega (arith, (put_next f (mine W q.i) (W.deed q.m) q.puts).1, mine_rise q.earlier, ap (λ (a : Shape). a.next) (by_here (W.who q.m) (after (mine W q.i) (W.deed q.m)) (mine W q.i) q.mover)), λ k. known f.sn (my_ticks W q.i) (reqs h) (latest_req f q.i q.m q.earlier q.mover q.puts k))

  pub stands : (s : Role) (l k : Limits) (h : History M) → Run W s l k h → Stands s l k (mine W h) (other W h) (my_ticks W h) (reqs h) (acks h)
  stands s l k new r = stands_new s l k W.my_ec W.other_ec
  stands s l k (h ▸ m) r = go (W.who m) r.1 (stands s l k h r.0)
    where
      go : (w : Who) → By w (Can s l (λ f. In W f h) (mine W h) (W.deed m)) (Can (far s) k (λ f. Out W f h) (other W h) (W.deed m)) → Stands s l k (mine W h) (other W h) (my_ticks W h) (reqs h) (acks h)
          → Stands s l k (by w (after (mine W h) (W.deed m)) (mine W h)) (by w (other W h) (after (other W h) (W.deed m))) (by w (my_ticks W h + counts (W.deed m)) (my_ticks W h)) (by w (note (puts_req (W.deed m)) (mine W h).next (my_ticks W h) (reqs h)) (reqs h)) (by w (acks h) (note (puts_ack (W.deed m)) (other W h).next (my_ticks W h) (acks h)))
      go here c b = stands_here s l k (mine W h) (other W h) (my_ticks W h) (reqs h) (acks h) (W.deed m) (can_by s l (λ f. In W f h) (OfOther (other W h) (acks h)) (mine W h) (W.deed m) (of_other h) c) (reqs_ordered h).0 (acks_ordered h).0 b
      go there c b = stands_there s l k (mine W h) (other W h) (my_ticks W h) (reqs h) (acks h) (W.deed m) (can_by (far s) k (λ f. Out W f h) (OfMe (mine W h) (reqs h)) (other W h) (W.deed m) (of_me h) c) (reqs_ordered h).0 b
