-- The three theorems: later deliveries have later sends, what is taken is young, an end that is up synchronised not long ago.
use mathlib.Core.Path.{◌≡◌, refl, sym, ap, subst, ◌∙◌}
use mathlib.Core.Logic.{◌⊎◌, inl, inr}
use Prim.Native.Nat.{ℕ, ◌+◌, ◌≤◌, ◌<◌}
use native.Mathlib.Omega.{arith}
use Rattle.terms.specs.declared.role.Role.{Role}
use Rattle.terms.specs.Roles.{far}
use Rattle.model.specs.Times.{History, new, ◌▸◌, ◌≼◌, now', later}
use Rattle.model.specs.Model.{Who, here, there, Shape, Limits, Tel, Deed, after, counts, Syncs, Can, by, By, Order, Young, Recent}
use Rattle.model.proofs.Times.{split, just_before}
use Rattle.model.proofs.Ends.{code, taken}
use Rattle.model.proofs.Ways.{Kept, Set, way, Judged, take}
use Rattle.model.proofs.Words.{Calls, mine, other, my_ticks, other_ticks, In, Out, Run, Synced}
use Rattle.model.proofs.Runs.{by_here, done_here, stands}
use Rattle.model.proofs.Sends.{ran_to, floor_rise, told, soon, put_before, put_once}

module _ {M : Type 0} (W : Calls M) where
  last_call : {h g : History M} {m n : M} → (g ▸ n) ≡ (h ▸ m) → n ≡ m
  last_call e = cc

  -- the latest synchronising telegram stays where a call does not synchronise
  Silent : M → Type 0
  Silent m = (x : Tel) → W.who m ≡ here → Syncs x (W.deed m) → ⊥

  still : (h : History M) (m : M) (y : Synced W h) → Silent m → (g : History M) (n : M) → (g ▸ n) ≼ (h ▸ m) → W.who n ≡ here → (x : Tel) → Syncs x (W.deed n) → (g ▸ n) ≼ (y.k ▸ y.m)
  unfolding Silent
  still h m y c g n p w x z = go (split p)
    where
      go : ((g ▸ n) ≡ (h ▸ m)) ⊎ ((g ▸ n) ≼ h) → (g ▸ n) ≼ (y.k ▸ y.m)
      go (inl e) = let i : n ≡ m = last_call e in absurd (c x (subst (λ (v : M). W.who v ≡ here) i w) (subst (λ (v : M). Syncs x (W.deed v)) i z))
      go (inr q) = y.latest g n q w x z

  abbrev keep : (h : History M) (m : M) → Synced W h → Silent m → Synced W (h ▸ m)
  keep h m y c = record { k = y.k; m = y.m; f = y.f; until = later y.until; mover = y.mover; syncs = y.syncs; latest = still h m y c }

  -- or is new
  abbrev renew : (h : History M) (m : M) (f : Tel) → W.who m ≡ here → Syncs f (W.deed m) → Synced W (h ▸ m)
  renew h m f w z = record { k = h; m = m; f = f; until = now'; mover = w; syncs = z; latest = λ g n p v x u. p }

  silent_here : (m : M) → ((x : Tel) → Syncs x (W.deed m) → ⊥) → Silent m
  unfolding Silent
  silent_here m c x w z = c x z

  silent_there : (m : M) → W.who m ≡ there → Silent m
  unfolding Silent
  silent_there m v x w z = let i : ◌≡◌ {A = ℕ} 0 1 = cc in omega arith

  -- a: the receiver at the time h, x: its ticks
  record Expects (l : Limits) (h : History M) (a : Shape) (x : ℕ) : Type 0 where
    pub y : Synced W h
    pub age : a.count + my_ticks W (y.k ▸ y.m) ≡ x
    pub passed : y.f.sn < a.floor
    pub told : (p : In W y.f y.k) → (a.synced ≡ W.other_ec + other_ticks W (p.i ▸ p.m)) × (my_ticks W (y.k ▸ y.m) ≤ my_ticks W (p.i ▸ p.m) + l.wait)

  expects_here : (s : Role) (l k : Limits) (h : History M) (m : M) → W.who m ≡ here → Run W s l k h → (code (mine W h).mode ≡ 3 → Expects l h (mine W h) (my_ticks W h))
      → Kept (mine W h) (W.deed m) ⊎ Set s (λ f. In W f h) (mine W h) (W.deed m) → Expects l (h ▸ m) (after (mine W h) (W.deed m)) (my_ticks W h + counts (W.deed m))
  expects_here s l k h m w r v (inl c) =
      let o = v c.was_up in
      record {
        y = keep h m o.y (silent_here m c.silent);
        age = omega (arith, o.age, c.count);
        passed = omega (arith, o.passed, c.floor);
        told = λ p. let t = o.told p in (c.synced ∙ t.0, t.1);
      }
  expects_here s l k h m w r v (inr c) =
      let x = by_here (W.who m) (my_ticks W h + counts (W.deed m)) (my_ticks W h) w in
      record {
        y = renew h m c.f w c.syncs;
        age = omega (arith, x, c.count);
        passed = omega (arith, c.floor);
        told = λ p. (c.synced ∙ told W s l k c.f h r p, omega (arith, x, c.ticks, soon W s l k c.f h r c.cause p));
      }

  expects_there : (l : Limits) (h : History M) (m : M) → W.who m ≡ there → Expects l h (mine W h) (my_ticks W h) → Expects l (h ▸ m) (mine W h) (my_ticks W h)
  expects_there l h m w o = record { y = keep h m o.y (silent_there m w); age = o.age; passed = o.passed; told = o.told }

  expects : (s : Role) (l k : Limits) (h : History M) → Run W s l k h → code (mine W h).mode ≡ 3 → Expects l h (mine W h) (my_ticks W h)
  expects s l k new r u = absurd (omega arith)
  expects s l k (h ▸ m) r u = go (W.who m) refl r.1 (λ v. expects s l k h r.0 v) u
    where
      go : (w : Who) → W.who m ≡ w → By w (Can s l (λ f. In W f h) (mine W h) (W.deed m)) (Can (far s) k (λ f. Out W f h) (other W h) (W.deed m)) → (code (mine W h).mode ≡ 3 → Expects l h (mine W h) (my_ticks W h))
          → code (by w (after (mine W h) (W.deed m)) (mine W h)).mode ≡ 3 → Expects l (h ▸ m) (by w (after (mine W h) (W.deed m)) (mine W h)) (by w (my_ticks W h + counts (W.deed m)) (my_ticks W h))
      go here e c v x = expects_here s l k h m e r.0 v (way s l (λ f. In W f h) (mine W h) (W.deed m) c (stands W s l k h r.0).ends.me x)
      go there e c v x = expects_there l h m e (v x)

  -- what the receiver's call asked
  asked : (s : Role) (l k : Limits) (h : History M) (m : M) → W.who m ≡ here → Run W s l k (h ▸ m) → Can s l (λ f. In W f h) (mine W h) (W.deed m)
  asked s l k h m w r = done_here (W.who m) (Can s l (λ f. In W f h) (mine W h) (W.deed m)) (Can (far s) k (λ f. Out W f h) (other W h) (W.deed m)) w r.1

  in_order : Order W.who W.deed W.my_ec W.other_ec
  in_order s l k j m f h n g r p v w t t' q q' =
      let a = taken s l (λ x. In W x j) f (mine W j) (W.deed m) (asked s l k j m v (ran_to W s l k p r.0)) t in
      let b = taken s l (λ x. In W x h) g (mine W h) (W.deed n) (asked s l k h n w r) t' in
      put_before W s l k f g j h h (just_before p) now' q q' (omega (arith, a.1, b.0, floor_rise W s l k p r.0, ap (λ (z : Shape). z.floor) (by_here (W.who m) (after (mine W j) (W.deed m)) (mine W j) v)))

  recent : Recent W.who W.deed W.my_ec W.other_ec
  recent s l k h r u =
      let o = expects s l k h r (ap code u) in
      (o.y, omega (arith, o.age, (stands W s l k h r).ends.me.up_count (ap code u)))

  -- what is said of a telegram that the receiver takes
  abbrev Aged : Limits → History M → M → Tel → Type 0
  Aged l h m f = (y : Synced W (h ▸ m)) × ((p : In W y.f y.k) (q : In W f h)
      → ((p.i ▸ p.m) ≼ (q.i ▸ q.m))
      × (my_ticks W h + other_ticks W (p.i ▸ p.m) ≤ l.wait + l.mmax + other_ticks W (q.i ▸ q.m) + my_ticks W (p.i ▸ p.m)))

  young : Young W.who W.deed W.my_ec W.other_ec
  young s l k h m f r w t = go (take s l (λ x. In W x h) f (mine W h) (W.deed m) (asked s l k h m w r) (stands W s l k h r.0).ends.me t)
    where
      go : Judged l (mine W h) (W.deed m) f ⊎ ((z : Set s (λ x. In W x h) (mine W h) (W.deed m)) × (f ≡ z.f)) → Aged l h m f
      go (inl c) =
          let o = expects s l k h r.0 c.was_up in (
            keep h m o.y (silent_here m c.silent),
            λ p q. (
              later (put_before W s l k o.y.f f o.y.k h h (just_before o.y.until) now' p q (omega (arith, o.passed, c.newer))),
              omega (arith, o.age, o.told p, c.young, told W s l k f h r.0 q),
            ),
          )
      go (inr (z, e)) =
          subst (Aged l h m) (sym e) (
            renew h m z.f w z.syncs,
            λ p q. (
              put_once W s l k z.f h p q,
              omega (arith, told W s l k z.f h r.0 p, told W s l k z.f h r.0 q, soon W s l k z.f h r.0 z.cause p),
            ),
          )

-- for any calls
module _ {M : Type 0} (who : M → Who) (deed : M → Deed) (my_ec other_ec : ℕ) where
  abbrev calls : Calls M
  calls = record { who = who; deed = deed; my_ec = my_ec; other_ec = other_ec }

  pub order_stands : Order who deed my_ec other_ec
  order_stands = in_order calls

  pub young_stands : Young who deed my_ec other_ec
  young_stands = young calls

  pub recent_stands : Recent who deed my_ec other_ec
  recent_stands = recent calls
