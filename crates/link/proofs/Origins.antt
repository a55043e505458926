-- Where a string in the carrier came from: it lay there before any opening, or the far end put it in this run.
use Rattle.std.proofs.Common.{◌≡◌, ℕ, Bool, true, false, ◌⊎◌, List, length, Some, None, Ok, Err, Option, Result, sym, refl, ap, subst, inl, inr, arith}
use mathlib.Core.List.{Memᴰ}
use Rattle.terms.specs.declared.refusal.Refusal.{Refusal}
use Rattle.terms.specs.declared.role.Role.{Role}
use Rattle.terms.specs.declared.role.Role.TheVariants.{Initiator, Responder}
use Rattle.terms.specs.Roles.{far}
use Rattle.carrier.specs.declared.Keeping.{Keeping}
use Rattle.carrier.specs.declared.Keeping.TheVariants.{Kept, NotKept}
use Rattle.carrier.specs.Rules.{Meaning, PutRules, FetchRules}
use Rattle.states.specs.declared.state.State.{State}
use Rattle.ends.specs.Effects.{fetch_put}
use Rattle.ends.specs.Calls.{Puts, Ticked, tick_refusal, fetch_refusal, came_way, stop_put, out_refusal}
use Rattle.link.specs.Times.{History, new, ◌▸◌, ◌≼◌, now', later}
use Rattle.link.specs.Runs.{Sheets, LinkValue, seat, Deed, opens, ticks, fetches, stops, Moment, Opening, Tick, tick_puts, Fetch, FetchDoes, Stop, StopDoes, Does, Step, Ran}
use Rattle.link.proofs.Seats.{Seated, seated}

-- a string of side s after: one before, or put from the other side
abbrev pub Gain : Role → List ℕ → Meaning → Meaning → Role → Option (List ℕ) → Type 0
Gain s x m m' from p = Memᴰ x (m'.strings s) → Memᴰ x (m.strings s) ⊎ ((s ≡ far from) × (p ≡ Some x))

put_rules : (m m' : Meaning) (from s : Role) (y x : List ℕ) (r : Result Keeping Refusal) → PutRules m m' from y r → Gain s x m m' from (Some y)
put_rules m m' from s y x (Err e) k i = inl (subst (Memᴰ x) (k.same.same s) i)
put_rules m m' from s y x (Ok NotKept) k i = inl (k.none.none s x i)
put_rules m m' Initiator Initiator y x (Ok Kept) k i = inl (k.near x i)
put_rules m m' Responder Responder y x (Ok Kept) k i = inl (k.near x i)
put_rules m m' Initiator Responder y x (Ok Kept) k i = go (k.across x i)
  where
    go : Memᴰ x (m.strings Responder) ⊎ (x ≡ y) → Memᴰ x (m.strings Responder) ⊎ ((Responder ≡ far Initiator) × (Some y ≡ Some x))
    go (inl z) = inl z
    go (inr e) = inr (refl, ap Some (sym e))
put_rules m m' Responder Initiator y x (Ok Kept) k i = go (k.across x i)
  where
    go : Memᴰ x (m.strings Initiator) ⊎ (x ≡ y) → Memᴰ x (m.strings Initiator) ⊎ ((Initiator ≡ far Responder) × (Some y ≡ Some x))
    go (inl z) = inl z
    go (inr e) = inr (refl, ap Some (sym e))

puts_gain : (m m' : Meaning) (from s : Role) (p : Option (List ℕ)) (x : List ℕ) → Puts m m' from p → Gain s x m m' from p
puts_gain m m' from s None x h i = inl (subst (λ n. Memᴰ x (n.strings s)) h i)
puts_gain m m' from s (Some y) x h i = put_rules m m' from s y x h.answer h.rules i

fetch_gain : (m b : Meaning) (at s : Role) (buf buf' : List ℕ) (came : Option ℕ) (x : List ℕ) → FetchRules m b at buf buf' (Ok came) → Memᴰ x (b.strings s) → Memᴰ x (m.strings s)
fetch_gain m b at s buf buf' None x h i = h.none.none s x i
fetch_gain m b at s buf buf' (Some n) x h i = h.none.none s x i

stays : (m m' : Meaning) (from s : Role) (p : Option (List ℕ)) (x : List ℕ) → m' ≡ m → Gain s x m m' from p
stays m m' from s p x e i = inl (subst (λ n. Memᴰ x (n.strings s)) e i)

abbrev pub Gains : Moment → Role → List ℕ → Type 0
Gains m s x = Gain s x m.before.carrier m.after.carrier m.role m.put

put_is : (m : Moment) (s : Role) (x : List ℕ) (p : Option (List ℕ)) → m.put ≡ p → Gain s x m.before.carrier m.after.carrier m.role p → Gains m s x
put_is m s x p e g = subst (λ q. Gain s x m.before.carrier m.after.carrier m.role q) (sym e) g

tick_gain : (m : Moment) (message : List ℕ) (s : Role) (x : List ℕ) (t : Tick m message) → t.e.role ≡ m.role → Gains m s x
tick_gain m message s x t r = go (tick_refusal t.e m.before.carrier.largest (length t.out)) t.call t.put
  where
    go : (o : Option Refusal) → Ticked o t.e t.e' m.before.carrier m.after.carrier message t.out t.out' m.answer → m.put ≡ tick_puts o t.e message → Gains m s x
    go (Some z) d p = put_is m s x None p (stays _ _ _ s None x d.carrier)
    go None d p = put_is m s x _ p (subst (λ w. Gain s x m.before.carrier m.after.carrier w (tick_puts None t.e message)) r (puts_gain _ _ _ s _ x d.carrier))

fetch_gains : (m : Moment) (s : Role) (x : List ℕ) (t : Fetch m) → t.e.role ≡ m.role → Gains m s x
fetch_gains m s x t r = go (fetch_refusal t.e m.before.carrier.largest (length t.buf) (length t.out)) t.call
  where
    go : (o : Option Refusal) → FetchDoes o m t.e t.e' t.buf t.buf' t.out t.out' → Gains m s x
    go (Some z) d = put_is m s x None d.2 (stays _ _ _ s None x d.0.call.carrier)
    go None d =
        put_is m s x _ d.2 (λ i.
        pass (subst (λ w. Gain s x d.0.between m.after.carrier w (fetch_put t.e (came_way t.e t.buf' d.0.came))) r (puts_gain _ _ _ s _ x d.0.carrier) i))
      where
        pass : Memᴰ x (d.0.between.strings s) ⊎ ((s ≡ far m.role) × (fetch_put t.e (came_way t.e t.buf' d.0.came) ≡ Some x))
            → Memᴰ x (m.before.carrier.strings s) ⊎ ((s ≡ far m.role) × (fetch_put t.e (came_way t.e t.buf' d.0.came) ≡ Some x))
        pass (inl z) = inl (fetch_gain m.before.carrier d.0.between _ s _ _ d.0.came x d.0.fetched z)
        pass (inr z) = inr z

stop_gain : (m : Moment) (s : Role) (x : List ℕ) (t : Stop m) → t.e.role ≡ m.role → Gains m s x
stop_gain m s x t r = go t.held t.call
  where
    go : (b : Bool) → StopDoes b m t.e t.e' → Gains m s x
    go true d = put_is m s x _ d.1 (subst (λ w. Gain s x m.before.carrier m.after.carrier w (stop_put t.e (out_refusal t.e.state))) r (puts_gain _ _ _ s _ x d.0.carrier))
    go false d = put_is m s x None d.3 (stays _ _ _ s None x d.1)

opening_gain : (sheets : Sheets) (m : Moment) (first : State) (s : Role) (x : List ℕ) (t : Opening sheets m first) → Gains m s x
opening_gain sheets m first s x t = put_is m s x _ t.put (puts_gain _ _ _ s _ x t.call.carrier)

-- what a step adds to a side's list is what it put from the other side
pub step_gain : (sheets : Sheets) (m : Moment) → Step sheets m → Seated sheets m.role (seat m.role m.before) → (s : Role) (x : List ℕ) → Gains m s x
step_gain sheets m st k s x = go m.deed st.does
  where
    go : (d : Deed) → Does sheets m d → Gains m s x
    go (opens first) t = opening_gain sheets m first s x t
    go (ticks message) t = tick_gain m message s x t (subst (Seated sheets m.role) t.was k).role
    go fetches t = fetch_gains m s x t (subst (Seated sheets m.role) t.was k).role
    go stops t = stop_gain m s x t (subst (Seated sheets m.role) t.was k).role

-- a string that an end put in this run
pub record PutBy (s : Role) (x : List ℕ) (h : History Moment) : Type 0 where
  pub i : History Moment
  pub m : Moment
  pub earlier : (i ▸ m) ≼ h
  pub role : m.role ≡ s
  pub put : m.put ≡ Some x

put_later : {s : Role} {x : List ℕ} {h : History Moment} {m : Moment} → PutBy s x h → PutBy s x (h ▸ m)
put_later p = record { i = p.i; m = p.m; earlier = later p.earlier; role = p.role; put = p.put }

back : (s r : Role) → s ≡ far r → r ≡ far s
back Initiator Initiator e = let z : ◌≡◌ {A = ℕ} 0 1 = cc in absurd (omega arith)
back Initiator Responder e = refl
back Responder Initiator e = refl
back Responder Responder e = let z : ◌≡◌ {A = ℕ} 0 1 = cc in absurd (omega arith)

-- each string of a side's list lay there before any opening, or was put by the far end
pub origin : (sheets : Sheets) (c : Meaning) (h : History Moment) (t : LinkValue) → Ran sheets c h t → (s : Role) (x : List ℕ)
    → Memᴰ x (t.carrier.strings s) → Memᴰ x (c.strings s) ⊎ PutBy (far s) x h
origin sheets c new t r s x i = inl (subst (λ v. Memᴰ x (v.carrier.strings s)) r i)
origin sheets c (h ▸ m) t r s x i =
    go (λ z. origin sheets c h m.before r.0 s x z) (step_gain sheets m r.1 (seated sheets c h m.before r.0 m.role) s x (subst (λ v. Memᴰ x (v.carrier.strings s)) r.2 i))
  where
    before : Memᴰ x (c.strings s) ⊎ PutBy (far s) x h → Memᴰ x (c.strings s) ⊎ PutBy (far s) x (h ▸ m)
    before (inl z) = inl z
    before (inr p) = inr (put_later p)

    go : (Memᴰ x (m.before.carrier.strings s) → Memᴰ x (c.strings s) ⊎ PutBy (far s) x h)
        → Memᴰ x (m.before.carrier.strings s) ⊎ ((s ≡ far m.role) × (m.put ≡ Some x)) → Memᴰ x (c.strings s) ⊎ PutBy (far s) x (h ▸ m)
    go earlier (inl z) = before (earlier z)
    go earlier (inr p) = inr record { i = h; m = m; earlier = now'; role = back s m.role p.0; put = p.1 }
