-- A run of a link, seen from one of its ends, is a run of the model.
use Rattle.std.proofs.Common.{◌≡◌, ℕ, Bool, List, length, take, Some, None, Ok, Option, sym, refl, ap, ◌∙◌, subst, ⊎_elim, arith}
use mathlib.Core.List.{Memᴰ}
use Rattle.terms.specs.declared.refusal.Refusal.{Refusal}
use Rattle.terms.specs.declared.role.Role.{Role}
use Rattle.terms.specs.declared.role.Role.TheVariants.{Initiator, Responder}
use Rattle.terms.specs.Roles.{far}
use Rattle.codec.specs.Sealing.{Bears}
use Rattle.codec.specs.Telegrams.{TelegramValue}
use Rattle.carrier.specs.Rules.{Meaning, FetchRules}
use Rattle.params.specs.Laws.{InRange}
use Rattle.states.specs.States.{EndValue}
use Rattle.ends.specs.Calls.{fetch_refusal}
use Rattle.link.specs.Times.{History, new, ◌▸◌, ◌≼◌, now', later}
use Rattle.link.specs.Runs.{Sheets, LinkValue, seat, Moment, Fetch, FetchDoes, came_string, unopened, Ran}
use Rattle.link.specs.Law.{Carries, Fresh, reads_by}
use Rattle.model.specs.Model.{Who, here, there, Shape, Tel, Puts, Can, By, by}
use Rattle.model.specs.Model as model
use Rattle.link.proofs.Seats.{Seated, seated, each}
use Rattle.link.proofs.Origins.{PutBy, origin}
use Rattle.link.proofs.Shapes.{Seen, limits}
use Rattle.link.proofs.Deeds.{who, tel_of, deed_of}
use Rattle.link.proofs.Fetching.{Heard}
use Rattle.link.proofs.Moving.{moves}
use Rattle.link.proofs.Fits.{fits}
use Rattle.link.proofs.Telling.{puts_it}
use Rattle.link.proofs.Apart.{none_some}

-- what a fetch took was in the list of its side
taken_listed : (m : Moment) (t : Fetch m) (x : List ℕ) → m.took ≡ Some x → Memᴰ x (m.before.carrier.strings t.e.role)
taken_listed m t x k = go (fetch_refusal t.e m.before.carrier.largest (length t.buf) (length t.out)) t.call
  where
    go : (o : Option Refusal) → FetchDoes o m t.e t.e' t.buf t.buf' t.out t.out' → Memᴰ x (m.before.carrier.strings t.e.role)
    go (Some y) d = none_some x (sym d.1 ∙ k)
    go None d = came d.0.came d.1 d.0.fetched
      where
        came : (o : Option ℕ) → m.took ≡ came_string t.buf' o → FetchRules m.before.carrier d.0.between t.e.role t.buf t.buf' (Ok o) → Memᴰ x (m.before.carrier.strings t.e.role)
        came None p f = none_some x (sym p ∙ k)
        came (Some n) p f = let same : take n t.buf' ≡ x = cc in subst (λ y. Memᴰ y (m.before.carrier.strings t.e.role)) same f.came

-- one moment more
more : (P : History Moment → Moment → Type 0) (i : History Moment) (n : Moment) {h : History Moment} {m : Moment} → P h m → ((i ▸ n) ≼ h → P i n) → (i ▸ n) ≼ (h ▸ m) → P i n
more P i n a b now' = a
more P i n a b (later p) = b p

-- nothing was before the first call
at_new : {g h : History Moment} → g ≼ h → h ≡ new → g ≡ new
at_new now' e = e
at_new (later p) e = let z : ◌≡◌ {A = ℕ} 0 1 = cc in absurd (omega arith)

nothing : (i : History Moment) (n : Moment) {h : History Moment} → (i ▸ n) ≼ h → h ≡ new → ⊥
nothing i n p e = let q : (i ▸ n) ≡ new = at_new p e in let z : ◌≡◌ {A = ℕ} 0 1 = cc in absurd (omega arith)

pub fresh_before : (c : Meaning) (h : History Moment) (m : Moment) → Fresh c (h ▸ m) → Fresh c h
fresh_before c h m f side x i s g n e held w p q r b = f side x i s g n e held w (later p) q r b

module _ (sheets : Sheets) (s : Role) where
  abbrev pub mover : Moment → Who
  mover m = who s m.role

  abbrev pub mine : History Moment → Shape
  mine h = model.mine mover deed_of (sheets s).ec.0 (sheets (far s)).ec.0 h

  abbrev pub other : History Moment → Shape
  other h = model.other mover deed_of (sheets s).ec.0 (sheets (far s)).ec.0 h

  abbrev pub FromOther : Tel → History Moment → Type 0
  FromOther f h = model.FromOther mover deed_of (sheets s).ec.0 (sheets (far s)).ec.0 f h

  abbrev pub FromMe : Tel → History Moment → Type 0
  FromMe f h = model.FromMe mover deed_of (sheets s).ec.0 (sheets (far s)).ec.0 f h

  abbrev pub Run : History Moment → Type 0
  Run h = model.Ran mover deed_of (sheets s).ec.0 (sheets (far s)).ec.0 s (limits (sheets s)) (limits (sheets (far s))) h

  -- the end of a role
  abbrev pub shape : Role → History Moment → Shape
  shape r h = by (who s r) (mine h) (other h)

  abbrev FromFar : Role → Tel → History Moment → Type 0
  FromFar r f h = By (who s r) (FromOther f h) (FromMe f h)

-- the shape of the mover, and of the other end
moved_shape : (sheets : Sheets) (s r : Role) (h : History Moment) (m : Moment) → m.role ≡ r → shape sheets s r (h ▸ m) ≡ model.after (shape sheets s r h) (deed_of m)
moved_shape sheets Initiator Initiator h m e = ap (λ w. by (who Initiator w) (model.after (mine sheets Initiator h) (deed_of m)) (mine sheets Initiator h)) e
moved_shape sheets Initiator Responder h m e = ap (λ w. by (who Initiator w) (other sheets Initiator h) (model.after (other sheets Initiator h) (deed_of m))) e
moved_shape sheets Responder Initiator h m e = ap (λ w. by (who Responder w) (other sheets Responder h) (model.after (other sheets Responder h) (deed_of m))) e
moved_shape sheets Responder Responder h m e = ap (λ w. by (who Responder w) (model.after (mine sheets Responder h) (deed_of m)) (mine sheets Responder h)) e

still_shape : (sheets : Sheets) (s r : Role) (h : History Moment) (m : Moment) → m.role ≡ r → shape sheets s (far r) (h ▸ m) ≡ shape sheets s (far r) h
still_shape sheets Initiator Initiator h m e = ap (λ w. by (who Initiator w) (other sheets Initiator h) (model.after (other sheets Initiator h) (deed_of m))) e
still_shape sheets Initiator Responder h m e = ap (λ w. by (who Initiator w) (model.after (mine sheets Initiator h) (deed_of m)) (mine sheets Initiator h)) e
still_shape sheets Responder Initiator h m e = ap (λ w. by (who Responder w) (model.after (mine sheets Responder h) (deed_of m)) (mine sheets Responder h)) e
still_shape sheets Responder Responder h m e = ap (λ w. by (who Responder w) (other sheets Responder h) (model.after (other sheets Responder h) (deed_of m))) e

-- what a role can do is what the model asks
abbrev CanMe : Sheets → Role → History Moment → Moment → Type 0
CanMe sheets s h m = Can s (limits (sheets s)) (λ f. FromOther sheets s f h) (mine sheets s h) (deed_of m)

abbrev CanYou : Sheets → Role → History Moment → Moment → Type 0
CanYou sheets s h m = Can (far s) (limits (sheets (far s))) (λ f. FromMe sheets s f h) (other sheets s h) (deed_of m)

can_run : (sheets : Sheets) (s r : Role) (h : History Moment) (m : Moment) → m.role ≡ r
    → Can r (limits (sheets r)) (λ f. FromFar sheets s r f h) (shape sheets s r h) (deed_of m) → By (mover sheets s m) (CanMe sheets s h m) (CanYou sheets s h m)
can_run sheets Initiator Initiator h m e k = subst (λ w. By (who Initiator w) (CanMe sheets Initiator h m) (CanYou sheets Initiator h m)) (sym e) k
can_run sheets Initiator Responder h m e k = subst (λ w. By (who Initiator w) (CanMe sheets Initiator h m) (CanYou sheets Initiator h m)) (sym e) k
can_run sheets Responder Initiator h m e k = subst (λ w. By (who Responder w) (CanMe sheets Responder h m) (CanYou sheets Responder h m)) (sym e) k
can_run sheets Responder Responder h m e k = subst (λ w. By (who Responder w) (CanMe sheets Responder h m) (CanYou sheets Responder h m)) (sym e) k

-- a telegram that the far end put
from_far : (sheets : Sheets) (s r : Role) (f : Tel) (h i : History Moment) (n : Moment) → (i ▸ n) ≼ h → n.role ≡ far r → Puts f (shape sheets s n.role i) (deed_of n) → FromFar sheets s r f h
from_far sheets Initiator Initiator f h i n p e k = record { i = i; m = n; earlier = p; mover = ap (who Initiator) e; puts = subst (λ w. Puts f (shape sheets Initiator w i) (deed_of n)) e k }
from_far sheets Initiator Responder f h i n p e k = record { i = i; m = n; earlier = p; mover = ap (who Initiator) e; puts = subst (λ w. Puts f (shape sheets Initiator w i) (deed_of n)) e k }
from_far sheets Responder Initiator f h i n p e k = record { i = i; m = n; earlier = p; mover = ap (who Responder) e; puts = subst (λ w. Puts f (shape sheets Responder w i) (deed_of n)) e k }
from_far sheets Responder Responder f h i n p e k = record { i = i; m = n; earlier = p; mover = ap (who Responder) e; puts = subst (λ w. Puts f (shape sheets Responder w i) (deed_of n)) e k }

module _ (sheets : Sheets) (s : Role) where
  pub record Sim (h : History Moment) (t : LinkValue) : Type 0 where
    pub seen : (r : Role) → Seen (sheets r).ec.0 (seat r t) (shape sheets s r h)
    pub ran : Run sheets s h
    pub logged : (i : History Moment) (n : Moment) (x : List ℕ) (g : TelegramValue) → (i ▸ n) ≼ h → n.put ≡ Some x → Carries x g → Puts (tel_of g) (shape sheets s n.role i) (deed_of n)

-- an end that is on its side was there after some call
seated_since : (sheets : Sheets) (c : Meaning) (h : History Moment) (t : LinkValue) (r : Role) (e : EndValue) (held : Bool) → Ran sheets c h t → seat r t ≡ Some record { end = e; held = held }
    → (g : History Moment) × (n : Moment) × (h ≡ (g ▸ n)) × (seat r n.after ≡ Some record { end = e; held = held })
seated_since sheets c new t Initiator e held k q = none_some _ (sym (ap (seat Initiator) k) ∙ q)
seated_since sheets c new t Responder e held k q = none_some _ (sym (ap (seat Responder) k) ∙ q)
seated_since sheets c (g ▸ n) t r e held k q = (g, n, refl, sym (ap (seat r) k.2) ∙ q)

-- what an end reads under its word was put by the far end in this run
pub far_put : (sheets : Sheets) (c : Meaning) (h : History Moment) (m : Moment) → Ran sheets c h m.before → Fresh c (h ▸ m)
    → (t : Fetch m) → t.e.role ≡ m.role → (x : List ℕ) → m.took ≡ Some x → (w : ℕ) → reads_by t.e t.e.state ≡ Some w → Bears w x → PutBy (far m.role) x h
far_put sheets c h m r fresh t role x k w reads bears =
    ⊎_elim
    (λ lay. let q = seated_since sheets c h m.before m.role t.e t.held r t.was in
    absurd (fresh m.role x lay m.role q.0 q.1 t.e t.held w (subst (λ z. z ≼ (h ▸ m)) q.2 (later now')) q.3 reads bears))
    (λ p. p)
    (origin sheets c h m.before r m.role x (subst (λ z. Memᴰ x (m.before.carrier.strings z)) role (taken_listed m t x k)))

heard : (sheets : Sheets) (s : Role) (c : Meaning) (h : History Moment) (m : Moment) → Ran sheets c h m.before → Fresh c (h ▸ m) → Sim sheets s h m.before
    → (t : Fetch m) → t.e.role ≡ m.role → (x : List ℕ) → m.took ≡ Some x → Heard (λ f. FromFar sheets s m.role f h) t.e x
heard sheets s c h m r fresh sim t role x k g w carries reads bears =
    let p = far_put sheets c h m r fresh t role x k w reads bears in
    from_far sheets s m.role (tel_of g) h p.i p.m p.earlier p.role (sim.logged p.i p.m x g p.earlier p.put carries)

-- a run is a run of the model
pub sim : (sheets : Sheets) → ((r : Role) → InRange (sheets r)) → (s : Role) (c : Meaning) (h : History Moment) (t : LinkValue) → Ran sheets c h t → Fresh c h → Sim sheets s h t
sim sheets v s c new t r fresh = record {
  seen = λ w. subst (λ x. Seen (sheets w).ec.0 (seat w x) (shape sheets s w new)) (sym r) (begin s w);
  ran = tt;
  logged = λ i n x g p. absurd (nothing i n p refl);
}
  where
    begin : (s w : Role) → Seen (sheets w).ec.0 (seat w (unopened c)) (shape sheets s w new)
    begin Initiator Initiator = refl
    begin Initiator Responder = refl
    begin Responder Initiator = refl
    begin Responder Responder = refl
sim sheets v s c (h ▸ m) t r fresh =
    let before = sim sheets v s c h m.before r.0 (fresh_before c h m fresh) in
    let sits = seated sheets c h m.before r.0 m.role in
    let role : (q : Fetch m) → q.e.role ≡ m.role = λ q. (subst (Seated sheets m.role) q.was sits).role in
    let go = moves sheets m (λ f. FromFar sheets s m.role f h) (shape sheets s m.role h) m.deed r.1.does sits (before.seen m.role)
    (λ q x k b. heard sheets s c h m r.0 fresh before q (role q) x k) in
    record {
      seen = λ w. subst (λ x. Seen (sheets w).ec.0 (seat w x) (shape sheets s w (h ▸ m))) (sym r.2)
          (each (λ w. Seen (sheets w).ec.0 (seat w m.after) (shape sheets s w (h ▸ m))) m.role
          (subst (Seen (sheets m.role).ec.0 (seat m.role m.after)) (sym (moved_shape sheets s m.role h m refl)) go.seen)
          (subst (λ o. Seen (sheets (far m.role)).ec.0 o (shape sheets s (far m.role) (h ▸ m))) (sym r.1.other)
          (subst (Seen (sheets (far m.role)).ec.0 (seat (far m.role) m.before)) (sym (still_shape sheets s m.role h m refl)) (before.seen (far m.role)))) w);
      ran = (before.ran, can_run sheets s m.role h m refl go.can);
      logged = λ i n x g p k z.
          more (λ i n. n.put ≡ Some x → Puts (tel_of g) (shape sheets s n.role i) (deed_of n)) i n
          (λ k. puts_it sheets v m (shape sheets s m.role h) m.deed r.1.does sits (fits sheets v c h m.before r.0 m.role) (before.seen m.role) x g k z)
          (λ q k. before.logged i n x g q k z) p k;
    }
