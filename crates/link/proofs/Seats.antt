-- Each end keeps its side's role and parameter set.
use Rattle.std.proofs.Common.{◌≡◌, ℕ, Bool, true, false, List, length, Some, None, Option, sym, refl, ap, ◌∙◌, subst}
use Rattle.terms.specs.declared.refusal.Refusal.{Refusal}
use Rattle.terms.specs.declared.role.Role.{Role}
use Rattle.terms.specs.declared.role.Role.TheVariants.{Initiator, Responder}
use Rattle.terms.specs.Roles.{far}
use Rattle.carrier.specs.Rules.{Meaning}
use Rattle.states.specs.States.{EndValue}
use Rattle.ends.specs.Calls.{Ticked, tick_refusal, fetch_refusal, stopped}
use Rattle.ends.proofs.Keeping.{Kept, kept_tick, kept_fetch}
use Rattle.link.specs.Times.{History, new, ◌▸◌}
use Rattle.link.specs.Runs.{Sheets, SeatValue, LinkValue, seat, Deed, opens, ticks, fetches, stops, Moment, Tick, Fetch, FetchDoes, Stop, StopDoes, Does, Ran}

-- an end with the role and the parameter set of its side
pub record Sits (sheets : Sheets) (s : Role) (e : EndValue) : Type 0 where
  pub role : e.role ≡ s
  pub values : e.values ≡ sheets s

abbrev pub Seated : Sheets → Role → Option SeatValue → Type 0
Seated sheets s None = Unit {0}
Seated sheets s (Some v) = Sits sheets s v.end

keep : (sheets : Sheets) (s : Role) (e e' : EndValue) → Kept e e' → Sits sheets s e → Sits sheets s e'
keep sheets s e e' k v = record { role = k.role ∙ v.role; values = k.values ∙ v.values }

same : (e e' : EndValue) → e' ≡ e → Kept e e'
same e e' h = record { values = ap (λ x. x.values) h; role = ap (λ x. x.role) h }

pub kept_stop : (e : EndValue) (o : Option Refusal) → Kept e (stopped e o)
kept_stop e None = record { values = refl; role = refl }
kept_stop e (Some x) = record { values = refl; role = refl }

by : {e : EndValue} {a b : EndValue} → a ≡ b → Kept e b → Kept e a
by {e} h k = subst (Kept e) (sym h) k

pub tick_kept : (m : Moment) (message : List ℕ) (t : Tick m message) → Kept t.e t.e'
tick_kept m message t = go (tick_refusal t.e m.before.carrier.largest (length t.out)) t.call
  where
    go : (o : Option Refusal) → Ticked o t.e t.e' m.before.carrier m.after.carrier message t.out t.out' m.answer → Kept t.e t.e'
    go (Some x) d = same t.e t.e' d.end
    go None d = by d.end (kept_tick t.e _)

pub fetch_kept : (m : Moment) (t : Fetch m) → Kept t.e t.e'
fetch_kept m t = go (fetch_refusal t.e m.before.carrier.largest (length t.buf) (length t.out)) t.call
  where
    go : (o : Option Refusal) → FetchDoes o m t.e t.e' t.buf t.buf' t.out t.out' → Kept t.e t.e'
    go (Some x) d = same t.e t.e' d.0.call.end
    go None d = by d.0.end (kept_fetch t.e _)

pub stop_kept : (m : Moment) (t : Stop m) → Kept t.e t.e'
stop_kept m t = go t.held t.call
  where
    go : (b : Bool) → StopDoes b m t.e t.e' → Kept t.e t.e'
    go true d = by d.0.end (kept_stop t.e _)
    go false d = same t.e t.e' d.0

moved : (sheets : Sheets) (s : Role) (o p : Option SeatValue) (e e' : EndValue) (a b : Bool) → o ≡ Some record { end = e; held = a } → p ≡ Some record { end = e'; held = b } → Kept e e' → Seated sheets s o → Seated sheets s p
moved sheets s o p e e' a b eo ep k h = subst (Seated sheets s) (sym ep) (keep sheets s e e' k (subst (Seated sheets s) eo h))

seated_mover : (sheets : Sheets) (m : Moment) (d : Deed) → Does sheets m d → Seated sheets m.role (seat m.role m.before) → Seated sheets m.role (seat m.role m.after)
seated_mover sheets m (opens first) t h =
    subst (Seated sheets m.role) (sym t.opened) record { role = ap (λ x. x.role) t.call.end; values = ap (λ x. x.values) t.call.end }
seated_mover sheets m (ticks message) t h = moved sheets m.role _ _ t.e t.e' t.held t.held t.was t.is (tick_kept m message t) h
seated_mover sheets m fetches t h = moved sheets m.role _ _ t.e t.e' t.held t.held t.was t.is (fetch_kept m t) h
seated_mover sheets m stops t h = moved sheets m.role _ _ t.e t.e' t.held false t.was t.is (stop_kept m t) h

-- one of the two
pub each : (P : Role → Type 0) (r : Role) → P r → P (far r) → (s : Role) → P s
each P Initiator a b Initiator = a
each P Initiator a b Responder = b
each P Responder a b Initiator = b
each P Responder a b Responder = a

pub seated : (sheets : Sheets) (c : Meaning) (h : History Moment) (t : LinkValue) → Ran sheets c h t → (s : Role) → Seated sheets s (seat s t)
seated sheets c new t r Initiator = subst (λ v. Seated sheets Initiator (seat Initiator v)) (sym r) tt
seated sheets c new t r Responder = subst (λ v. Seated sheets Responder (seat Responder v)) (sym r) tt
seated sheets c (h ▸ m) t r s =
    subst (λ v. Seated sheets s (seat s v)) (sym r.2)
    (each (λ w. Seated sheets w (seat w m.after)) m.role
    (seated_mover sheets m m.deed r.1.does (seated sheets c h m.before r.0 m.role))
    (subst (Seated sheets (far m.role)) (sym r.1.other) (seated sheets c h m.before r.0 (far m.role))) s)
