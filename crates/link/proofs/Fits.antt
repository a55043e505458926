-- The counters of an end stay within their 32 bits.
use Rattle.std.proofs.Common.{◌≡◌, ℕ, ◌+◌, ◌<◌, ◌≤◌, Bool, true, false, eqb, ltb, length, Some, None, Option, sym, refl, subst, arith}
use Rattle.std.proofs.lemmas.Bool.{cond_both, eqb-false}
use Rattle.terms.specs.declared.refusal.Refusal.{Refusal}
use Rattle.terms.specs.declared.role.Role.{Role}
use Rattle.terms.specs.declared.role.Role.TheVariants.{Initiator, Responder}
use Rattle.terms.specs.declared.counters.SequenceNumber.{SequenceNumber}
use Rattle.terms.specs.declared.counters.ExecutionCycle.{ExecutionCycle}
use Rattle.terms.specs.Roles.{far}
use Rattle.carrier.specs.Rules.{Meaning}
use Rattle.params.specs.declared.values.Values.{Values}
use Rattle.params.specs.Laws.{InRange}
use Rattle.states.specs.declared.reason.Reason.{Reason}
use Rattle.states.specs.declared.reason.Reason.TheVariants as reason
use Rattle.states.specs.declared.state.State.{State}
use Rattle.states.specs.declared.state.State.TheVariants as state
use Rattle.states.specs.declared.state.Words.{Words}
use Rattle.ends.specs.declared.ways.TickWay.{TickWay}
use Rattle.ends.specs.declared.ways.TickWay.TheVariants as tick
use Rattle.ends.specs.declared.ways.Exchange.{Exchange}
use Rattle.ends.specs.declared.ways.Exchange.TheVariants as exchange
use Rattle.ends.specs.declared.ways.FetchWay.{FetchWay}
use Rattle.ends.specs.declared.ways.FetchWay.TheVariants as fetch
use Rattle.states.specs.States.{EndValue, in_up_fact}
use Rattle.ends.specs.Ways.{greatest, limited, start_limit, risen_way, tick_way}
use Rattle.ends.specs.Effects.{after_tick, after_fetch, after_first, started, one_more, taken_up, heard_au1, heard_au2, heard_au3, heard_ar, heard_start, heard_telegram}
use Rattle.ends.specs.Calls.{Ticked, tick_refusal, fetch_refusal, stopped, opened}
use Rattle.link.specs.Times.{History, new, ◌▸◌}
use Rattle.link.specs.Runs.{Sheets, SeatValue, LinkValue, seat, Deed, opens, ticks, fetches, stops, Moment, First, FetchDoes, StopDoes, Does, Ran}
use Rattle.link.proofs.Seats.{each}
use Rattle.link.proofs.Putting.{Fit}

abbrev Sent : State → Type 0
Sent st = in_up_fact (λ sent. sent.0 ≤ 4294967295) st

abbrev pub FitSeat : Option SeatValue → Type 0
FitSeat None = Unit {0}
FitSeat (Some v) = Fit v.end

-- one more data frame, where there is a number
sent_more : (st : State) → (in_up_fact (λ sent. sent.0 < 4294967295) st) → Sent (one_more st)
sent_more (state.WaitAu2 rb rc) h = tt
sent_more (state.WaitAr ra rb rc) h = tt
sent_more (state.Listen ra) h = tt
sent_more (state.WaitAu3 ra rb) h = tt
sent_more (state.WaitEc words) h = tt
sent_more (state.WaitFirst words last synced) h = tt
sent_more (state.Up words sent last synced) h = omega arith
sent_more (state.Out release) h = tt

module _ (e : EndValue) where
  Good : TickWay → Type 0
  Good way = Fit (after_tick e way)

  module _ (h : Fit e) (room : e.ec.0 < 4294967295) where
    abandons : Good tick.Abandons
    unfolding Good
    abandons = (omega arith, tt)

    releases : (r : Reason) → Good (tick.Releases r)
    unfolding Good
    releases r = (omega arith, tt)

    silent : Good tick.Silent
    unfolding Good
    silent = (omega arith, h.1)

    sends : (b : Bool) → in_up_fact (λ sent. sent.0 < 4294967295) e.state → Good (tick.Sends b)
    unfolding Good
    sends b k = (omega arith, sent_more e.state k)

    limit : (n k : ℕ) (way : TickWay) → Good way → Good (limited n k way)
    limit n k way g = cond_both (ltb n k) way tick.Silent Good (λ _. g) (λ _. silent)

    rises : (st : State) → e.state ≡ st → Good (risen_way e.values e.role (e.count.0 + 1) st)
    rises (state.WaitAu2 rb rc) is = limit _ _ _ abandons
    rises (state.WaitAr ra rb rc) is = limit _ _ _ (releases reason.SetupTimeout)
    rises (state.Listen ra) is = silent
    rises (state.WaitAu3 ra rb) is = silent
    rises (state.WaitEc words) is = elim e.role as (λ r. Good (start_limit r e.values.wait.0 (e.count.0 + 1))) [ Initiator ↦ limit _ _ _ (releases reason.FirstTimeout) | Responder ↦ silent ]
    rises (state.WaitFirst words last synced) is = limit _ _ _ (releases reason.FirstTimeout)
    rises (state.Up words sent last synced) is =
        cond_both (ltb (e.values.ask.0 + e.values.wait.0) (e.count.0 + 1)) _ _ Good (λ _. releases reason.AckTimeout)
        (λ _. cond_both (eqb sent.0 greatest) _ _ Good (λ _. releases reason.CounterUsedUp)
        (λ k. sends _ (subst (in_up_fact (λ x. x.0 < 4294967295)) (sym is) (below sent.0 (subst (in_up_fact (λ x. x.0 ≤ 4294967295)) is h.1) (eqb-false _ _ k)))))
      where
        below : (n : ℕ) → n ≤ 4294967295 → (n ≡ greatest → ⊥) → n < 4294967295
        below n l k = omega (arith, k)
    rises (state.Out release) is = silent

  pub fit_tick : Fit e → Fit (after_tick e (tick_way e))
  unfolding Good
  fit_tick h =
      cond_both (eqb e.ec.0 greatest) _ _ Good (λ _. (h.0, tt)) (λ k. rises h (let n = eqb-false e.ec.0 greatest k in omega (arith, n, h.0)) e.state refl)

fit_up : (e : EndValue) (words : Words) (sent : SequenceNumber) (synced : ExecutionCycle) (sn : SequenceNumber) (ec : ExecutionCycle) (kind : Exchange)
    → e.ec.0 ≤ 4294967295 → sent.0 ≤ 4294967295 → Fit (taken_up e words sent synced sn ec kind)
fit_up e words sent synced sn ec exchange.Am c h = (c, h)
fit_up e words sent synced sn ec exchange.Req c h =
    cond_both (eqb sent.0 greatest) _ _ Fit (λ _. (c, tt)) (λ k. (c, let n = eqb-false sent.0 greatest k in omega (arith, n, h)))
fit_up e words sent synced sn ec exchange.Ack c h = (c, h)

after_first_low : (kind : Exchange) → after_first kind ≤ 4294967295
after_first_low exchange.Am = omega arith
after_first_low exchange.Req = omega arith
after_first_low exchange.Ack = omega arith

started_low : (r : Role) (words : Words) (sn : SequenceNumber) (ec : ExecutionCycle) → Sent (started r words sn ec)
started_low Initiator words sn ec = omega arith
started_low Responder words sn ec = tt

module _ (e : EndValue) (c : e.ec.0 ≤ 4294967295) where
  in_au1 : (rb : ℕ) (st : State) → Sent st → Sent (heard_au1 rb st)
  in_au1 rb (state.WaitAu2 x y) h = h
  in_au1 rb (state.WaitAr x y z) h = h
  in_au1 rb (state.Listen x) h = tt
  in_au1 rb (state.WaitAu3 x y) h = h
  in_au1 rb (state.WaitEc w) h = h
  in_au1 rb (state.WaitFirst w l y) h = h
  in_au1 rb (state.Up w n l y) h = h
  in_au1 rb (state.Out r) h = h

  in_au2 : (ra : ℕ) (st : State) → Sent st → Sent (heard_au2 ra st)
  in_au2 ra (state.WaitAu2 x y) h = tt
  in_au2 ra (state.WaitAr x y z) h = h
  in_au2 ra (state.Listen x) h = h
  in_au2 ra (state.WaitAu3 x y) h = h
  in_au2 ra (state.WaitEc w) h = h
  in_au2 ra (state.WaitFirst w l y) h = h
  in_au2 ra (state.Up w n l y) h = h
  in_au2 ra (state.Out r) h = h

  in_au3 : (v : Values) (rc : ℕ) (st : State) → Sent st → Sent (heard_au3 v rc st)
  in_au3 v rc (state.WaitAu2 x y) h = h
  in_au3 v rc (state.WaitAr x y z) h = h
  in_au3 v rc (state.Listen x) h = h
  in_au3 v rc (state.WaitAu3 x y) h = tt
  in_au3 v rc (state.WaitEc w) h = h
  in_au3 v rc (state.WaitFirst w l y) h = h
  in_au3 v rc (state.Up w n l y) h = h
  in_au3 v rc (state.Out r) h = h

  in_ar : (st : State) → e.state ≡ st → Sent st → Fit (heard_ar e st)
  in_ar (state.WaitAu2 x y) is h = (c, subst Sent (sym is) h)
  in_ar (state.WaitAr x y z) is h = (c, tt)
  in_ar (state.Listen x) is h = (c, subst Sent (sym is) h)
  in_ar (state.WaitAu3 x y) is h = (c, subst Sent (sym is) h)
  in_ar (state.WaitEc w) is h = (c, subst Sent (sym is) h)
  in_ar (state.WaitFirst w l y) is h = (c, subst Sent (sym is) h)
  in_ar (state.Up w n l y) is h = (c, subst Sent (sym is) h)
  in_ar (state.Out r) is h = (c, subst Sent (sym is) h)

  in_start : (sn : SequenceNumber) (ec : ExecutionCycle) (st : State) → e.state ≡ st → Sent st → Fit (heard_start e sn ec st)
  in_start sn ec (state.WaitAu2 x y) is h = (c, subst Sent (sym is) h)
  in_start sn ec (state.WaitAr x y z) is h = (c, subst Sent (sym is) h)
  in_start sn ec (state.Listen x) is h = (c, subst Sent (sym is) h)
  in_start sn ec (state.WaitAu3 x y) is h = (c, subst Sent (sym is) h)
  in_start sn ec (state.WaitEc w) is h = (c, started_low e.role w sn ec)
  in_start sn ec (state.WaitFirst w l y) is h = (c, subst Sent (sym is) h)
  in_start sn ec (state.Up w n l y) is h = (c, subst Sent (sym is) h)
  in_start sn ec (state.Out r) is h = (c, subst Sent (sym is) h)

  in_telegram : (kind : Exchange) (sn : SequenceNumber) (ec : ExecutionCycle) (st : State) → e.state ≡ st → Sent st → Fit (heard_telegram e kind sn ec st)
  in_telegram kind sn ec (state.WaitAu2 x y) is h = (c, subst Sent (sym is) h)
  in_telegram kind sn ec (state.WaitAr x y z) is h = (c, subst Sent (sym is) h)
  in_telegram kind sn ec (state.Listen x) is h = (c, subst Sent (sym is) h)
  in_telegram kind sn ec (state.WaitAu3 x y) is h = (c, subst Sent (sym is) h)
  in_telegram kind sn ec (state.WaitEc w) is h = (c, subst Sent (sym is) h)
  in_telegram kind sn ec (state.WaitFirst w l y) is h = (c, after_first_low kind)
  in_telegram kind sn ec (state.Up w n l y) is h = fit_up e w n y sn ec kind c h
  in_telegram kind sn ec (state.Out r) is h = (c, subst Sent (sym is) h)

pub fit_fetch : (e : EndValue) (way : FetchWay) → Fit e → Fit (after_fetch e way)
fit_fetch e fetch.Drops h = h
fit_fetch e (fetch.LeftByFar codes) h = (h.0, tt)
fit_fetch e (fetch.Releases r) h = (h.0, tt)
fit_fetch e (fetch.AnswersAu1 rb) h = (h.0, in_au1 e h.0 rb e.state h.1)
fit_fetch e (fetch.AnswersAu2 ra) h = (h.0, in_au2 e h.0 ra e.state h.1)
fit_fetch e (fetch.AnswersAu3 rc) h = (h.0, in_au3 e h.0 e.values rc e.state h.1)
fit_fetch e fetch.AnswersAr h = in_ar e h.0 e.state refl h.1
fit_fetch e (fetch.Starts sn ec) h = in_start e h.0 sn ec e.state refl h.1
fit_fetch e (fetch.Takes kind sn ec) h = in_telegram e h.0 kind sn ec e.state refl h.1

fit_stop : (e : EndValue) (o : Option Refusal) → Fit e → Fit (stopped e o)
fit_stop e None h = (h.0, tt)
fit_stop e (Some x) h = h

fit_first : (v : Values) (role : Role) (st : State) → First role st → v.ec.0 ≤ 4294967295 → Fit (opened v role st)
fit_first v Initiator st n c = (c, subst Sent (sym n.2) tt)
fit_first v Responder st n c = (c, subst Sent (sym n.1) tt)

fit_mover : (sheets : Sheets) (m : Moment) → ((s : Role) → InRange (sheets s)) → (d : Deed) → Does sheets m d → FitSeat (seat m.role m.before) → FitSeat (seat m.role m.after)
fit_mover sheets m v (opens first) t h =
    subst FitSeat (sym t.opened) (subst Fit (sym t.call.end) (fit_first (sheets m.role) m.role first t.numbers (v m.role).ec))
fit_mover sheets m v (ticks message) t h = subst FitSeat (sym t.is) (go (tick_refusal t.e m.before.carrier.largest (length t.out)) t.call)
  where
    was : Fit t.e
    was = subst FitSeat t.was h

    go : (o : Option Refusal) → Ticked o t.e t.e' m.before.carrier m.after.carrier message t.out t.out' m.answer → Fit t.e'
    go (Some x) d = subst Fit (sym d.end) was
    go None d = subst Fit (sym d.end) (fit_tick t.e was)
fit_mover sheets m v fetches t h = subst FitSeat (sym t.is) (go (fetch_refusal t.e m.before.carrier.largest (length t.buf) (length t.out)) t.call)
  where
    was : Fit t.e
    was = subst FitSeat t.was h

    go : (o : Option Refusal) → FetchDoes o m t.e t.e' t.buf t.buf' t.out t.out' → Fit t.e'
    go (Some x) d = subst Fit (sym d.0.call.end) was
    go None d = subst Fit (sym d.0.end) (fit_fetch t.e _ was)
fit_mover sheets m v stops t h = subst FitSeat (sym t.is) (go t.held t.call)
  where
    was : Fit t.e
    was = subst FitSeat t.was h

    go : (b : Bool) → StopDoes b m t.e t.e' → Fit t.e'
    go true d = subst Fit (sym d.0.end) (fit_stop t.e _ was)
    go false d = subst Fit (sym d.0) was

pub fits : (sheets : Sheets) → ((s : Role) → InRange (sheets s)) → (c : Meaning) (h : History Moment) (t : LinkValue) → Ran sheets c h t → (s : Role) → FitSeat (seat s t)
fits sheets v c new t r Initiator = subst (λ x. FitSeat (seat Initiator x)) (sym r) tt
fits sheets v c new t r Responder = subst (λ x. FitSeat (seat Responder x)) (sym r) tt
fits sheets v c (h ▸ m) t r s =
    subst (λ x. FitSeat (seat s x)) (sym r.2)
    (each (λ w. FitSeat (seat w m.after)) m.role
    (fit_mover sheets m v m.deed r.1.does (fits sheets v c h m.before r.0 m.role))
    (subst FitSeat (sym r.1.other) (fits sheets v c h m.before r.0 (far m.role))) s)
