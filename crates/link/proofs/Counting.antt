-- The ticks of an end are those that the model counts.
use Rattle.std.proofs.Common.{◌≡◌, ℕ, ◌+◌, ◌≤◌, Bool, true, false, eqb, List, length, Some, None, Option, sym, refl, ap, ◌∙◌, subst, add-zero, arith}
use Rattle.std.proofs.lemmas.Bool.{cond_both}
use Rattle.terms.specs.declared.refusal.Refusal.{Refusal}
use Rattle.terms.specs.declared.role.Role.{Role}
use Rattle.terms.specs.declared.role.Role.TheVariants.{Initiator, Responder}
use Rattle.terms.specs.declared.counters.SequenceNumber.{SequenceNumber}
use Rattle.terms.specs.declared.counters.ExecutionCycle.{ExecutionCycle}
use Rattle.terms.specs.Roles.{far}
use Rattle.carrier.specs.Rules.{Meaning}
use Rattle.states.specs.declared.state.State.{State}
use Rattle.states.specs.declared.state.State.TheVariants as state
use Rattle.ends.specs.declared.ways.TickWay.{TickWay}
use Rattle.ends.specs.declared.ways.TickWay.TheVariants as tick
use Rattle.ends.specs.declared.ways.Exchange.{Exchange}
use Rattle.ends.specs.declared.ways.Exchange.TheVariants as exchange
use Rattle.ends.specs.declared.ways.FetchWay.{FetchWay}
use Rattle.ends.specs.declared.ways.FetchWay.TheVariants as fetch
use Rattle.states.specs.States.{EndValue}
use Rattle.ends.specs.Ways.{greatest, tick_way, fetch_way}
use Rattle.ends.specs.Calls.{Ticked, tick_refusal}
use Rattle.link.specs.Times.{History, new, ◌▸◌, ◌≼◌, now', later}
use Rattle.link.specs.Runs.{Sheets, LinkValue, seat, Deed, opens, ticks, fetches, stops, Moment, Tick, Does, Ran}
use Rattle.link.specs.Law.{ticked, ticks_in, of_role, ticks_until}
use Rattle.model.specs.Model.{counts}
use Rattle.model.specs.Model as model
use Rattle.link.proofs.Deeds.{who, silent_deed, tick_deed, ticked_deed, start_deed, first_deed, up_deed, fetch_deed, took_deed, stop_deed, seat_deed, deed_of}
use Rattle.link.proofs.Ticking.{refused_none, message_one}
use Rattle.link.proofs.Simulation.{mover}

silent_one : (r : Role) (st : State) → counts (silent_deed r st) ≡ 1
silent_one r (state.WaitAu2 rb rc) = refl
silent_one r (state.WaitAr ra rb rc) = refl
silent_one r (state.Listen ra) = refl
silent_one r (state.WaitAu3 ra rb) = refl
silent_one Initiator (state.WaitEc words) = refl
silent_one Responder (state.WaitEc words) = refl
silent_one r (state.WaitFirst words last synced) = refl
silent_one r (state.Up words sent last synced) = refl
silent_one r (state.Out release) = refl

tick_one : (r : Role) (st : State) (way : TickWay) → counts (tick_deed r st way) ≡ 1
tick_one r st tick.UsedUp = refl
tick_one r st tick.Abandons = refl
tick_one r st (tick.Releases x) = refl
tick_one r st tick.Silent = silent_one r st
tick_one r st (tick.Sends true) = refl
tick_one r st (tick.Sends false) = refl

ticked_counts : (m : Moment) (message : List ℕ) (t : Tick m message) → ticked m.answer.refused ≡ counts (ticked_deed t.e (ticked m.answer.refused))
ticked_counts m message t = go (tick_refusal t.e m.before.carrier.largest (length t.out)) refl t.call
  where
    go : (o : Option Refusal) → tick_refusal t.e m.before.carrier.largest (length t.out) ≡ o
        → Ticked o t.e t.e' m.before.carrier m.after.carrier message t.out t.out' m.answer → ticked m.answer.refused ≡ counts (ticked_deed t.e (ticked m.answer.refused))
    go (Some x) k d =
        subst (λ n. n ≡ counts (ticked_deed t.e n)) (sym (ap (λ r. ticked r.refused) d.answer ∙ refused_none m.before.carrier.largest _ t.e.state x k)) refl
    go None k d =
        subst (λ n. n ≡ counts (ticked_deed t.e n)) (sym (ap (λ r. ticked r.refused) d.answer ∙ message_one t.e.values (length message) t.e'.state))
        (sym (tick_one t.e.role t.e.state (tick_way t.e)))

up_none : (sent : SequenceNumber) (kind : Exchange) (sn : SequenceNumber) (ec : ExecutionCycle) → counts (up_deed sent kind sn ec) ≡ 0
up_none sent exchange.Am sn ec = refl
up_none sent exchange.Req sn ec = cond_both (eqb sent.0 greatest) _ _ (λ d. counts d ≡ 0) (λ _. refl) (λ _. refl)
up_none sent exchange.Ack sn ec = refl

first_none : (kind : Exchange) (sn : SequenceNumber) (ec : ExecutionCycle) → counts (first_deed kind sn ec) ≡ 0
first_none exchange.Am sn ec = refl
first_none exchange.Req sn ec = refl
first_none exchange.Ack sn ec = refl

start_none : (r : Role) (f : model.Tel) → counts (start_deed r f) ≡ 0
start_none Initiator f = refl
start_none Responder f = refl

takes_none : (r : Role) (st : State) (kind : Exchange) (sn : SequenceNumber) (ec : ExecutionCycle) → counts (fetch_deed r st (fetch.Takes kind sn ec)) ≡ 0
takes_none r (state.WaitAu2 rb rc) kind sn ec = refl
takes_none r (state.WaitAr ra rb rc) kind sn ec = refl
takes_none r (state.Listen ra) kind sn ec = refl
takes_none r (state.WaitAu3 ra rb) kind sn ec = refl
takes_none r (state.WaitEc words) kind sn ec = refl
takes_none r (state.WaitFirst words last synced) kind sn ec = first_none kind sn ec
takes_none r (state.Up words sent last synced) kind sn ec = up_none sent kind sn ec
takes_none r (state.Out release) kind sn ec = refl

fetch_none : (r : Role) (st : State) (way : FetchWay) → counts (fetch_deed r st way) ≡ 0
fetch_none r st fetch.Drops = refl
fetch_none r st (fetch.LeftByFar codes) = refl
fetch_none r st (fetch.Releases x) = refl
fetch_none r st (fetch.AnswersAu1 rb) = refl
fetch_none r st (fetch.AnswersAu2 ra) = refl
fetch_none r st (fetch.AnswersAu3 rc) = refl
fetch_none r st fetch.AnswersAr = refl
fetch_none r st (fetch.Starts sn ec) = start_none r _
fetch_none r st (fetch.Takes kind sn ec) = takes_none r st kind sn ec

took_none : (e : EndValue) (o : Option (List ℕ)) → counts (took_deed e o) ≡ 0
took_none e None = refl
took_none e (Some x) = fetch_none e.role e.state (fetch_way e x)

stop_none : (b : Bool) → counts (stop_deed b) ≡ 0
stop_none true = refl
stop_none false = refl

-- a call counts what its deed counts
counts_is : (sheets : Sheets) (m : Moment) (d : Deed) → Does sheets m d → ticks_in d m.answer ≡ counts (seat_deed m d (seat m.role m.before))
counts_is sheets m (opens first) t = refl
counts_is sheets m (ticks message) t = subst (λ o. ticked m.answer.refused ≡ counts (seat_deed m (ticks message) o)) (sym t.was) (ticked_counts m message t)
counts_is sheets m fetches t = subst (λ o. 0 ≡ counts (seat_deed m fetches o)) (sym t.was) (sym (took_none t.e m.took))
counts_is sheets m stops t = subst (λ o. 0 ≡ counts (seat_deed m stops o)) (sym t.was) (sym (stop_none t.held))

module _ (sheets : Sheets) (s : Role) where
  abbrev pub my_ticks : History Moment → ℕ
  my_ticks h = model.my_ticks (mover sheets s) deed_of (sheets s).ec.0 (sheets (far s)).ec.0 h

  abbrev pub other_ticks : History Moment → ℕ
  other_ticks h = model.other_ticks (mover sheets s) deed_of (sheets s).ec.0 (sheets (far s)).ec.0 h

mine_more : (s r : Role) (n : ℕ) (x k : ℕ) → n ≡ k → x + of_role s r n ≡ model.by (who s r) (x + k) x
mine_more Initiator Initiator n x k e = ap (λ z. x + z) e
mine_more Initiator Responder n x k e = add-zero x
mine_more Responder Initiator n x k e = add-zero x
mine_more Responder Responder n x k e = ap (λ z. x + z) e

other_more : (s r : Role) (n : ℕ) (x k : ℕ) → n ≡ k → x + of_role (far s) r n ≡ model.by (who s r) x (x + k)
other_more Initiator Initiator n x k e = add-zero x
other_more Initiator Responder n x k e = ap (λ z. x + z) e
other_more Responder Initiator n x k e = ap (λ z. x + z) e
other_more Responder Responder n x k e = add-zero x

pub mine_counted : (sheets : Sheets) (s : Role) (c : Meaning) (h : History Moment) (t : LinkValue) → Ran sheets c h t → ticks_until s h ≡ my_ticks sheets s h
mine_counted sheets s c new t r = refl
mine_counted sheets s c (h ▸ m) t r =
    ap (λ x. x + of_role s m.role (ticks_in m.deed m.answer)) (mine_counted sheets s c h m.before r.0)
    ∙ mine_more s m.role _ (my_ticks sheets s h) _ (counts_is sheets m m.deed r.1.does)

pub other_counted : (sheets : Sheets) (s : Role) (c : Meaning) (h : History Moment) (t : LinkValue) → Ran sheets c h t → ticks_until (far s) h ≡ other_ticks sheets s h
other_counted sheets s c new t r = refl
other_counted sheets s c (h ▸ m) t r =
    ap (λ x. x + of_role (far s) m.role (ticks_in m.deed m.answer)) (other_counted sheets s c h m.before r.0)
    ∙ other_more s m.role _ (other_ticks sheets s h) _ (counts_is sheets m m.deed r.1.does)

-- ticks never fall
pub ticks_rise : (s : Role) {g h : History Moment} → g ≼ h → ticks_until s g ≤ ticks_until s h
ticks_rise s now' = omega arith
ticks_rise s (later {h = h} {m = m} p) = let q = ticks_rise s p in omega arith
