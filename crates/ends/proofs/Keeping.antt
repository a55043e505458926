-- No call changes an end's role or its parameter set.
use Rattle.std.proofs.Common.{◌≡◌, eqb, refl}
use Rattle.std.proofs.lemmas.Bool.{cond_both}
use Rattle.terms.specs.declared.counters.SequenceNumber.{SequenceNumber}
use Rattle.terms.specs.declared.counters.ExecutionCycle.{ExecutionCycle}
use Rattle.states.specs.declared.state.State.{State}
use Rattle.states.specs.declared.state.State.TheVariants as state
use Rattle.states.specs.declared.state.Words.{Words}
use Rattle.ends.specs.declared.ways.TickWay.{TickWay}
use Rattle.ends.specs.declared.ways.TickWay.TheVariants as tick
use Rattle.ends.specs.declared.ways.Exchange.{Exchange}
use Rattle.ends.specs.declared.ways.Exchange.TheVariants as exchange
use Rattle.ends.specs.declared.ways.FetchWay.{FetchWay}
use Rattle.ends.specs.declared.ways.FetchWay.TheVariants as fetch
use Rattle.states.specs.States.{EndValue}
use Rattle.ends.specs.Ways.{greatest}
use Rattle.ends.specs.Effects.{after_tick, after_fetch, heard_ar, heard_start, heard_telegram, taken_up}

pub record Kept (e e' : EndValue) : Type 0 where
  pub values : e'.values ≡ e.values
  pub role : e'.role ≡ e.role

same : {e : EndValue} → Kept e e
same = record { values = refl; role = refl }

pub kept_tick : (e : EndValue) (way : TickWay) → Kept e (after_tick e way)
kept_tick e tick.UsedUp = record { values = refl; role = refl }
kept_tick e tick.Abandons = record { values = refl; role = refl }
kept_tick e (tick.Releases r) = record { values = refl; role = refl }
kept_tick e tick.Silent = record { values = refl; role = refl }
kept_tick e (tick.Sends asks) = record { values = refl; role = refl }

kept_ar : (e : EndValue) (st : State) → Kept e (heard_ar e st)
kept_ar e (state.WaitAu2 x y) = same
kept_ar e (state.WaitAr x y z) = record { values = refl; role = refl }
kept_ar e (state.Listen x) = same
kept_ar e (state.WaitAu3 x y) = same
kept_ar e (state.WaitEc w) = same
kept_ar e (state.WaitFirst w l s) = same
kept_ar e (state.Up w n l s) = same
kept_ar e (state.Out r) = same

kept_start : (e : EndValue) (sn : SequenceNumber) (ec : ExecutionCycle) (st : State) → Kept e (heard_start e sn ec st)
kept_start e sn ec (state.WaitAu2 x y) = same
kept_start e sn ec (state.WaitAr x y z) = same
kept_start e sn ec (state.Listen x) = same
kept_start e sn ec (state.WaitAu3 x y) = same
kept_start e sn ec (state.WaitEc w) = record { values = refl; role = refl }
kept_start e sn ec (state.WaitFirst w l s) = same
kept_start e sn ec (state.Up w n l s) = same
kept_start e sn ec (state.Out r) = same

kept_up : (e : EndValue) (w : Words) (sent : SequenceNumber) (synced : ExecutionCycle) (sn : SequenceNumber) (ec : ExecutionCycle) (kind : Exchange)
    → Kept e (taken_up e w sent synced sn ec kind)
kept_up e w sent synced sn ec exchange.Am = record { values = refl; role = refl }
kept_up e w sent synced sn ec exchange.Req =
    cond_both (eqb sent.0 greatest) _ _ (Kept e) (λ _. record { values = refl; role = refl }) (λ _. record { values = refl; role = refl })
kept_up e w sent synced sn ec exchange.Ack = record { values = refl; role = refl }

kept_telegram : (e : EndValue) (kind : Exchange) (sn : SequenceNumber) (ec : ExecutionCycle) (st : State) → Kept e (heard_telegram e kind sn ec st)
kept_telegram e kind sn ec (state.WaitAu2 x y) = same
kept_telegram e kind sn ec (state.WaitAr x y z) = same
kept_telegram e kind sn ec (state.Listen x) = same
kept_telegram e kind sn ec (state.WaitAu3 x y) = same
kept_telegram e kind sn ec (state.WaitEc w) = same
kept_telegram e kind sn ec (state.WaitFirst w l s) = record { values = refl; role = refl }
kept_telegram e kind sn ec (state.Up w n l s) = kept_up e w n s sn ec kind
kept_telegram e kind sn ec (state.Out r) = same

pub kept_fetch : (e : EndValue) (way : FetchWay) → Kept e (after_fetch e way)
kept_fetch e fetch.Drops = same
kept_fetch e (fetch.LeftByFar codes) = record { values = refl; role = refl }
kept_fetch e (fetch.Releases r) = record { values = refl; role = refl }
kept_fetch e (fetch.AnswersAu1 rb) = record { values = refl; role = refl }
kept_fetch e (fetch.AnswersAu2 ra) = record { values = refl; role = refl }
kept_fetch e (fetch.AnswersAu3 rc) = record { values = refl; role = refl }
kept_fetch e fetch.AnswersAr = kept_ar e e.state
kept_fetch e (fetch.Starts sn ec) = kept_start e sn ec e.state
kept_fetch e (fetch.Takes kind sn ec) = kept_telegram e kind sn ec e.state
