-- A fetch as a deed of the model.
use Rattle.std.proofs.Common.{◌≡◌, ℕ, ◌+◌, ◌<◌, ◌≤◌, Bool, true, false, cond, eqb, List, length, take, Some, None, Option, sym, refl, ap, ◌∙◌, subst, ⊎_elim, arith}
use Rattle.terms.specs.declared.refusal.Refusal.{Refusal}
use Rattle.terms.specs.declared.role.Role.{Role}
use Rattle.terms.specs.declared.role.Role.TheVariants.{Initiator, Responder}
use Rattle.terms.specs.declared.counters.SequenceNumber.{SequenceNumber}
use Rattle.terms.specs.declared.counters.ExecutionCycle.{ExecutionCycle}
use Rattle.terms.specs.Numbers.{Bytes}
use Rattle.codec.specs.Sealing.{Bears}
use Rattle.codec.specs.Telegrams.{ContentValue, TelegramValue}
use Rattle.states.specs.declared.reason.Reason.TheVariants as reason
use Rattle.states.specs.declared.state.State.TheVariants as state
use Rattle.states.specs.declared.state.Words.{Words}
use Rattle.ends.specs.declared.ways.Exchange.{Exchange}
use Rattle.ends.specs.declared.ways.Exchange.TheVariants as exchange
use Rattle.ends.specs.declared.ways.FetchWay.{FetchWay}
use Rattle.ends.specs.declared.ways.FetchWay.TheVariants as fetch
use Rattle.states.specs.States.{EndValue}
use Rattle.ends.specs.Ways.{greatest, fetch_way}
use Rattle.ends.specs.Effects.{after_fetch, after_first, in_state, restarted, released, started, taken_up, number, heard_au1, heard_au2, heard_au3, heard_ar, heard_start, heard_telegram}
use Rattle.ends.specs.Calls.{fetch_refusal, came_way, Octets}
use Rattle.link.specs.Runs.{Moment, Fetch, FetchDoes, came_string}
use Rattle.link.specs.Law.{Carries, reads_by}
use Rattle.model.specs.Model.{Shape, Tel, Deed}
use Rattle.model.specs.Model as model
use Rattle.link.proofs.Shapes.{Early, Waiting, Running, Starts, Looks, Acts}
use Rattle.link.proofs.Deeds.{kind_of, tel_of, tel, start_deed, first_deed, up_deed, fetch_deed, took_deed}
use Rattle.link.proofs.Reading.{content_of, takes_is, starts_is, au1_is, au2_is, au3_is, ar_is}

-- the telegram of the model that a frame carries
pub told : (t : TelegramValue) (c : ContentValue) (sn : SequenceNumber) (ec : ExecutionCycle) → t.content ≡ c → t.sn ≡ sn.0 → t.ec ≡ ec.0 → tel_of t ≡ tel (kind_of c) sn ec
told t c sn ec a b d = λ i. record { kind = kind_of (a i); sn = b i; ec = d i }

-- what an end reads under its word was put by the far end
abbrev pub Heard : (Tel → Type 0) → EndValue → List ℕ → Type 0
Heard from e x = (t : TelegramValue) (w : ℕ) → Carries x t → reads_by e e.state ≡ Some w → Bears w x → from (tel_of t)

module _ (from : Tel → Type 0) (e : EndValue) (a : Shape) where
  start_acts : (r : Role) (words : Words) (sn : SequenceNumber) (ec : ExecutionCycle) → e.role ≡ r → Starts r e a → from (tel model.start sn ec)
      → Acts r e.values from a (start_deed r (tel model.start sn ec)) (restarted e (started r words sn ec))
  start_acts Initiator words sn ec k s f =
      record { can = (refl, s.mode, refl, f); looks = record { mode = refl; next = s.next; floor = refl; ec = s.ec; count = refl; synced_is = refl } }
  start_acts Responder words sn ec k s f =
      record { can = (refl, s.mode, refl, f); looks = record { role_is = k; mode = refl; next = ap (λ n. n + 1) s.next; floor = refl; ec = s.ec; count = refl; synced_is = refl } }

  -- newer than all accepted, and timely
  good : (last : SequenceNumber) (synced : ExecutionCycle) (k : model.Kind) (sn : SequenceNumber) (ec : ExecutionCycle) → a.floor ≡ last.0 + 1 → a.count ≡ e.count.0 → a.synced ≡ synced.0
      → last.0 < sn.0 → synced.0 + e.count.0 ≤ ec.0 + e.values.mmax → model.Good record { ask = e.values.ask.0; wait = e.values.wait.0; mmax = e.values.mmax } a (tel k sn ec)
  good last synced k sn ec f c y n o = (omega arith, omega arith)

  first_acts : (kind : Exchange) (words : Words) (last : SequenceNumber) (synced : ExecutionCycle) (sn : SequenceNumber) (ec : ExecutionCycle) (m : List ℕ) → (kind ≡ exchange.Ack → ⊥)
      → Waiting e last synced a → last.0 < sn.0 → synced.0 + e.count.0 ≤ ec.0 + e.values.mmax → from (tel (kind_of (content_of kind m)) sn ec)
      → Acts e.role e.values from a (first_deed kind sn ec) (restarted e (state.Up words (number (after_first kind)) sn ec))
  first_acts exchange.Am words last synced sn ec m never h n o f =
      record {
        can = (h.role_is, h.mode, good last synced model.am sn ec h.floor h.count h.synced_is n o, refl, f);
        looks = record { mode = refl; next = h.next; floor = refl; ec = h.ec; count = refl; synced_is = refl };
      }
  first_acts exchange.Req words last synced sn ec m never h n o f =
      record {
        can = (h.role_is, h.mode, good last synced model.req sn ec h.floor h.count h.synced_is n o, refl, f);
        looks = record { mode = refl; next = ap (λ k. k + 1) h.next; floor = refl; ec = h.ec; count = refl; synced_is = refl };
      }
  first_acts exchange.Ack words last synced sn ec m never h n o f = absurd (never refl)

  req_acts : (words : Words) (sent last : SequenceNumber) (synced : ExecutionCycle) (sn : SequenceNumber) (ec : ExecutionCycle) (b : Bool)
      → Running e sent last synced a → last.0 < sn.0 → synced.0 + e.count.0 ≤ ec.0 + e.values.mmax → from (tel model.req sn ec)
      → Acts e.role e.values from a (cond b (model.parts (tel model.req sn ec)) (model.answers (tel model.req sn ec)))
      (cond b (released e reason.CounterUsedUp) (in_state e (state.Up words (number (sent.0 + 1)) sn synced)))
  req_acts words sent last synced sn ec true h n o f =
      record { can = (h.mode, good last synced model.req sn ec h.floor h.count h.synced_is n o, refl, f); looks = refl }
  req_acts words sent last synced sn ec false h n o f =
      record {
        can = (h.mode, good last synced model.req sn ec h.floor h.count h.synced_is n o, refl, f);
        looks = record { mode = h.mode; next = ap (λ k. k + 1) h.next; floor = refl; ec = h.ec; count = h.count; synced_is = h.synced_is };
      }

  up_acts : (kind : Exchange) (words : Words) (sent last : SequenceNumber) (synced : ExecutionCycle) (sn : SequenceNumber) (ec : ExecutionCycle) (m : List ℕ)
      → (kind ≡ exchange.Ack → e.values.ask.0 ≤ e.count.0)
      → Running e sent last synced a → last.0 < sn.0 → synced.0 + e.count.0 ≤ ec.0 + e.values.mmax → from (tel (kind_of (content_of kind m)) sn ec)
      → Acts e.role e.values from a (up_deed sent kind sn ec) (taken_up e words sent synced sn ec kind)
  up_acts exchange.Am words sent last synced sn ec m due h n o f =
      record {
        can = (h.mode, good last synced model.am sn ec h.floor h.count h.synced_is n o, refl, f);
        looks = record { mode = h.mode; next = h.next; floor = refl; ec = h.ec; count = h.count; synced_is = h.synced_is };
      }
  up_acts exchange.Req words sent last synced sn ec m due h n o f = req_acts words sent last synced sn ec (eqb sent.0 greatest) h n o f
  up_acts exchange.Ack words sent last synced sn ec m due h n o f =
      record {
        can = (h.mode, good last synced model.ack sn ec h.floor h.count h.synced_is n o, refl, subst (λ k. e.values.ask.0 ≤ k) (sym h.count) (due refl), f);
        looks = record { mode = h.mode; next = h.next; floor = refl; ec = h.ec; count = refl; synced_is = refl };
      }

  -- an opening frame: still in the opening
  opened : (role : Role) (e' : EndValue) → Early role e a → e'.role ≡ e.role → e'.ec ≡ e.ec → Early role e' (model.after a (model.drifts 0))
  opened role e' h k c = record { role_is = k ∙ h.role_is; mode = h.mode; next = h.next; floor = h.floor; ec = (let z : a.ec + 0 ≡ a.ec = omega arith in z) ∙ h.ec ∙ ap (λ x. x.0) (sym c) }

  way_acts : (x : List ℕ) → Bytes x → Heard from e x → Looks e e.state a → (way : FetchWay) → fetch_way e x ≡ way
      → Acts e.role e.values from a (fetch_deed e.role e.state way) (after_fetch e way)
  way_acts x b heard h fetch.Drops k = record { can = tt; looks = h }
  way_acts x b heard h (fetch.LeftByFar codes) k = record { can = tt; looks = refl }
  way_acts x b heard h (fetch.Releases r) k = record { can = tt; looks = refl }
  way_acts x b heard h (fetch.AnswersAu1 rb) k =
      let s = au1_is e x rb k in
      let l : Early Responder e a = subst (λ st. Looks e st a) s.1 h in
      record { can = l.mode; looks = subst (λ st. Looks (in_state e (heard_au1 rb st)) (heard_au1 rb st) (model.after a (model.drifts 0))) (sym s.1) (opened Responder _ l refl refl) }
  way_acts x b heard h (fetch.AnswersAu2 ra) k =
      let s = au2_is e x ra k in
      let l : Early Initiator e a = subst (λ st. Looks e st a) s.2 h in
      record { can = l.mode; looks = subst (λ st. Looks (in_state e (heard_au2 ra st)) (heard_au2 ra st) (model.after a (model.drifts 0))) (sym s.2) (opened Initiator _ l refl refl) }
  way_acts x b heard h (fetch.AnswersAu3 rc) k =
      let s = au3_is e x rc k in
      let l : Early Responder e a = subst (λ st. Looks e st a) s.2 h in
      let st' = heard_au3 e.values rc in
      record {
        can = l.mode;
        looks = subst (λ st. Looks (in_state e (st' st)) (st' st) (model.after a (model.drifts 0))) (sym s.2)
            (subst (λ r. Starts r (in_state e (st' (state.WaitAu3 s.0 s.1))) (model.after a (model.drifts 0))) (sym l.role_is) (opened Responder _ l refl refl));
      }
  way_acts x b heard h fetch.AnswersAr k =
      let s = ar_is e x k in
      let l : Early Initiator e a = subst (λ st. Looks e st a) s.3 h in
      record {
        can = (l.role_is, l.mode);
        looks = subst (λ st. Looks (heard_ar e st) (heard_ar e st).state (model.after a model.begins)) (sym s.3)
            (subst (λ r. Starts r (heard_ar e (state.WaitAr s.0 s.1 s.2)) (model.after a model.begins)) (sym l.role_is)
            record { role_is = l.role_is; mode = refl; next = ap (λ n. n + 1) l.next; ec = l.ec; count = refl });
      }
  way_acts x b heard h (fetch.Starts sn ec) k =
      let s = starts_is e x sn ec b k in
      let words = s.words in
      let l : Starts e.role e a = subst (λ st. Looks e st a) s.state_is h in
      let f : from (tel model.start sn ec) = subst from (told s.telegram _ sn ec s.content s.sn_is s.ec_is) (heard s.telegram words.read.0 s.carries (ap (reads_by e) s.state_is) s.bears) in
      subst (λ st. Acts e.role e.values from a (start_deed e.role (tel model.start sn ec)) (heard_start e sn ec st)) (sym s.state_is) (start_acts e.role words sn ec refl l f)
  way_acts x b heard h (fetch.Takes kind sn ec) k =
      let t = takes_is e x kind sn ec b k in
      let f : (w : ℕ) → reads_by e e.state ≡ Some w → Bears w x → from (tel (kind_of (content_of kind t.message)) sn ec) =
      λ w r z. subst from (told t.telegram _ sn ec t.content t.sn_is t.ec_is) (heard t.telegram w t.carries r z) in
      ⊎_elim
      (λ p. subst (λ st. Acts e.role e.values from a (fetch_deed e.role st (fetch.Takes kind sn ec)) (heard_telegram e kind sn ec st)) (sym p.state_is)
      (first_acts kind p.words p.last p.synced sn ec t.message p.no_ack (subst (λ st. Looks e st a) p.state_is h) p.newer p.timely (f _ (ap (reads_by e) p.state_is) p.bears)))
      (λ p. subst (λ st. Acts e.role e.values from a (fetch_deed e.role st (fetch.Takes kind sn ec)) (heard_telegram e kind sn ec st)) (sym p.state_is)
      (up_acts kind p.words p.sent p.last p.synced sn ec t.message p.acks (subst (λ st. Looks e st a) p.state_is h) p.newer p.timely (f _ (ap (reads_by e) p.state_is) p.bears)))
      t.spot

-- a fetch of an end
pub fetch_acts : (from : Tel → Type 0) (m : Moment) (t : Fetch m) (a : Shape) → Looks t.e t.e.state a
    → ((x : List ℕ) → m.took ≡ Some x → Bytes x → Heard from t.e x) → Acts t.e.role t.e.values from a (took_deed t.e m.took) t.e'
fetch_acts from m t a h heard = go (fetch_refusal t.e m.before.carrier.largest (length t.buf) (length t.out)) t.call
  where
    Goal : Type 0
    Goal = Acts t.e.role t.e.values from a (took_deed t.e m.took) t.e'

    idle : m.took ≡ None → t.e' ≡ t.e → Goal
    idle k e = subst (λ o. Acts t.e.role t.e.values from a (took_deed t.e o) t.e') (sym k) record { can = tt; looks = subst (λ y. Looks y y.state a) (sym e) h }

    go : (o : Option Refusal) → FetchDoes o m t.e t.e' t.buf t.buf' t.out t.out' → Goal
    go (Some x) d = idle d.1 d.0.call.end
    go None d = came d.0.came d.1 d.0.octets d.0.end
      where
        came : (o : Option ℕ) → m.took ≡ came_string t.buf' o → Octets t.buf' o → t.e' ≡ after_fetch t.e (came_way t.e t.buf' o) → Goal
        came None k b e = idle k e
        came (Some n) k b e =
            subst (λ o. Acts t.e.role t.e.values from a (took_deed t.e o) t.e') (sym k)
            (subst (Acts t.e.role t.e.values from a (fetch_deed t.e.role t.e.state (fetch_way t.e (take n t.buf')))) (sym e)
            (way_acts from t.e a (take n t.buf') b.0 (heard (take n t.buf') k b.0) h _ refl))
