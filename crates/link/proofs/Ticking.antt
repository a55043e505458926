-- A tick as a deed of the model.
use Rattle.std.proofs.Common.{◌≡◌, ℕ, ◌+◌, ◌≤◌, Bool, true, false, eqb, ltb, leb, ◌⊎◌, List, length, Some, None, Option, sym, refl, ap, ◌∙◌, subst, inl, inr}
use Rattle.std.proofs.lemmas.Bool.{cond_both, eqb-true, eqb-false, ltb-false}
use Rattle.terms.specs.declared.refusal.Refusal.{Refusal}
use Rattle.terms.specs.declared.refusal.Refusal.TheVariants as refusal
use Rattle.terms.specs.declared.role.Role.{Role}
use Rattle.terms.specs.declared.role.Role.TheVariants.{Initiator, Responder}
use Rattle.terms.specs.declared.counters.SequenceNumber.{SequenceNumber}
use Rattle.terms.specs.declared.counters.ExecutionCycle.{ExecutionCycle}
use Rattle.params.specs.declared.values.Values.{Values}
use Rattle.states.specs.declared.reason.Reason.{Reason}
use Rattle.states.specs.declared.reason.Release.{Release}
use Rattle.states.specs.declared.reason.Reason.TheVariants as reason
use Rattle.states.specs.declared.state.State.{State}
use Rattle.states.specs.declared.state.State.TheVariants as state
use Rattle.states.specs.declared.state.Words.{Words}
use Rattle.ends.specs.declared.ways.TickWay.{TickWay}
use Rattle.ends.specs.declared.ways.TickWay.TheVariants as tick
use Rattle.states.specs.States.{EndValue, in_up}
use Rattle.ends.specs.Ways.{greatest, limited, start_limit, risen_way, tick_way}
use Rattle.ends.specs.Effects.{after_tick, one_more}
use Rattle.ends.specs.Puts.{longest_frame}
use Rattle.ends.specs.Calls.{call_refusal, out_refusal, tick_refusal, message_refusal, Ticked}
use Rattle.link.specs.Runs.{Moment, Tick}
use Rattle.link.specs.Law.{goes_on, ticked}
use Rattle.model.specs.Model.{Shape, Tel, Deed}
use Rattle.model.specs.Model as model
use Rattle.link.proofs.Shapes.{Early, Running, Starts, Looks, Acts}
use Rattle.link.proofs.Deeds.{silent_deed, tick_deed, ticked_deed}

some_in : {A : Type 0} (P : A → Type 0) (o : Option A) → Type 0
some_in P None = Unit {0}
some_in P (Some x) = P x

out_none : (st : State) → some_in (λ x. goes_on x ≡ 0) (out_refusal st)
unfolding some_in
out_none (state.WaitAu2 rb rc) = tt
out_none (state.WaitAr ra rb rc) = tt
out_none (state.Listen ra) = tt
out_none (state.WaitAu3 ra rb) = tt
out_none (state.WaitEc words) = tt
out_none (state.WaitFirst words last synced) = tt
out_none (state.Up words sent last synced) = tt
out_none (state.Out release) = refl

-- a tick that is refused is none
pub refused_none : (largest : ℕ) (room : Bool) (st : State) (x : Refusal) → call_refusal largest room (out_refusal st) ≡ Some x → goes_on x ≡ 0
unfolding some_in
refused_none largest room st x h =
    subst (some_in (λ y. goes_on y ≡ 0)) h
    (cond_both (ltb largest longest_frame) _ _ (some_in (λ y. goes_on y ≡ 0)) (λ _. refl)
    (λ _. cond_both room _ _ (some_in (λ y. goes_on y ≡ 0)) (λ _. out_none st) (λ _. refl)))

up_one : (st : State) → ticked (in_up (λ words sent last synced. None) (Some refusal.EndNotUp) st) ≡ 1
up_one (state.WaitAu2 rb rc) = refl
up_one (state.WaitAr ra rb rc) = refl
up_one (state.Listen ra) = refl
up_one (state.WaitAu3 ra rb) = refl
up_one (state.WaitEc words) = refl
up_one (state.WaitFirst words last synced) = refl
up_one (state.Up words sent last synced) = refl
up_one (state.Out release) = refl

-- one whose message is refused is one
pub message_one : (v : Values) (len : ℕ) (st : State) → ticked (message_refusal v len st) ≡ 1
message_one v len st =
    cond_both (leb len v.longest) _ _ (λ o. ticked o ≡ 1)
    (λ _. cond_both (eqb len 0) _ _ (λ o. ticked o ≡ 1) (λ _. refl) (λ _. up_one st))
    (λ _. refl)

-- a way, as a deed of an end in this state
Went : (Tel → Type 0) → EndValue → Shape → State → TickWay → Type 0
Went from e a st way = Acts e.role e.values from a (tick_deed e.role st way) (after_tick e way)

drift : (role : Role) (e : EndValue) (a : Shape) → Early role e a → Early role (after_tick e tick.Silent) (model.after a (model.drifts 1))
drift role e a h = record { role_is = h.role_is; mode = h.mode; next = h.next; floor = h.floor; ec = ap (λ n. n + 1) h.ec }

abbrev after_up : State → State
after_up st = one_more st

module _ (from : Tel → Type 0) (e : EndValue) (a : Shape) where
  left : (st : State) → Went from e a st tick.UsedUp
  unfolding Went
  left st = record { can = tt; looks = refl }

  abandoned : (st : State) → Went from e a st tick.Abandons
  unfolding Went
  abandoned st = record { can = tt; looks = refl }

  released : (st : State) (r : Reason) → Went from e a st (tick.Releases r)
  unfolding Went
  released st r = record { can = tt; looks = refl }

  drifted : (role : Role) (st : State) → e.state ≡ st → Early role e a → silent_deed e.role st ≡ model.drifts 1 → Looks (after_tick e tick.Silent) st (model.after a (model.drifts 1)) → Went from e a st tick.Silent
  unfolding Went
  drifted role st is h d l =
      subst (λ x. Acts e.role e.values from a x (after_tick e tick.Silent)) (sym d)
      record { can = h.mode; looks = subst (λ x. Looks (after_tick e tick.Silent) x (model.after a (model.drifts 1))) (sym is) l }

  waited : (st : State) → e.state ≡ st → (a.mode ≡ model.starting) ⊎ (a.mode ≡ model.first) → a.count + 1 ≤ e.values.wait.0
      → silent_deed e.role st ≡ model.waits → Looks (after_tick e tick.Silent) st (model.after a model.waits) → Went from e a st tick.Silent
  unfolding Went
  waited st is mode low d l =
      subst (λ x. Acts e.role e.values from a x (after_tick e tick.Silent)) (sym d)
      record { can = (mode, low); looks = subst (λ x. Looks (after_tick e tick.Silent) x (model.after a model.waits)) (sym is) l }

  by_limit : (st : State) (limit : ℕ) (way : TickWay) → Went from e a st way → (e.count.0 + 1 ≤ limit → Went from e a st tick.Silent) → Went from e a st (limited limit (e.count.0 + 1) way)
  by_limit st limit way x y = cond_both (ltb limit (e.count.0 + 1)) way tick.Silent (Went from e a st) (λ _. x) (λ h. y (ltb-false _ _ h))

  sending : (words : Words) (sent last : SequenceNumber) (synced : ExecutionCycle) → e.state ≡ state.Up words sent last synced → Running e sent last synced a
      → e.count.0 + 1 ≤ e.values.ask.0 + e.values.wait.0 → (b : Bool) → eqb (e.count.0 + 1) e.values.ask.0 ≡ b → Went from e a (state.Up words sent last synced) (tick.Sends b)
  unfolding Went
  sending words sent last synced is h low true k =
      record {
        can = (h.mode, ap (λ n. n + 1) h.count ∙ eqb-true _ _ k);
        looks = subst (λ x. Looks (after_tick e (tick.Sends true)) (after_up x) (model.after a model.asks)) (sym is)
            record { mode = h.mode; next = ap (λ n. n + 1) h.next; floor = h.floor; ec = ap (λ n. n + 1) h.ec; count = ap (λ n. n + 1) h.count; synced_is = h.synced_is };
      }
  sending words sent last synced is h low false k =
      record {
        can = (h.mode, (λ z. eqb-false _ _ k (ap (λ n. n + 1) (sym h.count) ∙ z)), subst (λ n. n + 1 ≤ e.values.ask.0 + e.values.wait.0) (sym h.count) low);
        looks = subst (λ x. Looks (after_tick e (tick.Sends false)) (after_up x) (model.after a model.plain)) (sym is)
            record { mode = h.mode; next = ap (λ n. n + 1) h.next; floor = h.floor; ec = ap (λ n. n + 1) h.ec; count = ap (λ n. n + 1) h.count; synced_is = h.synced_is };
      }

  gone : (release : Release) → e.state ≡ state.Out release → Went from e a (state.Out release) tick.Silent
  unfolding Went
  gone release is = record { can = tt; looks = subst (λ x. Looks (after_tick e tick.Silent) x (model.after a (model.leaves 1))) (sym is) refl }

  ec_risen : (words : Words) (r : Role) → e.state ≡ state.WaitEc words → e.role ≡ r → Starts r e a → Went from e a (state.WaitEc words) (start_limit r e.values.wait.0 (e.count.0 + 1))
  ec_risen words Initiator is k s =
      by_limit _ e.values.wait.0 _ (released _ reason.FirstTimeout)
      (λ low. waited _ is (inl s.mode) (subst (λ n. n + 1 ≤ e.values.wait.0) (sym s.count) low) (ap (λ r. silent_deed r (state.WaitEc words)) k)
      (subst (λ r. Starts r (after_tick e tick.Silent) (model.after a model.waits)) (sym k)
      record { role_is = s.role_is; mode = s.mode; next = s.next; ec = ap (λ n. n + 1) s.ec; count = ap (λ n. n + 1) s.count }))
  ec_risen words Responder is k s =
      drifted Responder _ is s (ap (λ r. silent_deed r (state.WaitEc words)) k) (subst (λ r. Starts r (after_tick e tick.Silent) (model.after a (model.drifts 1))) (sym k) (drift Responder e a s))

  risen : (st : State) → e.state ≡ st → Looks e st a → Went from e a st (risen_way e.values e.role (e.count.0 + 1) st)
  risen (state.WaitAu2 rb rc) is h = by_limit _ _ tick.Abandons (abandoned _) (λ _. drifted Initiator _ is h refl (drift Initiator e a h))
  risen (state.WaitAr ra rb rc) is h = by_limit _ _ _ (released _ reason.SetupTimeout) (λ _. drifted Initiator _ is h refl (drift Initiator e a h))
  risen (state.Listen ra) is h = drifted Responder _ is h refl (drift Responder e a h)
  risen (state.WaitAu3 ra rb) is h = drifted Responder _ is h refl (drift Responder e a h)
  risen (state.WaitEc words) is h = ec_risen words e.role is refl h
  risen (state.WaitFirst words last synced) is h =
      by_limit _ _ _ (released _ reason.FirstTimeout)
      (λ low. waited _ is (inr h.mode) (subst (λ n. n + 1 ≤ e.values.wait.0) (sym h.count) low) refl
      record { role_is = h.role_is; mode = h.mode; next = h.next; floor = h.floor; ec = ap (λ n. n + 1) h.ec; count = ap (λ n. n + 1) h.count; synced_is = h.synced_is })
  risen (state.Up words sent last synced) is h =
      cond_both (ltb (e.values.ask.0 + e.values.wait.0) (e.count.0 + 1)) _ _ (Went from e a (state.Up words sent last synced)) (λ _. released _ reason.AckTimeout)
      (λ low. cond_both (eqb sent.0 greatest) _ _ (Went from e a (state.Up words sent last synced)) (λ _. released _ reason.CounterUsedUp)
      (λ _. sending words sent last synced is h (ltb-false _ _ low) _ refl))
  risen (state.Out release) is h = gone release is

  -- a tick that is not refused
  pub went : Looks e e.state a → Acts e.role e.values from a (tick_deed e.role e.state (tick_way e)) (after_tick e (tick_way e))
  unfolding Went
  went h = cond_both (eqb e.ec.0 greatest) _ _ (Went from e a e.state) (λ _. left e.state) (λ _. risen e.state refl h)

-- a tick of an end
pub tick_acts : (from : Tel → Type 0) (m : Moment) (message : List ℕ) (t : Tick m message) (a : Shape) → Looks t.e t.e.state a
    → Acts t.e.role t.e.values from a (ticked_deed t.e (ticked m.answer.refused)) t.e'
tick_acts from m message t a h = go (tick_refusal t.e m.before.carrier.largest (length t.out)) refl t.call
  where
    go : (o : Option Refusal) → tick_refusal t.e m.before.carrier.largest (length t.out) ≡ o
        → Ticked o t.e t.e' m.before.carrier m.after.carrier message t.out t.out' m.answer
        → Acts t.e.role t.e.values from a (ticked_deed t.e (ticked m.answer.refused)) t.e'
    go (Some x) k d =
        let none : ticked m.answer.refused ≡ 0 = ap (λ r. ticked r.refused) d.answer ∙ refused_none m.before.carrier.largest _ t.e.state x k in
        subst (λ n. Acts t.e.role t.e.values from a (ticked_deed t.e n) t.e') (sym none)
        record { can = tt; looks = subst (λ y. Looks y y.state a) (sym d.end) h }
    go None k d =
        let one : ticked m.answer.refused ≡ 1 = ap (λ r. ticked r.refused) d.answer ∙ message_one t.e.values (length message) t.e'.state in
        subst (λ n. Acts t.e.role t.e.values from a (ticked_deed t.e n) t.e') (sym one)
        (subst (Acts t.e.role t.e.values from a (tick_deed t.e.role t.e.state (tick_way t.e))) (sym d.end) (went from t.e a h))
