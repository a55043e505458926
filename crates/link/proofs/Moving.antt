-- A call of a link as a deed of the model.
use Rattle.std.proofs.Common.{◌≡◌, ℕ, Bool, true, false, List, Some, Option, sym, refl, subst}
use Rattle.terms.specs.declared.role.Role.{Role}
use Rattle.terms.specs.declared.role.Role.TheVariants.{Initiator, Responder}
use Rattle.terms.specs.Numbers.{Bytes}
use Rattle.params.specs.declared.values.Values.{Values}
use Rattle.states.specs.declared.state.State.{State}
use Rattle.states.specs.declared.state.State.TheVariants as state
use Rattle.states.specs.States.{EndValue}
use Rattle.ends.specs.Calls.{stopped, out_refusal, opened}
use Rattle.link.specs.Runs.{Sheets, SeatValue, seat, Deed, opens, ticks, fetches, stops, Moment, First, Fetch, Stop, StopDoes, Does}
use Rattle.model.specs.Model.{Shape, Tel, Can, after, fresh}
use Rattle.model.specs.Model as model
use Rattle.link.proofs.Seats.{Sits, Seated}
use Rattle.link.proofs.Shapes.{Looks, Seen, Acts, limits}
use Rattle.link.proofs.Deeds.{seat_deed, stop_deed}
use Rattle.link.proofs.Ticking.{tick_acts}
use Rattle.link.proofs.Fetching.{Heard, fetch_acts}

stopped_looks : (e : EndValue) (st : State) (a : Shape) → e.state ≡ st → Looks (stopped e (out_refusal st)) (stopped e (out_refusal st)).state (after a (model.leaves 0))
stopped_looks e (state.WaitAu2 rb rc) a is = refl
stopped_looks e (state.WaitAr ra rb rc) a is = refl
stopped_looks e (state.Listen ra) a is = refl
stopped_looks e (state.WaitAu3 ra rb) a is = refl
stopped_looks e (state.WaitEc words) a is = refl
stopped_looks e (state.WaitFirst words last synced) a is = refl
stopped_looks e (state.Up words sent last synced) a is = refl
stopped_looks e (state.Out release) a is = subst (λ st. Looks e st (after a (model.leaves 0))) (sym is) refl

stop_acts : (from : Tel → Type 0) (m : Moment) (t : Stop m) (a : Shape) → Looks t.e t.e.state a → Acts t.e.role t.e.values from a (stop_deed t.held) t.e'
stop_acts from m t a h = go t.held t.call
  where
    go : (b : Bool) → StopDoes b m t.e t.e' → Acts t.e.role t.e.values from a (stop_deed b) t.e'
    go true d = record { can = tt; looks = subst (λ y. Looks y y.state (after a (model.leaves 0))) (sym d.0.end) (stopped_looks t.e t.e.state a refl) }
    go false d = record { can = tt; looks = subst (λ y. Looks y y.state a) (sym d.0) h }

first_looks : (v : Values) (role : Role) (st : State) → First role st → (a : Shape) → a ≡ fresh v.ec.0 → Looks (opened v role st) st a
first_looks v Initiator st n a k =
    subst (λ x. Looks (opened v Initiator x) x a) (sym n.2)
    (subst (Looks (opened v Initiator (state.WaitAu2 n.0 n.1)) (state.WaitAu2 n.0 n.1)) (sym k) record { role_is = refl; mode = refl; next = refl; floor = refl; ec = refl })
first_looks v Responder st n a k =
    subst (λ x. Looks (opened v Responder x) x a) (sym n.1)
    (subst (Looks (opened v Responder (state.Listen n.0)) (state.Listen n.0)) (sym k) record { role_is = refl; mode = refl; next = refl; floor = refl; ec = refl })

-- what a call does to the shape of its end
pub record Moves (role : Role) (v : Values) (from : Tel → Type 0) (a : Shape) (d : model.Deed) (o : Option SeatValue) : Type 0 where
  pub can : Can role (limits v) from a d
  pub seen : Seen v.ec.0 o (after a d)

moved : (sheets : Sheets) (m : Moment) (from : Tel → Type 0) (a : Shape) (e e' : EndValue) (p q : Bool) (d : model.Deed) → Sits sheets m.role e → seat m.role m.after ≡ Some record { end = e'; held = q }
    → Acts e.role e.values from a d e' → Moves m.role (sheets m.role) from a d (seat m.role m.after)
moved sheets m from a e e' p q d s is x =
    record {
      can = subst (λ v. Can m.role (limits v) from a d) s.values (subst (λ r. Can r (limits e.values) from a d) s.role x.can);
      seen = subst (λ o. Seen (sheets m.role).ec.0 o (after a d)) (sym is) x.looks;
    }

-- by what the call is; what a fetch takes under its word came from the far end
pub moves : (sheets : Sheets) (m : Moment) (from : Tel → Type 0) (a : Shape) (d : Deed) → Does sheets m d → Seated sheets m.role (seat m.role m.before)
    → Seen (sheets m.role).ec.0 (seat m.role m.before) a
    → ((t : Fetch m) (x : List ℕ) → m.took ≡ Some x → Bytes x → Heard from t.e x)
    → Moves m.role (sheets m.role) from a (seat_deed m d (seat m.role m.before)) (seat m.role m.after)
moves sheets m from a (opens first) t k h heard =
    let v = sheets m.role in
    record {
      can = tt;
      seen = subst (λ o. Seen v.ec.0 o a) (sym t.opened)
          (subst (λ e. Looks e e.state a) (sym t.call.end) (first_looks v m.role first t.numbers a (subst (λ o. Seen v.ec.0 o a) t.unopened h)));
    }
moves sheets m from a (ticks message) t k h heard =
    subst (λ o. Moves m.role (sheets m.role) from a (seat_deed m (ticks message) o) (seat m.role m.after)) (sym t.was)
    (moved sheets m from a t.e t.e' t.held t.held _ (subst (Seated sheets m.role) t.was k) t.is
    (tick_acts from m message t a (subst (λ o. Seen (sheets m.role).ec.0 o a) t.was h)))
moves sheets m from a fetches t k h heard =
    subst (λ o. Moves m.role (sheets m.role) from a (seat_deed m fetches o) (seat m.role m.after)) (sym t.was)
    (moved sheets m from a t.e t.e' t.held t.held _ (subst (Seated sheets m.role) t.was k) t.is
    (fetch_acts from m t a (subst (λ o. Seen (sheets m.role).ec.0 o a) t.was h) (heard t)))
moves sheets m from a stops t k h heard =
    subst (λ o. Moves m.role (sheets m.role) from a (seat_deed m stops o) (seat m.role m.after)) (sym t.was)
    (moved sheets m from a t.e t.e' t.held false _ (subst (Seated sheets m.role) t.was k) t.is
    (stop_acts from m t a (subst (λ o. Seen (sheets m.role).ec.0 o a) t.was h)))
