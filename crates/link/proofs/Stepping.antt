-- From what one call on an end ensures to one step of a run.
use Rattle.std.proofs.Common.{◌≡◌, ℕ, ◌-◌, ◌≤◌, Bool, true, false, ltb, List, length, Some, None, Ok, vec_items, Option, sym, refl, ap, ◌∙◌, subst, arith, ltb-true}
use Rattle.std.proofs.lemmas.Bool.{cond_both}
use Rattle.terms.specs.declared.refusal.Refusal.{Refusal}
use Rattle.terms.specs.declared.role.Role.{Role}
use Rattle.terms.specs.declared.role.Role.TheVariants.{Initiator, Responder}
use Rattle.terms.specs.Roles.{far}
use Rattle.terms.specs.Sides.{at, with_side}
use Rattle.carrier.specs.Rules.{Meaning, FetchRules}
use Rattle.params.specs.declared.call.Action.TheVariants as action
use Rattle.params.specs.Calls.{OwnAction, OwnCall}
use Rattle.ends.specs.declared.answer.Answer.{Answer}
use Rattle.ends.specs.declared.ways.FetchWay.{FetchWay}
use Rattle.ends.specs.declared.ways.FetchWay.TheVariants as fetch
use Rattle.ends.specs.Calls.{Ticked, tick_refusal, Fetched, fetch_refusal, came_way, came_length, stop_put, out_refusal}
use Rattle.ends.specs.Effects.{delivers, message_place, fetch_put}
use Rattle.states.specs.States.{EndValue}
use Rattle.link.specs.Runs.{Sheets, SeatValue, LinkValue, seat, Deed, fetches, stops, Moment, Does, FetchDoes, StopDoes, at_place, tick_puts, came_string}
use Rattle.link.specs.Seats.{Acts, StopsHeld, Within, Steps, link_value, seat_value}
use Rattle.link.specs.declared.runs.Seats.{Seats}
use Rattle.link.specs.declared.seat.Seat.{Seat}
use Rattle.link.specs.Tells.{deed_of}

-- a tick delivers nothing
tick_none : (o : Option Refusal) (e e' : EndValue) (m m' : Meaning) (message out out' : List ℕ) (r : Answer) → Ticked o e e' m m' message out out' r → r.delivered ≡ None
tick_none (Some x) e e' m m' message out out' r t = ap (λ a. a.delivered) t.answer
tick_none None e e' m m' message out out' r t = ap (λ a. a.delivered) t.answer

stop_none : (held : Bool) (e e' : EndValue) (m m' : Meaning) (r : Answer) → StopsHeld held e e' m m' r → r.delivered ≡ None
stop_none true e e' m m' r s = ap (λ a. a.delivered) s.answer
stop_none false e e' m m' r s = ap (λ a. a.delivered) s.2

-- the place of a message lies within what came
within_place : (n k : ℕ) → n ≤ k → Within k (message_place n)
within_place n k h =
    cond_both (ltb 18 n) (Some record { from = 10; to = n - 8 }) None (Within k)
    (λ b. (omega (arith, ltb-true 18 n b), omega arith))
    (λ b. tt)

within_delivers : (w : FetchWay) (n k : ℕ) → n ≤ k → Within k (delivers w n)
within_delivers fetch.Drops n k h = tt
within_delivers (fetch.LeftByFar codes) n k h = tt
within_delivers (fetch.Releases r) n k h = tt
within_delivers (fetch.AnswersAu1 rb) n k h = tt
within_delivers (fetch.AnswersAu2 ra) n k h = tt
within_delivers (fetch.AnswersAu3 rc) n k h = tt
within_delivers fetch.AnswersAr n k h = tt
within_delivers (fetch.Starts sn ec) n k h = tt
within_delivers (fetch.Takes kind sn ec) n k h = within_place n k h

came_within : (m m' : Meaning) (at : Role) (buf buf' : List ℕ) (came : Option ℕ) → FetchRules m m' at buf buf' (Ok came) → came_length came ≤ length buf
came_within m m' at buf buf' None f = omega arith
came_within m m' at buf buf' (Some n) f = f.within

within_fetch : (o : Option Refusal) (e e' : EndValue) (m m' : Meaning) (buf buf' out out' : List ℕ) (r : Answer)
    → Fetched o e e' m m' buf buf' out out' r → Within (length buf) r.delivered
within_fetch (Some x) e e' m m' buf buf' out out' r f = subst (Within (length buf)) (sym (ap (λ a. a.delivered) f.call.answer)) tt
within_fetch None e e' m m' buf buf' out out' r f =
    subst (Within (length buf)) (sym (ap (λ a. a.delivered) f.answer))
    (within_delivers (came_way e buf' f.came) (came_length f.came) (length buf) (came_within m f.between e.role buf buf' f.came f.fetched))

abbrev moment_of : Role → Deed → Answer → List ℕ → Option (List ℕ) → Option (List ℕ) → LinkValue → LinkValue → Moment
moment_of s d r got put took t t' = record { role = s; deed = d; answer = r; got = got; put = put; took = took; before = t; after = t' }

-- what a fetch put and took
fetch_does : (o : Option Refusal) (s : Role) (t t' : LinkValue) (e e' : EndValue) (buf buf' out out' got : List ℕ) (r : Answer)
    → Fetched o e e' t.carrier t'.carrier buf buf' out out' r
    → (put : Option (List ℕ)) × (took : Option (List ℕ)) × FetchDoes o (moment_of s fetches r got put took t t') e e' buf buf' out out'
fetch_does (Some x) s t t' e e' buf buf' out out' got r f = (None, None, (f, refl, refl))
fetch_does None s t t' e e' buf buf' out out' got r f = (fetch_put e (came_way e buf' f.came), came_string buf' f.came, (f, refl, refl))

stop_does : (held : Bool) (s : Role) (t t' : LinkValue) (e e' : EndValue) (got : List ℕ) (r : Answer)
    → StopsHeld held e e' t.carrier t'.carrier r
    → (put : Option (List ℕ)) × StopDoes held (moment_of s stops r got put None t t') e e'
stop_does true s t t' e e' got r k = (stop_put e (out_refusal e.state), (k, refl))
stop_does false s t t' e e' got r k = (None, (k.0, k.1, k.2, refl))

-- a call, with the string that it put and the one that it took
record Done (s : Role) (a : OwnAction) (t t' : LinkValue) (buf' : List ℕ) (r : Answer) : Type 0 where
  put : Option (List ℕ)
  took : Option (List ℕ)
  does : (sheets : Sheets) → Does sheets (moment_of s (deed_of a) r (at_place buf' r.delivered) put took t t') (deed_of a)
  within : Within (length buf') r.delivered

seated : {o : Option SeatValue} (p : SeatValue) (held : Bool) → o ≡ Some p → p.held ≡ held → o ≡ Some record { end = p.end; held = held }
seated p held e h = e ∙ ap (λ b. Some record { end = p.end; held = b }) h

done : (s : Role) (a : OwnAction) (t t' : LinkValue) (p p' : SeatValue) (buf buf' out out' : List ℕ) (r : Answer)
    → seat s t ≡ Some p → seat s t' ≡ Some p' → length buf' ≡ length buf
    → Acts a p p' t.carrier t'.carrier buf buf' out out' r → Done s a t t' buf' r
done s (action.Tick x) t t' p p' buf buf' out out' r was is len a =
    let none = tick_none (tick_refusal p.end t.carrier.largest (length out)) p.end p'.end t.carrier t'.carrier (vec_items x) out out' r a.call in
    record {
      put = tick_puts (tick_refusal p.end t.carrier.largest (length out)) p.end (vec_items x);
      took = None;
      does = λ sheets. record {
        e = p.end;
        e' = p'.end;
        held = p.held;
        was = was;
        is = seated p' p.held is a.held;
        out = out;
        out' = out';
        call = a.call;
        put = refl;
        took = refl;
        got = ap (at_place buf') none;
      };
      within = subst (Within (length buf')) (sym none) tt;
    }
done s action.Fetch t t' p p' buf buf' out out' r was is len a =
    let o = fetch_refusal p.end t.carrier.largest (length buf) (length out) in
    let d = fetch_does o s t t' p.end p'.end buf buf' out out' (at_place buf' r.delivered) r a.call in
    record {
      put = d.0;
      took = d.1;
      does = λ sheets. record {
        e = p.end;
        e' = p'.end;
        held = p.held;
        was = was;
        is = seated p' p.held is a.held;
        buf = buf;
        buf' = buf';
        out = out;
        out' = out';
        call = d.2;
        got = refl;
      };
      within = subst (λ n. Within n r.delivered) (sym len) (within_fetch o p.end p'.end t.carrier t'.carrier buf buf' out out' r a.call);
    }
done s action.Stop t t' p p' buf buf' out out' r was is len a =
    let none = stop_none p.held p.end p'.end t.carrier t'.carrier r a.call in
    let d = stop_does p.held s t t' p.end p'.end (at_place buf' r.delivered) r a.call in
    record {
      put = d.0;
      took = None;
      does = λ sheets. record {
        e = p.end;
        e' = p'.end;
        held = p.held;
        was = was;
        is = seated p' false is a.held;
        call = d.1;
        took = refl;
        got = ap (at_place buf') none;
      };
      within = subst (Within (length buf')) (sym none) tt;
    }

pub stepped : (c : OwnCall) (s : Role) → c.end ≡ s → (t t' : LinkValue) (p p' : SeatValue) (buf buf' out out' : List ℕ) (r : Answer)
    → seat s t ≡ Some p → seat s t' ≡ Some p' → seat (far s) t' ≡ seat (far s) t → length buf' ≡ length buf
    → Acts c.action p p' t.carrier t'.carrier buf buf' out out' r → Steps c t t' buf' r
stepped c s h t t' p p' buf buf' out out' r was is other len a =
    let d = done c.end c.action t t' p p' buf buf' out out' r (subst (λ x. seat x t ≡ Some p) (sym h) was) (subst (λ x. seat x t' ≡ Some p') (sym h) is) len a in
    record {
      put = d.put;
      took = d.took;
      step = λ sheets. record { does = d.does sheets; other = subst (λ x. seat (far x) t' ≡ seat (far x) t) (sym h) other };
      within = d.within;
    }

-- the same where the end's seat is one of two
pub stepped_at : (c : OwnCall) (s : Role) → c.end ≡ s → (m m' : Meaning) (seats : Seats) (x y : Seat) (buf buf' out out' : List ℕ) (r : Answer)
    → x ≡ at seats.0 s → length buf' ≡ length buf
    → Acts c.action (seat_value x) (seat_value y) m m' buf buf' out out' r
    → Steps c (link_value m seats) (link_value m' record { 0 = with_side seats.0 s y }) buf' r
stepped_at c Initiator h m m' seats x y buf buf' out out' r e len a =
    stepped c Initiator h (link_value m seats) (link_value m' record { 0 = with_side seats.0 Initiator y }) (seat_value x) (seat_value y)
    buf buf' out out' r (ap (λ z. Some (seat_value z)) (sym e)) refl refl len a
stepped_at c Responder h m m' seats x y buf buf' out out' r e len a =
    stepped c Responder h (link_value m seats) (link_value m' record { 0 = with_side seats.0 Responder y }) (seat_value x) (seat_value y)
    buf buf' out out' r (ap (λ z. Some (seat_value z)) (sym e)) refl refl len a
