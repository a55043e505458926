-- A data frame that a call puts, as the model has it.
use Rattle.std.proofs.Common.{◌≡◌, ℕ, ◌+◌, Bool, true, false, cond, List, length, take, Some, None, Option, sym, ap, ◌∙◌, subst}
use Rattle.terms.specs.declared.refusal.Refusal.{Refusal}
use Rattle.terms.specs.declared.role.Role.{Role}
use Rattle.terms.specs.declared.role.Role.TheVariants.{Initiator, Responder}
use Rattle.terms.specs.declared.counters.SequenceNumber.{SequenceNumber}
use Rattle.codec.specs.Telegrams.{TelegramValue}
use Rattle.params.specs.Laws.{InRange}
use Rattle.ends.specs.declared.ways.Exchange.TheVariants as exchange
use Rattle.ends.specs.declared.ways.FetchWay.{FetchWay}
use Rattle.ends.specs.declared.ways.FetchWay.TheVariants as fetch
use Rattle.states.specs.States.{EndValue}
use Rattle.ends.specs.Ways.{fetch_way}
use Rattle.ends.specs.Effects.{fetch_put, sent_content}
use Rattle.ends.specs.Calls.{Ticked, tick_refusal, fetch_refusal, came_way, out_refusal}
use Rattle.link.specs.Runs.{Sheets, seat, Deed, opens, ticks, fetches, stops, Moment, Tick, tick_puts, Fetch, FetchDoes, came_string, Stop, StopDoes, Does}
use Rattle.link.specs.Law.{Carries, ticked}
use Rattle.model.specs.Model.{Shape, Tel, Puts}
use Rattle.model.specs.Model as model
use Rattle.link.proofs.Seats.{Seated}
use Rattle.link.proofs.Shapes.{Early, Starts, Looks, Seen}
use Rattle.link.proofs.Deeds.{tel_of, tel, start_deed, fetch_deed, tick_deed, ticked_deed, took_deed, seat_deed}
use Rattle.link.proofs.Ticking.{message_one}
use Rattle.link.proofs.Putting.{Fit, tick_carries, FetchSent, sent_in_ar, sent_in_ec, sent_in_first, sent_in_up, fetch_carries, opening_carries, stop_carries}
use Rattle.link.proofs.Fits.{FitSeat}
use Rattle.link.proofs.Apart.{none_some}

-- the model's numbers are the end's
same : (k : model.Kind) (n m p q : ℕ) → n ≡ m → p ≡ q → ◌≡◌ {A = Tel} record { kind = k; sn = m; ec = q } record { kind = k; sn = n; ec = p }
same k n m p q a b = λ i. record { kind = k; sn = sym a i; ec = sym b i }

sends : (a : Shape) (e : EndValue) (sent : SequenceNumber) (m : List ℕ) (t : TelegramValue) (b : Bool) → a.next ≡ sent.0 + 1 → a.ec ≡ e.ec.0
    → t ≡ record { sn = sent.0 + 1; ec = e.ec.0 + 1; content = sent_content b m } → Puts (tel_of t) a (cond b model.asks model.plain)
sends a e sent m t true n c k = ap tel_of k ∙ same model.req _ _ _ _ n (ap (λ x. x + 1) c)
sends a e sent m t false n c k = ap tel_of k ∙ same model.am _ _ _ _ n (ap (λ x. x + 1) c)

tick_puts_it : (m : Moment) (message : List ℕ) (t : Tick m message) (a : Shape) (x : List ℕ) (g : TelegramValue) → InRange t.e.values → Fit t.e → Looks t.e t.e.state a
    → m.put ≡ Some x → Carries x g → Puts (tel_of g) a (ticked_deed t.e (ticked m.answer.refused))
tick_puts_it m message t a x g v fit h k c = go (tick_refusal t.e m.before.carrier.largest (length t.out)) t.call t.put
  where
    go : (o : Option Refusal) → Ticked o t.e t.e' m.before.carrier m.after.carrier message t.out t.out' m.answer → m.put ≡ tick_puts o t.e message
        → Puts (tel_of g) a (ticked_deed t.e (ticked m.answer.refused))
    go (Some y) d p = none_some x (sym p ∙ k)
    go None d p =
        let one : ticked m.answer.refused ≡ 1 = ap (λ r. ticked r.refused) d.answer ∙ message_one t.e.values (length message) t.e'.state in
        let s = tick_carries t.e message x g v fit (sym p ∙ k) c in
        let l = subst (λ st. Looks t.e st a) s.state_is h in
        subst (λ n. Puts (tel_of g) a (ticked_deed t.e n)) (sym one)
        (subst (λ w. Puts (tel_of g) a (tick_deed t.e.role t.e.state w)) (sym s.way_is) (sends a t.e s.sent _ g s.asks l.next l.ec s.telegram_is))

way_puts : (e : EndValue) (a : Shape) (x : List ℕ) (g : TelegramValue) (way : FetchWay) → Looks e e.state a → FetchSent e way x g → Puts (tel_of g) a (fetch_deed e.role e.state way)
way_puts e a x g way h (sent_in_ar s) =
    let l : Early Initiator e a = subst (λ st. Looks e st a) s.state_is h in
    subst (λ w. Puts (tel_of g) a (fetch_deed e.role e.state w)) (sym s.way_is) (ap tel_of s.telegram_is ∙ same model.start _ _ _ _ l.next l.ec)
way_puts e a x g way h (sent_in_ec s) =
    let l : Early Responder e a = subst (λ r. Starts r e a) s.role_is (subst (λ st. Looks e st a) s.state_is h) in
    subst (λ w. Puts (tel_of g) a (fetch_deed e.role e.state w)) (sym s.way_is)
    (subst (λ r. Puts (tel_of g) a (start_deed r (tel model.start s.sn s.ec))) (sym s.role_is) (ap tel_of s.telegram_is ∙ same model.start _ _ _ _ l.next l.ec))
way_puts e a x g way h (sent_in_first s) =
    let l = subst (λ st. Looks e st a) s.state_is h in
    subst (λ w. Puts (tel_of g) a (fetch_deed e.role e.state w)) (sym s.way_is)
    (subst (λ st. Puts (tel_of g) a (fetch_deed e.role st (fetch.Takes exchange.Req s.sn s.ec))) (sym s.state_is) (ap tel_of s.telegram_is ∙ same model.ack _ _ _ _ l.next l.ec))
way_puts e a x g way h (sent_in_up s) =
    let l = subst (λ st. Looks e st a) s.state_is h in
    subst (λ w. Puts (tel_of g) a (fetch_deed e.role e.state w)) (sym s.way_is)
    (subst (λ st. Puts (tel_of g) a (fetch_deed e.role st (fetch.Takes exchange.Req s.sn s.ec))) (sym s.state_is)
    (subst (λ b. Puts (tel_of g) a (cond b (model.parts (tel model.req s.sn s.ec)) (model.answers (tel model.req s.sn s.ec)))) (sym s.left)
    (ap tel_of s.telegram_is ∙ same model.ack _ _ _ _ l.next l.ec)))

fetch_puts_it : (m : Moment) (t : Fetch m) (a : Shape) (x : List ℕ) (g : TelegramValue) → InRange t.e.values → Fit t.e → Looks t.e t.e.state a
    → m.put ≡ Some x → Carries x g → Puts (tel_of g) a (took_deed t.e m.took)
fetch_puts_it m t a x g v fit h k c = go (fetch_refusal t.e m.before.carrier.largest (length t.buf) (length t.out)) t.call
  where
    came : (o : Option ℕ) → m.took ≡ came_string t.buf' o → m.put ≡ fetch_put t.e (came_way t.e t.buf' o) → Puts (tel_of g) a (took_deed t.e m.took)
    came None k' p = none_some x (sym p ∙ k)
    came (Some n) k' p =
        subst (λ o. Puts (tel_of g) a (took_deed t.e o)) (sym k')
        (way_puts t.e a x g (fetch_way t.e (take n t.buf')) h (fetch_carries t.e (fetch_way t.e (take n t.buf')) x g v fit (sym p ∙ k) c))

    go : (o : Option Refusal) → FetchDoes o m t.e t.e' t.buf t.buf' t.out t.out' → Puts (tel_of g) a (took_deed t.e m.took)
    go (Some y) d = none_some x (sym d.2 ∙ k)
    go None d = came d.0.came d.1 d.2

stop_puts_none : {A : Type 0} (m : Moment) (t : Stop m) (x : List ℕ) (g : TelegramValue) → m.put ≡ Some x → Carries x g → A
stop_puts_none {A} m t x g k c = go t.held t.call
  where
    go : (b : Bool) → StopDoes b m t.e t.e' → A
    go true d = absurd (stop_carries t.e (out_refusal t.e.state) x g (sym d.1 ∙ k) c)
    go false d = none_some x (sym d.3 ∙ k)

-- a data frame that a call puts is put by its deed
pub puts_it : (sheets : Sheets) → ((s : Role) → InRange (sheets s)) → (m : Moment) (a : Shape) (d : Deed) → Does sheets m d → Seated sheets m.role (seat m.role m.before)
    → FitSeat (seat m.role m.before) → Seen (sheets m.role).ec.0 (seat m.role m.before) a
    → (x : List ℕ) (g : TelegramValue) → m.put ≡ Some x → Carries x g → Puts (tel_of g) a (seat_deed m d (seat m.role m.before))
puts_it sheets v m a (opens first) t k f h x g p c = absurd (opening_carries first x g (sym t.put ∙ p) c)
puts_it sheets v m a (ticks message) t k f h x g p c =
    subst (λ o. Puts (tel_of g) a (seat_deed m (ticks message) o)) (sym t.was)
    (tick_puts_it m message t a x g (subst InRange (sym (subst (Seated sheets m.role) t.was k).values) (v m.role)) (subst FitSeat t.was f)
    (subst (λ o. Seen (sheets m.role).ec.0 o a) t.was h) p c)
puts_it sheets v m a fetches t k f h x g p c =
    subst (λ o. Puts (tel_of g) a (seat_deed m fetches o)) (sym t.was)
    (fetch_puts_it m t a x g (subst InRange (sym (subst (Seated sheets m.role) t.was k).values) (v m.role)) (subst FitSeat t.was f)
    (subst (λ o. Seen (sheets m.role).ec.0 o a) t.was h) p c)
puts_it sheets v m a stops t k f h x g p c = stop_puts_none m t x g p c
