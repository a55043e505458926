-- What a delivery takes: a telegram with the bytes delivered as its message, which the far end sent by a tick.
use Rattle.std.proofs.Common.{◌≡◌, ℕ, ◌+◌, ◌-◌, ◌<◌, ◌≤◌, Bool, true, false, ltb, leb, List, [], length, take, drop, Some, None, Option, sym, refl, ap, ◌∙◌, subst, ap₂, arith}
use Rattle.std.proofs.lemmas.Bool.{cond_both, ltb-true}
use Rattle.std.proofs.lemmas.List.{take-take, drop-take}
use Rattle.terms.specs.declared.refusal.Refusal.{Refusal}
use Rattle.terms.specs.declared.role.Role.{Role}
use Rattle.terms.specs.declared.counters.SequenceNumber.{SequenceNumber}
use Rattle.terms.specs.declared.counters.ExecutionCycle.{ExecutionCycle}
use Rattle.codec.specs.Telegrams.{TelegramValue}
use Rattle.params.specs.declared.values.Values.{Values}
use Rattle.params.specs.Laws.{InRange}
use Rattle.ends.specs.declared.answer.Place.{Place}
use Rattle.ends.specs.declared.ways.Exchange.{Exchange}
use Rattle.ends.specs.declared.ways.FetchWay.{FetchWay}
use Rattle.ends.specs.declared.ways.FetchWay.TheVariants as fetch
use Rattle.states.specs.States.{EndValue}
use Rattle.ends.specs.Ways.{fetch_way}
use Rattle.ends.specs.Effects.{delivers, message_place, sent_content}
use Rattle.ends.specs.Calls.{fetch_refusal, tick_refusal, Ticked, came_way, came_length, Octets, said, out_refusal}
use Rattle.link.specs.Runs.{Sheets, seat, at_place, Deed, opens, ticks, fetches, stops, Moment, tick_puts, Fetch, FetchDoes, came_string, StopDoes, Does}
use Rattle.link.specs.Law.{Carries, Send, message_in}
use Rattle.link.proofs.Seats.{Seated}
use Rattle.link.proofs.Reading.{Taken, takes_is}
use Rattle.link.proofs.Putting.{tick_carries, FetchSent, sent_in_ar, sent_in_ec, sent_in_first, sent_in_up, fetch_carries, opening_carries, stop_carries}
use Rattle.link.proofs.Fits.{FitSeat}
use Rattle.link.proofs.Apart.{none_some}

-- a fetch that delivered
pub record Got (m : Moment) (t : Fetch m) : Type 0 where
  pub string : List ℕ
  pub took : m.took ≡ Some string
  pub kind : Exchange
  pub sn : SequenceNumber
  pub ec : ExecutionCycle
  pub way : fetch_way t.e string ≡ fetch.Takes kind sn ec
  pub taken : Taken t.e string kind sn ec
  pub message : m.got ≡ taken.message
  pub some : 0 < length m.got

-- the part of a string is that of the buffer that it stands at the start of
part : (k j n : ℕ) (l : List ℕ) → k + j ≤ n → take k (drop j (take n l)) ≡ take k (drop j l)
part k j n l h =
    let whole : n ≡ j + (n - j) = omega arith in
    ap (λ q. take k (drop j (take q l))) whole ∙ ap (take k) (drop-take j (n - j) l) ∙ take-take k (n - j) (drop j l) (omega arith)

-- where a message stands
spot : (n : ℕ) (p : Place) → message_place n ≡ Some p → (18 < n) × (p.from ≡ 10) × (p.to ≡ n - 8)
spot n p = cond_both (ltb 18 n) _ _ (λ o. o ≡ Some p → (18 < n) × (p.from ≡ 10) × (p.to ≡ n - 8))
    (λ b e. let q : record { from = 10; to = n - 8 } ≡ p = cc in (ltb-true _ _ b, sym (ap (λ z. z.from) q), sym (ap (λ z. z.to) q)))
    (λ _ e. none_some p e)

way_got : (m : Moment) (t : Fetch m) (n : ℕ) (p : Place) (way : FetchWay) → m.took ≡ Some (take n t.buf') → Octets t.buf' (Some n) → m.answer.delivered ≡ Some p
    → fetch_way t.e (take n t.buf') ≡ way → delivers way n ≡ Some p → Got m t
way_got m t n p fetch.Drops k b a w d = none_some p d
way_got m t n p (fetch.LeftByFar codes) k b a w d = none_some p d
way_got m t n p (fetch.Releases r) k b a w d = none_some p d
way_got m t n p (fetch.AnswersAu1 rb) k b a w d = none_some p d
way_got m t n p (fetch.AnswersAu2 ra) k b a w d = none_some p d
way_got m t n p (fetch.AnswersAu3 rc) k b a w d = none_some p d
way_got m t n p fetch.AnswersAr k b a w d = none_some p d
way_got m t n p (fetch.Starts sn ec) k b a w d = none_some p d
way_got m t n p (fetch.Takes kind sn ec) k b a w d =
    let x = take n t.buf' in
    let g = takes_is t.e x kind sn ec b.0 w in
    let s = spot n p d in
    let low = s.0 in
    let long : n ≡ 18 + length g.message = sym b.1 ∙ g.place.long in
    let got : m.got ≡ g.message =
    t.got ∙ ap (at_place t.buf') a
    ∙ ap₂ (λ i j. take (j - i) (drop i t.buf')) s.1 s.2
    ∙ sym (part (n - 8 - 10) 10 n t.buf' (omega arith))
    ∙ ap (λ l. take (l - 8 - 10) (drop 10 x)) (sym b.1) ∙ g.place.bytes in
    record { string = x; took = k; kind = kind; sn = sn; ec = ec; way = w; taken = g; message = got; some = subst (λ l. 0 < length l) (sym got) (omega arith) }

pub delivered_is : (m : Moment) (t : Fetch m) (p : Place) → m.answer.delivered ≡ Some p → Got m t
delivered_is m t p a = go (fetch_refusal t.e m.before.carrier.largest (length t.buf) (length t.out)) t.call
  where
    came : (o : Option ℕ) → m.took ≡ came_string t.buf' o → Octets t.buf' o → m.answer.delivered ≡ delivers (came_way t.e t.buf' o) (came_length o) → Got m t
    came None k b d = none_some p (sym d ∙ a)
    came (Some n) k b d = way_got m t n p (fetch_way t.e (take n t.buf')) k b a refl (sym d ∙ a)

    go : (o : Option Refusal) → FetchDoes o m t.e t.e' t.buf t.buf' t.out t.out' → Got m t
    go (Some y) d = none_some p (sym (ap (λ r. r.delivered) d.0.call.answer) ∙ a)
    go None d = came d.0.came d.1 d.0.octets (ap (λ r. r.delivered) d.0.answer)

-- the message of a tick that went out is the one that was said
said_is : (v : Values) (message x : List ℕ) → said v message ≡ x → 0 < length x → message ≡ x
said_is v message x = cond_both (leb (length message) v.longest) _ _ (λ l. l ≡ x → 0 < length x → message ≡ x) (λ _ e h. e) (λ _ e h. absurd (omega (arith, ap length e)))

sent_message : (b : Bool) (l x : List ℕ) → message_in (sent_content b l) ≡ Some x → l ≡ x
sent_message true l x e = cc
sent_message false l x e = cc

fetch_no_message : {A : Type 0} (e : EndValue) (way : FetchWay) (y : List ℕ) (g : TelegramValue) (x : List ℕ) → FetchSent e way y g → message_in g.content ≡ Some x → 0 < length x → A
fetch_no_message e way y g x (sent_in_ar s) k h = none_some x (sym (ap (λ z. message_in z.content) s.telegram_is) ∙ k)
fetch_no_message e way y g x (sent_in_ec s) k h = none_some x (sym (ap (λ z. message_in z.content) s.telegram_is) ∙ k)
fetch_no_message e way y g x (sent_in_first s) k h =
    let q : Some [] ≡ Some x = sym (ap (λ z. message_in z.content) s.telegram_is) ∙ k in let same : [] ≡ x = cc in absurd (omega (arith, ap length same))
fetch_no_message e way y g x (sent_in_up s) k h =
    let q : Some [] ≡ Some x = sym (ap (λ z. message_in z.content) s.telegram_is) ∙ k in let same : [] ≡ x = cc in absurd (omega (arith, ap length same))

-- a frame with a message that is not empty was put by a tick with that message
pub sent_is : (sheets : Sheets) → ((r : Role) → InRange (sheets r)) → (s : Role) (m : Moment) (d : Deed) → m.deed ≡ d → Does sheets m d → Seated sheets m.role (seat m.role m.before)
    → FitSeat (seat m.role m.before) → (y : List ℕ) (g : TelegramValue) (x : List ℕ) → m.put ≡ Some y → Carries y g → message_in g.content ≡ Some x → 0 < length x → m.role ≡ s → Send s m x
sent_is sheets v s m (opens first) e t k f y g x p c i h r = absurd (opening_carries first y g (sym t.put ∙ p) c)
sent_is sheets v s m (ticks message) e t k f y g x p c i h r = go (tick_refusal t.e m.before.carrier.largest (length t.out)) t.call t.put
  where
    go : (o : Option Refusal) → Ticked o t.e t.e' m.before.carrier m.after.carrier message t.out t.out' m.answer → m.put ≡ tick_puts o t.e message → Send s m x
    go (Some z) d q = none_some y (sym q ∙ p)
    go None d q =
        let range = subst InRange (sym (subst (Seated sheets m.role) t.was k).values) (v m.role) in
        let w = tick_carries t.e message y g range (subst FitSeat t.was f) (sym q ∙ p) c in
        let l = sent_message w.asks (said t.e.values message) x (sym (ap (λ z. message_in z.content) w.telegram_is) ∙ i) in
        record { role = r; deed = e ∙ ap ticks (said_is t.e.values message x l h); some = h; string = y; put = p; telegram = g; carries = c; says = i }
sent_is sheets v s m fetches e t k f y g x p c i h r = go (fetch_refusal t.e m.before.carrier.largest (length t.buf) (length t.out)) t.call
  where
    go : (o : Option Refusal) → FetchDoes o m t.e t.e' t.buf t.buf' t.out t.out' → Send s m x
    go (Some z) d = none_some y (sym d.2 ∙ p)
    go None d =
        let range = subst InRange (sym (subst (Seated sheets m.role) t.was k).values) (v m.role) in
        fetch_no_message t.e _ y g x (fetch_carries t.e (came_way t.e t.buf' d.0.came) y g range (subst FitSeat t.was f) (sym d.2 ∙ p) c) i h
sent_is sheets v s m stops e t k f y g x p c i h r = go t.held t.call
  where
    go : (b : Bool) → StopDoes b m t.e t.e' → Send s m x
    go true d = absurd (stop_carries t.e (out_refusal t.e.state) y g (sym d.1 ∙ p) c)
    go false d = none_some y (sym d.3 ∙ p)
