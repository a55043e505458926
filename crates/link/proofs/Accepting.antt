-- A synchronising telegram that was accepted synchronises in the model too.
use Rattle.std.proofs.Common.{◌≡◌, ℕ, true, ◌⊎◌, List, Some, None, Option, sym, refl, ap, ◌∙◌, subst, inl, inr, ⊎_elim, arith}
use Rattle.terms.specs.declared.role.Role.{Role}
use Rattle.terms.specs.declared.role.Role.TheVariants.{Initiator, Responder}
use Rattle.terms.specs.declared.counters.SequenceNumber.{SequenceNumber}
use Rattle.terms.specs.declared.counters.ExecutionCycle.{ExecutionCycle}
use Rattle.terms.specs.Numbers.{Bytes}
use Rattle.codec.specs.Telegrams.{TelegramValue, content_type}
use Rattle.states.specs.declared.state.Status.{Status}
use Rattle.states.specs.declared.state.Status.TheVariants as status
use Rattle.ends.specs.declared.ways.Exchange.{Exchange}
use Rattle.ends.specs.declared.ways.Exchange.TheVariants as exchange
use Rattle.ends.specs.declared.ways.FetchWay.{FetchWay}
use Rattle.ends.specs.declared.ways.FetchWay.TheVariants as fetch
use Rattle.states.specs.States.{EndValue, status_of}
use Rattle.ends.specs.Ways.{fetch_way}
use Rattle.link.specs.Runs.{Sheets, SeatValue, seat, fetches, Moment, Fetch, Does, Step}
use Rattle.link.specs.Law.{Carries, Accepted, Synchronises, accepting}
use Rattle.model.specs.Model.{Tel, Syncs}
use Rattle.model.specs.Model as model
use Rattle.link.proofs.Seats.{Seated}
use Rattle.link.proofs.Deeds.{tel, start_deed, first_deed, up_deed, fetch_deed, took_deed, seat_deed, deed_of}
use Rattle.link.proofs.Reading.{Taken, FirstSpot, UpSpot, content_of, takes_is, starts_is, carries_one}
use Rattle.link.proofs.Syncing.{took_bytes}
use Rattle.link.proofs.Apart.{false_true}

-- what synchronises, by the end that accepts
abbrev Form : EndValue → TelegramValue → Type 0
Form e t = ((e.role ≡ Initiator) × (status_of e.state ≡ status.WaitEc))
    ⊎ ((status_of e.state ≡ status.WaitFirst) ⊎ ((status_of e.state ≡ status.Up) × (content_type t.content ≡ 0x88)))

never : {A : Type 0} {a b : Status} → a ≡ b → (a ≡ b → ⊥) → A
never e k = absurd (k e)

module _ (e : EndValue) (x : List ℕ) (b : Bytes x) (t : TelegramValue) (c : Carries x t) where
  start_syncs : (r : Role) (f : Tel) → r ≡ Initiator → Syncs f (start_deed r f)
  start_syncs Initiator f k = refl
  start_syncs Responder f k = let z : ◌≡◌ {A = ℕ} 0 1 = cc in absurd (omega arith)

  first_syncs : (kind : Exchange) (sn : SequenceNumber) (ec : ExecutionCycle) → (kind ≡ exchange.Ack → ⊥) → (f : Tel) × Syncs f (first_deed kind sn ec)
  first_syncs exchange.Am sn ec k = (tel model.am sn ec, refl)
  first_syncs exchange.Req sn ec k = (tel model.req sn ec, refl)
  first_syncs exchange.Ack sn ec k = absurd (k refl)

  up_syncs : (sent : SequenceNumber) (kind : Exchange) (sn : SequenceNumber) (ec : ExecutionCycle) (m : List ℕ) → content_type (content_of kind m) ≡ 0x88 → (f : Tel) × Syncs f (up_deed sent kind sn ec)
  up_syncs sent exchange.Am sn ec m k = absurd (omega arith)
  up_syncs sent exchange.Req sn ec m k = absurd (omega arith)
  up_syncs sent exchange.Ack sn ec m k = (tel model.ack sn ec, refl)

  -- the state tells the three apart
  by_start : (sn : SequenceNumber) (ec : ExecutionCycle) → fetch_way e x ≡ fetch.Starts sn ec → Form e t → (f : Tel) × Syncs f (start_deed e.role (tel model.start sn ec))
  by_start sn ec w form =
      let s = starts_is e x sn ec b w in
      let is : status_of e.state ≡ status.WaitEc = ap status_of s.state_is in
      ⊎_elim
      (λ p. (tel model.start sn ec, start_syncs e.role (tel model.start sn ec) p.0))
      (⊎_elim (λ p. let q : status.WaitEc ≡ status.WaitFirst = sym is ∙ p in let z : ◌≡◌ {A = ℕ} 0 1 = cc in absurd (omega arith))
      (λ p. let q : status.WaitEc ≡ status.Up = sym is ∙ p.0 in let z : ◌≡◌ {A = ℕ} 0 1 = cc in absurd (omega arith)))
      form

  by_first : (kind : Exchange) (sn : SequenceNumber) (ec : ExecutionCycle) → FirstSpot e x kind sn ec → (f : Tel) × Syncs f (fetch_deed e.role e.state (fetch.Takes kind sn ec))
  by_first kind sn ec p = subst (λ st. (f : Tel) × Syncs f (fetch_deed e.role st (fetch.Takes kind sn ec))) (sym p.state_is) (first_syncs kind sn ec p.no_ack)

  by_up : (kind : Exchange) (sn : SequenceNumber) (ec : ExecutionCycle) → Taken e x kind sn ec → UpSpot e x kind sn ec → Form e t → (f : Tel) × Syncs f (fetch_deed e.role e.state (fetch.Takes kind sn ec))
  by_up kind sn ec g p form =
      let is : status_of e.state ≡ status.Up = ap status_of p.state_is in
      let same : t ≡ g.telegram = carries_one x t g.telegram c g.carries in
      ⊎_elim
      (λ q. let k : status.Up ≡ status.WaitEc = sym is ∙ q.1 in let z : ◌≡◌ {A = ℕ} 0 1 = cc in absurd (omega arith))
      (⊎_elim (λ q. let k : status.Up ≡ status.WaitFirst = sym is ∙ q in let z : ◌≡◌ {A = ℕ} 0 1 = cc in absurd (omega arith))
      (λ q. subst (λ st. (f : Tel) × Syncs f (fetch_deed e.role st (fetch.Takes kind sn ec))) (sym p.state_is)
      (up_syncs p.sent kind sn ec g.message (sym (ap (λ y. content_type y.content) same ∙ ap content_type g.content) ∙ q.1))))
      form

  by_way : (way : FetchWay) → fetch_way e x ≡ way → accepting e.state way ≡ true → Form e t → (f : Tel) × Syncs f (fetch_deed e.role e.state way)
  by_way fetch.Drops w a form = false_true a
  by_way (fetch.LeftByFar codes) w a form = false_true a
  by_way (fetch.Releases r) w a form = false_true a
  by_way (fetch.AnswersAu1 rb) w a form = false_true a
  by_way (fetch.AnswersAu2 ra) w a form = false_true a
  by_way (fetch.AnswersAu3 rc) w a form = false_true a
  by_way fetch.AnswersAr w a form = false_true a
  by_way (fetch.Starts sn ec) w a form = by_start sn ec w form
  by_way (fetch.Takes kind sn ec) w a form =
      let g = takes_is e x kind sn ec b w in ⊎_elim (λ p. by_first kind sn ec p) (λ p. by_up kind sn ec g p form) g.spot

pub accepted_syncs : (sheets : Sheets) (s : Role) (m : Moment) → Step sheets m → Seated sheets m.role (seat m.role m.before) → (a : Accepted s m) → Synchronises s m a → (f : Tel) × Syncs f (deed_of m)
accepted_syncs sheets s m st sits a y =
    let t : Fetch m = subst (Does sheets m) a.deed st.does in
    let was : seat m.role m.before ≡ Some record { end = a.end; held = a.held } = subst (λ r. seat r m.before ≡ Some record { end = a.end; held = a.held }) (sym a.role) a.was in
    let both : Some record { end = t.e; held = t.held } ≡ Some record { end = a.end; held = a.held } = sym t.was ∙ was in
    let e : t.e ≡ a.end = ap end_in both in
    let role : a.end.role ≡ s = ap (λ z. z.role) (sym e) ∙ (subst (Seated sheets m.role) t.was sits).role ∙ a.role in
    let form : Form a.end a.telegram =
    ⊎_elim (λ p. inl (role ∙ p.0, p.1)) (λ p. inr p) y in
    let k = by_way a.end a.string (took_bytes m t a.string a.took) a.telegram a.carries (fetch_way a.end a.string) refl a.accepts form in
    subst (λ d. (f : Tel) × Syncs f d)
    (sym (ap (λ d. seat_deed m d (seat m.role m.before)) a.deed ∙ ap (seat_deed m fetches) was ∙ ap (took_deed a.end) a.took)) k
  where
    end_in : Option SeatValue → EndValue
    end_in None = a.end
    end_in (Some v) = v.end
