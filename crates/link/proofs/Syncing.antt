-- The synchronising telegrams of a run are those of the model.
use Rattle.std.proofs.Common.{◌≡◌, ℕ, Bool, true, false, eqb, ◌⊎◌, List, length, take, Some, None, Option, sym, refl, ap, ◌∙◌, subst, inl, inr, ⊎_elim}
use Rattle.std.proofs.lemmas.Bool.{cond_both}
use Rattle.terms.specs.declared.refusal.Refusal.{Refusal}
use Rattle.terms.specs.declared.role.Role.{Role}
use Rattle.terms.specs.declared.role.Role.TheVariants.{Initiator, Responder}
use Rattle.terms.specs.declared.counters.SequenceNumber.{SequenceNumber}
use Rattle.terms.specs.declared.counters.ExecutionCycle.{ExecutionCycle}
use Rattle.terms.specs.Numbers.{Bytes}
use Rattle.codec.specs.Sealing.{Bears}
use Rattle.codec.specs.Telegrams.{TelegramValue, content_type}
use Rattle.states.specs.declared.state.State.{State}
use Rattle.states.specs.declared.state.State.TheVariants as state
use Rattle.states.specs.declared.state.Status.TheVariants as status
use Rattle.states.specs.declared.state.Words.{Words}
use Rattle.ends.specs.declared.ways.TickWay.{TickWay}
use Rattle.ends.specs.declared.ways.TickWay.TheVariants as tick
use Rattle.ends.specs.declared.ways.Exchange.{Exchange}
use Rattle.ends.specs.declared.ways.Exchange.TheVariants as exchange
use Rattle.ends.specs.declared.ways.FetchWay.{FetchWay}
use Rattle.ends.specs.declared.ways.FetchWay.TheVariants as fetch
use Rattle.states.specs.States.{EndValue, status_of}
use Rattle.ends.specs.Ways.{greatest, tick_way, fetch_way}
use Rattle.ends.specs.Calls.{fetch_refusal, Octets}
use Rattle.link.specs.Runs.{Sheets, seat, Deed, opens, ticks, fetches, stops, Moment, Fetch, FetchDoes, came_string, Does, Step}
use Rattle.link.specs.Law.{Carries, accepting, numbered_on, reads_by, ticked}
use Rattle.model.specs.Model.{Tel, Syncs}
use Rattle.model.specs.Model as model
use Rattle.link.proofs.Deeds.{kind_of, tel_of, tel, silent_deed, tick_deed, start_deed, first_deed, up_deed, fetch_deed, took_deed, stop_deed, seat_deed, deed_of}
use Rattle.link.proofs.Reading.{Taken, FirstSpot, UpSpot, content_of, takes_is, starts_is}
use Rattle.link.proofs.Fetching.{told}
use Rattle.link.proofs.Apart.{none_some}

-- what a fetch took is bytes
pub took_bytes : (m : Moment) (t : Fetch m) (x : List ℕ) → m.took ≡ Some x → Bytes x
took_bytes m t x k = go (fetch_refusal t.e m.before.carrier.largest (length t.buf) (length t.out)) t.call
  where
    came : (o : Option ℕ) → m.took ≡ came_string t.buf' o → Octets t.buf' o → Bytes x
    came None p b = none_some x (sym p ∙ k)
    came (Some n) p b = let same : take n t.buf' ≡ x = cc in subst Bytes same b.0

    go : (o : Option Refusal) → FetchDoes o m t.e t.e' t.buf t.buf' t.out t.out' → Bytes x
    go (Some y) d = none_some x (sym d.1 ∙ k)
    go None d = came d.0.came d.1 d.0.octets

-- an end that accepts a synchronising telegram
pub record Synced (e : EndValue) (x : List ℕ) (f : Tel) : Type 0 where
  pub telegram : TelegramValue
  pub carries : Carries x telegram
  pub told : f ≡ tel_of telegram
  pub word : ℕ
  pub reads : reads_by e e.state ≡ Some word
  pub bears : Bears word x
  pub accepts : accepting e.state (fetch_way e x) ≡ true
  pub form : ((e.role ≡ Initiator) × (status_of e.state ≡ status.WaitEc))
      ⊎ ((status_of e.state ≡ status.WaitFirst) ⊎ ((status_of e.state ≡ status.Up) × (content_type telegram.content ≡ 0x88)))

numbered_ack : (st : State) → numbered_on st exchange.Ack ≡ true
numbered_ack st = refl

first_numbered : (words : Words) (last : SequenceNumber) (synced : ExecutionCycle) (kind : Exchange) → numbered_on (state.WaitFirst words last synced) kind ≡ true
first_numbered words last synced exchange.Am = refl
first_numbered words last synced exchange.Req = refl
first_numbered words last synced exchange.Ack = refl

module _ (e : EndValue) (x : List ℕ) (b : Bytes x) (f : Tel) where
  start_synced : (r : Role) (sn : SequenceNumber) (ec : ExecutionCycle) → e.role ≡ r → fetch_way e x ≡ fetch.Starts sn ec → Syncs f (start_deed r (tel model.start sn ec)) → Synced e x f
  start_synced Initiator sn ec k w z =
      let s = starts_is e x sn ec b w in
      record {
        telegram = s.telegram;
        carries = s.carries;
        told = z ∙ sym (told s.telegram _ sn ec s.content s.sn_is s.ec_is);
        word = s.words.read.0;
        reads = ap (reads_by e) s.state_is;
        bears = s.bears;
        accepts = ap (accepting e.state) w;
        form = inl (k, ap status_of s.state_is);
      }
  start_synced Responder sn ec k w z = absurd z

  -- a telegram taken in a state st, by whose word the end reads
  taken_synced : (kind : Exchange) (sn : SequenceNumber) (ec : ExecutionCycle) (t : Taken e x kind sn ec) (words : Words) (st : State)
      → e.state ≡ st → reads_by e st ≡ Some words.read.0 → Bears words.read.0 x → accepting e.state (fetch_way e x) ≡ true
      → (status_of e.state ≡ status.WaitFirst) ⊎ ((status_of e.state ≡ status.Up) × (content_type t.telegram.content ≡ 0x88))
      → f ≡ tel (kind_of (content_of kind t.message)) sn ec → Synced e x f
  taken_synced kind sn ec t words st is reads bears accepts form z =
      record {
        telegram = t.telegram;
        carries = t.carries;
        told = z ∙ sym (told t.telegram _ sn ec t.content t.sn_is t.ec_is);
        word = words.read.0;
        reads = ap (reads_by e) is ∙ reads;
        bears = bears;
        accepts = accepts;
        form = inr form;
      }

  first_synced : (kind : Exchange) (sn : SequenceNumber) (ec : ExecutionCycle) → fetch_way e x ≡ fetch.Takes kind sn ec → (t : Taken e x kind sn ec) → FirstSpot e x kind sn ec
      → f ≡ tel (kind_of (content_of kind t.message)) sn ec → Synced e x f
  first_synced kind sn ec w t p z =
      taken_synced kind sn ec t p.words (state.WaitFirst p.words p.last p.synced) p.state_is refl p.bears
      (ap (accepting e.state) w ∙ ap (λ st. numbered_on st kind) p.state_is ∙ first_numbered p.words p.last p.synced kind) (inl (ap status_of p.state_is)) z

  by_first : (kind : Exchange) (sn : SequenceNumber) (ec : ExecutionCycle) → fetch_way e x ≡ fetch.Takes kind sn ec → (t : Taken e x kind sn ec) → FirstSpot e x kind sn ec
      → Syncs f (first_deed kind sn ec) → Synced e x f
  by_first exchange.Am sn ec w t p z = first_synced exchange.Am sn ec w t p z
  by_first exchange.Req sn ec w t p z = first_synced exchange.Req sn ec w t p z
  by_first exchange.Ack sn ec w t p z = absurd z

  req_none : (sent : SequenceNumber) (sn : SequenceNumber) (ec : ExecutionCycle) → Syncs f (up_deed sent exchange.Req sn ec) → ⊥
  req_none sent sn ec = cond_both (eqb sent.0 greatest) _ _ (λ d. Syncs f d → ⊥) (λ _ z. z) (λ _ z. z)

  by_up : (kind : Exchange) (sn : SequenceNumber) (ec : ExecutionCycle) → fetch_way e x ≡ fetch.Takes kind sn ec → (t : Taken e x kind sn ec) → (p : UpSpot e x kind sn ec)
      → Syncs f (up_deed p.sent kind sn ec) → Synced e x f
  by_up exchange.Am sn ec w t p z = absurd z
  by_up exchange.Req sn ec w t p z = absurd (req_none p.sent sn ec z)
  by_up exchange.Ack sn ec w t p z =
      taken_synced exchange.Ack sn ec t p.words (state.Up p.words p.sent p.last p.synced) p.state_is refl p.bears (ap (accepting e.state) w)
      (inr (ap status_of p.state_is, ap content_type t.content)) z

  way_synced : (way : FetchWay) → fetch_way e x ≡ way → Syncs f (fetch_deed e.role e.state way) → Synced e x f
  way_synced fetch.Drops w z = absurd z
  way_synced (fetch.LeftByFar codes) w z = absurd z
  way_synced (fetch.Releases r) w z = absurd z
  way_synced (fetch.AnswersAu1 rb) w z = absurd z
  way_synced (fetch.AnswersAu2 ra) w z = absurd z
  way_synced (fetch.AnswersAu3 rc) w z = absurd z
  way_synced fetch.AnswersAr w z = absurd z
  way_synced (fetch.Starts sn ec) w z = start_synced e.role sn ec refl w z
  way_synced (fetch.Takes kind sn ec) w z =
      let t = takes_is e x kind sn ec b w in
      ⊎_elim
      (λ p. by_first kind sn ec w t p (subst (λ st. Syncs f (fetch_deed e.role st (fetch.Takes kind sn ec))) p.state_is z))
      (λ p. by_up kind sn ec w t p (subst (λ st. Syncs f (fetch_deed e.role st (fetch.Takes kind sn ec))) p.state_is z))
      t.spot

-- a tick synchronises nothing
silent_none : (f : Tel) (r : Role) (st : State) → Syncs f (silent_deed r st) → ⊥
silent_none f r (state.WaitAu2 rb rc) z = z
silent_none f r (state.WaitAr ra rb rc) z = z
silent_none f r (state.Listen ra) z = z
silent_none f r (state.WaitAu3 ra rb) z = z
silent_none f Initiator (state.WaitEc words) z = z
silent_none f Responder (state.WaitEc words) z = z
silent_none f r (state.WaitFirst words last synced) z = z
silent_none f r (state.Up words sent last synced) z = z
silent_none f r (state.Out release) z = z

tick_none : (f : Tel) (r : Role) (st : State) (way : TickWay) → Syncs f (tick_deed r st way) → ⊥
tick_none f r st tick.UsedUp z = z
tick_none f r st tick.Abandons z = z
tick_none f r st (tick.Releases x) z = z
tick_none f r st tick.Silent z = silent_none f r st z
tick_none f r st (tick.Sends true) z = z
tick_none f r st (tick.Sends false) z = z

stop_none : (f : Tel) (b : Bool) → Syncs f (stop_deed b) → ⊥
stop_none f true z = z
stop_none f false z = z

-- a call that synchronises
pub record SyncCall (m : Moment) (f : Tel) : Type 0 where
  pub deed : m.deed ≡ fetches
  pub fetch_call : Fetch m
  pub string : List ℕ
  pub took : m.took ≡ Some string
  pub synced : Synced fetch_call.e string f

took_synced : (m : Moment) (t : Fetch m) (f : Tel) (o : Option (List ℕ)) → m.deed ≡ fetches → m.took ≡ o → Syncs f (took_deed t.e o) → SyncCall m f
took_synced m t f None d k z = absurd z
took_synced m t f (Some x) d k z = record { deed = d; fetch_call = t; string = x; took = k; synced = way_synced t.e x (took_bytes m t x k) f (fetch_way t.e x) refl z }

does_synced : (sheets : Sheets) (m : Moment) (f : Tel) (d : Deed) → m.deed ≡ d → Does sheets m d → Syncs f (seat_deed m d (seat m.role m.before)) → SyncCall m f
does_synced sheets m f (opens first) k t z = absurd z
does_synced sheets m f (ticks message) k t z =
    absurd (cond_both (eqb (ticked m.answer.refused) 0) _ _ (λ d. Syncs f d → ⊥) (λ _ y. y) (λ _ y. tick_none f t.e.role t.e.state (tick_way t.e) y)
    (subst (λ o. Syncs f (seat_deed m (ticks message) o)) t.was z))
does_synced sheets m f fetches k t z = took_synced m t f m.took k refl (subst (λ o. Syncs f (seat_deed m fetches o)) t.was z)
does_synced sheets m f stops k t z = absurd (stop_none f t.held (subst (λ o. Syncs f (seat_deed m stops o)) t.was z))

pub sync_call : (sheets : Sheets) (m : Moment) (f : Tel) → Step sheets m → Syncs f (deed_of m) → SyncCall m f
sync_call sheets m f st z = does_synced sheets m f m.deed refl st.does z
