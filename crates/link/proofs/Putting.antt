-- What an end puts: which of its strings carry a telegram, and which telegram.
use Rattle.std.proofs.Common.{◌≡◌, ℕ, ◌+◌, ◌^◌, ◌<◌, ◌≤◌, Bool, true, false, cond, eqb, ltb, leb, List, [], length, Some, None, Ok, Option, Result, sym, refl, ap, ◌∙◌, subst, arith}
use lib.Bits.{bit_xor}
use Rattle.std.proofs.lemmas.Bool.{eqb-false, leb-true, ltb-false, cond_both}
use Rattle.terms.specs.declared.refusal.Refusal.{Refusal}
use Rattle.terms.specs.declared.role.Role.{Role}
use Rattle.terms.specs.declared.role.Role.TheVariants.{Initiator, Responder}
use Rattle.terms.specs.declared.counters.SequenceNumber.{SequenceNumber}
use Rattle.terms.specs.declared.counters.ExecutionCycle.{ExecutionCycle}
use Rattle.safety.specs.declared.word.SafetyWord.{SafetyWord}
use Rattle.terms.specs.Numbers.{bytes}
use Rattle.terms.specs.Roles.{far}
use Rattle.codec.specs.Frames.{FrameValue, bare_di, au1, au2, au3, ar, di, dt, bytes_of, read_frame}
use Rattle.codec.specs.Sealing.{guarded, sealed, Bears}
use Rattle.codec.specs.Telegrams.{ContentValue, ec_start, am_ack, TelegramValue, content_bytes, telegram_bytes}
use Rattle.codec.specs.TelegramLaws.{Proper}
use Rattle.safety.specs.Words.{code_of}
use Rattle.codec.proofs.Judging.{writing_reads}
use Rattle.codec.proofs.TelegramTrips as trips
use Rattle.codec.proofs.Sealings.{sealed_writing, sealed_bears}
use Rattle.params.specs.declared.values.Values.{Values}
use Rattle.params.specs.Laws.{InRange}
use Rattle.states.specs.declared.reason.Reason.TheVariants as reason
use Rattle.states.specs.declared.state.Words.{Words}
use Rattle.states.specs.declared.state.State.{State}
use Rattle.states.specs.declared.state.State.TheVariants as state
use Rattle.ends.specs.declared.ways.TickWay.{TickWay}
use Rattle.ends.specs.declared.ways.TickWay.TheVariants as tick
use Rattle.ends.specs.declared.ways.Exchange.{Exchange}
use Rattle.ends.specs.declared.ways.Exchange.TheVariants as exchange
use Rattle.ends.specs.declared.ways.FetchWay.{FetchWay}
use Rattle.ends.specs.declared.ways.FetchWay.TheVariants as fetch
use Rattle.states.specs.Reasons.{reason_codes}
use Rattle.states.specs.States.{EndValue, in_up_fact}
use Rattle.ends.specs.Ways.{greatest, risen_way, up_way, tick_way}
use Rattle.ends.specs.Effects.{release_frame, risen, words_by, sent_content, tick_put, fetch_put, data_frame, sent_frame, put_au2, put_au3, put_ar, put_first_start, put_start, put_telegram, answer_first, answer_up, ack_frame, start_frame}
use Rattle.ends.specs.Calls.{said, opening_put, stop_put}
use Rattle.link.specs.Law.{Carries}
use Rattle.link.proofs.Reading.{cond_second, carries_one}
use Rattle.link.proofs.Apart.{none_some}

-- ---- a sealed telegram is carried, and no other

pub sealed_carries_it : (towards : Role) (t : TelegramValue) (word : ℕ) → t.sn < 2 ^ 32 → t.ec < 2 ^ 32 → Proper t.content
    → length (content_bytes t.content) ≤ 1023 → Carries (sealed towards (telegram_bytes t) word) t
sealed_carries_it towards t word sn ec proper short =
    let s = telegram_bytes t in
    let long = trips.length_telegram t in
    record {
      towards = towards;
      telegram = s;
      code = bytes 8 (code_of word (guarded towards s));
      frame = writing_reads _ _ (sealed_writing towards s word (omega arith) (omega arith));
      told = trips.writing_reads t s record { sn_fits = sn; ec_fits = ec; proper = proper; length_fits = short; written = refl };
    }

pub sealed_carries : (towards : Role) (t : TelegramValue) (word : ℕ) (t' : TelegramValue) → t.sn < 2 ^ 32 → t.ec < 2 ^ 32 → Proper t.content
    → length (content_bytes t.content) ≤ 1023 → Carries (sealed towards (telegram_bytes t) word) t' → t' ≡ t
sealed_carries towards t word t' sn ec proper short c =
    carries_one (sealed towards (telegram_bytes t) word) t' t c (sealed_carries_it towards t word sn ec proper short)

-- ---- no other frame carries a telegram

-- every frame but a data frame
abbrev pub NoData : FrameValue → Type 0
NoData bare_di = Unit {0}
NoData (au1 rb) = Unit {0}
NoData (au2 mix) = Unit {0}
NoData (au3 mix) = Unit {0}
NoData (ar rb) = Unit {0}
NoData (di towards codes) = Unit {0}
NoData (dt towards telegram code) = ⊥

-- what is read as another frame
read_other : (x : List ℕ) (f : FrameValue) (t : TelegramValue) → read_frame x ≡ Ok f → NoData f → Carries x t → ⊥
read_other x f t r n c =
    let both : ◌≡◌ {A = Result FrameValue Refusal} (Ok f) (Ok (dt c.towards c.telegram c.code)) = sym r ∙ c.frame in
    let same : f ≡ dt c.towards c.telegram c.code = cc in
    subst NoData same n

-- whatever their numbers: the first byte alone shows it
pub no_other : (f : FrameValue) (t : TelegramValue) → NoData f → Carries (bytes_of f) t → ⊥
no_other bare_di t n c = read_other _ bare_di t refl tt c
no_other (au1 rb) t n c = read_other (bytes_of (au1 rb)) _ t refl tt c
no_other (au2 mix) t n c = read_other (bytes_of (au2 mix)) _ t refl tt c
no_other (au3 mix) t n c = read_other (bytes_of (au3 mix)) _ t refl tt c
no_other (ar rb) t n c = read_other (bytes_of (ar rb)) _ t refl tt c
no_other (di Initiator codes) t n c = read_other _ (di Initiator codes) t refl tt c
no_other (di Responder codes) t n c = read_other _ (di Responder codes) t refl tt c
no_other (dt towards telegram code) t n c = n

-- a frame that was put
put_other : (f : FrameValue) (x : List ℕ) (t : TelegramValue) → NoData f → Some (bytes_of f) ≡ Some x → Carries x t → ⊥
put_other f x t n e c = let same : x ≡ bytes_of f = cc in no_other f t n (subst (λ s. Carries s t) same c)

pub opening_carries : (first : State) (x : List ℕ) (t : TelegramValue) → opening_put first ≡ Some x → Carries x t → ⊥
opening_carries (state.WaitAu2 rb rc) x t e c = put_other (au1 rb) x t tt e c
opening_carries (state.WaitAr ra rb rc) x t e c = none_some x e
opening_carries (state.Listen ra) x t e c = none_some x e
opening_carries (state.WaitAu3 ra rb) x t e c = none_some x e
opening_carries (state.WaitEc words) x t e c = none_some x e
opening_carries (state.WaitFirst words last synced) x t e c = none_some x e
opening_carries (state.Up words sent last synced) x t e c = none_some x e
opening_carries (state.Out release) x t e c = none_some x e

pub stop_carries : (e : EndValue) (o : Option Refusal) (x : List ℕ) (t : TelegramValue) → stop_put e o ≡ Some x → Carries x t → ⊥
stop_carries e None x t h c = put_other (di (far e.role) (reason_codes reason.Stopped)) x t tt h c
stop_carries e (Some r) x t h c = none_some x h

-- ---- data frames that an end puts

-- the counters of an end fit their fields
abbrev pub Fit : EndValue → Type 0
Fit e = (e.ec.0 ≤ 4294967295) × in_up_fact (λ sent. sent.0 ≤ 4294967295) e.state

up_fit : (e : EndValue) (words : Words) (sent last : SequenceNumber) (synced : ExecutionCycle) → Fit e → e.state ≡ state.Up words sent last synced → sent.0 ≤ 4294967295
up_fit e words sent last synced fit st = subst (in_up_fact (λ sent. sent.0 ≤ 4294967295)) st fit.1

-- the telegram of a data frame, and the word that it bears
record Data (e : EndValue) (word : SafetyWord) (sn : ℕ) (content : ContentValue) (x : List ℕ) (t : TelegramValue) : Type 0 where
  telegram_is : t ≡ record { sn = sn; ec = e.ec.0; content = content }
  bears : Bears word.0 x

put_data : (e : EndValue) (word : SafetyWord) (sn : ℕ) (content : ContentValue) (x : List ℕ) (t : TelegramValue) → sn ≤ 4294967295 → e.ec.0 ≤ 4294967295 → Proper content
    → length (content_bytes content) ≤ 1023 → Some (data_frame e word sn content) ≡ Some x → Carries x t → Data e word sn content x t
put_data e word sn content x t fits ec proper short h c =
    let same : x ≡ data_frame e word sn content = cc in
    let told : TelegramValue = record { sn = sn; ec = e.ec.0; content = content } in
    let long = trips.length_telegram told in
    record {
      telegram_is = sealed_carries (far e.role) told word.0 t (omega arith) (omega arith) proper short (subst (λ s. Carries s t) same c);
      bears = subst (Bears word.0) (sym same) (sealed_bears (far e.role) (telegram_bytes told) word.0 (omega arith) (omega arith));
    }

-- ---- ticks

-- a tick puts a telegram in up alone: the next number, the next EC, and the message
pub record TickSent (e : EndValue) (message x : List ℕ) (t : TelegramValue) : Type 0 where
  pub words : Words
  pub sent : SequenceNumber
  pub last : SequenceNumber
  pub synced : ExecutionCycle
  pub asks : Bool
  pub state_is : e.state ≡ state.Up words sent last synced
  pub way_is : tick_way e ≡ tick.Sends asks
  pub telegram_is : t ≡ record { sn = sent.0 + 1; ec = e.ec.0 + 1; content = sent_content asks (said e.values message) }
  pub bears : Bears words.write.0 x
  pub sn_room : sent.0 < 4294967295
  pub ec_room : e.ec.0 < 4294967295
  pub asks_is : asks ≡ eqb (e.count.0 + 1) e.values.ask.0
  pub awaited : e.count.0 + 1 ≤ e.values.ask.0 + e.values.wait.0

said_short : (v : Values) (message : List ℕ) → InRange v → length (said v message) ≤ 1023
said_short v message r =
    cond_both (leb (length message) v.longest) message [] (λ l. length l ≤ 1023)
    (λ h. let a = leb-true (length message) v.longest h in let b = r.longest.1 in omega arith) (λ h. omega arith)

sent_proper : (asks : Bool) (m : List ℕ) → Proper (sent_content asks m)
sent_proper true m = tt
sent_proper false m = tt

sent_short : (asks : Bool) (m : List ℕ) → length m ≤ 1023 → length (content_bytes (sent_content asks m)) ≤ 1023
sent_short true m h = h
sent_short false m h = h

record SendsUp (v : Values) (count : ℕ) (sent : SequenceNumber) (asks : Bool) : Type 0 where
  numbers_left : sent.0 ≡ 4294967295 → ⊥
  asks_is : asks ≡ eqb count v.ask.0
  awaited : count ≤ v.ask.0 + v.wait.0

sends_up : (v : Values) (count : ℕ) (sent : SequenceNumber) (asks : Bool) → up_way v count sent ≡ tick.Sends asks → SendsUp v count sent asks
sends_up v count sent asks e =
    let a = cond_second (ltb (v.ask.0 + v.wait.0) count) _ _ _ e (λ p. let z : ◌≡◌ {A = ℕ} 0 1 = cc in omega arith) in
    let b = cond_second (eqb sent.0 greatest) _ _ _ a.1 (λ p. let z : ◌≡◌ {A = ℕ} 0 1 = cc in omega arith) in
    let c = b.1 in
    record { numbers_left = eqb-false _ _ b.0; asks_is = cc; awaited = ltb-false _ _ a.0 }

tick_up : (e : EndValue) (message x : List ℕ) (t : TelegramValue) (asks : Bool) (st : State) → InRange e.values → Fit e → tick_way e ≡ tick.Sends asks → e.state ≡ st
    → sent_frame (risen e) asks (said e.values message) st ≡ Some x → Carries x t → TickSent e message x t
tick_up e message x t asks (state.WaitAu2 rb rc) r fit way is h c = none_some x h
tick_up e message x t asks (state.WaitAr ra rb rc) r fit way is h c = none_some x h
tick_up e message x t asks (state.Listen ra) r fit way is h c = none_some x h
tick_up e message x t asks (state.WaitAu3 ra rb) r fit way is h c = none_some x h
tick_up e message x t asks (state.WaitEc words) r fit way is h c = none_some x h
tick_up e message x t asks (state.WaitFirst words last synced) r fit way is h c = none_some x h
tick_up e message x t asks (state.Up words sent last synced) r fit way is h c =
    let up = up_fit e words sent last synced fit is in
    let low = fit.0 in
    let a = cond_second (eqb e.ec.0 greatest) _ _ _ way (λ p. let z : ◌≡◌ {A = ℕ} 0 1 = cc in omega arith) in
    let ec-left = eqb-false e.ec.0 greatest a.0 in
    let s = sends_up e.values (e.count.0 + 1) sent asks (subst (λ u. risen_way e.values e.role (e.count.0 + 1) u ≡ tick.Sends asks) is a.1) in
    let sn-left = s.numbers_left in
    let sn_room : sent.0 < 4294967295 = omega arith in
    let ec_room : e.ec.0 < 4294967295 = omega arith in
    let short = said_short e.values message r in
    let d = put_data (risen e) words.write (sent.0 + 1) (sent_content asks (said e.values message)) x t (omega arith) (omega arith)
    (sent_proper asks (said e.values message)) (sent_short asks (said e.values message) short) h c in
    record {
      words = words;
      sent = sent;
      last = last;
      synced = synced;
      asks = asks;
      state_is = is;
      way_is = way;
      telegram_is = d.telegram_is;
      bears = d.bears;
      sn_room = sn_room;
      ec_room = ec_room;
      asks_is = s.asks_is;
      awaited = s.awaited;
    }
tick_up e message x t asks (state.Out release) r fit way is h c = none_some x h

tick_by : (e : EndValue) (message x : List ℕ) (t : TelegramValue) (way : TickWay) → InRange e.values → Fit e → tick_way e ≡ way
    → tick_put e way (said e.values message) ≡ Some x → Carries x t → TickSent e message x t
tick_by e message x t tick.UsedUp r fit is h c = absurd (put_other (di (far e.role) (reason_codes reason.CounterUsedUp)) x t tt h c)
tick_by e message x t tick.Abandons r fit is h c = absurd (put_other bare_di x t tt h c)
tick_by e message x t (tick.Releases why) r fit is h c = absurd (put_other (di (far e.role) (reason_codes why)) x t tt h c)
tick_by e message x t tick.Silent r fit is h c = none_some x h
tick_by e message x t (tick.Sends asks) r fit is h c = tick_up e message x t asks e.state r fit is refl h c

pub tick_carries : (e : EndValue) (message x : List ℕ) (t : TelegramValue) → InRange e.values → Fit e
    → tick_put e (tick_way e) (said e.values message) ≡ Some x → Carries x t → TickSent e message x t
tick_carries e message x t r fit h c = tick_by e message x t (tick_way e) r fit refl h c

-- ---- fetches

-- ECStart of this end
abbrev pub start_telegram : EndValue → TelegramValue
start_telegram e = record { sn = 0; ec = e.ec.0; content = ec_start e.values.version e.values.period.0 }

-- an empty AM+ACK
abbrev pub ack_telegram : EndValue → ℕ → TelegramValue
ack_telegram e sn = record { sn = sn; ec = e.ec.0; content = am_ack [] }

-- ECStart for AR
pub record SentInAr (e : EndValue) (way : FetchWay) (x : List ℕ) (t : TelegramValue) : Type 0 where
  pub ra : ℕ
  pub rb : ℕ
  pub rc : ℕ
  pub state_is : e.state ≡ state.WaitAr ra rb rc
  pub way_is : way ≡ fetch.AnswersAr
  pub telegram_is : t ≡ start_telegram e
  pub bears : Bears (words_by e.values ra rc).write.0 x

-- the responder's ECStart for the initiator's
pub record SentInEc (e : EndValue) (way : FetchWay) (x : List ℕ) (t : TelegramValue) : Type 0 where
  pub words : Words
  pub sn : SequenceNumber
  pub ec : ExecutionCycle
  pub role_is : e.role ≡ Responder
  pub state_is : e.state ≡ state.WaitEc words
  pub way_is : way ≡ fetch.Starts sn ec
  pub telegram_is : t ≡ start_telegram e
  pub bears : Bears words.write.0 x

-- AM+ACK for the first telegram
pub record SentInFirst (e : EndValue) (way : FetchWay) (x : List ℕ) (t : TelegramValue) : Type 0 where
  pub words : Words
  pub last : SequenceNumber
  pub synced : ExecutionCycle
  pub sn : SequenceNumber
  pub ec : ExecutionCycle
  pub state_is : e.state ≡ state.WaitFirst words last synced
  pub way_is : way ≡ fetch.Takes exchange.Req sn ec
  pub telegram_is : t ≡ ack_telegram e 1
  pub bears : Bears words.write.0 x

-- AM+ACK for a later one, where a number is left
pub record SentInUp (e : EndValue) (way : FetchWay) (x : List ℕ) (t : TelegramValue) : Type 0 where
  pub words : Words
  pub sent : SequenceNumber
  pub last : SequenceNumber
  pub synced : ExecutionCycle
  pub sn : SequenceNumber
  pub ec : ExecutionCycle
  pub state_is : e.state ≡ state.Up words sent last synced
  pub way_is : way ≡ fetch.Takes exchange.Req sn ec
  pub left : eqb sent.0 greatest ≡ false
  pub sn_room : sent.0 < 4294967295
  pub telegram_is : t ≡ ack_telegram e (sent.0 + 1)
  pub bears : Bears words.write.0 x

-- a fetch that puts a telegram
pub data FetchSent (e : EndValue) (way : FetchWay) (x : List ℕ) (t : TelegramValue) : Type 0 where
  sent_in_ar : SentInAr e way x t → FetchSent e way x t
  sent_in_ec : SentInEc e way x t → FetchSent e way x t
  sent_in_first : SentInFirst e way x t → FetchSent e way x t
  sent_in_up : SentInUp e way x t → FetchSent e way x t

put_start_data : (e : EndValue) (word : SafetyWord) (x : List ℕ) (t : TelegramValue) → InRange e.values → Fit e → Some (start_frame e word) ≡ Some x → Carries x t
    → Data e word 0 (ec_start e.values.version e.values.period.0) x t
put_start_data e word x t r fit h c =
    let p = r.period.1 in
    put_data e word 0 (ec_start e.values.version e.values.period.0) x t (omega arith) fit.0 (omega arith) (omega arith) h c

au2_never : (rb : ℕ) (st : State) (x : List ℕ) (t : TelegramValue) → put_au2 rb st ≡ Some x → Carries x t → ⊥
au2_never rb (state.WaitAu2 a b) x t h c = none_some x h
au2_never rb (state.WaitAr ra a b) x t h c = none_some x h
au2_never rb (state.Listen ra) x t h c = put_other (au2 (bit_xor ra rb)) x t tt h c
au2_never rb (state.WaitAu3 a b) x t h c = none_some x h
au2_never rb (state.WaitEc words) x t h c = none_some x h
au2_never rb (state.WaitFirst words last synced) x t h c = none_some x h
au2_never rb (state.Up words sent last synced) x t h c = none_some x h
au2_never rb (state.Out release) x t h c = none_some x h

au3_never : (ra : ℕ) (st : State) (x : List ℕ) (t : TelegramValue) → put_au3 ra st ≡ Some x → Carries x t → ⊥
au3_never ra (state.WaitAu2 rb rc) x t h c = put_other (au3 (bit_xor ra rc)) x t tt h c
au3_never ra (state.WaitAr a rb rc) x t h c = none_some x h
au3_never ra (state.Listen a) x t h c = none_some x h
au3_never ra (state.WaitAu3 a rb) x t h c = none_some x h
au3_never ra (state.WaitEc words) x t h c = none_some x h
au3_never ra (state.WaitFirst words last synced) x t h c = none_some x h
au3_never ra (state.Up words sent last synced) x t h c = none_some x h
au3_never ra (state.Out release) x t h c = none_some x h

ar_never : (st : State) (x : List ℕ) (t : TelegramValue) → put_ar st ≡ Some x → Carries x t → ⊥
ar_never (state.WaitAu2 rb rc) x t h c = none_some x h
ar_never (state.WaitAr ra rb rc) x t h c = none_some x h
ar_never (state.Listen ra) x t h c = none_some x h
ar_never (state.WaitAu3 ra rb) x t h c = put_other (ar rb) x t tt h c
ar_never (state.WaitEc words) x t h c = none_some x h
ar_never (state.WaitFirst words last synced) x t h c = none_some x h
ar_never (state.Up words sent last synced) x t h c = none_some x h
ar_never (state.Out release) x t h c = none_some x h

put_in_ar : (e : EndValue) (st : State) (x : List ℕ) (t : TelegramValue) → InRange e.values → Fit e → e.state ≡ st → put_first_start e st ≡ Some x → Carries x t
    → SentInAr e fetch.AnswersAr x t
put_in_ar e (state.WaitAu2 rb rc) x t r fit is h c = none_some x h
put_in_ar e (state.WaitAr ra rb rc) x t r fit is h c =
    let d = put_start_data e (words_by e.values ra rc).write x t r fit h c in
    record { ra = ra; rb = rb; rc = rc; state_is = is; way_is = refl; telegram_is = d.telegram_is; bears = d.bears }
put_in_ar e (state.Listen ra) x t r fit is h c = none_some x h
put_in_ar e (state.WaitAu3 ra rb) x t r fit is h c = none_some x h
put_in_ar e (state.WaitEc words) x t r fit is h c = none_some x h
put_in_ar e (state.WaitFirst words last synced) x t r fit is h c = none_some x h
put_in_ar e (state.Up words sent last synced) x t r fit is h c = none_some x h
put_in_ar e (state.Out release) x t r fit is h c = none_some x h

put_in_ec : (e : EndValue) (role : Role) (st : State) (sn : SequenceNumber) (ec : ExecutionCycle) (x : List ℕ) (t : TelegramValue) → InRange e.values → Fit e → e.role ≡ role
    → e.state ≡ st → put_start e role st ≡ Some x → Carries x t → SentInEc e (fetch.Starts sn ec) x t
put_in_ec e Initiator st sn ec x t r fit who is h c = none_some x h
put_in_ec e Responder (state.WaitAu2 rb rc) sn ec x t r fit who is h c = none_some x h
put_in_ec e Responder (state.WaitAr ra rb rc) sn ec x t r fit who is h c = none_some x h
put_in_ec e Responder (state.Listen ra) sn ec x t r fit who is h c = none_some x h
put_in_ec e Responder (state.WaitAu3 ra rb) sn ec x t r fit who is h c = none_some x h
put_in_ec e Responder (state.WaitEc words) sn ec x t r fit who is h c =
    let d = put_start_data e words.write x t r fit h c in
    record { words = words; sn = sn; ec = ec; role_is = who; state_is = is; way_is = refl; telegram_is = d.telegram_is; bears = d.bears }
put_in_ec e Responder (state.WaitFirst words last synced) sn ec x t r fit who is h c = none_some x h
put_in_ec e Responder (state.Up words sent last synced) sn ec x t r fit who is h c = none_some x h
put_in_ec e Responder (state.Out release) sn ec x t r fit who is h c = none_some x h

put_in_first : (e : EndValue) (words : Words) (last : SequenceNumber) (synced : ExecutionCycle) (kind : Exchange) (sn : SequenceNumber) (ec : ExecutionCycle) (x : List ℕ) (t : TelegramValue)
    → Fit e → e.state ≡ state.WaitFirst words last synced → answer_first e words.write kind ≡ Some x → Carries x t → SentInFirst e (fetch.Takes kind sn ec) x t
put_in_first e words last synced exchange.Am sn ec x t fit is h c = none_some x h
put_in_first e words last synced exchange.Req sn ec x t fit is h c =
    let d = put_data e words.write 1 (am_ack []) x t (omega arith) fit.0 tt (omega arith) h c in
    record { words = words; last = last; synced = synced; sn = sn; ec = ec; state_is = is; way_is = refl; telegram_is = d.telegram_is; bears = d.bears }
put_in_first e words last synced exchange.Ack sn ec x t fit is h c = none_some x h

put_in_up : (e : EndValue) (words : Words) (sent last : SequenceNumber) (synced : ExecutionCycle) (kind : Exchange) (sn : SequenceNumber) (ec : ExecutionCycle) (x : List ℕ) (t : TelegramValue)
    → Fit e → e.state ≡ state.Up words sent last synced → answer_up e words.write sent kind ≡ Some x → Carries x t → SentInUp e (fetch.Takes kind sn ec) x t
put_in_up e words sent last synced exchange.Am sn ec x t fit is h c = none_some x h
put_in_up e words sent last synced exchange.Req sn ec x t fit is h c =
    let up = up_fit e words sent last synced fit is in
    let same : cond (eqb sent.0 greatest) (release_frame e reason.CounterUsedUp) (ack_frame e words.write (sent.0 + 1)) ≡ x = cc in
    let b = cond_second (eqb sent.0 greatest) _ _ _ same (λ p. put_other (di (far e.role) (reason_codes reason.CounterUsedUp)) x t tt (ap Some p) c) in
    let sn-left = eqb-false sent.0 greatest b.0 in
    let sn_room : sent.0 < 4294967295 = omega arith in
    let d = put_data e words.write (sent.0 + 1) (am_ack []) x t (omega arith) fit.0 tt (omega arith) (ap Some b.1) c in
    record {
      words = words;
      sent = sent;
      last = last;
      synced = synced;
      sn = sn;
      ec = ec;
      state_is = is;
      way_is = refl;
      left = b.0;
      sn_room = sn_room;
      telegram_is = d.telegram_is;
      bears = d.bears;
    }
put_in_up e words sent last synced exchange.Ack sn ec x t fit is h c = none_some x h

put_answer : (e : EndValue) (kind : Exchange) (st : State) (sn : SequenceNumber) (ec : ExecutionCycle) (x : List ℕ) (t : TelegramValue) → Fit e → e.state ≡ st
    → put_telegram e kind st ≡ Some x → Carries x t → FetchSent e (fetch.Takes kind sn ec) x t
put_answer e kind (state.WaitAu2 rb rc) sn ec x t fit is h c = none_some x h
put_answer e kind (state.WaitAr ra rb rc) sn ec x t fit is h c = none_some x h
put_answer e kind (state.Listen ra) sn ec x t fit is h c = none_some x h
put_answer e kind (state.WaitAu3 ra rb) sn ec x t fit is h c = none_some x h
put_answer e kind (state.WaitEc words) sn ec x t fit is h c = none_some x h
put_answer e kind (state.WaitFirst words last synced) sn ec x t fit is h c = sent_in_first (put_in_first e words last synced kind sn ec x t fit is h c)
put_answer e kind (state.Up words sent last synced) sn ec x t fit is h c = sent_in_up (put_in_up e words sent last synced kind sn ec x t fit is h c)
put_answer e kind (state.Out release) sn ec x t fit is h c = none_some x h

pub fetch_carries : (e : EndValue) (way : FetchWay) (x : List ℕ) (t : TelegramValue) → InRange e.values → Fit e → fetch_put e way ≡ Some x → Carries x t → FetchSent e way x t
fetch_carries e fetch.Drops x t r fit h c = none_some x h
fetch_carries e (fetch.LeftByFar codes) x t r fit h c = none_some x h
fetch_carries e (fetch.Releases why) x t r fit h c = absurd (put_other (di (far e.role) (reason_codes why)) x t tt h c)
fetch_carries e (fetch.AnswersAu1 rb) x t r fit h c = absurd (au2_never rb e.state x t h c)
fetch_carries e (fetch.AnswersAu2 ra) x t r fit h c = absurd (au3_never ra e.state x t h c)
fetch_carries e (fetch.AnswersAu3 rc) x t r fit h c = absurd (ar_never e.state x t h c)
fetch_carries e fetch.AnswersAr x t r fit h c = sent_in_ar (put_in_ar e e.state x t r fit refl h c)
fetch_carries e (fetch.Starts sn ec) x t r fit h c = sent_in_ec (put_in_ec e e.role e.state sn ec x t r fit refl refl h c)
fetch_carries e (fetch.Takes kind sn ec) x t r fit h c = put_answer e kind e.state sn ec x t fit refl h c
