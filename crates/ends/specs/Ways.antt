-- Which rule applies to a tick, and to a string that was fetched.
use Rattle.std.specs.Prelude.{ℕ, ◌+◌, ◌/◌, Bool, true, false, cond, ◌&&◌, List, [], ◌∷◌, ℤ, pos, ◌-ℤ◌, Some, None, Ok, Err, Option, Result, ◌==◌, bit_xor, int_le, nat_eq, nat_le, nat_lt}
use Rattle.terms.specs.declared.refusal.Refusal.{Refusal}
use Rattle.terms.specs.declared.role.Role.{Role}
use Rattle.terms.specs.declared.role.Role.TheVariants.{Initiator, Responder}
use Rattle.terms.specs.declared.counters.SequenceNumber.{SequenceNumber}
use Rattle.terms.specs.declared.counters.ExecutionCycle.{ExecutionCycle}
use Rattle.safety.specs.declared.word.SafetyWord.{SafetyWord}
use Rattle.codec.specs.Frames.{FrameValue, bare_di, au1, au2, au3, ar, di, dt, read_frame}
use Rattle.codec.specs.Sealing.{word_in}
use Rattle.codec.specs.Telegrams.{ContentValue, ec_start, am, am_req, am_ack, other, TelegramValue, read_telegram}
use Rattle.params.specs.declared.values.Values.{Values}
use Rattle.states.specs.declared.reason.Reason.{Reason}
use Rattle.states.specs.declared.reason.Reason.TheVariants as reason
use Rattle.states.specs.declared.state.State.{State}
use Rattle.states.specs.declared.state.State.TheVariants as state
use Rattle.ends.specs.declared.ways.TickWay.{TickWay}
use Rattle.ends.specs.declared.ways.TickWay.TheVariants as tick
use Rattle.ends.specs.declared.ways.Exchange.{Exchange}
use Rattle.ends.specs.declared.ways.Exchange.TheVariants as exchange
use Rattle.ends.specs.declared.ways.FetchWay.{FetchWay}
use Rattle.ends.specs.declared.ways.FetchWay.TheVariants as fetch
use Rattle.states.specs.Reasons.{bare_codes}
use Rattle.ends.specs.Arrivals.{arrival}
use Rattle.states.specs.States.{EndValue}

-- the last value of EC, and of SN
abbrev pub greatest : ℕ
greatest = 4294967295

-- Ticks:

-- released for a reason where the count is above a limit
abbrev pub limited : ℕ → ℕ → TickWay → TickWay
limited limit count way = cond (nat_lt limit count) way tick.Silent

-- in up: no AM+ACK in time, no number left, or a telegram goes out; AM+REQ where the count is `ask`
abbrev pub up_way : Values → ℕ → SequenceNumber → TickWay
up_way v count sent =
    cond (nat_lt (v.ask.0 + v.wait.0) count) (tick.Releases reason.AckTimeout)
    (cond (sent.0 == greatest) (tick.Releases reason.CounterUsedUp)
    (tick.Sends (count == v.ask.0)))

-- the initiator's ECStart is answered within `wait`
abbrev pub start_limit : Role → ℕ → ℕ → TickWay
start_limit Initiator wait count = limited wait count (tick.Releases reason.FirstTimeout)
start_limit Responder wait count = tick.Silent

-- by state, at the count that the tick has brought
abbrev pub risen_way : Values → Role → ℕ → State → TickWay
risen_way v role count (state.WaitAu2 rb rc) = limited v.setup.0 count tick.Abandons
risen_way v role count (state.WaitAr ra rb rc) = limited v.setup.0 count (tick.Releases reason.SetupTimeout)
risen_way v role count (state.Listen ra) = tick.Silent
risen_way v role count (state.WaitAu3 ra rb) = tick.Silent
risen_way v role count (state.WaitEc words) = start_limit role v.wait.0 count
risen_way v role count (state.WaitFirst words last synced) = limited v.wait.0 count (tick.Releases reason.FirstTimeout)
risen_way v role count (state.Up words sent last synced) = up_way v count sent
risen_way v role count (state.Out release) = tick.Silent

abbrev pub tick_way : EndValue → TickWay
tick_way e = cond (e.ec.0 == greatest) tick.UsedUp (risen_way e.values e.role (e.count.0 + 1) e.state)

-- Telegrams:

-- the expectation less the telegram's EC
abbrev pub age : ℕ → ExecutionCycle → ExecutionCycle → ℤ
age count synced ec = pos (synced.0 + count) -ℤ pos ec.0

-- within `mmin` to `mmax`
abbrev pub timely : Values → ℤ → Bool
timely v a = int_le v.mmin a && int_le a (pos v.mmax)

-- the number of a telegram: old ones are dropped, those beyond the window release
abbrev pub numbered : Values → SequenceNumber → ℕ → FetchWay → FetchWay
numbered v last sn way =
    cond (nat_le sn last.0) fetch.Drops
    (cond (nat_lt (last.0 + v.window) sn) (fetch.Releases reason.BeyondWindow) way)

-- then its age

abbrev pub aged : Values → ℕ → ExecutionCycle → TelegramValue → FetchWay → FetchWay
aged v count synced t way = cond (timely v (age count synced record { 0 = t.ec })) way (fetch.Releases reason.WrongAge)

abbrev pub taken : Exchange → TelegramValue → FetchWay
taken kind t = fetch.Takes kind record { 0 = t.sn } record { 0 = t.ec }

-- AM+ACK has a place only where it is awaited
abbrev pub awaited : Bool → TelegramValue → FetchWay
awaited due t = cond due (taken exchange.Ack t) (fetch.Releases reason.Malformed)

-- a type that is none of the four: the other option's, or unknown; a wrong ECStart is judged in its place
abbrev pub stray : ℕ → FetchWay → FetchWay
stray type-byte start = cond (type-byte == 0x91) (fetch.Releases reason.OtherOption) (cond (type-byte == 0x81) start (fetch.Releases reason.Malformed))

-- in waitfirst and up; `due` says whether AM+ACK is awaited
abbrev pub exchange_way : Values → ℕ → Bool → SequenceNumber → ExecutionCycle → TelegramValue → ContentValue → FetchWay
exchange_way v count due last synced t (ec_start version period) = numbered v last t.sn (fetch.Releases reason.Malformed)
exchange_way v count due last synced t (am message) = numbered v last t.sn (aged v count synced t (taken exchange.Am t))
exchange_way v count due last synced t (am_req message) = numbered v last t.sn (aged v count synced t (taken exchange.Req t))
exchange_way v count due last synced t (am_ack message) = numbered v last t.sn (aged v count synced t (awaited due t))
exchange_way v count due last synced t (other type-byte body) = stray type-byte (numbered v last t.sn (fetch.Releases reason.Malformed))

-- in waitec: version, then period
abbrev pub start_way : Values → TelegramValue → ContentValue → FetchWay
start_way v t (ec_start version period) =
    cond (version == v.version)
    (cond (period == v.period.0) (fetch.Starts record { 0 = t.sn } record { 0 = t.ec }) (fetch.Releases reason.WrongPeriod))
    (fetch.Releases reason.WrongVersion)
start_way v t (other type-byte body) = stray type-byte (fetch.Releases reason.Malformed)
start_way v t _ = fetch.Releases reason.Malformed

abbrev pub telegram_way : Values → ℕ → State → TelegramValue → FetchWay
telegram_way v count (state.WaitEc words) t = start_way v t t.content
telegram_way v count (state.WaitFirst words last synced) t = exchange_way v count false last synced t t.content
telegram_way v count (state.Up words sent last synced) t = exchange_way v count (nat_le v.ask.0 count) last synced t t.content
telegram_way v count _ t = fetch.Drops

abbrev pub read_way : Values → ℕ → State → Result TelegramValue Refusal → FetchWay
read_way v count st (Ok t) = telegram_way v count st t
read_way v count st (Err e) = fetch.Drops

-- Frames:

-- whether a string bears a word
abbrev pub same_word : SafetyWord → Option SafetyWord → Bool
same_word word None = false
same_word word (Some w) = w.0 == word.0

-- a data frame whose code is wrong under the word is dropped
abbrev pub data_way : Values → ℕ → State → SafetyWord → List ℕ → List ℕ → FetchWay
data_way v count st word s telegram = cond (same_word word (word_in (read_frame s))) (read_way v count st (read_telegram telegram)) fetch.Drops

-- once the data exchange has begun: only data frames
abbrev pub later_way : Values → ℕ → State → SafetyWord → List ℕ → FrameValue → FetchWay
later_way v count st word s bare_di = fetch.LeftByFar bare_codes
later_way v count st word s (di towards codes) = fetch.LeftByFar codes
later_way v count st word s (dt towards telegram code) = data_way v count st word s telegram
later_way v count st word s _ = fetch.Releases reason.UnexpectedFrame

-- before it: what each frame of the opening gets by its number, and what a data frame gets; a release has always been heard
abbrev pub on_opening : (by-au1 by-au2 by-au3 by-ar : ℕ → FetchWay) → FetchWay → FrameValue → FetchWay
on_opening by-au1 by-au2 by-au3 by-ar else bare_di = fetch.LeftByFar bare_codes
on_opening by-au1 by-au2 by-au3 by-ar else (au1 rb) = by-au1 rb
on_opening by-au1 by-au2 by-au3 by-ar else (au2 mix) = by-au2 mix
on_opening by-au1 by-au2 by-au3 by-ar else (au3 mix) = by-au3 mix
on_opening by-au1 by-au2 by-au3 by-ar else (ar rb) = by-ar rb
on_opening by-au1 by-au2 by-au3 by-ar else (di towards codes) = fetch.LeftByFar codes
on_opening by-au1 by-au2 by-au3 by-ar else (dt towards telegram code) = else

-- the table of state and arriving frame
abbrev pub frame_way : Values → ℕ → State → List ℕ → FrameValue → FetchWay
frame_way v count (state.Listen ra) s f =
    let no = λ (n : ℕ). fetch.Drops in
    on_opening (λ rb. fetch.AnswersAu1 rb) no no no fetch.Drops f
frame_way v count (state.WaitAu2 rb rc) s f =
    let no = λ (n : ℕ). fetch.Releases reason.NotAu2 in
    on_opening no (λ mix. fetch.AnswersAu2 (bit_xor mix rb)) no no (fetch.Releases reason.NotAu2) f
frame_way v count (state.WaitAu3 ra rb) s f =
    let no = λ (n : ℕ). fetch.Releases reason.NotAu3 in
    on_opening no no (λ mix. fetch.AnswersAu3 (bit_xor mix ra)) no (fetch.Releases reason.NotAu3) f
frame_way v count (state.WaitAr ra rb rc) s f =
    let no = λ (n : ℕ). fetch.Releases reason.NotAr in
    on_opening no no no (λ n. cond (n == rb) fetch.AnswersAr (fetch.Releases reason.WrongSession)) (fetch.Releases reason.NotAr) f
frame_way v count (state.WaitEc words) s f = later_way v count (state.WaitEc words) words.read s f
frame_way v count (state.WaitFirst words last synced) s f = later_way v count (state.WaitFirst words last synced) words.read s f
frame_way v count (state.Up words sent last synced) s f = later_way v count (state.Up words sent last synced) words.read s f
frame_way v count (state.Out release) s f = fetch.Drops

abbrev pub arrival_way : Values → ℕ → State → List ℕ → Result FrameValue Reason → FetchWay
arrival_way v count st s (Ok f) = frame_way v count st s f
arrival_way v count st s (Err r) = fetch.Releases r

-- in listen all but the type AU1 is dropped unread
abbrev pub heard : State → List ℕ → Bool
heard (state.Listen ra) s = elim s [ [] ↦ false | first ∷ body ↦ nat_eq (first / 2) 1 ]
heard _ s = true

abbrev pub fetch_way : EndValue → List ℕ → FetchWay
fetch_way e s =
    cond (heard e.state s)
    (arrival_way e.values e.count.0 e.state s (arrival e.role e.values.longest s))
    fetch.Drops
