-- What each rule does to an end, and the frame that it puts.
use Rattle.std.specs.Prelude.{ℕ, ◌+◌, ◌-◌, ◌<◌, Bool, cond, List, [], Some, None, Option, ◌==◌, bit_xor, nat_lt}
use Rattle.terms.specs.declared.role.Role.{Role}
use Rattle.terms.specs.declared.role.Role.TheVariants.{Initiator, Responder}
use Rattle.terms.specs.declared.counters.SequenceNumber.{SequenceNumber}
use Rattle.terms.specs.declared.counters.ExecutionCycle.{ExecutionCycle}
use Rattle.safety.specs.declared.word.SafetyWord.{SafetyWord}
use Rattle.terms.specs.Roles.{far}
use Rattle.codec.specs.Frames.{au2, au3, ar, di, bytes_of}
use Rattle.codec.specs.Sealing.{sealed}
use Rattle.codec.specs.Telegrams.{ContentValue, ec_start, am, am_req, am_ack, telegram_bytes}
use Rattle.safety.specs.Words.{connection_word}
use Rattle.params.specs.declared.values.Values.{Values}
use Rattle.ends.specs.declared.answer.Place.{Place}
use Rattle.states.specs.declared.reason.Reason.{Reason}
use Rattle.states.specs.declared.reason.Reason.TheVariants as reason
use Rattle.states.specs.declared.reason.Release.TheVariants.{Own, Far}
use Rattle.states.specs.declared.state.State.{State}
use Rattle.states.specs.declared.state.State.TheVariants as state
use Rattle.states.specs.declared.state.Words.{Words}
use Rattle.ends.specs.declared.ways.TickWay.{TickWay}
use Rattle.ends.specs.declared.ways.TickWay.TheVariants as tick
use Rattle.ends.specs.declared.ways.Exchange.{Exchange}
use Rattle.ends.specs.declared.ways.Exchange.TheVariants as exchange
use Rattle.ends.specs.declared.ways.FetchWay.{FetchWay}
use Rattle.ends.specs.declared.ways.FetchWay.TheVariants as fetch
use Rattle.states.specs.Reasons.{reason_codes}
use Rattle.states.specs.States.{EndValue, in_wait_au2, in_wait_ar, in_listen, in_wait_au3, in_wait_ec, in_first, in_up, in_up_fact}
use Rattle.ends.specs.Ways.{greatest}

-- Ends:

-- in another state, the count as it was
abbrev pub in_state : EndValue → State → EndValue
in_state e st = record { values = e.values; role = e.role; ec = e.ec; count = e.count; state = st }

-- in another state, the count from 0
abbrev pub restarted : EndValue → State → EndValue
restarted e st = record { values = e.values; role = e.role; ec = e.ec; count = record { 0 = 0 }; state = st }

-- EC and count one more
abbrev pub risen : EndValue → EndValue
risen e = record { values = e.values; role = e.role; ec = record { 0 = e.ec.0 + 1 }; count = record { 0 = e.count.0 + 1 }; state = e.state }

abbrev pub released : EndValue → Reason → EndValue
released e r = in_state e (state.Out (Own r))

abbrev pub number : ℕ → SequenceNumber
number n = record { 0 = n }

-- the words of both ends: each reads by its own identifier and the far end's session number, and seals with the far identifier and its own
abbrev pub words_by : Values → ℕ → ℕ → Words
words_by v theirs mine = record { read = record { 0 = connection_word v.own theirs }; write = record { 0 = connection_word v.far mine } }

-- Frames:

-- a release, with its codes
abbrev pub release_frame : EndValue → Reason → List ℕ
release_frame e r = bytes_of (di (far e.role) (reason_codes r))

-- a data frame towards the far end
abbrev pub data_frame : EndValue → SafetyWord → ℕ → ContentValue → List ℕ
data_frame e word sn content = sealed (far e.role) (telegram_bytes record { sn = sn; ec = e.ec.0; content = content }) word.0

-- ECStart has SN 0
abbrev pub start_frame : EndValue → SafetyWord → List ℕ
start_frame e word = data_frame e word 0 (ec_start e.values.version e.values.period.0)

-- an empty AM+ACK
abbrev pub ack_frame : EndValue → SafetyWord → ℕ → List ℕ
ack_frame e word sn = data_frame e word sn (am_ack [])

-- Ticks:

-- there is a number for the next data frame
abbrev pub Numbered : State → Type 0
Numbered st = in_up_fact (λ sent. sent.0 < greatest) st

-- a way that sends finds it
abbrev pub SendsRoom : State → TickWay → Type 0
SendsRoom st (tick.Sends asks) = Numbered st
SendsRoom st _ = Unit {0}

-- a tick that raises EC finds a next value, and one that sends a next number
abbrev pub Room : EndValue → TickWay → Type 0
Room e tick.UsedUp = Unit {0}
Room e tick.Abandons = e.ec.0 < greatest
Room e (tick.Releases r) = e.ec.0 < greatest
Room e tick.Silent = e.ec.0 < greatest
Room e (tick.Sends asks) = (e.ec.0 < greatest) × Numbered e.state

-- a data frame more was put
abbrev pub one_more : State → State
one_more st = in_up (λ words sent last synced. state.Up words (number (sent.0 + 1)) last synced) st st

abbrev pub after_tick : EndValue → TickWay → EndValue
after_tick e tick.UsedUp = released e reason.CounterUsedUp
after_tick e tick.Abandons = released (risen e) reason.SetupTimeout
after_tick e (tick.Releases r) = released (risen e) r
after_tick e tick.Silent = risen e
after_tick e (tick.Sends asks) = in_state (risen e) (one_more e.state)

-- AM, or AM+REQ
abbrev pub sent_content : Bool → List ℕ → ContentValue
sent_content asks message = cond asks (am_req message) (am message)

-- the telegram of a tick, which an end in up puts
abbrev pub sent_frame : EndValue → Bool → List ℕ → State → Option (List ℕ)
sent_frame e asks message st = in_up (λ words sent last synced. Some (data_frame e words.write (sent.0 + 1) (sent_content asks message))) None st

abbrev pub tick_put : EndValue → TickWay → List ℕ → Option (List ℕ)
tick_put e tick.UsedUp message = Some (release_frame e reason.CounterUsedUp)
tick_put e tick.Abandons message = Some []
tick_put e (tick.Releases r) message = Some (release_frame e r)
tick_put e tick.Silent message = None
tick_put e (tick.Sends asks) message = sent_frame (risen e) asks message e.state

-- Fetches:

-- the responder has heard AU1
abbrev pub heard_au1 : ℕ → State → State
heard_au1 rb st = in_listen (λ ra. state.WaitAu3 ra rb) st st

-- the initiator has worked out Ra
abbrev pub heard_au2 : ℕ → State → State
heard_au2 ra st = in_wait_au2 (λ rb rc. state.WaitAr ra rb rc) st st

-- the responder has worked out Rc
abbrev pub heard_au3 : Values → ℕ → State → State
heard_au3 v rc st = in_wait_au3 (λ ra rb. state.WaitEc (words_by v rc ra)) st st

-- the initiator has put ECStart
abbrev pub heard_ar : EndValue → State → EndValue
heard_ar e st = in_wait_ar (λ ra rb rc. restarted e (state.WaitEc (words_by e.values ra rc))) e st

-- ECStart brings the initiator up; the responder has put its own
abbrev pub started : Role → Words → SequenceNumber → ExecutionCycle → State
started Initiator words sn ec = state.Up words (number 0) sn ec
started Responder words sn ec = state.WaitFirst words sn ec

abbrev pub heard_start : EndValue → SequenceNumber → ExecutionCycle → State → EndValue
heard_start e sn ec st = in_wait_ec (λ words. restarted e (started e.role words sn ec)) e st

-- an AM+ACK goes out for AM+REQ
abbrev pub after_first : Exchange → ℕ
after_first exchange.Req = 1
after_first _ = 0

-- accepted in up: AM+ACK sets the expectation; AM+REQ is answered, or has no number left for that
abbrev pub taken_up : EndValue → Words → SequenceNumber → ExecutionCycle → SequenceNumber → ExecutionCycle → Exchange → EndValue
taken_up e words sent synced sn ec exchange.Am = in_state e (state.Up words sent sn synced)
taken_up e words sent synced sn ec exchange.Req =
    cond (sent.0 == greatest) (released e reason.CounterUsedUp) (in_state e (state.Up words (number (sent.0 + 1)) sn synced))
taken_up e words sent synced sn ec exchange.Ack = restarted e (state.Up words sent sn ec)

abbrev pub heard_telegram : EndValue → Exchange → SequenceNumber → ExecutionCycle → State → EndValue
heard_telegram e kind sn ec st =
    in_first (λ words last synced. restarted e (state.Up words (number (after_first kind)) sn ec))
    (in_up (λ words sent last synced. taken_up e words sent synced sn ec kind) e st) st

abbrev pub after_fetch : EndValue → FetchWay → EndValue
after_fetch e fetch.Drops = e
after_fetch e (fetch.LeftByFar codes) = in_state e (state.Out (Far codes))
after_fetch e (fetch.Releases r) = released e r
after_fetch e (fetch.AnswersAu1 rb) = in_state e (heard_au1 rb e.state)
after_fetch e (fetch.AnswersAu2 ra) = in_state e (heard_au2 ra e.state)
after_fetch e (fetch.AnswersAu3 rc) = in_state e (heard_au3 e.values rc e.state)
after_fetch e fetch.AnswersAr = heard_ar e e.state
after_fetch e (fetch.Starts sn ec) = heard_start e sn ec e.state
after_fetch e (fetch.Takes kind sn ec) = heard_telegram e kind sn ec e.state

-- AM+ACK for an AM+REQ, or the release where no number is left
abbrev pub answer_up : EndValue → SafetyWord → SequenceNumber → Exchange → Option (List ℕ)
answer_up e word sent exchange.Req = Some (cond (sent.0 == greatest) (release_frame e reason.CounterUsedUp) (ack_frame e word (sent.0 + 1)))
answer_up e word sent _ = None

abbrev pub answer_first : EndValue → SafetyWord → Exchange → Option (List ℕ)
answer_first e word exchange.Req = Some (ack_frame e word 1)
answer_first e word _ = None

abbrev pub put_telegram : EndValue → Exchange → State → Option (List ℕ)
put_telegram e kind st =
    in_first (λ words last synced. answer_first e words.write kind) (in_up (λ words sent last synced. answer_up e words.write sent kind) None st) st

-- the responder answers ECStart by its own
abbrev pub put_start : EndValue → Role → State → Option (List ℕ)
put_start e Initiator st = None
put_start e Responder st = in_wait_ec (λ words. Some (start_frame e words.write)) None st

-- AU2 for AU1; AU3 for AU2; AR for AU3; ECStart for AR
abbrev pub put_au2 : ℕ → State → Option (List ℕ)
put_au2 rb st = in_listen (λ ra. Some (bytes_of (au2 (bit_xor ra rb)))) None st

abbrev pub put_au3 : ℕ → State → Option (List ℕ)
put_au3 ra st = in_wait_au2 (λ rb rc. Some (bytes_of (au3 (bit_xor ra rc)))) None st

abbrev pub put_ar : State → Option (List ℕ)
put_ar st = in_wait_au3 (λ ra rb. Some (bytes_of (ar rb))) None st

abbrev pub put_first_start : EndValue → State → Option (List ℕ)
put_first_start e st = in_wait_ar (λ ra rb rc. Some (start_frame e (words_by e.values ra rc).write)) None st

-- the frames of the opening
abbrev pub put_opening : EndValue → FetchWay → Option (List ℕ)
put_opening e (fetch.AnswersAu1 rb) = put_au2 rb e.state
put_opening e (fetch.AnswersAu2 ra) = put_au3 ra e.state
put_opening e (fetch.AnswersAu3 rc) = put_ar e.state
put_opening e _ = None

abbrev pub fetch_put : EndValue → FetchWay → Option (List ℕ)
fetch_put e fetch.Drops = None
fetch_put e (fetch.LeftByFar codes) = None
fetch_put e (fetch.Releases r) = Some (release_frame e r)
fetch_put e (fetch.AnswersAu1 rb) = put_au2 rb e.state
fetch_put e (fetch.AnswersAu2 ra) = put_au3 ra e.state
fetch_put e (fetch.AnswersAu3 rc) = put_ar e.state
fetch_put e fetch.AnswersAr = put_first_start e e.state
fetch_put e (fetch.Starts sn ec) = put_start e e.role e.state
fetch_put e (fetch.Takes kind sn ec) = put_telegram e kind e.state

-- where the message of a data frame of n bytes stands, if there is one
abbrev pub message_place : ℕ → Option Place
message_place n = cond (nat_lt 18 n) (Some record { from = 10; to = n - 8 }) None

abbrev pub delivers : FetchWay → ℕ → Option Place
delivers (fetch.Takes kind sn ec) n = message_place n
delivers _ n = None
