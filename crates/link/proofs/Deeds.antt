-- Each call as a deed of the model: which end did what.
use Rattle.std.proofs.Common.{ℕ, Bool, true, false, cond, eqb, List, Some, None, Option}
use Rattle.terms.specs.declared.role.Role.{Role}
use Rattle.terms.specs.declared.role.Role.TheVariants.{Initiator, Responder}
use Rattle.terms.specs.declared.counters.SequenceNumber.{SequenceNumber}
use Rattle.terms.specs.declared.counters.ExecutionCycle.{ExecutionCycle}
use Rattle.codec.specs.Telegrams.{ContentValue, ec_start, am, am_req, am_ack, other, TelegramValue}
use Rattle.states.specs.declared.state.State.{State}
use Rattle.states.specs.declared.state.State.TheVariants as state
use Rattle.ends.specs.declared.ways.TickWay.{TickWay}
use Rattle.ends.specs.declared.ways.TickWay.TheVariants as tick
use Rattle.ends.specs.declared.ways.Exchange.{Exchange}
use Rattle.ends.specs.declared.ways.Exchange.TheVariants as exchange
use Rattle.ends.specs.declared.ways.FetchWay.{FetchWay}
use Rattle.ends.specs.declared.ways.FetchWay.TheVariants as fetch
use Rattle.states.specs.States.{EndValue, in_first, in_up}
use Rattle.ends.specs.Ways.{greatest, tick_way, fetch_way}
use Rattle.link.specs.Runs.{SeatValue, seat, Deed, opens, ticks, fetches, stops, Moment}
use Rattle.link.specs.Law.{ticked}
use Rattle.model.specs.Model.{Who, here, there, Kind, Tel}
use Rattle.model.specs.Model as model

-- the model's words for a telegram
abbrev pub kind_of : ContentValue → Kind
kind_of (ec_start version period) = model.start
kind_of (am message) = model.am
kind_of (am_req message) = model.req
kind_of (am_ack message) = model.ack
kind_of (other type-byte body) = model.am

abbrev pub tel_of : TelegramValue → Tel
tel_of t = record { kind = kind_of t.content; sn = t.sn; ec = t.ec }

abbrev pub tel : Kind → SequenceNumber → ExecutionCycle → Tel
tel kind sn ec = record { kind = kind; sn = sn.0; ec = ec.0 }

-- the receiver, or the other end
abbrev pub who : Role → Role → Who
who Initiator Initiator = here
who Initiator Responder = there
who Responder Initiator = there
who Responder Responder = here

-- a tick that puts nothing
abbrev pub silent_deed : Role → State → model.Deed
silent_deed role (state.WaitAu2 rb rc) = model.drifts 1
silent_deed role (state.WaitAr ra rb rc) = model.drifts 1
silent_deed role (state.Listen ra) = model.drifts 1
silent_deed role (state.WaitAu3 ra rb) = model.drifts 1
silent_deed Initiator (state.WaitEc words) = model.waits
silent_deed Responder (state.WaitEc words) = model.drifts 1
silent_deed role (state.WaitFirst words last synced) = model.waits
silent_deed role (state.Up words sent last synced) = model.leaves 1
silent_deed role (state.Out release) = model.leaves 1

abbrev pub tick_deed : Role → State → TickWay → model.Deed
tick_deed role st tick.UsedUp = model.leaves 1
tick_deed role st tick.Abandons = model.leaves 1
tick_deed role st (tick.Releases r) = model.leaves 1
tick_deed role st tick.Silent = silent_deed role st
tick_deed role st (tick.Sends asks) = cond asks model.asks model.plain

-- by whether the tick went on
abbrev pub ticked_deed : EndValue → ℕ → model.Deed
ticked_deed e n = cond (eqb n 0) model.idle (tick_deed e.role e.state (tick_way e))

abbrev pub start_deed : Role → Tel → model.Deed
start_deed Initiator f = model.opens f
start_deed Responder f = model.replies f

abbrev pub first_deed : Exchange → SequenceNumber → ExecutionCycle → model.Deed
first_deed exchange.Am sn ec = model.firsts (tel model.am sn ec)
first_deed exchange.Req sn ec = model.first_answers (tel model.req sn ec)
first_deed exchange.Ack sn ec = model.idle

abbrev pub up_deed : SequenceNumber → Exchange → SequenceNumber → ExecutionCycle → model.Deed
up_deed sent exchange.Am sn ec = model.takes (tel model.am sn ec)
up_deed sent exchange.Req sn ec = cond (eqb sent.0 greatest) (model.parts (tel model.req sn ec)) (model.answers (tel model.req sn ec))
up_deed sent exchange.Ack sn ec = model.renews (tel model.ack sn ec)

abbrev pub fetch_deed : Role → State → FetchWay → model.Deed
fetch_deed role st fetch.Drops = model.idle
fetch_deed role st (fetch.LeftByFar codes) = model.leaves 0
fetch_deed role st (fetch.Releases r) = model.leaves 0
fetch_deed role st (fetch.AnswersAu1 rb) = model.drifts 0
fetch_deed role st (fetch.AnswersAu2 ra) = model.drifts 0
fetch_deed role st (fetch.AnswersAu3 rc) = model.drifts 0
fetch_deed role st fetch.AnswersAr = model.begins
fetch_deed role st (fetch.Starts sn ec) = start_deed role (tel model.start sn ec)
fetch_deed role st (fetch.Takes kind sn ec) =
    in_first (λ words last synced. first_deed kind sn ec) (in_up (λ words sent last synced. up_deed sent kind sn ec) model.idle st) st

abbrev pub took_deed : EndValue → Option (List ℕ) → model.Deed
took_deed e None = model.idle
took_deed e (Some x) = fetch_deed e.role e.state (fetch_way e x)

-- the first stop
abbrev pub stop_deed : Bool → model.Deed
stop_deed true = model.leaves 0
stop_deed false = model.idle

abbrev pub seat_deed : Moment → Deed → Option SeatValue → model.Deed
seat_deed m (opens first) o = model.idle
seat_deed m (ticks message) None = model.idle
seat_deed m (ticks message) (Some v) = ticked_deed v.end (ticked m.answer.refused)
seat_deed m fetches None = model.idle
seat_deed m fetches (Some v) = took_deed v.end m.took
seat_deed m stops None = model.idle
seat_deed m stops (Some v) = stop_deed v.held

abbrev pub deed_of : Moment → model.Deed
deed_of m = seat_deed m m.deed (seat m.role m.before)
