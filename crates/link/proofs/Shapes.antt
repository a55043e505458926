-- An end as the model sees it.
use Rattle.std.proofs.Common.{◌≡◌, ℕ, ◌+◌, Some, None, Option}
use Rattle.terms.specs.declared.role.Role.{Role}
use Rattle.terms.specs.declared.role.Role.TheVariants.{Initiator, Responder}
use Rattle.terms.specs.declared.counters.SequenceNumber.{SequenceNumber}
use Rattle.terms.specs.declared.counters.ExecutionCycle.{ExecutionCycle}
use Rattle.params.specs.declared.values.Values.{Values}
use Rattle.states.specs.declared.state.State.{State}
use Rattle.states.specs.declared.state.State.TheVariants as state
use Rattle.states.specs.States.{EndValue}
use Rattle.link.specs.Runs.{SeatValue}
use Rattle.model.specs.Model.{Mode, Shape, Limits, Tel, Deed, after, Can, fresh}
use Rattle.model.specs.Model as model

-- in the opening
pub record Early (role : Role) (e : EndValue) (a : Shape) : Type 0 where
  pub role_is : e.role ≡ role
  pub mode : a.mode ≡ model.opening
  pub next : a.next ≡ 0
  pub floor : a.floor ≡ 0
  pub ec : a.ec ≡ e.ec.0

-- an initiator that has put ECStart
pub record Starting (e : EndValue) (a : Shape) : Type 0 where
  pub role_is : e.role ≡ Initiator
  pub mode : a.mode ≡ model.starting
  pub next : a.next ≡ 1
  pub ec : a.ec ≡ e.ec.0
  pub count : a.count ≡ e.count.0

-- a responder that awaits a first telegram
pub record Waiting (e : EndValue) (last : SequenceNumber) (synced : ExecutionCycle) (a : Shape) : Type 0 where
  pub role_is : e.role ≡ Responder
  pub mode : a.mode ≡ model.first
  pub next : a.next ≡ 1
  pub floor : a.floor ≡ last.0 + 1
  pub ec : a.ec ≡ e.ec.0
  pub count : a.count ≡ e.count.0
  pub synced_is : a.synced ≡ synced.0

pub record Running (e : EndValue) (sent last : SequenceNumber) (synced : ExecutionCycle) (a : Shape) : Type 0 where
  pub mode : a.mode ≡ model.up
  pub next : a.next ≡ sent.0 + 1
  pub floor : a.floor ≡ last.0 + 1
  pub ec : a.ec ≡ e.ec.0
  pub count : a.count ≡ e.count.0
  pub synced_is : a.synced ≡ synced.0

abbrev pub Starts : Role → EndValue → Shape → Type 0
Starts Initiator e a = Starting e a
Starts Responder e a = Early Responder e a

abbrev pub Looks : EndValue → State → Shape → Type 0
Looks e (state.WaitAu2 rb rc) a = Early Initiator e a
Looks e (state.WaitAr ra rb rc) a = Early Initiator e a
Looks e (state.Listen ra) a = Early Responder e a
Looks e (state.WaitAu3 ra rb) a = Early Responder e a
Looks e (state.WaitEc words) a = Starts e.role e a
Looks e (state.WaitFirst words last synced) a = Waiting e last synced a
Looks e (state.Up words sent last synced) a = Running e sent last synced a
Looks e (state.Out release) a = a.mode ≡ model.out

-- an end, or a side that has none yet
abbrev pub Seen : ℕ → Option SeatValue → Shape → Type 0
Seen ec None a = a ≡ fresh ec
Seen ec (Some v) a = Looks v.end v.end.state a

-- the limits of a parameter set
abbrev pub limits : Values → Limits
limits v = record { ask = v.ask.0; wait = v.wait.0; mmax = v.mmax }

-- a call of an end is a deed that its shape can do, and leads to its shape after
pub record Acts (role : Role) (v : Values) (from : Tel → Type 0) (a : Shape) (d : Deed) (e' : EndValue) : Type 0 where
  pub can : Can role (limits v) from a d
  pub looks : Looks e' e'.state (after a d)
