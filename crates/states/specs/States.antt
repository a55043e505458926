-- An end by its values, and its states by their names.
use Rattle.std.specs.Prelude.{ℕ, List, codes}
use Rattle.terms.specs.declared.role.Role.{Role}
use Rattle.terms.specs.declared.counters.SequenceNumber.{SequenceNumber}
use Rattle.terms.specs.declared.counters.ExecutionCycle.{ExecutionCycle}
use Rattle.terms.specs.declared.counters.Ticks.{Ticks}
use Rattle.params.specs.declared.values.Values.{Values}
use Rattle.states.specs.declared.state.Words.{Words}
use Rattle.states.specs.declared.state.State.{State}
use Rattle.states.specs.declared.state.State.TheVariants as state
use Rattle.states.specs.declared.state.Status.{Status}
use Rattle.states.specs.declared.state.Status.TheVariants as status

abbrev pub status_of : State → Status
status_of (state.WaitAu2 rb rc) = status.WaitAu2
status_of (state.WaitAr ra rb rc) = status.WaitAr
status_of (state.Listen ra) = status.Listen
status_of (state.WaitAu3 ra rb) = status.WaitAu3
status_of (state.WaitEc words) = status.WaitEc
status_of (state.WaitFirst words last synced) = status.WaitFirst
status_of (state.Up words sent last synced) = status.Up
status_of (state.Out release) = status.Out release

-- What holds in one state, by what the state holds, and what in all others:

abbrev pub in_wait_au2 : {A : Type 0} → (ℕ → ℕ → A) → A → State → A
in_wait_au2 is else (state.WaitAu2 rb rc) = is rb rc
in_wait_au2 is else _ = else

abbrev pub in_wait_ar : {A : Type 0} → (ℕ → ℕ → ℕ → A) → A → State → A
in_wait_ar is else (state.WaitAr ra rb rc) = is ra rb rc
in_wait_ar is else _ = else

abbrev pub in_listen : {A : Type 0} → (ℕ → A) → A → State → A
in_listen is else (state.Listen ra) = is ra
in_listen is else _ = else

abbrev pub in_wait_au3 : {A : Type 0} → (ℕ → ℕ → A) → A → State → A
in_wait_au3 is else (state.WaitAu3 ra rb) = is ra rb
in_wait_au3 is else _ = else

abbrev pub in_wait_ec : {A : Type 0} → (Words → A) → A → State → A
in_wait_ec is else (state.WaitEc words) = is words
in_wait_ec is else _ = else

abbrev pub in_first : {A : Type 0} → (Words → SequenceNumber → ExecutionCycle → A) → A → State → A
in_first is else (state.WaitFirst words last synced) = is words last synced
in_first is else _ = else

abbrev pub in_up : {A : Type 0} → (Words → SequenceNumber → SequenceNumber → ExecutionCycle → A) → A → State → A
in_up is else (state.Up words sent last synced) = is words sent last synced
in_up is else _ = else

-- a fact of the last number put, in up
abbrev pub in_up_fact : (SequenceNumber → Type 0) → State → Type 0
in_up_fact is (state.Up words sent last synced) = is sent
in_up_fact is _ = Unit {0}

-- an end: the values of its parameter set, its role, its execution cycle, the count of its ticks, its state
pub record EndValue : Type 0 where
  pub values : Values
  pub role : Role
  pub ec : ExecutionCycle
  pub count : Ticks
  pub state : State

-- a state's name, as a listing has it
abbrev pub state_word : Status → List ℕ
state_word status.WaitAu2 = codes "waitau2"
state_word status.WaitAr = codes "waitar"
state_word status.Listen = codes "listen"
state_word status.WaitAu3 = codes "waitau3"
state_word status.WaitEc = codes "waitec"
state_word status.WaitFirst = codes "waitfirst"
state_word status.Up = codes "up"
state_word (status.Out release) = codes "out"
