-- What a call says, apart from where its message is kept.
use Rattle.std.specs.Borrow.{Bor}
use Rattle.std.specs.Prelude.{◌≡◌, ℕ, List, [], map, Ok, Err, vec_items, codes, Result, Vec}
use Rattle.std.specs.declared.alloc.Global.{Global}
use Rattle.terms.specs.declared.failure.Failure.{Failure}
use Rattle.terms.specs.declared.failure.Failure.TheVariants.{Cause, NoMemory}
use Rattle.texts.specs.declared.fault.FileFault.{FileFault}
use Rattle.params.specs.declared.call.Action.{Action}
use Rattle.params.specs.declared.call.Action.TheVariants as action
use Rattle.params.specs.declared.call.Call.{Call}

-- the word of an action, as scripts and listings have it
abbrev pub action_word : {M : Type 0} → Action M → List ℕ
action_word (action.Tick m) = codes "tick"
action_word action.Fetch = codes "fetch"
action_word action.Stop = codes "stop"

-- a call that owns its message, and what it tells its end to do
abbrev pub OwnAction : Type 0
OwnAction = Action (Vec ℕ Global)

abbrev pub OwnCall : Type 0
OwnCall = Call (Vec ℕ Global)

-- which end does what, with which message
abbrev pub Said : Type 0
Said = Call (List ℕ)

-- the same action, its message read by f
abbrev pub carrying : {M N : Type 0} → (M → N) → Action M → Action N
carrying f (action.Tick m) = action.Tick (f m)
carrying f action.Fetch = action.Fetch
carrying f action.Stop = action.Stop

-- the same call
abbrev pub calling : {M N : Type 0} → (M → N) → Call M → Call N
calling f c = record { end = c.end; action = carrying f c.action }

-- what a call with a message of its own says
abbrev pub said : OwnCall → Said
said c = calling vec_items c

-- the message of an action; a fetch and a stop have none
abbrev pub message_of : Action (List ℕ) → List ℕ
message_of (action.Tick m) = m
message_of action.Fetch = []
message_of action.Stop = []

-- an answer, what it gives read by f; and a text behind a reference
abbrev pub giving : {T U E : Type 0} → (T → U) → Result T E → Result U E
giving f (Ok t) = Ok (f t)
giving f (Err e) = Err e

abbrev pub borrowed : Bor (List ℕ) → List ℕ
borrowed r = r.now

-- why there is no list of calls
abbrev pub ScriptError : Type 0
ScriptError = Failure FileFault

-- an answer is the one that a definition gives; for want of memory there may be none, where P holds
abbrev pub Answers : {T U : Type 0} → (T → U) → Result U FileFault → Type 0 → Result T ScriptError → Type 0
Answers f x P (Ok t) = x ≡ Ok (f t)
Answers f x P (Err (Cause e)) = x ≡ Err e
Answers f x P (Err NoMemory) = P

-- the calls in a list, each as it was said
abbrev pub all_said : Vec OwnCall Global → List Said
all_said v = map said (vec_items v)
