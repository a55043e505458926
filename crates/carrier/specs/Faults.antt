-- How a fault wire chooses what comes out.
use Rattle.std.specs.Prelude.{◌≡◌, ℕ, false, cond, List, [], ◌∷◌, length, drop, Option, Result, nat_le}
use Rattle.terms.specs.declared.role.Role.{Role}
use Rattle.terms.specs.declared.refusal.Refusal.{Refusal}
use Rattle.carrier.specs.declared.Keeping.{Keeping}
use Rattle.carrier.specs.declared.choice.Choice.{Choice}
use Rattle.carrier.specs.declared.fault.FaultWire.{FaultWire}
use Rattle.carrier.specs.Rules.{greatest_length}
use Rattle.carrier.specs.Wires.{strings_at, place_of, WirePut, WireFetch}

-- the choices that are not used up
abbrev pub to_come : FaultWire → List Choice
to_come w = w.choices.items

-- the choice for the next fetch; with none left, the oldest string, which does not stay
abbrev pub chosen_next : List Choice → Choice
chosen_next [] = record { number = 1; stays = false }
chosen_next (c ∷ cs) = c

-- a put on a fault wire: it keeps strings as any wire does, and uses up no choice
pub record FaultPut (before after : FaultWire) (from : Role) (s : List ℕ) (r : Result Keeping Refusal) : Type 0 where
  pub store : WirePut before.store after.store from s r
  pub choices : to_come after ≡ to_come before

-- a fetch at a side of a fault wire: each that is not refused uses up a choice
pub record FaultFetch (before after : FaultWire) (at : Role) (buf buf' : List ℕ) (r : Result (Option ℕ) Refusal) : Type 0 where
  pub store : WireFetch before.store after.store at (place_of (strings_at before.store at) (chosen_next (to_come before)).number) (chosen_next (to_come before)).stays buf buf' r
  pub choices : to_come after ≡ cond (nat_le greatest_length (length buf)) (drop 1 (to_come before)) (to_come before)
