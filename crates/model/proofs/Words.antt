-- The model's words for one choice of calls.
use Prim.Native.Nat.{ℕ}
use Rattle.terms.specs.declared.role.Role.{Role}
use Rattle.model.specs.Times.{History}
use Rattle.model.specs.Model.{Who, Shape, Limits, Tel, Deed, mine as model-mine, other as model-other, my_ticks as model-my-ticks, other_ticks as model-other-ticks, FromOther, FromMe, Ran, Synchronised}

-- which end a call is of, what it does there, and the two ends' first EC
pub record Calls (M : Type 0) : Type 0 where
  pub who : M → Who
  pub deed : M → Deed
  pub my_ec : ℕ
  pub other_ec : ℕ

module _ {M : Type 0} (c : Calls M) where
  abbrev pub mine : History M → Shape
  mine h = model-mine c.who c.deed c.my_ec c.other_ec h

  abbrev pub other : History M → Shape
  other h = model-other c.who c.deed c.my_ec c.other_ec h

  abbrev pub my_ticks : History M → ℕ
  my_ticks h = model-my-ticks c.who c.deed c.my_ec c.other_ec h

  abbrev pub other_ticks : History M → ℕ
  other_ticks h = model-other-ticks c.who c.deed c.my_ec c.other_ec h

  -- what the receiver may take in; what it has sent out
  abbrev pub In : Tel → History M → Type 0
  In f h = FromOther c.who c.deed c.my_ec c.other_ec f h

  abbrev pub Out : Tel → History M → Type 0
  Out f h = FromMe c.who c.deed c.my_ec c.other_ec f h

  abbrev pub Run : Role → Limits → Limits → History M → Type 0
  Run s l k h = Ran c.who c.deed c.my_ec c.other_ec s l k h

  abbrev pub Synced : History M → Type 0
  Synced h = Synchronised c.who c.deed c.my_ec c.other_ec h
