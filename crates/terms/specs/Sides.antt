-- One of a kind for each party.
use Rattle.std.specs.Borrow.{Fml, Lends, MutBor, RattleType}
use Rattle.terms.specs.contracts.sides.Sides.{the_row}
use Rattle.terms.specs.declared.role.Role.{Role}
use Rattle.terms.specs.declared.role.Role.TheVariants.{Initiator, Responder}
use Rattle.terms.specs.declared.sides.Sides.{Sides}

-- what a party has
abbrev pub at : {T : Type 0} → Sides T → Role → T
at s Initiator = s.initiator
at s Responder = s.responder

-- the same with x for that party
abbrev pub with_side : {T : Type 0} → Sides T → Role → T → Sides T
with_side s Initiator x = record { initiator = x; responder = s.responder }
with_side s Responder x = record { initiator = s.initiator; responder = x }

-- once the borrow r ends, the party has what was last written through r, and the other has what it had
abbrev pub LendsSide : (R : RattleType) → MutBor (Sides R.Denot) → Role → MutBor R.Denot → Fml
LendsSide R s side r = Lends (the_row R) R s r (with_side s.now side)
