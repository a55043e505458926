-- What two different values would be equal for.
use Rattle.std.proofs.Common.{◌≡◌, true, false, Some, None, Option}

pub none_some : {A X : Type 0} (x : X) → ◌≡◌ {A = Option X} None (Some x) → A
none_some x h = absurd (cc)

pub false_true : {A : Type 0} → false ≡ true → A
false_true h = absurd (cc)
