-- The three theorems, for calls that are numbers.
use Rattle.model.proofs.Laws.{order_stands, young_stands, recent_stands}
use Rattle.model.proofs.model_stands.Goals as goal

pub returns : goal.returns
returns c = record { order = λ w d a b. order_stands w d a b; young = λ w d a b. young_stands w d a b; recent = λ w d a b. recent_stands w d a b }
