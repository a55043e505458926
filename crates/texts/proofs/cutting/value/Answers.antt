use Rattle.std.proofs.Common.{eqb, refl, ◌∙◌, rules, tests}
use Rattle.std.proofs.lemmas.Iterator.Consumers.{nth_from_yields_List}
use Rattle.std.proofs.lemmas.Iterator.Splits.{YieldsList-from_slice_split}
use Rattle.texts.proofs.Cuts.{piece_is, piece_or}
use Rattle.texts.proofs.cutting.value.Goals as goal

pub returns : goal.returns
returns c =
    let line = c.args.line.now in
    let k = nth_from_yields_List c.nth.result c.nth.new.self c.args.k c.nth.ensures.ran
    (YieldsList-from_slice_split _ (λ b. eqb b 32) line c.split.ensures.rest c.split.ensures.done c.split.ensures.closure (λ x b q k. search (rules, tests))) in
    rw c.unwrap_or.ensures (piece_or _ _ _ c.args.k refl k ∙ piece_is c.args.k line)
