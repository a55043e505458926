use Rattle.std.proofs.Common.{[], ◌∷◌, ◌++◌, map, get_or, take, sym, ap, ◌∙◌, rules}
use Rattle.std.proofs.lemmas.List.{take_more, take_all, map_push}
use Rattle.std.proofs.lemmas.Slice.{pushed}
use Rattle.rehearsal.specs.Listing.{shown_byte}
use Rattle.rehearsal.proofs.Lists.{got_some}
use Rattle.rehearsal.proofs.listing.got_text.Goals as goal

pub loop-byte-preserved : goal.loop-byte-preserved
loop-byte-preserved c =
    let xs = c.args.got.now in
    let i = c.loop-byte.byte-index in
    let one = c.push.ensures.ascii c.shown.ensures.bound ∙ ap (λ x. x ∷ []) c.shown.ensures.value in
    pushed _ c.loop-byte.invariant c.in_ok-push.was c.push.ensures.bytes
    ∙ ap (λ x. map shown_byte (take i xs) ++ x) one
    ∙ sym (ap (map shown_byte) (take_more xs i 0 c.loop-byte-test.true) ∙ map_push shown_byte (take i xs) (get_or xs i 0))

pub returns : goal.returns
returns c =
    let xs = c.args.got.now in
    c.loop-byte.invariant ∙ ap (map shown_byte) (take_all c.loop-byte.byte-index xs c.loop-byte-test.false) ∙ got_some xs (search rules)
