use Rattle.std.proofs.Common.{◌≡◌, suc, ◌++◌, length, string_bytes, sym, ap, ◌∙◌, append-nil, ◌⊎◌, inl, inr}
use Rattle.std.specs.Slice.Iter.{iter_rest}
use Rattle.rehearsal.proofs.Lists.{entries_end}
use Rattle.rehearsal.proofs.listing.listing.Goals as goal

pub returns : goal.returns
returns c =
    let cs = iter_rest c.loop-i.i-iterator.iter.a in
    let ls = iter_rest c.loop-i.i-iterator.iter.b in
    let over : (length cs ≡ 0) ⊎ (length ls ≡ 0) = elim c.in-None.ensures.steps.0 [ inl h ↦ inl h.1.0 | inr h ↦ inr h.1.0 ] in
    sym (append-nil (string_bytes c.loop-i.text)) ∙ sym (ap (λ x. string_bytes c.loop-i.text ++ x) (entries_end (suc c.loop-i.i-iterator.count) cs ls over)) ∙ c.loop-i.invariant
