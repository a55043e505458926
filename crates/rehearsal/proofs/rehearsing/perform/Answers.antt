use Rattle.std.proofs.Common.{◌≡◌, map, vec_items, string_bytes, ap, ◌∙◌, subst}
use Rattle.std.proofs.lemmas.Result.{IfOk-weaker}
use Rattle.carrier.specs.Wires.{wire_meaning}
use Rattle.link.specs.Tells.{told_by, RunMade}
use Rattle.rehearsal.specs.Listing.{listing_text}
use Rattle.rehearsal.specs.Rehearsals.{Performed}
use Rattle.rehearsal.proofs.rehearsing.perform.Goals as goal

pub returns-in-Ok : goal.returns-in-Ok
returns-in-Ok c =
    let calls = c.args.calls.now in
    let ls = vec_items c.in-Ok.lines in
    IfOk-weaker c.listing.result (λ t. string_bytes t ≡ listing_text calls c.as_slice.result.now) (λ t. Performed c.args.sheet.now calls (string_bytes t))
    (λ t e. record {
      lines = ls;
      store = c.in_ok-wire.wire.store;
      new_wire = c.in_ok-wire.ensures;
      after = wire_meaning c.run.new.carrier.store;
      run = subst (λ n. RunMade c.args.sheet.now n (wire_meaning c.in_ok-wire.wire.store) (wire_meaning c.run.new.carrier.store) calls (map told_by ls))
          (λ i. record { ra = record { value = c.new-2.ensures i }; rb = record { value = c.new-3.ensures i }; rc = record { value = c.new-4.ensures i } })
          c.in-Ok.ensures.tells;
      listed = e ∙ ap (listing_text calls) c.as_slice.ensures.value;
    })
    c.listing.ensures
