use Rattle.std.proofs.Common.{vec_items, string_bytes, sym, subst}
use Rattle.rehearsal.specs.Rehearsals.{Performed}
use Rattle.rehearsal.proofs.rehearsing.rehearse.Goals as goal

pub returns : goal.returns
returns c = record {
  sheet = c.in_ok-sheet.sheet;
  calls = vec_items c.in_ok-calls.calls;
  sheet_read = sym c.in_ok-sheet.ensures.value;
  calls_read = c.in_ok-calls.ensures.value;
  performed = subst (λ x. Performed c.in_ok-sheet.sheet x (string_bytes c.in_ok-text.text)) c.as_slice.ensures.value c.in_ok-text.ensures;
}
