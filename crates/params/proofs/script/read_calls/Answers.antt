use Rattle.std.proofs.Common.{◌≡◌, [], ◌∷◌, ◌++◌, map, vec_items, sym, ap, ◌∙◌, arith}
use Rattle.std.proofs.lemmas.Result.{err_from_is_err_and}
use Rattle.std.proofs.lemmas.List.{map_push}
use Rattle.std.proofs.lemmas.Bool.{eqb-true, eqb-false}
use Rattle.params.specs.Calls.{all_said, said}
use Rattle.params.proofs.ScriptLaws.{reading_done, reading_over, reading_more, reading_stops}
use Rattle.params.proofs.script.read_calls.Goals as goal

pub returns-then-is_empty : goal.returns-then-is_empty
returns-then-is_empty c =
    reading_done (all_said c.loop-line.calls) c.loop-line.line c.loop-line.rest.now c.args.text.now c.loop-line.invariant
    (eqb-true _ _ (sym c.if-is_empty.ensures))

pub returns-in_err-call : goal.returns-in_err-call
returns-in_err-call c =
    let p = err_from_is_err_and c.from_residual.result c.from_residual.ensures.1 in
    rw (p.1, p.2)
    (reading_stops (all_said c.loop-line.calls) c.loop-line.line c.loop-line.rest.now c.args.text.now c.loop-line.invariant
    c.loop-line-test.true (eqb-false _ _ (sym c.if-is_empty.ensures)) _ c.in_err-call.ensures.value)

pub loop-line-preserved : goal.loop-line-preserved
loop-line-preserved c =
    let more = reading_more (all_said c.loop-line.calls) c.loop-line.line c.loop-line.rest.now c.args.text.now c.loop-line.invariant
    c.loop-line-test.true (eqb-false _ _ (sym c.if-is_empty.ensures)) (said c.in_ok-call.call) c.in_ok-call.ensures.value in
    let e : all_said c.push.new.self ≡ all_said c.loop-line.calls ++ said c.in_ok-call.call ∷ [] = ap (map said) c.in_ok-push.ensures.items ∙ map_push said (vec_items c.loop-line.calls) c.in_ok-call.call in
    rw (e, c.in_ok-call.ensures.behind) more

pub returns-then-not-is_empty : goal.returns-then-not-is_empty
returns-then-not-is_empty c =
    rw (c.on.ensures, c.whole_line-fault.ensures)
    (reading_over (all_said c.loop-line.calls) c.loop-line.line c.loop-line.rest.now c.args.text.now c.loop-line.invariant
    (omega arith) (eqb-false _ _ (sym c.if-not-is_empty.ensures)))

pub returns : goal.returns
returns c =
    reading_done (all_said c.loop-line.calls) c.loop-line.line c.loop-line.rest.now c.args.text.now c.loop-line.invariant
    (eqb-true _ _ (sym c.if-not-is_empty.ensures))
