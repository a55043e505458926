use Rattle.std.proofs.Common.{◌+◌, [], ◌∷◌, ◌++◌, map, take, vec_items, sym, refl, ap, ◌∙◌, subst}
use Rattle.std.proofs.lemmas.List.{take_more, take_all, map_push}
use Rattle.std.proofs.lemmas.Slice.{pushed}
use Rattle.std.proofs.lemmas.Result.{err_from_is_err_and}
use Rattle.link.specs.declared.runs.Line.{Line}
use Rattle.link.specs.Seats.{link_value, Played}
use Rattle.link.specs.Tells.{told_by}
use Rattle.link.proofs.Playing.{played_more}
use Rattle.link.proofs.runs.Seats.play.Goals as goal

pub loop-call-preserved : goal.loop-call-preserved
loop-call-preserved g c =
    let k = c.call-item.result in
    let i = c.loop-call.call-index in
    let l : Line = record { answer = c.step-answer.result; got = c.in_ok-got.got } in
    let read = take_more c.args.calls.now i k c.loop-call-test.true ∙ ap (λ x. take i c.args.calls.now ++ (x ∷ [])) (sym c.call-item.is) in
    let push = pushed {was = vec_items c.loop-call.lines} (l ∷ []) refl c.in_ok-push.was c.push.ensures.items in
    let t = link_value (g.C.Carrier.meaning c.args.carrier.now) c.args.self.now in
    let u = link_value (g.C.Carrier.meaning c.step-answer.new.carrier) c.step-answer.new.self in
    let more = played_more k (vec_items c.in_ok-got.got) c.loop-call.invariant c.step-answer.ensures read c.in_ok-got.ensures in
    subst (Played t u (take (i + 1) c.args.calls.now)) (sym (ap (map told_by) push ∙ map_push told_by (vec_items c.loop-call.lines) l)) more

pub returns : goal.returns
returns g c =
    let t = link_value (g.C.Carrier.meaning c.args.carrier.now) c.args.self.now in
    let u = link_value (g.C.Carrier.meaning c.loop-call.carrier) c.loop-call.self in
    subst (λ x. Played t u x (map told_by (vec_items c.loop-call.lines))) (take_all c.loop-call.call-index c.args.calls.now c.loop-call-test.false) c.loop-call.invariant

pub returns-in_err-got : goal.returns-in_err-got
returns-in_err-got g c =
    let p = err_from_is_err_and c.from_residual.result c.from_residual.ensures.1 in
    let k = c.call-item.result in
    let i = c.loop-call.call-index in
    let read = take_more c.args.calls.now i k c.loop-call-test.true ∙ ap (λ x. take i c.args.calls.now ++ (x ∷ [])) (sym c.call-item.is) in
    rw p.1 record { number = i + 1; answers = _; played = played_more k _ c.loop-call.invariant c.step-answer.ensures read refl }

pub returns-in_err-push : goal.returns-in_err-push
returns-in_err-push g c =
    let p = err_from_is_err_and c.from_residual-in_err-push.result c.from_residual-in_err-push.ensures.1 in
    let k = c.call-item.result in
    let i = c.loop-call.call-index in
    let read = take_more c.args.calls.now i k c.loop-call-test.true ∙ ap (λ x. take i c.args.calls.now ++ (x ∷ [])) (sym c.call-item.is) in
    rw p.1 record { number = i + 1; answers = _; played = played_more k _ c.loop-call.invariant c.step-answer.ensures read refl }
