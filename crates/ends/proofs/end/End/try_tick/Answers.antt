use Rattle.std.proofs.Common.{◌≡◌, List, ◌++◌, length, drop, Some, None, Err, Option, refl, sym, ap, ◌∙◌, subst, ap₂}
use Rattle.std.proofs.lemmas.Option.{MatchOption-at_some}
use Rattle.std.specs.Array.{IsFirstChunk}
use Rattle.terms.specs.declared.role.Role.{Role}
use Rattle.ends.specs.declared.answer.Answer.{Answer}
use Rattle.ends.specs.Ends.{end_value}
use Rattle.ends.specs.Ways.{tick_way}
use Rattle.ends.specs.Effects.{tick_put}
use Rattle.ends.specs.Puts.{longest_frame, front}
use Rattle.ends.specs.Calls.{Puts, Ticked, answer_of, tick_refusal, message_refusal, said}
use Rattle.states.specs.States.{status_of}
use Rattle.ends.specs.Steps.{PutStep, TickStepped}
use Rattle.ends.proofs.Calling.{failed, kept_out, laid_in, tick_judged}
use Rattle.ends.proofs.Keeping.{kept_tick}
use Rattle.ends.proofs.end.End.try_tick.Goals as goal

pub returns-in_err-is_running : goal.returns-in_err-is_running
returns-in_err-is_running g c =
    let e = end_value c.args.self.now in
    let m = g.C.Carrier.meaning c.args.carrier.now in
    let out = c.args.out.now in
    let message = c.args.message.now in
    let x = c.in_err-is_running.field-0.0 in
    let chunk : IsFirstChunk out c.in_ok-room.room.now longest_frame = MatchOption-at_some _ (λ y. IsFirstChunk out y.now longest_frame) c.in_ok-room.room c.in_ok-room.ensures.ok_part c.first_chunk_mut.ensures.cases in
    let refused : tick_refusal e m.largest (length out) ≡ Some x = tick_judged e _ _ _ c.in_ok-takes_frames.ensures chunk.enough c.in_err-is_running.ensures in
    let is : c.from_residual-in_err-is_running.result ≡ Err x = failed _ x c.from_residual-in_err-is_running.ensures.1 in
    record {
      rules =
          subst (λ o. Ticked o e e m m message out (c.in_ok-room.room.now ++ drop longest_frame out) (answer_of e c.from_residual-in_err-is_running.result)) (sym refused)
          record { answer = ap (answer_of e) is; end = refl; carrier = refl; output = kept_out _ _ _ chunk };
      exact = subst (λ o. TickStepped o g.C.Carrier.putting c.args.carrier.now c.args.carrier.now e message) (sym refused) refl;
    }

pub returns : goal.returns
returns g c =
    let e = end_value c.args.self.now in
    let l = c.go_on-laid in
    let e' = end_value l.new.self in
    let m = g.C.Carrier.meaning c.args.carrier.now in
    let m' = g.C.Carrier.meaning c.put.new.carrier in
    let out = c.args.out.now in
    let message = c.args.message.now in
    let chunk : IsFirstChunk out c.in_ok-room.room.now longest_frame = MatchOption-at_some _ (λ y. IsFirstChunk out y.now longest_frame) c.in_ok-room.room c.in_ok-room.ensures.ok_part c.first_chunk_mut.ensures.cases in
    let p = tick_put e (tick_way e) (said e.values message) in
    let kept = kept_tick e (tick_way e) in
    let none : tick_refusal e m.largest (length out) ≡ None = tick_judged e _ _ _ c.in_ok-takes_frames.ensures chunk.enough c.in_ok-is_running.ensures in
    let laid = laid_in p _ out c.in_ok-room.room.now l.new.out l.result chunk l.array_long l.ensures.laid in
    let answer : Answer → Answer = λ a. record { refused = c.message_refusal.result; status = a.status; delivered = a.delivered; put = l.result } in
    let put = λ (P : Role → Option (List _) → Type 0) (h : P e'.role (front l.result l.new.out)). subst (λ w. P w p) (ap (λ x. x.role) l.ensures.end ∙ kept.role) (subst (P e'.role) laid.front h) in
    record {
      rules =
          subst (λ o. Ticked o e e' m m' message out (l.new.out ++ drop longest_frame out) (answer c.idle.result)) (sym none)
          record {
            end = l.ensures.end;
            carrier = put (λ w x. Puts m m' w x) c.put.ensures.rules;
            output = laid.output;
            answer =
                ap answer c.idle.ensures
                ∙ ap₂ (λ x n. record { refused = x; status = status_of e'.state; delivered = None; put = n })
                (c.message_refusal.ensures ∙ ap (λ v. message_refusal v (length message) e'.state) (ap (λ x. x.values) l.ensures.end ∙ kept.values)) l.ensures.laid.value;
          };
      exact =
          subst (λ o. TickStepped o g.C.Carrier.putting c.args.carrier.now c.put.new.carrier e message) (sym none)
          (put (λ w x. PutStep g.C.Carrier.putting c.args.carrier.now c.put.new.carrier w x) c.put.ensures.exact);
    }
