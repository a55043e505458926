use Rattle.std.proofs.Common.{◌≡◌, length, None, sym, ap, ◌∙◌, subst, ap₂, rules}
use Rattle.std.proofs.lemmas.Option.{MatchOption-at_some}
use Rattle.std.specs.Array.{IsFirstChunk}
use Rattle.ends.specs.declared.answer.Answer.{Answer}
use Rattle.ends.specs.Calls.{Puts, opening_refusal, opening_put}
use Rattle.ends.specs.Puts.{longest_frame, put_length, put_into}
use Rattle.ends.specs.Steps.{PutStep, OpeningStepped}
use Rattle.ends.proofs.Calling.{laid_in, opening_judged}
use Rattle.ends.proofs.opening.try_open.Goals as goal

pub put-requires : goal.put-requires
put-requires g c =
    let l = c.lay_first-laid in
    (laid_in (opening_put c.first-end.result.state) _ c.args.out.now c.in_ok-room.room.now l.new.out l.result (MatchOption-at_some _ (λ y. IsFirstChunk c.args.out.now y.now longest_frame) c.in_ok-room.room c.in_ok-room.ensures.ok_part c.first_chunk_mut.ensures.cases) l.array_long l.ensures).fits

pub returns : goal.returns
returns g c =
    let first = g.N.SessionNumbers.first c.args.numbers.now in
    let role = g.N.SessionNumbers.role in
    let end = c.first-end.result in
    let l = c.lay_first-laid in
    let m = g.C.Carrier.meaning c.args.carrier.now in
    let m' = g.C.Carrier.meaning c.put.new.carrier in
    let out = c.args.out.now in
    let chunk : IsFirstChunk out c.in_ok-room.room.now longest_frame = MatchOption-at_some _ (λ y. IsFirstChunk out y.now longest_frame) c.in_ok-room.room c.in_ok-room.ensures.ok_part c.first_chunk_mut.ensures.cases in
    let none : opening_refusal m.largest (length out) ≡ None = opening_judged _ _ c.in_ok-takes_frames.ensures chunk.enough in
    let state : end.state ≡ first = search rules in
    let party : end.role ≡ role = search rules in
    let laid = laid_in (opening_put end.state) _ out c.in_ok-room.room.now l.new.out l.result chunk l.array_long l.ensures in
    let front = laid.front ∙ ap opening_put state in
    record {
      rules = record {
        not_refused = none;
        opens = record {
          end = search rules;
          carrier = subst (λ r. Puts m m' r (opening_put first)) party (subst (λ s. Puts m m' end.role s) front c.put.ensures.rules);
          output = laid.output ∙ ap (λ s. put_into (opening_put s) out) state;
          answer = ap₂ (λ (a : Answer) n. record { refused = a.refused; status = a.status; delivered = a.delivered; put = n }) c.idle.ensures (l.ensures.value ∙ ap (λ s. put_length (opening_put s)) state);
        };
      };
      exact =
          subst (λ o. OpeningStepped o g.C.Carrier.putting c.args.carrier.now c.put.new.carrier role first) (sym none)
          (subst (λ r. PutStep g.C.Carrier.putting c.args.carrier.now c.put.new.carrier r (opening_put first)) party (subst (λ s. PutStep g.C.Carrier.putting c.args.carrier.now c.put.new.carrier end.role s) front c.put.ensures.exact));
    }
