use Rattle.std.proofs.Common.{◌≡◌, ℕ, ◌-◌, ◌≤◌, List, ◌++◌, length, take, drop, Some, None, Ok, Err, Option, refl, sym, ap, ◌∙◌, subst, ap₂, arith, length-take, rules}
use Rattle.std.proofs.lemmas.Option.{MatchOption-at_some}
use Rattle.std.specs.Array.{IsFirstChunk}
use native.Mathlib.Nat.{sub-zero}
use Rattle.terms.specs.declared.role.Role.{Role}
use Rattle.terms.specs.Numbers.{Bytes}
use Rattle.carrier.specs.Rules.{FetchRules, FetchSome}
use Rattle.ends.specs.declared.answer.Answer.{Answer}
use Rattle.ends.specs.Ends.{end_value}
use Rattle.ends.specs.Ways.{fetch_way}
use Rattle.ends.specs.Effects.{after_fetch, fetch_put, delivers}
use Rattle.ends.specs.Puts.{longest_frame, Lays, front}
use Rattle.ends.specs.Calls.{Puts, Fetched, answer_of, fetch_refusal}
use Rattle.states.specs.States.{status_of}
use Rattle.ends.specs.Steps.{PutStep, FetchStepped}
use Rattle.ends.proofs.Calling.{failed, kept_out, laid_in, fetch_judged, fetched}
use Rattle.ends.proofs.Keeping.{kept_fetch}
use Rattle.ends.proofs.end.End.try_fetch.Goals as goal

pub returns-in_err-is_running : goal.returns-in_err-is_running
returns-in_err-is_running g c =
    let e = end_value c.args.self.now in
    let m = g.C.Carrier.meaning c.args.carrier.now in
    let buf = c.args.buf.now in
    let out = c.args.out.now in
    let x = c.in_err-is_running.field-0.0 in
    let chunk : IsFirstChunk out c.in_ok-room.room.now longest_frame = MatchOption-at_some _ (λ y. IsFirstChunk out y.now longest_frame) c.in_ok-room.room c.in_ok-room.ensures.ok_part c.first_chunk_mut.ensures.cases in
    let long : m.largest ≤ length buf = omega arith in
    let refused : fetch_refusal e m.largest (length buf) (length out) ≡ Some x = fetch_judged e _ _ _ _ c.in_ok-takes_frames.ensures long chunk.enough c.in_err-is_running.ensures in
    let is : c.from_residual-in_err-is_running.result ≡ Err x = failed _ x c.from_residual-in_err-is_running.ensures.1 in
    let r = answer_of e c.from_residual-in_err-is_running.result in
    record {
      rules =
          subst (λ o. Fetched o e e m m buf buf out (c.in_ok-room.room.now ++ drop longest_frame out) r) (sym refused)
          record { call = record { answer = ap (answer_of e) is; end = refl; carrier = refl; output = kept_out _ _ _ chunk }; buffer = refl };
      exact = subst (λ o. FetchStepped o g.C.Carrier.putting g.C.Carrier.fetching c.args.carrier.now c.args.carrier.now e e buf buf out (c.in_ok-room.room.now ++ drop longest_frame out) r) (sym refused) refl;
    }

pub unwrap-requires : goal.unwrap-requires
unwrap-requires g c =
    let long : (g.C.Carrier.meaning c.args.carrier.now).largest ≤ length c.args.buf.now = omega arith in
    fetched _ _ _ _ _ c.fetch.result long c.fetch.ensures.rules

pub returns-in_default : goal.returns-in_default
returns-in_default g c =
    let e = end_value c.args.self.now in
    let m = g.C.Carrier.meaning c.args.carrier.now in
    let m' = g.C.Carrier.meaning c.fetch.new.self in
    let buf = c.args.buf.now in
    let buf' = c.fetch.new.buf in
    let out = c.args.out.now in
    let chunk : IsFirstChunk out c.in_ok-room.room.now longest_frame = MatchOption-at_some _ (λ y. IsFirstChunk out y.now longest_frame) c.in_ok-room.room c.in_ok-room.ensures.ok_part c.first_chunk_mut.ensures.cases in
    let long : m.largest ≤ length buf = omega arith in
    let none : fetch_refusal e m.largest (length buf) (length out) ≡ None = fetch_judged e _ _ _ _ c.in_ok-takes_frames.ensures long chunk.enough c.in_ok-is_running.ensures in
    let is : c.fetch.result ≡ Ok None = search rules in
    let output = kept_out _ _ _ chunk in
    record {
      rules =
          subst (λ o. Fetched o e e m m' buf buf' out (c.in_ok-room.room.now ++ drop longest_frame out) c.idle.result) (sym none)
          record {
            came = None;
            between = m';
            fetched = subst (λ r. FetchRules m m' e.role buf buf' r) is c.fetch.ensures.rules;
            octets = tt;
            end = refl;
            carrier = refl;
            output = output;
            answer = c.idle.ensures;
          };
      exact =
          subst (λ o. FetchStepped o g.C.Carrier.putting g.C.Carrier.fetching c.args.carrier.now c.fetch.new.self e e buf buf' out (c.in_ok-room.room.now ++ drop longest_frame out) c.idle.result) (sym none)
          record {
            came = None;
            between = c.fetch.new.self;
            fetched = subst (λ r. g.C.Carrier.fetching c.args.carrier.now e.role buf r buf' c.fetch.new.self) is c.fetch.ensures.exact;
            put = refl;
            end = refl;
            output = output;
            answer = c.idle.ensures;
          };
    }

pub put-requires : goal.put-requires
put-requires g c =
    let e = end_value c.args.self.now in
    let l = c.take-delivered in
    (laid_in (fetch_put e (fetch_way e (take (c.in-Some.n - 0) c.fetch.new.buf))) _ c.args.out.now c.in_ok-room.room.now l.new.out l.result.1 (MatchOption-at_some _ (λ y. IsFirstChunk c.args.out.now y.now longest_frame) c.in_ok-room.room c.in_ok-room.ensures.ok_part c.first_chunk_mut.ensures.cases) l.array_long l.ensures.laid).fits

pub returns : goal.returns
returns g c =
    let e = end_value c.args.self.now in
    let l = c.take-delivered in
    let e' = end_value l.new.self in
    let m = g.C.Carrier.meaning c.args.carrier.now in
    let between = g.C.Carrier.meaning c.fetch.new.self in
    let m' = g.C.Carrier.meaning c.put.new.carrier in
    let buf = c.args.buf.now in
    let buf' = c.fetch.new.buf in
    let out = c.args.out.now in
    let n = c.in-Some.n in
    let chunk : IsFirstChunk out c.in_ok-room.room.now longest_frame = MatchOption-at_some _ (λ y. IsFirstChunk out y.now longest_frame) c.in_ok-room.room c.in_ok-room.ensures.ok_part c.first_chunk_mut.ensures.cases in
    let came : c.fetch.result ≡ Ok (Some n) = search rules in
    let rules' : FetchSome m between e.role buf buf' n = subst (λ r. FetchRules m between e.role buf buf' r) came c.fetch.ensures.rules in
    let s = take n buf' in
    let is : take (n - 0) buf' ≡ s = ap (λ k. take k buf') (sub-zero n) in
    let way = fetch_way e s in
    let p = fetch_put e way in
    let within = rules'.within in
    let long : length s ≡ n = simp length-take (omega arith) in
    let end = l.ensures.end ∙ ap (λ x. after_fetch e (fetch_way e x)) is in
    let lays = subst (λ x. Lays (fetch_put e (fetch_way e x)) c.in_ok-room.room.now l.new.out l.result.1) is l.ensures.laid in
    let place = l.ensures.place ∙ ap₂ (λ x k. delivers (fetch_way e x) k) is (ap length is ∙ long) in
    let kept = kept_fetch e way in
    let room : m.largest ≤ length buf = omega arith in
    let none : fetch_refusal e m.largest (length buf) (length out) ≡ None = fetch_judged e _ _ _ _ c.in_ok-takes_frames.ensures room chunk.enough c.in_ok-is_running.ensures in
    let laid = laid_in p _ out c.in_ok-room.room.now l.new.out l.result.1 chunk l.array_long lays in
    let put = λ (P : Role → Option (List ℕ) → Type 0) (h : P e'.role (front l.result.1 l.new.out)). subst (λ w. P w p) (ap (λ x. x.role) end ∙ kept.role) (subst (P e'.role) laid.front h) in
    let answering : Answer → Answer = λ a. record { refused = a.refused; status = a.status; delivered = l.result.0; put = l.result.1 } in
    let answer = ap answering c.idle-2.ensures ∙ ap₂ (λ x y. record { refused = None; status = status_of e'.state; delivered = x; put = y }) place lays.value in
    record {
      rules =
          subst (λ o. Fetched o e e' m m' buf buf' out (l.new.out ++ drop longest_frame out) (answering c.idle-2.result)) (sym none)
          record {
            came = Some n;
            between = between;
            fetched = rules';
            octets = (subst Bytes is l.ensures.octets, long);
            end = end;
            carrier = put (λ w x. Puts between m' w x) c.put.ensures.rules;
            output = laid.output;
            answer = answer;
          };
      exact =
          subst (λ o. FetchStepped o g.C.Carrier.putting g.C.Carrier.fetching c.args.carrier.now c.put.new.carrier e e' buf buf' out (l.new.out ++ drop longest_frame out) (answering c.idle-2.result)) (sym none)
          record {
            came = Some n;
            between = c.fetch.new.self;
            fetched = subst (λ r. g.C.Carrier.fetching c.args.carrier.now e.role buf r buf' c.fetch.new.self) came c.fetch.ensures.exact;
            put = put (λ w x. PutStep g.C.Carrier.putting c.fetch.new.self c.put.new.carrier w x) c.put.ensures.exact;
            end = end;
            output = laid.output;
            answer = answer;
          };
    }
