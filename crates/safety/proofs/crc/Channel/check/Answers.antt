use Rattle.std.proofs.Common.{◌≡◌, [], sym, ap, ◌∙◌, subst, arith, rules}
use Rattle.std.specs.List.{fold}
use Rattle.safety.specs.Remainder.{polynomial, remainder, times_x32, Leaves}
use Rattle.safety.specs.Registers.{fed}
use Rattle.terms.proofs.Numbers.{Bytes-all}
use Rattle.safety.proofs.Channels.{low}
use Rattle.safety.proofs.Register.{remainder_nil, remainder_fold}
use Rattle.safety.proofs.Long.{is_remainder}
use Rattle.safety.proofs.Unique.{one_remainder}
use Rattle.safety.proofs.crc.Channel.check.Goals as goal

pub returns : goal.returns
returns c =
    let p = polynomial c.args.self in
    let s = c.args.bytes.now in
    let fits = low c.args.self in
    let folded : c.fold.result ≡ fold (fed p) 0 s = search rules in
    let is : c.fold.result ≡ remainder p s =
    folded ∙ ap (λ r. fold (fed p) r s) (sym (remainder_nil p fits)) ∙ remainder_fold p fits s [] (Bytes-all s (λ i h. omega (arith, c.type_inv.bytes i))) in
    let leaves : Leaves p (times_x32 s) c.fold.result = subst (Leaves p (times_x32 s)) (sym is) (is_remainder p s fits) in
    record {
      answer = is;
      leaves = leaves;
      only = λ t other. one_remainder p (times_x32 s) t c.fold.result fits other leaves;
    }
