use Rattle.std.proofs.Common.{sym, subst, arith}
use Rattle.codec.specs.FrameLaws.{Judged, WrittenAgain}
use Rattle.terms.proofs.Numbers.{Bytes-all}
use Rattle.codec.proofs.Judging.{judged, written_again}
use Rattle.codec.proofs.frame.Frame.read.Goals as goal

pub returns : goal.returns
returns c =
    let s = c.args.s.now in
    let bytes = Bytes-all s (λ i h. omega (arith, c.type_inv.s i)) in
    let is = sym c.parse.ensures.answer in
    record {
      answer = c.parse.ensures.answer;
      parts = c.parse.ensures.parts;
      judged = subst (Judged s) is (judged s bytes);
      again = subst (WrittenAgain s) is (written_again s bytes);
    }
