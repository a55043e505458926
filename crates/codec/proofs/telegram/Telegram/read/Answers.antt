use Rattle.std.proofs.Common.{sym, subst, arith}
use Rattle.codec.specs.TelegramLaws.{TelegramJudged}
use Rattle.terms.proofs.Numbers.{Bytes-all}
use Rattle.codec.proofs.TelegramTrips.{judged}
use Rattle.codec.proofs.telegram.Telegram.read.Goals as goal

pub returns : goal.returns
returns c =
    let s = c.args.t.now in
    record {
      answer = c.parse.ensures;
      judged = subst (TelegramJudged s) (sym c.parse.ensures) (judged s (Bytes-all s (λ i h. omega (arith, c.type_inv.t i))));
    }
