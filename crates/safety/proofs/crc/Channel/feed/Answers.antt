use Rattle.std.proofs.Common.{◌≡◌, ◌*◌, ◌%◌, ◌^◌, refl, ap, ◌∙◌, arith, rules}
use lib.Bits.{bit_xor}
use Rattle.std.specs.List.{fold, range_with_len}
use Rattle.std.proofs.lemmas.Iterator.{YieldsList-from_range}
use Rattle.std.proofs.lemmas.Iterator.Consumers.{fold_from_yields_List}
use Rattle.safety.specs.Remainder.{polynomial}
use Rattle.safety.specs.Registers.{shifted, turns, fed}
use Rattle.safety.proofs.crc.Channel.feed.Goals as goal

pub returns : goal.returns
unfolding fed turns
returns c =
    let placed : c.from.result * 2 ^ 24 % 2 ^ 32 ≡ c.args.byte * 2 ^ 24 = omega arith in
    let turned : c.fold.result ≡ fold (λ r _. shifted (polynomial c.args.self) r) (bit_xor c.args.register (c.from.result * 2 ^ 24 % 2 ^ 32)) (range_with_len 0 8) =
    fold_from_yields_List _ (λ r _. shifted (polynomial c.args.self) r) _ _ c.fold.ensures.ran (YieldsList-from_range 0 8 8 refl refl) (λ a x b q k. search rules) in
    turned ∙ ap (λ u. turns (polynomial c.args.self) 8 (bit_xor c.args.register u)) placed
