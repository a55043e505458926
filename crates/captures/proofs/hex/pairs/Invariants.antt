use Rattle.std.proofs.Common.{◌≡◌, ◌%◌, length, vec_items}
use Rattle.std.specs.Slice.Iter.{chunks_exact_rest, chunks_exact_size}
use Rattle.captures.specs.Digits.{pairs_value}
use Rattle.captures.proofs.Hexing.{joined}
use Rattle.captures.proofs.hex.pairs.Given as goal

abbrev pub invariant-loop-pair : goal.invariant-loop-pair
invariant-loop-pair l = record {
  value : pairs_value l.text ≡ joined (vec_items l.bytes) (pairs_value (chunks_exact_rest l.pair-iterator));
  two : chunks_exact_size l.pair-iterator ≡ 2;
  left : length (chunks_exact_rest l.pair-iterator) % 2 ≡ length l.text % 2;
}
