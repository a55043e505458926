use Rattle.std.proofs.Common.{◌≡◌, ◌+◌, ◌<◌, ◌++◌, length, vec_items, sym, ap, ◌∙◌, arith, length-append, rules}
use Rattle.std.specs.Slice.Iter.{chunks_exact_rest, chunks_exact_size}
use Rattle.std.proofs.lemmas.Result.{err_from_is_err_and}
use Rattle.captures.specs.Digits.{pairs_value}
use Rattle.captures.proofs.Hexing.{joined, decode_on, decode_stop, decode_end, decode_odd}
use Rattle.captures.proofs.hex.pairs.Goals as goal

pub loop-pair-preserved : goal.loop-pair-preserved
loop-pair-preserved c =
    let pair = c.in-Some.pair.now in
    let rest = chunks_exact_rest c.loop-pair.pair-iterator in
    let left = chunks_exact_rest c.next.new.self in
    let cut : rest ≡ pair ++ left = search rules in
    let long : length pair ≡ 2 = search rules in
    let sum : length rest ≡ 2 + length left = ap length cut ∙ length-append pair left ∙ ap (λ n. n + length left) long in
    record {
      value =
          c.loop-pair.invariant.value
          ∙ decode_on pair rest left (vec_items c.loop-pair.bytes) c.in_ok-b.b cut long (sym c.byte.ensures ∙ c.in_ok-b.was)
          ∙ ap (λ l. joined l (pairs_value left)) (sym c.in_ok-push.ensures.items);
      two = search rules;
      left = omega (arith, sum, c.loop-pair.invariant.left);
    }

pub returns-in_err-b : goal.returns-in_err-b
returns-in_err-b c =
    let pair = c.in-Some.pair.now in
    let rest = chunks_exact_rest c.loop-pair.pair-iterator in
    let left = chunks_exact_rest c.next.new.self in
    let cut : rest ≡ pair ++ left = search rules in
    let long : length pair ≡ 2 = search rules in
    let p = err_from_is_err_and c.from_residual.result c.from_residual.ensures.1 in
    rw (p.1, p.2)
    (c.loop-pair.invariant.value ∙ decode_stop pair rest left (vec_items c.loop-pair.bytes) _ cut long (sym c.byte.ensures ∙ c.in_err-b.was))

pub returns-then-text-ne0 : goal.returns-then-text-ne0
returns-then-text-ne0 c =
    let rest = chunks_exact_rest c.loop-pair.pair-iterator in
    let short : length rest < chunks_exact_size c.loop-pair.pair-iterator = search rules in
    let one : length rest ≡ 1 = omega (arith, short, c.loop-pair.invariant.two, c.loop-pair.invariant.left) in
    c.loop-pair.invariant.value ∙ decode_odd rest (vec_items c.loop-pair.bytes) one

pub returns : goal.returns
returns c =
    let rest = chunks_exact_rest c.loop-pair.pair-iterator in
    let short : length rest < chunks_exact_size c.loop-pair.pair-iterator = search rules in
    let none : length rest ≡ 0 = omega (arith, short, c.loop-pair.invariant.two, c.loop-pair.invariant.left) in
    c.loop-pair.invariant.value ∙ decode_end rest (vec_items c.loop-pair.bytes) none
