use Rattle.std.proofs.Common.{◌≡◌, true, take, ap, ◌∙◌, arith, rules}
use Rattle.std.specs.Str.{bytes_eq}
use Rattle.std.proofs.lemmas.List.{take_rest}
use Rattle.terms.specs.Numbers.{number}
use Rattle.codec.specs.Frames.{fixed_bytes}
use Rattle.codec.proofs.Framing.{begins}
use Rattle.codec.proofs.frame.au1_from.Goals as goal

pub returns-in-0 : goal.returns-in-0
returns-in-0 c =
    let body = c.args.body.now in
    let fixed : bytes_eq (take 4 body) fixed_bytes ≡ true = begins fixed_bytes body (omega arith) (search rules) in
    let value = c.u64_from.ensures ∙ ap (number 0) (take_rest body 4) in
    record { answer = simp (fixed, value); parts = tt }
