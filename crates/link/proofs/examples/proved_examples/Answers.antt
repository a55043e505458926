use Rattle.std.proofs.Common.{refl}
use lib.Count.{ones}
use Rattle.safety.specs.Remainder.{bits, bits_of, less, divide, remainder}
use Rattle.safety.specs.Words.{checks}
use Rattle.link.proofs.examples.proved_examples.Goals as goal

pub returns : goal.returns
unfolding bits bits_of less divide remainder checks ones
returns c = record {
  code = (refl, refl, refl, refl, refl, refl);
  bits = (refl, refl);
  window = λ v w way. (refl, rw w refl, rw w refl, refl);
  age = λ v a b. (rw (a, b) refl, rw a refl, rw (a, b) refl, rw a refl);
  count = λ v a b sent k. (rw (a, b, k) refl, rw (a, b, k) refl, rw (a, b) refl, refl);
}
