use Rattle.std.proofs.Common.{◌≡◌, ◌+◌, ◌-◌, false, leb, [], ◌∷◌, ◌++◌, length, sym, ap, ◌∙◌, arith}
use Rattle.std.proofs.lemmas.Bool.{lt-leb}
use Rattle.terms.specs.Numbers.{bytes}
use Rattle.terms.specs.Buffers.{overlay, put_after}
use Rattle.safety.specs.Words.{code_of}
use Rattle.codec.specs.Telegrams.{telegram_value, telegram_bytes}
use Rattle.codec.specs.Sealing.{guarded, sealed}
use Rattle.terms.proofs.Numbers.{big_endian}
use Rattle.terms.proofs.Laid.{laid, laid_front, laid_whole}
use Rattle.codec.proofs.Sealings.{length_sealed, sealed_in}
use Rattle.codec.proofs.seal.SealedLayout.lay.Goals as goal

pub returns-then-out-n : goal.returns-then-out-n
returns-then-out-n c =
    let it = c.args.self.now in
    let t = telegram_bytes (telegram_value it.telegram) in
    let s = sealed it.towards t it.word.0 in
    let n = length_sealed it.towards t it.word.0 in
    let short : leb (length s) (length c.args.out.now) ≡ false = lt-leb _ _ (omega (arith, c.size-n.ensures.value)) in
    record { after = simp short; back = sealed_in it.towards (telegram_value it.telegram) it.word.0 }

pub returns : goal.returns
unfolding sealed
returns c =
    let it = c.args.self.now in
    let towards = it.towards in
    let word = it.word.0 in
    let t = telegram_bytes (telegram_value it.telegram) in
    let m = guarded towards t in
    let s = sealed towards t word in
    let out = c.args.out.now in
    let size = c.size-n.ensures.value in
    let long = length_sealed towards t word in
    let n : 1 + c.size-n.result ≡ length m = omega arith in
    let first : c.lay_behind.new.out ≡ overlay m out = c.lay_behind.ensures.after ∙ ap (λ f. put_after (((0x0A + f) ∷ []) ++ t) out) c.flag.ensures ∙ laid_whole m out (omega arith) in
    let part : 1 + c.size-n.result - 0 ≡ length m = omega arith in
    let front = laid_front m out c.lay_behind.new.out (1 + c.size-n.result - 0) part first in
    let code = c.copy_from_slice.ensures.after ∙ c.to_be_bytes.ensures ∙ big_endian _ ∙ ap (bytes 8) (c.code-code.ensures ∙ ap (code_of word) front) in
    let after = laid m (bytes 8 (code_of word m)) out c.lay_behind.new.out _ (1 + c.size-n.result) (1 + c.size-n.result + 8 - (1 + c.size-n.result)) first code n (omega arith) (omega arith) in
    record { after = after ∙ sym (laid_whole s out (omega arith)); back = sealed_in towards (telegram_value it.telegram) word }
