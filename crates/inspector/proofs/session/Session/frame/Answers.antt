use Rattle.std.proofs.Common.{◌≡◌, Ok, sym, ap, ◌∙◌, subst}
use Rattle.codec.specs.Frames.{frame_value}
use Rattle.codec.specs.Sealing.{BearsOne, word_in}
use Rattle.inspector.specs.Sessions.{finding_of, finding_values, found, heard}
use Rattle.inspector.specs.SessionLaws.{word_of}
use Rattle.inspector.proofs.Hearing.{word_found}
use Rattle.inspector.proofs.session.Session.frame.Goals as goal

pub returns : goal.returns
returns c =
    let self = c.args.self.now in
    let s = c.args.s.now in
    let f = frame_value c.in_ok-frame.frame in
    let read = c.in_ok-frame.ensures.answer in
    let told : finding_values c.judge.result ≡ found self (Ok f) = c.judge.ensures ∙ ap (λ x. finding_of x f) c.learn.ensures in
    let word = c.bears-word.ensures.answer ∙ ap word_in (sym read) ∙ sym (word_found self s (Ok f) c.in_ok-frame.ensures.judged) ∙ ap word_of (sym told) in
    record {
      answer = told ∙ ap (found self) read;
      after = c.learn.ensures ∙ ap (heard self) read;
      one = subst (BearsOne s) word c.bears-word.ensures.one;
    }
