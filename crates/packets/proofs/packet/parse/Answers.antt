-- What the lengths and the type leave to be judged.
use Rattle.std.proofs.Common.{◌≡◌, ◌+◌, ◌-◌, ◌*◌, ◌≤◌, length, get_or, take, drop, Ok, Err, sym, ap, ◌∙◌, arith, rules}
use Rattle.std.proofs.lemmas.List.{take_rest}
use Rattle.std.proofs.lemmas.Result.{err_from_is_err_and}
use Rattle.packets.specs.Packets.{packet_values, coded_type, frame_in, type_code, type_of}
use Rattle.packets.proofs.Packets.{read_refused, read_unsuited, read_good}
use Rattle.packets.proofs.PacketLaws.{same_type}
use Rattle.packets.proofs.packet.parse.Goals as goal
use Rattle.packets.proofs.packet.parse.Goals.{After-frame_in}

-- the lengths suit, and the type is known
pub record Begun (c : goal.After-frame_in) : Type 0 where
  pub six : 6 ≤ length c.args.s.now
  pub counts : get_or c.args.s.now 0 0 * 256 + get_or c.args.s.now 1 0 + 2 ≡ length c.args.s.now
  pub type : coded_type (get_or c.args.s.now 5 0) ≡ Ok c.in_ok-kind.kind
  pub body : take (length c.args.s.now - 6) (drop 6 c.args.s.now) ≡ drop 6 c.args.s.now

begun : (c : goal.After-frame_in) → Begun c
begun c = record {
  six = search rules;
  counts = omega (arith, c.from.ensures, c.from_be_bytes.ensures);
  type = sym c.try_from.ensures ∙ c.in_ok-kind.was;
  body = take_rest c.args.s.now 6;
}

pub returns-in_err-frame : goal.returns-in_err-frame
returns-in_err-frame c =
    let b = begun (goal.at.returns-in_err-frame c).After-frame_in in
    let p = err_from_is_err_and c.from_residual-in_err-frame.result c.from_residual-in_err-frame.ensures.1 in
    ap packet_values p.1 ∙ ap Err p.2
    ∙ sym (read_refused c.args.s.now c.in_ok-kind.kind b.six b.counts b.type c.in_err-frame.field-0.0
    (ap (frame_in c.in_ok-kind.kind) (sym b.body) ∙ c.in_err-frame.ensures))

pub returns-then-ne : goal.returns-then-ne
returns-then-ne c =
    let b = begun (goal.at.returns-then-ne c).After-frame_in in
    let other : type_of c.in_ok-frame.frame.now ≡ c.in_ok-kind.kind → ⊥ = search rules in
    sym (read_unsuited c.args.s.now c.in_ok-kind.kind b.six b.counts b.type c.in_ok-frame.frame.now
    (ap (frame_in c.in_ok-kind.kind) (sym b.body) ∙ c.in_ok-frame.ensures)
    (λ e. other (same_type _ _ e)))

pub returns : goal.returns
returns c =
    let b = begun (goal.at.returns c).After-frame_in in
    let same : type_of c.in_ok-frame.frame.now ≡ c.in_ok-kind.kind = search rules in
    ap (λ n. Ok (record { number = n; frame = c.in_ok-frame.frame.now })) c.from_be_bytes-2.ensures
    ∙ sym (read_good c.args.s.now c.in_ok-kind.kind b.six b.counts b.type c.in_ok-frame.frame.now
    (ap (frame_in c.in_ok-kind.kind) (sym b.body) ∙ c.in_ok-frame.ensures)
    (ap type_code same))
