use Rattle.std.proofs.Common.{◌≡◌, ℕ, ◌+◌, ◌≤◌, cond, leb, List, [], ◌++◌, length, sym, refl, ap, ◌∙◌, append_assoc, arith, length-append}
use Rattle.std.proofs.lemmas.Bool.{leb-true}
use Rattle.terms.specs.Buffers.{overlay}
use Rattle.terms.proofs.Laid.{laid}
use Rattle.terms.proofs.laying.lay.Goals as goal

together : (x y z : List ℕ) → length (x ++ (y ++ z)) ≡ length x + (length y + length z)
together x y z = length-append x (y ++ z) ∙ ap (λ n. length x + n) (length-append y z)

pub returns-then-not-have_room : goal.returns-then-not-have_room
returns-then-not-have_room c =
    let x = c.args.a.now in
    let y = c.args.b.now in
    let z = c.args.c.now in
    let o = c.args.out.now in
    sym (ap (λ b. cond b (overlay (x ++ (y ++ z)) o) o) (ap (λ n. leb n (length o)) (together x y z) ∙ sym c.if-not-have_room.ensures))

pub returns : goal.returns
returns c =
    let x = c.args.a.now in
    let y = c.args.b.now in
    let z = c.args.c.now in
    let o = c.args.out.now in
    let fit = sym c.if-not-have_room.ensures in
    let room : length x + (length y + length z) ≤ length o = leb-true _ _ fit in
    let one = laid [] x o o _ 0 _ refl c.copy_from_slice.ensures.after refl (omega arith) (omega arith) in
    let two = laid x y o _ _ _ _ one c.copy_from_slice-2.ensures.after refl (omega arith) (omega arith) in
    let three = laid (x ++ y) z o _ _ _ _ two c.copy_from_slice-3.ensures.after (omega (arith, length-append x y)) (omega arith) (omega (arith, length-append x y)) in
    three
    ∙ ap (λ s. overlay s o) (append_assoc x y z)
    ∙ sym (ap (λ b. cond b (overlay (x ++ (y ++ z)) o) o) (ap (λ n. leb n (length o)) (together x y z) ∙ fit))
