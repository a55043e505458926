-- Answers one after another: what an Ok at the end says of each.
use Rattle.std.proofs.Common.{◌≡◌, ℕ, Bool, true, false, cond, Ok, Err, Result, refl, ap, arith}
use Rattle.texts.specs.declared.fault.Fault.{Fault}
use Rattle.texts.specs.declared.fault.File.{File}
use Rattle.texts.specs.declared.fault.LineFault.{LineFault}
use Rattle.texts.specs.declared.fault.Fault.TheVariants.{NamesDiffer, WrongCount}
use Rattle.texts.specs.Faults.{at_column, on_line, whole_line}

pub ok_same : {T E : Type 0} {x y : T} → ◌≡◌ {A = Result T E} (Ok x) (Ok y) → x ≡ y
ok_same e = cc

pub at_parts : {T : Type 0} (r : Result T Fault) (c : ℕ) (x : T) → at_column r c ≡ Ok x → r ≡ Ok x
at_parts (Ok y) c x e = ap (λ z. Ok z) (ok_same e)
at_parts (Err w) c x e = absurd (grind arith)

pub at_ok : {T : Type 0} {r : Result T Fault} {x : T} (c : ℕ) → r ≡ Ok x → at_column r c ≡ Ok x
at_ok c e = ap (λ q. at_column q c) e

pub on_parts : {T : Type 0} (r : Result T LineFault) (f : File) (n : ℕ) (x : T) → on_line r f n ≡ Ok x → r ≡ Ok x
on_parts (Ok y) f n x e = ap (λ z. Ok z) (ok_same e)
on_parts (Err w) f n x e = absurd (grind arith)

pub on_ok : {T : Type 0} {r : Result T LineFault} {x : T} (f : File) (n : ℕ) → r ≡ Ok x → on_line r f n ≡ Ok x
on_ok f n e = ap (λ q. on_line q f n) e

pub cond_ok : {T E : Type 0} (b : Bool) (x : Result T E) (w : E) (y : T) → cond b x (Err w) ≡ Ok y → (b ≡ true) × (x ≡ Ok y)
cond_ok true x w y e = (refl, e)
cond_ok false x w y e = absurd (grind arith)

-- the end of a line, and the line of names, by the tests that they make
abbrev pub ended_by : Bool → Result (Unit {0}) LineFault
ended_by b = cond b (Err (whole_line WrongCount)) (Ok tt)

abbrev pub named_by : Bool → Bool → Result (Unit {0}) LineFault
named_by b c = cond b (Err (whole_line NamesDiffer)) (cond c (Ok tt) (Err (whole_line NamesDiffer)))
