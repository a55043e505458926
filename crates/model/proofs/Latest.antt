-- A telegram of one kind that an end put is the latest of that kind, or not after the one before.
use mathlib.Core.Path.{◌≡◌, refl, ap}
use mathlib.Core.Bool.{Bool, true, false}
use mathlib.Core.Logic.{◌⊎◌, inl, inr}
use Prim.Native.Nat.{ℕ, ◌≤◌}
use native.Mathlib.Omega.{arith}
use Rattle.model.specs.Model.{Shape, Kind, start, am, req, ack, Tel, Deed, idle, drifts, leaves, begins, waits, opens, replies, firsts, first_answers, plain, asks, takes, answers, renews, parts, Puts}
use Rattle.model.proofs.Ends.{sn_of}
use Rattle.model.proofs.Round.{Marks, note, puts_req, puts_ack, Ordered}

-- n: its number; t: when it was put
abbrev pub Latest : ℕ → ℕ → Marks → Type 0
Latest n t g = ((n ≡ g.now) × (t ≡ g.time)) ⊎ (n ≤ g.before)

pub latest_note : (b : Bool) (n t m x : ℕ) (g : Marks) → Ordered g → Latest n t g → Latest n t (note b m x g)
latest_note false n t m x g o h = h
latest_note true n t m x g o (inl h) = inr (omega arith)
latest_note true n t m x g o (inr h) = inr (omega arith)

-- n: the next number of the end that puts
pub ordered_note : (b : Bool) (n m x : ℕ) (g : Marks) → n ≤ m → Ordered g × (g.now ≤ n) → Ordered (note b n x g) × ((note b n x g).now ≤ m)
ordered_note true n m x g h o = omega arith
ordered_note false n m x g h o = omega arith

abbrev kind_no : Kind → ℕ
kind_no start = 0
kind_no am = 1
kind_no req = 2
kind_no ack = 3

abbrev kind_of : Tel → ℕ
kind_of f = kind_no f.kind

pub req_put : (f : Tel) (a : Shape) (d : Deed) (x : ℕ) (g : Marks) → Puts f a d → f.kind ≡ req → Latest f.sn x (note (puts_req d) a.next x g)
req_put f a idle x g p k = absurd p
req_put f a (drifts n) x g p k = absurd p
req_put f a (leaves n) x g p k = absurd p
req_put f a begins x g p k = absurd (omega (arith, ap kind_of p, ap kind_no k))
req_put f a waits x g p k = absurd p
req_put f a (opens t) x g p k = absurd p
req_put f a (replies t) x g p k = absurd (omega (arith, ap kind_of p, ap kind_no k))
req_put f a (firsts t) x g p k = absurd p
req_put f a (first_answers t) x g p k = absurd (omega (arith, ap kind_of p, ap kind_no k))
req_put f a plain x g p k = absurd (omega (arith, ap kind_of p, ap kind_no k))
req_put f a asks x g p k = inl (ap sn_of p, refl)
req_put f a (takes t) x g p k = absurd p
req_put f a (answers t) x g p k = absurd (omega (arith, ap kind_of p, ap kind_no k))
req_put f a (renews t) x g p k = absurd p
req_put f a (parts t) x g p k = absurd p

pub ack_put : (f : Tel) (a : Shape) (d : Deed) (x : ℕ) (g : Marks) → Puts f a d → f.kind ≡ ack → Latest f.sn x (note (puts_ack d) a.next x g)
ack_put f a idle x g p k = absurd p
ack_put f a (drifts n) x g p k = absurd p
ack_put f a (leaves n) x g p k = absurd p
ack_put f a begins x g p k = absurd (omega (arith, ap kind_of p, ap kind_no k))
ack_put f a waits x g p k = absurd p
ack_put f a (opens t) x g p k = absurd p
ack_put f a (replies t) x g p k = absurd (omega (arith, ap kind_of p, ap kind_no k))
ack_put f a (firsts t) x g p k = absurd p
ack_put f a (first_answers t) x g p k = inl (ap sn_of p, refl)
ack_put f a plain x g p k = absurd (omega (arith, ap kind_of p, ap kind_no k))
ack_put f a asks x g p k = absurd (omega (arith, ap kind_of p, ap kind_no k))
ack_put f a (takes t) x g p k = absurd p
ack_put f a (answers t) x g p k = inl (ap sn_of p, refl)
ack_put f a (renews t) x g p k = absurd p
ack_put f a (parts t) x g p k = absurd p
