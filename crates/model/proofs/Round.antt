-- The round of asking and answering between the two ends, free of histories.
use mathlib.Core.Path.{◌≡◌, ap}
use mathlib.Core.Bool.{Bool, true, false}
use mathlib.Core.Logic.{◌⊎◌}
use Prim.Native.Nat.{ℕ, ◌+◌, ◌≤◌, ◌<◌}
use native.Mathlib.Omega.{arith}
use Rattle.terms.specs.declared.role.Role.{Role}
use Rattle.terms.specs.declared.role.Role.TheVariants.{Initiator, Responder}
use Rattle.terms.specs.Roles.{far}
use Rattle.model.specs.Model.{Shape, Limits, Tel, req, ack, Deed, idle, drifts, leaves, begins, waits, opens, replies, firsts, first_answers, plain, asks, takes, answers, renews, parts, after, counts, Can}
use Rattle.model.proofs.Ends.{code, lead, lead_one, Own}

-- of the telegrams of one kind that an end put: the number of the latest, of the one before, and a time of the latest; 0 where there is none
pub record Marks : Type 0 where
  pub now : ℕ
  pub before : ℕ
  pub time : ℕ

abbrev pub unmarked : Marks
unmarked = record { now = 0; before = 0; time = 0 }

-- one more, if it is of the kind
abbrev pub note : Bool → ℕ → ℕ → Marks → Marks
note true n x g = record { now = n; before = g.now; time = x }
note false n x g = g

-- deeds that put AM+REQ; AM+ACK
abbrev pub puts_req : Deed → Bool
puts_req idle = false
puts_req (drifts n) = false
puts_req (leaves n) = false
puts_req begins = false
puts_req waits = false
puts_req (opens t) = false
puts_req (replies t) = false
puts_req (firsts t) = false
puts_req (first_answers t) = false
puts_req plain = false
puts_req asks = true
puts_req (takes t) = false
puts_req (answers t) = false
puts_req (renews t) = false
puts_req (parts t) = false

abbrev pub puts_ack : Deed → Bool
puts_ack idle = false
puts_ack (drifts n) = false
puts_ack (leaves n) = false
puts_ack begins = false
puts_ack waits = false
puts_ack (opens t) = false
puts_ack (replies t) = false
puts_ack (firsts t) = false
puts_ack (first_answers t) = true
puts_ack plain = false
puts_ack asks = false
puts_ack (takes t) = false
puts_ack (answers t) = true
puts_ack (renews t) = false
puts_ack (parts t) = false

-- while the receiver is up: an AM+ACK that it may yet accept is due and was put after it asked, at most one is on its way, and none while its AM+REQ is
pub record Live (l : Limits) (e f : Shape) (x : ℕ) (q a : Marks) : Type 0 where
  pub due : e.floor ≤ a.now → l.ask ≤ e.count
  pub quick : e.floor ≤ a.now → l.ask + x ≤ e.count + a.time
  pub one_ack : a.before < e.floor
  pub asked : f.floor ≤ q.now → l.ask ≤ e.count
  pub unanswered : f.floor ≤ q.now → a.now < e.floor
  pub one_req : q.before < f.floor

-- the receiver asks only while it is up, and the other end only answers
pub record Marked (e : Shape) (q a : Marks) : Type 0 where
  pub not_yet : code e.mode ≤ 2 → q.now ≡ 0
  pub no_cause : q.now ≡ 0 → a.now ≡ 0

-- the one before is not after the latest
abbrev pub Ordered : Marks → Type 0
Ordered g = g.before ≤ g.now

-- what is known of a telegram that the other end put; of one that the receiver put
abbrev pub OfOther : Shape → Marks → Tel → Type 0
OfOther f a t = (t.sn < f.next) × (t.kind ≡ ack → (t.sn ≡ a.now) ⊎ (t.sn ≤ a.before))

abbrev pub OfMe : Shape → Marks → Tel → Type 0
OfMe e q t = (t.sn < e.next) × (t.kind ≡ req → (t.sn ≡ q.now) ⊎ (t.sn ≤ q.before))

-- the two ends, each alone, and what has gone between them
pub record Both (s : Role) (l k : Limits) (e f : Shape) : Type 0 where
  pub me : Own s l e
  pub other : Own (far s) k f
  pub me_heard : e.floor ≤ f.next
  pub other_heard : f.floor ≤ e.next

pub leads : (s : Role) → lead s + lead (far s) ≡ 1
leads Initiator = omega arith
leads Responder = omega arith

pub marked_here : (s : Role) (l : Limits) (e f : Shape) (x : ℕ) (q a : Marks) (d : Deed) → Can s l (OfOther f a) e d → Own s l e → Marked e q a → Marked (after e d) (note (puts_req d) e.next x q) a
marked_here s l e f x q a idle c o r = omega arith
marked_here s l e f x q a (drifts n) c o r = omega (arith, ap code c)
marked_here s l e f x q a (leaves n) c o r = omega arith
marked_here s l e f x q a begins c o r = omega (arith, ap code c.1)
marked_here s l e f x q a waits c o r = omega arith
marked_here s l e f x q a (opens t) c o r = omega (arith, ap code c.1)
marked_here s l e f x q a (replies t) c o r = omega (arith, ap code c.1)
marked_here s l e f x q a (firsts t) c o r = omega (arith, ap code c.1)
marked_here s l e f x q a (first_answers t) c o r = omega (arith, ap code c.1)
marked_here s l e f x q a plain c o r = omega (arith, ap code c.0)
marked_here s l e f x q a asks c o r = omega (arith, ap code c.0)
marked_here s l e f x q a (takes t) c o r = omega (arith, ap code c.0)
marked_here s l e f x q a (answers t) c o r = omega (arith, ap code c.0)
marked_here s l e f x q a (renews t) c o r = omega (arith, ap code c.0)
marked_here s l e f x q a (parts t) c o r = omega (arith, ap code c.0)

-- before the receiver asks, nothing is on its way
no_ack : (l : Limits) (e f : Shape) (x : ℕ) (q a : Marks) → Live l e f x q a → e.count < l.ask → a.now < e.floor
no_ack l e f x q a v c = let n : ¬ (e.floor ≤ a.now) = λ h. omega (arith, v.due h) in omega arith

no_req : (l : Limits) (e f : Shape) (x : ℕ) (q a : Marks) → Live l e f x q a → e.count < l.ask → q.now < f.floor
no_req l e f x q a v c = let n : ¬ (f.floor ≤ q.now) = λ h. omega (arith, v.asked h) in omega arith

pub live_here : (s : Role) (l : Limits) (e f : Shape) (x : ℕ) (q a : Marks) (d : Deed) → Can s l (OfOther f a) e d → Ordered q → Ordered a → Marked e q a → 1 ≤ f.floor → (code e.mode ≡ 3 → Live l e f x q a) → code (after e d).mode ≡ 3 → Live l (after e d) f (x + counts d) (note (puts_req d) e.next x q) a
live_here s l e f x q a idle c b b' r o v u = let w = v u in omega arith
live_here s l e f x q a (drifts n) c b b' r o v u = absurd (omega (arith, ap code c))
live_here s l e f x q a (leaves n) c b b' r o v u = absurd (omega arith)
live_here s l e f x q a begins c b b' r o v u = absurd (omega (arith, ap code c.1))
live_here s l e f x q a waits c b b' r o v u = let w = v u in omega arith
live_here s l e f x q a (opens t) c b b' r o v u = omega (arith, ap code c.1)
live_here s l e f x q a (replies t) c b b' r o v u = absurd (omega (arith, ap code c.1))
live_here s l e f x q a (firsts t) c b b' r o v u = omega (arith, ap code c.1)
live_here s l e f x q a (first_answers t) c b b' r o v u = omega (arith, ap code c.1)
live_here s l e f x q a plain c b b' r o v u = let w = v u in omega arith
live_here s l e f x q a asks c b b' r o v u = let w = v u in omega (arith, no_ack l e f x q a w (omega arith), no_req l e f x q a w (omega arith))
live_here s l e f x q a (takes t) c b b' r o v u = let w = v u in omega arith
live_here s l e f x q a (answers t) c b b' r o v u = let w = v u in omega arith
live_here s l e f x q a (renews t) c b b' r o v u = let w = v u in omega (arith, c.4.1 c.2)
live_here s l e f x q a (parts t) c b b' r o v u = absurd (omega (arith, ap code c.0))

-- an AM+REQ that the other end answers has a number above 0, since it has accepted one before
pub marked_there : (s : Role) (k : Limits) (e f : Shape) (x : ℕ) (q a : Marks) (d : Deed) → Can s k (OfMe e q) f d → Own s k f → Ordered q → Marked e q a → Marked e q (note (puts_ack d) f.next x a)
marked_there s k e f x q a idle c o b r = omega arith
marked_there s k e f x q a (drifts n) c o b r = omega arith
marked_there s k e f x q a (leaves n) c o b r = omega arith
marked_there s k e f x q a begins c o b r = omega arith
marked_there s k e f x q a waits c o b r = omega arith
marked_there s k e f x q a (opens t) c o b r = omega arith
marked_there s k e f x q a (replies t) c o b r = omega arith
marked_there s k e f x q a (firsts t) c o b r = omega arith
marked_there s k e f x q a (first_answers t) c o b r = omega (arith, ap code c.1, c.4.1 c.3)
marked_there s k e f x q a plain c o b r = omega arith
marked_there s k e f x q a asks c o b r = omega arith
marked_there s k e f x q a (takes t) c o b r = omega arith
marked_there s k e f x q a (answers t) c o b r = omega (arith, ap code c.0, lead_one s, c.3.1 c.2)
marked_there s k e f x q a (renews t) c o b r = omega arith
marked_there s k e f x q a (parts t) c o b r = omega arith

pub live_there : (s : Role) (l k : Limits) (e f : Shape) (x : ℕ) (q a : Marks) (d : Deed) → Can s k (OfMe e q) f d → Own s k f → Live l e f x q a → Live l e (after f d) x q (note (puts_ack d) f.next x a)
live_there s l k e f x q a idle c o v = omega arith
live_there s l k e f x q a (drifts n) c o v = omega arith
live_there s l k e f x q a (leaves n) c o v = omega arith
live_there s l k e f x q a begins c o v = omega arith
live_there s l k e f x q a waits c o v = omega arith
live_there s l k e f x q a (opens t) c o v = omega (arith, ap code c.1)
live_there s l k e f x q a (replies t) c o v = omega (arith, ap code c.1)
live_there s l k e f x q a (firsts t) c o v = omega (arith, ap code c.1)
live_there s l k e f x q a (first_answers t) c o v = omega (arith, ap code c.1, c.4.1 c.3)
live_there s l k e f x q a plain c o v = omega arith
live_there s l k e f x q a asks c o v = omega arith
live_there s l k e f x q a (takes t) c o v = omega arith
live_there s l k e f x q a (answers t) c o v = omega (arith, ap code c.0, c.3.1 c.2)
live_there s l k e f x q a (renews t) c o v = omega arith
live_there s l k e f x q a (parts t) c o v = omega arith
