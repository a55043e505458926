-- One end alone: what its mode says of its numbers.
use mathlib.Core.Path.{◌≡◌, ap}
use Prim.Native.Nat.{ℕ, ◌+◌, ◌≤◌, ◌<◌}
use native.Mathlib.Omega.{arith}
use Rattle.terms.specs.declared.role.Role.{Role}
use Rattle.terms.specs.declared.role.Role.TheVariants.{Initiator, Responder}
use Rattle.model.specs.Model.{Mode, opening, starting, first, up, out, Shape, Limits, Tel, Deed, idle, drifts, leaves, begins, waits, opens, replies, firsts, first_answers, plain, asks, takes, answers, renews, parts, fresh, after, counts, Puts, Takes, Can}

-- modes as numbers, so that `omega` reads them
abbrev pub code : Mode → ℕ
code opening = 0
code starting = 1
code first = 2
code up = 3
code out = 4

-- how many data frames an end has put before it accepts its first
abbrev pub lead : Role → ℕ
lead Initiator = 1
lead Responder = 0

pub lead_one : (s : Role) → lead s ≤ 1
lead_one Initiator = omega arith
lead_one Responder = omega arith

-- what holds of an end of role s in each mode; `heard`: an end that has put more than its role puts unheard has accepted a telegram
pub record Own (s : Role) (l : Limits) (a : Shape) : Type 0 where
  pub opening_next : code a.mode ≡ 0 → a.next ≡ 0
  pub opening_floor : code a.mode ≡ 0 → a.floor ≡ 0
  pub starting_next : code a.mode ≡ 1 → a.next ≡ 1
  pub starting_floor : code a.mode ≡ 1 → a.floor ≡ 0
  pub starting_count : code a.mode ≡ 1 → a.count ≤ l.wait
  pub first_next : code a.mode ≡ 2 → 1 ≤ a.next
  pub first_floor : code a.mode ≡ 2 → 1 ≤ a.floor
  pub first_count : code a.mode ≡ 2 → a.count ≤ l.wait
  pub up_next : code a.mode ≡ 3 → 1 ≤ a.next
  pub up_floor : code a.mode ≡ 3 → 2 ≤ a.floor + lead s
  pub up_count : code a.mode ≡ 3 → a.count ≤ l.ask + l.wait
  pub heard : 1 + lead s ≤ a.next → 1 ≤ a.floor

pub own_fresh : (s : Role) (l : Limits) (e : ℕ) → Own s l (fresh e)
own_fresh s l e = omega arith

pub own_after : (s : Role) (l : Limits) (P : Tel → Type 0) (a : Shape) (d : Deed) → Can s l P a d → Own s l a → Own s l (after a d)
own_after s l P a idle c o = o
own_after s l P a (drifts n) c o = omega (arith, ap code c)
own_after s l P a (leaves n) c o = omega arith
own_after s l P a begins c o = omega (arith, ap lead c.0, ap code c.1)
own_after s l P a waits c o = omega arith
own_after s l P a (opens f) c o = omega (arith, ap lead c.0, ap code c.1)
own_after s l P a (replies f) c o = omega (arith, ap lead c.0, ap code c.1)
own_after s l P a (firsts f) c o = omega (arith, ap lead c.0, ap code c.1)
own_after s l P a (first_answers f) c o = omega (arith, ap lead c.0, ap code c.1)
own_after s l P a plain c o = omega (arith, ap code c.0, lead_one s)
own_after s l P a asks c o = omega (arith, ap code c.0, lead_one s)
own_after s l P a (takes f) c o = omega (arith, ap code c.0)
own_after s l P a (answers f) c o = omega (arith, ap code c.0)
own_after s l P a (renews f) c o = omega (arith, ap code c.0)
own_after s l P a (parts f) c o = omega (arith, ap code c.0)

-- numbers only rise
pub next_after : (a : Shape) (d : Deed) → a.next ≤ (after a d).next
next_after a idle = omega arith
next_after a (drifts n) = omega arith
next_after a (leaves n) = omega arith
next_after a begins = omega arith
next_after a waits = omega arith
next_after a (opens f) = omega arith
next_after a (replies f) = omega arith
next_after a (firsts f) = omega arith
next_after a (first_answers f) = omega arith
next_after a plain = omega arith
next_after a asks = omega arith
next_after a (takes f) = omega arith
next_after a (answers f) = omega arith
next_after a (renews f) = omega arith
next_after a (parts f) = omega arith

-- and what is accepted was put: `n` is the sender's next number
pub floor_after : (s : Role) (l : Limits) (n : ℕ) (a : Shape) (d : Deed) → Can s l (λ f. f.sn < n) a d → Own s l a → a.floor ≤ n → (a.floor ≤ (after a d).floor) × ((after a d).floor ≤ n)
floor_after s l n a idle c o h = omega arith
floor_after s l n a (drifts m) c o h = omega arith
floor_after s l n a (leaves m) c o h = omega arith
floor_after s l n a begins c o h = omega arith
floor_after s l n a waits c o h = omega arith
floor_after s l n a (opens f) c o h = omega (arith, ap code c.1)
floor_after s l n a (replies f) c o h = omega (arith, ap code c.1)
floor_after s l n a (firsts f) c o h = omega arith
floor_after s l n a (first_answers f) c o h = omega arith
floor_after s l n a plain c o h = omega arith
floor_after s l n a asks c o h = omega arith
floor_after s l n a (takes f) c o h = omega arith
floor_after s l n a (answers f) c o h = omega arith
floor_after s l n a (renews f) c o h = omega arith
floor_after s l n a (parts f) c o h = omega arith

abbrev pub sn_of : Tel → ℕ
sn_of f = f.sn

abbrev pub ec_of : Tel → ℕ
ec_of f = f.ec

-- a telegram that is put has the next number, which is then used up
pub put_next : (f : Tel) (a : Shape) (d : Deed) → Puts f a d → (f.sn ≡ a.next) × ((after a d).next ≡ f.sn + 1)
put_next f a idle p = absurd p
put_next f a (drifts n) p = absurd p
put_next f a (leaves n) p = absurd p
put_next f a begins p = omega (arith, ap sn_of p)
put_next f a waits p = absurd p
put_next f a (opens g) p = absurd p
put_next f a (replies g) p = omega (arith, ap sn_of p)
put_next f a (firsts g) p = absurd p
put_next f a (first_answers g) p = omega (arith, ap sn_of p)
put_next f a plain p = omega (arith, ap sn_of p)
put_next f a asks p = omega (arith, ap sn_of p)
put_next f a (takes g) p = absurd p
put_next f a (answers g) p = omega (arith, ap sn_of p)
put_next f a (renews g) p = absurd p
put_next f a (parts g) p = absurd p

-- an end that is not out has counted all its ticks: `n` is the EC that these give
abbrev pub Counted : Shape → ℕ → Type 0
Counted a n = code a.mode ≤ 3 → a.ec ≡ n

pub counted_after : (s : Role) (l : Limits) (P : Tel → Type 0) (a : Shape) (d : Deed) (n : ℕ) → Can s l P a d → Counted a n → Counted (after a d) (n + counts d)
counted_after s l P a idle n c h = omega arith
counted_after s l P a (drifts m) n c h = omega arith
counted_after s l P a (leaves m) n c h = omega arith
counted_after s l P a begins n c h = omega (arith, ap code c.1)
counted_after s l P a waits n c h = omega arith
counted_after s l P a (opens f) n c h = omega (arith, ap code c.1)
counted_after s l P a (replies f) n c h = omega (arith, ap code c.1)
counted_after s l P a (firsts f) n c h = omega (arith, ap code c.1)
counted_after s l P a (first_answers f) n c h = omega (arith, ap code c.1)
counted_after s l P a plain n c h = omega arith
counted_after s l P a asks n c h = omega arith
counted_after s l P a (takes f) n c h = omega arith
counted_after s l P a (answers f) n c h = omega arith
counted_after s l P a (renews f) n c h = omega arith
counted_after s l P a (parts f) n c h = omega arith

pub put_ec : (s : Role) (l : Limits) (P : Tel → Type 0) (f : Tel) (a : Shape) (d : Deed) (n : ℕ) → Can s l P a d → Puts f a d → Counted a n → f.ec ≡ n + counts d
put_ec s l P f a idle n c p h = absurd p
put_ec s l P f a (drifts m) n c p h = absurd p
put_ec s l P f a (leaves m) n c p h = absurd p
put_ec s l P f a begins n c p h = omega (arith, ap ec_of p, ap code c.1)
put_ec s l P f a waits n c p h = absurd p
put_ec s l P f a (opens g) n c p h = absurd p
put_ec s l P f a (replies g) n c p h = omega (arith, ap ec_of p, ap code c.1)
put_ec s l P f a (firsts g) n c p h = absurd p
put_ec s l P f a (first_answers g) n c p h = omega (arith, ap ec_of p, ap code c.1)
put_ec s l P f a plain n c p h = omega (arith, ap ec_of p, ap code c.0)
put_ec s l P f a asks n c p h = omega (arith, ap ec_of p, ap code c.0)
put_ec s l P f a (takes g) n c p h = absurd p
put_ec s l P f a (answers g) n c p h = omega (arith, ap ec_of p, ap code c.0)
put_ec s l P f a (renews g) n c p h = absurd p
put_ec s l P f a (parts g) n c p h = absurd p

-- what is taken is newer than all accepted before, and is accepted
pub taken : (s : Role) (l : Limits) (P : Tel → Type 0) (f : Tel) (a : Shape) (d : Deed) → Can s l P a d → Takes f d → (a.floor ≤ f.sn) × ((after a d).floor ≡ f.sn + 1)
taken s l P f a idle c t = absurd t
taken s l P f a (drifts m) c t = absurd t
taken s l P f a (leaves m) c t = absurd t
taken s l P f a begins c t = absurd t
taken s l P f a waits c t = absurd t
taken s l P f a (opens g) c t = absurd t
taken s l P f a (replies g) c t = absurd t
taken s l P f a (firsts g) c t = omega (arith, ap sn_of t)
taken s l P f a (first_answers g) c t = omega (arith, ap sn_of t)
taken s l P f a plain c t = absurd t
taken s l P f a asks c t = absurd t
taken s l P f a (takes g) c t = omega (arith, ap sn_of t)
taken s l P f a (answers g) c t = omega (arith, ap sn_of t)
taken s l P f a (renews g) c t = omega (arith, ap sn_of t)
taken s l P f a (parts g) c t = omega (arith, ap sn_of t)

-- what an end can do by telegrams of which P holds it can do by telegrams of which Q does
pub can_by : (s : Role) (l : Limits) (P Q : Tel → Type 0) (a : Shape) (d : Deed) → ((f : Tel) → P f → Q f) → Can s l P a d → Can s l Q a d
can_by s l P Q a idle h c = c
can_by s l P Q a (drifts m) h c = c
can_by s l P Q a (leaves m) h c = c
can_by s l P Q a begins h c = c
can_by s l P Q a waits h c = c
can_by s l P Q a (opens f) h c = (c.0, c.1, c.2, h f c.3)
can_by s l P Q a (replies f) h c = (c.0, c.1, c.2, h f c.3)
can_by s l P Q a (firsts f) h c = (c.0, c.1, c.2, c.3, h f c.4)
can_by s l P Q a (first_answers f) h c = (c.0, c.1, c.2, c.3, h f c.4)
can_by s l P Q a plain h c = c
can_by s l P Q a asks h c = c
can_by s l P Q a (takes f) h c = (c.0, c.1, c.2, h f c.3)
can_by s l P Q a (answers f) h c = (c.0, c.1, c.2, h f c.3)
can_by s l P Q a (renews f) h c = (c.0, c.1, c.2, c.3, h f c.4)
can_by s l P Q a (parts f) h c = (c.0, c.1, c.2, h f c.3)
