-- How a deed of the receiver stands to its expectation: it keeps it, or sets it by a telegram.
use mathlib.Core.Path.{◌≡◌, refl, ap}
use mathlib.Core.Logic.{◌⊎◌, inl, inr}
use Prim.Native.Nat.{ℕ, ◌+◌, ◌≤◌}
use native.Mathlib.Omega.{arith}
use Rattle.terms.specs.declared.role.Role.{Role}
use Rattle.terms.specs.Roles.{far}
use Rattle.model.specs.Model.{Shape, Limits, Tel, ack, Deed, idle, drifts, leaves, begins, waits, opens, replies, firsts, first_answers, plain, asks, takes, answers, renews, parts, after, counts, Takes, Syncs, Can}
use Rattle.model.proofs.Ends.{code, lead, Own, sn_of, ec_of}
use Rattle.model.proofs.Round.{leads}

-- while an end starts, its count tells the ticks since x, when it had begun already; y: its ticks now
abbrev pub Since : ℕ → Shape → ℕ → Type 0
Since x a y = (code a.mode ≡ 1 → y ≤ x + a.count) × (code a.mode ≡ 2 → y ≤ x + a.count)

pub since_after : (s : Role) (l : Limits) (P : Tel → Type 0) (x y : ℕ) (a : Shape) (d : Deed) → Can s l P a d → Own s l a → 1 ≤ a.next → Since x a y → Since x (after a d) (y + counts d)
since_after s l P x y a idle c o h z = omega arith
since_after s l P x y a (drifts n) c o h z = omega (arith, ap code c)
since_after s l P x y a (leaves n) c o h z = omega arith
since_after s l P x y a begins c o h z = absurd (omega (arith, ap code c.1))
since_after s l P x y a waits c o h z = omega arith
since_after s l P x y a (opens t) c o h z = omega arith
since_after s l P x y a (replies t) c o h z = absurd (omega (arith, ap code c.1))
since_after s l P x y a (firsts t) c o h z = omega arith
since_after s l P x y a (first_answers t) c o h z = omega arith
since_after s l P x y a plain c o h z = omega (arith, ap code c.0)
since_after s l P x y a asks c o h z = omega (arith, ap code c.0)
since_after s l P x y a (takes t) c o h z = omega (arith, ap code c.0)
since_after s l P x y a (answers t) c o h z = omega (arith, ap code c.0)
since_after s l P x y a (renews t) c o h z = omega (arith, ap code c.0)
since_after s l P x y a (parts t) c o h z = omega arith

-- the expectation is kept by an end that is up
pub record Kept (a : Shape) (d : Deed) : Type 0 where
  pub was_up : code a.mode ≡ 3
  pub silent : (x : Tel) → Syncs x d → ⊥
  pub count : (after a d).count ≡ a.count + counts d
  pub synced : (after a d).synced ≡ a.synced
  pub floor : a.floor ≤ (after a d).floor

-- why a telegram may set it: it is the first of an end that starts, or an acknowledgement
abbrev pub Cause : Role → Shape → Tel → Type 0
Cause s a f = (((code a.mode ≡ 1) ⊎ (code a.mode ≡ 2)) × (lead (far s) ≤ f.sn)) ⊎ ((code a.mode ≡ 3) × (a.floor ≤ f.sn) × (f.kind ≡ ack))

pub record Set (s : Role) (P : Tel → Type 0) (a : Shape) (d : Deed) : Type 0 where
  pub f : Tel
  pub syncs : Syncs f d
  pub from : P f
  pub ticks : counts d ≡ 0
  pub count : (after a d).count ≡ 0
  pub synced : (after a d).synced ≡ f.ec
  pub floor : (after a d).floor ≡ f.sn + 1
  pub cause : Cause s a f

set_opens : (s : Role) (l : Limits) (P : Tel → Type 0) (a : Shape) (t : Tel) → Can s l P a (opens t) → Own s l a → Set s P a (opens t)
set_opens s l P a t c o = record { f = t; syncs = refl; from = c.3; ticks = refl; count = refl; synced = refl; floor = refl; cause = inl (inl (ap code c.1), omega (arith, leads s, ap lead c.0)) }

set_firsts : (s : Role) (l : Limits) (P : Tel → Type 0) (a : Shape) (t : Tel) → Can s l P a (firsts t) → Own s l a → Set s P a (firsts t)
set_firsts s l P a t c o = record { f = t; syncs = refl; from = c.4; ticks = refl; count = refl; synced = refl; floor = refl; cause = inl (inr (ap code c.1), omega (arith, leads s, o.first_floor (ap code c.1))) }

set_first_answers : (s : Role) (l : Limits) (P : Tel → Type 0) (a : Shape) (t : Tel) → Can s l P a (first_answers t) → Own s l a → Set s P a (first_answers t)
set_first_answers s l P a t c o = record { f = t; syncs = refl; from = c.4; ticks = refl; count = refl; synced = refl; floor = refl; cause = inl (inr (ap code c.1), omega (arith, leads s, o.first_floor (ap code c.1))) }

set_renews : (s : Role) (l : Limits) (P : Tel → Type 0) (a : Shape) (t : Tel) → Can s l P a (renews t) → Own s l a → Set s P a (renews t)
set_renews s l P a t c o = record { f = t; syncs = refl; from = c.4; ticks = refl; count = refl; synced = refl; floor = refl; cause = inr (ap code c.0, c.1.0, c.2) }

-- an end that is up after a deed
pub way : (s : Role) (l : Limits) (P : Tel → Type 0) (a : Shape) (d : Deed) → Can s l P a d → Own s l a → code (after a d).mode ≡ 3 → Kept a d ⊎ Set s P a d
way s l P a idle c o u = inl (record { was_up = u; silent = λ x y. y; count = omega arith; synced = refl; floor = omega arith })
way s l P a (drifts n) c o u = absurd (omega (arith, ap code c))
way s l P a (leaves n) c o u = absurd (omega arith)
way s l P a begins c o u = absurd (omega arith)
way s l P a waits c o u = inl (record { was_up = u; silent = λ x y. y; count = omega arith; synced = refl; floor = omega arith })
way s l P a (opens t) c o u = inr (set_opens s l P a t c o)
way s l P a (replies t) c o u = absurd (omega arith)
way s l P a (firsts t) c o u = inr (set_firsts s l P a t c o)
way s l P a (first_answers t) c o u = inr (set_first_answers s l P a t c o)
way s l P a plain c o u = inl (record { was_up = u; silent = λ x y. y; count = omega arith; synced = refl; floor = omega arith })
way s l P a asks c o u = inl (record { was_up = u; silent = λ x y. y; count = omega arith; synced = refl; floor = omega arith })
way s l P a (takes t) c o u = inl (record { was_up = u; silent = λ x y. y; count = omega arith; synced = refl; floor = omega arith })
way s l P a (answers t) c o u = inl (record { was_up = u; silent = λ x y. y; count = omega arith; synced = refl; floor = omega arith })
way s l P a (renews t) c o u = inr (set_renews s l P a t c o)
way s l P a (parts t) c o u = absurd (omega arith)

-- a telegram that is taken without setting the expectation
pub record Judged (l : Limits) (a : Shape) (d : Deed) (f : Tel) : Type 0 where
  pub was_up : code a.mode ≡ 3
  pub silent : (x : Tel) → Syncs x d → ⊥
  pub newer : a.floor ≤ f.sn
  pub young : a.synced + a.count ≤ f.ec + l.mmax

pub take : (s : Role) (l : Limits) (P : Tel → Type 0) (f : Tel) (a : Shape) (d : Deed) → Can s l P a d → Own s l a → Takes f d → Judged l a d f ⊎ ((z : Set s P a d) × (f ≡ z.f))
unfolding set_firsts set_first_answers set_renews
take s l P f a idle c o y = absurd y
take s l P f a (drifts n) c o y = absurd y
take s l P f a (leaves n) c o y = absurd y
take s l P f a begins c o y = absurd y
take s l P f a waits c o y = absurd y
take s l P f a (opens t) c o y = absurd y
take s l P f a (replies t) c o y = absurd y
take s l P f a (firsts t) c o y = inr (set_firsts s l P a t c o, y)
take s l P f a (first_answers t) c o y = inr (set_first_answers s l P a t c o, y)
take s l P f a plain c o y = absurd y
take s l P f a asks c o y = absurd y
take s l P f a (takes t) c o y = inl (record { was_up = ap code c.0; silent = λ x y. y; newer = omega (arith, ap sn_of y); young = omega (arith, ap ec_of y) })
take s l P f a (answers t) c o y = inl (record { was_up = ap code c.0; silent = λ x y. y; newer = omega (arith, ap sn_of y); young = omega (arith, ap ec_of y) })
take s l P f a (renews t) c o y = inr (set_renews s l P a t c o, y)
take s l P f a (parts t) c o y = inl (record { was_up = ap code c.0; silent = λ x y. y; newer = omega (arith, ap sn_of y); young = omega (arith, ap ec_of y) })
