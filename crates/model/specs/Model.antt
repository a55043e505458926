-- Two ends that open, number their telegrams, ask for acknowledgements and keep an expectation, seen from one of them, the receiver.
-- What a call does to an end is a `Deed`; which call did what is left to the two functions `who` and `deed`.
use Rattle.std.specs.Prelude.{◌≡◌, ◌⊎◌, ℕ, ◌+◌, ◌≤◌}
use Rattle.terms.specs.declared.role.Role.{Role}
use Rattle.terms.specs.declared.role.Role.TheVariants.{Initiator, Responder}
use Rattle.terms.specs.Roles.{far}
use Rattle.model.specs.Times.{History, new, ◌▸◌, ◌≼◌}

-- the receiver, or the other end
pub data Who : Type 0 where
  here : Who
  there : Who

-- opening: no data frame put or accepted that matters; starting: an initiator that waits for ECStart; first: a responder that waits for its first telegram
pub data Mode : Type 0 where
  opening : Mode
  starting : Mode
  first : Mode
  up : Mode
  out : Mode

-- next: the SN of the next data frame; floor: one more than the last accepted SN; synced: the EC that the expectation was last set to
pub record Shape : Type 0 where
  pub mode : Mode
  pub next : ℕ
  pub floor : ℕ
  pub ec : ℕ
  pub count : ℕ
  pub synced : ℕ

pub record Limits : Type 0 where
  pub ask : ℕ
  pub wait : ℕ
  pub mmax : ℕ

pub data Kind : Type 0 where
  start : Kind
  am : Kind
  req : Kind
  ack : Kind

pub record Tel : Type 0 where
  pub kind : Kind
  pub sn : ℕ
  pub ec : ℕ

pub data Deed : Type 0 where
  idle : Deed
  drifts : ℕ → Deed
  leaves : ℕ → Deed
  begins : Deed
  waits : Deed
  opens : Tel → Deed
  replies : Tel → Deed
  firsts : Tel → Deed
  first_answers : Tel → Deed
  plain : Deed
  asks : Deed
  takes : Tel → Deed
  answers : Tel → Deed
  renews : Tel → Deed
  parts : Tel → Deed

abbrev pub fresh : ℕ → Shape
fresh e = record { mode = opening; next = 0; floor = 0; ec = e; count = 0; synced = 0 }

abbrev pub after : Shape → Deed → Shape
after a idle = a
after a (drifts n) = record { mode = a.mode; next = a.next; floor = a.floor; ec = a.ec + n; count = a.count + n; synced = a.synced }
after a (leaves n) = record { mode = out; next = a.next; floor = a.floor; ec = a.ec; count = a.count; synced = a.synced }
after a begins = record { mode = starting; next = a.next + 1; floor = a.floor; ec = a.ec; count = 0; synced = a.synced }
after a waits = record { mode = a.mode; next = a.next; floor = a.floor; ec = a.ec + 1; count = a.count + 1; synced = a.synced }
after a (opens f) = record { mode = up; next = a.next; floor = f.sn + 1; ec = a.ec; count = 0; synced = f.ec }
after a (replies f) = record { mode = first; next = a.next + 1; floor = f.sn + 1; ec = a.ec; count = 0; synced = f.ec }
after a (firsts f) = record { mode = up; next = a.next; floor = f.sn + 1; ec = a.ec; count = 0; synced = f.ec }
after a (first_answers f) = record { mode = up; next = a.next + 1; floor = f.sn + 1; ec = a.ec; count = 0; synced = f.ec }
after a plain = record { mode = a.mode; next = a.next + 1; floor = a.floor; ec = a.ec + 1; count = a.count + 1; synced = a.synced }
after a asks = record { mode = a.mode; next = a.next + 1; floor = a.floor; ec = a.ec + 1; count = a.count + 1; synced = a.synced }
after a (takes f) = record { mode = a.mode; next = a.next; floor = f.sn + 1; ec = a.ec; count = a.count; synced = a.synced }
after a (answers f) = record { mode = a.mode; next = a.next + 1; floor = f.sn + 1; ec = a.ec; count = a.count; synced = a.synced }
after a (renews f) = record { mode = a.mode; next = a.next; floor = f.sn + 1; ec = a.ec; count = 0; synced = f.ec }
after a (parts f) = record { mode = out; next = a.next; floor = f.sn + 1; ec = a.ec; count = a.count; synced = a.synced }

-- the ticks that a call counts
abbrev pub counts : Deed → ℕ
counts idle = 0
counts (drifts n) = n
counts (leaves n) = n
counts begins = 0
counts waits = 1
counts (opens f) = 0
counts (replies f) = 0
counts (firsts f) = 0
counts (first_answers f) = 0
counts plain = 1
counts asks = 1
counts (takes f) = 0
counts (answers f) = 0
counts (renews f) = 0
counts (parts f) = 0

-- the telegram f is put by this deed of an end that was a
abbrev pub Puts : Tel → Shape → Deed → Type 0
Puts f a idle = ⊥
Puts f a (drifts n) = ⊥
Puts f a (leaves n) = ⊥
Puts f a begins = f ≡ record { kind = start; sn = a.next; ec = a.ec }
Puts f a waits = ⊥
Puts f a (opens g) = ⊥
Puts f a (replies g) = f ≡ record { kind = start; sn = a.next; ec = a.ec }
Puts f a (firsts g) = ⊥
Puts f a (first_answers g) = f ≡ record { kind = ack; sn = a.next; ec = a.ec }
Puts f a plain = f ≡ record { kind = am; sn = a.next; ec = a.ec + 1 }
Puts f a asks = f ≡ record { kind = req; sn = a.next; ec = a.ec + 1 }
Puts f a (takes g) = ⊥
Puts f a (answers g) = f ≡ record { kind = ack; sn = a.next; ec = a.ec }
Puts f a (renews g) = ⊥
Puts f a (parts g) = ⊥

-- newer than all accepted, and not too old for the expectation
abbrev pub Good : Limits → Shape → Tel → Type 0
Good l a f = (a.floor ≤ f.sn) × (a.synced + a.count ≤ f.ec + l.mmax)

-- what each deed asks of an end of this role
abbrev pub Can : Role → Limits → (Tel → Type 0) → Shape → Deed → Type 0
Can s l from a idle = Unit {0}
Can s l from a (drifts n) = a.mode ≡ opening
Can s l from a (leaves n) = Unit {0}
Can s l from a begins = (s ≡ Initiator) × (a.mode ≡ opening)
Can s l from a waits = ((a.mode ≡ starting) ⊎ (a.mode ≡ first)) × (a.count + 1 ≤ l.wait)
Can s l from a (opens f) = (s ≡ Initiator) × (a.mode ≡ starting) × (f.kind ≡ start) × from f
Can s l from a (replies f) = (s ≡ Responder) × (a.mode ≡ opening) × (f.kind ≡ start) × from f
Can s l from a (firsts f) = (s ≡ Responder) × (a.mode ≡ first) × Good l a f × (f.kind ≡ am) × from f
Can s l from a (first_answers f) = (s ≡ Responder) × (a.mode ≡ first) × Good l a f × (f.kind ≡ req) × from f
Can s l from a plain = (a.mode ≡ up) × (a.count + 1 ≡ l.ask → ⊥) × (a.count + 1 ≤ l.ask + l.wait)
Can s l from a asks = (a.mode ≡ up) × (a.count + 1 ≡ l.ask)
Can s l from a (takes f) = (a.mode ≡ up) × Good l a f × (f.kind ≡ am) × from f
Can s l from a (answers f) = (a.mode ≡ up) × Good l a f × (f.kind ≡ req) × from f
Can s l from a (renews f) = (a.mode ≡ up) × Good l a f × (f.kind ≡ ack) × (l.ask ≤ a.count) × from f
Can s l from a (parts f) = (a.mode ≡ up) × Good l a f × (f.kind ≡ req) × from f

-- the telegram whose message a deed may deliver
abbrev pub Takes : Tel → Deed → Type 0
Takes f idle = ⊥
Takes f (drifts n) = ⊥
Takes f (leaves n) = ⊥
Takes f begins = ⊥
Takes f waits = ⊥
Takes f (opens g) = ⊥
Takes f (replies g) = ⊥
Takes f (firsts g) = f ≡ g
Takes f (first_answers g) = f ≡ g
Takes f plain = ⊥
Takes f asks = ⊥
Takes f (takes g) = f ≡ g
Takes f (answers g) = f ≡ g
Takes f (renews g) = f ≡ g
Takes f (parts g) = f ≡ g

-- the telegram by which a deed synchronises
abbrev pub Syncs : Tel → Deed → Type 0
Syncs f idle = ⊥
Syncs f (drifts n) = ⊥
Syncs f (leaves n) = ⊥
Syncs f begins = ⊥
Syncs f waits = ⊥
Syncs f (opens g) = f ≡ g
Syncs f (replies g) = ⊥
Syncs f (firsts g) = f ≡ g
Syncs f (first_answers g) = f ≡ g
Syncs f plain = ⊥
Syncs f asks = ⊥
Syncs f (takes g) = ⊥
Syncs f (answers g) = ⊥
Syncs f (renews g) = f ≡ g
Syncs f (parts g) = ⊥

abbrev pub by : {A : Type 0} → Who → A → A → A
by here x y = x
by there x y = y

-- the same of statements
abbrev pub By : Who → Type 0 → Type 0 → Type 0
By here x y = x
By there x y = y

module _ {M : Type 0} (who : M → Who) (deed : M → Deed) (my_ec other_ec : ℕ) where
  -- the receiver and the other end after a history
  abbrev pub mine : History M → Shape
  mine new = fresh my_ec
  mine (h ▸ m) = by (who m) (after (mine h) (deed m)) (mine h)

  abbrev pub other : History M → Shape
  other new = fresh other_ec
  other (h ▸ m) = by (who m) (other h) (after (other h) (deed m))

  -- their ticks
  abbrev pub my_ticks : History M → ℕ
  my_ticks new = 0
  my_ticks (h ▸ m) = by (who m) (my_ticks h + counts (deed m)) (my_ticks h)

  abbrev pub other_ticks : History M → ℕ
  other_ticks new = 0
  other_ticks (h ▸ m) = by (who m) (other_ticks h) (other_ticks h + counts (deed m))

  -- f was put by the other end; by the receiver
  pub record FromOther (f : Tel) (h : History M) : Type 0 where
    pub i : History M
    pub m : M
    pub earlier : (i ▸ m) ≼ h
    pub mover : who m ≡ there
    pub puts : Puts f (other i) (deed m)

  pub record FromMe (f : Tel) (h : History M) : Type 0 where
    pub i : History M
    pub m : M
    pub earlier : (i ▸ m) ≼ h
    pub mover : who m ≡ here
    pub puts : Puts f (mine i) (deed m)

  -- a succession of deeds, each of which its end can do; s is the receiver's role
  abbrev pub Ran : Role → Limits → Limits → History M → Type 0
  Ran s l k new = Unit {0}
  Ran s l k (h ▸ m) =
      Ran s l k h × By (who m) (Can s l (λ f. FromOther f h) (mine h) (deed m)) (Can (far s) k (λ f. FromMe f h) (other h) (deed m))

  -- the latest telegram by which the receiver synchronised, by the time h
  pub record Synchronised (h : History M) : Type 0 where
    pub k : History M
    pub m : M
    pub f : Tel
    pub until : (k ▸ m) ≼ h
    pub mover : who m ≡ here
    pub syncs : Syncs f (deed m)
    pub latest : (g : History M) (n : M) → (g ▸ n) ≼ h → who n ≡ here → (x : Tel) → Syncs x (deed n) → (g ▸ n) ≼ (k ▸ m)

  -- later deliveries have later sends
  abbrev pub Order : Type 0
  Order = (s : Role) (l k : Limits) (j : History M) (m : M) (f : Tel) (h : History M) (n : M) (g : Tel)
      → Ran s l k (h ▸ n) → (j ▸ m) ≼ h → who m ≡ here → who n ≡ here → Takes f (deed m) → Takes g (deed n)
      → (q : FromOther f j) (r : FromOther g h) → (q.i ▸ q.m) ≼ r.i

  -- what is taken is not before the latest synchronising telegram, and not too old
  abbrev pub Young : Type 0
  Young = (s : Role) (l k : Limits) (h : History M) (m : M) (f : Tel)
      → Ran s l k (h ▸ m) → who m ≡ here → Takes f (deed m)
      → (y : Synchronised (h ▸ m)) × ((p : FromOther y.f y.k) (q : FromOther f h)
      → ((p.i ▸ p.m) ≼ (q.i ▸ q.m))
      × (my_ticks h + other_ticks (p.i ▸ p.m) ≤ l.wait + l.mmax + other_ticks (q.i ▸ q.m) + my_ticks (p.i ▸ p.m)))

  -- an end that is up synchronised not long ago
  abbrev pub Recent : Type 0
  Recent = (s : Role) (l k : Limits) (h : History M) → Ran s l k h → (mine h).mode ≡ up
      → (y : Synchronised h) × (my_ticks h ≤ my_ticks (y.k ▸ y.m) + (l.ask + l.wait))
