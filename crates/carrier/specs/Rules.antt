-- What a carrier means to those who use it, and the rules that every carrier keeps:
-- a put adds at most the one string to the far side's list, and a fetch takes a string of its own side's list.
use Rattle.std.specs.Prelude.{◌≡◌, ℕ, ◌<◌, ◌≤◌, ◌⊎◌, List, length, take, drop, Some, None, Ok, Err, Option, Result}
use mathlib.Core.List.{Memᴰ}
use Rattle.terms.specs.declared.role.Role.{Role}
use Rattle.terms.specs.declared.refusal.Refusal.{Refusal}
use Rattle.terms.specs.declared.refusal.Refusal.TheVariants.{StringTooLong, BufferTooShort}
use Rattle.terms.specs.Roles.{far}
use Rattle.carrier.specs.declared.Keeping.{Keeping}
use Rattle.carrier.specs.declared.Keeping.TheVariants.{Kept, NotKept}

-- no carrier's largest length is above this
abbrev pub greatest_length : ℕ
greatest_length = 1100

-- byte strings, in some order
abbrev pub Strings : Type 0
Strings = List (List ℕ)

-- the largest length of a string, and for each side the strings that may still come out there
pub record Meaning : Type 0 where
  pub largest : ℕ
  pub strings : Role → Strings

-- each string of the second list is one of the first
abbrev pub NoGain : Strings → Strings → Type 0
NoGain before after = (t : List ℕ) → Memᴰ t after → Memᴰ t before

-- each string of the second list is one of the first, or is s
abbrev pub GainsOnly : List ℕ → Strings → Strings → Type 0
GainsOnly s before after = (t : List ℕ) → Memᴰ t after → Memᴰ t before ⊎ (t ≡ s)

-- the meaning is as it was
pub record Unchanged (m m' : Meaning) : Type 0 where
  pub maximum : m'.largest ≡ m.largest
  pub same : (side : Role) → m'.strings side ≡ m.strings side

-- no side's list gains a string
pub record NoGains (m m' : Meaning) : Type 0 where
  pub maximum : m'.largest ≡ m.largest
  pub none : (side : Role) → NoGain (m.strings side) (m'.strings side)

-- a put that is refused
pub record PutRefused (m m' : Meaning) (s : List ℕ) (e : Refusal) : Type 0 where
  pub reason : e ≡ StringTooLong
  pub long : m.largest < length s
  pub same : Unchanged m m'

-- a put that is kept: what comes out at the far side could before, or is s
pub record PutKept (m m' : Meaning) (from : Role) (s : List ℕ) : Type 0 where
  pub fits : length s ≤ m.largest
  pub maximum : m'.largest ≡ m.largest
  pub near : NoGain (m.strings from) (m'.strings from)
  pub across : GainsOnly s (m.strings (far from)) (m'.strings (far from))

-- a put that is not kept
pub record PutNotKept (m m' : Meaning) (s : List ℕ) : Type 0 where
  pub fits : length s ≤ m.largest
  pub none : NoGains m m'

-- the rules for a put of s from a side, by what it answers
abbrev pub PutRules : Meaning → Meaning → Role → List ℕ → Result Keeping Refusal → Type 0
PutRules m m' from s (Err e) = PutRefused m m' s e
PutRules m m' from s (Ok Kept) = PutKept m m' from s
PutRules m m' from s (Ok NotKept) = PutNotKept m m' s

-- a fetch that is refused
pub record FetchRefused (m m' : Meaning) (buf buf' : List ℕ) (e : Refusal) : Type 0 where
  pub reason : e ≡ BufferTooShort
  pub short : length buf < m.largest
  pub same : Unchanged m m'
  pub written : buf' ≡ buf

-- a fetch that nothing comes out of
pub record FetchNone (m m' : Meaning) (buf buf' : List ℕ) : Type 0 where
  pub room : m.largest ≤ length buf
  pub none : NoGains m m'
  pub written : buf' ≡ buf

-- a fetch that a string of n bytes comes out of: it stands at the buffer's start, and is one of the side's list
pub record FetchSome (m m' : Meaning) (at : Role) (buf buf' : List ℕ) (n : ℕ) : Type 0 where
  pub room : m.largest ≤ length buf
  pub none : NoGains m m'
  pub within : n ≤ length buf
  pub came : Memᴰ (take n buf') (m.strings at)
  pub rest : drop n buf' ≡ drop n buf

-- the rules for a fetch at a side into a buffer, by what it answers
abbrev pub FetchRules : Meaning → Meaning → Role → List ℕ → List ℕ → Result (Option ℕ) Refusal → Type 0
FetchRules m m' at buf buf' (Err e) = FetchRefused m m' buf buf' e
FetchRules m m' at buf buf' (Ok None) = FetchNone m m' buf buf'
FetchRules m m' at buf buf' (Ok (Some n)) = FetchSome m m' at buf buf' n
