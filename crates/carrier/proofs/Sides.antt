-- Facts that every proof of a carrier wants.
use Rattle.std.proofs.Common.{◌≡◌, ℕ, zero, suc, ◌<◌, [], ◌∷◌, length, get_or, refl, subst, arith}
use mathlib.Core.List.{Memᴰ}
use Rattle.terms.specs.declared.role.Role.{Role}
use Rattle.terms.specs.declared.role.Role.TheVariants.{Initiator, Responder}
use Rattle.terms.specs.Roles.{far}
use Rattle.carrier.specs.Rules.{Strings, NoGain}

pub both : (P : Role → Type 0) (from : Role) → P from → P (far from) → (side : Role) → P side
both P Initiator a b Initiator = a
both P Initiator a b Responder = b
both P Responder a b Initiator = b
both P Responder a b Responder = a

pub no_gain_same : (before after : Strings) → after ≡ before → NoGain before after
no_gain_same before after e t m = subst (λ (x : Strings). Memᴰ t x) e m

pub mem_get_or : (ss : Strings) (k : ℕ) → k < length ss → Memᴰ (get_or ss k []) ss
mem_get_or [] k lt = absurd (omega arith)
mem_get_or (s ∷ ss) zero lt = Memᴰ.head refl
mem_get_or (s ∷ ss) (suc k) lt = Memᴰ.tail (mem_get_or ss k (omega arith))
