-- Times of one history: they stand in line.
use mathlib.Core.Path.{◌≡◌, refl, sym, subst}
use mathlib.Core.Logic.{◌⊎◌, inl, inr}
use Rattle.model.specs.Times.{History, ◌▸◌, ◌≼◌, now', later}

module _ {M : Type 0} where
  pub split : {h : History M} {m : M} {g : History M} → g ≼ (h ▸ m) → (g ≡ (h ▸ m)) ⊎ (g ≼ h)
  split now' = inl refl
  split (later p) = inr p

  pub line_up : {f g h : History M} → f ≼ h → g ≼ h → (f ≼ g) ⊎ (g ≼ f)
  line_up now' q = inr q
  line_up {f} {g} (later {h} {m} p) q = go (λ r. line_up p r) (split q)
    where
      go : (g ≼ h → (f ≼ g) ⊎ (g ≼ f)) → (g ≡ (h ▸ m)) ⊎ (g ≼ h) → (f ≼ g) ⊎ (g ≼ f)
      go rec (inl e) = inl (subst (λ k. f ≼ k) (sym e) (later p))
      go rec (inr r) = rec r

  pub join : {f g h : History M} → f ≼ g → g ≼ h → f ≼ h
  join p now' = p
  join p (later q) = later (join p q)

  -- before its last call
  pub just_before : {g h : History M} {m : M} → (g ▸ m) ≼ h → g ≼ h
  just_before p = join (later now') p
