-- Times: a history is the calls so far, the latest last, and is also the time after its last call.
pub data History (M : Type 0) : Type 0 where
  new : History M
  ◌▸◌ : History M → M → History M

infixl 30 ◌▸◌
-- g is h, or what h was at an earlier time
pub data ◌≼◌ {M : Type 0} (g : History M) : History M → Type 0 where
  now' : g ≼ g
  later : {h : History M} {m : M} → g ≼ h → g ≼ (h ▸ m)

infix 20 ◌≼◌
