-- Where a text is cut.
use Rattle.std.specs.Prelude.{ℕ, zero, suc, ◌+◌, cond, List, [], ◌∷◌, ◌==◌}

-- what stands before the first c, and what behind it
abbrev pub before : ℕ → List ℕ → List ℕ
before c [] = []
before c (b ∷ s) = cond (b == c) [] (b ∷ before c s)

abbrev pub after : ℕ → List ℕ → List ℕ
after c [] = []
after c (b ∷ s) = cond (b == c) s (after c s)

-- how often c stands in a text
abbrev pub count_of : ℕ → List ℕ → ℕ
count_of c [] = 0
count_of c (b ∷ s) = cond (b == c) 1 0 + count_of c s

-- what is left of a line behind its first k values; a space is 32
abbrev pub past : ℕ → List ℕ → List ℕ
past zero s = s
past (suc k) s = past k (after 32 s)

-- the value in column k of a line, from 0
abbrev pub value_at : ℕ → List ℕ → List ℕ
value_at k s = before 32 (past k s)
