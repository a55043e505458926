-- Values that are words.
use Rattle.std.specs.Prelude.{ℕ, Bool, true, ◌&&◌, List, [], ◌∷◌, length, nat_le}

-- each byte is printable and no space: 33 to 126
abbrev pub printable : List ℕ → Bool
printable [] = true
printable (b ∷ s) = (nat_le 33 b && nat_le b 126) && printable s

-- 1 to `longest` such bytes
abbrev pub is_word : ℕ → List ℕ → Bool
is_word longest s = (nat_le 1 (length s) && nat_le (length s) longest) && printable s
