-- A string that a call puts: its length, and what it leaves in the output buffer.
use Rattle.std.specs.Prelude.{◌≡◌, ℕ, ◌≤◌, List, length, take, Some, None, Option}
use Rattle.terms.specs.Buffers.{overlay}

-- the longest frame
abbrev pub longest_frame : ℕ
longest_frame = 1041

abbrev pub put_length : Option (List ℕ) → Option ℕ
put_length None = None
put_length (Some s) = Some (length s)

-- the output buffer begins with what was put, and its rest stays
abbrev pub put_into : Option (List ℕ) → List ℕ → List ℕ
put_into None out = out
put_into (Some s) out = overlay s out

-- a string laid at the start of a buffer, if there is one: the answer is its length
pub record Lays (put : Option (List ℕ)) (out out' : List ℕ) (n : Option ℕ) : Type 0 where
  pub value : n ≡ put_length put
  pub after : out' ≡ put_into put out

-- the string of this length at the start of the output buffer
abbrev pub front : Option ℕ → List ℕ → Option (List ℕ)
front None out = None
front (Some n) out = Some (take n out)

-- within a buffer of so many bytes
abbrev pub Fits : Option ℕ → ℕ → Type 0
Fits None size = Unit {0}
Fits (Some n) size = n ≤ size
