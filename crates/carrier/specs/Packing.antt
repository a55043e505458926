-- How strings lie in a memory: from its start, the oldest first, each as its length in two bytes, the high one first, and then its bytes.
use Rattle.std.specs.Prelude.{◌≡◌, ℕ, zero, suc, ◌+◌, ◌*◌, ◌/◌, ◌%◌, ◌<◌, ◌≤◌, List, [], ◌∷◌, ◌++◌, length, take, drop, slice_index, slice_index_or}
use Rattle.std.specs.List.{flat_map}
use Rattle.carrier.specs.Rules.{Strings, greatest_length}

-- a string as it lies in a memory
abbrev pub packed : List ℕ → List ℕ
packed s = length s / 256 ∷ (length s % 256 ∷ s)

-- the bytes that the strings take up: two more than its own for each
abbrev pub bulk : Strings → ℕ
bulk ss = length (flat_map packed ss)

-- a memory whose first bytes are the strings, its other bytes as they were
abbrev pub laid_out : Strings → List ℕ → List ℕ
laid_out ss memory = flat_map packed ss ++ drop (bulk ss) memory

-- the length of the string that stands first
abbrev pub first_length : List ℕ → ℕ
first_length bytes = slice_index bytes 0 * 256 + slice_index bytes 1

-- the first k strings of a memory
abbrev pub unpacked : ℕ → List ℕ → Strings
unpacked zero bytes = []
unpacked (suc k) bytes = take (first_length bytes) (drop 2 bytes) ∷ unpacked k (drop (first_length bytes + 2) bytes)

-- the first `used` bytes of a memory are `count` strings
abbrev pub Whole : List ℕ → ℕ → ℕ → Type 0
Whole memory used count = take used memory ≡ flat_map packed (unpacked count memory)

-- none of the strings is longer than a carrier takes
abbrev pub Short : Strings → Type 0
Short ss = (k : ℕ) → k < length ss → length (slice_index_or ss k []) ≤ greatest_length
