-- The safety code and the word that it is laid under.
use Rattle.std.specs.Prelude.{ℕ, ◌+◌, ◌*◌, ◌^◌, List, bit_xor}
use Rattle.safety.specs.declared.crc.Channel.TheVariants.{First, Second}
use Rattle.terms.specs.Identifiers.{identifier_number}
use Rattle.terms.specs.declared.identifier.Identifier.{Identifier}
use Rattle.safety.specs.Remainder.{polynomial, remainder}

-- both checks of a string, the first the higher
unfoldable pub checks : List ℕ → ℕ
checks s = remainder (polynomial First) s * 2 ^ 32 + remainder (polynomial Second) s

-- the code of a string under a word
abbrev pub code_of : ℕ → List ℕ → ℕ
code_of word s = bit_xor (checks s) word

-- the word under which a string has a code
abbrev pub word_borne : ℕ → List ℕ → ℕ
word_borne code s = bit_xor (checks s) code

-- the word by which a receiver reads what a sender with this session number made
abbrev pub connection_word : Identifier → ℕ → ℕ
connection_word receiver session = bit_xor (identifier_number receiver) session
