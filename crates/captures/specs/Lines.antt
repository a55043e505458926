-- The lines of a capture.
use Rattle.std.specs.Prelude.{ℕ, ◌-◌, cond, ◌&&◌, List, length, take, drop, Ok, Err, codes, Result, ◌==◌, nat_le, nat_lt, slice_index}
use Rattle.std.specs.Str.{bytes_eq}
use Rattle.terms.specs.Outcomes.{then}
use Rattle.terms.specs.declared.identifier.Identifier.{Identifier}
use Rattle.captures.specs.declared.check.Checks.{Checks}
use Rattle.captures.specs.declared.line.Line.{Line}
use Rattle.captures.specs.declared.line.Line.TheVariants.{Note, Frame, Packet, Crc}
use Rattle.captures.specs.declared.line.LineFault.{LineFault}
use Rattle.captures.specs.declared.line.LineFault.TheVariants.{NoIdentifiers, NoKind, NotHex}
use Rattle.captures.specs.declared.parties.Parties.{Parties}
use Rattle.captures.specs.Digits.{word_value}

-- a line by what it says, wherever its text lies
pub data LineValue : Type 0 where
  note : LineValue
  frame : List ℕ → LineValue
  packet : List ℕ → LineValue
  crc : Checks → List ℕ → LineValue

abbrev pub line_value : Line → LineValue
line_value Note = note
line_value (Frame text) = frame text.now
line_value (Packet text) = packet text.now
line_value (Crc checks text) = crc checks text.now

abbrev pub line_values : Result Line LineFault → Result LineValue LineFault
line_values (Ok l) = Ok (line_value l)
line_values (Err e) = Err e

-- a line without the LF that ends it
abbrev pub text_of : List ℕ → List ℕ
text_of line = cond (nat_lt 0 (length line) && slice_index line (length line - 1) == 10) (take (length line - 1) line) line

-- two words of eight digits, each with a space behind it, and then the bytes
abbrev pub read_crc : List ℕ → Result LineValue LineFault
read_crc text =
    cond (nat_le 18 (length text))
    (cond (slice_index text 8 == 32)
    (cond (slice_index text 17 == 32)
    (then (word_value (take 8 text)) (λ first. then (word_value (take 8 (drop 9 text))) (λ second. Ok (crc record { first = first; second = second } (drop 18 text)))))
    (Err NotHex))
    (Err NotHex))
    (Err NotHex)

-- what stands behind the word at the start of a line, or another answer
abbrev pub behind : {T : Type 0} → List ℕ → List ℕ → (List ℕ → T) → T → T
behind word line use-rest otherwise = cond (bytes_eq (take (length word) line) word) (use-rest (drop (length word) line)) otherwise

-- the first byte of a line that is a note: none or `#`
abbrev pub read_line : List ℕ → Result LineValue LineFault
read_line line =
    cond (length line == 0) (Ok note)
    (cond (slice_index line 0 == 35) (Ok note)
    (behind (codes "frame ") line (λ text. Ok (frame text))
    (behind (codes "packet ") line (λ text. Ok (packet text))
    (behind (codes "crc ") line read_crc
    (Err NoKind)))))

-- sixteen digits are an identifier
abbrev pub identifier_value : List ℕ → Result Identifier LineFault
identifier_value text = then (word_value (take 8 text)) (λ first. then (word_value (drop 8 text)) (λ second. Ok record { first = first; second = second }))

-- the first line: two identifiers of sixteen digits with a space between
abbrev pub read_parties : List ℕ → Result Parties LineFault
read_parties line =
    cond (length line == 33)
    (cond (slice_index line 16 == 32)
    (then (identifier_value (take 16 line)) (λ initiator.
    then (identifier_value (drop 17 line)) (λ responder.
    Ok record { identifiers = record { initiator = initiator; responder = responder } })))
    (Err NoIdentifiers))
    (Err NoIdentifiers)
