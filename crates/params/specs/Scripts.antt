-- A script: the line of names, then a line for each call.
use Rattle.std.specs.Prelude.{ℕ, zero, suc, ◌+◌, cond, List, [], ◌∷◌, ◌++◌, length, Ok, Err, codes, Result, ◌==◌}
use Rattle.std.specs.Str.{bytes_eq}
use Rattle.terms.specs.declared.role.Role.{Role}
use Rattle.terms.specs.declared.role.Role.TheVariants.{Initiator, Responder}
use Rattle.terms.specs.Outcomes.{then}
use Rattle.texts.specs.declared.fault.Fault.{Fault}
use Rattle.texts.specs.declared.fault.Fault.TheVariants.{WrongCount, WrongForm}
use Rattle.texts.specs.declared.fault.File.TheVariants.{Script}
use Rattle.texts.specs.declared.fault.FileFault.{FileFault}
use Rattle.texts.specs.declared.fault.LineFault.{LineFault}
use Rattle.texts.specs.Columns.{text_in}
use Rattle.texts.specs.Faults.{at_column, on_line, whole_line}
use Rattle.texts.specs.Headings.{read_names, read_end}
use Rattle.texts.specs.Pieces.{before, after, count_of}
use Rattle.texts.specs.Words.{is_word}
use Rattle.params.specs.declared.call.Action.{Action}
use Rattle.params.specs.declared.call.Action.TheVariants as action
use Rattle.params.specs.Calls.{Said}

-- column 1
abbrev pub read_role : List ℕ → Result Role Fault
read_role s = cond (bytes_eq s (codes "I")) (Ok Initiator) (cond (bytes_eq s (codes "R")) (Ok Responder) (Err WrongForm))

-- column 2: what the end does, its message apart
abbrev pub read_deed : List ℕ → Result (Action (Unit {0})) Fault
read_deed s =
    cond (bytes_eq s (codes "tick")) (Ok (action.Tick tt))
    (cond (bytes_eq s (codes "fetch")) (Ok action.Fetch)
    (cond (bytes_eq s (codes "stop")) (Ok action.Stop) (Err WrongForm)))

-- the message of a tick: none for `-`, or a word of at most 64 bytes
abbrev pub read_message : List ℕ → Result (List ℕ) Fault
read_message s = cond (bytes_eq s (codes "-")) (Ok []) (cond (is_word 64 s) (Ok s) (Err WrongForm))

-- column 3: a tick's message; the others have `-` in its place
abbrev pub read_text : Action (Unit {0}) → List ℕ → Result (Action (List ℕ)) Fault
read_text (action.Tick _) s = then (read_message s) (λ m. Ok (action.Tick m))
read_text action.Fetch s = cond (bytes_eq s (codes "-")) (Ok action.Fetch) (Err WrongForm)
read_text action.Stop s = cond (bytes_eq s (codes "-")) (Ok action.Stop) (Err WrongForm)

-- a line has three values, so two spaces; then come the values in order
abbrev pub read_values : List ℕ → Result Said LineFault
read_values line =
    cond (count_of 32 line == 2)
    (then (at_column (read_role (text_in 1 line)) 1) (λ r.
    then (at_column (read_deed (text_in 2 line)) 2) (λ d.
    then (at_column (read_text d (text_in 3 line)) 3) (λ a.
    Ok record { end = r; action = a }))))
    (Err (whole_line WrongCount))

-- the call that a text begins with, which is line n of the script
abbrev pub read_call : ℕ → List ℕ → Result Said FileFault
read_call n text =
    then (on_line (read_end text) Script n) (λ _. on_line (read_values (before 10 text)) Script n)

-- one call before others
abbrev pub ahead : List Said → Result (List Said) FileFault → Result (List Said) FileFault
ahead cs (Ok ds) = Ok (cs ++ ds)
ahead cs (Err e) = Err e

-- the calls from line n on, of which k may still come
unfoldable pub read_calls : ℕ → ℕ → List ℕ → Result (List Said) FileFault
read_calls zero n text = cond (length text == 0) (Ok []) (on_line (Err (whole_line WrongCount)) Script n)
read_calls (suc k) n text =
    cond (length text == 0) (Ok [])
    (then (read_call n text) (λ c. ahead (c ∷ []) (read_calls k (n + 1) (after 10 text))))

-- the line of names
abbrev pub script_names : List ℕ
script_names = codes "end do text"

-- up to 800 calls, from line 2 on, or the first fault
abbrev pub read_script : List ℕ → Result (List Said) FileFault
read_script text = then (on_line (read_names script_names text) Script 1) (λ _. read_calls 800 2 (after 10 text))

-- the first call of a script
abbrev pub first_call : List ℕ → Result Said FileFault
first_call text = then (on_line (read_names script_names text) Script 1) (λ _. read_call 2 (after 10 text))
