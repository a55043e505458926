-- The text of a listing.
use Rattle.std.specs.Prelude.{ℕ, suc, cond, List, [], ◌∷◌, ◌++◌, map, vec_items, codes, decimal, nat_lt}
use Rattle.terms.specs.Roles.{letter}
use Rattle.params.specs.Calls.{OwnCall, action_word}
use Rattle.states.specs.States.{state_word}
use Rattle.link.specs.declared.runs.Line.{Line}
use Rattle.rehearsal.specs.Columns.{why_of, why_text}

-- a byte of a delivered text; what is no ASCII shows as a question mark, 63
abbrev pub shown_byte : ℕ → ℕ
shown_byte b = cond (nat_lt b 128) b 63

-- a delivered text, `-` for none
abbrev pub got_text : List ℕ → List ℕ
got_text [] = codes "-"
got_text (b ∷ bs) = shown_byte b ∷ map shown_byte bs

-- the columns of one line, with a space, 32, between them, and a line feed, 10, behind them
abbrev pub entry_text : ℕ → OwnCall → Line → List ℕ
entry_text step c l =
    decimal step
    ++ (32 ∷ (letter c.end
    ++ (32 ∷ (action_word c.action
    ++ (32 ∷ (state_word l.answer.status
    ++ (32 ∷ (got_text (vec_items l.got)
    ++ (32 ∷ (why_text (why_of l.answer) ++ (10 ∷ [])))))))))))

-- a line for each call, numbered on
abbrev pub entries : ℕ → List OwnCall → List Line → List ℕ
entries step [] ls = []
entries step (c ∷ cs) [] = []
entries step (c ∷ cs) (l ∷ ls) = entry_text step c l ++ entries (suc step) cs ls

abbrev pub heading : List ℕ
heading = codes "step end do state got reason\n"

abbrev pub listing_text : List OwnCall → List Line → List ℕ
listing_text cs ls = heading ++ entries 1 cs ls
