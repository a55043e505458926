-- The end of a listing; the text of delivered bytes; a run has as many lines as calls.
use Rattle.std.proofs.Common.{◌≡◌, ℕ, ◌+◌, ◌<◌, List, [], ◌∷◌, map, length, refl, ap, arith, ◌⊎◌, inl, inr, length-append, length-drop}
use Rattle.std.proofs.lemmas.List.{length-map}
use Rattle.carrier.specs.Rules.{Meaning}
use Rattle.params.specs.Calls.{OwnCall}
use Rattle.params.specs.Made.{Sheet}
use Rattle.link.specs.declared.runs.Line.{Line}
use Rattle.link.specs.declared.runs.Numbers.{Numbers}
use Rattle.link.specs.Times.{History, new, ◌▸◌}
use Rattle.link.specs.Runs.{Moment}
use Rattle.link.specs.Tells.{deeds, told, asked_of, told_by, RunMade}
use Rattle.rehearsal.specs.Listing.{shown_byte, got_text, entries}

-- where no calls or no lines are left, no entries are
pub entries_end : (n : ℕ) (cs : List OwnCall) (ls : List Line) → (length cs ≡ 0) ⊎ (length ls ≡ 0) → entries n cs ls ≡ []
entries_end n [] ls h = refl
entries_end n (c ∷ cs) [] h = refl
entries_end n (c ∷ cs) (l ∷ ls) (inl h) = absurd (omega arith)
entries_end n (c ∷ cs) (l ∷ ls) (inr h) = absurd (omega arith)

-- bytes that are there
pub got_some : (bs : List ℕ) → 0 < length bs → map shown_byte bs ≡ got_text bs
got_some [] h = absurd (omega arith)
got_some (b ∷ bs) h = refl

-- as many deeds as answers
lengths : (h : History Moment) → length (deeds h) ≡ length (told h)
lengths new = refl
lengths (h ▸ m) = simp length-append (ap (λ n. n + 1) (lengths h))

-- each call of a run has one line: with `entries`, the listing shows all of both
pub as_many : (sheet : Sheet) (n : Numbers) (m m' : Meaning) (calls : List OwnCall) (lines : List Line)
    → RunMade sheet n m m' calls (map told_by lines) → length lines ≡ length calls
as_many sheet n m m' calls lines r =
    let a = ap length r.asked in
    let b = ap length r.said in
    omega (arith, a, b, lengths r.history, length-drop 2 (told r.history), length-map calls asked_of, length-map lines told_by)
