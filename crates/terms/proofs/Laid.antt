-- Strings laid into a buffer one behind the other.
use Rattle.std.proofs.Common.{◌≡◌, ℕ, ◌+◌, ◌≤◌, leb, List, ◌++◌, length, take, drop, sym, refl, ap, ◌∙◌, ap₂, append_assoc, length-append, drop-drop, take_at, drop_at}
use borrow.Rule.Slice.PartMut.{put_mid}
use Rattle.std.proofs.lemmas.Bool.{cond-true, le-leb}
use Rattle.terms.specs.Buffers.{overlay, put_after}

-- t behind s, where s stands at the start of o already
pub laid : (s t o w l : List ℕ) (i k : ℕ) → w ≡ overlay s o → l ≡ t → i ≡ length s → k ≡ length t → length s + length t ≤ length o
    → put_mid i k w l ≡ overlay (s ++ t) o
laid s t o w l i k ew el ei ek h =
    (λ j. put_mid (ei j) (ek j) (ew j) (el j))
    ∙ ap₂ (λ x y. x ++ (t ++ y)) (take_at s (drop (length s) o) (length s) refl)
    (ap (drop (length t)) (drop_at s (drop (length s) o) (length s) refl) ∙ drop-drop (length t) (length s) o ∙ ap (λ n. drop n o) (sym (length-append s t)))
    ∙ sym (append_assoc s t (drop (length (s ++ t)) o))

-- what was laid stands at the start
pub laid_front : (s o w : List ℕ) (n : ℕ) → n ≡ length s → w ≡ overlay s o → take n w ≡ s
laid_front s o w n e is = ap (take n) is ∙ take_at s (drop (length s) o) n (sym e)

-- where there is room, s is laid
pub laid_whole : (s o : List ℕ) → length s ≤ length o → put_after s o ≡ overlay s o
laid_whole s o room = cond-true (leb (length s) (length o)) (overlay s o) o (le-leb (length s) (length o) room)
