-- What the code's tests say of a string that is read.
use Rattle.std.proofs.Common.{◌≡◌, ℕ, suc, ◌+◌, ◌≤◌, true, List, [], ◌∷◌, length, get_or, take, drop, Some, sym, refl, ap, ◌∙◌, ap₂, arith, drop-cons}
use Rattle.std.specs.Str.{bytes_eq}
use Rattle.std.proofs.lemmas.Slice.Eq.{HasBytesAt, bytes_eq-Decides}
use Rattle.terms.specs.declared.role.Role.{Role}
use Rattle.codec.specs.declared.frame_type.FrameType.{FrameType}
use Rattle.codec.specs.Frames.{head_of, most_data, read_frame, read_typed, read_as}

-- the bytes of p stand in s, from index i on
reads_from : (p s : List ℕ) (i : ℕ) → i + length p ≤ length s → HasBytesAt s i p → take (length p) (drop i s) ≡ p
reads_from [] s i h r = refl
reads_from (c ∷ p) s i h r =
    ap (take (suc (length p))) (drop-cons s i 0 (omega arith)) ∙ ap₂ (λ x xs. x ∷ xs) r.0 (reads_from p s (suc i) (omega arith) r.1)

-- a slice pattern that begins with the bytes of p
pub begins : (p s : List ℕ) → length p ≤ length s → HasBytesAt s 0 p → bytes_eq (take (length p) s) p ≡ true
begins p s h r = (bytes_eq-Decides (take (length p) s) p).1 (reads_from p s 0 (omega arith) r)

-- a string whose first byte names a type and a direction
pub frame_is : (s : List ℕ) (t : FrameType) (towards : Role) → Some (t, towards) ≡ head_of (get_or s 0 0) → read_frame s ≡ read_typed t towards most_data (drop 1 s)
frame_is [] t towards e = let z : ◌≡◌ {A = ℕ} 0 1 = cc in absurd (omega arith)
frame_is (h ∷ body) t towards e = ap (λ o. read_as o body) (sym e)
