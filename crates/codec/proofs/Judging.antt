-- Each string is exactly one frame, or is refused for exactly one reason.
use Rattle.std.proofs.Common.{◌≡◌, ℕ, suc, ◌-◌, ◌^◌, ◌<◌, ◌≤◌, true, false, cond, ◌&&◌, eqb, leb, ◌≢◌, ◌⊎◌, List, [], ◌∷◌, ◌++◌, length, get_or, take, drop, Some, None, Ok, Err, Option, Result, sym, refl, ap, ◌∙◌, subst, ap₂, inl, inr, ⊎_elim, arith, length-append, length-drop, take-append-drop, length-take, drop-drop, take_at, drop_at}
use Rattle.std.specs.Str.{bytes_eq}
use Rattle.std.proofs.lemmas.Slice.Eq.{bytes_eq-Decides}
use Rattle.std.proofs.lemmas.Bool.{cond-true, cond-false, cond_both, ne_eqb, and_from, and_parts, le-leb, leb-true, cases_eq, eqb-true}
use Rattle.terms.specs.declared.refusal.Refusal.{Refusal}
use Rattle.terms.specs.declared.refusal.Refusal.TheVariants as refusal
use Rattle.terms.specs.declared.role.Role.{Role}
use Rattle.terms.specs.declared.role.Role.TheVariants.{Initiator, Responder}
use Rattle.codec.specs.declared.frame_type.FrameType.{FrameType}
use Rattle.codec.specs.declared.frame_type.FrameType.TheVariants as type
use Rattle.terms.specs.Numbers.{number, bytes, Bytes}
use Rattle.codec.specs.FrameTypes.{Goes, first_byte, suits_length}
use Rattle.codec.specs.Frames.{FrameValue, bare_di, au1, au2, au3, ar, di, dt, most_data, fixed_bytes, ignored_text, sized, bytes_of, head_of, read_frame, read_as, read_body, read_dt}
use Rattle.codec.specs.FrameLaws.{Writing, UnknownType, NoFrame, Judged, settled, WrittenAgain, FitsFields}
use Rattle.terms.proofs.Numbers.{number_back, bytes_back, number_lt, Bytes-drop, spell, spelled}

-- the first byte of a frame names it
head_first : (t : FrameType) (towards : Role) → Goes t towards → head_of (first_byte t towards) ≡ Some (t, towards)
head_first type.Au1 Initiator g = cc
head_first type.Au1 Responder g = refl
head_first type.Au2 Initiator g = refl
head_first type.Au2 Responder g = cc
head_first type.Au3 Initiator g = cc
head_first type.Au3 Responder g = refl
head_first type.Dt Initiator g = refl
head_first type.Dt Responder g = refl
head_first type.Di Initiator g = refl
head_first type.Di Responder g = refl
head_first type.Ar Initiator g = refl
head_first type.Ar Responder g = cc

-- a first byte is that of a frame, or names none
Named : ℕ → Type 0
Named h = ((t : FrameType) × (towards : Role) × Goes t towards × (h ≡ first_byte t towards)) ⊎ (head_of h ≡ None)

none : (h : ℕ) → h ≢ 2 → h ≢ 5 → h ≢ 6 → h ≢ 10 → h ≢ 11 → h ≢ 16 → h ≢ 17 → h ≢ 19 → head_of h ≡ None
none h a b c d e f g i = simp (ne_eqb h 2 a, ne_eqb h 5 b, ne_eqb h 6 c, ne_eqb h 10 d, ne_eqb h 11 e, ne_eqb h 16 f, ne_eqb h 17 g, ne_eqb h 19 i)

named : (h : ℕ) → Named h
unfolding Named
named h =
    ⊎_elim (λ e. inl (type.Au1, Responder, refl, e)) (λ n2.
    ⊎_elim (λ e. inl (type.Au2, Initiator, refl, e)) (λ n5.
    ⊎_elim (λ e. inl (type.Au3, Responder, refl, e)) (λ n6.
    ⊎_elim (λ e. inl (type.Dt, Responder, tt, e)) (λ n10.
    ⊎_elim (λ e. inl (type.Dt, Initiator, tt, e)) (λ n11.
    ⊎_elim (λ e. inl (type.Di, Responder, tt, e)) (λ n16.
    ⊎_elim (λ e. inl (type.Di, Initiator, tt, e)) (λ n17.
    ⊎_elim (λ e. inl (type.Ar, Initiator, refl, e)) (λ n19. inr (none h n2 n5 n6 n10 n11 n16 n17 n19))
    (cases_eq h 19)) (cases_eq h 17)) (cases_eq h 16)) (cases_eq h 11)) (cases_eq h 10)) (cases_eq h 6)) (cases_eq h 5)) (cases_eq h 2)

-- ---- what is written is read

data_back : (towards : Role) (t c : List ℕ) → 9 ≤ length t → length t ≤ 1032 → length c ≡ 8
    → cond (leb 18 (suc (length (t ++ c))) && leb (suc (length (t ++ c))) 1041) (read_dt towards (t ++ c)) (Err refusal.FrameLength) ≡ Ok (dt towards t c)
data_back towards t c low high code =
    let long = length-append t c in
    let n : length t ≡ length (t ++ c) - 8 = omega arith in
    cond-true _ _ _ (and_from _ _ (le-leb 18 (suc (length (t ++ c))) (omega arith)) (le-leb (suc (length (t ++ c))) 1041 (omega arith)))
    ∙ ap₂ (λ x y. Ok (dt towards x y)) (take_at t c (length (t ++ c) - 8) n) (drop_at t c (length (t ++ c) - 8) n)

au2_back : (mix : ℕ) (ignored : List ℕ) → mix < 2 ^ 64 → length ignored ≡ 8 → read_frame (5 ∷ (fixed_bytes ++ (ignored ++ bytes 8 mix))) ≡ Ok (au2 mix)
unfolding spell
au2_back mix ignored h e =
    ap (λ l. read_frame (5 ∷ (fixed_bytes ++ (l ++ bytes 8 mix)))) (sym (spelled 8 ignored e)) ∙ ap (λ n. Ok (au2 n)) (number_back 8 mix h)

pub writing_reads : (f : FrameValue) (s : List ℕ) → Writing f s → read_frame s ≡ Ok f
writing_reads bare_di s w = ap read_frame w
writing_reads (au1 rb) s w = ap read_frame w.1 ∙ ap (λ n. Ok (au1 n)) (number_back 8 rb w.0)
writing_reads (au2 mix) s w = ap read_frame w.1.2 ∙ au2_back mix w.1.0 w.0 w.1.1
writing_reads (au3 mix) s w = ap read_frame w.1 ∙ ap (λ n. Ok (au3 n)) (number_back 8 mix w.0)
writing_reads (ar rb) s w = ap read_frame w.1 ∙ ap (λ n. Ok (ar n)) (number_back 8 rb w.0)
writing_reads (di Initiator codes) s w = ap read_frame w
writing_reads (di Responder codes) s w = ap read_frame w
writing_reads (dt Initiator t c) s w = ap read_frame w.3 ∙ data_back Initiator t c w.0 w.1 w.2
writing_reads (dt Responder t c) s w = ap read_frame w.3 ∙ data_back Responder t c w.0 w.1 w.2

-- ---- why a string is refused

known_reads : (t : FrameType) (towards : Role) (body s : List ℕ) → Goes t towards → s ≡ first_byte t towards ∷ body
    → read_frame s ≡ cond (suits_length t (length s) most_data) (read_body t towards body) (Err refusal.FrameLength)
known_reads t towards body s g e =
    ap read_frame e ∙ ap (λ o. read_as o body) (head_first t towards g)
    ∙ ap (λ n. cond (suits_length t n most_data) (read_body t towards body) (Err refusal.FrameLength)) (sym (ap length e))

differ : (body : List ℕ) → (take 4 body ≡ fixed_bytes → ⊥) → bytes_eq (take 4 body) fixed_bytes ≡ false
differ body no-match =
    elim (bytes_eq (take 4 body) fixed_bytes) as (λ b. (b ≡ bytes_eq (take 4 body) fixed_bytes) → b ≡ false) [ true ↦ (λ e. absurd (no-match ((bytes_eq-Decides _ _).0 (sym e)))) | false ↦ (λ e. refl) ] refl

fixed_reads : (t : FrameType) (towards : Role) (body : List ℕ) → (t ≡ type.Au1) ⊎ (t ≡ type.Au2) → (take 4 body ≡ fixed_bytes → ⊥)
    → read_body t towards body ≡ Err refusal.FrameFixed
fixed_reads t towards body which no-match =
    ⊎_elim (λ e. ap (λ k. read_body k towards body) e ∙ cond-false _ _ _ (differ body no-match)) (λ e. ap (λ k. read_body k towards body) e ∙ cond-false _ _ _ (differ body no-match)) which

unknown_reads : (s : List ℕ) → UnknownType s → read_frame s ≡ Err refusal.FrameType
unfolding Named
unknown_reads s u =
    ⊎_elim (λ k. absurd (u.3 k.0 k.1 k.2 k.3)) (λ e. ap read_frame u.2 ∙ ap (λ o. read_as o u.1) e) (named u.0)

pub refused_reads : (s : List ℕ) (e : Refusal) → NoFrame s e → read_frame s ≡ Err e
refused_reads s e why =
    ⊎_elim (λ u. unknown_reads s u.1 ∙ ap Err (sym u.0))
    (⊎_elim
    (λ w. known_reads w.1.0 w.1.1 w.1.2 s w.1.3 w.1.4 ∙ cond-false _ _ _ w.1.5 ∙ ap Err (sym w.0))
    (λ w. known_reads w.1.0 w.1.1 w.1.2 s w.1.3 w.1.4 ∙ cond-true _ _ _ w.1.5 ∙ fixed_reads w.1.0 w.1.1 w.1.2 w.1.6 w.1.7 ∙ ap Err (sym w.0)))
    why

-- ---- what is read was written so

-- the answer says what the string is
Sound : List ℕ → Result FrameValue Refusal → Type 0
Sound s (Ok f) = Writing f s
Sound s (Err e) = NoFrame s e

fixed_front : (body : List ℕ) → bytes_eq (take 4 body) fixed_bytes ≡ true → fixed_bytes ++ drop 4 body ≡ body
fixed_front body same =
    let front : take 4 body ≡ fixed_bytes = (bytes_eq-Decides _ _).0 same in
    ap (λ l. l ++ drop 4 body) (sym front) ∙ take-append-drop 4 body

fits_64 : (s : List ℕ) → Bytes s → length s ≡ 8 → number 0 s < 2 ^ 64
fits_64 s h e = let low = subst (λ n. number 0 s < 256 ^ n) e (number_lt s h) in omega arith

sound_au1 : (body : List ℕ) → Bytes body → suc (length body) ≡ 13 → Sound (2 ∷ body) (read_body type.Au1 Responder body)
unfolding Sound
sound_au1 body h n =
    cond_both (bytes_eq (take 4 body) fixed_bytes) _ _ (Sound (2 ∷ body))
    (λ same.
    let rest = drop 4 body in
    let long : length rest ≡ 8 = length-drop 4 body ∙ (omega arith) in
    let hr = Bytes-drop 4 body h in
    (fits_64 rest hr long, ap (λ l. 2 ∷ l) (sym (ap (λ l. fixed_bytes ++ l) (bytes_back 8 rest hr long) ∙ fixed_front body same))))
    (λ other. inr (inr (refl, (type.Au1, Responder, body, refl, refl, ap (λ k. eqb k 13) n, inl refl, (λ e. let z : true ≡ false = sym ((bytes_eq-Decides _ _).1 e) ∙ other in cc)))))

sound_au2 : (body : List ℕ) → Bytes body → suc (length body) ≡ 21 → Sound (5 ∷ body) (read_body type.Au2 Initiator body)
unfolding Sound
sound_au2 body h n =
    cond_both (bytes_eq (take 4 body) fixed_bytes) _ _ (Sound (5 ∷ body))
    (λ same.
    let rest = drop 12 body in
    let long : length rest ≡ 8 = length-drop 12 body ∙ (omega arith) in
    let hr = Bytes-drop 12 body h in
    let ignored = take 8 (drop 4 body) in
    let eight : length ignored ≡ 8 = simp (length-take, length-drop) (omega arith) in
    let whole : ignored ++ bytes 8 (number 0 rest) ≡ drop 4 body = ap (λ l. ignored ++ l) (bytes_back 8 rest hr long ∙ sym (drop-drop 8 4 body)) ∙ take-append-drop 8 (drop 4 body) in
    (fits_64 rest hr long, (ignored, eight, ap (λ l. 5 ∷ l) (sym (ap (λ l. fixed_bytes ++ l) whole ∙ fixed_front body same)))))
    (λ other. inr (inr (refl, (type.Au2, Initiator, body, refl, refl, ap (λ k. eqb k 21) n, inr refl, (λ e. let z : true ≡ false = sym ((bytes_eq-Decides _ _).1 e) ∙ other in cc)))))

two : (s : List ℕ) → length s ≡ 2 → get_or s 0 0 ∷ get_or s 1 0 ∷ [] ≡ s
unfolding spell
two s e = spelled 2 s e

-- a data frame's parts, by the lengths that it may have
sound_dt : (towards : Role) (body : List ℕ) → 17 ≤ length body → length body ≤ 1040 → Sound (first_byte type.Dt towards ∷ body) (read_body type.Dt towards body)
unfolding Sound
sound_dt towards body low high =
    let n = length body - 8 in
    let front : length (take n body) ≡ n = simp length-take (omega arith) in
    let back : length (drop n body) ≡ 8 = length-drop n body ∙ (omega arith) in
    (omega arith, omega arith, back, ap (λ l. first_byte type.Dt towards ∷ l) (sym (take-append-drop n body)))

sound_body : (t : FrameType) (towards : Role) (body : List ℕ) → Bytes body → Goes t towards → suits_length t (suc (length body)) most_data ≡ true
    → Sound (first_byte t towards ∷ body) (read_body t towards body)
unfolding Sound
sound_body type.Au1 towards body h g k = subst (λ w. Sound (first_byte type.Au1 w ∷ body) (read_body type.Au1 w body)) (sym g) (sound_au1 body h (eqb-true _ _ k))
sound_body type.Au2 towards body h g k = subst (λ w. Sound (first_byte type.Au2 w ∷ body) (read_body type.Au2 w body)) (sym g) (sound_au2 body h (eqb-true _ _ k))
sound_body type.Au3 towards body h g k =
    let n = eqb-true _ _ k in
    (fits_64 body h (omega arith), ap₂ (λ w l. first_byte type.Au3 w ∷ l) g (sym (bytes_back 8 body h (omega arith))))
sound_body type.Dt towards body h g k =
    let both = and_parts (leb 18 (suc (length body))) (leb (suc (length body)) 1041) k in
    let low = leb-true 18 (suc (length body)) both.0 in
    let high = leb-true (suc (length body)) 1041 both.1 in
    sound_dt towards body (omega arith) (omega arith)
sound_body type.Di towards body h g k = let n = eqb-true _ _ k in ap (λ l. first_byte type.Di towards ∷ l) (sym (two body (omega arith)))
sound_body type.Ar towards body h g k =
    let n = eqb-true _ _ k in
    (fits_64 body h (omega arith), ap₂ (λ w l. first_byte type.Ar w ∷ l) g (sym (bytes_back 8 body h (omega arith))))

sound : (s : List ℕ) → Bytes s → Sound s (read_frame s)
unfolding Sound Named
sound [] h = refl
sound (b ∷ body) h =
    ⊎_elim
    (λ k.
    let t = k.0 in
    let towards = k.1 in
    let is : b ∷ body ≡ first_byte t towards ∷ body = ap (λ x. x ∷ body) k.3 in
    subst (Sound (b ∷ body)) (sym (known_reads t towards body (b ∷ body) k.2 is))
    (cond_both (suits_length t (length (b ∷ body)) most_data) _ _ (Sound (b ∷ body))
    (λ suits. subst (λ s. Sound s (read_body t towards body)) (sym is) (sound_body t towards body h.1 k.2 suits))
    (λ wrong. inr (inl (refl, (t, towards, body, k.2, is, wrong))))))
    (λ e.
    subst (Sound (b ∷ body)) (sym (ap (λ o. read_as o body) e))
    (inl (refl, (b, body, refl, (λ t towards g is. let z : ◌≡◌ {A = Option (FrameType × Role)} (Some (t, towards)) None = sym (head_first t towards g) ∙ ap head_of (sym is) ∙ e in cc)))))
    (named b)

-- no answer is both, and none has two values
ok_not_err : {f : FrameValue} {e : Refusal} → ◌≡◌ {A = Result FrameValue Refusal} (Ok f) (Err e) → ⊥
ok_not_err p = cc

only : (s : List ℕ) (r : Result FrameValue Refusal) → read_frame s ≡ r → Sound s r → Judged s r
unfolding Sound
only s (Ok f) e w =
    (w, (λ g v. let both : ◌≡◌ {A = Result FrameValue Refusal} (Ok g) (Ok f) = sym (writing_reads g s v) ∙ e in cc), (λ x v. ok_not_err (sym e ∙ refused_reads s x v)))
only s (Err x) e w =
    (w, (λ g v. ok_not_err (sym (writing_reads g s v) ∙ e)), (λ y v. let both : ◌≡◌ {A = Result FrameValue Refusal} (Err y) (Err x) = sym (refused_reads s y v) ∙ e in cc))

pub judged : (s : List ℕ) → Bytes s → Judged s (read_frame s)
judged s h = only s (read_frame s) refl (sound s h)

-- ---- read and written again

settle : (f : FrameValue) (s : List ℕ) → Writing f s → bytes_of f ≡ settled s
unfolding spell
settle bare_di s w = sym (ap settled w)
settle (au1 rb) s w = sym (ap settled w.1)
settle (au2 mix) s w = sym (ap settled w.1.2 ∙ ap (λ l. settled (5 ∷ (fixed_bytes ++ (l ++ bytes 8 mix)))) (sym (spelled 8 w.1.0 w.1.1)))
settle (au3 mix) s w = sym (ap settled w.1)
settle (ar rb) s w = sym (ap settled w.1)
settle (di Initiator codes) s w = sym (ap settled w)
settle (di Responder codes) s w = sym (ap settled w)
settle (dt Initiator t c) s w = sym (ap settled w.3)
settle (dt Responder t c) s w = sym (ap settled w.3)

again_of : (s : List ℕ) (r : Result FrameValue Refusal) → Sound s r → WrittenAgain s r
unfolding Sound
again_of s (Ok f) w = settle f s w
again_of s (Err e) w = tt

pub written_again : (s : List ℕ) → Bytes s → WrittenAgain s (read_frame s)
written_again s h = again_of s (read_frame s) (sound s h)

-- ---- written and read back

-- what is written is a writing of the frame
writing : (f : FrameValue) → FitsFields f → sized f ≡ true → Writing f (bytes_of f)
writing bare_di h k = refl
writing (au1 rb) h k = (h, refl)
writing (au2 mix) h k = (h, (ignored_text, refl, refl))
writing (au3 mix) h k = (h, refl)
writing (ar rb) h k = (h, refl)
writing (di towards codes) h k = refl
writing (dt towards t c) h k =
    let a = and_parts _ _ k in
    let b = and_parts _ _ a.1 in
    (leb-true _ _ a.0, leb-true _ _ b.0, eqb-true _ _ b.1, refl)

pub read_back : (f : FrameValue) → FitsFields f → sized f ≡ true → read_frame (bytes_of f) ≡ Ok f
read_back f h k = writing_reads f (bytes_of f) (writing f h k)
