-- A string is read as the one packet of which it is a writing, or there is one reason why it is none; and reading and writing undo each other.
use Rattle.std.proofs.Common.{◌≡◌, ℕ, ◌+◌, ◌-◌, ◌*◌, ◌/◌, ◌%◌, ◌^◌, ◌<◌, ◌≤◌, true, false, eqb, ◌⊎◌, List, [], ◌∷◌, ◌++◌, length, get_or, take, drop, replicate, Ok, Err, Result, sym, refl, ap, ◌∙◌, subst, ap₂, inl, inr, ⊎_elim, append_assoc, arith, length-append, length-drop, take-append-drop, get_or-drop, drop-cons, drop-drop, drop_at, ltb-true, eq-eqb, ne_eqb, le-leb}
use borrow.Author.Tests.{lt-leb}
use lib.ListN.{length-replicate}
use lib.Seq.{get_or_at}
use Rattle.std.proofs.lemmas.List.{length-take-le}
use Rattle.std.proofs.lemmas.Bool.{cases_lt, cases_eq, eqb-true}
use Rattle.terms.specs.declared.refusal.Refusal.{Refusal}
use Rattle.terms.specs.declared.refusal.Refusal.TheVariants as refusal
use Rattle.packets.specs.declared.packet.Cable.{Cable}
use Rattle.packets.specs.declared.packet.PacketType.{PacketType}
use Rattle.packets.specs.declared.packet.PacketType.TheVariants.{Au1, Au2, Data, Di}
use Rattle.terms.specs.Numbers.{bytes}
use Rattle.packets.specs.Packets.{PacketValue, mark, type_code, type_of, ignored_count, before_frame, preamble, packet_bytes, coded_type, marked, frame_in, read_packet, countable}
use Rattle.packets.specs.PacketLaws.{Writing, WrongLength, WrongType, NoPacket, Judged, WrittenAgain, ignored_by, settled}
use Rattle.packets.proofs.Packets.{read_refused, read_unsuited, read_good, read_short, read_miscounted, read_unknown}

coded_back : (k : PacketType) → coded_type (type_code k) ≡ Ok k
coded_back Au1 = refl
coded_back Au2 = refl
coded_back Data = refl
coded_back Di = refl

pub same_type : (j k : PacketType) → type_code j ≡ type_code k → j ≡ k
same_type j k e = let h : ◌≡◌ {A = Result PacketType Refusal} (Ok j) (Ok k) = sym (coded_back j) ∙ ap coded_type e ∙ coded_back k in cc

known : (n : ℕ) → ((k : PacketType) × (n ≡ type_code k)) ⊎ ((k : PacketType) → n ≡ type_code k → ⊥)
known n =
    ⊎_elim (λ (e : n ≡ 1). inl (Au1, e)) (λ (a : n ≡ 1 → ⊥).
    ⊎_elim (λ (e : n ≡ 2). inl (Au2, e)) (λ (b : n ≡ 2 → ⊥).
    ⊎_elim (λ (e : n ≡ 3). inl (Data, e)) (λ (c : n ≡ 3 → ⊥).
    ⊎_elim (λ (e : n ≡ 4). inl (Di, e)) (λ (d : n ≡ 4 → ⊥). inr (none a b c d)) (cases_eq n 4)) (cases_eq n 3)) (cases_eq n 2)) (cases_eq n 1)
  where
    none : (n ≡ 1 → ⊥) → (n ≡ 2 → ⊥) → (n ≡ 3 → ⊥) → (n ≡ 4 → ⊥) → (k : PacketType) → n ≡ type_code k → ⊥
    none a b c d Au1 e = a e
    none a b c d Au2 e = b e
    none a b c d Data e = c e
    none a b c d Di e = d e

two : (v : ℕ) → v < 2 ^ 16 → v / 256 % 256 * 256 + v / 1 % 256 ≡ v
two v h = omega arith

two_back : (a b : ℕ) → a < 256 → b < 256 → bytes 2 (a * 256 + b) ≡ a ∷ b ∷ []
two_back a b ha hb =
    let x : (a * 256 + b) / 256 % 256 ≡ a = omega arith in
    let y : (a * 256 + b) / 1 % 256 ≡ b = omega arith in
    ap₂ (λ m n. m ∷ n ∷ []) x y

-- Writings are read:

length_before : (k : PacketType) (ignored : List ℕ) → length ignored ≡ ignored_count k → length (before_frame k ignored) ≡ length (preamble k)
length_before Au1 ignored e = length-append ignored (3 ∷ []) ∙ omega arith
length_before Au2 ignored e = e
length_before Data ignored e = e
length_before Di ignored e = e

marked_back : (k : PacketType) (ignored f : List ℕ) → length ignored ≡ ignored_count k → marked k (before_frame k ignored ++ f) ≡ true
marked_back Au1 ignored f e =
    ap (λ x. eqb x 3) (ap (λ x. get_or x 8 0) (append_assoc ignored (3 ∷ []) f) ∙ get_or_at ignored 3 f 0 8 e)
marked_back Au2 ignored f e = refl
marked_back Data ignored f e = refl
marked_back Di ignored f e = refl

frame_back : (k : PacketType) (ignored f : List ℕ) → length ignored ≡ ignored_count k → frame_in k (before_frame k ignored ++ f) ≡ Ok f
frame_back k ignored f e =
    let n = length_before k ignored e in
    let le : length (preamble k) ≤ length (before_frame k ignored ++ f) = omega (arith, length-append (before_frame k ignored) f) in
    rw (le-leb (length (preamble k)) (length (before_frame k ignored ++ f)) le, marked_back k ignored f e) (ap Ok (drop_at (before_frame k ignored) f (length (preamble k)) n))

abbrev framed : PacketType → ℕ → ℕ → ℕ → List ℕ → List ℕ → List ℕ
framed k l n n_r ignored f = bytes 2 l ++ (bytes 2 n ++ (n_r ∷ type_code k ∷ (before_frame k ignored ++ f)))

pub read_writing : (q : PacketValue) (s : List ℕ) → Writing q s → read_packet s ≡ Ok q
read_writing q s w =
    let k : PacketType = type_of q.frame in
    let l : ℕ = length s - 2 in
    let f : List ℕ = framed k l q.number w.n_r w.ignored q.frame in
    let long : length s ≡ length f = ap length w.form in
    let counts : l / 256 % 256 * 256 + l / 1 % 256 + 2 ≡ length f = omega (arith, two l (omega (arith, w.length_fits))) in
    ap read_packet w.form
    ∙ read_good f k (omega arith) counts (coded_back k) q.frame (frame_back k w.ignored q.frame w.ignored_all) refl
    ∙ ap (λ n. Ok (record { number = n; frame = q.frame })) (two q.number w.number_fits)

-- What is read is a writing:

behind : (k : PacketType) (s : List ℕ) → 6 + length (preamble k) ≤ length s → marked k (drop 6 s) ≡ true
    → drop 6 s ≡ before_frame k (take (ignored_count k) (drop 6 s)) ++ drop (6 + length (preamble k)) s
behind Au1 s le m =
    let three : get_or s 14 0 ≡ 3 = sym (get_or-drop 6 s 8 0) ∙ eqb-true (get_or (drop 6 s) 8 0) 3 m in
    let lt : 14 < length s = omega arith in
    sym (take-append-drop 8 (drop 6 s))
    ∙ ap (λ x. take 8 (drop 6 s) ++ x) (drop-drop 8 6 s ∙ drop-cons s 14 0 lt ∙ ap (λ x. x ∷ drop 15 s) three)
    ∙ sym (append_assoc (take 8 (drop 6 s)) (3 ∷ []) (drop 15 s))
behind Au2 s le m = sym (take-append-drop 4 (drop 6 s)) ∙ ap (λ x. take 4 (drop 6 s) ++ x) (drop-drop 4 6 s)
behind Data s le m = refl
behind Di s le m = refl

six_first : (s : List ℕ) → 6 ≤ length s → s ≡ get_or s 0 0 ∷ get_or s 1 0 ∷ get_or s 2 0 ∷ get_or s 3 0 ∷ get_or s 4 0 ∷ get_or s 5 0 ∷ drop 6 s
six_first [] h = absurd (omega arith)
six_first (a ∷ []) h = absurd (omega arith)
six_first (a ∷ b ∷ []) h = absurd (omega arith)
six_first (a ∷ b ∷ c ∷ []) h = absurd (omega arith)
six_first (a ∷ b ∷ c ∷ d ∷ []) h = absurd (omega arith)
six_first (a ∷ b ∷ c ∷ d ∷ e ∷ []) h = absurd (omega arith)
six_first (a ∷ b ∷ c ∷ d ∷ e ∷ f ∷ s) h = refl

ignored_long : (k : PacketType) (s : List ℕ) → 6 + length (preamble k) ≤ length s → length (take (ignored_count k) (drop 6 s)) ≡ ignored_count k
ignored_long k s le = length-take-le (ignored_count k) (drop 6 s) (simp length-drop (few k le))
  where
    few : (j : PacketType) → 6 + length (preamble j) ≤ length s → ignored_count j ≤ length s - 6
    few Au1 h = omega arith
    few Au2 h = omega arith
    few Data h = omega arith
    few Di h = omega arith

-- the frame of a string of a known type
abbrev rest : List ℕ → PacketType → List ℕ
rest s k = drop (6 + length (preamble k)) s

-- a string that passes every test
module _ (s : List ℕ) (small : (i : ℕ) → get_or s i 0 < 256) (k : PacketType) (six : 6 ≤ length s) (counts : get_or s 0 0 * 256 + get_or s 1 0 + 2 ≡ length s)
    (code : get_or s 5 0 ≡ type_code k) (enough : 6 + length (preamble k) ≤ length s) where
  abbrev value : PacketValue
  value = record { number = get_or s 2 0 * 256 + get_or s 3 0; frame = rest s k }

  writing : marked k (drop 6 s) ≡ true → type_code (type_of (rest s k)) ≡ type_code k → Writing value s
  writing m suits =
      let e : type_of (rest s k) ≡ k = same_type (type_of (rest s k)) k suits in
      let body : drop 6 s ≡ before_frame k (take (ignored_count k) (drop 6 s)) ++ rest s k = behind k s enough m in
      let count : bytes 2 (length s - 2) ≡ get_or s 0 0 ∷ get_or s 1 0 ∷ [] =
      ap (bytes 2) (omega arith) ∙ two_back (get_or s 0 0) (get_or s 1 0) (small 0) (small 1) in
      let number : bytes 2 (get_or s 2 0 * 256 + get_or s 3 0) ≡ get_or s 2 0 ∷ get_or s 3 0 ∷ [] = two_back (get_or s 2 0) (get_or s 3 0) (small 2) (small 3) in
      let form : s ≡ framed k (length s - 2) (get_or s 2 0 * 256 + get_or s 3 0) (get_or s 4 0) (take (ignored_count k) (drop 6 s)) (rest s k) =
      six_first s six
      ∙ ap₂ (λ x y. get_or s 0 0 ∷ get_or s 1 0 ∷ get_or s 2 0 ∷ get_or s 3 0 ∷ get_or s 4 0 ∷ x ∷ y) code body
      ∙ ap₂ (λ (x y : List ℕ). x ++ (y ++ (get_or s 4 0 ∷ type_code k ∷ (before_frame k (take (ignored_count k) (drop 6 s)) ++ rest s k)))) (sym count) (sym number) in
      record {
        n_r = get_or s 4 0;
        ignored = take (ignored_count k) (drop 6 s);
        number_fits = omega (arith, small 2, small 3);
        length_fits = omega (arith, small 0, small 1);
        ignored_all = ignored_long k s enough ∙ ap ignored_count (sym e);
        form = subst (λ (j : PacketType). s ≡ framed j (length s - 2) (get_or s 2 0 * 256 + get_or s 3 0) (get_or s 4 0) (take (ignored_count k) (drop 6 s)) (rest s k)) (sym e) form;
      }

-- Every string:

fine : (s : List ℕ) → 6 ≤ length s → get_or s 0 0 * 256 + get_or s 1 0 + 2 ≡ length s → ((k : PacketType) → get_or s 5 0 ≡ type_code k → 6 + length (preamble k) ≤ length s) → WrongLength s → ⊥
fine s six counts enough (inl a) = omega arith
fine s six counts enough (inr (inl b)) = b counts
fine s six counts enough (inr (inr c)) = omega (arith, enough c.0 c.1, c.2)

no_ok : (s : List ℕ) (e : Refusal) → read_packet s ≡ Err e → (q : PacketValue) → Writing q s → ⊥
no_ok s e h q w = let r = read_writing q s w in cc

by_length : (s : List ℕ) → WrongLength s → read_packet s ≡ Err refusal.PacketLength → Judged s (read_packet s)
by_length s w e = subst (Judged s) (sym e) (inl (refl, w), no_ok s refusal.PacketLength e, only)
  where
    only : (other : Refusal) → NoPacket s other → other ≡ refusal.PacketLength
    only other (inl h) = h.0
    only other (inr h) = absurd (h.1.0 w)

by_type : (s : List ℕ) → WrongType s → read_packet s ≡ Err refusal.PacketType → Judged s (read_packet s)
by_type s w e = subst (Judged s) (sym e) (inr (refl, w), no_ok s refusal.PacketType e, only)
  where
    only : (other : Refusal) → NoPacket s other → other ≡ refusal.PacketType
    only other (inl h) = absurd (w.0 h.1)
    only other (inr h) = h.0

by_writing : (s : List ℕ) (q : PacketValue) → Writing q s → ((e : Refusal) → NoPacket s e → ⊥) → Judged s (read_packet s)
by_writing s q w none =
    let r = read_writing q s w in
    subst (Judged s) (sym r) (w, (λ other x. let y = read_writing other s x in cc), none)

-- whether the 03 stands where the type wants it
module _ (s : List ℕ) where
  three : (k : PacketType) → ((k ≡ Au1) × (get_or s 14 0 ≡ 3 → ⊥) × (marked k (drop 6 s) ≡ false)) ⊎ (marked k (drop 6 s) ≡ true)
  three Au1 =
      ⊎_elim (λ (e : get_or s 14 0 ≡ 3). inr (eq-eqb (get_or (drop 6 s) 8 0) 3 (get_or-drop 6 s 8 0 ∙ e)))
      (λ (n : get_or s 14 0 ≡ 3 → ⊥). inl (refl, n, ne_eqb (get_or (drop 6 s) 8 0) 3 (λ e. n (sym (get_or-drop 6 s 8 0) ∙ e)))) (cases_eq (get_or s 14 0) 3)
  three Au2 = inr refl
  three Data = inr refl
  three Di = inr refl

  three_there : (k : PacketType) → k ≡ Au1 → marked k (drop 6 s) ≡ true → get_or s 14 0 ≡ 3
  three_there k e m = sym (get_or-drop 6 s 8 0) ∙ eqb-true (get_or (drop 6 s) 8 0) 3 (subst (λ (j : PacketType). marked j (drop 6 s) ≡ true) e m)

module _ (s : List ℕ) (small : (i : ℕ) → get_or s i 0 < 256) (six : 6 ≤ length s) (counts : get_or s 0 0 * 256 + get_or s 1 0 + 2 ≡ length s)
    (k : PacketType) (code : get_or s 5 0 ≡ type_code k) where
  type : coded_type (get_or s 5 0) ≡ Ok k
  type = ap coded_type code ∙ coded_back k

  cut : length s < 6 + length (preamble k) → frame_in k (drop 6 s) ≡ Err refusal.PacketLength
  cut lt = let h : length (drop 6 s) < length (preamble k) = simp length-drop (omega arith) in rw (lt-leb (length (preamble k)) (length (drop 6 s)) h)

  module _ (enough : 6 + length (preamble k) ≤ length s) where
    whole : length (preamble k) ≤ length (drop 6 s)
    whole = simp length-drop (omega arith)

    unmarked : marked k (drop 6 s) ≡ false → frame_in k (drop 6 s) ≡ Err refusal.PacketType
    unmarked m = rw (le-leb (length (preamble k)) (length (drop 6 s)) whole, m)

    framed_in : marked k (drop 6 s) ≡ true → frame_in k (drop 6 s) ≡ Ok (rest s k)
    framed_in m = rw (le-leb (length (preamble k)) (length (drop 6 s)) whole, m) (ap Ok (drop-drop (length (preamble k)) 6 s))

    is_k : (j : PacketType) → get_or s 5 0 ≡ type_code j → k ≡ j
    is_k j e = same_type k j (sym code ∙ e)

    no_wrong_length : WrongLength s → ⊥
    no_wrong_length = fine s six counts (λ j e. subst (λ (i : PacketType). 6 + length (preamble i) ≤ length s) (is_k j e) enough)

    module _ (m : marked k (drop 6 s) ≡ true) (suits : type_code (type_of (rest s k)) ≡ type_code k) where
      no_reason : ((i : PacketType) → get_or s 5 0 ≡ type_code i → ⊥) ⊎ ((i : PacketType) × (get_or s 5 0 ≡ type_code i)
          × (((i ≡ Au1) × (get_or s 14 0 ≡ 3 → ⊥)) ⊎ (type_code (type_of (rest s i)) ≡ type_code i → ⊥))) → ⊥
      no_reason (inl u) = u k code
      no_reason (inr (j, c, inl a)) = a.1 (three_there s k (is_k j c ∙ a.0) m)
      no_reason (inr (j, c, inr n)) = n (subst (λ (i : PacketType). type_code (type_of (rest s i)) ≡ type_code i) (is_k j c) suits)

      none : (e : Refusal) → NoPacket s e → ⊥
      none e (inl h) = no_wrong_length h.1
      none e (inr h) = no_reason h.1.1

    by_suits : marked k (drop 6 s) ≡ true → (type_code (type_of (rest s k)) ≡ type_code k) ⊎ (type_code (type_of (rest s k)) ≡ type_code k → ⊥) → Judged s (read_packet s)
    by_suits m (inl e) = by_writing s (value s small k six counts code enough) (writing s small k six counts code enough m e) (none m e)
    by_suits m (inr n) = by_type s (no_wrong_length, inr (k, code, inr n)) (read_unsuited s k six counts type (rest s k) (framed_in m) n)

    by_mark : ((k ≡ Au1) × (get_or s 14 0 ≡ 3 → ⊥) × (marked k (drop 6 s) ≡ false)) ⊎ (marked k (drop 6 s) ≡ true) → Judged s (read_packet s)
    by_mark (inl h) = by_type s (no_wrong_length, inr (k, code, inl (h.0, h.1))) (read_refused s k six counts type refusal.PacketType (unmarked h.2))
    by_mark (inr m) = by_suits m (cases_eq (type_code (type_of (rest s k))) (type_code k))

  by_layout : (length s < 6 + length (preamble k)) ⊎ (6 + length (preamble k) ≤ length s) → Judged s (read_packet s)
  by_layout (inl lt) = by_length s (inr (inr (k, code, lt))) (read_refused s k six counts type refusal.PacketLength (cut lt))
  by_layout (inr enough) = by_mark enough (three s k)

module _ (s : List ℕ) (small : (i : ℕ) → get_or s i 0 < 256) where
  by_code : 6 ≤ length s → get_or s 0 0 * 256 + get_or s 1 0 + 2 ≡ length s → ((k : PacketType) × (get_or s 5 0 ≡ type_code k)) ⊎ ((k : PacketType) → get_or s 5 0 ≡ type_code k → ⊥) → Judged s (read_packet s)
  by_code six counts (inl h) = by_layout s small six counts h.0 h.1 (cases_lt (length s) (6 + length (preamble h.0)))
  by_code six counts (inr u) = by_type s (fine s six counts (λ k e. absurd (u k e)), inl u) (read_unknown s six counts u)

  by_count : 6 ≤ length s → (get_or s 0 0 * 256 + get_or s 1 0 + 2 ≡ length s) ⊎ (get_or s 0 0 * 256 + get_or s 1 0 + 2 ≡ length s → ⊥) → Judged s (read_packet s)
  by_count six (inl counts) = by_code six counts (known (get_or s 5 0))
  by_count six (inr n) = by_length s (inr (inl n)) (read_miscounted s six n)

  by_six : (length s < 6) ⊎ (6 ≤ length s) → Judged s (read_packet s)
  by_six (inl lt) = by_length s (inl lt) (read_short s lt)
  by_six (inr six) = by_count six (cases_eq (get_or s 0 0 * 256 + get_or s 1 0 + 2) (length s))

  pub judged : Judged s (read_packet s)
  judged = by_six (cases_lt (length s) 6)

-- Written again:

ignored_again : (k : PacketType) → ignored_by (type_code k) ≡ ignored_count k
ignored_again Au1 = refl
ignored_again Au2 = refl
ignored_again Data = refl
ignored_again Di = refl

settled_framed : (k : PacketType) (cable : Cable) (l n n_r : ℕ) (ignored f : List ℕ) → length ignored ≡ ignored_count k
    → settled (framed k l n n_r ignored f) cable ≡ framed k l n (mark cable) (replicate (ignored_count k) 0) f
settled_framed Au1 cable l n n_r ignored f e =
    ap (λ x. bytes 2 l ++ (bytes 2 n ++ (mark cable ∷ 1 ∷ (replicate 8 0 ++ x)))) (ap (drop 8) (append_assoc ignored (3 ∷ []) f) ∙ drop_at ignored (3 ∷ f) 8 e)
settled_framed Au2 cable l n n_r ignored f e = ap (λ x. bytes 2 l ++ (bytes 2 n ++ (mark cable ∷ 2 ∷ (replicate 4 0 ++ x)))) (drop_at ignored f 4 e)
settled_framed Data cable l n n_r [] f e = refl
settled_framed Data cable l n n_r (x ∷ ignored) f e = absurd (omega arith)
settled_framed Di cable l n n_r [] f e = refl
settled_framed Di cable l n n_r (x ∷ ignored) f e = absurd (omega arith)

pub written_again : (q : PacketValue) (s : List ℕ) → Writing q s → (cable : Cable) → packet_bytes q cable ≡ settled s cable
written_again q s w cable =
    let k : PacketType = type_of q.frame in
    let long : length s - 2 ≡ 4 + (length (preamble k) + length q.frame) =
    omega (arith, ap length w.form, length-append (before_frame k w.ignored) q.frame, length_before k w.ignored w.ignored_all) in
    ap (λ l. framed k l q.number (mark cable) (replicate (ignored_count k) 0) q.frame) (sym long)
    ∙ sym (settled_framed k cable (length s - 2) q.number w.n_r w.ignored q.frame w.ignored_all)
    ∙ ap (λ x. settled x cable) (sym w.form)

pub again_of : (s : List ℕ) (r : Result PacketValue Refusal) → Judged s r → WrittenAgain s r
again_of s (Ok q) j = written_again q s j.0
again_of s (Err e) j = tt

pub packet_writing : (q : PacketValue) (cable : Cable) → q.number < 2 ^ 16 → length (packet_bytes q cable) < 2 ^ 16 + 2 → Writing q (packet_bytes q cable)
packet_writing q cable n l =
    let k : PacketType = type_of q.frame in
    record {
      n_r = mark cable;
      ignored = replicate (ignored_count k) 0;
      number_fits = n;
      length_fits = l;
      ignored_all = length-replicate (ignored_count k) 0;
      form = ap (λ m. framed k m q.number (mark cable) (replicate (ignored_count k) 0) q.frame) (omega (arith, length-append (preamble k) q.frame));
    }

-- what is written is read back
pub read_back : (q : PacketValue) (cable : Cable) → q.number < 2 ^ 16 → countable (packet_bytes q cable) ≡ true → read_packet (packet_bytes q cable) ≡ Ok q
read_back q cable n h =
    let p : List ℕ = packet_bytes q cable in
    let l : length p < 2 ^ 16 + 2 = omega (arith, ltb-true (length p - 2) (2 ^ 16) h) in
    read_writing q p (packet_writing q cable n l)
