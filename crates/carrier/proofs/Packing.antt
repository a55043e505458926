-- Strings that lie packed in a memory: they can be read back, and what a push and a removal leave.
use Rattle.std.proofs.Common.{◌≡◌, ℕ, zero, suc, ◌+◌, ◌-◌, ◌*◌, ◌/◌, ◌%◌, ◌<◌, ◌≤◌, List, [], ◌∷◌, ◌++◌, length, get_or, take, drop, sym, refl, ap, ◌∙◌, subst, ⊎_elim, append_assoc, div-add-mod', arith, length-append}
use borrow.Rule.Slice.PartMut.{put_mid}
use Rattle.std.specs.List.{flat_map, remove}
use Rattle.std.proofs.lemmas.List.{take_at, drop_at, drop-drop, flat_map_more, length_push, take-append-drop, length-take-le, get_or_append_left, get_or_push, get_or_at, get_or-append-add, take_more, length-drop}
use Rattle.std.proofs.lemmas.List.Concat.{flat_map-append}
use Rattle.std.proofs.lemmas.List.Edits.{length-remove, get_or-remove_below, get_or-remove_above, take-paste, drop-paste, length-paste}
use Rattle.std.proofs.Math.Seq.{split_at}
use Rattle.std.proofs.lemmas.Slice.{take-put_mid, drop-put_mid}
use Rattle.std.specs.Int.{to_be_bytes, w16}
use lib.Seq.{paste}
use Rattle.std.proofs.lemmas.Bool.{cases_lt}
use Rattle.carrier.specs.Rules.{Strings, greatest_length}
use Rattle.carrier.specs.Packing.{packed, unpacked, bulk, laid_out, Whole, Short}

drop_two : (n x y : ℕ) (xs : List ℕ) → drop (n + 2) (x ∷ y ∷ xs) ≡ drop n xs
drop_two n x y xs = let e : n + 2 ≡ suc (suc n) = omega arith in rw e

unpacked_first : (k : ℕ) (s t : List ℕ) → unpacked (suc k) (packed s ++ t) ≡ s ∷ unpacked k t
unpacked_first k s t =
    let e : length s / 256 * 256 + length s % 256 ≡ length s = div-add-mod' (length s) 256 in
    rw (e, drop_two, take_at s t (length s) refl, drop_at s t (length s) refl)

-- the strings can be read back
pub unpacked_joined : (ss : Strings) (rest : List ℕ) → unpacked (length ss) (flat_map packed ss ++ rest) ≡ ss
unpacked_joined [] rest = refl
unpacked_joined (s ∷ ss) rest =
    ap (unpacked (suc (length ss))) (append_assoc (packed s) (flat_map packed ss) rest)
    ∙ unpacked_first (length ss) s (flat_map packed ss ++ rest) ∙ ap (λ x. s ∷ x) (unpacked_joined ss rest)

pub length_unpacked : (k : ℕ) (bytes : List ℕ) → length (unpacked k bytes) ≡ k
length_unpacked zero bytes = refl
length_unpacked (suc k) bytes = ap suc (length_unpacked k _)

-- each string takes up two bytes at least
pub count_bulk : (ss : Strings) → length ss ≤ bulk ss
count_bulk [] = omega arith
count_bulk (s ∷ ss) = let h = count_bulk ss in let e = length-append s (flat_map packed ss) in omega arith

-- what a memory holds, from what its used part is
pub holds : (memory : List ℕ) (used : ℕ) (ss : Strings) → take used memory ≡ flat_map packed ss → unpacked (length ss) memory ≡ ss
holds memory used ss h =
    ap (unpacked (length ss)) (sym (take-append-drop used memory) ∙ ap (λ x. x ++ drop used memory) h)
    ∙ unpacked_joined ss (drop used memory)

-- one more string, behind the used part
pub used_push : (memory rest : List ℕ) (used : ℕ) (ss : Strings) (s : List ℕ) → used ≤ length memory → take used memory ≡ flat_map packed ss
    → take (used + (length s + 2)) (take used memory ++ (packed s ++ rest)) ≡ flat_map packed (ss ++ s ∷ [])
used_push memory rest used ss s le h =
    let n : length (take used memory ++ packed s) ≡ used + (length s + 2) = simp (length-append, length-take-le used memory le) (omega arith) in
    ap (take (used + (length s + 2))) (sym (append_assoc (take used memory) (packed s) rest))
    ∙ take_at (take used memory ++ packed s) rest (used + (length s + 2)) n
    ∙ ap (λ x. x ++ packed s) h
    ∙ flat_map_more packed [] ss s

-- what two writes side by side leave
written : (m xs ys : List ℕ) (a b j k : ℕ) → j ≡ length xs → k ≡ length ys → b ≡ a + length xs → b + length ys ≤ length m
    → put_mid b k (put_mid a j m xs) ys ≡ take a m ++ (xs ++ (ys ++ drop (b + length ys) m))
written m xs ys a b j k n o e le =
    let front : take b (put_mid a j m xs) ≡ take a m ++ xs = take-put_mid a j m xs b e (omega arith) in
    let back : drop k (drop b (put_mid a j m xs)) ≡ drop (b + length ys) m =
    drop-drop k b (put_mid a j m xs) ∙ ap (λ i. drop (b + i) (put_mid a j m xs)) o ∙ drop-put_mid a j m xs (b + length ys) (omega arith) (omega arith) (sym n) in
    rw (front, back) (append_assoc (take a m) xs (ys ++ drop (b + length ys) m))

-- a string behind its length
pub stored : (m xs ys s : List ℕ) (a b j k : ℕ) → j ≡ 2 → k ≡ length s → xs ≡ to_be_bytes w16 (length s) → ys ≡ s → b ≡ a + 2 → length s ≤ greatest_length → a + (length s + 2) ≤ length m
    → put_mid b k (put_mid a j m xs) ys ≡ take a m ++ (packed s ++ drop (a + (length s + 2)) m)
stored m xs ys s a b j k n o p q e short le =
    let high : length s / 256 % 256 ≡ length s / 256 = omega arith in
    let end : b + length ys ≡ a + (length s + 2) = omega (arith, ap length q) in
    let w : put_mid b k (put_mid a j m xs) ys ≡ take a m ++ (xs ++ (ys ++ drop (b + length ys) m)) =
    written m xs ys a b j k (n ∙ sym (ap length p)) (o ∙ sym (ap length q)) (e ∙ ap (λ z. a + z) (sym (ap length p))) (omega (arith, ap length q)) in
    rw (w, end, p, q, high)

pub short_push : (ss : Strings) (s : List ℕ) → Short ss → length s ≤ greatest_length → Short (ss ++ s ∷ [])
short_push ss s h l k lt =
    ⊎_elim
    (λ (a : k < length ss). rw (get_or_append_left ss (s ∷ []) [] k a) (h k a))
    (λ (b : length ss ≤ k). let e : length ss ≡ k = omega (arith, length_push ss s) in rw (get_or_push ss s [] k e) l)
    (cases_lt k (length ss))

pub bulk_is : (memory : List ℕ) (used count : ℕ) → Whole memory used count → used ≤ length memory → bulk (unpacked count memory) ≡ used
bulk_is memory used count w le = ap length (sym w) ∙ length-take-le used memory le

-- a memory that was `old` holds the strings ss in its first `used` bytes, its other bytes as they were
pub record Holding (old memory : List ℕ) (used count : ℕ) (ss : Strings) : Type 0 where
  pub is : unpacked count memory ≡ ss
  pub whole : Whole memory used count
  pub short : Short (unpacked count memory)
  pub laid : memory ≡ laid_out ss old

pub laid_by : (old memory : List ℕ) (used count : ℕ) → Whole memory used count → used ≤ length memory → drop used memory ≡ drop used old → memory ≡ laid_out (unpacked count memory) old
laid_by old memory used count w le d =
    sym (take-append-drop used memory) ∙ ap (λ x. x ++ drop used memory) w
    ∙ ap (λ x. flat_map packed (unpacked count memory) ++ x) (d ∙ ap (λ i. drop i old) (sym (bulk_is memory used count w le)))

pub holding : (old memory : List ℕ) (used count : ℕ) (ss : Strings) → take used memory ≡ flat_map packed ss → used ≤ length memory → drop used memory ≡ drop used old
    → count ≡ length ss → Short ss → Holding old memory used count ss
holding old memory used count ss h le d n sh =
    let e : unpacked count memory ≡ ss = ap (λ k. unpacked k memory) n ∙ holds memory used ss h in
    let w : Whole memory used count = h ∙ ap (flat_map packed) (sym e) in
    record { is = e; whole = w; short = subst Short (sym e) sh; laid = subst (λ (x : Strings). memory ≡ laid_out x old) e (laid_by old memory used count w le d) }

pub count_used : (memory : List ℕ) (used count : ℕ) → Whole memory used count → used ≤ length memory → count ≤ used
count_used memory used count w le = omega (arith, count_bulk (unpacked count memory), length_unpacked count memory, bulk_is memory used count w le)

pub holding_push : (memory memory' s : List ℕ) (used count : ℕ) → Whole memory used count → used ≤ length memory → Short (unpacked count memory) → length s ≤ greatest_length
    → memory' ≡ take used memory ++ (packed s ++ drop (used + (length s + 2)) memory) → Holding memory memory' (used + (length s + 2)) (count + 1) (unpacked count memory ++ s ∷ [])
holding_push memory memory' s used count w le sh l e =
    let ss : Strings = unpacked count memory in
    let used' : ℕ = used + (length s + 2) in
    let rest : List ℕ = drop used' memory in
    let front : List ℕ = take used memory ++ packed s in
    let n : length front ≡ used' = simp (length-append, length-take-le used memory le) (omega arith) in
    let e' : memory' ≡ front ++ rest = e ∙ sym (append_assoc (take used memory) (packed s) rest) in
    holding memory memory' used' (count + 1) (ss ++ s ∷ [])
    (ap (take used') e ∙ used_push memory rest used ss s le w)
    (omega (arith, ap length e', length-append front rest))
    (ap (drop used') e' ∙ drop_at front rest used' n)
    (omega (arith, length_push ss s, length_unpacked count memory))
    (short_push ss s sh l)

joined_at : (ss : Strings) (k : ℕ) → k < length ss → flat_map packed ss ≡ flat_map packed (take k ss) ++ (packed (get_or ss k []) ++ flat_map packed (drop (suc k) ss))
joined_at ss k lt = ap (flat_map packed) (split_at ss k [] lt) ∙ flat_map-append packed (take k ss) (get_or ss k [] ∷ drop (suc k) ss)

pub short_removed : (ss : Strings) (k : ℕ) → k < length ss → Short ss → Short (remove ss k)
short_removed ss k lt h j jt =
    ⊎_elim
    (λ (a : j < k). rw (get_or-remove_below ss k [] j a lt) (h j (omega arith)))
    (λ (b : k ≤ j). rw (get_or-remove_above ss k [] j b lt) (h (j + 1) (omega (arith, length-remove ss k lt))))
    (cases_lt j k)

-- the string of the number k in a memory that holds ss
module _ (m : List ℕ) (used : ℕ) (ss : Strings) (w : take used m ≡ flat_map packed ss) (le : used ≤ length m) (k : ℕ) (lt : k < length ss) where
  abbrev str : List ℕ
  str = get_or ss k []

  abbrev front : List ℕ
  front = flat_map packed (take k ss)

  abbrev back : List ℕ
  back = flat_map packed (drop (suc k) ss)

  parts : m ≡ front ++ (packed str ++ (back ++ drop used m))
  parts =
      sym (take-append-drop used m) ∙ ap (λ x. x ++ drop used m) (w ∙ joined_at ss k lt)
      ∙ append_assoc front (packed str ++ back) (drop used m)
      ∙ ap (λ x. front ++ x) (append_assoc (packed str) back (drop used m))

  pub total : length front + (length str + 2) + length back ≡ used
  total =
      let e : length (take used m) ≡ used = length-take-le used m le in
      let f : length (take used m) ≡ length (front ++ (packed str ++ back)) = ap length (w ∙ joined_at ss k lt) in
      omega (arith, length-append front (packed str ++ back), length-append str back)

  pub reads : get_or m (length front) 0 * 256 + get_or m (length front + 1) 0 ≡ length str
  reads =
      let tail : List ℕ = back ++ drop used m in
      let a : get_or m (length front) 0 ≡ length str / 256 =
      ap (λ x. get_or x (length front) 0) parts ∙ get_or_at front (length str / 256) (length str % 256 ∷ (str ++ tail)) 0 (length front) refl in
      let b : get_or m (length front + 1) 0 ≡ length str % 256 =
      ap (λ x. get_or x (length front + 1) 0) parts ∙ get_or-append-add front (packed str ++ tail) 1 0 in
      rw (a, b) (div-add-mod' (length str) 256)

  behind : drop (length front + (length str + 2)) m ≡ back ++ drop used m
  behind =
      ap (drop (length front + (length str + 2))) (parts ∙ sym (append_assoc front (packed str) (back ++ drop used m)))
      ∙ drop_at (front ++ packed str) (back ++ drop used m) (length front + (length str + 2)) (simp length-append (omega arith))

  before : take (length front) m ≡ front
  before = ap (take (length front)) parts ∙ take_at front (packed str ++ (back ++ drop used m)) (length front) refl

  pub string : take (length str) (drop (length front + 2) m) ≡ str
  string =
      let tail : List ℕ = back ++ drop used m in
      let e : drop (length front + 2) m ≡ str ++ tail =
      sym (drop-drop 2 (length front) m) ∙ ap (λ x. drop 2 (drop (length front) x)) parts ∙ ap (drop 2) (drop_at front (packed str ++ tail) (length front) refl) in
      ap (take (length str)) e ∙ take_at str tail (length str) refl

  pub next : bulk (take (k + 1) ss) ≡ length front + (length str + 2)
  next =
      ap (λ x. length (flat_map packed x)) (take_more ss k [] lt) ∙ ap length (flat_map-append packed (take k ss) (str ∷ []))
      ∙ omega (arith, length-append front (packed str ++ []), length-append str [])

  pub holding_removed : (m' : List ℕ) (count : ℕ) → Short ss → count ≡ length ss - 1
      → m' ≡ paste m (length front) (drop (length front + (length str + 2)) m) (used - (length front + (length str + 2)))
      → Holding m m' (used - (length str + 2)) count (remove ss k)
  holding_removed m' count sh n e =
      let t : used - (length str + 2) ≡ length front + length back = omega (arith, total) in
      let v : used - (length front + (length str + 2)) ≡ length back = omega (arith, total) in
      let src : List ℕ = drop (length front + (length str + 2)) m in
      let e' : m' ≡ paste m (length front) src (length back) = e ∙ ap (paste m (length front) src) v in
      let in_m : length front ≤ length m = omega (arith, total) in
      let in_src : length back ≤ length src = rw (length-drop) (omega (arith, total)) in
      holding m m' (used - (length str + 2)) count (remove ss k)
      (ap (λ x. take x m') t ∙ ap (take (length front + length back)) e'
      ∙ take-paste m (length front) src (length back) in_m in_src
      ∙ ap (λ x. x ++ take (length back) src) before
      ∙ ap (λ x. front ++ take (length back) x) behind
      ∙ ap (λ x. front ++ x) (take_at back (drop used m) (length back) refl)
      ∙ sym (flat_map-append packed (take k ss) (drop (suc k) ss)))
      (omega (arith, total, ap length e', length-paste m (length front) src (length back) (omega (arith, total)) in_src))
      (ap (λ x. drop x m') t ∙ ap (drop (length front + length back)) e' ∙ drop-paste m (length front) src (length back) in_m in_src ∙ ap (λ x. drop x m) (sym t))
      (omega (arith, length-remove ss k lt))
      (short_removed ss k lt sh)
