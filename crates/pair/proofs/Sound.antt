-- What comes out of a pair is the frame of a packet that one of its carriers held.
use Rattle.std.proofs.Common.{◌≡◌, ℕ, ◌≤◌, Bool, true, false, cond, leb, List, [], ◌∷◌, ◌++◌, length, take, drop, replicate, Some, None, Ok, Err, Option, Result, sym, refl, ap, ◌∙◌, subst, append_assoc, arith, leb-true, length-append, length-drop}
use mathlib.Core.List.Memᴰ
use mathlib.Core.List.{Memᴰ}
use Rattle.std.proofs.lemmas.List.{take_at, drop_at, length-take-le, take-append-drop, drop-append-le}
use Rattle.std.specs.Option.{option_map}
use Rattle.terms.specs.declared.refusal.Refusal.{Refusal}
use Rattle.terms.specs.declared.role.Role.{Role}
use Rattle.packets.specs.declared.packet.TransportNumber.{TransportNumber}
use Rattle.packets.specs.Packets.{PacketValue, read_packet}
use Rattle.carrier.specs.Rules.{Strings, Meaning, NoGains, FetchRules, greatest_length}
use Rattle.carrier.proofs.Sides.{no_gain_same}
use Rattle.pair.specs.declared.Taken.{Taken}
use Rattle.pair.specs.Counts.{is_newer}
use Rattle.pair.specs.Frames.{pair_largest, pair_meaning, frame_within, given_by, gives, taken_of, written, got}
use Rattle.pair.specs.Pairs.{Asked, Otherwise, AskedBoth, AskedInTurn}
use Rattle.pair.proofs.Merged.{frame_of, mem_frames, pair_no_gains}

pub record FrameOut (most : ℕ) (ps : Strings) (buf buf' : List ℕ) (len : ℕ) : Type 0 where
  pub packet : List ℕ
  pub came : Memᴰ packet ps
  pub its_frame : Memᴰ (take len buf') (frame_of most packet)
  pub within : len ≤ most
  pub rest : drop len buf' ≡ drop len buf

abbrev pub Sound : ℕ → Strings → List ℕ → List ℕ → Option Taken → Type 0
Sound most ps buf buf' None = buf' ≡ buf
Sound most ps buf buf' (Some t) = FrameOut most ps buf buf' t.len

new_by : (most : ℕ) (q q' : PacketValue) (a b : Bool) → leb (length q.frame) most ≡ a → cond a (cond b (Some q) None) None ≡ Some q' → Memᴰ q'.frame (cond a (q.frame ∷ []) []) × (length q'.frame ≤ most)
new_by most q q' true true l e = let z : q.frame ≡ q'.frame = let w : q ≡ q' = cc in ap (λ x. x.frame) w in (Memᴰ.head (sym z), omega (arith, leb-true (length q.frame) most l, ap length z))
new_by most q q' true false l e = let z : ◌≡◌ {A = ℕ} 0 1 = cc in absurd (omega arith)
new_by most q q' false b l e = let z : ◌≡◌ {A = ℕ} 0 1 = cc in absurd (omega arith)

gives_out : (most : ℕ) (last : Option TransportNumber) (q : PacketValue) (x : Result PacketValue Refusal) → given_by most last x ≡ Some q → Memᴰ q.frame (frame_within most x) × (length q.frame ≤ most)
gives_out most last q (Err e) h = let z : ◌≡◌ {A = ℕ} 0 1 = cc in absurd (omega arith)
gives_out most last q (Ok x) h = new_by most x q (leb (length x.frame) most) (is_newer last x.number) refl h

module _ (most : ℕ) (last : Option TransportNumber) (ps : Strings) (buf buf' : List ℕ) (t : Option Taken) where
  given_out : (p : List ℕ) (o : Option PacketValue) → Memᴰ p ps → gives most last p ≡ o → t ≡ taken_of o → buf' ≡ written buf o → Sound most ps buf buf' t
  given_out p None m e v w = subst (Sound most ps buf buf') (sym v) w
  given_out p (Some q) m e v w =
      let g = gives_out most last q (read_packet p) e in
      let f : List ℕ = q.frame in
      subst (Sound most ps buf buf') (sym v) (record {
        packet = p;
        came = m;
        its_frame = Memᴰ.cast (ap (take (length f)) w ∙ take_at f (drop (length f) buf) (length f) refl) g.0;
        within = g.1;
        rest = ap (drop (length f)) w ∙ drop_at f (drop (length f) buf) (length f) refl;
      })

-- a carrier that keeps the rules is asked
module _ (m m' : Meaning) (at : Role) (ask : List ℕ → Result (Option ℕ) Refusal → List ℕ → Type 0) (rules : (b : List ℕ) (a : Result (Option ℕ) Refusal) (b' : List ℕ) → ask b a b' → FetchRules m m' at b b' a) where
  fetch_no_gains : (b b' : List ℕ) (a : Result (Option ℕ) Refusal) → FetchRules m m' at b b' a → NoGains m m'
  fetch_no_gains b b' (Err e) h = record { maximum = h.same.maximum; none = λ side. no_gain_same (m.strings side) (m'.strings side) (h.same.same side) }
  fetch_no_gains b b' (Ok None) h = h.none
  fetch_no_gains b b' (Ok (Some k)) h = h.none

  sound_by : (most : ℕ) (last : Option TransportNumber) (buf buf' memory : List ℕ) (t : Option Taken) (a : Result (Option ℕ) Refusal) → FetchRules m m' at (replicate greatest_length 0) memory a
      → t ≡ taken_of (got most last memory a) → buf' ≡ written buf (got most last memory a) → Sound most (m.strings at) buf buf' t
  sound_by most last buf buf' memory t (Err e) f v w = subst (Sound most (m.strings at) buf buf') (sym v) w
  sound_by most last buf buf' memory t (Ok None) f v w = subst (Sound most (m.strings at) buf buf') (sym v) w
  sound_by most last buf buf' memory t (Ok (Some k)) f v w = given_out most last (m.strings at) buf buf' t (take k memory) (gives most last (take k memory)) f.came refl v w

  asked_no_gains : (most : ℕ) (last : Option TransportNumber) (buf buf' : List ℕ) (t : Option Taken) → Asked ask most last buf buf' t → NoGains m m'
  asked_no_gains most last buf buf' t h = fetch_no_gains (replicate greatest_length 0) h.memory h.answer (rules _ _ _ h.asked)

  asked_sound : (most : ℕ) (last : Option TransportNumber) (buf buf' : List ℕ) (t : Option Taken) → Asked ask most last buf buf' t → Sound most (m.strings at) buf buf' t
  asked_sound most last buf buf' t h = sound_by most last buf buf' h.memory t h.answer (rules _ _ _ h.asked) h.value h.buffer

module _ (most : ℕ) (a b : Strings) (buf buf' : List ℕ) where
  sound_left : (t : Option Taken) → Sound most a buf buf' t → Sound most (a ++ b) buf buf' t
  sound_left None h = h
  sound_left (Some t) h = record { packet = h.packet; came = Memᴰ.append_left b h.came; its_frame = h.its_frame; within = h.within; rest = h.rest }

  sound_right : (t : Option Taken) → Sound most b buf buf' t → Sound most (a ++ b) buf buf' t
  sound_right None h = h
  sound_right (Some t) h = record { packet = h.packet; came = Memᴰ.append_right a h.came; its_frame = h.its_frame; within = h.within; rest = h.rest }

pub record BothSound (n n' r r' : Meaning) (at : Role) (most : ℕ) (buf buf' : List ℕ) (t : Option Taken) : Type 0 where
  pub normal : NoGains n n'
  pub redundant : NoGains r r'
  pub out : Sound most (n.strings at ++ r.strings at) buf buf' t

-- both carriers keep the rules, and one that is not asked has the same meaning
module _ (n n' r r' : Meaning) (at : Role) (same : Type 0) (unasked : same → r' ≡ r) (ask_n ask_r : List ℕ → Result (Option ℕ) Refusal → List ℕ → Type 0)
    (rules-n : (b : List ℕ) (a : Result (Option ℕ) Refusal) (b' : List ℕ) → ask_n b a b' → FetchRules n n' at b b' a)
    (rules-r : (b : List ℕ) (a : Result (Option ℕ) Refusal) (b' : List ℕ) → ask_r b a b' → FetchRules r r' at b b' a)
    (most : ℕ) (last : Option TransportNumber) (buf buf' : List ℕ) (t : Option Taken) where
  still : r' ≡ r → NoGains r r'
  still e = record { maximum = ap (λ (x : Meaning). x.largest) e; none = λ side. no_gain_same (r.strings side) (r'.strings side) (ap (λ (x : Meaning). x.strings side) e) }

  both_by : (mid : List ℕ) (first : Option Taken) → Asked ask_n most last buf mid first → Otherwise same ask_r most last mid buf' t first → BothSound n n' r r' at most buf buf' t
  both_by mid (Some x) h k = record {
    normal = asked_no_gains n n' at ask_n rules-n most last buf mid (Some x) h;
    redundant = still (unasked k.2);
    out =
        subst (Sound most (n.strings at ++ r.strings at) buf buf') (sym k.0)
        (sound_left most (n.strings at) (r.strings at) buf buf' (Some x) (subst (λ (z : List ℕ). Sound most (n.strings at) buf z (Some x)) (sym k.1) (asked_sound n n' at ask_n rules-n most last buf mid (Some x) h)));
  }
  both_by mid None h k =
      let e : mid ≡ buf = asked_sound n n' at ask_n rules-n most last buf mid None h in
      record {
        normal = asked_no_gains n n' at ask_n rules-n most last buf mid None h;
        redundant = asked_no_gains r r' at ask_r rules-r most last mid buf' t k;
        out = sound_right most (n.strings at) (r.strings at) buf buf' t (subst (λ (z : List ℕ). Sound most (r.strings at) z buf' t) e (asked_sound r r' at ask_r rules-r most last mid buf' t k));
      }

  both_sound : AskedBoth same ask_n ask_r most last buf buf' t → BothSound n n' r r' at most buf buf' t
  both_sound h = both_by h.mid h.first h.normal h.redundant

pair_fetch : (n n' r r' : Meaning) (at : Role) (buf buf' : List ℕ) → pair_largest n.largest r.largest ≤ length buf → (t : Option Taken)
    → BothSound n n' r r' at (pair_largest n.largest r.largest) buf buf' t → FetchRules (pair_meaning n r) (pair_meaning n' r') at buf buf' (Ok (option_map (λ x. x.len) t))
pair_fetch n n' r r' at buf buf' room None h = record { room = room; none = pair_no_gains n n' r r' h.normal h.redundant; written = h.out }
pair_fetch n n' r r' at buf buf' room (Some t) h = record {
  room = room;
  none = pair_no_gains n n' r r' h.normal h.redundant;
  within = omega (arith, h.out.within);
  came = mem_frames (pair_largest n.largest r.largest) (n.strings at ++ r.strings at) h.out.packet (take t.len buf') h.out.came h.out.its_frame;
  rest = h.out.rest;
}

-- what holds of the calls below is passed on
module _ (same : Type 0) (ask ask' also also' : List ℕ → Result (Option ℕ) Refusal → List ℕ → Type 0) (f : (b : List ℕ) (a : Result (Option ℕ) Refusal) (b' : List ℕ) → ask b a b' → ask' b a b')
    (g : (b : List ℕ) (a : Result (Option ℕ) Refusal) (b' : List ℕ) → also b a b' → also' b a b') (most : ℕ) (last : Option TransportNumber) where
  asked_as : (buf buf' : List ℕ) (t : Option Taken) → Asked ask most last buf buf' t → Asked ask' most last buf buf' t
  asked_as buf buf' t h = record { answer = h.answer; memory = h.memory; asked = f _ _ _ h.asked; value = h.value; buffer = h.buffer }

  otherwise_as : (mid buf' : List ℕ) (t first : Option Taken) → Otherwise same also most last mid buf' t first → Otherwise same also' most last mid buf' t first
  otherwise_as mid buf' t (Some x) k = k
  otherwise_as mid buf' t None h = record { answer = h.answer; memory = h.memory; asked = g _ _ _ h.asked; value = h.value; buffer = h.buffer }

  both_as : (buf buf' : List ℕ) (t : Option Taken) → AskedBoth same ask also most last buf buf' t → AskedBoth same ask' also' most last buf buf' t
  both_as buf buf' t h = record { mid = h.mid; first = h.first; normal = asked_as buf h.mid h.first h.normal; redundant = otherwise_as h.mid buf' t h.first h.redundant }

-- what is written to the start of a buffer leaves what lies behind it
written_more : (xs rest : List ℕ) (o : Option PacketValue) → ((q : PacketValue) → o ≡ Some q → length q.frame ≤ length xs) → written xs o ++ rest ≡ written (xs ++ rest) o
written_more xs rest None h = refl
written_more xs rest (Some q) h = append_assoc q.frame (drop (length q.frame) xs) rest ∙ ap (λ x. q.frame ++ x) (sym (drop-append-le (length q.frame) xs rest (h q refl)))

length_written : (xs : List ℕ) (o : Option PacketValue) → length xs ≤ length (written xs o)
length_written xs None = omega arith
length_written xs (Some q) = simp (length-append, length-drop) (omega arith)

got_within : (most : ℕ) (last : Option TransportNumber) (memory : List ℕ) (a : Result (Option ℕ) Refusal) (q : PacketValue) → got most last memory a ≡ Some q → length q.frame ≤ most
got_within most last memory (Err e) q h = let z : ◌≡◌ {A = ℕ} 0 1 = cc in absurd (omega arith)
got_within most last memory (Ok None) q h = let z : ◌≡◌ {A = ℕ} 0 1 = cc in absurd (omega arith)
got_within most last memory (Ok (Some n)) q h = (gives_out most last q (read_packet (take n memory)) h).1

module _ (most : ℕ) (last : Option TransportNumber) (rest : List ℕ) where
  asked_more : (ask : List ℕ → Result (Option ℕ) Refusal → List ℕ → Type 0) (xs out : List ℕ) (t : Option Taken) → most ≤ length xs → Asked ask most last xs out t → Asked ask most last (xs ++ rest) (out ++ rest) t
  asked_more ask xs out t le h = record {
    answer = h.answer;
    memory = h.memory;
    asked = h.asked;
    value = h.value;
    buffer =
        ap (λ x. x ++ rest) h.buffer
        ∙ written_more xs rest (got most last h.memory h.answer) (λ q e. let w = got_within most last h.memory h.answer q e in omega arith);
  }

  module _ (same : Type 0) (ask also : List ℕ → Result (Option ℕ) Refusal → List ℕ → Type 0) where
    otherwise_more : (mid out : List ℕ) (t first : Option Taken) → most ≤ length mid → Otherwise same also most last mid out t first → Otherwise same also most last (mid ++ rest) (out ++ rest) t first
    otherwise_more mid out t (Some x) le k = (k.0, ap (λ z. z ++ rest) k.1, k.2)
    otherwise_more mid out t None le h = asked_more also mid out t le h

    both_more : (xs out : List ℕ) (t : Option Taken) → most ≤ length xs → AskedBoth same ask also most last xs out t → AskedBoth same ask also most last (xs ++ rest) (out ++ rest) t
    both_more xs out t le h =
        let long : most ≤ length h.mid = omega (arith, ap length h.normal.buffer, length_written xs (got most last h.normal.memory h.normal.answer)) in
        record { mid = h.mid ++ rest; first = h.first; normal = asked_more ask xs h.mid h.first le h.normal; redundant = otherwise_more h.mid out t h.first long h.redundant }

-- where nothing was given the buffer is as it was
nothing_written : (xs : List ℕ) (o : Option PacketValue) → taken_of o ≡ None → written xs o ≡ xs
nothing_written xs None e = refl
nothing_written xs (Some q) e = let z : ◌≡◌ {A = ℕ} 0 1 = cc in absurd (omega arith)

-- both are asked into the first bytes of a buffer, as many as a frame may have
module _ (same : Type 0) (ask also : List ℕ → Result (Option ℕ) Refusal → List ℕ → Type 0) (last : Option TransportNumber) (out : List ℕ) (t : Option Taken) where
  both_by_turns : (xs mid : List ℕ) (first : Option Taken) → Asked ask (length xs) last xs mid first → Otherwise same also (length mid) last mid out t first → AskedBoth same ask also (length xs) last xs out t
  both_by_turns xs mid (Some x) h k = record { mid = mid; first = Some x; normal = h; redundant = k }
  both_by_turns xs mid None h k =
      let e : mid ≡ xs = h.buffer ∙ nothing_written xs (got (length xs) last h.memory h.answer) (sym h.value) in
      record { mid = mid; first = None; normal = h; redundant = subst (λ (x : List ℕ). Asked also (length x) last mid out t) e k }

  both_over : (most : ℕ) (buf : List ℕ) → most ≤ length buf → AskedInTurn same ask also last (take most buf) out t → AskedBoth same ask also most last buf (out ++ drop most buf) t
  both_over most buf le h =
      let n : length (take most buf) ≡ most = length-take-le most buf le in
      let k : AskedBoth same ask also most last (take most buf) out t =
      subst (λ (x : ℕ). AskedBoth same ask also x last (take most buf) out t) n (both_by_turns (take most buf) h.mid h.first h.normal h.redundant) in
      subst (λ (x : List ℕ). AskedBoth same ask also most last x (out ++ drop most buf) t) (take-append-drop most buf)
      (both_more most last (drop most buf) same ask also (take most buf) out t (omega arith) k)

-- a fetch on a pair keeps the rules, and does what its carriers do
module _ (n n' r r' : Meaning) (at : Role) (same : Type 0) (unasked : same → r' ≡ r) (does_n does_r : List ℕ → Result (Option ℕ) Refusal → List ℕ → Type 0) where
  abbrev pub ask_n : List ℕ → Result (Option ℕ) Refusal → List ℕ → Type 0
  ask_n b a b' = FetchRules n n' at b b' a × does_n b a b'

  abbrev pub ask_r : List ℕ → Result (Option ℕ) Refusal → List ℕ → Type 0
  ask_r b a b' = FetchRules r r' at b b' a × does_r b a b'

  pub fetched : (most : ℕ) (last : Option TransportNumber) (buf out : List ℕ) (t : Option Taken) → most ≡ pair_largest n.largest r.largest → most ≤ length buf
      → AskedInTurn same ask_n ask_r last (take most buf) out t
      → FetchRules (pair_meaning n r) (pair_meaning n' r') at buf (out ++ drop most buf) (Ok (option_map (λ x. x.len) t))
      × AskedBoth same does_n does_r (pair_largest n.largest r.largest) last buf (out ++ drop most buf) t
  fetched most last buf out t em room h₀ =
      let buf' : List ℕ = out ++ drop most buf in
      let m : ℕ = pair_largest n.largest r.largest in
      let h : AskedBoth same ask_n ask_r m last buf buf' t = subst (λ (x : ℕ). AskedBoth same ask_n ask_r x last buf buf' t) em (both_over same ask_n ask_r last out t most buf room h₀) in (
        pair_fetch n n' r r' at buf buf' (subst (λ (x : ℕ). x ≤ length buf) em room) t (both_sound n n' r r' at same unasked ask_n ask_r (λ b a b' x. x.0) (λ b a b' x. x.0) m last buf buf' t h),
        both_as same ask_n does_n ask_r does_r (λ b a b' x. x.1) (λ b a b' x. x.1) m last buf buf' t h,
      )
