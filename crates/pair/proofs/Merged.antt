-- The frames of two carriers' packets, and that two puts below keep the rules for the pair.
use Rattle.std.proofs.Common.{◌≡◌, ℕ, ◌≤◌, Bool, true, false, cond, leb, List, [], ◌∷◌, ◌++◌, length, Ok, Err, Result, refl, subst, ap₂, inl, inr, ⊎_elim}
use mathlib.Core.List.{Memᴰ}
use Rattle.std.specs.List.{flat_map}
use Rattle.terms.specs.declared.refusal.Refusal.{Refusal}
use Rattle.terms.specs.declared.role.Role.{Role}
use Rattle.terms.specs.Roles.{far}
use Rattle.packets.specs.Packets.{PacketValue, read_packet}
use Rattle.carrier.specs.declared.Keeping.{Keeping}
use Rattle.carrier.specs.declared.Keeping.TheVariants.{Kept, NotKept}
use Rattle.carrier.specs.Rules.{Strings, Meaning, NoGain, NoGains, GainsOnly, PutRules, PutKept, PutNotKept}
use Rattle.carrier.proofs.Sides.{no_gain_same}
use Rattle.pair.specs.Frames.{pair_largest, pair_meaning, frame_within, frames}
use Rattle.pair.specs.Pairs.{kept_either}

abbrev pub frame_of : ℕ → List ℕ → Strings
frame_of most p = frame_within most (read_packet p)

mem_joined : (g : List ℕ → Strings) (ps : Strings) (p t : List ℕ) → Memᴰ p ps → Memᴰ t (g p) → Memᴰ t (flat_map g ps)
mem_joined g [] p t m n = absurd (mathlib.Core.List.Memᴰ.not-nil m)
mem_joined g (q ∷ ps) p t m n =
    ⊎_elim
    (λ (e : p ≡ q). mathlib.Core.List.Memᴰ.append_left (flat_map g ps) (subst (λ (x : List ℕ). Memᴰ t (g x)) e n))
    (λ (k : Memᴰ p ps). mathlib.Core.List.Memᴰ.append_right (g q) (mem_joined g ps p t k n))
    (mathlib.Core.List.Memᴰ.cases_cons m)

joined_mem : (g : List ℕ → Strings) (ps : Strings) (t : List ℕ) → Memᴰ t (flat_map g ps) → (p : List ℕ) × Memᴰ p ps × Memᴰ t (g p)
joined_mem g [] t m = absurd (mathlib.Core.List.Memᴰ.not-nil m)
joined_mem g (q ∷ ps) t m =
    ⊎_elim
    (λ (n : Memᴰ t (g q)). (q, mathlib.Core.List.Memᴰ.head refl, n))
    (λ (k : Memᴰ t (flat_map g ps)). let h = joined_mem g ps t k in (h.0, mathlib.Core.List.Memᴰ.tail h.1, h.2))
    (mathlib.Core.List.Memᴰ.append_cases (g q) m)

pub mem_frames : (most : ℕ) (ps : Strings) (p t : List ℕ) → Memᴰ p ps → Memᴰ t (frame_of most p) → Memᴰ t (frames most ps)
mem_frames most ps p t m n = mem_joined (frame_of most) ps p t m n

-- the packets of two carriers, before and after
module _ (m m' : ℕ) (em : m' ≡ m) (a a' b b' : Strings) where
  pub frames_no_gain : NoGain a a' → NoGain b b' → NoGain (frames m (a ++ b)) (frames m' (a' ++ b'))
  frames_no_gain f g t h =
      let k = joined_mem (frame_of m) (a' ++ b') t (subst (λ (x : ℕ). Memᴰ t (frames x (a' ++ b'))) em h) in
      let p : List ℕ = k.0 in
      mem_joined (frame_of m) (a ++ b) p t
      (⊎_elim (λ (x : Memᴰ p a'). mathlib.Core.List.Memᴰ.append_left b (f p x)) (λ (y : Memᴰ p b'). mathlib.Core.List.Memᴰ.append_right a (g p y)) (mathlib.Core.List.Memᴰ.append_cases a' k.1))
      k.2

  pub frames_gain : (p q s : List ℕ) → GainsOnly p a a' → GainsOnly q b b' → ((t : List ℕ) → Memᴰ t (frame_of m p) → t ≡ s) → ((t : List ℕ) → Memᴰ t (frame_of m q) → t ≡ s)
      → GainsOnly s (frames m (a ++ b)) (frames m' (a' ++ b'))
  frames_gain p q s f g fp fq t h =
      let k = joined_mem (frame_of m) (a' ++ b') t (subst (λ (x : ℕ). Memᴰ t (frames x (a' ++ b'))) em h) in
      let w : List ℕ = k.0 in
      ⊎_elim
      (λ (x : Memᴰ w a').
      ⊎_elim (λ (y : Memᴰ w a). inl (mem_joined (frame_of m) (a ++ b) w t (mathlib.Core.List.Memᴰ.append_left b y) k.2))
      (λ (e : w ≡ p). inr (fp t (subst (λ (z : List ℕ). Memᴰ t (frame_of m z)) e k.2))) (f w x))
      (λ (x : Memᴰ w b').
      ⊎_elim (λ (y : Memᴰ w b). inl (mem_joined (frame_of m) (a ++ b) w t (mathlib.Core.List.Memᴰ.append_right a y) k.2))
      (λ (e : w ≡ q). inr (fq t (subst (λ (z : List ℕ). Memᴰ t (frame_of m z)) e k.2))) (g w x))
      (mathlib.Core.List.Memᴰ.append_cases a' k.1)

own_by : (b : Bool) (f t : List ℕ) → Memᴰ t (cond b (f ∷ []) []) → t ≡ f
own_by true f t m = mathlib.Core.List.Memᴰ.eq_of_singleton m
own_by false f t m = absurd (mathlib.Core.List.Memᴰ.not-nil m)

-- a packet gives no frame but its own
pub frame_own : (most : ℕ) (p : List ℕ) (q : PacketValue) → read_packet p ≡ Ok q → (t : List ℕ) → Memᴰ t (frame_of most p) → t ≡ q.frame
frame_own most p q e t m =
    own_by (leb (length q.frame) most) q.frame t (subst (λ (x : Result PacketValue Refusal). Memᴰ t (frame_within most x)) e m)

-- what the rules for a put say whatever it answers
module _ (m m' : Meaning) (from : Role) (s : List ℕ) where
  put_largest : (r : Result Keeping Refusal) → PutRules m m' from s r → m'.largest ≡ m.largest
  put_largest (Ok Kept) h = h.maximum
  put_largest (Ok NotKept) h = h.none.maximum
  put_largest (Err e) h = h.same.maximum

  put_near : (r : Result Keeping Refusal) → PutRules m m' from s r → NoGain (m.strings from) (m'.strings from)
  put_near (Ok Kept) h = h.near
  put_near (Ok NotKept) h = h.none.none from
  put_near (Err e) h = no_gain_same (m.strings from) (m'.strings from) (h.same.same from)

  put_across : (r : Result Keeping Refusal) → PutRules m m' from s r → GainsOnly s (m.strings (far from)) (m'.strings (far from))
  put_across (Ok Kept) h t x = h.across t x
  put_across (Ok NotKept) h t x = inl (h.none.none (far from) t x)
  put_across (Err e) h t x = inl (no_gain_same (m.strings (far from)) (m'.strings (far from)) (h.same.same (far from)) t x)

  put_refused : (e : Refusal) → PutRules m m' from s (Err e) → NoGains m m'
  put_refused e h = record { maximum = h.same.maximum; none = λ side. no_gain_same (m.strings side) (m'.strings side) (h.same.same side) }

-- no carrier gains, so the pair gains nothing
pub pair_no_gains : (n n' r r' : Meaning) → NoGains n n' → NoGains r r' → NoGains (pair_meaning n r) (pair_meaning n' r')
pair_no_gains n n' r r' f g =
    let em = ap₂ pair_largest f.maximum g.maximum in
    record { maximum = em; none = λ side. frames_no_gain (pair_largest n.largest r.largest) (pair_largest n'.largest r'.largest) em (n.strings side) (n'.strings side) (r.strings side) (r'.strings side) (f.none side) (g.none side) }

-- packets p and q of the frame s are put
module _ (n n' r r' : Meaning) (from : Role) (p q s : List ℕ) (le : length s ≤ pair_largest n.largest r.largest)
    (fp : (t : List ℕ) → Memᴰ t (frame_of (pair_largest n.largest r.largest) p) → t ≡ s) (fq : (t : List ℕ) → Memᴰ t (frame_of (pair_largest n.largest r.largest) q) → t ≡ s) where
  kept : (x y : Result Keeping Refusal) → PutRules n n' from p x → PutRules r r' from q y → PutKept (pair_meaning n r) (pair_meaning n' r') from s
  kept x y h k =
      let m : ℕ = pair_largest n.largest r.largest in
      let m' : ℕ = pair_largest n'.largest r'.largest in
      let em : m' ≡ m = ap₂ pair_largest (put_largest n n' from p x h) (put_largest r r' from q y k) in
      record {
        fits = le;
        maximum = em;
        near = frames_no_gain m m' em (n.strings from) (n'.strings from) (r.strings from) (r'.strings from) (put_near n n' from p x h) (put_near r r' from q y k);
        across = frames_gain m m' em (n.strings (far from)) (n'.strings (far from)) (r.strings (far from)) (r'.strings (far from)) p q s (put_across n n' from p x h) (put_across r r' from q y k) fp fq;
      }

  not_kept : NoGains n n' → NoGains r r' → PutNotKept (pair_meaning n r) (pair_meaning n' r') s
  not_kept f g = record { fits = le; none = pair_no_gains n n' r r' f g }

  pub pair_put : (x y : Result Keeping Refusal) → PutRules n n' from p x → PutRules r r' from q y → PutRules (pair_meaning n r) (pair_meaning n' r') from s (Ok (kept_either x y))
  pair_put (Ok Kept) y h k = kept (Ok Kept) y h k
  pair_put (Ok NotKept) (Ok Kept) h k = kept (Ok NotKept) (Ok Kept) h k
  pair_put (Ok NotKept) (Ok NotKept) h k = not_kept h.none k.none
  pair_put (Ok NotKept) (Err e) h k = not_kept h.none (put_refused r r' from q e k)
  pair_put (Err e) (Ok Kept) h k = kept (Err e) (Ok Kept) h k
  pair_put (Err e) (Ok NotKept) h k = not_kept (put_refused n n' from p e h) k.none
  pair_put (Err e) (Err f) h k = not_kept (put_refused n n' from p e h) (put_refused r r' from q f k)
