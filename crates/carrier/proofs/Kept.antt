-- What a store does keeps the rules of a carrier.
use Rattle.std.proofs.Common.{◌≡◌, ℕ, zero, suc, ◌<◌, Bool, true, false, cond, leb, List, [], ◌∷◌, ◌++◌, length, get_or, take, drop, Some, None, Ok, Err, Option, Result, sym, refl, ap, ◌∙◌, subst, inl, inr, ⊎_elim, arith, leb-false, leb-true}
use mathlib.Core.List.Memᴰ
use mathlib.Core.List.{Memᴰ}
use Rattle.std.specs.List.{remove}
use Rattle.std.proofs.lemmas.Bool.Decides.{nat_tests}
use Rattle.std.proofs.lemmas.List.{take_at, drop_at}
use Rattle.terms.specs.declared.role.Role.{Role}
use Rattle.carrier.specs.declared.Keeping.{Keeping}
use Rattle.terms.specs.declared.refusal.Refusal.{Refusal}
use Rattle.terms.specs.Roles.{far}
use Rattle.terms.specs.Sides.{at}
use Rattle.carrier.specs.Rules.{Strings, Meaning, greatest_length, NoGain, PutRules, FetchRules}
use Rattle.carrier.proofs.Sides.{both, no_gain_same, mem_get_or}
use Rattle.carrier.specs.declared.store.Store.{Store}
use Rattle.carrier.specs.Packing.{Short}
use Rattle.carrier.specs.Wires.{wire_meaning, strings_at, room_at, fits, WirePut, place_of, fetch_answer, fetch_strings, fetch_buffer, WireFetch}

abbrev means : (Role → Strings) → Meaning
means f = record { largest = greatest_length; strings = f }

put_by : (m f : Bool) (before after : Role → Strings) (from : Role) (s : List ℕ) (r : Result Keeping Refusal) → leb (length s) greatest_length ≡ m
    → r ≡ cond m (cond f (Ok Keeping.Kept) (Ok Keeping.NotKept)) (Err Refusal.StringTooLong)
    → after (far from) ≡ cond m (cond f (before (far from) ++ s ∷ []) (before (far from))) (before (far from)) → after from ≡ before from
    → PutRules (means before) (means after) from s r
put_by true true before after from s r l e a n =
    subst (PutRules (means before) (means after) from s) (sym e) (record {
      fits = leb-true (length s) greatest_length l;
      maximum = refl;
      near = no_gain_same (before from) (after from) n;
      across = λ t m.
          ⊎_elim (λ (x : Memᴰ t (before (far from))). inl x) (λ (y : Memᴰ t (s ∷ [])). inr (Memᴰ.eq_of_singleton y))
          (Memᴰ.append_cases (before (far from)) (subst (λ (x : Strings). Memᴰ t x) a m));
    })
put_by true false before after from s r l e a n =
    subst (PutRules (means before) (means after) from s) (sym e) (record {
      fits = leb-true (length s) greatest_length l;
      none = record { maximum = refl; none = both (λ x. NoGain (before x) (after x)) from (no_gain_same (before from) (after from) n) (no_gain_same (before (far from)) (after (far from)) a) };
    })
put_by false f before after from s r l e a n =
    subst (PutRules (means before) (means after) from s) (sym e) (record {
      reason = refl;
      long = leb-false (length s) greatest_length l;
      same = record { maximum = refl; same = both (λ x. after x ≡ before x) from n a };
    })

pub put_rules : (before after : Store) (from : Role) (s : List ℕ) (r : Result Keeping Refusal) → WirePut before after from s r → PutRules (wire_meaning before) (wire_meaning after) from s r
put_rules before after from s r p =
    put_by (leb (length s) greatest_length) (fits (room_at before (far from)) (strings_at before (far from)) s) (strings_at before) (strings_at after) from s r refl p.answer p.across p.near

no_gain_removed : (ss : Strings) (k : ℕ) → NoGain ss (remove ss k)
no_gain_removed [] zero t m = m
no_gain_removed [] (suc k) t m = m
no_gain_removed (s ∷ ss) zero t m = Memᴰ.tail m
no_gain_removed (s ∷ ss) (suc k) t m =
    ⊎_elim (λ (e : t ≡ s). Memᴰ.head e) (λ (n : Memᴰ t (remove ss k)). Memᴰ.tail (no_gain_removed ss k t n)) (Memᴰ.cases_cons m)

no_gain_kept : (stays : Bool) (ss xs : Strings) (k : ℕ) → xs ≡ cond stays ss (remove ss k) → NoGain ss xs
no_gain_kept true ss xs k e t m = no_gain_same ss xs e t m
no_gain_kept false ss xs k e t m = no_gain_removed ss k t (subst (λ (x : Strings). Memᴰ t x) e m)

module _ (before after : Role → Strings) (at : Role) (buf buf' : List ℕ) (r : Result (Option ℕ) Refusal) (stays : Bool) where
  fetch_by : (b : Bool) (chosen : Option ℕ) → leb greatest_length (length buf) ≡ b → Short (before at) → ((k : ℕ) → chosen ≡ Some k → k < length (before at))
      → r ≡ fetch_answer b (before at) chosen → after at ≡ fetch_strings b (before at) chosen stays → after (far at) ≡ before (far at) → buf' ≡ fetch_buffer b buf (before at) chosen
      → FetchRules (means before) (means after) at buf buf' r
  fetch_by false chosen l sh in' e n a w =
      subst (FetchRules (means before) (means after) at buf buf') (sym e) (record { reason = refl; short = leb-false greatest_length (length buf) l; same = record { maximum = refl; same = both (λ x. after x ≡ before x) at n a }; written = w })
  fetch_by true None l sh in' e n a w =
      subst (FetchRules (means before) (means after) at buf buf') (sym e) (record {
        room = leb-true greatest_length (length buf) l;
        none = record { maximum = refl; none = both (λ x. NoGain (before x) (after x)) at (no_gain_same (before at) (after at) n) (no_gain_same (before (far at)) (after (far at)) a) };
        written = w;
      })
  fetch_by true (Some k) l sh in' e n a w =
      let s : List ℕ = get_or (before at) k [] in
      subst (FetchRules (means before) (means after) at buf buf') (sym e) (record {
        room = leb-true greatest_length (length buf) l;
        none = record { maximum = refl; none = both (λ x. NoGain (before x) (after x)) at (no_gain_kept stays (before at) (after at) k n) (no_gain_same (before (far at)) (after (far at)) a) };
        within = omega (arith, sh k (in' k refl), leb-true greatest_length (length buf) l);
        came = Memᴰ.cast (ap (take (length s)) w ∙ take_at s (drop (length s) buf) (length s) refl) (mem_get_or (before at) k (in' k refl));
        rest = ap (drop (length s)) w ∙ drop_at s (drop (length s) buf) (length s) refl;
      })

pub fetch_rules : (before after : Store) (side : Role) (chosen : Option ℕ) (stays : Bool) (buf buf' : List ℕ) (r : Result (Option ℕ) Refusal)
    → ((k : ℕ) → chosen ≡ Some k → k < length (strings_at before side))
    → WireFetch before after side chosen stays buf buf' r → FetchRules (wire_meaning before) (wire_meaning after) side buf buf' r
fetch_rules before after side chosen stays buf buf' r in' p =
    fetch_by (strings_at before) (strings_at after) side buf buf' r stays (leb greatest_length (length buf)) chosen refl (at before.queues side).short in' p.answer p.near p.across p.written

pub place_within : (ss : Strings) (n k : ℕ) → place_of ss n ≡ Some k → k < length ss
place_within ss n k e = grind (arith, nat_tests)
