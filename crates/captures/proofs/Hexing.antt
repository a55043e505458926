-- Decoding goes on from what was decoded so far.
use Rattle.std.proofs.Common.{◌≡◌, ℕ, List, [], ◌∷◌, ◌++◌, length, get_or, Ok, Err, Result, sym, refl, ap, ◌∙◌, append_assoc, append-nil, arith}
use Rattle.terms.specs.Outcomes.{then}
use Rattle.captures.specs.declared.line.LineFault.{LineFault}
use Rattle.captures.specs.declared.line.LineFault.TheVariants.{NotHex}
use Rattle.captures.specs.Digits.{byte_value, pairs_value}

-- what was decoded so far, before what is left
abbrev pub joined : List ℕ → Result (List ℕ) LineFault → Result (List ℕ) LineFault
joined xs r = then r (λ ys. Ok (xs ++ ys))

join_on : (xs : List ℕ) (x : ℕ) (r : Result (List ℕ) LineFault) → joined xs (then r (λ ys. Ok (x ∷ ys))) ≡ joined (xs ++ x ∷ []) r
join_on xs x (Ok ys) = ap (λ l. Ok l) (sym (append_assoc xs (x ∷ []) ys))
join_on xs x (Err e) = refl

-- one byte more
pub decode_on : (pair rest left xs : List ℕ) (x : ℕ) → rest ≡ pair ++ left → length pair ≡ 2 → byte_value (get_or pair 0 0) (get_or pair 1 0) ≡ Ok x
    → joined xs (pairs_value rest) ≡ joined (xs ++ x ∷ []) (pairs_value left)
unfolding pairs_value
decode_on [] rest left xs x e h v = absurd (omega arith)
decode_on (a ∷ []) rest left xs x e h v = absurd (omega arith)
decode_on (a ∷ b ∷ []) rest left xs x e h v =
    ap (λ r. joined xs (pairs_value r)) e ∙ ap (λ r. joined xs (then r (λ y. then (pairs_value left) (λ ys. Ok (y ∷ ys))))) v ∙ join_on xs x (pairs_value left)
decode_on (a ∷ b ∷ c ∷ pair) rest left xs x e h v = absurd (omega arith)

-- a pair that is none
pub decode_stop : (pair rest left xs : List ℕ) (fault : LineFault) → rest ≡ pair ++ left → length pair ≡ 2 → byte_value (get_or pair 0 0) (get_or pair 1 0) ≡ Err fault
    → joined xs (pairs_value rest) ≡ Err fault
unfolding pairs_value
decode_stop [] rest left xs fault e h v = absurd (omega arith)
decode_stop (a ∷ []) rest left xs fault e h v = absurd (omega arith)
decode_stop (a ∷ b ∷ []) rest left xs fault e h v =
    ap (λ r. joined xs (pairs_value r)) e ∙ ap (λ r. joined xs (then r (λ y. then (pairs_value left) (λ ys. Ok (y ∷ ys))))) v
decode_stop (a ∷ b ∷ c ∷ pair) rest left xs fault e h v = absurd (omega arith)

-- nothing is left
pub decode_end : (rest xs : List ℕ) → length rest ≡ 0 → joined xs (pairs_value rest) ≡ Ok xs
unfolding pairs_value
decode_end [] xs h = ap (λ l. Ok l) (append-nil xs)
decode_end (a ∷ rest) xs h = absurd (omega arith)

-- one digit is left
pub decode_odd : (rest xs : List ℕ) → length rest ≡ 1 → joined xs (pairs_value rest) ≡ Err NotHex
unfolding pairs_value
decode_odd [] xs h = absurd (omega arith)
decode_odd (a ∷ []) xs h = refl
decode_odd (a ∷ b ∷ rest) xs h = absurd (omega arith)
