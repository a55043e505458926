-- What comes out of a carrier below is what comes out of the pair.
use Rattle.std.proofs.Common.{◌≡◌, ℕ, ◌≤◌, ◌++◌, List, length, take, drop, Some, None, Ok, Option, Result, refl, ap, subst, arith}
use Rattle.std.specs.Option.{option_map}
use Rattle.terms.specs.declared.refusal.Refusal.{Refusal}
use Rattle.packets.specs.declared.packet.TransportNumber.{TransportNumber}
use Rattle.carrier.specs.Rules.{Meaning, FetchRules}
use Rattle.pair.specs.declared.Taken.{Taken}
use Rattle.terms.specs.declared.role.Role.{Role}
use Rattle.terms.specs.Sides.{at, with_side}
use Rattle.pair.specs.declared.counters.Numbers.{Numbers}
use Rattle.pair.specs.Counts.{Counters, last_number, handed_out, noted}
use Rattle.pair.specs.Frames.{pair_largest, pair_meaning}
use Rattle.pair.specs.Pairs.{AskedBoth, AskedInTurn}
use Rattle.pair.proofs.Sound.{ask_n, ask_r, fetched}
use Rattle.pair.proofs.RedundantPairCarrier.fetch.Given as given
use Rattle.pair.proofs.RedundantPairCarrier.fetch.Goals as goal
use Rattle.pair.proofs.RedundantPairCarrier.fetch.Goals.{After-fetch_either}

-- both carriers were asked, and what they answered is t
module _ (g : given.Over) (c : After-fetch_either g) where
  abbrev n : Meaning
  n = g.N.Carrier.meaning c.args.self.now.normal

  abbrev n' : Meaning
  n' = g.N.Carrier.meaning c.fetch_either.new.self.normal

  abbrev r : Meaning
  r = g.R.Carrier.meaning c.args.self.now.redundant

  abbrev r' : Meaning
  r' = g.R.Carrier.meaning c.fetch_either.new.self.redundant

  abbrev same : Type 0
  same = c.fetch_either.new.self.redundant ≡ c.args.self.now.redundant

  abbrev does_n : List ℕ → Result (Option ℕ) Refusal → List ℕ → Type 0
  does_n b a b' = g.N.Carrier.fetching c.args.self.now.normal c.args.at b a b' c.fetch_either.new.self.normal

  abbrev does_r : List ℕ → Result (Option ℕ) Refusal → List ℕ → Type 0
  does_r b a b' = g.R.Carrier.fetching c.args.self.now.redundant c.args.at b a b' c.fetch_either.new.self.redundant

  abbrev last : Option TransportNumber
  last = last_number c.args.self.now.counters c.args.at

  abbrev most : ℕ
  most = c.largest-most.result

  abbrev buf : List ℕ
  buf = c.args.buf.now

  abbrev buf' : List ℕ
  buf' = c.fetch_either.new.buf ++ drop most buf

  room : pair_largest n.largest r.largest ≤ length buf
  room = omega arith

  came : (t : Option Taken)
      → AskedInTurn same (ask_n n n' r r' c.args.at same (λ e. ap g.R.Carrier.meaning e) does_n does_r) (ask_r n n' r r' c.args.at same (λ e. ap g.R.Carrier.meaning e) does_n does_r)
      c.at.result.now.last (take most buf) c.fetch_either.new.buf t
      → FetchRules (pair_meaning n r) (pair_meaning n' r') c.args.at buf buf' (Ok (option_map (λ x. x.len) t)) × AskedBoth same does_n does_r (pair_largest n.largest r.largest) last buf buf' t
  came t h =
      let e : c.at.result.now.last ≡ last = ap (λ x. x.last) c.at.ensures in
      fetched n n' r r' c.args.at same (λ e. ap g.R.Carrier.meaning e) does_n does_r most last buf c.fetch_either.new.buf t c.largest-most.ensures (omega arith)
      (subst (λ l. AskedInTurn same (ask_n n n' r r' c.args.at same (λ e. ap g.R.Carrier.meaning e) does_n does_r) (ask_r n n' r r' c.args.at same (λ e. ap g.R.Carrier.meaning e) does_n does_r) l (take most buf) c.fetch_either.new.buf t) e h)

noted_by : (c cs : Counters) (side : Role) (m m' : Numbers) (number : TransportNumber) → cs ≡ c → m ≡ at cs side → m' ≡ handed_out m number → with_side cs side m' ≡ noted c side number
noted_by c cs side m m' number e f h = cc

pub returns-in_default : goal.returns-in_default
returns-in_default g c =
    let d = (goal.at.returns-in_default g c).After-fetch_either in
    let h = came g d None c.in_default.ensures.asked in
    record { rules = h.0; exact = record { room = room g d; out = None; asked = h.1; value = refl; counters = c.fetch_either.ensures.counters } }

pub returns : goal.returns
returns g c =
    let d = (goal.at.returns g c).After-fetch_either in
    let h = came g d (Some c.in-Some.field-0) c.in-Some.ensures.asked in
    record { rules = h.0; exact = record { room = room g d; out = Some c.in-Some.field-0; asked = h.1; value = refl; counters = noted_by _ _ c.args.at _ _ _ c.fetch_either.ensures.counters c.at_mut.ensures.value c.note.ensures } }
