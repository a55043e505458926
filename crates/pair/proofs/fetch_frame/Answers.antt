-- What the carrier answered and wrote are the named values.
use Rattle.std.proofs.Common.{ℕ, List, replicate, Some, None, Ok, refl, rules}
use Rattle.carrier.specs.Rules.{FetchSome, FetchNone, greatest_length}
use Rattle.pair.proofs.fetch_frame.Goals as goal

pub returns-in-Ok-Some : goal.returns-in-Ok-Some
returns-in-Ok-Some g c =
    let memory : List ℕ = c.fetch.new.buf in
    let before = c.args.carrier.now in
    let after = c.fetch.new.self in
    let h : FetchSome (g.C.Carrier.meaning before) (g.C.Carrier.meaning after) c.args.at (replicate greatest_length 0) memory c.in-Ok-Some.n = search rules in
    let x : g.C.Carrier.fetching before c.args.at (replicate greatest_length 0) (Ok (Some c.in-Ok-Some.n)) memory after = search rules in
    record { answer = Ok (Some c.in-Ok-Some.n); memory = memory; asked = (h, x); value = c.take_frame.ensures.value; buffer = c.take_frame.ensures.buffer }

pub returns-in-Ok-None : goal.returns-in-Ok-None
returns-in-Ok-None g c =
    let memory : List ℕ = c.fetch.new.buf in
    let before = c.args.carrier.now in
    let after = c.fetch.new.self in
    let h : FetchNone (g.C.Carrier.meaning before) (g.C.Carrier.meaning after) (replicate greatest_length 0) memory = search rules in
    let x : g.C.Carrier.fetching before c.args.at (replicate greatest_length 0) (Ok None) memory after = search rules in
    record { answer = Ok None; memory = memory; asked = (h, x); value = refl; buffer = refl }
