-- Where a queue's strings lie.
use Rattle.std.proofs.Common.{◌≡◌, ℕ, ◌+◌, ◌-◌, ◌*◌, ◌<◌, ◌≤◌, List, [], length, get_or, take, drop, vec_items, subst, arith}
use Rattle.carrier.specs.declared.queue.Queue.{Queue}
use Rattle.carrier.specs.Packing.{bulk}
use Rattle.carrier.specs.Held.{held}
use lib.Seq.{paste}
use Rattle.std.specs.List.{remove}
use Rattle.carrier.proofs.Packing.{total, reads, string, next, Holding, holding_removed, length_unpacked}

pub record Spot (q : Queue) (k : ℕ) : Type 0 where
  pub within : bulk (take k (held q)) + (length (get_or (held q) k []) + 2) ≤ q.used
  pub reads : get_or (vec_items q.memory) (bulk (take k (held q))) 0 * 256 + get_or (vec_items q.memory) (bulk (take k (held q)) + 1) 0 ≡ length (get_or (held q) k [])
  pub string : take (length (get_or (held q) k [])) (drop (bulk (take k (held q)) + 2) (vec_items q.memory)) ≡ get_or (held q) k []
  pub next : bulk (take (k + 1) (held q)) ≡ bulk (take k (held q)) + (length (get_or (held q) k []) + 2)

pub spot : (q : Queue) (k : ℕ) → k < length (held q) → Spot q k
spot q k lt =
    let le : q.used ≤ length (vec_items q.memory) = omega arith in
    record {
      within = omega (arith, total (vec_items q.memory) q.used (held q) q.whole le k lt);
      reads = reads (vec_items q.memory) q.used (held q) q.whole le k lt;
      string = string (vec_items q.memory) q.used (held q) q.whole le k lt;
      next = next (vec_items q.memory) q.used (held q) q.whole le k lt;
    }

pub removing : (q : Queue) (k start end : ℕ) (m' : List ℕ) → k < length (held q) → start ≡ bulk (take k (held q)) → end ≡ start + (length (get_or (held q) k []) + 2)
    → m' ≡ paste (vec_items q.memory) start (drop end (vec_items q.memory)) (q.used - end) → Holding (vec_items q.memory) m' (q.used - (end - start)) (q.count - 1) (remove (held q) k)
removing q k start end m' lt es ee e =
    let m : List ℕ = vec_items q.memory in
    let p : ℕ = bulk (take k (held q)) in
    let n : ℕ = length (get_or (held q) k []) in
    let e' : m' ≡ paste m p (drop (p + (n + 2)) m) (q.used - (p + (n + 2))) = cc in
    let size : n + 2 ≡ end - start = omega arith in
    let h : Holding m m' (q.used - (n + 2)) (q.count - 1) (remove (held q) k) =
    holding_removed m q.used (held q) q.whole (omega arith) k lt m' (q.count - 1) q.short (omega (arith, length_unpacked q.count m)) e' in
    subst (λ (x : ℕ). Holding m m' (q.used - x) (q.count - 1) (remove (held q) k)) size h
