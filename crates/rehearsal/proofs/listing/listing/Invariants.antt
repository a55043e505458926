use Rattle.std.proofs.Common.{◌≡◌, ◌++◌, suc, string_bytes}
use Rattle.std.specs.Slice.Iter.{iter_rest}
use Rattle.rehearsal.specs.Listing.{entries, listing_text}
use Rattle.rehearsal.proofs.listing.listing.Given as goal

-- with what is to come, it is the whole listing
abbrev pub invariant-loop-i : goal.invariant-loop-i
invariant-loop-i l =
    string_bytes l.text ++ entries (suc l.i-iterator.count) (iter_rest l.i-iterator.iter.a) (iter_rest l.i-iterator.iter.b) ≡ listing_text l.calls l.lines
