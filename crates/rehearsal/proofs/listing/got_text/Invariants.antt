use Rattle.std.proofs.Common.{◌≡◌, map, take, string_bytes}
use Rattle.rehearsal.specs.Listing.{shown_byte}
use Rattle.rehearsal.proofs.listing.got_text.Given as goal

abbrev pub invariant-loop-byte : goal.invariant-loop-byte
invariant-loop-byte l = string_bytes l.text ≡ map shown_byte (take l.byte-index l.got)
