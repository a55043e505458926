use Rattle.std.proofs.Common.{rules}
use lib.Count.{ones}
use Rattle.capi.proofs.measuring.sheet.Goals as goal

-- the bits of 3F, counted
pub unwrap-requires : goal.unwrap-requires
unfolding ones
unwrap-requires c = search rules
