use Rattle.std.proofs.Common.{◌≤◌}
use Rattle.capi.proofs.measuring.turns.Given as goal

-- each round fetches at most one string
abbrev pub invariant-loop-round : goal.invariant-loop-round
invariant-loop-round l = l.came ≤ l.round
