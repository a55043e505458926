use Rattle.std.proofs.Common.{◌*◌, ◌≤◌}
use Rattle.capi.proofs.measuring.Served.rounds.Given as goal

-- each round delivers at most three messages
abbrev pub invariant-loop-time : goal.invariant-loop-time
invariant-loop-time l = l.delivered ≤ 3 * l.time
