use Rattle.params.specs.Calls.{all_said}
use Rattle.params.proofs.ScriptLaws.{Reading}
use Rattle.params.proofs.script.read_calls.Given as goal

abbrev pub invariant-loop-line : goal.invariant-loop-line
invariant-loop-line l = Reading (all_said l.calls) l.line l.rest l.text
