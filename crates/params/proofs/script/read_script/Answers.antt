use Rattle.std.proofs.Common.{◌≡◌, true, is_ok, rules}
use Rattle.params.specs.Calls.{all_said, Answers}
use Rattle.params.specs.Scripts.{read_script, first_call}
use Rattle.params.proofs.ScriptFaults.{script_first_fault}
use Rattle.params.proofs.ScriptReady.{script_ready}
use Rattle.params.proofs.script.read_script.Goals as goal

pub returns : goal.returns
returns c =
    let text = c.args.text.now in
    let r = c.read_calls.result in
    let is : Answers all_said (read_script text) (is_ok (first_call text) ≡ true) r = search rules in
    record { value = is; ready = script_ready (is_ok (first_call text) ≡ true) text all_said r is; first = script_first_fault (is_ok (first_call text) ≡ true) text all_said r is }
