use Rattle.std.proofs.Common.{arith}
use Rattle.pac_script.specs.Script.{ScriptSays}
use Rattle.pac_script.proofs.BatchFitLemmas.{script_fits, script_numbered}
use Rattle.pac_request.proofs.LineOnce.{only_answer}
use Rattle.pac_script.proofs.OneScript.{script_once}
use Rattle.pac_script.proofs.script.read_script.Goals as goal

pub returns-clause-only : goal.returns-clause-only
returns-clause-only c = λ answer says. only_answer (ScriptSays c.args.text.now) answer c.read_text.result (script_once c.args.text.now) c.read_text.ensures says

pub returns-clause-fits : goal.returns-clause-fits
returns-clause-fits c = script_fits c.args.text.now c.read_text.result c.read_text.ensures

pub returns-clause-numbers : goal.returns-clause-numbers
returns-clause-numbers c = script_numbered c.args.text.now c.read_text.result (omega arith) c.read_text.ensures
