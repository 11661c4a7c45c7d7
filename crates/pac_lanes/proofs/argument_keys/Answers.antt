use Rattle.pac_lanes.proofs.ArgKeyLemmas.{variable_keys, call_keys, call_key}
use Rattle.pac_lanes.proofs.argument_keys.Goals as goal

pub returns : goal.returns
returns c = record { test = variable_keys; pieces = call_keys; key = call_key }
