-- The key has its table's key type.
use Rattle.pac_value.specs.Expressions.{type_in, types_of}
use Rattle.pac_types.specs.WellFormed.{key_type}
use Rattle.pac_serial.proofs.RowLemmas.{wanted-some}
use Rattle.pac_serial.proofs.KeyLemmas.{wanted-no-bool, key-cell, key-typed, key-trap}
use Rattle.pac_serial.proofs.operation.key_of.Goals as goal

pub eval_key-requires-clause-typed : goal.eval_key-requires-clause-typed
eval_key-requires-clause-typed c = wanted-some (type_in (types_of c.args.env.now) c.args.target.now.key.now) (key_type c.args.tables.now c.args.target.now.table) c.requires

pub eval_key-requires-clause-stored : goal.eval_key-requires-clause-stored
eval_key-requires-clause-stored c = wanted-no-bool (type_in (types_of c.args.env.now) c.args.target.now.key.now) (key_type c.args.tables.now c.args.target.now.table) c.requires

pub returns-clause-ok : goal.returns-clause-ok
returns-clause-ok c = key-cell c.args.target.now.table c.args.target.now.key.now c.args.env.now c.eval_key.result c.eval_key.ensures.key

pub returns-clause-typed : goal.returns-clause-typed
returns-clause-typed c = key-typed (type_in (types_of c.args.env.now) c.args.target.now.key.now) (key_type c.args.tables.now c.args.target.now.table) c.eval_key.result c.requires c.eval_key.ensures.typed

pub returns-clause-trap : goal.returns-clause-trap
returns-clause-trap c = key-trap c.args.target.now.table c.args.target.now.key.now c.args.env.now c.eval_key.result c.eval_key.ensures.key
