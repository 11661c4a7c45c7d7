-- The after-images of transactions one after another.
use Rattle.std.specs.Prelude.{List, [], ◌∷◌}
use Rattle.pac_value.specs.State.{Tables}
use Rattle.pac_ops.specs.declared.transaction.Change.{Change}
use Rattle.pac_ops.specs.declared.transaction.Txn.{Txn}
use Rattle.pac_types.specs.declared.procedure.Proc.{Proc}
use Rattle.pac_types.specs.Execution.{txn_meaning}
use Rattle.pac_serial.specs.Writes.{if_well, after_images}

-- a list for each of the transactions, one after another, up to one that aborts
abbrev pub all_after_images : List Proc → List Txn → Tables → List (List Change)
all_after_images procs [] tables = []
all_after_images procs (txn ∷ txns) tables = if_well (λ after. after_images procs txn tables after ∷ all_after_images procs txns after) (txn_meaning procs txn tables)
