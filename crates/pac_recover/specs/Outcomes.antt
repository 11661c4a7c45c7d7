-- What workers leave of stored transactions.
use Rattle.std.specs.Prelude.{Option, Some, None}
use Rattle.pac_tables.specs.Joined.{Held}
use Rattle.pac_ops.specs.declared.note.Note.{Note}
use Rattle.pac_restore.specs.declared.execution.Execution.{Execution}
use Rattle.pac_restore.specs.declared.execution.Execution.TheVariants as replayed

-- what is executed: the tables, or the first transaction that aborts
abbrev pub executed_to : {T : Type 0} → Held → Option Note → Execution T
executed_to held None = replayed.Tables held
executed_to held (Some note) = replayed.Aborted note
