-- What recovery of a history answers.
use Rattle.std.specs.Prelude.{ℕ, List, Result, Ok, Err}
use Rattle.pac_ops.specs.declared.transaction.Txn.{Txn}
use Rattle.pac_types.specs.Typing.{CatalogueState}
use Rattle.pac_restore.specs.declared.errors.LoadError.TheVariants as load
use Rattle.pac_restore.specs.declared.errors.RecoverError.{RecoverError}
use Rattle.pac_restore.specs.declared.errors.RecoverError.TheVariants as error
use Rattle.pac_restore.specs.Prefixes.{IsPrefixOverLimit, IsRecoveredPrefix}
use Rattle.pac_recover.specs.declared.recovery.Recovered.{Recovered}

-- Tables of a prefix of the history, or a table of these over the limit. Nothing is damaged and nothing aborts.
abbrev pub Recovers : CatalogueState → List Txn → ℕ → Result Recovered RecoverError → Type 0
Recovers catalogue history least (Ok recovered) = IsRecoveredPrefix catalogue history least recovered.catalogue recovered.tables.rows recovered.txns
Recovers catalogue history least (Err (error.Load load.NoStore)) = ⊥
Recovers catalogue history least (Err (error.Load (load.Damaged damage))) = ⊥
Recovers catalogue history least (Err (error.Load load.DiskFault)) = Unit {0}
Recovers catalogue history least (Err (error.Load load.NoMemory)) = Unit {0}
Recovers catalogue history least (Err (error.AbortInLog note)) = ⊥
Recovers catalogue history least (Err (error.RowsOver table rows limit)) = IsPrefixOverLimit catalogue history least table rows limit
