-- The bytes of the transactions of a batch, as they stand after an open gate.
use Rattle.std.specs.Prelude.{◌≤◌, ℕ, List, [], ◌∷◌, ◌++◌, length}
use Rattle.std.specs.Int.{w32, to_le_bytes}
use Rattle.std.specs.List.{flat_map, All}
use Rattle.pac_ops.specs.declared.limits.TheConstants.{MAX_TXNS}
use Rattle.pac_ops.specs.declared.transaction.Txn.{Txn}
use Rattle.pac_ops.specs.Sizes.{HasOneTo}
use Rattle.pac_types.specs.Typing.{CatalogueState}
use Rattle.pac_entry.specs.Entries.{txn_bytes, IsEntry}
use Rattle.pac_log.specs.declared.limits.TheConstants.{MAX_ENTRIES_LEN}
use Rattle.pac_log.specs.declared.link.Link.{Link}

-- the entries of transactions, one after another
abbrev pub entries_bytes : List Txn → List ℕ
entries_bytes txns = flat_map txn_bytes txns

-- a body: the number of transactions, the length of their entries, and these
abbrev pub body_bytes : List Txn → List ℕ
body_bytes txns = to_le_bytes w32 (length txns) ++ (to_le_bytes w32 (length (entries_bytes txns)) ++ entries_bytes txns)

-- 1 to 1,024 transactions that are entries of the catalogue and not too long together
pub record IsBody (catalogue : CatalogueState) (txns : List Txn) : Type 0 where
  pub count : HasOneTo MAX_TXNS txns
  pub short : length (entries_bytes txns) ≤ MAX_ENTRIES_LEN
  pub each : All (IsEntry catalogue) txns

-- what stands after an open gate: a body, and the next gate
abbrev pub link_bytes : Link → List ℕ
link_bytes link = body_bytes link.txns ++ (link.gate ∷ [])

-- a body of the catalogue, whatever gate stands after it
abbrev pub IsLogLink : CatalogueState → Link → Type 0
IsLogLink catalogue link = IsBody catalogue link.txns
