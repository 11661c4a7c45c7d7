-- The bytes of transactions.
use Rattle.std.specs.Prelude.{List, ℕ, ◌∷◌, ◌++◌, length, map}
use Rattle.std.specs.Int.{w16, to_le_bytes}
use Rattle.std.specs.List.{flat_map, All}
use Rattle.pac_value.specs.declared.values.Value.{Value}
use Rattle.pac_value.specs.Values.{key_value}
use Rattle.pac_ops.specs.declared.limits.TheConstants.{MAX_RECORDS}
use Rattle.pac_ops.specs.declared.transaction.Change.{Change}
use Rattle.pac_ops.specs.declared.transaction.Change.TheVariants.{Put, Delete}
use Rattle.pac_ops.specs.declared.transaction.Txn.{Txn}
use Rattle.pac_ops.specs.declared.transaction.Txn.TheVariants.{Call, AdHoc}
use Rattle.pac_ops.specs.Shapes.{ChangeFits}
use Rattle.pac_ops.specs.Sizes.{HasOneTo}
use Rattle.pac_types.specs.declared.table.Table.{Table}
use Rattle.pac_types.specs.Fits.{shape, TxnFits}
use Rattle.pac_types.specs.Typing.{CatalogueState}
use Rattle.pac_bytes.specs.Values.{HasBytes}
use Rattle.pac_bytes.specs.Typed.{key_bytes, values_bytes}

-- the number of values, and the values
abbrev pub counted_bytes : List Value → List ℕ
counted_bytes values = length values ∷ values_bytes values

-- a put is the tag 1, the table, the key and the values of the row; a delete is the tag 2, the table and the key
abbrev pub change_bytes : Change → List ℕ
change_bytes (Put table key row) = 1 ∷ (to_le_bytes w16 table ++ (key_bytes key ++ counted_bytes row))
change_bytes (Delete table key) = 2 ∷ (to_le_bytes w16 table ++ key_bytes key)

-- a call is the tag 1, the procedure and the arguments; an ad hoc transaction is the tag 2, the number of records, and the records
abbrev pub txn_bytes : Txn → List ℕ
txn_bytes (Call call) = 1 ∷ (to_le_bytes w16 call.proc ++ counted_bytes call.args)
txn_bytes (AdHoc records) = 2 ∷ (length records ∷ flat_map change_bytes records)

-- the key and each value of the row have bytes
abbrev pub ChangeHasBytes : Change → Type 0
ChangeHasBytes (Put table key row) = HasBytes (key_value key) × All HasBytes row
ChangeHasBytes (Delete table key) = HasBytes (key_value key)

-- a record of one of the tables that has bytes
abbrev pub IsRecord : List Table → Change → Type 0
IsRecord tables change = ChangeFits (map shape tables) change × ChangeHasBytes change

-- each value has bytes, and there are 1 to 64 records; every transaction is so by its type
abbrev pub TxnHasBytes : Txn → Type 0
TxnHasBytes (Call call) = All HasBytes call.args
TxnHasBytes (AdHoc records) = HasOneTo MAX_RECORDS records × All ChangeHasBytes records

-- a transaction that fits the catalogue and has bytes
abbrev pub IsEntry : CatalogueState → Txn → Type 0
IsEntry catalogue txn = TxnFits catalogue txn × TxnHasBytes txn
