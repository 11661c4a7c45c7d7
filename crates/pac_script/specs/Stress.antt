-- The transactions that the stress test makes, over the catalogue of the bank.
use Rattle.std.specs.Prelude.{ℕ, ◌+◌, ◌*◌, ◌/◌, ◌%◌, pos, nat_eq, nat_le, if◌then◌else◌, [], ◌∷◌}
use Rattle.pac_value.specs.declared.values.Value.{Value}
use Rattle.pac_value.specs.declared.values.Value.TheVariants as value
use Rattle.pac_value.specs.declared.values.Key.TheVariants as key
use Rattle.pac_ops.specs.declared.transaction.Change.TheVariants.{Put}
use Rattle.pac_ops.specs.declared.transaction.Txn.{Txn}
use Rattle.pac_ops.specs.declared.transaction.Txn.TheVariants.{Call, AdHoc}

-- the number of a transaction, mixed to one of 32 bits
abbrev pub mixed : ℕ → ℕ
mixed i = i * 2654435761 % 4294967296

-- what the transaction is made of: an account, and a number
abbrev pub source : ℕ → ℕ
source m = 1 + m % 97

-- the number that the transaction's other values are made of
abbrev pub quotient_by_97 : ℕ → ℕ
quotient_by_97 m = m / 97

-- a number as a value
abbrev pub number : ℕ → Value
number n = value.Int (pos n)

-- a put of the first table, `Family`
abbrev pub family : ℕ → Txn
family m = AdHoc (Put 0 (key.Int (pos (source m))) (number (1 + quotient_by_97 m % 97) ∷ []) ∷ [])

-- a call of the first procedure, `Transfer`
abbrev pub transfer : ℕ → Txn
transfer m = Call (record { proc = 0; args = number (source m) ∷ number (1 + quotient_by_97 m % 1000) ∷ [] })

-- a call of the second, `Deposit`
abbrev pub deposit : ℕ → Txn
deposit m = Call (record { proc = 1; args = number (source m) ∷ number (1 + quotient_by_97 m % 1000) ∷ number (quotient_by_97 m / 1000 % 7) ∷ [] })

-- of eight transactions one after another the last is a put, the first three are transfers, and the others are deposits
abbrev pub stress_txn : ℕ → Txn
stress_txn i = if nat_eq (i % 8) 0 then family (mixed i) else (if nat_le (i % 8) 3 then transfer (mixed i) else deposit (mixed i))
