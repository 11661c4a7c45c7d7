-- What is read from a gate on: no more than is looked at.
use Rattle.std.specs.Prelude.{◌≡◌, ℕ, List, ◌∷◌, ◌++◌}
use Rattle.pac_ops.specs.declared.transaction.Txn.{Txn}
use Rattle.pac_types.specs.Typing.{CatalogueState}
use Rattle.pac_log.specs.Bodies.{body_bytes}
use Rattle.pac_log.specs.Reading.{after_gate}

-- the piece stands before all, and nothing after it is looked at from a gate on
pub record IsLookedAt (piece all : List ℕ) : Type 0 where
  pub rest : List ℕ
  pub split : all ≡ piece ++ rest
  pub alike : (catalogue : CatalogueState) → after_gate catalogue piece ≡ after_gate catalogue all

-- these bytes begin with an open gate, the body of these transactions, and the next gate
pub record IsSpelled (txns : List Txn) (bytes : List ℕ) : Type 0 where
  pub gate : ℕ
  pub rest : List ℕ
  pub split : bytes ≡ 1 ∷ (body_bytes txns ++ (gate ∷ rest))
