-- Batches made one step after another. The clauses of public calls don't name these: they say the same of all steps.
use Rattle.std.specs.Prelude.{ℕ, ◌+◌, ◌≤◌, List, [], ◌∷◌, ◌++◌, length, if◌then◌else◌}
use Rattle.pac_ops.specs.declared.batch.Batch.{Batch}
use Rattle.pac_ops.specs.declared.transaction.Txn.{Txn}
use Rattle.pac_entry.specs.declared.limits.TheConstants.{MAX_BODY_LEN}
use Rattle.pac_script.specs.declared.step.ScriptStep.{ScriptStep}
use Rattle.pac_script.specs.declared.step.ScriptStep.TheVariants.{Add, Flush}
use Rattle.pac_script.specs.Batches.{body_len, fits}

-- the batches that are closed, the number of the open one's first transaction, and its transactions
pub record Cut : Type 0 where
  pub closed : List Batch
  pub first : ℕ
  pub held : List Txn

-- the closed batches and the open one, if it holds anything
abbrev pub closed_with : List Batch → ℕ → List Txn → List Batch
closed_with closed first [] = closed
closed_with closed first (txn ∷ more) = closed ++ (record { first = first; txns = txn ∷ more } ∷ [])

-- the open batch is closed, if it holds anything
abbrev pub flushed : Cut → Cut
flushed cut = record { closed = closed_with cut.closed cut.first cut.held; first = cut.first + length cut.held; held = [] }

-- a transaction joins the open batch
abbrev pub with_last : Txn → Cut → Cut
with_last txn cut = record cut { held = cut.held ++ (txn ∷ []) }

-- a transaction joins the open batch, or the one after it where it doesn't fit in
abbrev pub added : Txn → Cut → Cut
added txn cut = if fits (cut.held ++ (txn ∷ [])) then with_last txn cut else with_last txn (flushed cut)

-- one step more
abbrev pub cut_more : ScriptStep → Cut → Cut
cut_more (Add txn) cut = added txn cut
cut_more Flush cut = flushed cut

-- all steps
abbrev pub cut_all : List ScriptStep → Cut → Cut
cut_all [] cut = cut
cut_all (step ∷ more) cut = cut_all more (cut_more step cut)

-- no batch yet
abbrev pub nothing_cut : Cut
nothing_cut = record { closed = []; first = 1; held = [] }

-- the number of the next transaction
abbrev pub next_txn : Cut → ℕ
next_txn cut = cut.first + length cut.held

-- a batch can hold the transaction alone
abbrev pub IsSmall : ScriptStep → Type 0
IsSmall (Add txn) = body_len (txn ∷ []) ≤ MAX_BODY_LEN
IsSmall Flush = Unit {0}
