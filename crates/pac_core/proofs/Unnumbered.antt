-- What operations touch, change, give and use doesn't depend on their numbers, so that records, which are numbered anew in each block, are as the
-- operations of their transaction.
use Rattle.std.proofs.Common.{◌≡◌, ℕ, ◌+◌, ◌==◌, Bool, true, false, cond, ◌||◌, List, [], ◌∷◌, map, Some, refl, sym, ap, ◌∙◌}
use Rattle.pac_value.specs.State.{Cell}
use Rattle.pac_ops.specs.declared.transaction.Change.{Change}
use Rattle.pac_ops.specs.declared.transaction.Change.TheVariants.{Put as PutRow, Delete as DeleteRow}
use Rattle.pac_ops.specs.declared.transaction.Txn.{Txn}
use Rattle.pac_ops.specs.declared.transaction.Txn.TheVariants.{Call as ACall, AdHoc}
use Rattle.pac_ops.specs.Uses.{accessed_table}
use Rattle.pac_ops.specs.Operations.{State}
use Rattle.pac_ops.specs.Effects.{NumberedOp, numbered_from, is_var, record_op}
use Rattle.pac_plan.specs.declared.parts.PlanParts.{PlanParts}
use Rattle.pac_plan.specs.PieceFits.{change_table, records_in}
use Rattle.pac_plan.specs.Pieces.{part}
use Rattle.pac_plan.specs.Worlds.{home_in, home_or}
use Rattle.pac_plan.specs.Codes.{code_in, code_ops, piece_ops}
use Rattle.pac_piece.specs.Frames.{after_op, change_row, give_value, is_cell, cell_changed, var_given}

-- operations without their numbers
abbrev pub unnumbered : List NumberedOp → List NumberedOp
unnumbered [] = []
unnumbered (o ∷ os) = (0, o.1) ∷ unnumbered os

changes_same : (os : List NumberedOp) (s : State) (a : Cell) → change_row (unnumbered os) s a ≡ change_row os s a
changes_same [] s a = refl
changes_same (o ∷ os) s a = ap (λ b. is_cell a (cell_changed o.1 s) || b) (changes_same os (after_op o.1 s) a)

gives_same : (os : List NumberedOp) (s : State) (x : ℕ) → give_value (unnumbered os) s x ≡ give_value os s x
gives_same [] s x = refl
gives_same (o ∷ os) s x = ap (λ b. is_var x (var_given o.1 s) || b) (gives_same os (after_op o.1 s) x)

pub record_named : (c : Change) → accessed_table (record_op c).kind ≡ Some (change_table c)
record_named (PutRow table key row) = refl
record_named (DeleteRow table key) = refl

-- records of a block, whatever their numbers
records_same : (parts : PlanParts) (block n k : ℕ) (records : List Change)
    → unnumbered (numbered_from k (map record_op (records_in parts block records))) ≡ unnumbered (part (λ o. home_or parts (accessed_table o.1.kind)) block (numbered_from n (map record_op records)))
unfolding numbered_from
records_same parts block n k [] = refl
records_same parts block n k (c ∷ cs) = go (home_in parts (change_table c) == block) (λ k. records_same parts block (n + 1) k cs) ∙ sym (ap (λ t. unnumbered (cond (home_or parts t == block) ((n, record_op c) ∷ later) later)) (record_named c))
  where
    later : List NumberedOp
    later = part (λ o. home_or parts (accessed_table o.1.kind)) block (numbered_from (n + 1) (map record_op cs))

    go : (b : Bool) → ((k : ℕ) → unnumbered (numbered_from k (map record_op (records_in parts block cs))) ≡ unnumbered later) → unnumbered (numbered_from k (map record_op (cond b (c ∷ records_in parts block cs) (records_in parts block cs)))) ≡ unnumbered (cond b ((n, record_op c) ∷ later) later)
    go true rest = ap (λ l. (0, record_op c) ∷ l) (rest (k + 1))
    go false rest = rest k

-- the code of a transaction's piece has its operations
pub code_unnumbered : (parts : PlanParts) (block : ℕ) (txn : Txn) → unnumbered (code_ops (code_in parts block txn)) ≡ unnumbered (piece_ops parts block txn)
code_unnumbered parts block (ACall call) = refl
code_unnumbered parts block (AdHoc records) = records_same parts block 0 0 records

module _ (parts : PlanParts) (block : ℕ) (txn : Txn) where
  pub code_changes : (s : State) (a : Cell) → change_row (code_ops (code_in parts block txn)) s a ≡ change_row (piece_ops parts block txn) s a
  code_changes s a = sym (changes_same (code_ops (code_in parts block txn)) s a) ∙ ap (λ os. change_row os s a) (code_unnumbered parts block txn) ∙ changes_same (piece_ops parts block txn) s a

  pub code_gives : (s : State) (x : ℕ) → give_value (code_ops (code_in parts block txn)) s x ≡ give_value (piece_ops parts block txn) s x
  code_gives s x = sym (gives_same (code_ops (code_in parts block txn)) s x) ∙ ap (λ os. give_value os s x) (code_unnumbered parts block txn) ∙ gives_same (piece_ops parts block txn) s x
