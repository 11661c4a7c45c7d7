-- One more operation of a procedure: it is in the block or not.
use Rattle.std.proofs.Common.{◌≡◌, ℕ, ◌+◌, ◌<◌, ◌≤◌, ◌==◌, cond, List, [], ◌∷◌, ◌++◌, length, drop, get_or, Some, sym, ap, ◌∙◌, append_assoc}
use Rattle.std.specs.Prelude.{slice_index_or, slice_get}
use Rattle.std.proofs.lemmas.Option.{get_or_from_slice_get}
use Rattle.std.proofs.lemmas.List.{append-nil, drop_all, drop_more}
use Rattle.pac_base.proofs.ItemLemmas.{item_at}
use Rattle.pac_base.proofs.TestLemmas.{equal_number, same_number, unlike}
use Rattle.pac_ops.specs.declared.program.FlatOp.{FlatOp}
use Rattle.pac_ops.specs.Effects.{NumberedOp, numbered_from}
use Rattle.pac_plan.specs.Pieces.{part}

module _ (block : NumberedOp → ℕ) (b : ℕ) (ops : List FlatOp) (at : ℕ) (op : FlatOp) (inside : at < length ops) (is : op ≡ slice_index_or ops at op) where
  opened : part block b (numbered_from at (drop at ops)) ≡ cond (block (at, op) == b) ((at, op) ∷ part block b (numbered_from (at + 1) (drop (at + 1) ops))) (part block b (numbered_from (at + 1) (drop (at + 1) ops)))
  unfolding numbered_from
  opened = ap (λ xs. part block b (numbered_from at xs)) (drop_more ops at op inside ∙ ap (λ x. x ∷ drop (at + 1) ops) (sym is))

  pub step_in : (found : List NumberedOp) → block (at, op) ≡ b
      → (found ++ (at, op) ∷ []) ++ part block b (numbered_from (at + 1) (drop (at + 1) ops)) ≡ found ++ part block b (numbered_from at (drop at ops))
  step_in found same =
      append_assoc found ((at, op) ∷ []) _
      ∙ ap (λ xs. found ++ xs) (sym (opened ∙ ap (λ t. cond t ((at, op) ∷ part block b (numbered_from (at + 1) (drop (at + 1) ops))) (part block b (numbered_from (at + 1) (drop (at + 1) ops)))) (equal_number _ _ same)))

-- none is left
pub all_in : (block : NumberedOp → ℕ) (b : ℕ) (ops : List FlatOp) (at : ℕ) (found : List NumberedOp) → length ops ≤ at
    → found ++ part block b (numbered_from at (drop at ops)) ≡ part block b (numbered_from 0 ops) → found ≡ part block b (numbered_from 0 ops)
unfolding numbered_from
all_in block b ops at found past e = sym (append-nil found) ∙ ap (λ xs. found ++ part block b (numbered_from at xs)) (sym (drop_all at ops past)) ∙ e

-- one that is not of the block
pub step_out : (block : NumberedOp → ℕ) (b : ℕ) (ops : List FlatOp) (at : ℕ) → at < length ops → ((op : FlatOp) → slice_get ops at ≡ Some op → block (at, op) ≡ b → ⊥) → (found : List NumberedOp)
    → found ++ part block b (numbered_from (at + 1) (drop (at + 1) ops)) ≡ found ++ part block b (numbered_from at (drop at ops))
step_out block b ops at inside other found =
    let op = item_at ops at inside in
    let is : op.0 ≡ get_or ops at op.0 = sym (get_or_from_slice_get ops at op.0 op.0 op.1) in
    ap (λ xs. found ++ xs) (sym (opened block b ops at op.0 inside is
    ∙ ap (λ t. cond t ((at, op.0) ∷ part block b (numbered_from (at + 1) (drop (at + 1) ops))) (part block b (numbered_from (at + 1) (drop (at + 1) ops)))) (unlike _ (λ t. other op.0 op.1 (same_number _ _ t)))))
