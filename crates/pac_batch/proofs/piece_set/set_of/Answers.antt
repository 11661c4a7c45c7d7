-- A transaction with a piece is added, and any other left out.
use Rattle.std.proofs.Common.{◌≡◌, ◌<◌, ◌+◌, ◌-◌, ◌++◌, ℕ, List, length, drop, sym, ap, ◌∙◌, subst}
use Rattle.std.specs.List.{filter, range_with_len, AllByRecursion}
use Rattle.std.proofs.lemmas.List.{drop_more}
use Rattle.pac_ops.specs.declared.transaction.Txn.{Txn}
use Rattle.pac_plan.specs.Codes.{TxnFitsPlan}
use Rattle.pac_plan.specs.Worlds.{txn_at}
use Rattle.pac_batch.specs.Sets.{has_piece}
use Rattle.pac_batch.proofs.RangeLemmas.{number_in, number_out, txn_here}
use Rattle.pac_batch.proofs.piece_set.set_of.Goals as goal
use Rattle.pac_batch.proofs.piece_set.set_of.Goals.{then-has_piece+in_ok-push, else-has_piece}

pub loop-i-preserved : goal.loop-i-preserved
loop-i-preserved c =
    let code = c.args.code.now in
    let block = c.args.block in
    let first = c.args.first in
    let xs = c.args.txns.now in
    let i = c.loop-i.i in
    let inside : i < length xs = c.loop-i-test.true in
    let rest : drop i xs ≡ _ = drop_more xs i c.index-txns-i.result inside in
    let fit : AllByRecursion (TxnFitsPlan code) (drop (i + 1) xs) = (subst (λ (ts : List Txn). AllByRecursion (TxnFitsPlan code) ts) rest c.loop-i.invariant.fit).1 in
    let same = ap (has_piece code block) (txn_here first xs i c.index-txns-i.result inside c.index-txns-i.is) in
    elim c.if-has_piece.branch [
      | then-has_piece+in_ok-push w ↦ record {
        fit = fit;
        all = ap (λ (v : _). v.items ++ filter (λ t. has_piece code block (txn_at first xs t)) (range_with_len (first + (i + 1)) (length xs - (i + 1)))) w.found-is
            ∙ ap (λ (ts : List ℕ). ts ++ filter (λ t. has_piece code block (txn_at first xs t)) (range_with_len (first + (i + 1)) (length xs - (i + 1)))) w.in_ok-push.ensures.items
            ∙ number_in (λ t. has_piece code block (txn_at first xs t)) first i (length xs) inside c.loop-i.found.items (same ∙ sym c.has_piece.ensures ∙ w.if-has_piece.true)
            ∙ c.loop-i.invariant.all;
      }
      | else-has_piece w ↦ record {
        fit = fit;
        all = ap (λ (v : _). v.items ++ filter (λ t. has_piece code block (txn_at first xs t)) (range_with_len (first + (i + 1)) (length xs - (i + 1)))) w.found-is
            ∙ number_out (λ t. has_piece code block (txn_at first xs t)) first i (length xs) inside c.loop-i.found.items (same ∙ sym c.has_piece.ensures ∙ w.if-has_piece.false)
            ∙ c.loop-i.invariant.all;
      }
    ]
