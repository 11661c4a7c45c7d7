-- It is looked for by its transaction, by its set, and in it.
use Rattle.std.proofs.Common.{List, sym, ap, subst, ◌∙◌}
use Rattle.std.proofs.lemmas.Option.{same_Some, slice_get_within}
use Rattle.pac_sets.specs.Sets.{Kept}
use Rattle.pac_core.specs.declared.loaded.LoadedBatch.{LoadedBatch}
use Rattle.pac_core.specs.declared.stage.SetStage.{SetStage}
use Rattle.pac_core.specs.Places.{IsTxnIn, IsTxnNowhere}
use Rattle.pac_core.proofs.OutPlaces.{if_none, no_set_out, not_out, nowhere_out}
use Rattle.pac_core.proofs.progress.Progress.place_by_number.Goals as goal

pub returns-in_err-batch-clause-none : goal.returns-in_err-batch-clause-none
returns-in_err-batch-clause-none c = if_none c.from_residual.result _ (λ job keeps.
    nowhere_out job c.args.self.now keeps c.args.piece (subst (λ (l : List LoadedBatch). IsTxnNowhere l c.args.piece.txn) c.deref.ensures.value c.in_err-batch.ensures.none))

pub returns-in_err-at-clause-none : goal.returns-in_err-at-clause-none
returns-in_err-at-clause-none c = if_none c.from_residual-in_err-at.result _ (λ job keeps.
    no_set_out job c.args.self.now keeps c.args.piece c.in_ok-batch.batch c.in_ok-batch.index
    (subst (λ (l : List LoadedBatch). IsTxnIn l c.args.piece.txn c.in_ok-batch.batch c.in_ok-batch.index) c.deref.ensures.value c.in_ok-batch.ensures.found) c.in_err-at.ensures.absent)

pub position_out-requires : goal.position_out-requires
position_out-requires c = slice_get_within c.args.self.now.sets.sets c.in_ok-at.at _ c.in_ok-at.ensures.found.1

pub returns-in_err-position-clause-none : goal.returns-in_err-position-clause-none
returns-in_err-position-clause-none c = if_none c.from_residual-in_err-position.result _ (λ job keeps.
    not_out job c.args.self.now keeps c.args.piece c.in_ok-batch.batch c.in_ok-batch.index
    (subst (λ (l : List LoadedBatch). IsTxnIn l c.args.piece.txn c.in_ok-batch.batch c.in_ok-batch.index) c.deref.ensures.value c.in_ok-batch.ensures.found)
    c.in_ok-at.at c.in_ok-at.ensures.found c.in_err-position.ensures.none)

pub returns-clause-found : goal.returns-clause-found
returns-clause-found c =
    let stands = c.in_ok-position.ensures.found in
    record {
      txn = subst (λ (l : List LoadedBatch). IsTxnIn l c.args.piece.txn c.in_ok-batch.batch c.in_ok-batch.index) c.deref.ensures.value c.in_ok-batch.ensures.found;
      stands = stands;
      set_is = ap (λ (x : Kept SetStage). x.0) (same_Some _ _ (sym stands.there ∙ c.in_ok-at.ensures.found.1));
    }
