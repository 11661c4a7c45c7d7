-- The piece at the place can be run, and leaves what it leaves; or it is undone.
use Rattle.std.proofs.Common.{◌≡◌, ◌<◌, List, sym, ap, subst, ◌∙◌}
use Rattle.std.specs.Prelude.{Result, Ok, Err, OnOk, OnErr, slice_index_or}
use Rattle.std.proofs.lemmas.Option.{same_Some, slice_get_within}
use Rattle.pac_value.specs.State.{Tables}
use Rattle.pac_ops.specs.declared.batch.Batch.{Batch}
use Rattle.pac_ops.specs.declared.piece.PieceId.{PieceId}
use Rattle.pac_ops.specs.declared.transaction.Txn.{Txn}
use Rattle.pac_plan.specs.declared.code.Code.{Code}
use Rattle.pac_plan.specs.declared.parts.PlanParts.{PlanParts}
use Rattle.pac_plan.specs.Codes.{TxnFitsPlan, code_in}
use Rattle.pac_plan.specs.Pieces.{apply}
use Rattle.pac_piece.specs.InPlace.{IsUndone, Place, after_code, place_in}
use Rattle.pac_piece.specs.Runnable.{IsRunnableOn}
use Rattle.pac_commute.specs.Loads.{world_of}
use Rattle.pac_in_order.specs.declared.line.Line.{Line}
use Rattle.pac_in_order.specs.Courses.{course_present}
use Rattle.pac_in_order.specs.Lines.{IsAtPiece, KeepsLine, course_of, line_batches, line_job, opening_tables}
use Rattle.pac_in_order.proofs.Fronts.{at_index}
use Rattle.pac_in_order.proofs.Runs.{fits, ran_place, runnable, undone_keeps}
use Rattle.pac_in_order.proofs.running.run_at.Goals as goal

-- the transaction is that at the place
at_place : (line : Line) (piece : PieceId) (at : IsAtPiece line piece) (batch : Batch) → batch ≡ slice_index_or line.batches.items 0 batch → (txns : List Txn) → txns ≡ batch.txns → (txn : Txn) → txn ≡ slice_index_or txns line.txn txn → txn ≡ at.txn
at_place line piece at batch is txns same txn here =
    let batch_is : batch ≡ at.batch = is ∙ ap (λ l. slice_index_or l 0 batch) at.kept in
    let txns_are : txns ≡ at.batch.txns = same ∙ ap (λ (b : Batch). b.txns) batch_is in
    same_Some txn at.txn (sym (at_index at.batch.txns line.txn txn (slice_get_within at.batch.txns line.txn at.txn at.there) (here ∙ ap (λ l. slice_index_or l line.txn txn) txns_are)) ∙ at.there)

ran_ok : {E : Type 0} (line : Line) (opening : Tables) (place : Place) (keeps : KeepsLine line place opening) (piece : PieceId) (at : IsAtPiece line piece) (code : Code) → code ≡ code_in line.plan piece.block at.txn → (new : Place)
    → (r : Result (Unit {0}) E) → OnOk r (new ≡ after_code piece.txn code place) → OnOk r (new ≡ place_in place.count piece.txn (apply (world_of (line_job line opening) (line_batches line)) piece (course_present (course_of line opening))))
ran_ok line opening place keeps piece at code is new (Ok u) ok = ok ∙ ap (λ k. after_code piece.txn k place) is ∙ ran_place line opening place keeps piece at
ran_ok line opening place keeps piece at code is new (Err e) ok = tt

ran_err : {E : Type 0} (line : Line) (opening : Tables) (place : Place) (keeps : KeepsLine line place opening) (piece : PieceId) (at : IsAtPiece line piece) (code : Code) → code ≡ code_in line.plan piece.block at.txn → (new : Place)
    → (r : Result (Unit {0}) E) → OnErr r (IsUndone code place new) → OnErr r (KeepsLine line new opening)
ran_err line opening place keeps piece at code is new (Ok u) err = tt
ran_err line opening place keeps piece at code is new (Err e) err = undone_keeps line opening place keeps piece at new (subst (λ k. IsUndone k place new) is err)

pub run_piece-requires : goal.run_piece-requires
run_piece-requires g c =
    let line = c.args.line.now in
    let opening : Tables = opening_tables g.R.Rows.held c.args.opening.now.items in
    let same = at_place line c.args.piece c.requires.at c.in-Some.batch.now c.in-Some.ensures.lookup c.items.result.now c.items.ensures.value c.index-items-line.result c.index-items-line.is in
    record {
      fits = subst (λ (p : PlanParts). TxnFitsPlan p c.index-items-line.result) (sym c.get.ensures) (subst (TxnFitsPlan line.plan) (sym same) (fits line opening c.args.place.now c.requires.keeps c.args.piece c.requires.at));
      block = subst (λ (p : PlanParts). c.args.piece.block < p.blocks) (sym c.get.ensures) c.requires.at.below;
      runs = subst (λ (k : Code). IsRunnableOn c.args.piece.block k c.args.place.now.values c.args.place.now.count c.args.place.now.tables)
          (sym (λ i. code_in (c.get.ensures i) c.args.piece.block (same i))) (runnable line opening c.args.place.now c.requires.keeps c.args.piece c.requires.at);
    }

pub returns-clause-ok : goal.returns-clause-ok
returns-clause-ok g c =
    let line = c.args.line.now in
    let opening : Tables = opening_tables g.R.Rows.held c.args.opening.now.items in
    let same = at_place line c.args.piece c.requires.at c.in-Some.batch.now c.in-Some.ensures.lookup c.items.result.now c.items.ensures.value c.index-items-line.result c.index-items-line.is in
    ran_ok line opening c.args.place.now c.requires.keeps c.args.piece c.requires.at _ (λ i. code_in (c.get.ensures i) c.args.piece.block (same i)) c.run_piece.new.place c.run_piece.result c.run_piece.ensures.ok

pub returns-clause-err : goal.returns-clause-err
returns-clause-err g c =
    let line = c.args.line.now in
    let opening : Tables = opening_tables g.R.Rows.held c.args.opening.now.items in
    let same = at_place line c.args.piece c.requires.at c.in-Some.batch.now c.in-Some.ensures.lookup c.items.result.now c.items.ensures.value c.index-items-line.result c.index-items-line.is in
    ran_err line opening c.args.place.now c.requires.keeps c.args.piece c.requires.at _ (λ i. code_in (c.get.ensures i) c.args.piece.block (same i)) c.run_piece.new.place c.run_piece.result c.run_piece.ensures.err
