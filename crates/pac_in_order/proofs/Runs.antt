-- The piece at the place is run: it is the next in order, and what is left is what it leaves; or it is undone.
use Rattle.std.proofs.Common.{◌≡◌, ℕ, ◌+◌, ◌<◌, List, [], ◌∷◌, ◌++◌, length, take, Some, refl, sym, ap, ◌∙◌, subst, arith}
use Rattle.std.specs.Prelude.{slice_get, slice_index_or}
use Rattle.std.proofs.lemmas.Option.{same_Some}
use Rattle.pac_value.specs.Expressions.{Values}
use Rattle.pac_value.specs.State.{Tables}
use Rattle.pac_ops.specs.declared.batch.Batch.{Batch}
use Rattle.pac_ops.specs.declared.piece.PieceId.{PieceId}
use Rattle.pac_ops.specs.declared.transaction.Txn.{Txn}
use Rattle.pac_plan.specs.declared.code.Code.{Code}
use Rattle.pac_plan.specs.Pieces.{Present, apply, of_txn}
use Rattle.pac_plan.specs.Worlds.{txn_at}
use Rattle.pac_plan.specs.Codes.{TxnFitsPlan, code_in, code_ops}
use Rattle.pac_piece.specs.Frames.{after_ops}
use Rattle.pac_piece.specs.InPlace.{IsUndone, Place, after_code, place_in}
use Rattle.pac_piece.specs.Runnable.{IsRunnableOn}
use Rattle.pac_commute.specs.Loads.{pieces_of, world_of}
use Rattle.pac_commute.specs.PlanLaws.{txns_of}
use Rattle.pac_in_order.specs.declared.line.Line.{Line}
use Rattle.pac_in_order.specs.Courses.{Course, IsNextInOrder, IsRunInOrder, course_pieces, course_present, course_with_piece}
use Rattle.pac_in_order.specs.Lines.{BegunAt, IsAtPiece, IsTxnBegun, KeepsLine, course_of, from_block, line_batches, line_index, line_job, pieces_to}
use Rattle.pac_in_order.proofs.Cursors.{exists_is, left_from, piece_passed}
use Rattle.pac_in_order.proofs.Placed.{index_below, number_is, txn_fits, txn_numbered}
use Rattle.pac_in_order.proofs.Prefixes as prefix

regroup : (xs ys : List PieceId) (p : PieceId) → (xs ++ p ∷ []) ++ ys ≡ xs ++ p ∷ ys
regroup [] ys p = refl
regroup (x ∷ xs) ys p = ap (λ l. x ∷ l) (regroup xs ys p)

module _ (line : Line) (opening : Tables) (place : Place) (keeps : KeepsLine line place opening) (piece : PieceId) (at : IsAtPiece line piece) where
  abbrev k : ℕ
  k = line_index line

  abbrev course : Course
  course = course_of line opening

  abbrev now : Present
  now = course_present course

  abbrev txn : Txn
  txn = at.txn

  number : piece.txn ≡ line.first + k
  number = at.number ∙ number_is line place opening keeps at.batch at.rest at.kept at.txn at.there

  is_piece : ◌≡◌ {A = PieceId} (record { txn = line.first + k; block = piece.block }) piece
  is_piece = λ i. record { txn = sym number i; block = piece.block }

  numbered : txn_at line.first (txns_of (line_batches line)) piece.txn ≡ Some txn
  numbered = ap (txn_at line.first (txns_of (line_batches line))) number ∙ txn_numbered line place opening keeps at.batch at.rest at.kept at.txn at.there

  pub fits : TxnFitsPlan line.plan txn
  fits = txn_fits line place opening keeps at.batch at.rest at.kept at.txn at.there

  -- ---- it stands next

  finished_more : pieces_to (line_job line opening) (line_batches line) k (piece.block + 1) ≡ course.finished ++ piece ∷ []
  finished_more =
      piece_passed (line_job line opening) (line_batches line) k piece.block
      (exists_is (line_job line opening) (line_batches line) (line.first + k) piece.block txn (txn_numbered line place opening keeps at.batch at.rest at.kept at.txn at.there) ∙ at.exists)
      ∙ (λ i. pieces_to (line_job line opening) (line_batches line) k (from_block (sym at.block i)) ++ is_piece i ∷ [])

  left : (rest : List PieceId) × (pieces_of (line_job line opening) (line_batches line) ≡ pieces_to (line_job line opening) (line_batches line) k (piece.block + 1) ++ rest)
  left = left_from (line_job line opening) (line_batches line) k (piece.block + 1) (index_below line place opening keeps at.batch at.rest at.kept at.txn at.there)
      (let lt : piece.block < line.plan.blocks = at.below in omega (arith, lt))

  divided : course_pieces course ≡ course.finished ++ piece ∷ left.0
  divided = left.1 ∙ ap (λ l. l ++ left.0) finished_more ∙ regroup course.finished left.0 piece

  pub next : IsNextInOrder course (Some piece)
  next = (left.0, divided)

  -- ---- it can be run

  abbrev code : Code
  code = code_in line.plan piece.block txn

  begun : IsTxnBegun line now place piece.block
  begun = subst (BegunAt line now place) at.block keeps.begun

  abbrev firsts : ℕ → Values
  firsts n = prefix.values_first (line_job line opening) (line_batches line) keeps.is_plan keeps.run_on keeps.fits course.finished left.0 piece divided keeps.fit txn numbered fits n

  values_are : place.values ≡ firsts begun.done
  values_are =
      begun.values
      ∙ ap (λ x. (after_ops (take begun.done (code_ops (code_in line.plan piece.block x))) (of_txn (line.first + k) now)).env) same_txn
      ∙ ap (λ n. (after_ops (take begun.done (code_ops code)) (of_txn n now)).env) (sym number)
    where
      batch_is : begun.batch ≡ at.batch
      batch_is = ap (λ l. slice_index_or l 0 at.batch) (sym begun.kept ∙ at.kept)

      same_txn : begun.txn ≡ txn
      same_txn = same_Some begun.txn txn (sym begun.there ∙ ap (λ (x : Batch). slice_get x.txns line.txn) batch_is ∙ at.there)

  place_is : place ≡ record { count = place.count; tables = now.tables; values = firsts begun.done; note = now.note }
  place_is = λ i. record { count = place.count; tables = keeps.tables i; values = values_are i; note = keeps.note i }

  pub runnable : IsRunnableOn piece.block code place.values place.count place.tables
  runnable = subst (λ (p : Place). IsRunnableOn piece.block code p.values p.count p.tables) (sym place_is)
      (prefix.runnable (line_job line opening) (line_batches line) keeps.is_plan keeps.run_on keeps.fits course.finished left.0 piece divided keeps.fit txn numbered fits begun.done place.count
      (let same : place.count ≡ length line.plan.tables = keeps.count in omega (arith, same)))

  -- ---- it ran

  pub ran_place : after_code piece.txn code place ≡ place_in place.count piece.txn (apply (world_of (line_job line opening) (line_batches line)) piece now)
  ran_place = ap (after_code piece.txn code) place_is
      ∙ prefix.leaves (line_job line opening) (line_batches line) keeps.is_plan keeps.run_on keeps.fits course.finished left.0 piece divided keeps.fit txn numbered fits begun.done place.count

  abbrev behind : Line
  behind = record line { block = Some (piece.block + 1) }

  pub behind_is : course_of behind opening ≡ course_with_piece course piece
  behind_is = λ i. record { job = line_job line opening; batches = line_batches line; is_closed = line.is_closed; finished = finished_more i }

  pub ran : IsRunInOrder course (Some piece) (course_of behind opening)
  ran = (next, behind_is)

  present_more : course_present (course_of behind opening) ≡ apply (world_of (line_job line opening) (line_batches line)) piece now
  present_more = ap course_present behind_is
      ∙ prefix.now_more (line_job line opening) (line_batches line) keeps.is_plan keeps.run_on keeps.fits course.finished left.0 piece divided keeps.fit txn numbered fits

  pub ran_keeps : (new : Place) → new ≡ place_in place.count piece.txn (apply (world_of (line_job line opening) (line_batches line)) piece now) → KeepsLine behind new opening
  ran_keeps new is = record {
    is_plan = keeps.is_plan;
    fit = keeps.fit;
    run_on = keeps.run_on;
    fits = keeps.fits;
    next = keeps.next;
    within = keeps.within;
    begun = record {
      batch = at.batch;
      rest = at.rest;
      kept = at.kept;
      txn = txn;
      there = at.there;
      block = let lt : piece.block < line.plan.blocks = at.below in omega (arith, lt);
      done = 0;
      values = ap (λ (p : Place). p.values) is ∙ ap (λ (z : Present). z.envs piece.txn) (sym present_more) ∙ ap (λ n. (course_present (course_of behind opening)).envs n) number;
    };
    count = ap (λ (p : Place). p.count) is ∙ keeps.count;
    tables = ap (λ (p : Place). p.tables) is ∙ ap (λ (z : Present). z.tables) (sym present_more);
    note = ap (λ (p : Place). p.note) is ∙ ap (λ (z : Present). z.note) (sym present_more);
  }

  -- ---- it was undone

  pub undone_keeps : (new : Place) → IsUndone code place new → KeepsLine line new opening
  undone_keeps new u = record {
    is_plan = keeps.is_plan;
    fit = keeps.fit;
    run_on = keeps.run_on;
    fits = keeps.fits;
    next = keeps.next;
    within = keeps.within;
    begun = subst (BegunAt line now new) (sym at.block) (record {
      batch = at.batch;
      rest = at.rest;
      kept = at.kept;
      txn = txn;
      there = at.there;
      block = begun.block;
      done = again.0;
      values = u.values
          ∙ ap (λ (p : Place). (after_ops (take u.done (code_ops code)) (record { env = p.values; tables = p.tables })).env) place_is
          ∙ again.1
          ∙ ap (λ n. (after_ops (take again.0 (code_ops code)) (of_txn n now)).env) number;
    });
    count = u.size ∙ keeps.count;
    tables = u.tables ∙ keeps.tables;
    note = u.note ∙ keeps.note;
  }
    where
      again : (j : ℕ) × ((after_ops (take u.done (code_ops code)) (record { env = firsts begun.done; tables = now.tables })).env ≡ firsts j)
      again = prefix.undone (line_job line opening) (line_batches line) keeps.is_plan keeps.run_on keeps.fits course.finished left.0 piece divided keeps.fit txn numbered fits begun.done u.done
