-- One transaction more, and at the end the schedule that the next pairs give.
use Rattle.std.proofs.Common.{◌≡◌, List, [], ◌∷◌, ◌++◌, map, length, get_or, replicate, take, refl, sym, ap, subst, ◌∙◌, arith}
use Rattle.std.proofs.lemmas.List.{length-map, take_all}
use Rattle.pac_base.specs.Members.{Rises}
use Rattle.pac_ops.specs.declared.piece.PieceId.{PieceId}
use Rattle.pac_plan.specs.declared.access.Access.{Access}
use Rattle.pac_sched.specs.declared.state.PieceState.TheVariants as state
use Rattle.pac_sched.specs.Schedules.{AreDifferent, Schedule, after_opening}
use Rattle.pac_sched.proofs.OpeningLemmas.{ascending_differ, first_opened}
use Rattle.pac_core.specs.declared.cells.PieceCells.{PieceCells}
use Rattle.pac_core.specs.Cells.{HasCellsOf}
use Rattle.pac_core.specs.Links.{AreKeptPairs, piece_in}
use Rattle.pac_core.specs.Moves.{access_over}
use Rattle.pac_core.proofs.Ascending.{ascending, rises_end, set_rises}
use Rattle.pac_core.proofs.OpeningLists.{has_more, map_more, pairs_below, set_fewer, set_range}
use Rattle.pac_core.proofs.opening.open_set.Goals as goal

pub loop-txn-init : goal.loop-txn-init
loop-txn-init c = record {
  accesses = c.in_ok-accesses.ensures.items;
  pieces = c.in_ok-pieces.ensures.items;
  cells = subst (λ (l : List Access). HasCellsOf l c.in_ok-cells.cells.items) (sym c.in_ok-accesses.ensures.items)
      (subst (λ (l : List PieceCells). HasCellsOf [] l) (sym c.in_ok-cells.ensures.items) (record { all = refl; each = λ i x k at. absurd (cc at) }));
}

pub access_of-requires-clause-first : goal.access_of-requires-clause-first
access_of-requires-clause-first c = (set_range c.args.plan.now c.args.loaded.now.batch.first c.args.loaded.now.batch.txns c.args.block c.args.txns.now c.requires.txns c.loop-txn.txn-index c.loop-txn-test.true).0

pub access_of-requires-clause-last : goal.access_of-requires-clause-last
access_of-requires-clause-last c = (set_range c.args.plan.now c.args.loaded.now.batch.first c.args.loaded.now.batch.txns c.args.block c.args.txns.now c.requires.txns c.loop-txn.txn-index c.loop-txn-test.true).1

pub loop-txn-preserved : goal.loop-txn-preserved
loop-txn-preserved c =
    let txns = c.args.txns.now in
    let i = c.loop-txn.txn-index in
    let over = access_over c.args.plan.now c.args.loaded.now c.args.block in
    record {
      accesses = c.in_ok-push-2.ensures.items
          ∙ ap (λ (l : List Access). l ++ c.in_ok-access.access ∷ []) c.loop-txn.invariant.accesses
          ∙ ap (λ (x : Access). map over (take i txns) ++ x ∷ []) c.in_ok-access.ensures
          ∙ sym (map_more over txns i 0 c.loop-txn-test.true);
      pieces = c.in_ok-push-3.ensures.items
          ∙ ap (λ (l : List PieceId). l ++ piece_in c.args.block (get_or txns i 0) ∷ []) c.loop-txn.invariant.pieces
          ∙ sym (map_more (piece_in c.args.block) txns i 0 c.loop-txn-test.true);
      cells = subst (λ (l : List Access). HasCellsOf l c.push.new.self.items) (sym c.in_ok-push-2.ensures.items)
          (subst (λ (l : List PieceCells). HasCellsOf (c.loop-txn.accesses.items ++ c.in_ok-access.access ∷ []) l) (sym c.in_ok-push.ensures.items)
          (has_more c.loop-txn.accesses.items c.loop-txn.cells.items c.in_ok-access.access c.in_ok-cells_of.field-0 c.loop-txn.invariant.cells c.in_ok-cells_of.ensures));
    }

pub queue_preds-requires : goal.queue_preds-requires
queue_preds-requires c =
    let txns = c.args.txns.now in
    let i = c.loop-txn.txn-index in
    let all : take i txns ≡ txns = take_all i txns c.loop-txn-test.false in
    let len : length c.deref.result.now ≡ length txns = ap length (c.deref.ensures.value ∙ c.loop-txn.invariant.accesses) ∙ length-map (take i txns) _ ∙ ap length all in
    let fewer = set_fewer c.args.plan.now c.args.loaded.now.batch.first c.args.loaded.now.batch.txns c.args.block txns c.requires.txns in
    let most = c.items-few.ensures.rule.1 in
    let same : length c.items-few.result.now ≡ length c.args.loaded.now.batch.txns = ap length c.items-few.ensures.value in
    omega (arith, len, fewer, most, same)

pub open_set-requires-clause-distinct : goal.open_set-requires-clause-distinct
open_set-requires-clause-distinct c =
    let txns = c.args.txns.now in
    let i = c.loop-txn.txn-index in
    let rises : Rises txns = rises_end c.requires.txns.before txns (subst Rises (sym c.requires.txns.is) (set_rises c.args.plan.now c.args.loaded.now.batch.first c.args.loaded.now.batch.txns c.args.block)) in
    let pieces : c.deref-2.result.now ≡ map (piece_in c.args.block) txns = c.deref-2.ensures.value ∙ c.loop-txn.invariant.pieces ∙ ap (map (piece_in c.args.block)) (take_all i txns c.loop-txn-test.false) in
    subst (λ (s : Schedule). AreDifferent (s.pieces ++ c.deref-2.result.now)) (sym c.new-sched.ensures)
    (subst AreDifferent (sym pieces) (ascending_differ (map (piece_in c.args.block) txns) (ascending c.args.block txns rises)))

pub open_set-requires-clause-within : goal.open_set-requires-clause-within
open_set-requires-clause-within c =
    let txns = c.args.txns.now in
    let i = c.loop-txn.txn-index in
    let accesses : length c.deref.result.now ≡ length (take i txns) = ap length (c.deref.ensures.value ∙ c.loop-txn.invariant.accesses) ∙ length-map (take i txns) _ in
    let pieces : length c.deref-2.result.now ≡ length (take i txns) = ap length (c.deref-2.ensures.value ∙ c.loop-txn.invariant.pieces) ∙ length-map (take i txns) _ in
    pairs_below c.deref.result.now c.in_ok-preds.preds (length c.deref-2.result.now) c.in_ok-preds.ensures.next (accesses ∙ sym pieces)

pub returns : goal.returns
returns c =
    let txns = c.args.txns.now in
    let i = c.loop-txn.txn-index in
    let over = access_over c.args.plan.now c.args.loaded.now c.args.block in
    let all : take i txns ≡ txns = take_all i txns c.loop-txn-test.false in
    let pieces : c.deref-2.result.now ≡ map (piece_in c.args.block) txns = c.deref-2.ensures.value ∙ c.loop-txn.invariant.pieces ∙ ap (map (piece_in c.args.block)) all in
    let accesses : c.loop-txn.accesses.items ≡ map over txns = c.loop-txn.invariant.accesses ∙ ap (map over) all in
    let sched : c.open_set.new.self ≡ record { pieces = c.deref-2.result.now; states = replicate (length c.deref-2.result.now) state.Waiting; pairs = c.in_ok-preds.preds } =
    c.in_ok-open_set.ensures.ok ∙ ap (λ (s : Schedule). after_opening s c.deref-2.result.now c.in_ok-preds.preds) c.new-sched.ensures ∙ first_opened c.deref-2.result.now c.in_ok-preds.preds in
    record {
      pieces = ap (λ (s : Schedule). s.pieces) sched ∙ pieces;
      states = ap (λ (s : Schedule). s.states) sched ∙ ap (λ n. replicate n state.Waiting) (ap length pieces ∙ length-map txns (piece_in c.args.block));
      pairs = subst (AreKeptPairs (map over txns)) (sym (ap (λ (s : Schedule). s.pairs) sched))
          (subst (λ (l : List Access). AreKeptPairs l c.in_ok-preds.preds) (c.deref.ensures.value ∙ accesses) (c.in_ok-preds.ensures.next, c.in_ok-preds.ensures.few));
      cells = subst (λ (l : List Access). HasCellsOf l c.loop-txn.cells.items) accesses c.loop-txn.invariant.cells;
    }
