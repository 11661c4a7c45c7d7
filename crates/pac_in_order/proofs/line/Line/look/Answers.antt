-- The next piece is found, or the place moves to the next transaction.
use Rattle.std.proofs.Common.{rules, ◌≡◌, ◌<◌, List, length, Some, None, Fits, w64, sym, ap, subst, ◌∙◌, arith}
use Rattle.std.specs.Prelude.{slice_get, slice_index_or}
use Rattle.pac_value.specs.State.{Tables}
use Rattle.pac_ops.specs.declared.batch.Batch.{Batch}
use Rattle.pac_ops.specs.declared.transaction.Txn.{Txn}
use Rattle.pac_plan.specs.Codes.{TxnFitsPlan}
use Rattle.pac_plan.specs.declared.parts.PlanParts.{PlanParts}
use Rattle.pac_in_order.specs.Lines.{IsFirstBlock, from_block, opening_tables}
use Rattle.pac_in_order.proofs.Fronts.{at_index, below_end, front_is, number_below, some_there}
use Rattle.pac_in_order.proofs.Moves.{found_at, found_keeps, found_same, next_keeps, next_same}
use Rattle.pac_in_order.proofs.Placed.{txn_fits}
use Rattle.pac_in_order.proofs.line.Line.look.Goals as goal

pub overflow_add-number : goal.overflow_add-number
overflow_add-number g c =
    let line = c.args.self.now in
    let opening : Tables = opening_tables g.R.Rows.held c.args.opening.now.items in
    let batch : Batch = c.in-Some.batch.now in
    let front = front_is line.batches.items batch c.in-Some.ensures.item.3.0 c.in-Some.ensures.lookup in
    let count : length c.items-txns.result.now ≡ length batch.txns = ap length c.items-txns.ensures.value in
    let inside : line.txn < length batch.txns = below_end line c.args.place.now opening c.requires.keeps batch front.0 front.1 (λ end. c.if-self-txns.false (end ∙ sym count)) in
    let there = some_there batch.txns line.txn inside in
    let below = number_below line c.args.place.now opening c.requires.keeps batch front.0 front.1 there.0 there.1 in
    let fits : Fits w64 line.next = search rules in
    omega (arith, below, fits)

pub next_block-requires : goal.next_block-requires
next_block-requires g c =
    let line = c.args.self.now in
    let opening : Tables = opening_tables g.R.Rows.held c.args.opening.now.items in
    let batch : Batch = c.in-Some.batch.now in
    let front = front_is line.batches.items batch c.in-Some.ensures.item.3.0 c.in-Some.ensures.lookup in
    let count : length c.items-txns.result.now ≡ length batch.txns = ap length c.items-txns.ensures.value in
    let inside : line.txn < length batch.txns = below_end line c.args.place.now opening c.requires.keeps batch front.0 front.1 (λ end. c.if-self-txns.false (end ∙ sym count)) in
    let there : slice_get batch.txns line.txn ≡ Some c.index-txns-self.result = at_index batch.txns line.txn c.index-txns-self.result inside
    (c.index-txns-self.is ∙ ap (λ (l : List Txn). slice_index_or l line.txn c.index-txns-self.result) c.items-txns.ensures.value) in
    subst (λ (p : PlanParts). TxnFitsPlan p c.index-txns-self.result) (sym c.get.ensures) (txn_fits line c.args.place.now opening c.requires.keeps batch front.0 front.1 c.index-txns-self.result there)

pub returns-in-Some-2-clause-keeps : goal.returns-in-Some-2-clause-keeps
returns-in-Some-2-clause-keeps g c =
    let line = c.args.self.now in
    let opening : Tables = opening_tables g.R.Rows.held c.args.opening.now.items in
    let batch : Batch = c.in-Some.batch.now in
    let front = front_is line.batches.items batch c.in-Some.ensures.item.3.0 c.in-Some.ensures.lookup in
    let count : length c.items-txns.result.now ≡ length batch.txns = ap length c.items-txns.ensures.value in
    let inside : line.txn < length batch.txns = below_end line c.args.place.now opening c.requires.keeps batch front.0 front.1 (λ end. c.if-self-txns.false (end ∙ sym count)) in
    let there : slice_get batch.txns line.txn ≡ Some c.index-txns-self.result = at_index batch.txns line.txn c.index-txns-self.result inside
    (c.index-txns-self.is ∙ ap (λ (l : List Txn). slice_index_or l line.txn c.index-txns-self.result) c.items-txns.ensures.value) in
    let first : IsFirstBlock line.plan c.index-txns-self.result (from_block line.block) (Some c.in-Some-2.block) = subst (λ o. IsFirstBlock line.plan c.index-txns-self.result (from_block line.block) o) c.in-Some-2.is
    (subst (λ (p : PlanParts). IsFirstBlock p c.index-txns-self.result (from_block line.block) c.in_ok-block.field-0) c.get.ensures c.in_ok-block.ensures.first) in
    found_keeps line opening c.args.place.now c.requires.keeps batch front.0 front.1 c.index-txns-self.result there c.next_block.new.place c.in_ok-block.ensures.begun c.in-Some-2.block first

pub returns-in-Some-2-clause-same : goal.returns-in-Some-2-clause-same
returns-in-Some-2-clause-same g c =
    let line = c.args.self.now in
    let opening : Tables = opening_tables g.R.Rows.held c.args.opening.now.items in
    let batch : Batch = c.in-Some.batch.now in
    let front = front_is line.batches.items batch c.in-Some.ensures.item.3.0 c.in-Some.ensures.lookup in
    let count : length c.items-txns.result.now ≡ length batch.txns = ap length c.items-txns.ensures.value in
    let inside : line.txn < length batch.txns = below_end line c.args.place.now opening c.requires.keeps batch front.0 front.1 (λ end. c.if-self-txns.false (end ∙ sym count)) in
    let there : slice_get batch.txns line.txn ≡ Some c.index-txns-self.result = at_index batch.txns line.txn c.index-txns-self.result inside
    (c.index-txns-self.is ∙ ap (λ (l : List Txn). slice_index_or l line.txn c.index-txns-self.result) c.items-txns.ensures.value) in
    let first : IsFirstBlock line.plan c.index-txns-self.result (from_block line.block) (Some c.in-Some-2.block) = subst (λ o. IsFirstBlock line.plan c.index-txns-self.result (from_block line.block) o) c.in-Some-2.is
    (subst (λ (p : PlanParts). IsFirstBlock p c.index-txns-self.result (from_block line.block) c.in_ok-block.field-0) c.get.ensures c.in_ok-block.ensures.first) in
    found_same line opening c.args.place.now c.requires.keeps batch front.0 front.1 c.index-txns-self.result there c.next_block.new.place c.in_ok-block.ensures.begun c.in-Some-2.block first

pub returns-in-Some-2-clause-found : goal.returns-in-Some-2-clause-found
returns-in-Some-2-clause-found g c =
    let line = c.args.self.now in
    let opening : Tables = opening_tables g.R.Rows.held c.args.opening.now.items in
    let batch : Batch = c.in-Some.batch.now in
    let front = front_is line.batches.items batch c.in-Some.ensures.item.3.0 c.in-Some.ensures.lookup in
    let count : length c.items-txns.result.now ≡ length batch.txns = ap length c.items-txns.ensures.value in
    let inside : line.txn < length batch.txns = below_end line c.args.place.now opening c.requires.keeps batch front.0 front.1 (λ end. c.if-self-txns.false (end ∙ sym count)) in
    let there : slice_get batch.txns line.txn ≡ Some c.index-txns-self.result = at_index batch.txns line.txn c.index-txns-self.result inside
    (c.index-txns-self.is ∙ ap (λ (l : List Txn). slice_index_or l line.txn c.index-txns-self.result) c.items-txns.ensures.value) in
    let first : IsFirstBlock line.plan c.index-txns-self.result (from_block line.block) (Some c.in-Some-2.block) = subst (λ o. IsFirstBlock line.plan c.index-txns-self.result (from_block line.block) o) c.in-Some-2.is
    (subst (λ (p : PlanParts). IsFirstBlock p c.index-txns-self.result (from_block line.block) c.in_ok-block.field-0) c.get.ensures c.in_ok-block.ensures.first) in
    found_at line opening c.args.place.now c.requires.keeps batch front.0 front.1 c.index-txns-self.result there c.next_block.new.place c.in_ok-block.ensures.begun c.in-Some-2.block first

pub returns-in-None-clause-keeps : goal.returns-in-None-clause-keeps
returns-in-None-clause-keeps g c =
    let line = c.args.self.now in
    let opening : Tables = opening_tables g.R.Rows.held c.args.opening.now.items in
    let batch : Batch = c.in-Some.batch.now in
    let front = front_is line.batches.items batch c.in-Some.ensures.item.3.0 c.in-Some.ensures.lookup in
    let count : length c.items-txns.result.now ≡ length batch.txns = ap length c.items-txns.ensures.value in
    let inside : line.txn < length batch.txns = below_end line c.args.place.now opening c.requires.keeps batch front.0 front.1 (λ end. c.if-self-txns.false (end ∙ sym count)) in
    let there : slice_get batch.txns line.txn ≡ Some c.index-txns-self.result = at_index batch.txns line.txn c.index-txns-self.result inside
    (c.index-txns-self.is ∙ ap (λ (l : List Txn). slice_index_or l line.txn c.index-txns-self.result) c.items-txns.ensures.value) in
    let first : IsFirstBlock line.plan c.index-txns-self.result (from_block line.block) None = subst (λ o. IsFirstBlock line.plan c.index-txns-self.result (from_block line.block) o) c.in-None.is
    (subst (λ (p : PlanParts). IsFirstBlock p c.index-txns-self.result (from_block line.block) c.in_ok-block.field-0) c.get.ensures c.in_ok-block.ensures.first) in
    next_keeps line opening c.args.place.now c.requires.keeps batch front.0 front.1 c.index-txns-self.result there c.next_block.new.place c.in_ok-block.ensures.begun first

pub returns-in-None-clause-same : goal.returns-in-None-clause-same
returns-in-None-clause-same g c =
    let line = c.args.self.now in
    let opening : Tables = opening_tables g.R.Rows.held c.args.opening.now.items in
    let batch : Batch = c.in-Some.batch.now in
    let front = front_is line.batches.items batch c.in-Some.ensures.item.3.0 c.in-Some.ensures.lookup in
    let count : length c.items-txns.result.now ≡ length batch.txns = ap length c.items-txns.ensures.value in
    let inside : line.txn < length batch.txns = below_end line c.args.place.now opening c.requires.keeps batch front.0 front.1 (λ end. c.if-self-txns.false (end ∙ sym count)) in
    let there : slice_get batch.txns line.txn ≡ Some c.index-txns-self.result = at_index batch.txns line.txn c.index-txns-self.result inside
    (c.index-txns-self.is ∙ ap (λ (l : List Txn). slice_index_or l line.txn c.index-txns-self.result) c.items-txns.ensures.value) in
    let first : IsFirstBlock line.plan c.index-txns-self.result (from_block line.block) None = subst (λ o. IsFirstBlock line.plan c.index-txns-self.result (from_block line.block) o) c.in-None.is
    (subst (λ (p : PlanParts). IsFirstBlock p c.index-txns-self.result (from_block line.block) c.in_ok-block.field-0) c.get.ensures c.in_ok-block.ensures.first) in
    next_same line opening c.args.place.now c.requires.keeps batch front.0 front.1 c.index-txns-self.result there c.next_block.new.place c.in_ok-block.ensures.begun first
