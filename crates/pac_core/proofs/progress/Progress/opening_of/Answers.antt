-- By the values that are kept of its batch.
use Rattle.std.proofs.Common.{◌≡◌, ℕ, ◌<◌, List, length, Some, sym, ap, subst, ◌∙◌, arith}
use Rattle.std.specs.Prelude.{slice_get}
use Rattle.std.proofs.lemmas.Option.{slice_get_within}
use Rattle.pac_batch.specs.Sets.{set_of}
use Rattle.pac_sets.specs.declared.set_id.SetId.{SetId}
use Rattle.pac_core.specs.declared.stage.SetStage.{SetStage}
use Rattle.pac_core.specs.declared.stage.SetStage.TheVariants.{Waiting}
use Rattle.pac_core.specs.Links.{IsRest}
use Rattle.pac_core.specs.Moves.{HasAllInputs, IsFreshlyOpen}
use Rattle.pac_core.proofs.OpenedSets.{batch_fits, batch_read, block_inside, inputs_are, loaded_there, set_read, stage_read, txns_are}
use Rattle.pac_core.proofs.progress.Progress.opening_of.Goals as goal

pub index-loaded-requires : goal.index-loaded-requires
index-loaded-requires c =
    let p = c.args.self.now in
    let l = loaded_there c.requires.keeps.job p c.requires.keeps.keeps c.args.at c.requires.open in
    let lt : c.requires.open.set.batch < length p.batches.items = slice_get_within p.batches.items c.requires.open.set.batch l.0 l.1 in
    let same : c.requires.open.set.batch ≡ c.get.result.now.0.batch = ap (λ (s : SetId). s.batch) (set_read p c.args.at c.requires.open c.get.result.now c.get.ensures) in
    omega (arith, lt, same, p.batches.ok.0)

pub open_set-requires-clause-fit : goal.open_set-requires-clause-fit
open_set-requires-clause-fit c =
    let p = c.args.self.now in
    let l = loaded_there c.requires.keeps.job p c.requires.keeps.keeps c.args.at c.requires.open in
    batch_fits c.requires.keeps.job p c.requires.keeps.keeps c.requires.open.set.batch c.index-loaded.result.now
    (batch_read p c.args.at c.requires.open c.get.result.now c.get.ensures l.0 c.index-loaded.result.now l.1 c.index-loaded.ensures)

pub open_set-requires-clause-block : goal.open_set-requires-clause-block
open_set-requires-clause-block c =
    let p = c.args.self.now in
    subst (λ (s : SetId). s.block < p.pieces.blocks) (set_read p c.args.at c.requires.open c.get.result.now c.get.ensures) (block_inside c.requires.keeps.job p c.requires.keeps.keeps c.args.at c.requires.open)

pub open_set-requires-clause-txns : goal.open_set-requires-clause-txns
open_set-requires-clause-txns c =
    let p = c.args.self.now in
    let l = loaded_there c.requires.keeps.job p c.requires.keeps.keeps c.args.at c.requires.open in
    let read = c.index-loaded.result.now in
    let there = batch_read p c.args.at c.requires.open c.get.result.now c.get.ensures l.0 read l.1 c.index-loaded.ensures in
    let kept : c.requires.open.kept ≡ Waiting c.in-Waiting.txns = stage_read p c.args.at c.requires.open c.get.result.now c.get.ensures c.in-Some.stage c.in-Some.is ∙ c.in-Waiting.is in
    subst (λ (s : SetId). IsRest (set_of p.pieces read.batch.first read.batch.txns s.block).txns c.as_slice.result.now) (set_read p c.args.at c.requires.open c.get.result.now c.get.ensures)
    (subst (λ (ts : List ℕ). IsRest (set_of p.pieces read.batch.first read.batch.txns c.requires.open.set.block).txns ts) (sym c.as_slice.ensures)
    (txns_are c.requires.keeps.job p c.requires.keeps.keeps c.args.at c.requires.open read there c.in-Waiting.txns kept))

pub open_set-requires-clause-inputs : goal.open_set-requires-clause-inputs
open_set-requires-clause-inputs c =
    let p = c.args.self.now in
    let l = loaded_there c.requires.keeps.job p c.requires.keeps.keeps c.args.at c.requires.open in
    let read = c.index-loaded.result.now in
    let there = batch_read p c.args.at c.requires.open c.get.result.now c.get.ensures l.0 read l.1 c.index-loaded.ensures in
    subst (λ (s : SetId). HasAllInputs p.pieces read s.block) (set_read p c.args.at c.requires.open c.get.result.now c.get.ensures)
    (inputs_are c.requires.keeps.job p c.requires.keeps.keeps c.args.at c.requires.open read there)

pub returns-in_ok-opening-in-Waiting-clause-waiting : goal.returns-in_ok-opening-in-Waiting-clause-waiting
returns-in_ok-opening-in-Waiting-clause-waiting c =
    let p = c.args.self.now in
    let l = loaded_there c.requires.keeps.job p c.requires.keeps.keeps c.args.at c.requires.open in
    let read = c.index-loaded.result.now in
    let there = batch_read p c.args.at c.requires.open c.get.result.now c.get.ensures l.0 read l.1 c.index-loaded.ensures in
    record {
      set = c.get.result.now.0;
      txns = c.in-Waiting.txns;
      loaded = read;
      there = c.get.ensures ∙ (λ k. Some (c.get.result.now.0, (c.in-Some.is ∙ ap (λ (s : SetStage). Some s) c.in-Waiting.is) k));
      loaded_there = ap (λ (s : SetId). slice_get p.batches.items s.batch) (sym (set_read p c.args.at c.requires.open c.get.result.now c.get.ensures)) ∙ there;
      fresh = subst (λ (ts : List ℕ). IsFreshlyOpen p.pieces read c.get.result.now.0.block ts c.in_ok-opening-in-Waiting.opening) c.as_slice.ensures c.in_ok-opening-in-Waiting.ensures;
    }

pub returns-in-Open-clause-opened : goal.returns-in-Open-clause-opened
returns-in-Open-clause-opened c = record {
  set = c.get.result.now.0;
  opening = c.in-Open.field-0;
  there = c.get.ensures ∙ (λ k. Some (c.get.result.now.0, (c.in-Some.is ∙ ap (λ (s : SetStage). Some s) c.in-Open.is) k));
}
