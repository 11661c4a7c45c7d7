-- One batch more.
use Rattle.std.proofs.Common.{◌+◌, [], ◌∷◌, ◌++◌, drop, map, sym, ap, ◌∙◌}
use Rattle.std.proofs.lemmas.List.{append-nil, append_assoc, drop_all, drop_more}
use Rattle.pac_ops.specs.declared.batch.Batch.{Batch}
use Rattle.pac_core.specs.declared.loaded.LoadedBatch.{LoadedBatch}
use Rattle.pac_core.proofs.job.batch_copies.Goals as goal

abbrev its_batch : LoadedBatch → Batch
its_batch one = one.batch

pub loop-one-init : goal.loop-one-init
loop-one-init c = record { all = ap (λ l. l ++ map its_batch c.args.loaded.now) c.in_ok-batches.ensures.items }

pub loop-one-preserved : goal.loop-one-preserved
loop-one-preserved c =
    let loaded = c.args.loaded.now in
    let i = c.loop-one.one-index in
    let x = c.one-item.result in
    let batches = c.loop-one.batches.items in
    let rest = map its_batch (drop (i + 1) loaded) in
    record {
      all =
          ap (λ l. l ++ rest) c.in_ok-push.ensures.items
          ∙ append_assoc batches (c.in_ok-copy.field-0 ∷ []) rest
          ∙ ap (λ b. batches ++ (b ∷ rest)) (c.in_ok-copy.ensures ∙ ap its_batch c.one-item.is)
          ∙ ap (λ l. batches ++ map its_batch l) (sym (drop_more loaded i x c.loop-one-test.true))
          ∙ c.loop-one.invariant.all;
    }

pub returns : goal.returns
returns c =
    let batches = c.loop-one.batches.items in
    sym c.loop-one.invariant.all ∙ ap (λ l. batches ++ map its_batch l) (drop_all c.loop-one.one-index c.args.loaded.now c.loop-one-test.false) ∙ append-nil batches
