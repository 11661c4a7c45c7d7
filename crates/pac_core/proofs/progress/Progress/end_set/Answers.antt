-- Where values are cleared, no set of the batch is left.
use Rattle.std.proofs.Common.{◌≡◌, ◌⊎◌, ℕ, ◌<◌, ◌==◌, cond, [], None, Some, refl, sym, ap, subst, ◌∙◌, true≢false, inl, inr}
use Rattle.std.specs.Prelude.{slice_get, T}
use Rattle.std.specs.FinMap.{is_sorted}
use Rattle.pac_base.proofs.TestLemmas.{same_number, unlike}
use Rattle.pac_sets.specs.SetOrder.{set_cmp}
use Rattle.pac_sets.specs.Sets.{Kept, Setting}
use Rattle.pac_sets.proofs.KeptLemmas.{sorted_stays}
use Rattle.pac_core.specs.declared.loaded.LoadedBatch.{LoadedBatch}
use Rattle.pac_core.specs.declared.stage.SetStage.{SetStage}
use Rattle.pac_core.specs.Links.{IsUnfinishedBatch}
use Rattle.pac_core.proofs.EndedSet.{blocks_still}
use Rattle.pac_core.proofs.KeptAt.{equal_or_not}
use Rattle.pac_core.proofs.progress.Progress.end_set.Goals as goal

pub is_left-requires-clause-blocks : goal.is_left-requires-clause-blocks
is_left-requires-clause-blocks c =
    let p = c.args.self.now in
    subst (λ (s : Setting SetStage). (j : ℕ) (set : Kept SetStage) → slice_get s.sets j ≡ Some set → set.0.block < p.pieces.blocks) (sym c.finish.ensures)
    (blocks_still p.sets.sets c.args.at None p.pieces.blocks c.requires.blocks)

pub is_left-requires-clause-ascend : goal.is_left-requires-clause-ascend
is_left-requires-clause-ascend c =
    let p = c.args.self.now in
    subst (λ (s : Setting SetStage). T (is_sorted set_cmp s.sets)) (sym c.finish.ensures) (subst T (sym (sorted_stays p.sets.sets c.args.at None)) c.requires.ascend)

pub returns-then-not-is_left : goal.returns-then-not-is_left
returns-then-not-is_left c =
    let p = c.args.self.now in
    record {
      pieces = refl;
      sets = c.finish.ensures;
      note_is = refl;
      first = refl;
      next = refl;
      unfinished = refl;
      closed = refl;
      recent = refl;
      batches = c.clear_values.ensures.batches;
      values = λ k loaded there left.
          let before = c.clear_values.ensures.each k loaded there in
          go k loaded left (equal_or_not k c.args.batch) before.0 before.1 before.2 before.3;
    }
  where
    go : (k : ℕ) (loaded : LoadedBatch) → IsUnfinishedBatch c.finish.new.self.sets k → (k ≡ c.args.batch) ⊎ (k ≡ c.args.batch → ⊥)
        → (before : LoadedBatch) → slice_get c.args.self.now.batches.items k ≡ Some before → loaded.batch ≡ before.batch → loaded.kept.items ≡ cond (k == c.args.batch) [] before.kept.items
        → (before : LoadedBatch) × (slice_get c.args.self.now.batches.items k ≡ Some before) × (loaded.batch ≡ before.batch) × (loaded.kept.items ≡ before.kept.items)
    go k loaded left (inl same) before there batch kept =
        absurd (true≢false (sym (c.is_left.ensures.1 (subst (IsUnfinishedBatch c.finish.new.self.sets) same left)) ∙ c.if-not-is_left.true))
    go k loaded left (inr differ) before there batch kept = (
      before,
      there,
      batch,
      kept ∙ ap (λ b. cond b [] before.kept.items) (unlike (k == c.args.batch) (λ h. differ (same_number k c.args.batch h))),
    )
