-- The first transaction that is left stands in its batch.
use Rattle.std.proofs.Common.{◌≡◌, ℕ, ◌+◌, ◌-◌, ◌<◌, ◌≤◌, true, List, [], ◌∷◌, length, get_or, Some, None, sym, ap, subst, ◌∙◌, true≢false, arith}
use Rattle.std.specs.Prelude.{slice_get}
use Rattle.std.proofs.lemmas.Option.{same_Some, slice_get_within}
use Rattle.pac_batch.specs.Sets.{has_numbers}
use Rattle.pac_sets.specs.declared.set_id.SetId.{SetId}
use Rattle.pac_core.specs.declared.stage.SetStage.{SetStage}
use Rattle.pac_core.specs.declared.stage.SetStage.TheVariants.{Waiting}
use Rattle.pac_core.proofs.OpenedSets.{batch_read, loaded_there, set_read, stage_read, txns_are}
use Rattle.pac_core.proofs.OpeningLists.{set_range}
use Rattle.pac_core.proofs.progress.Progress.first_left.Goals as goal

-- a list that isn't empty has a first item
has_first : (ts : List ℕ) → has_numbers ts ≡ true → slice_get ts 0 ≡ None → ⊥
has_first [] some e = true≢false (sym some)
has_first (t ∷ ts) some e = let wrong : Some t ≡ None = e in cc

-- and ends with the others
first_of : (ts : List ℕ) (t : ℕ) → slice_get ts 0 ≡ Some t → (us : List ℕ) × (ts ≡ t ∷ us)
first_of [] t e = let wrong : None ≡ Some t = e in absurd cc
first_of (u ∷ us) t e = (us, ap (λ x. x ∷ us) (same_Some u t e))

first_at : (ts : List ℕ) (t : ℕ) → slice_get ts 0 ≡ Some t → get_or ts 0 0 ≡ t
first_at [] t e = let wrong : None ≡ Some t = e in absurd cc
first_at (u ∷ us) t e = same_Some u t e

pub unreachable-requires-in_default-first : goal.unreachable-requires-in_default-first
unreachable-requires-in_default-first c =
    let p = c.args.self.now in
    let l = loaded_there c.requires.keeps.job p c.requires.keeps.keeps c.args.at c.requires.open in
    let kept : c.requires.open.kept ≡ Waiting c.in-Waiting.rest = stage_read p c.args.at c.requires.open c.get.result.now c.get.ensures c.in-Some.stage c.in-Some.is ∙ c.in-Waiting.is in
    let rest = txns_are c.requires.keeps.job p c.requires.keeps.keeps c.args.at c.requires.open l.0 l.1 c.in-Waiting.rest kept in
    has_first c.in-Waiting.rest rest.some (sym c.first.ensures ∙ c.in_default-first.is)

pub index-requires : goal.index-requires
index-requires c =
    let p = c.args.self.now in
    let l = loaded_there c.requires.keeps.job p c.requires.keeps.keeps c.args.at c.requires.open in
    let lt : c.requires.open.set.batch < length p.batches.items = slice_get_within p.batches.items c.requires.open.set.batch l.0 l.1 in
    let same : c.requires.open.set.batch ≡ c.get.result.now.0.batch = ap (λ (s : SetId). s.batch) (set_read p c.args.at c.requires.open c.get.result.now c.get.ensures) in
    omega (arith, lt, same, p.batches.ok.0)

pub overflow_sub-index : goal.overflow_sub-index
overflow_sub-index c =
    let p = c.args.self.now in
    let read = c.index.result.now in
    let l = loaded_there c.requires.keeps.job p c.requires.keeps.keeps c.args.at c.requires.open in
    let there = batch_read p c.args.at c.requires.open c.get.result.now c.get.ensures l.0 read l.1 c.index.ensures in
    let kept : c.requires.open.kept ≡ Waiting c.in-Waiting.rest = stage_read p c.args.at c.requires.open c.get.result.now c.get.ensures c.in-Some.stage c.in-Some.is ∙ c.in-Waiting.is in
    let rest = txns_are c.requires.keeps.job p c.requires.keeps.keeps c.args.at c.requires.open read there c.in-Waiting.rest kept in
    let first : slice_get c.in-Waiting.rest 0 ≡ Some c.in-Some-first.txn = sym c.first.ensures ∙ c.in-Some-first.is in
    let range = set_range p.pieces read.batch.first read.batch.txns c.requires.open.set.block c.in-Waiting.rest rest 0 (slice_get_within c.in-Waiting.rest 0 c.in-Some-first.txn first) in
    subst (λ n. read.batch.first ≤ n) (first_at c.in-Waiting.rest c.in-Some-first.txn first) range.0

pub returns-clause-left : goal.returns-clause-left
returns-clause-left c =
    let p = c.args.self.now in
    let read = c.index.result.now in
    let l = loaded_there c.requires.keeps.job p c.requires.keeps.keeps c.args.at c.requires.open in
    let there = batch_read p c.args.at c.requires.open c.get.result.now c.get.ensures l.0 read l.1 c.index.ensures in
    let kept : c.requires.open.kept ≡ Waiting c.in-Waiting.rest = stage_read p c.args.at c.requires.open c.get.result.now c.get.ensures c.in-Some.stage c.in-Some.is ∙ c.in-Waiting.is in
    let rest = txns_are c.requires.keeps.job p c.requires.keeps.keeps c.args.at c.requires.open read there c.in-Waiting.rest kept in
    let first : slice_get c.in-Waiting.rest 0 ≡ Some c.in-Some-first.txn = sym c.first.ensures ∙ c.in-Some-first.is in
    let range = set_range p.pieces read.batch.first read.batch.txns c.requires.open.set.block c.in-Waiting.rest rest 0 (slice_get_within c.in-Waiting.rest 0 c.in-Some-first.txn first) in
    let is = first_at c.in-Waiting.rest c.in-Some-first.txn first in
    let least : read.batch.first ≤ c.in-Some-first.txn = subst (λ n. read.batch.first ≤ n) is range.0 in
    let within : c.in-Some-first.txn < read.batch.first + length read.batch.txns = subst (λ n. n < read.batch.first + length read.batch.txns) is range.1 in
    let others = first_of c.in-Waiting.rest c.in-Some-first.txn first in
    record {
      txn = record {
        loaded = read;
        there = ap (λ (s : SetId). slice_get p.batches.items s.batch) (sym (set_read p c.args.at c.requires.open c.get.result.now c.get.ensures)) ∙ there;
        inside = omega (arith, least, within);
        number = omega (arith, least);
      };
      rest = others.0;
      there = c.get.ensures ∙ (λ k. Some (c.get.result.now.0, (c.in-Some.is ∙ ap (λ (x : SetStage). Some x) (c.in-Waiting.is ∙ ap (λ (ts : List ℕ). Waiting ts) others.1)) k));
      opened = c.requires.open;
    }
