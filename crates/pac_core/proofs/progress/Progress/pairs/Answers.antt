-- Each set adds the pairs that are kept of it, as far as a `u64` goes.
use Rattle.std.proofs.Common.{◌≡◌, ◌<◌, ◌≤◌, ◌+◌, ℕ, zero, suc, List, [], ◌∷◌, length, Some, None, refl, arith}
use Rattle.std.specs.Prelude.{slice_get, sum_by, take, get_or}
use Rattle.std.proofs.lemmas.List.Sums.{sum_by_more, sum_by-take-le}
use Rattle.pac_sets.specs.Sets.{Kept}
use Rattle.pac_core.specs.declared.stage.SetStage.{SetStage}
use Rattle.pac_core.specs.Moves.{pairs_of}
use Rattle.pac_core.proofs.progress.Progress.pairs.Goals as goal

-- what stands at an offset
at_offset : {X : Type 0} (xs : List X) (i : ℕ) (d : X) → i < length xs → slice_get xs i ≡ Some (get_or xs i d)
at_offset [] i d lt = absurd (omega (arith, lt))
at_offset (x ∷ xs) zero d lt = refl
at_offset (x ∷ xs) (suc i) d lt = at_offset xs i d (omega (arith, lt))

abbrev kept_of : Kept SetStage → ℕ
kept_of set = pairs_of set.1

abbrev none : Kept SetStage
none = (record { batch = 0; block = 0 }, None)

pub loop-i-init : goal.loop-i-init
loop-i-init c = omega arith

pub loop-i-preserved : goal.loop-i-preserved
loop-i-preserved c =
    let sets = c.args.self.now.sets.sets in
    let lt : c.loop-i.i < length sets = let len = c.len-i-end.ensures in let less = c.loop-i-test.true in omega (arith, len, less) in
    let x : Kept SetStage = get_or sets c.loop-i.i none in
    let here = c.pairs_at.ensures x.0 x.1 (at_offset sets c.loop-i.i none lt) in
    let more : sum_by kept_of (take (c.loop-i.i + 1) sets) ≡ sum_by kept_of (take c.loop-i.i sets) + kept_of x = sum_by_more kept_of sets c.loop-i.i none lt in
    let before = c.loop-i.invariant in
    let sum = c.saturating_add-pairs.ensures in
    omega (arith, here, more, before, sum)

pub returns : goal.returns
returns c =
    let sets = c.args.self.now.sets.sets in
    let all : sum_by kept_of (take c.loop-i.i sets) ≤ sum_by kept_of sets = sum_by-take-le kept_of sets c.loop-i.i in
    let before = c.loop-i.invariant in
    omega (arith, all, before)
