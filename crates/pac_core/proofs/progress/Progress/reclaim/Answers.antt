-- One set more.
use Rattle.std.proofs.Common.{◌≡◌, ℕ, suc, ◌+◌, ◌<◌, ◌≤◌, length, Some, refl, ap, ◌∙◌, arith}
use Rattle.std.specs.Prelude.{slice_get}
use Rattle.pac_base.proofs.ItemLemmas.{item_at}
use Rattle.pac_sets.specs.Sets.{with_kept_at}
use Rattle.pac_core.specs.declared.progress.Progress.{Progress}
use Rattle.pac_core.specs.Moves.{reclaimed_kept}
use Rattle.pac_core.proofs.ReclaimSteps.{upto, upto_all, upto_get, upto_len, upto_step}
use Rattle.pac_core.proofs.progress.Progress.reclaim.Goals as goal

pub loop-at-init : goal.loop-at-init
loop-at-init c = refl

pub reclaim_at-requires : goal.reclaim_at-requires
reclaim_at-requires c =
    let old = c.args.self.now in
    let lt = c.loop-at-test.true in
    let end = c.len-at-end.ensures in
    let len : length c.loop-at.self.sets.sets ≡ length old.sets.sets = ap (λ (p : Progress). length p.sets.sets) c.loop-at.invariant ∙ upto_len c.loop-at.at old.sets.sets in
    omega (arith, lt, end, len)

pub loop-at-preserved : goal.loop-at-preserved
loop-at-preserved c =
    let old = c.args.self.now in
    let at = c.loop-at.at in
    let lt = c.loop-at-test.true in
    let end = c.len-at-end.ensures in
    let within : at < length old.sets.sets = omega (arith, lt, end) in
    let item = item_at old.sets.sets at within in
    let here : slice_get c.loop-at.self.sets.sets at ≡ Some (item.0.0, item.0.1) = ap (λ (p : Progress). slice_get p.sets.sets at) c.loop-at.invariant ∙ upto_get at old.sets.sets ∙ item.1 in
    let more : suc at ≡ at + 1 = omega arith in
    c.reclaim_at.ensures item.0.0 item.0.1 here
    ∙ ap (λ (p : Progress). record p { sets = record p.sets { sets = with_kept_at p.sets.sets at (reclaimed_kept item.0.1) } }) c.loop-at.invariant
    ∙ (λ k. record old { sets = record old.sets { sets = (upto_step at old.sets.sets item.0.0 item.0.1 item.1 ∙ ap (λ (n : ℕ). upto n old.sets.sets) more) k } })

pub returns : goal.returns
returns c =
    let old = c.args.self.now in
    let past = c.loop-at-test.false in
    let end = c.len-at-end.ensures in
    let all : length old.sets.sets ≤ c.loop-at.at = omega (arith, past, end) in
    c.loop-at.invariant ∙ (λ k. record old { sets = record old.sets { sets = upto_all c.loop-at.at old.sets.sets all k } })
