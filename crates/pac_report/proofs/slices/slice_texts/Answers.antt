-- An operation more stands in its slice's text.
use Rattle.std.proofs.Common.{◌≡◌, ◌<◌, ℕ, ◌++◌, List, Vec, Global, ap, ◌∙◌, arith}
use Rattle.pac_graph.specs.Classes.{class_count}
use Rattle.pac_graph.proofs.ClassLemmas.{below_count}
use Rattle.pac_report.specs.Explain.{slice_member}
use Rattle.pac_report.specs.GroupTexts.{first_slice_members}
use Rattle.pac_report.proofs.GroupLemmas.{hold_at, hold_count}
use Rattle.pac_report.proofs.SliceLemmas.{slice_put}
use Rattle.pac_report.proofs.slices.slice_texts.Goals as goal

pub index_mut-requires : goal.index_mut-requires
index_mut-requires c =
    let slices = c.args.slice_of.now in
    let l = c.loop-op in
    omega (arith, hold_count l.texts.items (first_slice_members slices l.op) (class_count slices) l.invariant, below_count slices l.op c.loop-op-test.true, c.from.ensures)

pub loop-op-preserved : goal.loop-op-preserved
loop-op-preserved c =
    let slices = c.args.slice_of.now in
    let l = c.loop-op in
    let slice = c.from.result in
    let lt : slice < class_count slices = omega (arith, below_count slices l.op c.loop-op-test.true, c.from.ensures) in
    let before : c.index_mut.result.now.items ≡ first_slice_members slices l.op slice =
    ap (λ (v : Vec ℕ Global). v.items) c.index_mut.ensures.value
    ∙ hold_at l.texts.items (first_slice_members slices l.op) (class_count slices) slice c.index_mut.result.now l.invariant lt in
    slice_put slices l.texts.items l.op slice c.push_member.new.text l.invariant c.from.ensures lt
    (c.in_ok-push_member.ensures ∙ ap (λ (bs : List ℕ). bs ++ slice_member l.op) before)
