-- A line more is written; after the lines of all slices stand those of edges.
use Rattle.std.proofs.Common.{◌≡◌, ◌<◌, ℕ, ◌++◌, List, Vec, Global, codes, decimal, flat_map, ap, ◌∙◌, arith}
use Rattle.pac_graph.specs.Classes.{class_count}
use Rattle.pac_report.specs.Explain.{slice_line, slice_members, edge_line}
use Rattle.pac_report.proofs.GroupLemmas.{hold_at, hold_count, line_added, lines_before}
use Rattle.pac_report.proofs.slices.push_slices.Goals as goal

pub loop-slice-preserved : goal.loop-slice-preserved
loop-slice-preserved c =
    let slices = c.args.graph.now.slice_of in
    let seen = c.as_slice.result.now in
    let texts = c.in_ok-texts.texts.items in
    let slice = c.loop-slice.slice in
    let hold = c.in_ok-texts.ensures in
    let lt : slice < class_count seen = omega (arith, hold_count texts (slice_members seen) (class_count seen) hold, c.loop-slice-test.true, c.len-slice-end.ensures) in
    let text : c.deref.result.now ≡ slice_members slices slice =
    c.deref.ensures.value ∙ ap (λ (v : Vec ℕ Global). v.items) c.index.ensures
    ∙ hold_at texts (slice_members seen) (class_count seen) slice c.index.result.now hold lt
    ∙ ap (λ (ns : List ℕ). slice_members ns slice) c.as_slice.ensures in
    line_added c.args.out.now.items c.loop-slice.out.items c.push_slice.new.out.items
    (codes "slice " ++ c.args.name ++ codes " " ++ decimal slice ++ codes ":" ++ c.deref.result.now ++ codes "\n")
    (slice_line c.args.name slices) slice c.loop-slice.invariant (c.in_ok-push_slice.ensures)
    (ap (λ (t : List ℕ). codes "slice " ++ c.args.name ++ codes " " ++ decimal slice ++ codes ":" ++ t ++ codes "\n") text)

pub loop-edge-init : goal.loop-edge-init
loop-edge-init c =
    let slices = c.args.graph.now.slice_of in
    let seen = c.as_slice.result.now in
    let texts = c.in_ok-texts.texts.items in
    let name = c.args.name in
    let count : c.loop-slice.slice ≡ class_count seen =
    omega (arith, hold_count texts (slice_members seen) (class_count seen) (c.in_ok-texts.ensures), c.loop-slice-test.false, c.loop-slice.auto.slice-end, c.len-slice-end.ensures) in
    ap (λ (es : List (ℕ × ℕ)). c.loop-slice.out.items ++ flat_map (edge_line (codes "link " ++ name)) es) c.as_slice-edge-items.ensures
    ∙ lines_before c.args.out.now.items c.loop-slice.out.items (flat_map (edge_line (codes "link " ++ name)) c.args.graph.now.edges) (slice_line name slices) c.loop-slice.slice (class_count slices)
    c.loop-slice.invariant (count ∙ ap class_count c.as_slice.ensures)
