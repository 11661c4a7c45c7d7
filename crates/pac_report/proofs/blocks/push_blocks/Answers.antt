-- A line more is written; after the lines of all blocks stand those of edges.
use Rattle.std.proofs.Common.{◌≡◌, ◌<◌, ℕ, ◌++◌, List, Vec, Global, codes, decimal, flat_map, ap, ◌∙◌, arith}
use Rattle.pac_report.specs.Explain.{block_line, block_members, edge_line}
use Rattle.pac_report.proofs.GroupLemmas.{hold_at, hold_count, line_added, lines_before}
use Rattle.pac_report.proofs.blocks.push_blocks.Goals as goal

pub loop-block-preserved : goal.loop-block-preserved
loop-block-preserved c =
    let cat = c.args.cat.now in
    let plan = c.args.plan.now in
    let texts = c.in_ok-texts.texts.items in
    let block = c.loop-block.block in
    let hold = c.in_ok-texts.ensures in
    let lt : block < plan.blocks = omega (arith, hold_count texts (block_members cat plan) plan.blocks hold, c.loop-block-test.true, c.len-block-end.ensures) in
    let text : c.deref.result.now ≡ block_members cat plan block =
    c.deref.ensures.value ∙ ap (λ (v : Vec ℕ Global). v.items) c.index.ensures ∙ hold_at texts (block_members cat plan) plan.blocks block c.index.result.now hold lt in
    line_added c.args.out.now.items c.loop-block.out.items c.push_block.new.out.items
    (codes "block " ++ decimal block ++ codes ": " ++ c.deref.result.now ++ codes "\n")
    (block_line cat plan) block c.loop-block.invariant (c.in_ok-push_block.ensures)
    (ap (λ (t : List ℕ). codes "block " ++ decimal block ++ codes ": " ++ t ++ codes "\n") text)

pub loop-edge-init : goal.loop-edge-init
loop-edge-init c =
    let cat = c.args.cat.now in
    let plan = c.args.plan.now in
    let texts = c.in_ok-texts.texts.items in
    let count : c.loop-block.block ≡ plan.blocks =
    omega (arith, hold_count texts (block_members cat plan) plan.blocks (c.in_ok-texts.ensures), c.loop-block-test.false, c.loop-block.auto.block-end, c.len-block-end.ensures) in
    ap (λ (es : List (ℕ × ℕ)). c.loop-block.out.items ++ flat_map (edge_line (codes "edge")) es) c.edges-edge-items.ensures
    ∙ lines_before c.args.out.now.items c.loop-block.out.items (flat_map (edge_line (codes "edge")) plan.edges) (block_line cat plan) c.loop-block.block plan.blocks c.loop-block.invariant count
