-- What is written, and what is left.
use Rattle.std.proofs.Common.{◌≡◌, ◌++◌, drop, flat_map, codes}
use Rattle.std.specs.List.{range_with_len}
use Rattle.pac_report.specs.Explain.{block_line, blocks_text, edge_line}
use Rattle.pac_report.proofs.blocks.push_blocks.Given as goal

abbrev pub invariant-loop-block : goal.invariant-loop-block
invariant-loop-block l = l.out.items ≡ l.fn.out.items ++ flat_map (block_line l.fn.cat l.fn.plan) (range_with_len 0 l.block)

abbrev pub invariant-loop-edge : goal.invariant-loop-edge
invariant-loop-edge l = l.out.items ++ flat_map (edge_line (codes "edge")) (drop l.edge-index l.edge-items) ≡ l.fn.out.items ++ blocks_text l.fn.cat l.fn.plan
