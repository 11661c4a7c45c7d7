-- What is written, and what is left.
use Rattle.std.proofs.Common.{◌≡◌, ◌++◌, drop, flat_map, codes}
use Rattle.std.specs.List.{range_with_len}
use Rattle.pac_report.specs.Explain.{slice_line, slices_text, edge_line}
use Rattle.pac_report.proofs.slices.push_slices.Given as goal

abbrev pub invariant-loop-slice : goal.invariant-loop-slice
invariant-loop-slice l = l.out.items ≡ l.fn.out.items ++ flat_map (slice_line l.fn.name l.fn.graph.slice_of) (range_with_len 0 l.slice)

abbrev pub invariant-loop-edge : goal.invariant-loop-edge
invariant-loop-edge l = l.out.items ++ flat_map (edge_line (codes "link " ++ l.fn.name)) (drop l.edge-index l.edge-items) ≡ l.fn.out.items ++ slices_text l.fn.name l.fn.graph
