-- The text of the graph of a catalogue: the slices of each procedure and the edges between them, and then the blocks and
-- the edges between those.
use Rattle.std.specs.Prelude.{ℕ, ◌+◌, List, [], ◌∷◌, ◌++◌, codes, map, flat_map, nat_eq, length, slice_index, slice_index_or}
use Rattle.std.specs.Fmt.{decimal}
use Rattle.std.specs.List.{filter, range_with_len}
use Rattle.pac_graph.specs.Classes.{class_count}
use Rattle.pac_ops.specs.declared.program.Program.{Program}
use Rattle.pac_slice.specs.declared.local_graph.LocalGraph.{LocalGraph}
use Rattle.pac_plan.specs.declared.parts.PlanParts.{PlanParts}
use Rattle.pac_plan.specs.Nodes.{Node, Operation, VirtualWrite}
use Rattle.pac_plan.specs.Analysis.{block_in}
use Rattle.pac_types.specs.declared.procedure.Proc.{Proc}
use Rattle.pac_types.specs.Typing.{CatalogueState}

-- the nodes whose group has this number, in their order
abbrev pub members : {N : Type 0} → (N → ℕ) → List N → ℕ → List N
members group nodes number = filter (λ node. nat_eq (group node) number) nodes

-- WORD FROM TO
abbrev pub edge_line : List ℕ → ℕ × ℕ → List ℕ
edge_line word edge = word ++ codes " " ++ decimal edge.0 ++ codes " " ++ decimal edge.1 ++ codes "\n"

-- ---- slices

-- an operation of a slice, by its number
abbrev pub slice_member : ℕ → List ℕ
slice_member op = codes " " ++ decimal op

-- the operations of a slice, ascending
abbrev pub slice_members : List ℕ → ℕ → List ℕ
slice_members slice_of slice = flat_map slice_member (members (slice_index slice_of) (range_with_len 0 (length slice_of)) slice)

-- slice PROC S: and its operations
abbrev pub slice_line : List ℕ → List ℕ → ℕ → List ℕ
slice_line name slice_of slice = codes "slice " ++ name ++ codes " " ++ decimal slice ++ codes ":" ++ slice_members slice_of slice ++ codes "\n"

-- the slices of a procedure, and then the edges between them: link PROC FROM TO
abbrev pub slices_text : List ℕ → LocalGraph → List ℕ
slices_text name graph =
    flat_map (slice_line name graph.slice_of) (range_with_len 0 (class_count graph.slice_of))
    ++ flat_map (edge_line (codes "link " ++ name)) graph.edges

-- the slices of all procedures
abbrev pub procs_text : List Proc → List LocalGraph → List ℕ
procs_text [] graphs = []
procs_text (proc ∷ procs) [] = []
procs_text (proc ∷ procs) (graph ∷ graphs) = slices_text proc.name graph ++ procs_text procs graphs

-- ---- blocks

-- the operations of programs that are numbered from p, by program and operation
abbrev pub operation_nodes : ℕ → List Program → List Node
operation_nodes p [] = []
operation_nodes p (program ∷ programs) = map (Operation p) (range_with_len 0 (length program.ops)) ++ operation_nodes (p + 1) programs

-- the tables, each by its virtual write, and then the operations
abbrev pub plan_nodes : PlanParts → List Node
plan_nodes plan = map VirtualWrite (range_with_len 0 (length plan.tables)) ++ operation_nodes 0 plan.programs

-- table NAME, or PROC.OP
abbrev pub node_text : CatalogueState → Node → List ℕ
node_text cat (VirtualWrite t) = codes "table " ++ slice_index_or (map (λ table. table.name) cat.tables) t []
node_text cat (Operation p i) = slice_index_or (map (λ proc. proc.name) cat.procs) p [] ++ codes "." ++ decimal i

-- texts with a comma and a space between them
abbrev pub listed_texts : List (List ℕ) → List ℕ
listed_texts [] = []
listed_texts (text ∷ texts) = text ++ flat_map (λ further. codes ", " ++ further) texts

-- the members of a block: the tables whose home it is, and its operations
abbrev pub block_members : CatalogueState → PlanParts → ℕ → List ℕ
block_members cat plan block = listed_texts (map (node_text cat) (members (block_in plan) (plan_nodes plan) block))

-- block B: and its members
abbrev pub block_line : CatalogueState → PlanParts → ℕ → List ℕ
block_line cat plan block = codes "block " ++ decimal block ++ codes ": " ++ block_members cat plan block ++ codes "\n"

-- the blocks, and then the edges between them: edge FROM TO
abbrev pub blocks_text : CatalogueState → PlanParts → List ℕ
blocks_text cat plan = flat_map (block_line cat plan) (range_with_len 0 plan.blocks) ++ flat_map (edge_line (codes "edge")) plan.edges

-- ---- all of it

-- the slices of all procedures, and then the blocks
abbrev pub explain_text : CatalogueState → List LocalGraph → PlanParts → List ℕ
explain_text cat graphs plan = procs_text cat.procs graphs ++ blocks_text cat plan
