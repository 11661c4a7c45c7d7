-- What the texts of groups hold while members are added to them.
use Rattle.std.specs.Prelude.{◌≡◌, ℕ, List, [], ◌∷◌, ◌++◌, map, flat_map, length, take, slice_index, codes, Vec}
use Rattle.std.specs.Global.{Global}
use Rattle.std.specs.List.{range_with_len}
use Rattle.pac_plan.specs.declared.parts.PlanParts.{PlanParts}
use Rattle.pac_plan.specs.Nodes.{Node, VirtualWrite}
use Rattle.pac_plan.specs.Analysis.{block_in}
use Rattle.pac_types.specs.Typing.{CatalogueState}
use Rattle.pac_report.specs.Explain.{members, slice_member, operation_nodes, node_text, listed_texts}

-- that many lists hold the texts of the groups from 0 on
abbrev pub Hold : List (Vec ℕ Global) → (ℕ → List ℕ) → ℕ → Type 0
Hold texts text count = map (λ list. list.items) texts ≡ map text (range_with_len 0 count)

-- no group has a text
abbrev pub no_text : ℕ → List ℕ
no_text group = []

-- those of the first operations that are in a slice
abbrev pub first_slice_members : List ℕ → ℕ → ℕ → List ℕ
first_slice_members slice_of count slice = flat_map slice_member (members (slice_index slice_of) (range_with_len 0 count) slice)

-- those of the nodes that are in a block
abbrev pub listed_members : CatalogueState → PlanParts → List Node → ℕ → List ℕ
listed_members cat plan nodes block = listed_texts (map (node_text cat) (members (block_in plan) nodes block))

-- the tables, and the operations of the first programs
abbrev pub first_nodes : PlanParts → ℕ → List Node
first_nodes plan count = map VirtualWrite (range_with_len 0 (length plan.tables)) ++ operation_nodes 0 (take count plan.programs)

-- a text after those that stand in a list
abbrev pub with_listed : List ℕ → List ℕ → List ℕ
with_listed [] text = text
with_listed (b ∷ bs) text = (b ∷ bs) ++ codes ", " ++ text
