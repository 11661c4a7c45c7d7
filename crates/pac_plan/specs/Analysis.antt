-- The blocks of all procedures, and what a plan is.
use Rattle.std.specs.Prelude.{◌≡◌, ℕ, ◌≤◌, [], length, map, slice_index, slice_index_or, Contains}
use Rattle.pac_graph.specs.Groups.{AreGroups}
use Rattle.pac_ops.specs.Programs.{AreWellFormedPrograms, AreWellFormedTables}
use Rattle.pac_value.specs.declared.limits.TheConstants.{MAX_PROCS, MAX_TABLES}
use Rattle.pac_plan.specs.declared.parts.PlanParts.{PlanParts}
use Rattle.pac_plan.specs.Nodes.{Node, Operation, VirtualWrite, IsNode, ComesBefore, Flows, IsNodeLink}

-- the block of a node; the home of a table is that of its virtual write
abbrev pub block_in : PlanParts → Node → ℕ
block_in parts (Operation p i) = slice_index (slice_index_or parts.block_of p []) i
block_in parts (VirtualWrite t) = slice_index parts.homes t

-- the blocks of operations, the homes of tables and the edges are those of the analysis: blocks are the groups that links
-- make of the nodes, and the edges between blocks are those of flow
pub record IsAnalysis (parts : PlanParts) : Type 0 where
  pub each : map length parts.block_of ≡ map (λ program. length program.ops) parts.programs
  pub homed : length parts.homes ≡ length parts.tables
  pub groups : AreGroups (IsNode parts.programs (length parts.tables)) ComesBefore (IsNodeLink parts.programs (length parts.tables)) (Flows parts.programs) (block_in parts) parts.blocks parts.edges

-- the parts are a plan's
pub record IsPlan (parts : PlanParts) : Type 0 where
  pub few_programs : length parts.programs ≤ MAX_PROCS
  pub few_tables : length parts.tables ≤ MAX_TABLES
  pub tables : AreWellFormedTables parts.tables
  pub programs : AreWellFormedPrograms parts.tables parts.programs
  pub analysis : IsAnalysis parts

-- an edge leads from a block to another
abbrev pub HasBlockEdge : PlanParts → ℕ → ℕ → Type 0
HasBlockEdge parts b c = Contains parts.edges (b, c)
