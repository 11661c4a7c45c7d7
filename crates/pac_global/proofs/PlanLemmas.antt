-- The parts that are found are those of the analysis, and edges between blocks make no cycle.
use Rattle.std.proofs.Common.{◌≡◌, ◌↔◌, ℕ, ◌+◌, ◌<◌, ◌≤◌, List, map, length, get_or, Some, sym, ◌∙◌, subst, true, arith}
use Rattle.std.specs.Prelude.{slice_get, slice_index, All}
use Rattle.std.proofs.lemmas.List.{length-map}
use Rattle.std.proofs.lemmas.Option.{slice_get-map, slice_get_within, get_or_from_slice_get}
use Rattle.pac_ops.specs.declared.program.Program.{Program}
use Rattle.pac_ops.specs.Dependencies.{Accesses}
use Rattle.pac_ops.specs.Programs.{AreWellFormedPrograms, AreWellFormedTables, IsWellFormedTableTypes, IsStoredType, count_ops}
use Rattle.pac_value.specs.declared.values.Ty.{Ty}
use Rattle.pac_value.specs.declared.values.Ty.TheVariants.{Int as IntTy, Text as TextTy, Bool as BoolTy}
use Rattle.pac_syntax.specs.Limits.{is_stored_type}
use Rattle.pac_types.specs.declared.table.Column.{Column}
use Rattle.pac_types.specs.declared.table.Table.{Table}
use Rattle.pac_types.specs.Fits.{shape}
use Rattle.pac_types.specs.Typing.{IsWellFormedTable}
use Rattle.pac_base.proofs.ItemLemmas.{mapped_some}
use Rattle.pac_graph.specs.Graph.{Graph, HasEdge, Reach, Here, Onward}
use Rattle.pac_graph.specs.Groups.{AreGroups}
use Rattle.pac_graph.proofs.DrawingLemmas.{drawn_groups}
use Rattle.pac_plan.specs.declared.parts.PlanParts.{PlanParts}
use Rattle.pac_plan.specs.Nodes.{Node, Operation, VirtualWrite, IsNode, ComesBefore, Flows, IsNodeLink}
use Rattle.pac_plan.specs.Analysis.{IsAnalysis, block_in, HasBlockEdge}
use Rattle.pac_plan.proofs.OrderLemmas.{accessed_there}
use Rattle.pac_global.specs.Drawing.{number_in, HasEdgeOf, AreBlocksOf}
use Rattle.pac_global.proofs.DrawnLemmas.{drawing}

stored : (ty : Ty) → is_stored_type ty ≡ true → IsStoredType ty
stored IntTy h e = cc
stored TextTy h e = cc
stored BoolTy h e = cc

-- an item of a list that passes everywhere
pub passes : {A : Type 0} (P : A → Type 0) (xs : List A) (i : ℕ) (x : A) → All P xs → slice_get xs i ≡ Some x → P x
passes P xs i x all at = subst P (get_or_from_slice_get xs i x x at) (all i x (slice_get_within xs i x at))

-- the types of a catalogue's tables are well-formed
pub well_formed_tables : (tables : List Table) → All IsWellFormedTable tables → AreWellFormedTables (map shape tables)
well_formed_tables tables all t types at = subst IsWellFormedTableTypes table.2 (record {
  some = omega (arith, well_formed.some, size);
  few = omega (arith, well_formed.few, size);
  key = stored table.0.key well_formed.key;
  columns = λ c ty in_columns. (
      let column = mapped_some (λ (column : Column). column.ty) (slice_get table.0.columns c) ty (sym (slice_get-map (λ (column : Column). column.ty) table.0.columns c) ∙ in_columns) in
      subst IsStoredType column.2 (stored column.0.ty (passes (λ (column : Column). is_stored_type column.ty ≡ true) table.0.columns c column.0 well_formed.columns column.1)));
})
  where
    table : (table : Table) × (slice_get tables t ≡ Some table) × (shape table ≡ types)
    table = mapped_some shape (slice_get tables t) types (sym (slice_get-map shape tables t) ∙ at)

    well_formed : IsWellFormedTable table.0
    well_formed = passes IsWellFormedTable tables t table.0 all table.1

    size : length (shape table.0).columns ≡ length table.0.columns
    size = length-map table.0.columns (λ (column : Column). column.ty)

module _ (parts : PlanParts) (g : Graph) (numbers : List ℕ) (well_formed : AreWellFormedPrograms parts.tables parts.programs) where
  in_range : (p i t : ℕ) (program : Program) → slice_get parts.programs p ≡ Some program → Accesses program.ops i t → t < length parts.tables
  in_range p i t program at accesses = accessed_there parts.tables program i t (well_formed p program at) accesses

  pub is_analysis : g.nodes ≡ count_ops parts.programs + length parts.tables → ((u v : ℕ) → HasEdge g u v ↔ ((p : ℕ) × HasEdgeOf parts.programs p u v))
      → AreGroups (λ u. u < g.nodes) ◌<◌ (HasEdge g) (HasEdge g) (slice_index numbers) parts.blocks parts.edges
      → AreBlocksOf parts.programs numbers parts.block_of
      → length parts.homes ≡ length parts.tables → ((t : ℕ) → t < length parts.tables → get_or parts.homes t 0 ≡ get_or numbers (count_ops parts.programs + t) 0)
      → IsAnalysis parts
  is_analysis nodes edges groups blocks homed homes = record {
    each = blocks.each;
    homed = homed;
    groups = drawn_groups g (IsNode parts.programs (length parts.tables)) ComesBefore (IsNodeLink parts.programs (length parts.tables)) (Flows parts.programs) (number_in parts.programs)
        (drawing parts.programs (length parts.tables) in_range g nodes edges) numbers parts.blocks parts.edges groups (block_in parts) numbered;
  }
    where
      numbered : (n : Node) → IsNode parts.programs (length parts.tables) n → block_in parts n ≡ get_or numbers (number_in parts.programs n) 0
      numbered (Operation p i) node = blocks.is p i node
      numbered (VirtualWrite t) node = homes t node

module _ (parts : PlanParts) (is : IsAnalysis parts) where
  pub edges_rise : (b c : ℕ) → HasBlockEdge parts b c → b < c
  edges_rise b c e = is.groups.rises b c e

  on_and_on : {b c : ℕ} → Reach (HasBlockEdge parts) b c → b ≤ c
  on_and_on (Here b) = omega arith
  on_and_on (Onward a b c e rest) = omega (arith, edges_rise a b e, on_and_on rest)

  pub no_way_back : (b c : ℕ) → HasBlockEdge parts b c → Reach (HasBlockEdge parts) c b → ⊥
  no_way_back b c e back = omega (arith, edges_rise b c e, on_and_on back)
