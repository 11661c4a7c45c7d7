-- The blocks of a plan keep what has to be kept in order.
use Rattle.std.proofs.Common.{◌≡◌, ◌⊎◌, ℕ, ◌<◌, ◌≤◌, true, List, length, Option, Some, None, refl, subst, inl, inr, arith}
use Rattle.std.specs.Prelude.{slice_get}
use Rattle.std.proofs.lemmas.Bool.{cases_eq}
use Rattle.std.proofs.lemmas.Option.{slice_get_within, same_Some}
use Rattle.pac_value.specs.declared.values.Ty.{Ty}
use Rattle.pac_value.specs.declared.values.Ty.TheVariants.{Int as IntTy, Text as TextTy, Bool as BoolTy}
use Rattle.pac_value.specs.Scopes.{Scope, is_wanted}
use Rattle.pac_value.specs.Expressions.{type_in}
use Rattle.pac_ops.specs.declared.shapes.TableTypes.{TableTypes}
use Rattle.pac_ops.specs.declared.program.OpKind.{OpKind}
use Rattle.pac_ops.specs.declared.program.OpKind.TheVariants.{Let, Cond, Read, Has, Put, SetCol, Delete, AbortIf}
use Rattle.pac_ops.specs.declared.program.FlatOp.{FlatOp}
use Rattle.pac_ops.specs.declared.program.Program.{Program}
use Rattle.pac_ops.specs.Uses.{op_uses, defined_variable, accessed_table, Defines}
use Rattle.pac_ops.specs.Dependencies.{Uses, Accesses, IsFlow}
use Rattle.pac_ops.specs.Programs.{IsWellFormedProgram, IsWellTyped, IsDefinedBefore, IsPrefixOf, key_type_in, scope_in}
use Rattle.pac_graph.specs.Groups.{AreGroups}
use Rattle.pac_graph.proofs.GraphLemmas.{one_edge}
use Rattle.pac_base.proofs.ItemLemmas.{there, item, inside, mapped_some}
use Rattle.pac_plan.specs.declared.parts.PlanParts.{PlanParts}
use Rattle.pac_plan.specs.Nodes.{Node, Operation, VirtualWrite, IsNode, ComesBefore, Flows, NodeAccesses, Conflicts, IsNodeLink}
use Rattle.pac_plan.specs.Analysis.{IsPlan, block_in, HasBlockEdge}
use Rattle.pac_plan.specs.WellFormed.{KeepsOrder}

-- what is wanted is a type
wanted_some : (a b : Option Ty) → is_wanted a b ≡ true → (ty : Ty) × (b ≡ Some ty)
wanted_some (Some IntTy) (Some ty) h = (ty, refl)
wanted_some (Some TextTy) (Some ty) h = (ty, refl)
wanted_some (Some BoolTy) (Some ty) h = (ty, refl)
wanted_some None (Some ty) h = (ty, refl)
wanted_some (Some IntTy) None h = cc
wanted_some (Some TextTy) None h = cc
wanted_some (Some BoolTy) None h = cc
wanted_some None None h = cc

key_there : (tables : List TableTypes) (t : ℕ) (a : Option Ty) → is_wanted a (key_type_in tables t) ≡ true → t < length tables
key_there tables t a h =
    let key = wanted_some a (key_type_in tables t) h in
    let table = mapped_some (λ (table : TableTypes). table.key) (slice_get tables t) key.0 key.1 in
    slice_get_within tables t table.0 table.1

-- the table of an operation that is well typed is there
pub table_there : (tables : List TableTypes) (scope : Scope) (kind : OpKind) (t : ℕ) → IsWellTyped tables scope kind → accessed_table kind ≡ Some t → t < length tables
table_there tables scope (Let x e) t typed is = cc
table_there tables scope (Cond x e) t typed is = cc
table_there tables scope (Read x s k c d) t typed is = subst (λ n. n < length tables) (same_Some s t is) (key_there tables s (type_in scope k) typed.0)
table_there tables scope (Has x s k) t typed is = subst (λ n. n < length tables) (same_Some s t is) (key_there tables s (type_in scope k) typed)
table_there tables scope (Put s k es) t typed is = subst (λ n. n < length tables) (same_Some s t is) (key_there tables s (type_in scope k) typed.0)
table_there tables scope (SetCol s k c e) t typed is = subst (λ n. n < length tables) (same_Some s t is) (key_there tables s (type_in scope k) typed.0)
table_there tables scope (Delete s k) t typed is = subst (λ n. n < length tables) (same_Some s t is) (key_there tables s (type_in scope k) typed)
table_there tables scope (AbortIf e) t typed is = cc

-- the table that an operation of a well-formed program accesses is there
pub accessed_there : (tables : List TableTypes) (program : Program) (i t : ℕ) → IsWellFormedProgram tables program → Accesses program.ops i t → t < length tables
accessed_there tables program i t well_formed accesses =
    let op = item program.ops i (λ (op : FlatOp). accessed_table op.kind ≡ Some t) accesses in
    table_there tables (scope_in program.vars) op.0.kind t (well_formed.typed i op.0 op.1) op.2

module _ (parts : PlanParts) (is : IsPlan parts) where
  groups : AreGroups (IsNode parts.programs (length parts.tables)) ComesBefore (IsNodeLink parts.programs (length parts.tables)) (Flows parts.programs) (block_in parts) parts.blocks parts.edges
  groups = is.analysis.groups

  -- flow stays in a block or follows an edge
  along_flow : (m n : Node) → Flows parts.programs m n → (block_in parts m ≡ block_in parts n) ⊎ HasBlockEdge parts (block_in parts m) (block_in parts n)
  along_flow m n flow = elim (cases_eq (block_in parts m) (block_in parts n)) [
    | inl same ↦ inl same
    | inr apart ↦ inr ((groups.edges (block_in parts m) (block_in parts n)).1 (apart, (m, n, flow, refl, refl)))
  ]

  module _ (p : ℕ) (program : Program) (at : slice_get parts.programs p ≡ Some program) where
    well_formed : IsWellFormedProgram parts.tables program
    well_formed = is.programs p program at

    -- what defines a variable comes before what uses it
    before : (i j x : ℕ) → Defines program.ops i x → Uses program.ops j x → i < j
    before i j x defines uses = go (well_formed.used j x user.0 user.1 user.2)
      where
        user : (op : FlatOp) × (slice_get program.ops j ≡ Some op) × (op_uses x op ≡ true)
        user = item program.ops j (λ (op : FlatOp). op_uses x op ≡ true) uses

        go : (x < length program.params) ⊎ IsDefinedBefore program.ops j user.0 x → i < j
        go (inl param) = absurd (let after : length program.params ≤ x = well_formed.after i x defines in omega (arith, after, param))
        go (inr (k, lt, found)) =
            let op = item program.ops k (λ (op : FlatOp). (defined_variable op.kind ≡ Some x) × IsPrefixOf op.conds user.0.conds) found in
            let same : k ≡ i = well_formed.once k i x (there program.ops k op.0 (λ (o : FlatOp). defined_variable o.kind ≡ Some x) op.1 op.2.0) defines in
            omega (arith, lt, same)

    flow : (i j x : ℕ) → Defines program.ops i x → Uses program.ops j x → Flows parts.programs (Operation p i) (Operation p j)
    flow i j x defines uses = (refl, there parts.programs p program (λ (q : Program). IsFlow q.ops i j) at (before i j x defines uses, (x, defines, uses)))

    node : (i : ℕ) → i < length program.ops → IsNode parts.programs (length parts.tables) (Operation p i)
    node i lt = there parts.programs p program (λ (q : Program). i < length q.ops) at lt

    home : (i t : ℕ) → Accesses program.ops i t → block_in parts (Operation p i) ≡ block_in parts (VirtualWrite t)
    home i t accesses = (groups.same (Operation p i) (VirtualWrite t) (node i (inside program.ops i (λ (op : FlatOp). accessed_table op.kind ≡ Some t) accesses)) in_tables).1 (one_edge (Operation p i) (VirtualWrite t) (inr to), one_edge (VirtualWrite t) (Operation p i) (inr from))
      where
        in_tables : t < length parts.tables
        in_tables = accessed_there parts.tables program i t well_formed accesses

        op_accesses : NodeAccesses parts.programs (length parts.tables) (Operation p i) t
        op_accesses = there parts.programs p program (λ (q : Program). Accesses q.ops i t) at accesses

        to : Conflicts parts.programs (length parts.tables) (Operation p i) (VirtualWrite t)
        to = ((t, op_accesses, (refl, in_tables)), inr tt)

        from : Conflicts parts.programs (length parts.tables) (VirtualWrite t) (Operation p i)
        from = ((t, (refl, in_tables), op_accesses), inl tt)

  pub order_kept : KeepsOrder parts
  order_kept = record {
    once = λ p i j x program at. (is.programs p program at).once i j x;
    flows = λ p i j x program at defines uses. (before p program at i j x defines uses, along_flow (Operation p i) (Operation p j) (flow p program at i j x defines uses));
    up = λ b c edge. groups.rises b c edge;
    homes = λ p i t program at accesses. home p program at i t accesses;
    below = λ p i program at lt. groups.below (Operation p i) (node p program at i lt);
  }
