-- The faults of a tree stand in the order of its offsets, and no two at one offset.
use Rattle.std.proofs.Common.{◌≡◌, ◌≤◌, ◌<◌, ℕ, suc, ◌+◌, Bool, true, false, not, List, [], ◌∷◌, ◌++◌, length, map, Option, Some, None, refl, sym, ap, subst, ◌∙◌, arith, append_assoc, inl, inr, ◌⊎◌}
use Rattle.std.specs.List.{flat_map}
use Rattle.std.proofs.lemmas.List.{append-nil}
use Rattle.pac_syntax.specs.declared.tree.NameNode.{NameNode}
use Rattle.pac_syntax.specs.declared.tree.ColumnNode.{ColumnNode}
use Rattle.pac_syntax.specs.declared.tree.TableNode.{TableNode}
use Rattle.pac_syntax.specs.declared.tree.ProcNode.{ProcNode}
use Rattle.pac_syntax.specs.declared.tree.Tree.{Tree}
use Rattle.pac_syntax.specs.declared.tree.ExprNode.{ExprNode}
use Rattle.pac_syntax.specs.declared.tree.StmtNode.{StmtNode}
use Rattle.pac_syntax.specs.declared.tree.StmtNode.TheOpen as form
use Rattle.pac_syntax.specs.declared.tree.StmtNode.TheOpen.{StmtNode-F}
use Rattle.pac_syntax.specs.declared.tree.StmtNode.TheViews.{roll-StmtNode}
use Rattle.pac_syntax.specs.declared.tree.StmtNode.TheFolds.{fold-roll-StmtNode, ind-StmtNode, map-StmtNode}
use Rattle.pac_syntax.specs.Order.{NodeOffset, Own, Shared, Climbs, Ascends, IsOrdered, expr_offsets, expr_offsets_step, all_offsets, stmt_offsets, stmt_offsets_step, stmts_offsets, columns_offsets, table_offsets, proc_offsets, tree_offsets}
use Rattle.pac_syntax.proofs.NodeForms as forms
use Rattle.pac_value.specs.declared.values.Ty.{Ty}
use Rattle.pac_types.specs.declared.table.Table.{Table}
use Rattle.pac_types.specs.declared.type_error.TypeFault.{TypeFault}
use Rattle.pac_types.specs.declared.type_error.TypeFaultKind.{TypeFaultKind}
use Rattle.pac_types.specs.declared.type_error.TypeFaultKind.TheVariants.{UnknownName, WrongType, OutOfScope}
use Rattle.pac_types.specs.WellFormed.{column_types}
use Rattle.pac_types.specs.Numbering.{variables, table_of}
use Rattle.pac_types.specs.Faults.{fault_if, Known, name_faults, wrong_type, placed, Judged, judge_step, judged, is_left, is_test, unknown, column_faults, count_faults, wrong_count, values_faults, Ruled, all_faults, rule_step, ruled, cell_faults, names_faults, tables_faults, params_known, proc_faults, procs_faults, tree_faults, IsAmong}
use Rattle.pac_syntax.proofs.NodeForms.{by_nodes}
use Rattle.pac_types.proofs.CleanLemmas.{TypedIsClean, clean}

abbrev pub offsets_of : List TypeFault → List ℕ
offsets_of faults = map (λ fault. fault.at) faults

lower : (low l : ℕ) (ps : List NodeOffset) → low ≤ l → Ascends l ps → Ascends low ps
lower low l [] le h = tt
lower low l (Own p ∷ ps) le h = (omega (arith, le, h.0), h.1)
lower low l (Shared p ∷ ps) le h = (omega (arith, le, h.0), h.1)

skip : (low : ℕ) (ps more : List NodeOffset) → Ascends low (ps ++ more) → Ascends low more
skip low [] more h = h
skip low (Own p ∷ ps) more h = lower low (suc p) more (omega (arith, h.0)) (skip (suc p) ps more h.1)
skip low (Shared p ∷ ps) more h = lower low p more h.0 (skip p ps more h.1)

-- These faults stand along these offsets: where the offsets ascend, and what comes after them climbs, so do the faults, and
-- no two of them stand at one offset.
pub record Along (faults : List TypeFault) (offsets : List NodeOffset) : Type 0 where
  pub by : (low : ℕ) (more : List NodeOffset) (others : List ℕ) → Ascends low (offsets ++ more) → ((l : ℕ) → Ascends l more → Climbs l others) → Climbs low (offsets_of faults ++ others)

pub none_along : (offsets : List NodeOffset) → Along [] offsets
none_along offsets = record { by = λ low more others h k. k low (skip low offsets more h) }

pub one_along : (b : Bool) (at : ℕ) (kind : TypeFaultKind) → Along (fault_if b at kind) (Own at ∷ [])
one_along true at kind = record { by = λ low more others h k. (h.0, k (suc at) h.1) }
one_along false at kind = none_along (Own at ∷ [])

offsets-append : (a b : List TypeFault) → offsets_of (a ++ b) ≡ offsets_of a ++ offsets_of b
offsets-append [] b = refl
offsets-append (x ∷ a) b = ap (λ zs. x.at ∷ zs) (offsets-append a b)

pub both_along : (a b : List TypeFault) (p q : List NodeOffset) → Along a p → Along b q → Along (a ++ b) (p ++ q)
both_along a b p q f g = record {
  by = λ low more others h k.
      subst (λ zs. Climbs low zs) (sym (append_assoc (offsets_of a) (offsets_of b) others) ∙ ap (λ zs. zs ++ others) (sym (offsets-append a b)))
      (f.by low (q ++ more) (offsets_of b ++ others) (subst (λ zs. Ascends low zs) (append_assoc p q more) h) (λ l i. g.by l more others i k));
}

-- ---- expressions

-- The faults of an expression stand along its offsets. It begins at its own offset, and what is after it is after that.
pub record Stood (j : Judged) (offsets : List NodeOffset) : Type 0 where
  pub along : Along j.faults offsets
  pub past : (low : ℕ) (more : List NodeOffset) → Ascends low (offsets ++ more) → (low ≤ j.at) × Ascends (suc j.at) more

-- a fault at an expression's own offset, where it has none inside
own_along : (j : Judged) (offsets : List NodeOffset) → Stood j offsets → (b : Bool) (kind : TypeFaultKind) → Along (fault_if b j.at kind) offsets
own_along j offsets s true kind = record { by = λ low more others h k. let p = s.past low more h in (p.0, k (suc j.at) p.1) }
own_along j offsets s false kind = none_along offsets

pub placed_along : (takes : Ty → Bool) (j : Judged) (offsets : List NodeOffset) → TypedIsClean j → Stood j offsets → Along (placed takes j) offsets
placed_along takes j offsets clean s = go j.ty refl
  where
    go : (o : Option Ty) → j.ty ≡ o → Along (wrong_type takes j.at o ++ j.faults) offsets
    go None e = s.along
    go (Some ty) e =
        let wrong : List TypeFault = fault_if (not (takes ty)) j.at WrongType in
        subst (λ (zs : List TypeFault). Along zs offsets) (sym (append-nil wrong) ∙ ap (λ (zs : List TypeFault). wrong ++ zs) (sym (clean ty e))) (own_along j offsets s (not (takes ty)) WrongType)

name_along : (at : ℕ) (offset : Option ℕ) (ty : Option (Option Ty)) → Along (name_faults at offset ty) (Own at ∷ [])
name_along at None ty = one_along true at UnknownName
name_along at (Some offset) None = one_along true at OutOfScope
name_along at (Some offset) (Some ty) = none_along (Own at ∷ [])

-- what stands after an offset stands along it too
after : (at : NodeOffset) (a : List TypeFault) (ps : List NodeOffset) → Along a ps → Along a (at ∷ ps)
after at a ps f = both_along [] a (at ∷ []) ps (none_along (at ∷ [])) f

-- an operation begins where its first operand does, or before
binary_past : (at : ℕ) (l : Judged) (ps qs : List NodeOffset) → Stood l ps → (low : ℕ) (more : List NodeOffset) → Ascends low ((Shared at ∷ (ps ++ qs)) ++ more) → (low ≤ at) × Ascends (suc at) more
binary_past at l ps qs s low more h =
    let p = s.past at (qs ++ more) (subst (λ (zs : List NodeOffset). Ascends at zs) (append_assoc ps qs more) h.1) in
    (h.0, lower (suc at) (suc l.at) more (omega (arith, p.0)) (skip (suc l.at) qs more p.1))

module _ (names : List (List ℕ)) (known : Known) where
  stood-at : (e : ExprNode) (j : Judged) (ps : List NodeOffset) → judged names known e ≡ j → expr_offsets e ≡ ps → Stood j ps → Stood (judged names known e) (expr_offsets e)
  stood-at e j ps p q h = subst (λ z. Stood z (expr_offsets e)) (sym p) (subst (λ z. Stood j z) (sym q) h)

  pub stood : (e : ExprNode) → Stood (judged names known e) (expr_offsets e)
  stood = by_nodes (λ e. Stood (judged names known e) (expr_offsets e))
      (λ l. stood-at _ _ _ (forms.fold-Literal Judged (judge_step names known) l) (forms.fold-Literal (List NodeOffset) expr_offsets_step l) (record { along = none_along (Own l.at ∷ []); past = λ low more h. h }))
      (λ n. stood-at _ _ _ (forms.fold-Name Judged (judge_step names known) n) (forms.fold-Name (List NodeOffset) expr_offsets_step n) (record { along = name_along n.at _ _; past = λ low more h. h }))
      (λ at op l r p q. stood-at _ _ _ (forms.fold-Binary Judged (judge_step names known) at op l r) (forms.fold-Binary (List NodeOffset) expr_offsets_step at op l r) (record {
        along = after (Shared at) _ _ (both_along _ _ _ _ (placed_along (is_left op) _ _ (clean names known l) p) (placed_along _ _ _ (clean names known r) q));
        past = λ low more h. binary_past at (judged names known l) (expr_offsets l) (expr_offsets r) p low more h;
      }))
      (λ at e p. stood-at _ _ _ (forms.fold-Not Judged (judge_step names known) at e) (forms.fold-Not (List NodeOffset) expr_offsets_step at e) (record {
        along = after (Own at) _ _ (placed_along is_test _ _ (clean names known e) p);
        past = λ low more h. (h.0, skip (suc at) (expr_offsets e) more h.1);
      }))

  pub expr_along : (e : ExprNode) → Along (judged names known e).faults (expr_offsets e)
  expr_along e = (stood e).along

  pub here_along : (takes : Ty → Bool) (e : ExprNode) → Along (placed takes (judged names known e)) (expr_offsets e)
  here_along takes e = placed_along takes _ _ (clean names known e) (stood e)

  pub values_along : (es : List ExprNode) (tys : List Ty) → Along (values_faults (judged names known) es tys) (flat_map expr_offsets es)
  values_along [] tys = none_along []
  values_along (e ∷ es) [] = both_along _ _ _ _ (expr_along e) (values_along es [])
  values_along (e ∷ es) (ty ∷ tys) = both_along _ _ _ _ (here_along _ e) (values_along es tys)

-- ---- statements

unknown_along : (o : Option ℕ) (at : ℕ) → Along (unknown o at) (Own at ∷ [])
unknown_along None at = one_along true at UnknownName
unknown_along (Some n) at = none_along (Own at ∷ [])

column_along : (tables : List Table) (o : Option ℕ) (column : NameNode) → Along (column_faults tables o column) (Own column.at ∷ [])
column_along tables None column = none_along (Own column.at ∷ [])
column_along tables (Some t) column = unknown_along _ column.at

-- an unknown table, or another number of values than it has columns
table_along : (tables : List Table) (o : Option ℕ) (at values : ℕ) (a : List TypeFault) (p : List NodeOffset) → Along a p → Along (unknown o at ++ (wrong_count tables o at values ++ a)) (Own at ∷ p)
table_along tables None at values a p f = both_along (fault_if true at UnknownName) a (Own at ∷ []) p (one_along true at UnknownName) f
table_along tables (Some t) at values a p f = both_along (count_faults at values (length (column_types tables t))) a (Own at ∷ []) p (one_along _ at _) f

module _ (tables : List Table) (names : List (List ℕ)) where
  abbrev Stood-node : Type 0
  Stood-node = (node : StmtNode) × ((known : Known) → Along ((ruled tables names node).faults known) (stmt_offsets node))

  abbrev nodes_of : List Stood-node → List StmtNode
  nodes_of qs = map (λ q. q.0) qs

  run_along : (qs : List Stood-node) (known : Known) → Along (all_faults (map (ruled tables names) (nodes_of qs)) known) (all_offsets (map stmt_offsets (nodes_of qs)))
  run_along [] known = none_along []
  run_along (q ∷ qs) known = both_along _ _ _ _ (q.1 known) (run_along qs _)

  cell_along : (known : Known) (table : NameNode) (key : ExprNode) → Along (cell_faults tables (judged names known) table key) (Own table.at ∷ expr_offsets key)
  cell_along known table key = both_along _ _ (Own table.at ∷ []) _ (unknown_along _ table.at) (here_along names known _ key)

  step_along : (y : StmtNode-F Stood-node) (known : Known) → Along ((rule_step tables names (map-StmtNode StmtNode Ruled (ruled tables names) (map-StmtNode Stood-node StmtNode (λ q. q.0) y))).faults known)
      (stmt_offsets_step (map-StmtNode StmtNode (List NodeOffset) stmt_offsets (map-StmtNode Stood-node StmtNode (λ q. q.0) y)))
  step_along (form.Let name value) known = both_along _ _ (Own name.at ∷ []) _ (one_along _ name.at _) (expr_along names known value)
  step_along (form.Read name table key column default) known = both_along _ _ (Own name.at ∷ []) _ (one_along _ name.at _)
      (both_along _ _ (Own table.at ∷ expr_offsets key) _ (cell_along known table key) (both_along _ _ (Own column.at ∷ []) _ (column_along tables _ column) (one_along _ default.at _)))
  step_along (form.Has name table key) known = both_along _ _ (Own name.at ∷ []) _ (one_along _ name.at _) (cell_along known table key)
  step_along (form.Put table key values) known = table_along tables _ table.at _ _ _ (both_along _ _ _ _ (here_along names known _ key) (values_along names known values _))
  step_along (form.Set table key column value) known = both_along _ _ (Own table.at ∷ expr_offsets key) _ (cell_along known table key) (both_along _ _ (Own column.at ∷ []) _ (column_along tables _ column) (here_along names known _ value))
  step_along (form.Delete table key) known = cell_along known table key
  step_along (form.AbortIf test) known = here_along names known _ test
  step_along (form.If test first second) known = both_along _ _ _ _ (here_along names known _ test) (both_along _ _ _ _ (run_along first known) (run_along second _))
  step_along (form.For name from to body) known = both_along _ _ (Own name.at ∷ []) _ (one_along _ name.at _) (run_along body _)

  pub stmt_along : (node : StmtNode) (known : Known) → Along ((ruled tables names node).faults known) (stmt_offsets node)
  stmt_along = ind-StmtNode (λ node. (known : Known) → Along ((ruled tables names node).faults known) (stmt_offsets node)) (λ x y is. subst (λ z. (known : Known) → Along ((ruled tables names (roll-StmtNode z)).faults known) (stmt_offsets (roll-StmtNode z))) is
      (subst (λ (k : Ruled × List NodeOffset). (known : Known) → Along (k.0.faults known) k.1)
      (λ i. (sym (fold-roll-StmtNode Ruled (rule_step tables names) (map-StmtNode Stood-node StmtNode (λ q. q.0) y)) i, sym (fold-roll-StmtNode (List NodeOffset) stmt_offsets_step (map-StmtNode Stood-node StmtNode (λ q. q.0) y)) i)) (step_along y)))

  pub body_along : (nodes : List StmtNode) (known : Known) → Along (all_faults (map (ruled tables names) nodes) known) (stmts_offsets nodes)
  body_along [] known = none_along []
  body_along (n ∷ ns) known = both_along _ _ _ _ (stmt_along n known) (body_along ns _)

-- ---- trees

columns_along : (names : List (List ℕ)) (offset : ℕ) (nodes : List ColumnNode) → Along (names_faults names offset nodes) (columns_offsets nodes)
columns_along names offset [] = none_along []
columns_along names offset (n ∷ ns) = both_along _ _ (Own n.name.at ∷ []) _ (one_along _ n.name.at _) (columns_along names (offset + 1) ns)

tables_along : (names : List (List ℕ)) (offset : ℕ) (nodes : List TableNode) → Along (tables_faults names offset nodes) (flat_map table_offsets nodes)
tables_along names offset [] = none_along []
tables_along names offset (n ∷ ns) = both_along _ _ (table_offsets n) _ (both_along _ _ (Own n.name.at ∷ []) _ (one_along _ n.name.at _) (columns_along _ 0 n.columns)) (tables_along names (offset + 1) ns)

proc_along : (tables : List Table) (node : ProcNode) → Along (proc_faults tables node) (columns_offsets node.params ++ stmts_offsets node.body)
proc_along tables node = both_along _ _ _ _ (columns_along (variables node) 0 node.params) (body_along tables (variables node) node.body (params_known node.params))

procs_along : (tables : List Table) (names : List (List ℕ)) (offset : ℕ) (nodes : List ProcNode) → Along (procs_faults tables names offset nodes) (flat_map proc_offsets nodes)
procs_along tables names offset [] = none_along []
procs_along tables names offset (n ∷ ns) = both_along _ _ (proc_offsets n) _ (both_along _ _ (Own n.name.at ∷ []) _ (one_along _ n.name.at _) (proc_along tables n)) (procs_along tables names (offset + 1) ns)

-- where the offsets of a tree ascend, those of its faults climb
pub faults_climb : (tree : Tree) → IsOrdered tree → Climbs 0 (offsets_of (tree_faults tree) ++ [])
faults_climb tree ordered = (both_along _ _ _ _ (tables_along (map (λ node. node.name.name) tree.tables) 0 tree.tables) (procs_along (map table_of tree.tables) (map (λ node. node.name.name) tree.procs) 0 tree.procs)).by 0 [] [] (subst (λ ps. Ascends 0 ps) (sym (append-nil (tree_offsets tree))) ordered) (λ l h. tt)

among_least : (low : ℕ) (faults : List TypeFault) (f : TypeFault) → Climbs low (offsets_of faults ++ []) → IsAmong faults f → low ≤ f.at
among_least low [] f h i = absurd i
among_least low (g ∷ gs) f h (inl e) = omega (arith, h.0, ap (λ (z : TypeFault). z.at) e)
among_least low (g ∷ gs) f h (inr i) = omega (arith, h.0, among_least (suc g.at) gs f h.1 i)

-- of climbing faults each but the first stands after it
pub first_before : (first : TypeFault) (faults rest : List TypeFault) → faults ≡ first ∷ rest → Climbs 0 (offsets_of faults ++ []) → (other : TypeFault) → IsAmong faults other → (first ≡ other) ⊎ (first.at < other.at)
first_before first faults rest is h other i = go (subst (λ fs. Climbs 0 (offsets_of fs ++ [])) is h) (subst (λ fs. IsAmong fs other) is i)
  where
    go : Climbs 0 (offsets_of (first ∷ rest) ++ []) → (first ≡ other) ⊎ IsAmong rest other → (first ≡ other) ⊎ (first.at < other.at)
    go h (inl e) = inl e
    go h (inr i) = inr (among_least (suc first.at) rest other h.1 i)
