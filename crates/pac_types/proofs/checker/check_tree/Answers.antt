-- What was found is the tree's catalogue, and the fault that is met is the first.
use Rattle.std.proofs.Common.{◌≡◌, ◌≤◌, ◌∙◌, ap, sym, subst, map, length, arith, Ok, List, ℕ}
use Rattle.std.specs.Prelude.{All}
use Rattle.pac_syntax.specs.Limits.{IsTableWithinLimits, IsProcWithinLimits}
use Rattle.std.proofs.lemmas.List.{length-map}
use Rattle.std.proofs.lemmas.Result.{err_from_is_err_and}
use Rattle.pac_syntax.specs.declared.tree.TableNode.{TableNode}
use Rattle.pac_syntax.specs.declared.tree.ProcNode.{ProcNode}
use Rattle.pac_types.specs.declared.table.Table.{Table}
use Rattle.pac_types.specs.declared.procedure.Proc.{Proc}
use Rattle.pac_types.specs.Numbering.{table_of, table_names}
use Rattle.pac_types.specs.Typing.{CatalogueState, Types}
use Rattle.pac_types.specs.Checking.{checked_tables, checked_procs}
use Rattle.pac_syntax.proofs.Trees.{tree-within, tree-ordered}
use Rattle.pac_types.proofs.TypingLemmas.{tree_typed, procs-named, fault_reported}
use Rattle.pac_types.proofs.FirstLemmas.{tables_first, procs_first}
use Rattle.pac_types.proofs.checker.check_tree.Goals.{After-listed-2}
use Rattle.pac_types.proofs.checker.check_tree.Goals as goal

pub of-requires-clause-few : goal.of-requires-clause-few
of-requires-clause-few c = subst (λ (nodes : List TableNode). length nodes ≤ 64) (sym c.as_slice.ensures) (tree-within c.args.tree c.requires).few_tables

pub of-requires-clause-limits : goal.of-requires-clause-limits
of-requires-clause-limits c = subst (λ (nodes : List TableNode). All IsTableWithinLimits nodes) (sym c.as_slice.ensures) (tree-within c.args.tree c.requires).tables

pub of-requires-2 : goal.of-requires-2
of-requires-2 c = omega (arith, ap length (c.in_ok-names_of_procs.ensures ∙ ap (λ (nodes : List ProcNode). map (λ node. node.name.name) nodes) c.as_slice-2.ensures), length-map c.args.tree.procs (λ (node : ProcNode). node.name.name), (tree-within c.args.tree c.requires).few_procs)

pub check_procs-requires : goal.check_procs-requires
check_procs-requires c = subst (λ (nodes : List ProcNode). All IsProcWithinLimits nodes) (sym c.as_slice-3.ensures) (tree-within c.args.tree c.requires).procs

-- the names that are looked up are those of the tree's procedures
names_are : (c : After-listed-2) → c.in_ok-names.names ≡ map (λ node. node.name.name) c.args.tree.procs
names_are c = c.in_ok-names.ensures ∙ c.in_ok-names_of_procs.ensures ∙ ap (λ (nodes : List ProcNode). map (λ node. node.name.name) nodes) c.as_slice-2.ensures

typed : (c : After-listed-2) → Types c.args.tree (record { tables = c.listed.result; procs = c.listed-2.result })
typed c =
    let tables : c.listed.result ≡ c.in_ok-tables.tables = c.listed.ensures ∙ c.into_parts-tables.ensures.tables in
    tree_typed c.args.tree (tree-within c.args.tree c.requires) c.listed.result c.listed-2.result
    (tables ∙ c.in_ok-tables.ensures.value ∙ ap (λ (nodes : List TableNode). map table_of nodes) c.as_slice.ensures)
    (sym (ap (λ (nodes : List TableNode). checked_tables (map (λ node. node.name.name) nodes) 0 nodes) c.as_slice.ensures) ∙ c.in_ok-tables.ensures.names)
    (ap (λ (ts : List Table). checked_procs ts (map (λ node. node.name.name) c.args.tree.procs) 0 c.args.tree.procs) tables
    ∙ sym (ap (λ (names : List (List ℕ)). checked_procs c.in_ok-tables.tables names 0 c.args.tree.procs) (names_are c))
    ∙ sym (ap (λ (nodes : List ProcNode). checked_procs c.in_ok-tables.tables c.in_ok-names.names 0 nodes) c.as_slice-3.ensures) ∙ c.in_ok-procs.ensures ∙ ap Ok (sym c.listed-2.ensures))

pub of-requires-3 : goal.of-requires-3
of-requires-3 c =
    let here = (goal.at.of-requires-3 c).After-listed-2 in
    record {
      typed = (here.args.tree, here.requires, typed here);
      of_tables = here.into_parts-tables.ensures.names ∙ ap (λ (ts : List Table). table_names ts) (sym (here.listed.ensures ∙ here.into_parts-tables.ensures.tables));
      of_procs = names_are here ∙ procs-named here.listed.result here.args.tree.procs here.listed-2.result (typed here).procs;
    }

pub returns-clause-ok : goal.returns-clause-ok
returns-clause-ok c = subst (λ (catalogue : CatalogueState). Types c.args.tree catalogue) (sym c.of-3.ensures) (typed (goal.at.returns-clause-ok c).After-listed-2)

pub returns-in_err-tables-clause-fault : goal.returns-in_err-tables-clause-fault
returns-in_err-tables-clause-fault c = λ fault h.
    let p = err_from_is_err_and c.from_residual.result c.from_residual.ensures.1 in
    tables_first c.args.tree (tree-ordered c.args.tree c.requires) fault
    (sym (ap (λ (nodes : List TableNode). checked_tables (map (λ node. node.name.name) nodes) 0 nodes) c.as_slice.ensures) ∙ fault_reported {X = Unit {0}} (λ x. x) _ _ p.0 _ fault p.1 p.2 h c.in_err-tables.ensures.names)

pub returns-in_err-procs-clause-fault : goal.returns-in_err-procs-clause-fault
returns-in_err-procs-clause-fault c = λ fault h.
    let p = err_from_is_err_and c.from_residual-in_err-procs.result c.from_residual-in_err-procs.ensures.1 in
    procs_first c.args.tree (tree-ordered c.args.tree c.requires) (sym (ap (λ (nodes : List TableNode). checked_tables (map (λ node. node.name.name) nodes) 0 nodes) c.as_slice.ensures) ∙ c.in_ok-tables.ensures.names)
    c.in_ok-tables.tables (c.in_ok-tables.ensures.value ∙ ap (λ (nodes : List TableNode). map table_of nodes) c.as_slice.ensures) fault
    (sym (ap (λ (names : List (List ℕ)). checked_procs c.in_ok-tables.tables names 0 c.args.tree.procs) (c.in_ok-names.ensures ∙ c.in_ok-names_of_procs.ensures ∙ ap (λ (nodes : List ProcNode). map (λ node. node.name.name) nodes) c.as_slice-2.ensures))
    ∙ sym (ap (λ (nodes : List ProcNode). checked_procs c.in_ok-tables.tables c.in_ok-names.names 0 nodes) c.as_slice-3.ensures) ∙ fault_reported {X = List Proc} (λ x. x) _ _ p.0 _ fault p.1 p.2 h c.in_err-procs.ensures)
