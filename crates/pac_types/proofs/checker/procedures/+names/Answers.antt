-- The names of a statement's blocks, one after another.
use Rattle.std.proofs.Common.{◌++◌, ◌∷◌, [], ◌∙◌, ap, sym, append_assoc, List, ℕ}
use Rattle.std.specs.List.{flat_map}
use Rattle.pac_syntax.specs.declared.tree.StmtNode.{StmtNode}
use Rattle.pac_types.specs.Numbering.{defined}
use Rattle.pac_types.proofs.CheckLemmas.{defined-If, defined-For}
use Rattle.pac_types.proofs.checker.procedures.+names.Goals as goal

pub add_name-returns-in_ok-add_names-in-If-2 : goal.add_name-returns-in_ok-add_names-in-If-2
add_name-returns-in_ok-add_names-in-If-2 t c =
    c.in_ok-add_names-in-If-2.ensures
    ∙ ap (λ (nodes : List StmtNode). c.add_names.new.names.items ++ flat_map defined nodes) c.as_slice-in-If.ensures
    ∙ ap (λ (names : List (List ℕ)). names ++ flat_map defined c.in-If.second) (c.in_ok-add_names-in-If.ensures ∙ ap (λ (nodes : List StmtNode). c.args.names.now.items ++ flat_map defined nodes) c.as_slice.ensures)
    ∙ append_assoc c.args.names.now.items (flat_map defined c.in-If.first) (flat_map defined c.in-If.second)
    ∙ ap (λ (names : List (List ℕ)). c.args.names.now.items ++ names) (sym (defined-If c.args.node.now c.in-If.test c.in-If.first c.in-If.second c.in-If.is))

pub add_name-returns-in_ok-add_names-in-For : goal.add_name-returns-in_ok-add_names-in-For
add_name-returns-in_ok-add_names-in-For t c =
    c.in_ok-add_names-in-For.ensures
    ∙ ap (λ (nodes : List StmtNode). c.push-in-For.new.self.items ++ flat_map defined nodes) c.as_slice-in-For.ensures
    ∙ ap (λ (names : List (List ℕ)). names ++ flat_map defined c.in-For.body) c.in_ok-push-in-For.ensures.items
    ∙ append_assoc c.args.names.now.items (c.in-For.name.name ∷ []) (flat_map defined c.in-For.body)
    ∙ ap (λ (names : List (List ℕ)). c.args.names.now.items ++ names) (sym (defined-For c.args.node.now c.in-For.name c.in-For.from c.in-For.to c.in-For.body c.in-For.is))
