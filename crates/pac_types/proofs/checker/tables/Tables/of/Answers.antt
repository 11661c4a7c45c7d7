-- The names of the tables and columns are those of the nodes.
use Rattle.std.proofs.Common.{◌≡◌, ◌∙◌, ap, sym, take, take_all, map, arith, List}
use Rattle.pac_syntax.specs.declared.tree.TableNode.{TableNode}
use Rattle.pac_types.specs.Numbering.{table_of, table_names, column_names}
use Rattle.pac_types.specs.declared.table.Table.{Table}
use Rattle.pac_types.proofs.TypingLemmas.{tables-named, columns-of}
use Rattle.pac_types.proofs.checker.tables.Tables.of.Goals as goal

pub invariant_of-result : goal.invariant_of-result
invariant_of-result c =
    let all : take c.loop-i.i c.args.nodes.now ≡ c.args.nodes.now = take_all _ _ (omega arith) in
    let tables : c.loop-i.tables.items ≡ map table_of c.args.nodes.now = c.loop-i.invariant.tables ∙ ap (λ (nodes : List TableNode). map table_of nodes) all in
    record {
      named = c.in_ok-names.ensures ∙ c.in_ok-names_of_tables.ensures ∙ tables-named c.args.nodes.now ∙ ap (λ (ts : List Table). table_names ts) (sym tables);
      of_columns = c.loop-i.invariant.columns ∙ ap (λ (nodes : List TableNode). map (λ node. map (λ column. column.name.name) node.columns) nodes) all ∙ columns-of c.args.nodes.now ∙ ap (λ (ts : List Table). map (λ table. column_names table.columns) ts) (sym tables);
    }
