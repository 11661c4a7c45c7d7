-- The rows of the table.
use Rattle.std.proofs.Common.{◌≡◌, Some, map as list_map, ap, sym, ◌∙◌, arith}
use Rattle.std.specs.FinMap as map
use Rattle.std.proofs.lemmas.Result.{IfOk-weaker}
use Rattle.pac_value.specs.declared.values.Key.{Key}
use Rattle.pac_value.specs.State.{RowValues, keys_of}
use Rattle.pac_tables.specs.Joined.{joined_tables}
use Rattle.pac_tables.proofs.JoinedLemmas.{keys-of, get-of}
use Rattle.pac_tables.proofs.SortedRowLemmas.{map-map, map-same, rows-found}
use Rattle.pac_tables.proofs.joined.JoinedRowsRows.sorted_rows.Goals as goal

pub returns-clause-keys : goal.returns-clause-keys
returns-clause-keys g c =
    let count = ap (λ h. h.tables) c.self.view_is in
    let keys = keys-of g.T.TableRows.rows c.self.inside.tables.items c.from.result c.args.table c.index.result.now c.from.ensures (omega (arith, count, c.requires)) c.index.ensures in
    IfOk-weaker c.sorted_rows.result _ _ (λ found is. sym (map-map (λ e. (e.0.now, e.1.now)) (λ (e : Key × RowValues). e.0) found.items) ∙ ap (list_map (λ (e : Key × RowValues). e.0)) is
    ∙ sym keys ∙ ap (λ h. keys_of h.rows c.args.table) c.self.view_is) c.sorted_rows.ensures

pub returns-clause-rows : goal.returns-clause-rows
returns-clause-rows g c =
    let count = ap (λ h. h.tables) c.self.view_is in
    let table = g.T.TableRows.rows c.index.result.now in
    let keys = keys-of g.T.TableRows.rows c.self.inside.tables.items c.from.result c.args.table c.index.result.now c.from.ensures (omega (arith, count, c.requires)) c.index.ensures in
    let get : (key : Key) → map.get table key ≡ map.get (joined_tables (list_map g.T.TableRows.rows c.self.inside.tables.items)) (c.args.table, key) =
    λ key. sym (get-of g.T.TableRows.rows c.self.inside.tables.items c.from.result c.args.table c.index.result.now c.from.ensures (omega (arith, count, c.requires)) c.index.ensures key) in
    IfOk-weaker c.sorted_rows.result _ _ (λ found is. sym (map-map (λ e. (e.0.now, e.1.now)) (λ (e : Key × RowValues). Some e.1) found.items) ∙ ap (list_map (λ (e : Key × RowValues). Some e.1)) is
    ∙ sym (rows-found table) ∙ map-same (map.get table) (λ key. map.get (joined_tables (list_map g.T.TableRows.rows c.self.inside.tables.items)) (c.args.table, key)) get (map.keys table)
    ∙ ap (list_map (λ key. map.get (joined_tables (list_map g.T.TableRows.rows c.self.inside.tables.items)) (c.args.table, key))) (sym keys)
    ∙ ap (λ h. list_map (λ key. map.get h.rows (c.args.table, key)) (keys_of h.rows c.args.table)) c.self.view_is) c.sorted_rows.ensures
