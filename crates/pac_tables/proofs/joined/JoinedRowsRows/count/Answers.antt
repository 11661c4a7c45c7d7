-- As many as the keys of the table.
use Rattle.std.proofs.Common.{length, ap, sym, ◌∙◌, arith}
use Rattle.std.specs.FinMap as map
use Rattle.std.proofs.lemmas.List.{length-map}
use Rattle.pac_value.specs.State.{keys_of}
use Rattle.pac_tables.proofs.JoinedLemmas.{keys-of}
use Rattle.pac_tables.proofs.joined.JoinedRowsRows.count.Goals as goal

pub returns : goal.returns
returns g c =
    let count = ap (λ h. h.tables) c.self.view_is in
    let keys = keys-of g.T.TableRows.rows c.self.inside.tables.items c.from.result c.args.table c.index.result.now c.from.ensures (omega (arith, count, c.requires)) c.index.ensures in
    let rows = g.T.TableRows.rows c.index.result.now in
    c.count.ensures ∙ map.len-entries rows ∙ sym (length-map (map.entries rows) (λ e. e.0)) ∙ sym (ap length keys) ∙ ap (λ h. length (keys_of h.rows c.args.table)) c.self.view_is
