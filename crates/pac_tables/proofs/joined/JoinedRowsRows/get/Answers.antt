-- The row is found in its table.
use Rattle.std.proofs.Common.{ap, sym, ◌∙◌, arith}
use Rattle.std.specs.FinMap as map
use Rattle.pac_tables.proofs.JoinedLemmas.{get-of}
use Rattle.pac_tables.proofs.joined.JoinedRowsRows.get.Goals as goal

pub returns : goal.returns
returns g c =
    let count = ap (λ h. h.tables) c.self.view_is in
    c.get.ensures ∙ sym (get-of g.T.TableRows.rows c.self.inside.tables.items c.from.result c.args.table c.index.result.now c.from.ensures (omega (arith, count, c.requires)) c.index.ensures c.args.key.now)
    ∙ ap (λ h. map.get h.rows (c.args.table, c.args.key.now)) c.self.view_is
