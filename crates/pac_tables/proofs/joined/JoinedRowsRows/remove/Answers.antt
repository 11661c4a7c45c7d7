-- One table changes, at one key.
use Rattle.std.proofs.Common.{ap, sym, ◌∙◌, arith}
use Rattle.std.specs.FinMap as map
use Rattle.pac_tables.proofs.JoinedLemmas.{get-of, remove-of}
use Rattle.pac_tables.proofs.joined.JoinedRowsRows.remove.Goals as goal

pub returns-clause-old : goal.returns-clause-old
returns-clause-old g c =
    let count = ap (λ h. h.tables) c.self.view_is in
    c.remove.ensures.old ∙ sym (get-of g.T.TableRows.rows c.self.inside.tables.items c.from.result c.args.table c.index_mut.result.now c.from.ensures (omega (arith, count, c.requires)) c.index_mut.ensures.value c.args.key.now)
    ∙ ap (λ h. map.get h.rows (c.args.table, c.args.key.now)) c.self.view_is

pub returns-clause-rows : goal.returns-clause-rows
returns-clause-rows g c =
    let count = ap (λ h. h.tables) c.self.view_is in
    remove-of g.T.TableRows.rows c.self.inside.tables.items c.from.result c.args.table c.index_mut.result.now c.from.ensures (omega (arith, count, c.requires)) c.index_mut.ensures.value c.remove.new.self c.args.key.now c.remove.ensures.rows
    ∙ ap (λ h. map.remove h.rows (c.args.table, c.args.key.now)) c.self.view_is
