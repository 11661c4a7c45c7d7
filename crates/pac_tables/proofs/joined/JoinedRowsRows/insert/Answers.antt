-- One table changes, at one key.
use Rattle.std.proofs.Common.{ap, sym, ◌∙◌, arith}
use Rattle.std.specs.FinMap as map
use Rattle.std.proofs.lemmas.Result.{IfOk-weaker, on_ok_weaker, on_err_weaker}
use Rattle.pac_tables.proofs.JoinedLemmas.{get-of, insert-of, kept-of}
use Rattle.pac_tables.proofs.joined.JoinedRowsRows.insert.Goals as goal

pub returns-clause-old : goal.returns-clause-old
returns-clause-old g c =
    let count = ap (λ h. h.tables) c.self.view_is in
    let found = get-of g.T.TableRows.rows c.self.inside.tables.items c.from.result c.args.table c.index_mut.result.now c.from.ensures (omega (arith, count, c.requires)) c.index_mut.ensures.value c.args.key in
    IfOk-weaker c.insert.result _ _ (λ old is. is ∙ sym found ∙ ap (λ h. map.get h.rows (c.args.table, c.args.key)) c.self.view_is) c.insert.ensures.old

pub returns-clause-ok : goal.returns-clause-ok
returns-clause-ok g c =
    let count = ap (λ h. h.tables) c.self.view_is in
    let inserted = insert-of g.T.TableRows.rows c.self.inside.tables.items c.from.result c.args.table c.index_mut.result.now c.from.ensures (omega (arith, count, c.requires)) c.index_mut.ensures.value c.insert.new.self c.args.key c.args.row in
    on_ok_weaker c.insert.result (λ is. inserted is ∙ ap (λ h. map.insert h.rows (c.args.table, c.args.key) c.args.row) c.self.view_is) c.insert.ensures.ok

pub returns-clause-err : goal.returns-clause-err
returns-clause-err g c =
    let count = ap (λ h. h.tables) c.self.view_is in
    let kept = kept-of g.T.TableRows.rows c.self.inside.tables.items c.from.result c.args.table c.index_mut.result.now c.from.ensures (omega (arith, count, c.requires)) c.index_mut.ensures.value c.insert.new.self in
    on_err_weaker c.insert.result (λ is. kept is ∙ ap (λ h. h.rows) c.self.view_is) c.insert.ensures.err

pub returns-clause-absent : goal.returns-clause-absent
returns-clause-absent g c =
    let count = ap (λ h. h.tables) c.self.view_is in
    let found = get-of g.T.TableRows.rows c.self.inside.tables.items c.from.result c.args.table c.index_mut.result.now c.from.ensures (omega (arith, count, c.requires)) c.index_mut.ensures.value c.args.key in
    on_err_weaker c.insert.result (λ is. sym (ap (λ h. map.get h.rows (c.args.table, c.args.key)) c.self.view_is) ∙ found ∙ is) c.insert.ensures.absent
