-- An image is noted where the look-up finds none, and says what stands there.
use Rattle.std.proofs.Common.{true, false, sym, ◌∙◌}
use Rattle.pac_tables.specs.Written.{cell_written}
use Rattle.pac_undo.proofs.NoteLemmas.{found-image, noted-opening, noted-within, noted-cell}
use Rattle.pac_undo.proofs.noting.note.Goals as goal

pub returns-then-is_some-clause-noted : goal.returns-then-is_some-clause-noted
returns-then-is_some-clause-noted g c = found-image _ c.get.result c.args.before.now _ true c.get.ensures (sym c.is_some.ensures ∙ c.if-is_some.true)

pub note-requires : goal.note-requires
note-requires g c = found-image _ c.get.result c.args.before.now _ false c.get.ensures (sym c.is_some.ensures ∙ c.if-is_some.false)

pub returns-clause-opening : goal.returns-clause-opening
returns-clause-opening g c =
    noted-opening (g.R.Rows.held c.args.rows.now) c.args.before.now c.note.new.self _ c.note.result c.note.ensures.ok c.note.ensures.err (c.in_ok-image.ensures ∙ c.get-2.ensures)

pub returns-clause-within : goal.returns-clause-within
returns-clause-within g c =
    noted-within (g.R.Rows.held c.args.rows.now) c.args.before.now c.note.new.self _ c.note.result c.note.ensures.ok c.note.ensures.err (g.R.Rows.tables c.args.rows.now) c.requires.write c.requires.images

pub returns-clause-noted : goal.returns-clause-noted
returns-clause-noted g c = noted-cell (g.R.Rows.held c.args.rows.now) c.args.before.now c.note.new.self _ c.note.result c.note.ensures.ok

pub returns-clause-placed : goal.returns-clause-placed
returns-clause-placed g c = λ there.
    let none = found-image _ c.get.result c.args.before.now (cell_written c.args.write.now) false c.get.ensures (sym c.is_some.ensures ∙ c.if-is_some.false) in
    absurd cc

pub returns-in_err-image-clause-placed : goal.returns-in_err-image-clause-placed
returns-in_err-image-clause-placed g c = λ there.
    let none = found-image _ c.get.result c.args.before.now (cell_written c.args.write.now) false c.get.ensures (sym c.is_some.ensures ∙ c.if-is_some.false) in
    absurd cc
