-- Where each table is the same at the keys of its rows, and at each image, all is the same.
use Rattle.std.proofs.Common.{ℕ, ap, sym, ◌∙◌, arith, below_more}
use Rattle.std.specs.FinMap.{get}
use Rattle.pac_value.specs.State.{Tables, keys_of}
use Rattle.pac_tables.specs.Written.{written}
use Rattle.pac_undo.specs.Images.{AreSameAt}
use Rattle.pac_undo.proofs.SameLemmas.{AreSameInEach, same-in, same-images, whole-from_each}
use Rattle.pac_undo.proofs.undo_rows.UndoRows.has_opening.Goals as goal

pub loop-table-preserved : goal.loop-table-preserved
loop-table-preserved g c =
    let other = g.R.Rows.held c.args.other.now in
    let now = g.R.Rows.held c.self.inside.rows in
    let before : Tables = written now c.self.inside.before in
    let P : ℕ → Type 0 = λ t. AreSameAt other before t (keys_of now t) × AreSameAt other before t (keys_of other t) in
    below_more P c.loop-table.table c.loop-table.invariant (c.in_ok-is_same_in.ensures.0 c.if-not-branch.false)

pub returns-clause-each : goal.returns-clause-each
returns-clause-each g c =
    let other = g.R.Rows.held c.args.other.now in
    let now = g.R.Rows.held c.self.inside.rows in
    let images = c.self.inside.before in
    let count = g.R.Rows.tables c.self.inside.rows in
    let tables = ap (λ u. u.tables) c.self.view_is in
    let opening = ap (λ u. u.opening) c.self.view_is in
    let each : AreSameInEach other now images count = λ t lt. c.loop-table.invariant t (omega arith) in (
      λ h. (
        sym c.tables.ensures ∙ c.if-tables.false ∙ c.tables-tables.ensures ∙ tables,
        λ cell lt. same-in other now images count each (c.is_same_where_changed.ensures.0 h) cell (omega (arith, lt, tables)) ∙ ap (λ (m : Tables). get m cell) opening,
      ),
      λ same. c.is_same_where_changed.ensures.1 (same-images other now images count (λ cell lt. same.1 cell (omega (arith, lt, tables)) ∙ sym (ap (λ (m : Tables). get m cell) opening)) c.self.invariant),
    )

pub returns-clause-whole : goal.returns-clause-whole
returns-clause-whole g c = λ second first. whole-from_each c.is_same_where_changed.result (g.R.Rows.tables c.args.other.now) c.args.self.now.tables (g.R.Rows.held c.args.other.now) c.args.self.now.opening first second (returns-clause-each g c)
