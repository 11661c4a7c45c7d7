-- The cell is among those whose rows go, or a row is put there, or goes, or none stands there.
use Rattle.std.proofs.Common.{◌≡◌, ◌∙◌, true, false, rules, None, Option, refl, sym, ap, subst}
use Rattle.std.specs.Prelude.{is_some, position}
use Rattle.std.specs.FinMap.{get}
use Rattle.pac_value.specs.State.{Cell, RowValues}
use Rattle.pac_piece.specs.declared.ground.Ground.{Ground}
use Rattle.pac_piece.specs.Changes.{is_at}
use Rattle.pac_piece.specs.InPlace.{IsLeft}
use Rattle.pac_piece.proofs.LeaveLemmas.{absent_there, ends-either, state_found, none-left, none_found, put-either, put-left, stands_there}
use Rattle.pac_piece.proofs.StepLemmas.{on_ok}
use Rattle.pac_piece.proofs.ground.leave.Goals as goal

pub returns-then-is_some-clause-keeps : goal.returns-then-is_some-clause-keeps
returns-then-is_some-clause-keeps g c =
    let cell : Cell = (c.args.table, c.args.key.now) in
    let old = c.args.ground.now in
    let there = state_found cell old.frame.writes.items c.find.result (ap (position (is_at cell)) (sym c.deref.ensures.value) ∙ sym c.find.ensures) (sym c.is_some.ensures ∙ c.if-is_some.true) in
    ends-either g.R.Rows.held g.R.Rows.tables cell old _ c.requires.stands c.args.row refl refl c.change.result c.change.ensures.ok c.change.ensures.err c.requires.there (c.requires.stands.placed cell there)

pub returns-in-Some-clause-keeps : goal.returns-in-Some-clause-keeps
returns-in-Some-clause-keeps g c =
    let cell : Cell = (c.args.table, c.args.key.now) in
    put-either g.R.Rows.held g.R.Rows.tables cell c.args.ground.now _ c.requires.stands c.in-Some.row refl c.put.ensures.before c.put.ensures.room c.put.ensures.tables c.put.result c.put.ensures.ok c.put.ensures.err

pub returns-in-Some-clause-left : goal.returns-in-Some-clause-left
returns-in-Some-clause-left g c =
    let cell : Cell = (c.args.table, c.args.key.now) in
    let old = c.args.ground.now in
    let none = none_found cell old.frame.writes.items c.find.result (ap (position (is_at cell)) (sym c.deref.ensures.value) ∙ sym c.find.ensures) (sym c.is_some.ensures ∙ c.if-is_some.false) in
    let new : Ground g.row.R.Denot = record { rows = c.put.new.rows; frame = old.frame; olds = c.put.new.olds } in
    on_ok c.put.result (λ put. subst (λ (o : Option RowValues). IsLeft g.R.Rows.held cell o old new) (sym c.in-Some.is)
    (put-left g.R.Rows.held g.R.Rows.tables cell old new c.requires.stands c.in-Some.row refl c.put.ensures.before c.put.ensures.room c.put.ensures.tables put none)) c.put.ensures.ok

pub returns-in-None-clause-keeps : goal.returns-in-None-clause-keeps
returns-in-None-clause-keeps g c =
    let cell : Cell = (c.args.table, c.args.key.now) in
    let some : is_some c.get.result ≡ true = search rules in
    ends-either g.R.Rows.held g.R.Rows.tables cell c.args.ground.now _ c.requires.stands None refl refl c.change-in-None.result c.change-in-None.ensures.ok c.change-in-None.ensures.err c.requires.there
    (stands_there c.get.result _ (get (g.R.Rows.held c.args.ground.now.rows) cell) c.get.ensures some)

pub returns-in-None-2-clause-left : goal.returns-in-None-2-clause-left
returns-in-None-2-clause-left g c =
    let cell : Cell = (c.args.table, c.args.key.now) in
    let old = c.args.ground.now in
    let absent : is_some c.get.result ≡ false = search rules in
    let none = none_found cell old.frame.writes.items c.find.result (ap (position (is_at cell)) (sym c.deref.ensures.value) ∙ sym c.find.ensures) (sym c.is_some.ensures ∙ c.if-is_some.false) in
    subst (λ (o : Option RowValues). IsLeft g.R.Rows.held cell o old old) (sym c.in-None-2.is)
    (none-left g.R.Rows.held cell old none (absent_there c.get.result _ (get (g.R.Rows.held old.rows) cell) c.get.ensures absent))
