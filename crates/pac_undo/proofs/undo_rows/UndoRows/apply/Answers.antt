-- The cells of the writes have images, so what these put back stays.
use Rattle.std.proofs.Common.{◌≡◌, true, ap, sym, subst, ◌∙◌}
use Rattle.std.specs.FinMap.{get}
use Rattle.std.proofs.lemmas.List.Elements.{All-weaker}
use Rattle.std.proofs.lemmas.Result.{on_ok_weaker}
use Rattle.pac_value.specs.State.{Tables}
use Rattle.pac_tables.specs.Written.{cell_written, is_written, written}
use Rattle.pac_undo.specs.Images.{HaveBeforeImages}
use Rattle.pac_undo.specs.Undo.{IsChanged}
use Rattle.pac_undo.proofs.NoteLemmas.{changed-noted, put_back-written, same-undoable}
use Rattle.pac_undo.proofs.undo_rows.UndoRows.apply.Goals as goal

pub returns-in-Ok-clause-ok : goal.returns-in-Ok-clause-ok
returns-in-Ok-clause-ok g c =
    let held = g.R.Rows.held c.self.inside.rows in
    let before = c.note_all.new.before in
    let have = subst (HaveBeforeImages before) c.items.ensures.value c.in-Ok.ensures.noted in
    on_ok_weaker c.apply_all.result (λ is. same-undoable
    (c.apply_all.ensures.tables ∙ ap (λ u. u.tables) c.self.view_is)
    (ap (λ (m : Tables). written m before) is ∙ put_back-written held c.args.writes before have ∙ c.note_all.ensures.opening ∙ ap (λ u. u.opening) c.self.view_is)
    (is ∙ ap (λ u. written u.current c.args.writes) c.self.view_is)) c.apply_all.ensures.ok

pub returns-in-Err-clause-placed : goal.returns-in-Err-clause-placed
returns-in-Err-clause-placed g c = λ rows changed.
    let held = g.R.Rows.held c.self.inside.rows in
    let before = c.self.inside.before in
    let have : HaveBeforeImages before c.args.writes =
    All-weaker (IsChanged c.args.self.now) (λ w. is_written before (cell_written w) ≡ true)
    (λ w h. changed-noted held before (cell_written w) (λ e. h (sym (ap (λ u. get u.current (cell_written w)) c.self.view_is) ∙ e ∙ ap (λ u. get u.opening (cell_written w)) c.self.view_is)))
    c.args.writes changed in
    c.in-Err.ensures.placed (subst (HaveBeforeImages before) (sym c.items.ensures.value) have)
