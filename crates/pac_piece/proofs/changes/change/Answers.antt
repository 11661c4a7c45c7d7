-- It takes the place of the write at its cell, or is added.
use Rattle.std.proofs.Common.{ap, sym, ◌∙◌, subst, List, refl}
use Rattle.std.proofs.lemmas.Option.{slice_get-get_or, same_Some}
use Rattle.pac_value.specs.State.{Cell}
use Rattle.pac_tables.specs.declared.writes.Write.{Write}
use Rattle.pac_tables.specs.Written.{cell_written}
use Rattle.std.specs.Prelude.{position}
use Rattle.pac_piece.specs.Changes.{is_at, ChangesCell}
use Rattle.pac_piece.proofs.WriteLookups.{first_at, none_at, replaced, added}
use Rattle.pac_piece.proofs.changes.change.Goals as goal

pub returns-in-Some-clause-ok : goal.returns-in-Some-clause-ok
returns-in-Some-clause-ok c =
    let cell : Cell = (c.args.table, c.args.key) in
    let ws = c.args.writes.now.items in
    let at = c.in-Some.at in
    let old = c.index_mut.result.now in
    let new : Write = record { table = old.table; key = old.key; row = c.args.row } in
    let first = first_at cell ws at (ap (position (is_at cell)) (sym c.deref.ensures.value) ∙ sym c.find.ensures ∙ c.in-Some.is) in
    replaced cell c.args.row new refl ws at first
    (λ d. ap cell_written (c.index_mut.ensures.value ∙ same_Some _ _ (sym (slice_get-get_or ws at old first.inside) ∙ slice_get-get_or ws at d first.inside)))
    c.requires

pub returns-in_ok-insert-in-None-clause-ok : goal.returns-in_ok-insert-in-None-clause-ok
returns-in_ok-insert-in-None-clause-ok c =
    let cell : Cell = (c.args.table, c.args.key) in
    let ws = c.args.writes.now.items in
    let new : Write = record { table = c.args.table; key = c.args.key; row = c.args.row } in
    subst (λ (items : List Write). ChangesCell cell c.args.row ws items) (sym c.in_ok-insert-in-None.ensures.items)
    (added new ws (none_at cell ws (ap (position (is_at cell)) (sym c.deref.ensures.value) ∙ sym c.find.ensures ∙ c.in-None.is)) c.requires)
