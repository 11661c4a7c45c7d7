-- The new image goes last.
use Rattle.std.proofs.Common.{◌++◌, ◌∷◌, [], ap, ◌∙◌}
use Rattle.pac_tables.specs.declared.writes.Write.{Write}
use Rattle.pac_tables.specs.Written.{is_written}
use Rattle.pac_value.specs.State.{Cell}
use Rattle.pac_undo.specs.Images.{as_writes}
use Rattle.pac_undo.proofs.ImageLemmas.{note-last}
use Rattle.pac_undo.proofs.before_images.BeforeImages.note.Goals as goal

pub returns-clause-ok : goal.returns-clause-ok
returns-clause-ok c =
    let cell : Cell = (c.args.table, c.args.key) in
    let image : Write = record { table = c.args.table; key = c.args.key; row = c.args.image } in
    ap as_writes c.in_ok-insert.ensures.entries
    ∙ note-last c.self.inside.images.entries cell c.args.image (ap (λ ws. is_written ws cell) c.self.view_is ∙ c.requires)
    ∙ ap (λ ws. ws ++ image ∷ []) c.self.view_is
