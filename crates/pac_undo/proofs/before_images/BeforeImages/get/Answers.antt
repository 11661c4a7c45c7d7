-- The map's look-up finds the image.
use Rattle.std.proofs.Common.{ap, sym, ◌∙◌}
use Rattle.pac_value.specs.State.{Cell}
use Rattle.pac_undo.specs.Images.{before_image_at}
use Rattle.pac_undo.proofs.ImageLemmas.{lookup-image}
use Rattle.pac_undo.proofs.before_images.BeforeImages.get.Goals as goal

pub returns : goal.returns
returns c =
    let cell : Cell = (c.args.table, c.args.key.now) in
    c.get.ensures.value ∙ sym (lookup-image c.self.inside.images.entries cell) ∙ ap (λ ws. before_image_at ws cell) c.self.view_is
