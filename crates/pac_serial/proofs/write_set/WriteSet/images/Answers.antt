-- The images of all changes.
use Rattle.std.proofs.Common.{map, sym, ap, ◌∙◌}
use Rattle.std.proofs.lemmas.List.{take_all}
use Rattle.std.specs.FinMap as fin
use Rattle.std.specs.FinMap.{entries-from_sorted}
use Rattle.pac_value.specs.State.{cell_cmp}
use Rattle.pac_serial.specs.WriteSets.{image_left}
use Rattle.pac_serial.proofs.write_set.WriteSet.images.Goals as goal

pub returns : goal.returns
returns c =
    c.loop-change.invariant
    ∙ ap (map image_left) (take_all c.loop-change.change-index c.deref-change-items.result.now c.loop-change-test.false ∙ c.deref-change-items.ensures.value
    ∙ sym (entries-from_sorted cell_cmp c.self.inside.changes.items c.self.invariant) ∙ ap fin.entries c.self.view_is)
