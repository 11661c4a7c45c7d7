-- The list has an entry for each.
use Rattle.std.proofs.Common.{List, length, sym, ap, ◌∙◌, arith}
use Rattle.std.specs.FinMap as map
use Rattle.std.specs.FinMap.{entries-from_sorted}
use Rattle.pac_value.specs.State.{cell_cmp}
use Rattle.pac_serial.specs.WriteSets.{Change}
use Rattle.pac_serial.proofs.write_set.WriteSet.len.Goals as goal

pub returns : goal.returns
returns c =
    let listed = ap (λ (cs : List Change). length cs) (sym (entries-from_sorted cell_cmp c.self.inside.changes.items c.self.invariant) ∙ ap map.entries c.self.view_is) in
    omega (arith, listed, c.len.ensures)
