-- One more is dropped.
use Rattle.std.proofs.Common.{◌≡◌, ℕ, ◌-◌, drop, length, sym, ap, ◌∙◌, arith}
use Rattle.std.proofs.lemmas.List.{drop-drop, length-drop}
use Rattle.pac_core.proofs.stage.Remaining.drop_first.Goals as goal

pub overflow_add-self : goal.overflow_add-self
overflow_add-self c =
    let bound = c.as_slice-all.type_inv.0 in
    let same : length c.as_slice-all.result.now ≡ length c.self.inside.txns = ap length c.as_slice-all.ensures in
    let some = c.requires in
    let view : length (drop c.self.inside.dropped c.self.inside.txns) ≡ length c.args.self.now = ap length c.self.view_is in
    let left = length-drop c.self.inside.dropped c.self.inside.txns in
    omega (arith, bound, same, some, view, left)

pub returns : goal.returns
returns c = sym (drop-drop 1 c.self.inside.dropped c.self.inside.txns) ∙ ap (drop 1) c.self.view_is
