-- What is used, without what is defined.
use Rattle.std.proofs.Common.{ℕ, not, List, subst, ap, ◌∙◌}
use Rattle.std.specs.List.{filter}
use Rattle.pac_ops.specs.Effects.{used_in, defined_in}
use Rattle.pac_keys.specs.Interfaces.{AddsVars}
use Rattle.pac_keys.proofs.VariableLemmas.{if_ok, inputs_are}
use Rattle.pac_keys.proofs.interfaces.inputs_of.Goals as goal

pub returns : goal.returns
returns c =
    let ops = c.args.ops.now in
    let adds = subst (λ (l : List ℕ). AddsVars (used_in ops) l c.add_ops.new.vars.items) c.new-vars.ensures.items c.in_ok-add_ops.ensures in
    if_ok c.outer.result (λ left is. inputs_are ops c.add_ops.new.vars.items c.sort.new.self.items c.dedup.new.self.items left.items adds c.in_ok-sort.ensures.permutation c.dedup.ensures.filtered
    (is ∙ ap (filter (λ x. not (defined_in ops x))) c.deref.ensures.value)) c.outer.ensures
