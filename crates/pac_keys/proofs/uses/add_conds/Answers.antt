-- One variable more is added.
use Rattle.std.proofs.Common.{◌+◌, ◌==◌, ◌∷◌, ◌++◌, [], ℕ, Bool, false, List, get_or, subst, sym, take}
use Rattle.pac_ops.specs.Uses.{conds_use}
use Rattle.pac_keys.specs.Interfaces.{AddsVars}
use Rattle.pac_keys.proofs.VariableLemmas.{adds_one, adds_item, adds_whole}
use Rattle.pac_keys.proofs.uses.add_conds.Goals as goal

pub loop-cond-preserved : goal.loop-cond-preserved
loop-cond-preserved c =
    let conds = c.args.conds.now in
    let none : ℕ × Bool = (0, false) in
    let i = c.loop-cond.cond-index in
    let test = λ (cond : ℕ × Bool) (x : ℕ). cond.0 == x in
    subst (λ (new : List ℕ). AddsVars (λ x. conds_use x (take (i + 1) conds)) c.args.vars.now.items new) (sym c.in_ok-push.ensures.items)
    (adds_item test conds i none c.args.vars.now.items c.loop-cond.vars.items (c.loop-cond.vars.items ++ (get_or conds i none).0 ∷ []) c.loop-cond-test.true c.loop-cond.invariant (adds_one c.loop-cond.vars.items (get_or conds i none).0))

pub returns : goal.returns
returns c =
    let test = λ (cond : ℕ × Bool) (x : ℕ). cond.0 == x in
    adds_whole test c.args.conds.now c.loop-cond.cond-index c.args.vars.now.items c.loop-cond.vars.items c.loop-cond-test.false c.loop-cond.invariant
