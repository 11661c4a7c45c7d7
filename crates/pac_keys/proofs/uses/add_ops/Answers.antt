-- The variables of one operation more are added.
use Rattle.std.proofs.Common.{◌||◌, ℕ, subst}
use Rattle.pac_ops.specs.Uses.{op_uses, conds_use, kind_uses}
use Rattle.pac_ops.specs.Effects.{NumberedOp}
use Rattle.pac_keys.specs.Interfaces.{AddsVars}
use Rattle.pac_keys.proofs.VariableLemmas.{adds_item, adds_whole, adds_both, adds_same}
use Rattle.pac_keys.proofs.uses.add_ops.Goals as goal

pub loop-op-preserved : goal.loop-op-preserved
loop-op-preserved c =
    let ops = c.args.ops.now in
    let i = c.loop-op.op-index in
    let op = c.op-item.result in
    let test = λ (o : NumberedOp) (x : ℕ). op_uses x o.1 in
    let both = adds_both (λ x. conds_use x c.as_slice.result.now) (λ x. kind_uses x op.1.kind) c.loop-op.vars.items c.add_conds.new.vars.items c.add_kind.new.vars.items c.in_ok-add_conds.ensures c.in_ok-add_kind.ensures in
    let own = adds_same _ (test op) c.loop-op.vars.items c.add_kind.new.vars.items (λ x i. conds_use x (c.as_slice.ensures i) || kind_uses x op.1.kind) both in
    adds_item test ops i op c.args.vars.now.items c.loop-op.vars.items c.add_kind.new.vars.items c.loop-op-test.true c.loop-op.invariant
    (subst (λ (o : NumberedOp). AddsVars (test o) c.loop-op.vars.items c.add_kind.new.vars.items) c.op-item.is own)

pub returns : goal.returns
returns c = adds_whole (λ (o : NumberedOp) (x : ℕ). op_uses x o.1) c.args.ops.now c.loop-op.op-index c.args.vars.now.items c.loop-op.vars.items c.loop-op-test.false c.loop-op.invariant
