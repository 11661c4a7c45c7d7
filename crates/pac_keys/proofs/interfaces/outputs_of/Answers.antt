-- What is defined and used in another block, operation by operation.
use Rattle.std.proofs.Common.{◌≡◌, ℕ, true, false, ◌&&◌, List, [], sym, subst}
use Rattle.std.specs.Prelude.{Contains, ◌↔◌}
use Rattle.pac_ops.specs.Effects.{NumberedOp, is_var, defined_in}
use Rattle.pac_ops.specs.Uses.{defined_variable}
use Rattle.pac_keys.specs.Interfaces.{AddsVars, is_used_outside}
use Rattle.pac_keys.proofs.VariableLemmas.{adds_none, adds_item, adds_whole, outputs_are}
use Rattle.pac_keys.proofs.interfaces.outputs_of.Goals as goal

pub loop-op-init : goal.loop-op-init
loop-op-init c = subst (λ (l : List ℕ). AddsVars (λ x. false) [] l) (sym c.new-vars.ensures.items) (adds_none [])

pub loop-op-preserved : goal.loop-op-preserved
loop-op-preserved c =
    let ops = c.ops-op-items.result.now in
    let i = c.loop-op.op-index in
    let op = c.op-item.result in
    let test = λ (o : NumberedOp) (x : ℕ). is_var x (defined_variable o.1.kind) && is_used_outside c.args.code.now c.args.proc c.args.block x in
    adds_item test ops i op [] c.loop-op.vars.items c.add_output.new.vars.items c.loop-op-test.true c.loop-op.invariant
    (subst (λ (o : NumberedOp). AddsVars (test o) c.loop-op.vars.items c.add_output.new.vars.items) c.op-item.is c.in_ok-add_output.ensures)

pub returns : goal.returns
returns c =
    let os = c.ops-op-items.result.now in
    let others = is_used_outside c.args.code.now c.args.proc c.args.block in
    let whole = adds_whole (λ (o : NumberedOp) (x : ℕ). is_var x (defined_variable o.1.kind) && others x) os c.loop-op.op-index [] c.loop-op.vars.items c.loop-op-test.false c.loop-op.invariant in
    let are = outputs_are os others c.loop-op.vars.items c.sort.new.self.items c.dedup.new.self.items whole c.in_ok-sort.ensures.permutation c.dedup.ensures.filtered in
    subst (λ (l : List NumberedOp). (x : ℕ) → Contains c.dedup.new.self.items x ↔ ((defined_in l x && others x) ≡ true)) c.ops-op-items.ensures are
