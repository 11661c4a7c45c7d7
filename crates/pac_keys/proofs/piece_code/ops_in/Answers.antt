-- An operation of the block is added, and any other left out.
use Rattle.std.proofs.Common.{◌≡◌, ◌<◌, ◌+◌, ◌++◌, List, length, drop, sym, ap, ◌∙◌, subst, get_or, arith}
use Rattle.pac_ops.specs.declared.program.FlatOp.{FlatOp}
use Rattle.pac_ops.specs.Effects.{NumberedOp, numbered_from}
use Rattle.pac_plan.specs.Nodes.{Operation}
use Rattle.pac_plan.specs.Analysis.{block_in}
use Rattle.pac_plan.specs.Pieces.{part}
use Rattle.pac_plan.specs.Worlds.{ops_of}
use Rattle.pac_keys.proofs.PartSteps.{step_in, step_out, all_in}
use Rattle.pac_keys.proofs.piece_code.ops_in.Goals as goal
use Rattle.pac_keys.proofs.piece_code.ops_in.Goals.{then-block_of-block+in_ok-copy+in_ok-push, else-block_of-block}

pub loop-at-preserved : goal.loop-at-preserved
loop-at-preserved c =
    let plan = c.args.plan.now in
    let proc = c.args.proc in
    let at = c.loop-at.at in
    let ops = c.as_slice-ops.result.now in
    let inside : at < length ops = c.loop-at-test.true in
    elim c.if-block_of-block.branch [
      | then-block_of-block+in_ok-copy+in_ok-push w ↦
          let op = w.in_ok-copy.field-0 in
          let is : op ≡ get_or ops at op = subst (λ (x : FlatOp). x ≡ get_or ops at x) (sym w.in_ok-copy.ensures) w.index-ops-at.is in
          let items = ap (λ (v : _). v.items) w.found-is ∙ w.in_ok-push.ensures.items in
          ap (λ (xs : List NumberedOp). xs ++ part (λ o. block_in plan (Operation proc o.0)) c.args.block (numbered_from (at + 1) (drop (at + 1) ops))) items
          ∙ step_in (λ o. block_in plan (Operation proc o.0)) c.args.block ops at op inside is c.loop-at.found.items (sym c.block_of.ensures ∙ w.if-block_of-block.true)
          ∙ c.loop-at.invariant
      | else-block_of-block w ↦
          ap (λ (v : _). v.items ++ part (λ o. block_in plan (Operation proc o.0)) c.args.block (numbered_from (at + 1) (drop (at + 1) ops))) w.found-is
          ∙ step_out (λ o. block_in plan (Operation proc o.0)) c.args.block ops at inside (λ op is e. w.if-block_of-block.false (c.block_of.ensures ∙ e)) c.loop-at.found.items
          ∙ c.loop-at.invariant
    ]

pub returns : goal.returns
returns c =
    let plan = c.args.plan.now in
    let proc = c.args.proc in
    let ops = c.as_slice-ops.result.now in
    all_in (λ o. block_in plan (Operation proc o.0)) c.args.block ops c.loop-at.at c.loop-at.found.items (omega arith) c.loop-at.invariant
    ∙ ap (λ (xs : List FlatOp). part (λ o. block_in plan (Operation proc o.0)) c.args.block (numbered_from 0 xs)) (c.as_slice-ops.ensures ∙ ap ops_of (sym c.program.ensures))
