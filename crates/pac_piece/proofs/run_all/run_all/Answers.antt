-- One operation more is executed.
use Rattle.std.proofs.Common.{◌≡◌, ◌<◌, ◌+◌, List, ◌∷◌, length, drop, sym, ap, ◌∙◌, subst}
use Rattle.std.proofs.lemmas.List.{drop_more}
use Rattle.pac_ops.specs.Effects.{NumberedOp}
use Rattle.pac_ops.specs.Operations.{State}
use Rattle.pac_piece.specs.Frames.{CanRun, RunsOn, state_seen}
use Rattle.pac_piece.specs.Sources.{HaveTables}
use Rattle.pac_piece.proofs.RunLemmas.{starts, goes_on}
use Rattle.pac_piece.proofs.run_all.run_all.Goals as goal

pub loop-op-init : goal.loop-op-init
loop-op-init g c = record {
  can = c.requires.can;
  there = c.requires.there;
  on = starts g.K.Outs.Adds (g.S.RowSource.base c.args.source.now) c.args.txn c.args.ops.now c.args.frame.now c.requires.fresh;
}

pub run_op-requires : goal.run_op-requires
run_op-requires g c =
    let ops = c.args.ops.now in
    let i = c.loop-op.op-index in
    let rest : drop i ops ≡ c.op-item.result ∷ drop (i + 1) ops = drop_more ops i c.op-item.result c.loop-op-test.true ∙ ap (λ (x : NumberedOp). x ∷ drop (i + 1) ops) (sym c.op-item.is) in
    record {
      can = (subst (λ (os : List NumberedOp). CanRun os (state_seen (g.S.RowSource.base c.args.source.now) c.loop-op.frame)) rest c.loop-op.invariant.can).0;
      there = (subst (λ (os : List NumberedOp). HaveTables (g.S.RowSource.There c.args.source.now) os) rest c.loop-op.invariant.there).0;
      once = c.loop-op.invariant.on.once;
    }

pub loop-op-preserved : goal.loop-op-preserved
loop-op-preserved g c =
    let base = g.S.RowSource.base c.args.source.now in
    let ops = c.args.ops.now in
    let i = c.loop-op.op-index in
    let op = c.op-item.result in
    let inside : i < length ops = c.loop-op-test.true in
    let rest : drop i ops ≡ op ∷ drop (i + 1) ops = drop_more ops i op inside ∙ ap (λ (x : NumberedOp). x ∷ drop (i + 1) ops) (sym c.op-item.is) in
    let step = c.in_ok-run_op.ensures in
    record {
      can = subst (λ (s : State). CanRun (drop (i + 1) ops) s) (sym step.state) (subst (λ (os : List NumberedOp). CanRun os (state_seen base c.loop-op.frame)) rest c.loop-op.invariant.can).1;
      there = (subst (λ (os : List NumberedOp). HaveTables (g.S.RowSource.There c.args.source.now) os) rest c.loop-op.invariant.there).1;
      on = goes_on g.K.Outs.Adds base c.args.txn ops (state_seen base c.args.frame.now) c.args.frame.now.outs op (drop (i + 1) ops) c.loop-op.frame c.run_op.new.frame
          (subst (λ (os : List NumberedOp). RunsOn g.K.Outs.Adds base c.args.txn ops (state_seen base c.args.frame.now) c.args.frame.now.outs os c.loop-op.frame) rest c.loop-op.invariant.on) step;
    }
