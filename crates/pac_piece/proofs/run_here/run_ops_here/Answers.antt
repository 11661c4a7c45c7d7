-- One operation more is executed, or none where it finds no memory.
use Rattle.std.proofs.Common.{◌≡◌, ◌<◌, ◌+◌, List, [], ◌∷◌, ◌++◌, length, drop, take, sym, ap, ◌∙◌, subst}
use Rattle.std.proofs.lemmas.List.{drop_more, take_more}
use Rattle.pac_ops.specs.Effects.{NumberedOp}
use Rattle.pac_ops.specs.Operations.{State}
use Rattle.pac_piece.specs.Frames.{CanRun}
use Rattle.pac_piece.specs.InPlace.{state_here}
use Rattle.pac_piece.specs.Sources.{HaveTables}
use Rattle.pac_piece.proofs.HereLemmas.{keeps_more, keeps_none, more_here, none_here}
use Rattle.pac_piece.proofs.run_here.run_ops_here.Goals as goal

pub loop-op-init : goal.loop-op-init
loop-op-init g c = record {
  keeps = keeps_none g.R.Rows.held g.R.Rows.tables c.args.ground.now c.requires.stands;
  can = c.requires.can;
  there = c.requires.there;
  runs = none_here g.R.Rows.held c.args.txn c.args.ground.now;
}

pub run_op_here-requires : goal.run_op_here-requires
run_op_here-requires g c =
    let ops = c.args.ops.now in
    let i = c.loop-op.op-index in
    let rest : drop i ops ≡ c.op-item.result ∷ drop (i + 1) ops = drop_more ops i c.op-item.result c.loop-op-test.true ∙ ap (λ (x : NumberedOp). x ∷ drop (i + 1) ops) (sym c.op-item.is) in
    record {
      can = (subst (λ (os : List NumberedOp). CanRun os (state_here g.R.Rows.held c.loop-op.ground)) rest c.loop-op.invariant.can).0;
      there = (subst (λ (os : List NumberedOp). HaveTables (λ t. t < g.R.Rows.tables c.loop-op.ground.rows) os) rest c.loop-op.invariant.there).0;
      stands = c.loop-op.invariant.keeps.stands;
    }

pub loop-op-preserved : goal.loop-op-preserved
loop-op-preserved g c =
    let ops = c.args.ops.now in
    let i = c.loop-op.op-index in
    let op = c.op-item.result in
    let held = g.R.Rows.held in
    let tables = g.R.Rows.tables in
    let inside : i < length ops = c.loop-op-test.true in
    let rest : drop i ops ≡ op ∷ drop (i + 1) ops = drop_more ops i op inside ∙ ap (λ (x : NumberedOp). x ∷ drop (i + 1) ops) (sym c.op-item.is) in
    let taken : take (i + 1) ops ≡ take i ops ++ op ∷ [] = take_more ops i op inside ∙ ap (λ (x : NumberedOp). take i ops ++ x ∷ []) (sym c.op-item.is) in
    let step = c.in_ok-run_op_here.ensures in
    record {
      keeps = keeps_more held tables c.args.ground.now c.loop-op.ground c.run_op_here.new.ground c.loop-op.invariant.keeps step.keeps;
      can = subst (λ (s : State). CanRun (drop (i + 1) ops) s) (sym step.ok.state) (subst (λ (os : List NumberedOp). CanRun os (state_here held c.loop-op.ground)) rest c.loop-op.invariant.can).1;
      there = subst (λ n. HaveTables (λ t. t < n) (drop (i + 1) ops)) (sym step.keeps.count) (subst (λ (os : List NumberedOp). HaveTables (λ t. t < tables c.loop-op.ground.rows) os) rest c.loop-op.invariant.there).1;
      runs = more_here held c.args.txn ops i op c.args.ground.now c.loop-op.ground c.run_op_here.new.ground taken c.loop-op.invariant.runs step.ok;
    }
