-- The operations so far were executed, and those that are left can be.
use Rattle.std.proofs.Common.{drop}
use Rattle.pac_piece.specs.Frames.{CanRun, RunsOn, state_seen}
use Rattle.pac_piece.specs.Sources.{HaveTables}
use Rattle.pac_piece.proofs.run_all.run_all.Given as goal

abbrev pub invariant-loop-op : goal.invariant-loop-op
invariant-loop-op g l = record {
  can : CanRun (drop l.op-index l.ops) (state_seen (g.S.RowSource.base l.source) l.frame);
  there : HaveTables (g.S.RowSource.There l.source) (drop l.op-index l.ops);
  on : RunsOn g.K.Outs.Adds (g.S.RowSource.base l.source) l.txn l.ops (state_seen (g.S.RowSource.base l.source) l.fn.frame) l.fn.frame.outs (drop l.op-index l.ops) l.frame;
}
