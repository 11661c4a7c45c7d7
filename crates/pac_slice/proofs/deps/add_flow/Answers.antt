-- The flow from one operation more is added; in the end it is that from all.
use Rattle.std.proofs.Common.{arith}
use Rattle.pac_graph.specs.Adding.{IsUpTo}
use Rattle.pac_graph.proofs.AddLemmas.{adds_alike, upto_more}
use Rattle.pac_slice.specs.Dependent.{IsFlowAt, IsFlowFrom}
use Rattle.pac_slice.proofs.FlowLemmas.{flow_at}
use Rattle.pac_slice.proofs.deps.add_flow.Goals as goal

pub loop-from-preserved : goal.loop-from-preserved
loop-from-preserved c = let l = c.loop-from in
    upto_more (IsFlowFrom c.args.ops.now c.args.first) c.args.graph.now l.graph c.add_flow_from.new.graph l.from l.invariant c.add_flow_from.ensures

pub returns : goal.returns
returns c = let l = c.loop-from in let ops = c.args.ops.now in
    adds_alike c.args.graph.now l.graph (IsUpTo (IsFlowFrom ops c.args.first) l.from) (IsFlowAt ops c.args.first) (flow_at ops c.args.first l.from (omega (arith, c.loop-from-test.false))) l.invariant
