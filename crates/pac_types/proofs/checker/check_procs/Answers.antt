-- One procedure more.
use Rattle.std.proofs.Common.{arith, ◌∙◌, refl, sym}
use Rattle.pac_types.proofs.CheckLemmas.{procs-step}
use Rattle.pac_types.proofs.checker.check_procs.Goals as goal

pub loop-i-preserved : goal.loop-i-preserved
loop-i-preserved c =
    procs-step c.args.tables.now c.args.names.now c.args.names.now c.args.nodes.now c.loop-i.i c.index-nodes-i.result _ c.loop-i.procs.items _ _ (omega arith) c.index-nodes-i.is refl (sym c.once.ensures ∙ c.in_ok-once.was) c.in_ok-check_proc.ensures c.in_ok-push.ensures.items c.loop-i.invariant
