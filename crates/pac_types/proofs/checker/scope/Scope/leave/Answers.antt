use Rattle.std.proofs.Common.{◌∙◌, arith, ap, set, None}
use Rattle.pac_types.proofs.CheckLemmas.{set-next}
use Rattle.pac_types.proofs.checker.scope.Scope.leave.Goals as goal

pub loop-i-preserved : goal.loop-i-preserved
loop-i-preserved c = record {
  names = c.loop-i.invariant.names;
  next = c.loop-i.invariant.next;
  known = ap (λ items. set items c.loop-i.i None) c.loop-i.invariant.known ∙ set-next c.args.self.now.known None None c.args.index c.loop-i.i (omega arith) (omega (arith, c.loop-i.invariant.end));
  end = c.loop-i.invariant.end;
}
