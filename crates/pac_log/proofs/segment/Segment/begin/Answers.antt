-- The header and a closed gate are a log without a batch.
use Rattle.std.proofs.Common.{◌∙◌, ◌≤◌, [], ◌∷◌, ◌++◌, List, ℕ, subst, sym, ap}
use Rattle.pac_outside.specs.Disk.{BothKnown, IsDurable}
use Rattle.pac_types.specs.Accepted.{IsAccepted}
use Rattle.pac_log.specs.declared.limits.TheConstants.{MAX_BASE}
use Rattle.pac_log.specs.declared.position.NextGate.{NextGate}
use Rattle.pac_log.specs.Logs.{base_of}
use Rattle.pac_log.proofs.CreateLemmas.{begun, ends_at, then_known}
use Rattle.pac_log.proofs.segment.Segment.begin.Goals as goal

pub returns-clause-begun : goal.returns-clause-begun
returns-clause-begun g c = begun c.args.self.gate.header c.args.self.gate.catalogue (subst (λ (p : NextGate). IsAccepted p.header.text p.catalogue) c.gate.view_is c.gate.invariant.accepted) (subst (λ (p : NextGate). base_of p.header ≤ MAX_BASE) c.gate.view_is c.gate.invariant.base) _ _
    (subst (λ (l : List ℕ). BothKnown (IsDurable 0 l) (g.D.Disk.known c.args.disk.now) (g.D.Disk.known c.write_and_sync.new.disk)) (c.as_slice.ensures ∙ c.args.self.framed) c.in_ok-write_and_sync.ensures.durable)

pub returns-clause-ends : goal.returns-clause-ends
returns-clause-ends g c = then_known _ _ (λ a b made. ends_at c.args.self.gate b.now c.args.self.first made) _ _ (returns-clause-begun g c)
