-- The keys of the operations are those of their probes.
use Rattle.std.proofs.Common.{sym, ap, ◌∙◌}
use Rattle.std.specs.List.{list_all}
use Rattle.pac_keys.specs.declared.piece_code.PieceCode.{PieceCode}
use Rattle.pac_keys.specs.declared.probe.Probe.{Probe}
use Rattle.pac_plan.specs.Codes.{proc_ops}
use Rattle.pac_keys.proofs.ProbeLemmas.{bounded-probes}
use Rattle.pac_keys.proofs.plan_code.PlanCode.is_bounded.Goals as goal

pub returns : goal.returns
returns c = c.all_bounded.ensures ∙ ap (list_all (λ (probe : Probe). probe.is_bounded)) (c.as_slice.ensures ∙ ap (λ (piece : PieceCode). piece.probes) c.piece.ensures)
    ∙ sym (bounded-probes (proc_ops c.args.self.now c.args.proc c.args.block))
