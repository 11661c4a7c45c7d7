-- It stands at its procedure and its block.
use Rattle.std.proofs.Common.{◌≡◌, ◌<◌, ℕ, length, sym, ap, ◌∙◌, subst, get_or}
use Rattle.pac_plan.specs.declared.parts.PlanParts.{PlanParts}
use Rattle.pac_keys.specs.PlanCodes.{piece_code}
use Rattle.pac_keys.proofs.PlaceLemmas.{place_in}
use Rattle.pac_keys.proofs.plan_ops.PlanOps.piece.Goals as goal

pub returns : goal.returns
returns c =
    let parts = c.self.inside.plan in
    let same : parts ≡ c.args.self.now = c.self.view_is in
    let proc_in : c.args.proc < length parts.programs = subst (λ (p : PlanParts). c.args.proc < length p.programs) (sym same) c.requires.proc in
    let block_in : c.args.block < parts.blocks = subst (λ (p : PlanParts). c.args.block < p.blocks) (sym same) c.requires.block in
    place_in parts c.self.inside.procs c.self.invariant c.args.proc c.args.block proc_in block_in c.as_slice.result.now c.index-as_slice-from.result c.as_slice-2.result.now c.index-as_slice-from-2.result
    c.as_slice.ensures
    (c.index-as_slice-from.is ∙ ap (λ (i : ℕ). get_or c.as_slice.result.now i c.index-as_slice-from.result) c.from.ensures)
    c.as_slice-2.ensures
    (c.index-as_slice-from-2.is ∙ ap (λ (i : ℕ). get_or c.as_slice-2.result.now i c.index-as_slice-from-2.result) c.from-2.ensures)
    ∙ ap (λ (p : PlanParts). piece_code p c.args.proc c.args.block) same
