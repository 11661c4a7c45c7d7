-- What is kept is compared.
use Rattle.std.proofs.Common.{◌≡◌, ◌↔◌, false, List, map, sym, subst, ◌∙◌}
use Rattle.std.specs.Prelude.{IfOk, IsTrue}
use Rattle.pac_ops.specs.declared.batch.Batch.{Batch}
use Rattle.pac_core.specs.declared.loaded.LoadedBatch.{LoadedBatch}
use Rattle.pac_core.specs.Calls.{IsOfJob}
use Rattle.pac_core.specs.Links.{batches_of}
use Rattle.pac_core.specs.Replay.{Replay}
use Rattle.pac_core.proofs.JobFacts.{by_answer, other_batches}
use Rattle.pac_core.proofs.replay.Core.is_of.Goals as goal

pub returns-then-not-are_batches : goal.returns-then-not-are_batches
returns-then-not-are_batches g c =
    let p = c.self.inside.progress in
    let job = c.args.job.now in
    let same : IsTrue c.are_batches.result ↔ (batches_of p ≡ job.batches) =
    subst (λ (l : List LoadedBatch). IsTrue c.are_batches.result ↔ (map (λ (one : LoadedBatch). one.batch) l ≡ job.batches)) c.deref.ensures.value
    (subst (λ (b : List Batch). IsTrue c.are_batches.result ↔ (map (λ (one : LoadedBatch). one.batch) c.deref.result.now ≡ b)) c.as_slice.ensures c.are_batches.ensures) in
    subst (λ (r : Replay). IsTrue false ↔ IsOfJob r job.plan job.first (g.R.Rows.tables job.opening) (g.R.Rows.held job.opening) job.batches) c.self.view_is
    (other_batches p c.self.inside.rows c.self.invariant job.plan job.first (g.R.Rows.tables job.opening) (g.R.Rows.held job.opening) job.batches c.are_batches.result c.if-not-are_batches.true same)

pub returns : goal.returns
returns g c =
    let p = c.self.inside.progress in
    let job = c.args.job.now in
    let same : IsTrue c.are_batches.result ↔ (batches_of p ≡ job.batches) =
    subst (λ (l : List LoadedBatch). IsTrue c.are_batches.result ↔ (map (λ (one : LoadedBatch). one.batch) l ≡ job.batches)) c.deref.ensures.value
    (subst (λ (b : List Batch). IsTrue c.are_batches.result ↔ (map (λ (one : LoadedBatch). one.batch) c.deref.result.now ≡ b)) c.as_slice.ensures c.are_batches.ensures) in
    subst (λ (r : Replay). IfOk c.has_opening.result (λ is. IsTrue is ↔ IsOfJob r job.plan job.first (g.R.Rows.tables job.opening) (g.R.Rows.held job.opening) job.batches)) c.self.view_is
    (by_answer p c.self.inside.rows c.self.invariant job.plan job.first (g.R.Rows.tables job.opening) (g.R.Rows.held job.opening) job.batches
    (sym (c.plan.ensures ∙ c.get.ensures) ∙ c.are_same_plans.ensures.0 c.if-not-are_same_plans.false) c.if-self-job.false (same.0 c.if-not-are_batches.false) c.has_opening.result c.has_opening.ensures.each)
