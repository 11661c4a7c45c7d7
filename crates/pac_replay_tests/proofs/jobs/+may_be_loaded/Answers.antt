-- The first batch may come, and then the rest.
use Rattle.std.proofs.Common.{◌≡◌, ◌+◌, ◌<◌, ◌^◌, List, ◌∷◌, length, drop, refl, sym, ap, subst, ◌∙◌, arith}
use Rattle.std.proofs.lemmas.List.{drop_more, take_rest}
use Rattle.pac_ops.specs.declared.batch.Batch.{Batch}
use Rattle.pac_ops.specs.declared.transaction.Txn.{Txn}
use Rattle.pac_plan.specs.declared.parts.PlanParts.{PlanParts}
use Rattle.pac_commute.specs.Loads.{next_in_job, and_batch}
use Rattle.pac_commute.specs.PartialFits.{TxnsFitPlan}
use Rattle.pac_core.specs.Calls.{MayLoadAll}
use Rattle.pac_core.specs.Replay.{with_batch_loaded}
use Rattle.pac_replay_tests.proofs.Loading.{next_after}
use Rattle.pac_replay_tests.proofs.jobs.+may_be_loaded.Goals as goal

pub returns-else-not-may_come : goal.returns-else-not-may_come
returns-else-not-may_come t c = λ yes r parts open_ next.
    let x : Batch = c.batch-item.result in
    let all = c.args.batches.now in
    let is = c.in-len1-up.len_at_least in
    let split : all ≡ x ∷ drop 1 all = drop_more all 0 x (omega (arith, is)) ∙ ap (λ (y : Batch). y ∷ drop 1 all) (sym c.batch-item.is) in
    let first : x.first ≡ c.args.next = c.if-not-may_come.ensures.first refl in
    let numbers : c.args.next + length x.txns < 2 ^ 64 = c.if-not-may_come.ensures.numbers refl in
    let there : x.first + length x.txns < 2 ^ 64 = omega (arith, first, numbers) in
    let after : next_in_job r.job (and_batch r.batches x) ≡ c.args.next + length x.txns = next_after r.job r.batches x ∙ ap (λ n. n + length x.txns) next in
    let rest_next = after ∙ ap (λ (txns : List Txn). c.args.next + length txns) (sym c.items.ensures.value) in
    subst (MayLoadAll r) (sym split) (
      record { opening = open_; first = first ∙ sym next; fits = subst (λ (p : PlanParts). TxnsFitPlan p x.txns) (sym parts) (c.if-not-may_come.ensures.fits refl) },
      there,
      subst (MayLoadAll (with_batch_loaded r x)) (take_rest all 1) (c.may_be_loaded.ensures yes (with_batch_loaded r x) parts open_ rest_next),
    )
