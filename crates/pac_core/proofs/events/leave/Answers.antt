-- By the transaction of the piece, which fits the plan.
use Rattle.std.proofs.Common.{◌<◌, refl, subst, arith}
use Rattle.pac_plan.specs.declared.parts.PlanParts.{PlanParts}
use Rattle.pac_plan.specs.Codes.{TxnFitsPlan}
use Rattle.pac_core.proofs.LeftValues.{has_left, on_err_by, on_ok_by}
use Rattle.pac_core.proofs.PlacedTxns as txns
use Rattle.pac_core.proofs.events.leave.Goals as goal

pub keep_left-requires-clause-fits : goal.keep_left-requires-clause-fits
keep_left-requires-clause-fits g c = λ loaded txn there at.
    let p = c.args.progress.now in
    subst (λ (parts : PlanParts). TxnFitsPlan parts txn) c.requires.kept.keeps.parts
    (txns.fits c.requires.kept.job p c.requires.kept.keeps c.args.place c.args.piece c.requires.place txn (loaded, there, at))

pub keep_left-requires-clause-block : goal.keep_left-requires-clause-block
keep_left-requires-clause-block g c =
    let p = c.args.progress.now in
    subst (λ (parts : PlanParts). c.args.piece.block < parts.blocks) c.requires.kept.keeps.parts
    (txns.block_inside c.requires.kept.job p c.requires.kept.keeps c.args.place c.args.piece c.requires.place)

pub keep_left-requires-clause-inside : goal.keep_left-requires-clause-inside
keep_left-requires-clause-inside g c = let at = c.requires.place in (at.txn.loaded, at.txn.there, at.txn.inside)

pub keep_left-requires-clause-there : goal.keep_left-requires-clause-there
keep_left-requires-clause-there g c =
    let at = c.requires.place in
    let inside = at.txn.inside in
    let len = txns.kept_len c.requires.kept.job c.args.progress.now c.requires.kept.keeps c.args.place c.args.piece at in
    (at.txn.loaded, at.txn.there, omega (arith, inside, len))

pub returns-clause-left : goal.returns-clause-left
returns-clause-left g c =
    on_ok_by c.keep_left.result (λ left. has_left c.args.progress.now c.args.place c.args.piece c.args.outs.now left.txn (left.loaded, left.there, left.txn_there) left.vars left.outputs _ refl left.given) c.keep_left.ensures.left

pub returns-clause-kept : goal.returns-clause-kept
returns-clause-kept g c = on_err_by c.keep_left.result (λ kept. record { values = kept; rest = refl }) c.keep_left.ensures.kept
