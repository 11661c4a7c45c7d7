-- Of a call by the probes, of records by their touches.
use Rattle.std.proofs.Common.{◌≡◌, sym, ap, ◌∙◌, subst, List, map}
use Rattle.std.specs.List.{AllByRecursion}
use Rattle.std.specs.Prelude.{IfOk}
use Rattle.pac_ops.specs.declared.transaction.Txn.{Txn}
use Rattle.pac_ops.specs.declared.transaction.Change.{Change}
use Rattle.pac_ops.specs.Shapes.{RecordsFit}
use Rattle.pac_plan.specs.declared.access.Access.{Access}
use Rattle.pac_plan.specs.declared.access.Access.TheVariants.{Keys}
use Rattle.pac_plan.specs.declared.parts.PlanParts.{PlanParts}
use Rattle.pac_plan.specs.Analysis.{IsPlan}
use Rattle.pac_plan.specs.Pieces.{access_of}
use Rattle.pac_plan.specs.PieceFits.{records_in}
use Rattle.pac_plan.specs.Codes.{TxnFitsPlan, HasTxnInputs, piece_ops, proc_ops}
use Rattle.pac_keys.specs.declared.piece_code.PieceCode.{PieceCode}
use Rattle.pac_keys.specs.declared.probe.Probe.{Probe}
use Rattle.pac_keys.specs.Probes.{CanProbe, probed}
use Rattle.pac_keys.specs.Records.{change_touch}
use Rattle.pac_keys.proofs.ProbeLemmas.{access-probed}
use Rattle.pac_keys.proofs.TypedKeys.{call_keys}
use Rattle.pac_keys.proofs.RecordTouches.{adhoc-access}
use Rattle.pac_keys.proofs.plan_code.PlanCode.access.Goals as goal

pub probed-requires : goal.probed-requires
probed-requires c =
    let self = c.args.self.now in
    subst (λ (probes : List Probe). AllByRecursion (CanProbe c.args.env.now) probes) (sym (c.as_slice.ensures ∙ ap (λ (piece : PieceCode). piece.probes) c.piece-piece.ensures))
    (call_keys self (subst (λ (parts : PlanParts). IsPlan parts) c.plan.ensures c.is_plan.ensures) c.in-Call.call c.args.block c.args.env.now
    (subst (λ (txn : Txn). TxnFitsPlan self txn) c.in-Call.is c.requires.fits)
    (subst (λ (txn : Txn). HasTxnInputs self c.args.block txn c.args.env.now) c.in-Call.is c.requires.inputs))

pub record_touches-requires : goal.record_touches-requires
record_touches-requires c =
    subst (λ (records : List Change). RecordsFit c.plan-in-AdHoc.result.now.tables records) (sym c.items.ensures.value)
    (subst (λ (parts : PlanParts). RecordsFit parts.tables c.in-AdHoc.records) (sym c.plan-in-AdHoc.ensures)
    (subst (λ (txn : Txn). TxnFitsPlan c.args.self.now txn) c.in-AdHoc.is c.requires.fits))

pub returns-in-Call : goal.returns-in-Call
returns-in-Call c =
    let self = c.args.self.now in
    subst (λ (a : Access). IfOk c.probed.result (λ access. access ≡ a))
    (ap (probed c.args.env.now) (c.as_slice.ensures ∙ ap (λ (piece : PieceCode). piece.probes) c.piece-piece.ensures)
    ∙ sym (access-probed (proc_ops self c.in-Call.call.proc c.args.block) c.args.env.now)
    ∙ ap (λ (txn : Txn). access_of (piece_ops self c.args.block txn) c.args.env.now) (sym c.in-Call.is))
    c.probed.ensures

pub returns-in_ok-touches-in-AdHoc : goal.returns-in_ok-touches-in-AdHoc
returns-in_ok-touches-in-AdHoc c =
    let self = c.args.self.now in
    ap Keys (c.listed.ensures ∙ c.in_ok-touches-in-AdHoc.ensures
    ∙ ap (λ (parts : PlanParts). map change_touch (records_in parts c.args.block c.items.result.now)) c.plan-in-AdHoc.ensures
    ∙ ap (λ (records : List Change). map change_touch (records_in self c.args.block records)) c.items.ensures.value)
    ∙ sym (adhoc-access self c.args.block c.in-AdHoc.records c.args.env.now)
    ∙ ap (λ (txn : Txn). access_of (piece_ops self c.args.block txn) c.args.env.now) (sym c.in-AdHoc.is)
