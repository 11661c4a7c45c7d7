-- The records of an ad hoc transaction fit, and are its operations.
use Rattle.std.proofs.Common.{sym, ap, ◌∙◌, subst, List}
use Rattle.pac_ops.specs.declared.transaction.Txn.{Txn}
use Rattle.pac_ops.specs.declared.transaction.Change.{Change}
use Rattle.pac_ops.specs.Shapes.{RecordsFit}
use Rattle.pac_plan.specs.declared.parts.PlanParts.{PlanParts}
use Rattle.pac_plan.specs.Pieces.{has_ops}
use Rattle.pac_plan.specs.PieceFits.{records_in}
use Rattle.pac_plan.specs.Codes.{TxnFitsPlan, piece_ops}
use Rattle.pac_keys.specs.Records.{has_records}
use Rattle.pac_keys.proofs.RecordTouches.{adhoc-exists}
use Rattle.pac_keys.proofs.plan_code.PlanCode.has_piece.Goals as goal

pub has_record-requires : goal.has_record-requires
has_record-requires c =
    subst (λ (records : List Change). RecordsFit c.plan.result.now.tables records) (sym c.items.ensures.value)
    (subst (λ (parts : PlanParts). RecordsFit parts.tables c.in-AdHoc.records) (sym c.plan.ensures)
    (subst (λ (txn : Txn). TxnFitsPlan c.args.self.now txn) c.in-AdHoc.is c.requires.fits))

pub returns-in-AdHoc : goal.returns-in-AdHoc
returns-in-AdHoc c =
    let self = c.args.self.now in
    c.has_record.ensures
    ∙ ap (λ (parts : PlanParts). has_records (records_in parts c.args.block c.items.result.now)) c.plan.ensures
    ∙ ap (λ (records : List Change). has_records (records_in self c.args.block records)) c.items.ensures.value
    ∙ sym (adhoc-exists self c.args.block c.in-AdHoc.records)
    ∙ ap (λ (txn : Txn). has_ops (piece_ops self c.args.block txn)) (sym c.in-AdHoc.is)
