-- What workers hand to one another can be sent between threads: a core, where its tables can, work and its result.
use denote.RattleType.{RattleType}
use denote.Param.Send.{IsSend, IsSync, sendable}
use Rattle.std.proofs.Crossing.{crosses}
use Rattle.pac_base.proofs.ruled.Ruled.TheSendSync as ruled
use Rattle.pac_base.proofs.short_list.ShortList.TheSendSync as short
use Rattle.pac_value.proofs.env.Env.TheSendSync as env
use Rattle.pac_value.proofs.expr.BinOp.TheSendSync as operator
use Rattle.pac_value.proofs.expr.Expr.TheLaws.TheKnot as knot
use Rattle.pac_value.proofs.values.Value.TheSendSync as value
use Rattle.pac_value.specs.contracts.expr.Expr as expr_type
use Rattle.pac_ops.proofs.note.Note.TheSendSync as note
use Rattle.pac_ops.proofs.piece.PieceId.TheSendSync as piece
use Rattle.pac_ops.proofs.shapes.TableTypes.TheSendSync as types
use Rattle.pac_ops.proofs.transaction.Change.TheSendSync as change
use Rattle.pac_ops.specs.contracts.program.OpKind as kind_type
use Rattle.pac_ops.specs.contracts.program.FlatOp as op_type
use Rattle.pac_ops.specs.contracts.program.Program as program_type
use Rattle.pac_plan.proofs.shared.Shared.TheSendSync as shared
use Rattle.pac_plan.specs.contracts.code.Code as code_type
use Rattle.pac_plan.specs.contracts.parts.PlanParts as parts_type
use Rattle.pac_plan.specs.contracts.plan.Plan as plan_type
use Rattle.pac_keys.specs.contracts.piece_code.PieceCode as piece_code_type
use Rattle.pac_keys.specs.contracts.plan_code.PlanCode as plan_code_type
use Rattle.pac_keys.specs.contracts.probe.Probe as probe_type
use Rattle.pac_keys.specs.contracts.plan_ops.PlanOps as plan_ops_type
use Rattle.pac_keys.proofs.interface.Interface.TheSendSync as interface
use Rattle.pac_tables.specs.declared.rows.Rows.{Ghosts}
use Rattle.pac_sets.proofs.sets.Sets.TheSendSync as sets
use Rattle.pac_undo.proofs.undo_rows.UndoRows.TheSendSync as undo
use Rattle.pac_core.proofs.loaded.LoadedBatch.TheSendSync as loaded
use Rattle.pac_core.proofs.stage.SetStage.TheSendSync as stage
use Rattle.pac_core.specs.contracts.progress.Progress as progress_type
use Rattle.pac_core.specs.contracts.replay.Core as core_type
use Rattle.pac_tables.proofs.writes.Write.TheSendSync as write
use Rattle.pac_piece.specs.contracts.work.Work as work_type
use Rattle.pac_piece.specs.contracts.work.Done as done_type

expr_send : IsSend expr_type.the_field.row
expr_send = knot.send-Expr value.the_field_send (search (sendable, crosses) depth 40) operator.the_field_send (λ h sent. search (sendable, crosses) depth 40)

expr_sync : IsSync expr_type.the_field.row
expr_sync = knot.sync-Expr value.the_field_sync (search (sendable, crosses) depth 40) operator.the_field_sync (λ h sent. search (sendable, crosses) depth 40)

kind_send : IsSend kind_type.the_field.row
kind_send = search (sendable, crosses, value.the_field_send, expr_send) depth 40

kind_sync : IsSync kind_type.the_field.row
kind_sync = search (sendable, crosses, value.the_field_sync, expr_sync) depth 40

op_send : IsSend op_type.the_field.row
op_send = search (sendable, crosses, short.the_send, kind_send) depth 40

op_sync : IsSync op_type.the_field.row
op_sync = search (sendable, crosses, short.the_sync, kind_sync) depth 40

code_send : IsSend code_type.the_field.row
code_send = search (sendable, crosses, op_send, change.the_field_send) depth 40

code_sync : IsSync code_type.the_field.row
code_sync = search (sendable, crosses, op_sync, change.the_field_sync) depth 40

work_field_send : IsSend work_type.the_field.row
work_field_send = search (sendable, crosses, piece.the_field_send, write.the_field_send, env.the_send, code_send, code_sync) depth 40

pub work_send : IsSend work_type.the_row
work_send = search (sendable, crosses, piece.the_field_send, write.the_field_send, env.the_send, code_send, code_sync) depth 40

pub done_send : IsSend done_type.the_row
done_send = search (sendable, crosses, ruled.the_send, work_field_send, write.the_field_send, env.the_send, note.the_field_send) depth 40

-- ---- a core

program_send : IsSend program_type.the_field.row
program_send = search (sendable, crosses, op_send) depth 40

program_sync : IsSync program_type.the_field.row
program_sync = search (sendable, crosses, op_sync) depth 40

parts_send : IsSend parts_type.the_field.row
parts_send = search (sendable, crosses, program_send, types.the_field_send) depth 40

parts_sync : IsSync parts_type.the_field.row
parts_sync = search (sendable, crosses, program_sync, types.the_field_sync) depth 40

plan_send : IsSend plan_type.the_row
plan_send = search (sendable, crosses, parts_send) depth 40

plan_sync : IsSync plan_type.the_row
plan_sync = search (sendable, crosses, parts_sync) depth 40

probe_send : IsSend probe_type.the_field.row
probe_send = search (sendable, crosses, short.the_send, expr_send) depth 40

probe_sync : IsSync probe_type.the_field.row
probe_sync = search (sendable, crosses, short.the_sync, expr_sync) depth 40

piece_code_send : IsSend piece_code_type.the_field.row
piece_code_send = search (sendable, crosses, shared.the_send, code_send, code_sync, probe_send) depth 40

piece_code_sync : IsSync piece_code_type.the_field.row
piece_code_sync = search (sendable, crosses, shared.the_sync, code_send, code_sync, probe_sync) depth 40

plan_ops_send : IsSend plan_ops_type.the_row
plan_ops_send = search (sendable, crosses, plan_send, piece_code_send) depth 40

plan_ops_sync : IsSync plan_ops_type.the_row
plan_ops_sync = search (sendable, crosses, plan_sync, piece_code_sync) depth 40

plan_code_send : IsSend plan_code_type.the_row
plan_code_send = search (sendable, crosses, plan_ops_send, interface.the_field_send) depth 40

plan_code_sync : IsSync plan_code_type.the_row
plan_code_sync = search (sendable, crosses, plan_ops_sync, interface.the_field_sync) depth 40

progress_send : IsSend progress_type.the_field.row
progress_send = search (sendable, crosses, shared.the_send, plan_code_send, plan_code_sync, loaded.the_field_send, sets.the_send, stage.the_field_send, note.the_field_send) depth 40

module _ (R : RattleType) (rows : Ghosts R.Denot) where
  pub core_send : IsSend R → IsSend (core_type.the_row R rows)
  core_send sent = search (sendable, crosses, progress_send, undo.the_send, env.the_send) depth 40
