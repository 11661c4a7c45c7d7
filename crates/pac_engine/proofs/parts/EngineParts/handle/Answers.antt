-- A save is handled as a checkpoint is.
use Rattle.std.proofs.Common.{◌∙◌, subst, sym}
use Rattle.pac_request.specs.declared.request.Request.{Request}
use Rattle.pac_engine.specs.Handled.{IsHandled}
use Rattle.pac_engine.proofs.parts.EngineParts.handle.Goals as goal

pub returns-in-Err-Save-clause-handled : goal.returns-in-Err-Save-clause-handled
returns-in-Err-Save-clause-handled g c =
    subst (λ (asked : Request). IsHandled g.D.Disk.known g.D.Disk.faults asked c.args.self.now c.checkpoint.new.self c.args.devices.now c.checkpoint.new.devices c.checkpoint.result)
    (sym c.in-Err-Save.field-0-is ∙ c.in-Err-Save.ensures.other.0) c.checkpoint.ensures.handled
