-- What `flatten` refuses is the first procedure at which operations are too many.
use Rattle.std.proofs.Common.{Err, ap, sym, subst}
use Rattle.pac_flat.specs.declared.catalogue.TooManyOps.{TooManyOps}
use Rattle.pac_types.specs.OperationLimits.{IsFirstExcess}
use Rattle.pac_main.proofs.explanation.graph_text.Goals as goal

pub excess_fault-requires : goal.excess_fault-requires
excess_fault-requires c =
    subst (λ (e : TooManyOps). IsFirstExcess c.args.catalogue.now.procs e.proc e.count) (sym c.in-Err-Fault.excess-is)
    (c.in-Err-Fault.ensures.fault c.in-Err-Fault.excess (ap (λ e. Err e) c.in-Err-Fault.field-0-is))
