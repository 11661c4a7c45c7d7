-- The fault of the tree is reported as one of names and types.
use Rattle.pac_types.proofs.OneCatalogue.{reported_is}
use Rattle.pac_types.specs.declared.text.CatalogueFault.TheVariants.{Typing}
use Rattle.std.proofs.Common.{Err, ap}
use Rattle.pac_types.proofs.text.typed.Goals as goal

pub returns-in-Err-Fault-clause-fault : goal.returns-in-Err-Fault-clause-fault
returns-in-Err-Fault-clause-fault c = λ fault is.
    (c.in-Err-Fault.fault, reported_is (Typing c.in-Err-Fault.fault) fault is, c.in-Err-Fault.ensures.fault c.in-Err-Fault.fault (ap (λ e. Err e) c.in-Err-Fault.field-0-is))
