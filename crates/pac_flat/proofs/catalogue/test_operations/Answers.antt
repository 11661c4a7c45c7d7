-- Where operations are few, there is no excess.
use Rattle.std.proofs.Common.{List, Result, Ok, Err, rules, subst, sym}
use Rattle.std.specs.Prelude.{IsOk, MatchResult}
use Rattle.pac_types.specs.declared.procedure.Proc.{Proc}
use Rattle.pac_types.specs.OperationLimits.{HasFewOperations, IsFirstExcess}
use Rattle.pac_flat.specs.declared.catalogue.TooManyOps.{TooManyOps}
use Rattle.pac_flat.proofs.ExcessLemmas.{within-none}
use Rattle.pac_flat.proofs.catalogue.test_operations.Goals as goal

taken : {T : Type 0} (procs : List Proc) (r : Result T TooManyOps) → MatchResult r (λ _. HasFewOperations procs) (λ fault. IsFirstExcess procs fault.proc fault.count) → HasFewOperations procs → IsOk r
taken procs (Ok t) h few = search rules
taken procs (Err fault) h few = absurd (within-none procs fault.proc fault.count few h.here)

pub returns-clause-only : goal.returns-clause-only
returns-clause-only c = λ few. taken c.procs.result.now c.test_counts.result c.test_counts.ensures (subst (λ (procs : List Proc). HasFewOperations procs) (sym c.procs.ensures.value) few)
