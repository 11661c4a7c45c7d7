-- What is passed over, and then what is taken.
use Rattle.std.proofs.Common.{subst}
use Rattle.std.proofs.lemmas.Result.{err_from_is_err_and}
use Rattle.pac_log.specs.declared.errors.LogError.TheVariants as error
use Rattle.pac_restore.specs.Reads.{IsSought}
use Rattle.pac_restore.proofs.CauseLemmas.{as-error, the-cause}
use Rattle.pac_restore.proofs.FromLemmas.{damage-from, missed-from, read-all}
use Rattle.pac_restore.proofs.segment.read_from.Goals as goal

pub returns-then-not-met-clause-missed : goal.returns-then-not-met-clause-missed
returns-then-not-met-clause-missed g c = λ none. missed-from _ _ _ _ (subst (λ t. IsSought (g.D.Disk.known c.args.disk.now) c.args.newest c.args.reader.now.gate c.seek.new.reader.gate t) c.if-not-met.true c.in_ok-met.ensures.sought)

pub returns-in_err-met-clause-damaged : goal.returns-in_err-met-clause-damaged
returns-in_err-met-clause-damaged g c = λ at kind is.
    let r = c.from_residual in
    let p = err_from_is_err_and r.result r.ensures.1 in
    c.in_err-met.ensures.damaged at kind (as-error _ _ (the-cause r.result p.0 c.in_err-met.field-0.0 (error.Damaged at kind) p.1 p.2 is))

pub returns-in_err-after-clause-damaged : goal.returns-in_err-after-clause-damaged
returns-in_err-after-clause-damaged g c = λ at kind is header.
    let r = c.from_residual-in_err-after in
    let p = err_from_is_err_and r.result r.ensures.1 in
    let cause = the-cause r.result p.0 c.in_err-after.field-0.0 (error.Damaged at kind) p.1 p.2 is in
    damage-from header _ _ _ _ at kind (g.D.Disk.known c.args.disk.now) (g.D.Disk.known c.seek.new.disk) c.in_ok-met.ensures.same c.in_ok-met.ensures.sought (λ before. c.in_err-after.ensures.damaged at kind (as-error _ _ cause) header before)

pub returns-clause-read : goal.returns-clause-read
returns-clause-read g c = read-all _ _ _ _ _ (g.D.Disk.known c.args.disk.now) (g.D.Disk.known c.seek.new.disk) c.in_ok-met.ensures.same
    (subst (λ t. IsSought (g.D.Disk.known c.args.disk.now) c.args.newest c.args.reader.now.gate c.seek.new.reader.gate t) c.if-not-met.false c.in_ok-met.ensures.sought) c.in_ok-after.ensures.taken
