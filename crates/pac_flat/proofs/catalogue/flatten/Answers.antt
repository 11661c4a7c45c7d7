-- What the programs of numbered procedures mean.
use Rattle.std.proofs.Common.{◌≡◌, Result, Err, arith, ap, map, sym, subst, List, ◌∙◌}
use Rattle.std.specs.List.{AllZip}
use Rattle.std.proofs.lemmas.Result.{err_from_is_err_and}
use Rattle.pac_base.specs.declared.refusal.Refusal.{Refusal}
use Rattle.pac_base.specs.declared.refusal.Refusal.TheVariants.{Fault as AFault}
use Rattle.pac_flat.specs.declared.catalogue.TooManyOps.{TooManyOps}
use Rattle.pac_ops.specs.declared.program.Program.{Program}
use Rattle.pac_ops.specs.Programs.{AreWellFormedPrograms, count_ops}
use Rattle.pac_types.specs.Fits.{shape}
use Rattle.pac_flat.specs.Agreement.{MeansTheSame, ReplaysTheSame}
use Rattle.pac_flat.specs.FlatForm.{program_of}
use Rattle.pac_flat.proofs.FormLemmas.{count_all}
use Rattle.pac_flat.proofs.LawLemmas.{all_mean_the_same, replays_the_same}
use Rattle.pac_flat.proofs.WellFormedProgram.{well_formed_programs}
use Rattle.pac_flat.proofs.catalogue.flatten.Goals as goal
use Rattle.pac_flat.proofs.catalogue.flatten.Goals.{In_ok-flat_programs}

programs_are : (c : In_ok-flat_programs) → c.in_ok-flat_programs.field-0.items ≡ map program_of c.args.cat.now.procs
programs_are c = c.in_ok-flat_programs.ensures ∙ ap (map program_of) c.procs.ensures.value

-- a result holds one fault
same_fault : {T : Type 0} (r : Result T (Refusal TooManyOps)) (e : Refusal TooManyOps) (f g : TooManyOps) → r ≡ Err e → e ≡ AFault f → r ≡ Err (AFault g) → f ≡ g
same_fault r e f g a b h = cc

pub returns-in_err-test_operations-clause-fault : goal.returns-in_err-test_operations-clause-fault
returns-in_err-test_operations-clause-fault c =
    let p = err_from_is_err_and c.from_residual.result c.from_residual.ensures.1 in
    λ fault is. c.in_err-test_operations.ensures.fault fault (ap (λ f. Err f) (same_fault _ p.0 _ fault p.1 p.2 is))

pub returns-clause-means : goal.returns-clause-means
returns-clause-means c = subst (λ (programs : List Program). AllZip MeansTheSame c.args.cat.now.procs programs) (sym (programs_are c))
    (all_mean_the_same c.args.cat.now.procs)

pub returns-clause-replays : goal.returns-clause-replays
returns-clause-replays c = subst (λ (programs : List Program). ReplaysTheSame c.args.cat.now.procs programs) (sym (programs_are c))
    (replays_the_same c.args.cat.now.procs)

pub returns-clause-well_formed : goal.returns-clause-well_formed
returns-clause-well_formed c = subst (λ (programs : List Program). AreWellFormedPrograms (map shape c.args.cat.now.tables) programs) (sym (programs_are c))
    (well_formed_programs c.args.cat.now.tables c.args.cat.now.procs c.procs.ensures.well_formed c.in_ok-test_operations.ensures.few)

pub returns-clause-counted : goal.returns-clause-counted
returns-clause-counted c = omega (arith, c.in_ok-test_operations.ensures.few.all, count_all c.args.cat.now.procs, ap count_ops (programs_are c))
