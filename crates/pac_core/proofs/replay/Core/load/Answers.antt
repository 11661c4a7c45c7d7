-- The batch is added, or all is as it was.
use Rattle.std.proofs.Common.{◌≡◌, ◌+◌, length, sym, subst, ◌∙◌}
use Rattle.std.specs.Prelude.{OnErr, OnOk}
use Rattle.pac_plan.specs.Codes.{TxnFitsPlan}
use Rattle.pac_core.specs.Calls.{MayLoad}
use Rattle.pac_core.specs.Links.{core_of}
use Rattle.pac_core.specs.Replay.{Replay, left, loaded_pieces, with_batch_loaded}
use Rattle.pac_core.proofs.CoreLoads.{load_core, load_is, load_left, load_same}
use Rattle.pac_core.proofs.Marks.{fits_plan}
use Rattle.pac_core.proofs.OpenedSets.{all_by}
use Rattle.pac_core.proofs.replay.Core.load.Goals as goal

pub load-requires-clause-may : goal.load-requires-clause-may
load-requires-clause-may g c =
    let p = c.self.inside.progress in
    let may : MayLoad (core_of p c.self.inside.rows) c.args.batch = subst (λ (r : Replay). MayLoad r c.args.batch) (sym c.self.view_is) c.requires.may in
    record {
      first = may.first ∙ sym c.self.invariant.progress.next;
      fits = all_by (TxnFitsPlan p.pieces) c.args.batch.txns (λ i txn e. fits_plan p.pieces txn (may.fits i txn e));
    }

pub invariant_of-self : goal.invariant_of-self
invariant_of-self g c =
    let p = c.self.inside.progress in
    let may : MayLoad (core_of p c.self.inside.rows) c.args.batch = subst (λ (r : Replay). MayLoad r c.args.batch) (sym c.self.view_is) c.requires.may in
    load_core p c.self.inside.rows c.self.invariant c.args.batch (may.first ∙ sym c.self.invariant.progress.next) may.fits c.load.new.self c.load.result c.load.ensures.ok c.load.ensures.err

pub returns-clause-ok : goal.returns-clause-ok
returns-clause-ok g c =
    let p = c.self.inside.progress in
    let u = c.self.inside.rows in
    let may : MayLoad (core_of p u) c.args.batch = subst (λ (r : Replay). MayLoad r c.args.batch) (sym c.self.view_is) c.requires.may in
    subst (λ (r : Replay). OnOk c.load.result (core_of c.load.new.self u ≡ with_batch_loaded r c.args.batch)) c.self.view_is
    (load_is p u c.self.invariant c.args.batch (may.first ∙ sym c.self.invariant.progress.next) may.fits c.load.new.self c.load.result c.load.ensures.ok)

pub returns-clause-left : goal.returns-clause-left
returns-clause-left g c =
    let p = c.self.inside.progress in
    let u = c.self.inside.rows in
    let may : MayLoad (core_of p u) c.args.batch = subst (λ (r : Replay). MayLoad r c.args.batch) (sym c.self.view_is) c.requires.may in
    subst (λ (r : Replay). OnOk c.load.result (left (core_of c.load.new.self u) + length (loaded_pieces r) ≡ left r + length (loaded_pieces (core_of c.load.new.self u)))) c.self.view_is
    (load_left p u c.self.invariant c.args.batch (may.first ∙ sym c.self.invariant.progress.next) may.fits c.load.new.self c.load.result c.load.ensures.ok)

pub returns-clause-err : goal.returns-clause-err
returns-clause-err g c =
    let p = c.self.inside.progress in
    let u = c.self.inside.rows in
    let may : MayLoad (core_of p u) c.args.batch = subst (λ (r : Replay). MayLoad r c.args.batch) (sym c.self.view_is) c.requires.may in
    subst (λ (r : Replay). OnErr c.load.result (core_of c.load.new.self u ≡ r)) c.self.view_is
    (load_same p u c.self.invariant c.args.batch (may.first ∙ sym c.self.invariant.progress.next) may.fits c.load.new.self c.load.result c.load.ensures.err)
