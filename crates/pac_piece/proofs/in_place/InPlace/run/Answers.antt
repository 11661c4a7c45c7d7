-- Its code can be run where no piece is in course, and what it leaves is seen from outside.
use Rattle.std.proofs.Common.{◌≡◌, ◌<◌, List, take, sym, ap, ◌∙◌, subst}
use Rattle.pac_ops.specs.Operations.{State}
use Rattle.pac_plan.specs.Codes.{code_ops}
use Rattle.pac_tables.specs.declared.writes.Write.{Write}
use Rattle.pac_tables.specs.Written.{written}
use Rattle.pac_piece.specs.Frames.{after_ops}
use Rattle.pac_piece.specs.InPlace.{Place, state_found, state_here}
use Rattle.pac_piece.specs.Sources.{HaveTables}
use Rattle.pac_piece.specs.Values.{CanRunCode}
use Rattle.pac_piece.proofs.LeaveLemmas.{on_err}
use Rattle.pac_piece.proofs.RunnableLemmas.{runnable}
use Rattle.pac_piece.proofs.TableLemmas.{runnable_tables}
use Rattle.pac_piece.proofs.in_place.InPlace.run.Goals as goal

pub run_piece-requires-clause-can : goal.run_piece-requires-clause-can
run_piece-requires-clause-can g c =
    let held = g.R.Rows.held in
    let old = c.args.self.now in
    let ground = c.self.inside.ground in
    let found : state_found old ≡ state_here held ground =
    ap state_found (sym c.self.view_is) ∙ ap (λ (ws : List Write). record { env = ground.frame.env; tables = written (held ground.rows) ws }) (sym c.self.invariant.writes) in
    subst (λ (s : State). CanRunCode c.args.code.now s) found (runnable c.args.piece.block c.args.code.now old.values old.tables c.requires.runnable)

pub run_piece-requires-clause-there : goal.run_piece-requires-clause-there
run_piece-requires-clause-there g c =
    let old = c.args.self.now in
    subst (λ n. HaveTables (λ t. t < n) (code_ops c.args.code.now)) (ap (λ (p : Place). p.count) (sym c.self.view_is))
    (runnable_tables c.args.piece.block c.args.code.now old.values old.count old.tables c.requires)

pub returns-clause-err : goal.returns-clause-err
returns-clause-err g c =
    let held = g.R.Rows.held in
    let old = c.args.self.now in
    let ground = c.self.inside.ground in
    let found : state_found old ≡ state_here held ground =
    ap state_found (sym c.self.view_is) ∙ ap (λ (ws : List Write). record { env = ground.frame.env; tables = written (held ground.rows) ws }) (sym c.self.invariant.writes) in
    on_err c.run_piece.result (λ stops same. record {
      tables = same.0 ∙ ap (λ (p : Place). p.tables) c.self.view_is;
      note = same.1 ∙ ap (λ (p : Place). p.note) c.self.view_is;
      size = c.run_piece.ensures.tables ∙ ap (λ (p : Place). p.count) c.self.view_is;
      done = stops.count;
      values = stops.values ∙ sym (ap (λ (s : State). (after_ops (take stops.count (code_ops c.args.code.now)) s).env) found);
    }) c.run_piece.ensures.values c.run_piece.ensures.same
