-- The batch is added, or all is as it was.
use Rattle.std.proofs.Common.{◌≡◌, sym, subst}
use Rattle.std.specs.Prelude.{Result, Ok, Err, OnOk, OnErr}
use Rattle.pac_value.specs.State.{Tables}
use Rattle.pac_ops.specs.declared.batch.Batch.{Batch}
use Rattle.pac_piece.specs.InPlace.{Place}
use Rattle.pac_in_order.specs.declared.line.Line.{Line}
use Rattle.pac_in_order.specs.Courses.{Course, MayFollow, course_with_batch}
use Rattle.pac_in_order.specs.Lines.{IsAddedNone, IsAddedTo, KeepsLine, course_of, opening_tables}
use Rattle.pac_in_order.proofs.Loading.{load_is, load_keeps, none_is, none_keeps}
use Rattle.pac_in_order.proofs.in_order.InOrder.load.Goals as goal

kept : {E : Type 0} (line : Line) (opening : Tables) (place : Place) → KeepsLine line place opening → (batch : Batch) → MayFollow (course_of line opening) batch → (new : Line)
    → (r : Result (Unit {0}) E) → OnOk r (IsAddedTo line batch new) → OnErr r (IsAddedNone line new) → KeepsLine new place opening
kept line opening place keeps batch may new (Ok u) ok err = load_keeps line opening place keeps batch may new ok
kept line opening place keeps batch may new (Err e) ok err = none_keeps line opening new err place keeps

is_ok : {E : Type 0} (line : Line) (opening : Tables) (place : Place) → KeepsLine line place opening → (batch : Batch) → MayFollow (course_of line opening) batch → (new : Line)
    → (r : Result (Unit {0}) E) → OnOk r (IsAddedTo line batch new) → OnOk r (course_of new opening ≡ course_with_batch (course_of line opening) batch)
is_ok line opening place keeps batch may new (Ok u) ok = load_is line opening place keeps batch may new ok
is_ok line opening place keeps batch may new (Err e) ok = tt

is_err : {E : Type 0} (line : Line) (opening : Tables) (new : Line) → (r : Result (Unit {0}) E) → OnErr r (IsAddedNone line new) → OnErr r (course_of new opening ≡ course_of line opening)
is_err line opening new (Ok u) err = tt
is_err line opening new (Err e) err = none_is line opening new err

pub invariant_of-self : goal.invariant_of-self
invariant_of-self g c =
    let opening : Tables = opening_tables g.R.Rows.held c.self.inside.opening.items in
    let may : MayFollow (course_of c.self.inside.line opening) c.args.batch = subst (λ (x : Course). MayFollow x c.args.batch) (sym c.self.view_is) c.requires.may in
    kept c.self.inside.line opening c.self.inside.place c.self.invariant c.args.batch may c.load.new.self c.load.result c.load.ensures.ok c.load.ensures.err

pub returns-clause-ok : goal.returns-clause-ok
returns-clause-ok g c =
    let opening : Tables = opening_tables g.R.Rows.held c.self.inside.opening.items in
    let may : MayFollow (course_of c.self.inside.line opening) c.args.batch = subst (λ (x : Course). MayFollow x c.args.batch) (sym c.self.view_is) c.requires.may in
    subst (λ (x : Course). OnOk c.load.result (course_of c.load.new.self opening ≡ course_with_batch x c.args.batch)) c.self.view_is
    (is_ok c.self.inside.line opening c.self.inside.place c.self.invariant c.args.batch may c.load.new.self c.load.result c.load.ensures.ok)

pub returns-clause-err : goal.returns-clause-err
returns-clause-err g c =
    let opening : Tables = opening_tables g.R.Rows.held c.self.inside.opening.items in
    subst (λ (x : Course). OnErr c.load.result (course_of c.load.new.self opening ≡ x)) c.self.view_is
    (is_err c.self.inside.line opening c.load.new.self c.load.result c.load.ensures.err)
