-- The batch that goes is the first one, at whose end the place is.
use Rattle.std.proofs.Common.{◌≡◌, [], ◌∷◌, ◌++◌, refl, sym, ap, ◌∙◌}
use Rattle.std.specs.Prelude.{slice_index_or, drop}
use Rattle.pac_ops.specs.declared.batch.Batch.{Batch}
use Rattle.pac_in_order.specs.Lines.{opening_tables}
use Rattle.pac_in_order.proofs.Moves.{gone_keeps, gone_same}
use Rattle.pac_in_order.proofs.line.Line.let_go.Goals as goal

pub returns-clause-keeps : goal.returns-clause-keeps
returns-clause-keeps g c =
    let front = c.requires.finished in
    let items : front.0 ∷ front.1 ≡ c.in-Some.batch ∷ c.pop_front.new.self.items = sym front.2 ∙ c.in-Some.ensures.items in
    let same : c.in-Some.batch ≡ front.0 = ap (λ l. slice_index_or l 0 front.0) (sym items) in
    gone_keeps c.args.self.now (opening_tables g.R.Rows.held c.args.opening.now.items) c.args.place.now c.requires.keeps front.0 front.1 front.2 front.3 (record c.args.self.now { gone = c.with.result; batches = c.pop_front.new.self; txn = 0 })
    (c.with.ensures ∙ ap (λ (b : Batch). c.args.self.now.gone.items ++ b ∷ []) same) (ap (λ l. drop 1 l) (sym items)) refl

pub returns-clause-same : goal.returns-clause-same
returns-clause-same g c =
    let front = c.requires.finished in
    let items : front.0 ∷ front.1 ≡ c.in-Some.batch ∷ c.pop_front.new.self.items = sym front.2 ∙ c.in-Some.ensures.items in
    let same : c.in-Some.batch ≡ front.0 = ap (λ l. slice_index_or l 0 front.0) (sym items) in
    gone_same c.args.self.now (opening_tables g.R.Rows.held c.args.opening.now.items) c.args.place.now c.requires.keeps front.0 front.1 front.2 front.3 (record c.args.self.now { gone = c.with.result; batches = c.pop_front.new.self; txn = 0 })
    (c.with.ensures ∙ ap (λ (b : Batch). c.args.self.now.gone.items ++ b ∷ []) same) (ap (λ l. drop 1 l) (sym items)) refl
