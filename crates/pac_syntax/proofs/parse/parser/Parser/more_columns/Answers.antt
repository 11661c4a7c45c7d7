use Rattle.std.proofs.Common.{ℕ, List, [], ◌∷◌, ◌++◌, ◌+◌, ◌∙◌, ap, length, arith}
use Rattle.std.proofs.lemmas.Result.{err_from_is_err_and}
use Rattle.pac_syntax.specs.declared.tree.ColumnNode.{ColumnNode}
use Rattle.pac_syntax.specs.Machine.{MoreColumns}
use Rattle.pac_syntax.specs.Views.{role_of}
use Rattle.pac_syntax.proofs.Stepping.{column_next, no_column, counted, fails_along}
use Rattle.pac_syntax.proofs.parse.parser.Parser.more_columns.Goals as goal

pub returns-in_err-column-clause-run : goal.returns-in_err-column-clause-run
returns-in_err-column-clause-run c =
    let p = err_from_is_err_and c.from_residual-in_err-column.result c.from_residual-in_err-column.ensures.1 in
    λ k. rw (p.1, p.2) (fails_along _ _ _
    (c.loop-self.invariant.run k ∙ column_next _ _ _ _ _ _ k _ _ _ c.takes_symbol.ensures.end (omega (arith, c.len.ensures, c.loop-self.columns.ok.0)) c.in-Some.ensures.token)
    (c.in_err-column.ensures.run (λ x. MoreColumns (role_of c.args.owner) (length c.loop-self.columns.items + 1) (c.loop-self.columns.items ++ (x ∷ [])) k)))

pub loop-self-preserved : goal.loop-self-preserved
loop-self-preserved c = record {
  left = omega (arith, c.loop-self.invariant.left, c.in_ok-column.ensures.left, ap length c.in-Some.ensures.token.text);
  run = λ k. c.loop-self.invariant.run k ∙ column_next _ _ _ _ _ _ k _ _ _ c.takes_symbol.ensures.end (omega (arith, c.len.ensures, c.loop-self.columns.ok.0)) c.in-Some.ensures.token
      ∙ c.in_ok-column.ensures.run (λ x. MoreColumns (role_of c.args.owner) (length c.loop-self.columns.items + 1) (c.loop-self.columns.items ++ (x ∷ [])) k)
      ∙ counted (λ (i : ℕ) (xs : List ColumnNode). MoreColumns (role_of c.args.owner) i xs k) _ _ _ _ _ c.in_ok-push-2.ensures.items;
}

pub returns-clause-run : goal.returns-clause-run
returns-clause-run c = λ k. c.loop-self.invariant.run k ∙ rw c.in_default.ensures.token.0 (no_column _ _ _ _ _ k _ c.takes_symbol.ensures.end c.in_default.ensures.token.1)
