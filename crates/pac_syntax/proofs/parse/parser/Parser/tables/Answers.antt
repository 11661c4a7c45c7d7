use Rattle.std.proofs.Common.{ℕ, List, [], ◌∷◌, ◌++◌, ◌+◌, ◌∙◌, ap, length, arith}
use Rattle.std.proofs.lemmas.Result.{err_from_is_err_and}
use Rattle.pac_syntax.specs.declared.tree.TableNode.{TableNode}
use Rattle.pac_syntax.specs.Machine.{MoreTables}
use Rattle.pac_syntax.proofs.Stepping.{table_next, table_past, no_table, counted, fails_along}
use Rattle.pac_syntax.proofs.parse.parser.Parser.tables.Goals as goal

pub returns-then-len-ge-MAX_TABLES-clause-run : goal.returns-then-len-ge-MAX_TABLES-clause-run
returns-then-len-ge-MAX_TABLES-clause-run c = λ k. c.loop-at.invariant.run k ∙ table_past _ _ _ k _ _ _ (omega (arith, c.len.ensures, c.loop-at.tables.ok.0, c.if-len-ge-MAX_TABLES.true)) c.in-Some.ensures.token

pub returns-in_err-table-clause-run : goal.returns-in_err-table-clause-run
returns-in_err-table-clause-run c =
    let p = err_from_is_err_and c.from_residual.result c.from_residual.ensures.1 in
    λ k. rw (p.1, p.2) (fails_along _ _ _
    (c.loop-at.invariant.run k ∙ table_next _ _ _ _ k _ _ _ c.takes_keyword.ensures.end (omega (arith, c.len.ensures, c.loop-at.tables.ok.0, c.if-len-ge-MAX_TABLES.false)) c.in-Some.ensures.token)
    (c.in_err-table.ensures.run (λ x. MoreTables (length c.loop-at.tables.items + 1) (c.loop-at.tables.items ++ (x ∷ [])) k)))

pub loop-at-preserved : goal.loop-at-preserved
loop-at-preserved c = record {
  left = omega (arith, c.loop-at.invariant.left, c.in_ok-table.ensures.left, ap length c.in-Some.ensures.token.text);
  run = λ k. c.loop-at.invariant.run k ∙ table_next _ _ _ _ k _ _ _ c.takes_keyword.ensures.end (omega (arith, c.len.ensures, c.loop-at.tables.ok.0, c.if-len-ge-MAX_TABLES.false)) c.in-Some.ensures.token
      ∙ c.in_ok-table.ensures.run (λ x. MoreTables (length c.loop-at.tables.items + 1) (c.loop-at.tables.items ++ (x ∷ [])) k)
      ∙ counted (λ (i : ℕ) (xs : List TableNode). MoreTables i xs k) _ _ _ _ _ c.in_ok-push.ensures.items;
}

pub returns-clause-run : goal.returns-clause-run
returns-clause-run c = λ k. c.loop-at.invariant.run k ∙ rw c.in_default.ensures.token.0 (no_table _ _ _ _ k _ c.takes_keyword.ensures.end c.in_default.ensures.token.1)
