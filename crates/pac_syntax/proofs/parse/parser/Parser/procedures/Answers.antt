use Rattle.std.proofs.Common.{ℕ, List, [], ◌∷◌, ◌++◌, ◌+◌, ◌∙◌, ap, length, arith}
use Rattle.std.proofs.lemmas.Result.{err_from_is_err_and}
use Rattle.pac_syntax.specs.declared.tree.ProcNode.{ProcNode}
use Rattle.pac_syntax.specs.Machine.{MoreProcs}
use Rattle.pac_syntax.proofs.Stepping.{proc_next, proc_past, no_proc, counted, fails_along}
use Rattle.pac_syntax.proofs.parse.parser.Parser.procedures.Goals as goal

pub returns-then-len-ge-MAX_PROCS-clause-run : goal.returns-then-len-ge-MAX_PROCS-clause-run
returns-then-len-ge-MAX_PROCS-clause-run c = λ k. c.loop-at.invariant.run k ∙ proc_past _ _ _ k _ _ _ (omega (arith, c.len.ensures, c.loop-at.procs.ok.0, c.if-len-ge-MAX_PROCS.true)) c.in-Some.ensures.token

pub returns-in_err-proc-clause-run : goal.returns-in_err-proc-clause-run
returns-in_err-proc-clause-run c =
    let p = err_from_is_err_and c.from_residual.result c.from_residual.ensures.1 in
    λ k. rw (p.1, p.2) (fails_along _ _ _
    (c.loop-at.invariant.run k ∙ proc_next _ _ _ _ k _ _ _ c.takes_keyword.ensures.end (omega (arith, c.len.ensures, c.loop-at.procs.ok.0, c.if-len-ge-MAX_PROCS.false)) c.in-Some.ensures.token)
    (c.in_err-proc.ensures.run (λ x. MoreProcs (length c.loop-at.procs.items + 1) (c.loop-at.procs.items ++ (x ∷ [])) k)))

pub loop-at-preserved : goal.loop-at-preserved
loop-at-preserved c = record {
  left = omega (arith, c.loop-at.invariant.left, c.in_ok-proc.ensures.left, ap length c.in-Some.ensures.token.text);
  run = λ k. c.loop-at.invariant.run k ∙ proc_next _ _ _ _ k _ _ _ c.takes_keyword.ensures.end (omega (arith, c.len.ensures, c.loop-at.procs.ok.0, c.if-len-ge-MAX_PROCS.false)) c.in-Some.ensures.token
      ∙ c.in_ok-proc.ensures.run (λ x. MoreProcs (length c.loop-at.procs.items + 1) (c.loop-at.procs.items ++ (x ∷ [])) k)
      ∙ counted (λ (i : ℕ) (xs : List ProcNode). MoreProcs i xs k) _ _ _ _ _ c.in_ok-push.ensures.items;
}

pub returns-clause-run : goal.returns-clause-run
returns-clause-run c = λ k. c.loop-at.invariant.run k ∙ rw c.in_default.ensures.token.0 (no_proc _ _ _ _ k _ c.takes_keyword.ensures.end c.in_default.ensures.token.1)
