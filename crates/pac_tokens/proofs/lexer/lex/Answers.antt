use Rattle.std.proofs.Common.{◌≡◌, ◌≤◌, length, drop, arith}
use Rattle.std.proofs.lemmas.Grind.{common_steps}
use Rattle.std.proofs.lemmas.List.{nil_from_length, take_rest}
use Rattle.pac_tokens.proofs.LexLemmas.{all_read, faulty}
use Rattle.pac_tokens.proofs.lexer.lex.Goals as goal

pub returns-then-is_empty-clause-lexed : goal.returns-then-is_empty-clause-lexed
returns-then-is_empty-clause-lexed c =
    let h : length (drop c.gap_len-gap.result c.loop-rest.rest.now) ≡ 0 = grind (arith, common_steps, c.is_empty.ensures, c.if-is_empty.true) in
    all_read _ _ _ _ _ _ c.loop-rest.invariant.lexed c.gap_len-gap.ensures.gap (nil_from_length _ h)

pub returns-in-Refused-clause-lexed : goal.returns-in-Refused-clause-lexed
returns-in-Refused-clause-lexed c =
    let h : 1 ≤ length (drop c.gap_len-gap.result c.loop-rest.rest.now) = grind (arith, common_steps, c.is_empty.ensures, c.if-is_empty.false) in
    let step = rw c.in-Refused.is at c.in_ok-kind.ensures.step in
    rw step.0 (faulty _ _ _ _ _ _ c.in-Refused.kind c.loop-rest.invariant.lexed c.gap_len-gap.ensures.gap (simp take_rest at step.1) h)
