use Rattle.std.proofs.Common.{sym, ◌∙◌}
use Rattle.pac_syntax.proofs.Stepping.{no_stmt_left, no_stmt, stmt_next, stmt_past, role_of_word}
use Rattle.pac_syntax.proofs.parse.parser.Parser.next_statement.Goals as goal

pub returns-in_default-clause-run : goal.returns-in_default-clause-run
returns-in_default-clause-run c = λ ss k. no_stmt_left _ _ ss k _ c.in_default.ensures

pub returns-in_default-statement_word-clause-run : goal.returns-in_default-statement_word-clause-run
returns-in_default-statement_word-clause-run c = λ ss k. no_stmt _ _ ss k _ _ _ c.in-Some.ensures (sym c.statement_word.ensures ∙ c.in_default-statement_word.is)

pub returns-then-stands_too_deep-clause-run : goal.returns-then-stands_too_deep-clause-run
returns-then-stands_too_deep-clause-run c = λ ss k.
    rw c.refuse.ensures (stmt_past _ _ ss k _ _ _ _ c.in-Some.ensures (sym c.statement_word.ensures ∙ c.in-Some-statement_word.is) (sym c.stands_too_deep.ensures ∙ c.if-stands_too_deep.true))

pub returns-clause-run : goal.returns-clause-run
returns-clause-run c = λ ss k.
    stmt_next _ _ ss k _ _ _ _ c.in-Some.ensures (sym c.statement_word.ensures ∙ c.in-Some-statement_word.is) (role_of_word c.args.around c.in-Some.first.at c.in-Some-statement_word.word (sym c.stands_too_deep.ensures ∙ c.if-stands_too_deep.false))
