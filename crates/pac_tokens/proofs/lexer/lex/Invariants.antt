use Rattle.std.proofs.Common.{◌≡◌, ◌+◌, ◌≤◌, ◌++◌, List, length, Option}
use Rattle.pac_tokens.specs.declared.token.Spanned.{Spanned}
use Rattle.pac_tokens.specs.declared.fault.Fault.{Fault}
use Rattle.pac_tokens.specs.Tokens.{Lexed, IsLexed}
use Rattle.pac_tokens.proofs.lexer.lex.Given as goal

-- what the rest is, after the tokens so far, the whole text is
abbrev pub invariant-loop-rest : goal.invariant-loop-rest
invariant-loop-rest l = record {
  few : length l.items.items + length l.rest ≤ length l.text;
  offsets : l.at + length l.rest ≡ length l.text;
  lexed : (ts : List Spanned) (f : Option Fault) → Lexed l.before l.at l.rest ts f → IsLexed l.text (l.items.items ++ ts) f;
}

abbrev pub decreases-loop-rest : goal.decreases-loop-rest
decreases-loop-rest l = length l.rest
