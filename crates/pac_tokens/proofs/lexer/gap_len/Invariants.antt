use Rattle.std.proofs.Common.{◌≡◌, ◌+◌, false, drop}
use Rattle.pac_tokens.specs.Tokens.{gap_in}
use Rattle.pac_tokens.proofs.lexer.gap_len.Given as goal

-- the gap is what was passed and what is passed from here
abbrev pub invariant-loop-i : goal.invariant-loop-i
invariant-loop-i l = gap_in false l.bytes ≡ l.i + gap_in l.in_comment (drop l.i l.bytes)
