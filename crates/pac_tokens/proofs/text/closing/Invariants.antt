use Rattle.std.proofs.Common.{◌≡◌, ◌+◌, false, drop}
use Rattle.std.specs.Option.{option_map}
use Rattle.pac_tokens.specs.Lexing.{closing_in}
use Rattle.pac_tokens.proofs.text.closing.Given as goal

-- the closing quote stands where it stands from here
abbrev pub invariant-loop-i : goal.invariant-loop-i
invariant-loop-i l = closing_in false l.bytes ≡ option_map (λ n. l.i + n) (closing_in l.escaped (drop l.i l.bytes))
