use Rattle.std.proofs.Common.{◌≡◌, ◌≤◌, ◌++◌, false, length, take, drop}
use Rattle.pac_tokens.specs.Lexing.{unescaped}
use Rattle.pac_tokens.proofs.text.unescape.Given as goal

-- the text is what was read and what is read from here
abbrev pub invariant-loop-byte : goal.invariant-loop-byte
invariant-loop-byte l = record {
  few : l.len ≤ 64;
  room : length l.room ≡ 64;
  text : unescaped false l.bytes ≡ take l.len l.room ++ unescaped l.escaped (drop l.byte-index l.bytes);
}
