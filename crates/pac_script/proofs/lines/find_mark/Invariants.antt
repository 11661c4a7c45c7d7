-- a line begins here, and none before it is the mark
use Rattle.std.proofs.Common.{◌≡◌, ◌≤◌, ◌<◌, ◌-◌, ℕ, true, false, length}
use Rattle.pac_script.specs.Lines.{begins_line, is_mark_at}
use Rattle.pac_script.proofs.lines.find_mark.Given as goal

abbrev pub invariant-loop-rest : goal.invariant-loop-rest
invariant-loop-rest l = record {
  within : l.at ≤ length l.text;
  line : begins_line l.text l.at ≡ true;
  before : (j : ℕ) → j < l.at → is_mark_at l.text j ≡ false;
}

abbrev pub decreases-loop-rest : goal.decreases-loop-rest
decreases-loop-rest l = length l.text - l.at
