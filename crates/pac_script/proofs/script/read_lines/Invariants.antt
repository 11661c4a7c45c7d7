use Rattle.std.proofs.Common.{◌≤◌, ◌+◌, length}
use Rattle.pac_script.specs.Cutting.{next_txn}
use Rattle.pac_script.specs.Lines.{lines}
use Rattle.pac_script.proofs.ReadingLemmas.{Reading}
use Rattle.pac_script.proofs.script.read_lines.Given as goal

-- the lines before are read, and each of them took a byte and a number at most
abbrev pub invariant-loop-batcher : goal.invariant-loop-batcher
invariant-loop-batcher l = record {
  reading : Reading l.catalogue (lines l.text) (lines l.rest) l.number l.batcher;
  few : l.number + length l.rest ≤ length l.text + 1;
  numbers : next_txn l.batcher ≤ l.number;
}

abbrev pub decreases-loop-batcher : goal.decreases-loop-batcher
decreases-loop-batcher l = length l.rest
