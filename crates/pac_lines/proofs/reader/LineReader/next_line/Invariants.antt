use Rattle.std.proofs.Common.{◌≡◌, ◌≤◌, ◌<◌, ◌+◌, ◌-◌}
use Rattle.pac_lines.specs.Lines.{HasFeed}
use Rattle.pac_lines.specs.Reading.{ReaderState}
use Rattle.pac_lines.specs.Short.{IsShortOf}
use Rattle.pac_lines.proofs.ShortCalls.{IsReadingShort}
use Rattle.pac_lines.proofs.reader.LineReader.next_line.Given as goal

abbrev pub invariant-loop-self : goal.invariant-loop-self
invariant-loop-self g l = record {
  reading : (whole : ReaderState) → IsShortOf whole l.initial.self → IsReadingShort whole l.self (g.S.Source.left l.initial.source) (g.S.Source.left l.source);
  at_hand : HasFeed l.initial.self.state.ahead → (l.source ≡ l.initial.source) × (l.self.state.taken ≡ l.initial.self.state.taken);
  limit : l.self.state.limit ≡ l.initial.self.state.limit;
  most : l.self.most ≡ l.initial.self.most;
  over : l.initial.self.state.limit < l.initial.self.state.taken → l.source ≡ l.initial.source;
  later : g.S.Source.faults l.initial.source ≤ g.S.Source.faults l.source;
}

abbrev pub decreases-loop-self : goal.decreases-loop-self
decreases-loop-self g l = l.self.state.limit + 1 - l.self.state.taken
