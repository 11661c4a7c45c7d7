use Rattle.std.proofs.Common.{◌≡◌, ◌≤◌, List, [], ◌∷◌, length}
use Rattle.pac_syntax.specs.declared.tree.ColumnNode.{ColumnNode}
use Rattle.pac_syntax.specs.Machine.{Steps, MoreColumns, run}
use Rattle.pac_syntax.specs.Views.{role_of}
use Rattle.pac_syntax.proofs.parse.parser.Parser.more_columns.Given as goal

-- to read on after what was read is to read the whole
abbrev pub invariant-loop-self : goal.invariant-loop-self
invariant-loop-self l = record {
  left : length l.self.rest.now ≤ length l.fn.self.rest.now;
  run : (k : List ColumnNode → Steps) → run l.fn.self.end (MoreColumns (role_of l.owner) 1 (l.fn.first ∷ []) k) l.fn.self.rest.now ≡ run l.self.end (MoreColumns (role_of l.owner) (length l.columns.items) l.columns.items k) l.self.rest.now;
}

abbrev pub decreases-loop-self : goal.decreases-loop-self
decreases-loop-self l = length l.self.rest.now
