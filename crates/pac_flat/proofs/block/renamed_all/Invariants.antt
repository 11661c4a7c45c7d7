-- The expressions so far.
use Rattle.std.proofs.Common.{◌≡◌, map, take}
use Rattle.pac_types.specs.Unrolled.{renamed}
use Rattle.pac_flat.specs.Names.{point_of}
use Rattle.pac_flat.proofs.block.renamed_all.Given as goal

abbrev pub invariant-loop-expr : goal.invariant-loop-expr
invariant-loop-expr l = l.all.items ≡ map (renamed (point_of l.point).names) (take l.expr-index l.exprs)
