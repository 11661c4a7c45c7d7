-- What the variables of a text stand for, as a list of the first of them says it.
use Rattle.std.specs.Prelude.{List, slice_get, unwrap_or}
use Rattle.pac_value.specs.declared.expr.Expr.{Expr, Var}
use Rattle.pac_types.specs.Unrolled as unrolled
use Rattle.pac_types.specs.Unrolled.{Names}
use Rattle.pac_flat.specs.declared.point.Point.{Point}

-- each stands for what the list has at its number, or else for itself
abbrev pub standing : List Expr → Names
standing es y = unwrap_or (slice_get es y) (Var y)

-- how far unrolling has come
abbrev pub point_of : Point → unrolled.Point
point_of point = record { names = standing point.names.items; next = point.next }
