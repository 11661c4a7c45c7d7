-- The order of piece-sets.
use Rattle.std.specs.declared.cmp.Ordering.{Ordering}
use Rattle.std.specs.Ordering.{nat_cmp, ordering_then}
use Rattle.pac_sets.specs.declared.set_id.SetId.{SetId}

-- by batch, then by block
abbrev pub set_cmp : SetId → SetId → Ordering
set_cmp a b = ordering_then (nat_cmp a.batch b.batch) (nat_cmp a.block b.block)
