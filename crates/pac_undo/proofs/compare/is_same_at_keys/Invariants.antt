-- The tables are the same at the keys so far.
use Rattle.std.proofs.Common.{◌≡◌, ◌<◌, ℕ, get_or, map}
use Rattle.std.specs.FinMap.{get}
use Rattle.pac_value.specs.declared.values.Key.{Key}
use Rattle.pac_tables.specs.Written.{written}
use Rattle.pac_undo.proofs.compare.is_same_at_keys.Given as goal

abbrev pub invariant-loop-key : goal.invariant-loop-key
invariant-loop-key g l =
    (k : ℕ) (d : Key) → k < l.key-index → get (g.R.Rows.held l.other) (l.table, get_or (map (λ e. e.0.now) l.listed) k d) ≡ get (written (g.R.Rows.held l.rows) l.before) (l.table, get_or (map (λ e. e.0.now) l.listed) k d)
