-- The variables so far have the same value in both.
use Rattle.std.proofs.Common.{◌≡◌, ◌<◌, ℕ, get_or}
use Rattle.std.specs.FinMap.{get}
use Rattle.pac_core.proofs.values.are_values.Given as goal

abbrev pub invariant-loop-var : goal.invariant-loop-var
invariant-loop-var l = (j : ℕ) → j < l.var-index → get l.env (get_or l.vars j 0) ≡ get l.kept (get_or l.vars j 0)
