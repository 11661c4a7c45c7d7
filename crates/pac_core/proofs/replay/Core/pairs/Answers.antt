-- Those that the progress keeps, which are few.
use Rattle.std.proofs.Common.{◌≤◌, ◌+◌, ◌*◌, length, subst, arith}
use Rattle.pac_core.specs.Calls.{touches_loaded}
use Rattle.pac_core.specs.Moves.{pairs_kept}
use Rattle.pac_core.specs.Replay.{Replay, loaded_pieces}
use Rattle.pac_core.proofs.PairsKept.{few_pairs}
use Rattle.pac_core.proofs.replay.Core.pairs.Goals as goal

pub returns : goal.returns
returns g c =
    let p = c.self.inside.progress in
    let core = c.self.invariant in
    let few = subst (λ (r : Replay). pairs_kept p.sets.sets ≤ 2 * touches_loaded r + 2 * length (loaded_pieces r)) c.self.view_is (few_pairs _ p core.progress) in
    let found = c.pairs.ensures in
    omega (arith, few, found)
