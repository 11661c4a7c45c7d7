-- What is kept is written beside the set's number.
use Rattle.std.proofs.Common.{ap, ◌∙◌}
use Rattle.pac_sets.specs.Sets.{Kept}
use Rattle.std.proofs.Math.ListN.{set}
use Rattle.pac_sets.proofs.KeptLemmas.{with_kept_set}
use Rattle.pac_sets.proofs.sets.set_kept.Goals as goal

pub returns : goal.returns
returns g c =
    ap (λ (e : Kept g.row.P.Denot). set c.args.sets.now.items c.args.at (e.0, c.args.kept)) c.index_mut.ensures.value
    ∙ with_kept_set c.args.sets.now.items c.args.at c.args.kept c.index_mut.result.now c.requires
