-- What is kept is written beside the set's number.
use Rattle.std.proofs.Common.{Option, Some, ap, ◌∙◌}
use Rattle.std.proofs.lemmas.Option.{slice_get_within}
use Rattle.std.proofs.Math.ListN.{set}
use Rattle.pac_sets.specs.Sets.{Kept}
use Rattle.pac_sets.proofs.KeptLemmas.{with_kept_set}
use Rattle.pac_sets.proofs.sets.exchange_kept.Goals as goal

pub returns-clause-new : goal.returns-clause-new
returns-clause-new g c =
    ap (λ (kept : Option g.row.P.Denot). set c.args.sets.now.items c.args.at (c.index_mut.result.now.0, kept)) c.replace.ensures.after
    ∙ ap (λ (e : Kept g.row.P.Denot). set c.args.sets.now.items c.args.at (e.0, Some c.args.kept)) c.index_mut.ensures.value
    ∙ with_kept_set c.args.sets.now.items c.args.at (Some c.args.kept) c.index_mut.result.now
    (slice_get_within c.args.sets.now.items c.args.at (c.requires.0, Some c.requires.1) c.requires.2)
