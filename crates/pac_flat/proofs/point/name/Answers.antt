-- The variable stands for something else.
use Rattle.std.proofs.Common.{ap, ◌∙◌, slice_set}
use Rattle.pac_types.specs.Unrolled.{renaming, Names}
use Rattle.pac_flat.specs.Names.{standing}
use Rattle.pac_flat.proofs.StandingLemmas.{standing_set}
use Rattle.pac_flat.proofs.point.name.Goals as goal

pub returns : goal.returns
returns c =
    let es = c.fill.new.names.items in
    ap (λ k. standing (slice_set es k c.args.stands_for)) c.from.ensures ∙ standing_set es c.args.var c.args.stands_for c.in_ok-fill.ensures.long
    ∙ ap (λ (names : Names). renaming names c.args.var c.args.stands_for) c.in_ok-fill.ensures.same
