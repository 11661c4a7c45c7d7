-- The laws of pieces, for every plan and all batches whose numbers run on.
use Rattle.std.proofs.Common.{◌∙◌, ap, length}
use Rattle.pac_plan.specs.Pieces.{Present}
use Rattle.pac_plan.specs.WorldOrder.{WellFormed}
use Rattle.pac_commute.specs.Exchange.{Exchange, ExchangeByNeeds, InputsAtTurns, InputsKnown, Undisturbed, End}
use Rattle.pac_plan.specs.Worlds.{batch_of, blocks_in, initial}
use Rattle.pac_commute.specs.PlanLaws.{txns_of, numbers_of, OfPlan, OfWorlds, planned, EndsAsReplayed}
use Rattle.pac_commute.proofs.Theorem.{exchange_law, needs_law, inputs_law, turns_law, undisturbed_law, end_law}
use Rattle.pac_plan.proofs.WorldLemmas.{well_formed_world, fits_blocks, rises-range, batches_rise}
use Rattle.pac_commute.proofs.Replays.{is_replay}
use Rattle.pac_plan.proofs.OrderLemmas.{order_kept}

pub well_formed_plan : OfWorlds WellFormed
well_formed_plan parts is first batches = well_formed_world parts (order_kept parts is) first (batch_of batches) (batches_rise batches) (txns_of batches)

pub exchange_plan : OfPlan Exchange
exchange_plan parts is first batches run_on fits =
    exchange_law (planned parts first batches) (well_formed_plan parts is first batches) (numbers_of first batches) (blocks_in parts)
    (rises-range first (length (txns_of batches))) (rises-range 0 parts.blocks) (fits_blocks parts is first (batch_of batches) (txns_of batches) fits)

pub needs_plan : OfPlan ExchangeByNeeds
needs_plan parts is first batches run_on fits =
    needs_law (planned parts first batches) (well_formed_plan parts is first batches) (numbers_of first batches) (blocks_in parts)
    (rises-range first (length (txns_of batches))) (rises-range 0 parts.blocks) (fits_blocks parts is first (batch_of batches) (txns_of batches) fits)

pub inputs_plan : OfPlan InputsKnown
inputs_plan parts is first batches run_on fits =
    inputs_law (planned parts first batches) (well_formed_plan parts is first batches) (numbers_of first batches) (blocks_in parts)
    (rises-range first (length (txns_of batches))) (rises-range 0 parts.blocks) (fits_blocks parts is first (batch_of batches) (txns_of batches) fits)

pub turns_plan : OfPlan InputsAtTurns
turns_plan parts is first batches run_on fits =
    turns_law (planned parts first batches) (well_formed_plan parts is first batches) (numbers_of first batches) (blocks_in parts)
    (rises-range first (length (txns_of batches))) (rises-range 0 parts.blocks) (fits_blocks parts is first (batch_of batches) (txns_of batches) fits)

pub undisturbed_plan : OfPlan Undisturbed
undisturbed_plan parts is first batches run_on fits =
    undisturbed_law (planned parts first batches) (well_formed_plan parts is first batches) (numbers_of first batches) (blocks_in parts)
    (rises-range first (length (txns_of batches))) (rises-range 0 parts.blocks) (fits_blocks parts is first (batch_of batches) (txns_of batches) fits)

pub end_plan : OfPlan End
end_plan parts is first batches run_on fits =
    end_law (planned parts first batches) (well_formed_plan parts is first batches) (numbers_of first batches) (blocks_in parts)
    (rises-range first (length (txns_of batches))) (rises-range 0 parts.blocks) (fits_blocks parts is first (batch_of batches) (txns_of batches) fits)

pub ends_as_replayed : EndsAsReplayed
ends_as_replayed parts is first batches run_on fits tables F all =
    let whole = end_plan parts is first batches run_on fits (initial first (txns_of batches) tables) F all in
    let replay = is_replay parts first (batch_of batches) (txns_of batches) tables in
    (ap (λ (z : Present). z.tables) whole ∙ replay.tables_are, ap (λ (z : Present). z.note) whole ∙ replay.note_is)
