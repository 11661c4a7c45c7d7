-- At each moment the devices leave what they might have left before, and a read gives what it gave.
use Rattle.std.proofs.Common.{refl}
use Rattle.pac_outside.proofs.SyncRuns.{one_synced, two_synced, three_synced, four_reads, four_synced}
use Rattle.pac_outside.proofs.devices.Devices.sync.Goals as goal

pub returns-in_err-sync-clause-moments : goal.returns-in_err-sync-clause-moments
returns-in_err-sync-clause-moments g c = one_synced _ _ _ c.sync.ensures.moments _ _

pub returns-in_err-sync-2-clause-moments : goal.returns-in_err-sync-2-clause-moments
returns-in_err-sync-2-clause-moments g c = two_synced _ _ _ c.sync.ensures.moments _ c.sync-2.ensures.moments _ _

pub returns-in_err-sync-3-clause-moments : goal.returns-in_err-sync-3-clause-moments
returns-in_err-sync-3-clause-moments g c = three_synced _ _ _ c.sync.ensures.moments _ c.sync-2.ensures.moments _ _ _ c.sync-3.ensures.moments

pub returns-clause-moments : goal.returns-clause-moments
returns-clause-moments g c = four_synced _ _ _ c.sync.ensures.moments _ c.sync-2.ensures.moments _ _ _ _ c.sync-3.ensures.moments c.sync-4.ensures.moments

pub returns-in_err-sync-clause-seen : goal.returns-in_err-sync-clause-seen
returns-in_err-sync-clause-seen g c = four_reads _ _ _ _ _ _ _ _ c.sync.ensures.seen refl refl refl

pub returns-in_err-sync-2-clause-seen : goal.returns-in_err-sync-2-clause-seen
returns-in_err-sync-2-clause-seen g c = four_reads _ _ _ _ _ _ _ _ c.sync.ensures.seen c.sync-2.ensures.seen refl refl

pub returns-in_err-sync-3-clause-seen : goal.returns-in_err-sync-3-clause-seen
returns-in_err-sync-3-clause-seen g c = four_reads _ _ _ _ _ _ _ _ c.sync.ensures.seen c.sync-2.ensures.seen c.sync-3.ensures.seen refl

pub returns-clause-seen : goal.returns-clause-seen
returns-clause-seen g c = four_reads _ _ _ _ _ _ _ _ c.sync.ensures.seen c.sync-2.ensures.seen c.sync-3.ensures.seen c.sync-4.ensures.seen
