-- The one log is the first segment.
use Rattle.pac_store.proofs.SegmentLemmas.{upgraded}
use Rattle.pac_store.proofs.laws.three_devices_stand.Goals as goal

pub returns : goal.returns
returns k = upgraded
