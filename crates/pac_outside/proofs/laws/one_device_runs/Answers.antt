-- A run of one device is known by its states.
use Rattle.std.proofs.Common.{IsTrue}
use Rattle.pac_outside.proofs.RunLaws.{alone_leaves}
use Rattle.pac_outside.proofs.Runs.{one_runs}
use Rattle.pac_outside.proofs.laws.one_device_runs.Goals as goal

pub returns : goal.returns
returns k = λ allowed which devices new. (alone_leaves (λ images. IsTrue (allowed images)) which devices new, one_runs (λ images. IsTrue (allowed images)) which devices new)
