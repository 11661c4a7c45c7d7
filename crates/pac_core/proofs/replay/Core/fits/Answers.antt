-- What fits what is kept may be loaded.
use Rattle.std.proofs.Common.{◌+◌, ◌<◌, ◌^◌, length, subst}
use Rattle.std.specs.Prelude.{◌↔◌, IsTrue}
use Rattle.pac_core.specs.Calls.{MayLoad}
use Rattle.pac_core.specs.Replay.{Replay}
use Rattle.pac_core.proofs.BatchFits.{fits_of, may_load}
use Rattle.pac_core.proofs.replay.Core.fits.Goals as goal

pub returns : goal.returns
returns g c =
    let p = c.self.inside.progress in
    let u = c.self.inside.rows in
    let batch = c.args.batch.now in
    subst (λ (r : Replay). IsTrue c.fits.result ↔ (MayLoad r batch × (batch.first + length batch.txns < 2 ^ 64))) c.self.view_is (
      (λ t. let f = c.fits.ensures.0 t in (may_load p u c.self.invariant batch f.0 f.1 f.2, f.3)),
      (λ m. let f = fits_of p u c.self.invariant batch m.0 in c.fits.ensures.1 (f.0, f.1, f.2, m.1)),
    )
