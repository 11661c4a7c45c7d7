-- No table has more rows than the limit.
use Rattle.pac_engine.proofs.SaveLemmas.{few-rows}
use Rattle.pac_engine.proofs.parts.EngineParts.prepare.Goals as goal

pub prepare-requires-clause-few : goal.prepare-requires-clause-few
prepare-requires-clause-few c = few-rows _ _ _ _ _ _ c.rows.ensures.within c.rows.ensures.fits.count c.rows.ensures.value c.requires.working.limit
