-- The log is one, and what a read gives is the only image.
use Rattle.pac_engine.proofs.OpeningLemmas.{opened-stands}
use Rattle.pac_engine.proofs.law.an_opened_engine_stands.Goals as goal

pub returns : goal.returns
returns c = λ text history least engine devices stands opened. opened-stands text history least engine devices stands opened
