-- The text reads as one tree.
use Rattle.pac_types.proofs.OneCatalogue.{catalogue_of_text}
use Rattle.pac_types.proofs.text.read_text.Goals as goal

pub returns-in-Ok-clause-ok : goal.returns-in-Ok-clause-ok
returns-in-Ok-clause-ok c = catalogue_of_text c.args.text.now c.in-Ok.tree c.typed.result c.in-Ok.ensures.reads c.typed.ensures.ok
