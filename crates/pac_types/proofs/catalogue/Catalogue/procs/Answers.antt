-- The procedures are those of a typed tree within the limits.
use Rattle.std.proofs.Common.{◌≤◌, length, subst}
use Rattle.std.specs.Prelude.{All}
use Rattle.pac_types.specs.Typing.{CatalogueState, IsProc}
use Rattle.pac_types.proofs.TypingLemmas.{procs_few, procs_well_formed}
use Rattle.pac_types.proofs.catalogue.Catalogue.procs.Goals as goal

pub returns-clause-few : goal.returns-clause-few
returns-clause-few c = subst (λ (catalogue : CatalogueState). length catalogue.procs ≤ 64) c.self.view_is (procs_few _ c.self.invariant.typed)

pub returns-clause-well_formed : goal.returns-clause-well_formed
returns-clause-well_formed c = subst (λ (catalogue : CatalogueState). All (IsProc catalogue.tables) catalogue.procs) c.self.view_is (procs_well_formed _ c.self.invariant.typed)
