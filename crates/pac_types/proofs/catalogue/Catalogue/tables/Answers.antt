-- The tables are those of a tree within the limits.
use Rattle.std.proofs.Common.{◌≤◌, length, subst}
use Rattle.std.specs.Prelude.{All}
use Rattle.pac_types.specs.Typing.{CatalogueState, IsWellFormedTable}
use Rattle.pac_types.proofs.TypingLemmas.{tables_few, tables_well_formed}
use Rattle.pac_types.proofs.catalogue.Catalogue.tables.Goals as goal

pub returns-clause-few : goal.returns-clause-few
returns-clause-few c = subst (λ (catalogue : CatalogueState). length catalogue.tables ≤ 64) c.self.view_is (tables_few _ c.self.invariant.typed)

pub returns-clause-well_formed : goal.returns-clause-well_formed
returns-clause-well_formed c = subst (λ (catalogue : CatalogueState). All IsWellFormedTable catalogue.tables) c.self.view_is (tables_well_formed _ c.self.invariant.typed)
