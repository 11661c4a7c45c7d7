-- Which catalogues a database takes.
use Rattle.std.specs.Prelude.{ℕ, List}
use Rattle.pac_types.specs.CatalogueText.{HasCatalogue}
use Rattle.pac_types.specs.OperationLimits.{HasFewOperations}
use Rattle.pac_types.specs.Typing.{CatalogueState}

-- the text is accepted: it has this catalogue, whose procedures have few operations
pub record IsAccepted (text : List ℕ) (catalogue : CatalogueState) : Type 0 where
  pub has : HasCatalogue text catalogue
  pub few : HasFewOperations catalogue.procs
