-- What keeps a catalogue and the names of its tables and procedures together.
use Rattle.std.specs.Prelude.{◌≡◌, ℕ, List, map}
use Rattle.pac_types.specs.Typing.{CatalogueState, IsCatalogue}

-- it is the catalogue of some tree, and these are the names, in the order of the tables and of the procedures
pub record IsNamed (catalogue : CatalogueState) (tables procs : List (List ℕ)) : Type 0 where
  pub typed : IsCatalogue catalogue
  pub of_tables : tables ≡ map (λ table. table.name) catalogue.tables
  pub of_procs : procs ≡ map (λ proc. proc.name) catalogue.procs
