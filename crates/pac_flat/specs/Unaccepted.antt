-- Why a text isn't accepted as a catalogue. `Accepted` of pac_types says which texts are.
use Rattle.std.specs.Prelude.{◌≡◌, ℕ, List, slice_get, Some}
use Rattle.std.specs.Option.{option_map}
use Rattle.pac_types.specs.CatalogueText.{HasCatalogue, IsCatalogueFault}
use Rattle.pac_types.specs.OperationLimits.{IsFirstExcess}
use Rattle.pac_types.specs.Typing.{CatalogueState}
use Rattle.pac_types.specs.declared.procedure.Proc.{Proc}
use Rattle.pac_flat.specs.declared.acceptance.AcceptFault.{AcceptFault}
use Rattle.pac_flat.specs.declared.acceptance.AcceptFault.TheVariants.{Catalogue, TooManyOps}

-- the procedure with this name is the first at which operations are too many, and this is how many there are
pub record IsExcess (procs : List Proc) (name : List ℕ) (count : ℕ) : Type 0 where
  pub number : ℕ
  pub first : IsFirstExcess procs number count
  pub named : option_map (λ proc. proc.name) (slice_get procs number) ≡ Some name

-- what is reported of a catalogue is the first procedure at which operations are too many
abbrev pub IsExcessFault : CatalogueState → AcceptFault → Type 0
IsExcessFault catalogue (TooManyOps name count) = IsExcess catalogue.procs name count
IsExcessFault catalogue _ = ⊥

-- a text isn't accepted for this: its first fault where it has no catalogue, or the first procedure at which operations are too many
abbrev pub IsUnaccepted : List ℕ → AcceptFault → Type 0
IsUnaccepted text (Catalogue fault) = IsCatalogueFault text fault
IsUnaccepted text (TooManyOps name count) = (catalogue : CatalogueState) × HasCatalogue text catalogue × IsExcess catalogue.procs name count
