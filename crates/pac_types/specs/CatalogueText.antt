-- The catalogue that a text has, or the first fault of a text that has none.
use Rattle.std.specs.Prelude.{ℕ, List}
use Rattle.pac_syntax.specs.declared.tree.Tree.{Tree}
use Rattle.pac_syntax.specs.Reading.{Reads, IsTextFault}
use Rattle.pac_tokens.specs.Kinds.{kind_name}
use Rattle.pac_types.specs.Kinds.{type_kind_name}
use Rattle.pac_types.specs.declared.type_error.TypeFault.{TypeFault}
use Rattle.pac_types.specs.declared.text.CatalogueFault.{CatalogueFault}
use Rattle.pac_types.specs.declared.text.CatalogueFault.TheVariants.{Syntax, Typing}
use Rattle.pac_types.specs.Typing.{CatalogueState, Types}
use Rattle.pac_types.specs.Faults.{IsFirstTypeFault}

-- the text is that of a tree with this catalogue
pub record HasCatalogue (text : List ℕ) (catalogue : CatalogueState) : Type 0 where
  pub tree : Tree
  pub reads : Reads text tree
  pub typed : Types tree catalogue

-- the text is that of a tree in which this is the first fault of names and types
pub record IsTypingFault (text : List ℕ) (fault : TypeFault) : Type 0 where
  pub tree : Tree
  pub reads : Reads text tree
  pub first : IsFirstTypeFault tree fault

-- the first fault of the text, or where that is read, of its names and types
abbrev pub IsCatalogueFault : List ℕ → CatalogueFault → Type 0
IsCatalogueFault text (Syntax fault) = IsTextFault text fault
IsCatalogueFault text (Typing fault) = IsTypingFault text fault

-- where the fault stands in the text
abbrev pub fault_offset : CatalogueFault → ℕ
fault_offset (Syntax fault) = fault.at
fault_offset (Typing fault) = fault.at

-- its kind as it is printed
abbrev pub fault_kind : CatalogueFault → List ℕ
fault_kind (Syntax fault) = kind_name fault.kind
fault_kind (Typing fault) = type_kind_name fault.kind
