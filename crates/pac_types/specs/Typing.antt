-- When a tree is typed, and which catalogue it has then.
use Rattle.std.specs.Prelude.{◌≡◌, ◌≤◌, List, length, map, All, IsTrue, Some}
use Rattle.std.specs.List.{AllZip, range_with_len}
use Rattle.pac_value.specs.declared.limits.TheConstants.{MAX_COLUMNS, MAX_PARAMS}
use Rattle.pac_syntax.specs.declared.tree.TableNode.{TableNode}
use Rattle.pac_syntax.specs.declared.tree.ProcNode.{ProcNode}
use Rattle.pac_syntax.specs.declared.tree.Tree.{Tree}
use Rattle.pac_syntax.specs.Limits.{is_stored_type}
use Rattle.pac_syntax.specs.Reading.{IsTree}
use Rattle.pac_types.specs.declared.table.Table.{Table}
use Rattle.pac_types.specs.declared.procedure.Proc.{Proc}
use Rattle.pac_types.specs.Numbering.{AreDistinct, table_of, variables, proc_of}
use Rattle.pac_types.specs.WellFormed.{IsWellFormedProc}
use Rattle.pac_types.specs.Variables.{defined_variables}

-- what a catalogue is seen as
pub record CatalogueState : Type 0 where
  pub tables : List Table
  pub procs : List Proc

-- the procedure of a node: its parameters and variables all differ by name, each name that it uses is one that is
-- visible there, and each expression has the type that its position wants
pub record IsProcOf (tables : List Table) (node : ProcNode) (proc : Proc) : Type 0 where
  pub distinct : AreDistinct (variables node)
  pub named : proc_of tables node ≡ Some proc
  pub well_formed : IsWellFormedProc tables proc

-- the columns of a table all differ by name
abbrev pub HasDistinctColumns : TableNode → Type 0
HasDistinctColumns node = AreDistinct (map (λ column. column.name.name) node.columns)

-- the tree is typed and has this catalogue: the tables all differ by name, and so do the procedures, and the columns of each
-- table; the catalogue has the tables and procedures of the tree in its order
pub record Types (tree : Tree) (catalogue : CatalogueState) : Type 0 where
  pub table_names : AreDistinct (map (λ node. node.name.name) tree.tables)
  pub proc_names : AreDistinct (map (λ node. node.name.name) tree.procs)
  pub column_names : All HasDistinctColumns tree.tables
  pub tables : catalogue.tables ≡ map table_of tree.tables
  pub procs : AllZip (IsProcOf catalogue.tables) tree.procs catalogue.procs

-- some catalogue is the tree's
abbrev pub IsTyped : Tree → Type 0
IsTyped tree = (catalogue : CatalogueState) × Types tree catalogue

-- what every catalogue is: that of some tree that some text reads as
abbrev pub IsCatalogue : CatalogueState → Type 0
IsCatalogue catalogue = (tree : Tree) × IsTree tree × Types tree catalogue

-- a table has 1 to 8 columns; its key and they are ints or texts
pub record IsWellFormedTable (table : Table) : Type 0 where
  pub some : 1 ≤ length table.columns
  pub few : length table.columns ≤ MAX_COLUMNS
  pub key : IsTrue (is_stored_type table.key)
  pub columns : All (λ column. IsTrue (is_stored_type column.ty)) table.columns

-- a procedure has at most 16 parameters, which are ints or texts, and well-formed statements; the variables that these
-- define, hidden ones and those of loops among them, have one number after another in the order of the text, from the
-- first after the parameters on
pub record IsProc (tables : List Table) (proc : Proc) : Type 0 where
  pub few : length proc.params ≤ MAX_PARAMS
  pub params : All (λ column. IsTrue (is_stored_type column.ty)) proc.params
  pub well_formed : IsWellFormedProc tables proc
  pub numbered : defined_variables proc.body ≡ range_with_len (length proc.params) (length (defined_variables proc.body))
