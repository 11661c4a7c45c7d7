-- How `explain` ends.
use Rattle.std.specs.Prelude.{◌≡◌, ℕ, Bool, List, [], ◌∷◌, ◌++◌, Option, IfSome, IsSomeAnd, map, if◌then◌else◌}
use Rattle.std.specs.List.{AllZip}
use Rattle.pac_syntax.specs.declared.tree.Tree.{Tree}
use Rattle.pac_syntax.specs.Reading.{Reads}
use Rattle.pac_print.specs.Canonical.{canonical}
use Rattle.pac_types.specs.Typing.{CatalogueState, Types}
use Rattle.pac_types.specs.Faults.{IsFirstTypeFault}
use Rattle.pac_types.specs.declared.text.CatalogueFault.TheVariants.{Syntax, Typing}
use Rattle.pac_types.specs.OperationLimits.{HasFewOperations}
use Rattle.pac_types.specs.Fits.{shape}
use Rattle.pac_flat.specs.FlatForm.{program_of}
use Rattle.pac_ops.specs.declared.program.Program.{Program}
use Rattle.pac_slice.specs.declared.local_graph.LocalGraph.{LocalGraph}
use Rattle.pac_slice.specs.Slices.{AreSlices}
use Rattle.pac_plan.specs.declared.parts.PlanParts.{PlanParts}
use Rattle.pac_plan.specs.Analysis.{IsPlan}
use Rattle.pac_report.specs.Explain.{explain_text}
use Rattle.pac_flat.specs.Unaccepted.{IsExcess, IsUnaccepted}
use Rattle.pac_flat.specs.declared.acceptance.AcceptFault.{AcceptFault}
use Rattle.pac_flat.specs.declared.acceptance.AcceptFault.TheVariants.{Catalogue, TooManyOps}
use Rattle.pac_main.specs.Inputs.{IsAcceptedText}
use Rattle.pac_main.specs.Streams.{Observed, AnyFaulted, IsTaken, IsPrefixTaken, IsReported, IsOneOf}
use Rattle.pac_main.specs.Stop.{unaccepted_line}

-- ---- what explains a catalogue

-- these are the slices of programs, one after another
abbrev pub AreSlicesOf : List Program → List LocalGraph → Type 0
AreSlicesOf programs graphs = AllZip (λ program graph. AreSlices program.ops graph) programs graphs

-- the graph of a catalogue: the slices of its procedures in flat form, and their plan
pub record IsGraph (catalogue : CatalogueState) (graphs : List LocalGraph) (plan : PlanParts) : Type 0 where
  pub few : HasFewOperations catalogue.procs
  pub programs : plan.programs ≡ map program_of catalogue.procs
  pub tables : plan.tables ≡ map shape catalogue.tables
  pub slices : AreSlicesOf plan.programs graphs
  pub is_plan : IsPlan plan

-- the text of the graph of a catalogue
abbrev pub IsGraphText : CatalogueState → List ℕ → Type 0
IsGraphText catalogue text = (graphs : List LocalGraph) × (plan : PlanParts) × IsGraph catalogue graphs plan × (text ≡ explain_text catalogue graphs plan)

-- the text of the graph of a tree's catalogue, after the tree's canonical text where that is wanted
pub record IsTreeExplanation (with_text : Bool) (tree : Tree) (written : List ℕ) : Type 0 where
  pub catalogue : CatalogueState
  pub typed : Types tree catalogue
  pub graph : List ℕ
  pub is_graph : IsGraphText catalogue graph
  pub is : written ≡ (if with_text then canonical tree else []) ++ graph

-- the same for a catalogue's text
abbrev pub IsExplanation : Bool → List ℕ → List ℕ → Type 0
IsExplanation with_text text written = (tree : Tree) × Reads text tree × IsTreeExplanation with_text tree written

-- this explains a text, and nothing else does
pub record IsTheExplanation (with_text : Bool) (text written : List ℕ) : Type 0 where
  pub is : IsExplanation with_text text written
  pub only : (other : List ℕ) → IsExplanation with_text text other → other ≡ written

-- the input is explained by a text with this property, where the source's bytes are known
abbrev pub IsExplanationOf : Bool → Option (List ℕ) → (List ℕ → Type 0) → Type 0
IsExplanationOf with_text input P = (written : List ℕ) × IfSome input (λ text. IsTheExplanation with_text text written) × P written

-- ---- why a catalogue isn't explained

-- for its first fault of names and types, or for the first procedure at which operations are too many
abbrev pub IsUnexplainedTree : Tree → AcceptFault → Type 0
IsUnexplainedTree tree (Catalogue (Syntax fault)) = ⊥
IsUnexplainedTree tree (Catalogue (Typing fault)) = IsFirstTypeFault tree fault
IsUnexplainedTree tree (TooManyOps name count) = (catalogue : CatalogueState) × Types tree catalogue × IsExcess catalogue.procs name count

-- the text isn't explained for this cause and for no other, and nothing explains it
pub record IsTheCause (text : List ℕ) (fault : AcceptFault) : Type 0 where
  pub is : IsUnaccepted text fault
  pub only : (other : AcceptFault) → IsUnaccepted text other → other ≡ fault
  pub none : (with_text : Bool) (written : List ℕ) → IsExplanation with_text text written → ⊥

-- the input isn't explained for this cause, where the source's bytes are known
abbrev pub IsUnexplainedAs : Option (List ℕ) → AcceptFault → Type 0
IsUnexplainedAs input fault = IfSome input (λ text. IsTheCause text fault)

-- ---- the statuses

-- how `explain` ends: the statuses that it may have, and a line for each that has a cause
pub record ExplainEnds (with_text : Bool) (status : ℕ) (input output errors : Observed) : Type 0 where
  pub statuses : IsOneOf status (0 ∷ 2 ∷ 6 ∷ 7 ∷ 9 ∷ [])
  pub done : status ≡ 0 → IsExplanationOf with_text input.before (IsTaken output)
  pub refused : status ≡ 2 → (fault : AcceptFault) × IsUnexplainedAs input.before fault × IsReported errors (unaccepted_line fault)
  pub input_fault : status ≡ 6 → AnyFaulted input
  pub output_fault : status ≡ 7 → AnyFaulted output × IsExplanationOf with_text input.before (IsPrefixTaken output)
  -- an accepted text is explained, where no fault was counted, or there was no memory
  pub complete : IsSomeAnd input.before IsAcceptedText → ¬ AnyFaulted input → ¬ AnyFaulted output → IsOneOf status (0 ∷ 9 ∷ [])
