-- A tree is typed exactly where no fault stands in it.
use Rattle.std.proofs.Common.{◌≡◌, List, map, Result, Ok, Err, refl}
use Rattle.pac_syntax.specs.declared.tree.Tree.{Tree}
use Rattle.pac_syntax.specs.Limits.{IsWithinLimits}
use Rattle.pac_syntax.specs.Order.{IsOrdered}
use Rattle.pac_types.specs.declared.procedure.Proc.{Proc}
use Rattle.pac_types.specs.declared.type_error.TypeFault.{TypeFault}
use Rattle.pac_types.specs.Numbering.{table_of}
use Rattle.pac_types.specs.Typing.{IsTyped}
use Rattle.pac_types.specs.Faults.{Stands}
use Rattle.pac_types.specs.Checking.{checked_tables, checked_procs}
use Rattle.pac_types.proofs.TypingLemmas.{tree_typed, tables_untyped, procs_untyped}
use Rattle.pac_types.proofs.FirstLemmas.{tables_first, procs_first, none_stands}

module _ (tree : Tree) (limits : IsWithinLimits tree) (ordered : IsOrdered tree) where
  -- no fault stands in the tree
  abbrev pub IsClean : Type 0
  IsClean = (fault : TypeFault) → Stands tree fault → ⊥

  typed_by : (r : Result (Unit {0}) TypeFault) → checked_tables (map (λ node. node.name.name) tree.tables) 0 tree.tables ≡ r
      → (q : Result (List Proc) TypeFault) → checked_procs (map table_of tree.tables) (map (λ node. node.name.name) tree.procs) 0 tree.procs ≡ q → (IsTyped tree → IsClean) × (IsClean → IsTyped tree)
  typed_by (Err f) e q g = ((λ typed. absurd (tables_untyped tree limits f e typed)), λ clean. absurd (clean f (tables_first tree ordered f e).stands))
  typed_by (Ok x) e (Err f) g = ((λ typed. absurd (procs_untyped tree limits (map table_of tree.tables) refl f g typed)), λ clean. absurd (clean f (procs_first tree ordered e (map table_of tree.tables) refl f g).stands))
  typed_by (Ok x) e (Ok procs) g = ((λ typed. none_stands tree e (map table_of tree.tables) refl procs g), λ clean. (record { tables = map table_of tree.tables; procs = procs }, tree_typed tree limits (map table_of tree.tables) procs refl e g))

  pub typed_both : (IsTyped tree → IsClean) × (IsClean → IsTyped tree)
  typed_both = typed_by _ refl _ refl
