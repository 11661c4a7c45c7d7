-- The analysis of one table and of no procedure: one block, the table's home.
use Rattle.std.proofs.Common.{◌≡◌, ℕ, zero, suc, ◌<◌, List, [], ◌∷◌, Some, refl, subst, arith}
use Rattle.std.specs.Prelude.{IsSomeAnd, Option, None, map, ◌↔◌, Contains, slice_get}
use Rattle.std.specs.List.{AllByRecursion}
use Rattle.std.specs.Option.{option_map}
use Rattle.std.proofs.lemmas.Option.{same_Some, slice_get-map}
use Rattle.pac_value.specs.declared.values.Ty.{Ty}
use Rattle.pac_value.specs.declared.values.Ty.TheVariants.{Int}
use Rattle.pac_graph.specs.Graph.{ReachEachOther, Here}
use Rattle.pac_graph.specs.Groups.{AreGroups}
use Rattle.pac_ops.specs.Programs.{AreWellFormedTables, IsStoredType, IsWellFormedTableTypes}
use Rattle.pac_ops.specs.declared.shapes.TableTypes.{TableTypes}
use Rattle.pac_ops.specs.declared.program.Program.{Program}
use Rattle.pac_ops.specs.declared.transaction.Txn.{Txn}
use Rattle.pac_ops.specs.declared.transaction.Txn.TheVariants.{Call as ACall, AdHoc}
use Rattle.pac_value.specs.Values.{type_of}
use Rattle.pac_commute.specs.PartialFits.{TxnIsOfPlan, TxnsFitPlan}
use Rattle.pac_plan.specs.Codes.{TxnFitsPlan}
use Rattle.pac_plan.specs.declared.parts.PlanParts.{PlanParts}
use Rattle.pac_plan.specs.Analysis.{IsPlan, block_in}
use Rattle.pac_plan.specs.Nodes.{Node, Operation, VirtualWrite, ComesBefore, Flows, IsNode, IsNodeLink}

-- its key and its only column are ints
abbrev pub types : TableTypes
types = record { key = Int; columns = Int ∷ [] }

abbrev pub one_table : PlanParts
one_table = record { programs = []; tables = types ∷ []; block_of = []; homes = 0 ∷ []; blocks = 1; edges = [] }

none : (x : ℕ × ℕ) → Contains [] x → ⊥
none x h = let within = h.1 in omega (arith, within)

columns : (c : ℕ) (ty : Ty) → slice_get (Int ∷ []) c ≡ Some ty → Int ≡ ty
columns zero ty e = same_Some Int ty e
columns (suc c) ty e = absurd (cc e)

int_stored : IsStoredType Int
int_stored e = cc e

well_formed : IsWellFormedTableTypes types
well_formed = record { some = omega arith; few = omega arith; key = int_stored; columns = λ c ty e. subst IsStoredType (columns c ty e) int_stored }

tables : AreWellFormedTables (types ∷ [])
tables zero table e = subst IsWellFormedTableTypes (same_Some types table e) well_formed
tables (suc t) table e = absurd (cc e)

below : (n : Node) → IsNode [] 1 n → block_in one_table n < 1
below (Operation p i) is = absurd is
below (VirtualWrite zero) is = is
below (VirtualWrite (suc t)) is = absurd (omega (arith, is))

same : (m n : Node) → IsNode [] 1 m → IsNode [] 1 n → (block_in one_table m ≡ block_in one_table n) ↔ ReachEachOther (IsNodeLink [] 1) m n
same (Operation p i) n is other = absurd is
same (VirtualWrite t) (Operation p i) is other = absurd other
same (VirtualWrite zero) (VirtualWrite zero) is other = ((λ e. (Here (VirtualWrite 0), Here (VirtualWrite 0))), (λ r. refl))
same (VirtualWrite zero) (VirtualWrite (suc t)) is other = absurd (omega (arith, other))
same (VirtualWrite (suc s)) (VirtualWrite t) is other = absurd (omega (arith, is))

no_flow : (m n : Node) → Flows [] m n → ⊥
no_flow (Operation p i) (Operation q j) flow = flow.1
no_flow (Operation p i) (VirtualWrite t) flow = flow
no_flow (VirtualWrite s) n flow = flow

groups : AreGroups (IsNode [] 1) ComesBefore (IsNodeLink [] 1) (Flows []) (block_in one_table) 1 []
groups = record {
  below = below;
  used = λ b lt. (VirtualWrite 0, omega arith, omega (arith, lt));
  same = same;
  edges = λ b c. ((λ h. absurd (none (b, c) h)), (λ between. absurd (no_flow between.1.0 between.1.1 between.1.2)));
  ascending = λ i j d less within. absurd (omega (arith, within));
  rises = λ b c h. absurd (none (b, c) h);
  first = λ b c less within none. absurd (omega (arith, less, within));
}

pub is_plan : IsPlan one_table
is_plan = record {
  few_programs = omega arith;
  few_tables = omega arith;
  tables = tables;
  programs = λ p program e. absurd (cc e);
  analysis = record { each = refl; homed = refl; groups = groups };
}

-- ---- transactions that fit a plan

module _ (parts : PlanParts) where
  is_of_plan : (txn : Txn) → TxnFitsPlan parts txn → TxnIsOfPlan parts txn
  is_of_plan (AdHoc records) fits = fits
  is_of_plan (ACall call) fits = go (slice_get parts.programs call.proc)
      (subst (λ o. IsSomeAnd o (λ types. map type_of call.args ≡ types)) (slice_get-map (λ (program : Program). program.params) parts.programs call.proc) fits)
    where
      go : (o : Option Program) → IsSomeAnd (option_map (λ (program : Program). program.params) o) (λ types. map type_of call.args ≡ types) → IsSomeAnd o (λ program. map type_of call.args ≡ program.params)
      go (Some program) is = is
      go None is = is

  pub all_of_plan : (txns : List Txn) → AllByRecursion (TxnFitsPlan parts) txns → TxnsFitPlan parts txns
  all_of_plan [] all i txn e = absurd (cc e)
  all_of_plan (t ∷ ts) all zero txn e = subst (TxnIsOfPlan parts) (same_Some t txn e) (is_of_plan t all.0)
  all_of_plan (t ∷ ts) all (suc i) txn e = all_of_plan ts all.1 i txn e
