-- The operations of a procedure in a block define each variable once, after which it is used.
use Rattle.std.proofs.Common.{◌≡◌, ℕ, ◌+◌, ◌<◌, ◌==◌, Bool, true, false, cond, List, [], ◌∷◌, Some, refl, ap, inl, inr, ⊎_elim, arith}
use Rattle.std.specs.Prelude.{slice_get}
use Rattle.pac_ops.specs.declared.program.FlatOp.{FlatOp}
use Rattle.pac_ops.specs.declared.program.Program.{Program}
use Rattle.pac_ops.specs.Uses.{op_uses, defined_variable, Defines}
use Rattle.pac_ops.specs.Dependencies.{Uses}
use Rattle.pac_ops.specs.Effects.{NumberedOp, numbered_from, is_var, defined_in}
use Rattle.pac_ops.proofs.DefinedLemmas.{var-named}
use Rattle.pac_ops.proofs.RecordLemmas.{number_at}
use Rattle.pac_base.specs.Members.{Each, Mem}
use Rattle.pac_base.proofs.ItemLemmas.{there}
use Rattle.pac_base.proofs.TestLemmas.{any_gives, each_mem, mem_each, unlike}
use Rattle.pac_plan.specs.declared.parts.PlanParts.{PlanParts}
use Rattle.pac_plan.specs.Nodes.{Operation}
use Rattle.pac_plan.specs.Analysis.{IsPlan, block_in}
use Rattle.pac_plan.specs.Pieces.{part}
use Rattle.pac_plan.specs.WellFormed.{KeepsOrder}
use Rattle.pac_plan.proofs.OrderLemmas.{order_kept}
use Rattle.pac_plan.proofs.PartLemmas.{part-mem}
use Rattle.pac_plan.proofs.WorldLemmas.{stands}
use Rattle.pac_in_order.proofs.Again.{OnceEach}

-- operations by their numbers
Ascends : List NumberedOp → Type 0
Ascends [] = Unit {0}
Ascends (o ∷ os) = Each (λ (d : NumberedOp). o.0 < d.0) os × Ascends os

ascends_from : (n : ℕ) (ops : List FlatOp) → Ascends (numbered_from n ops)
unfolding numbered_from Ascends
ascends_from n [] = tt
ascends_from n (op ∷ ops) = (
  each_mem (λ (d : NumberedOp). n < d.0) (numbered_from (n + 1) ops) (λ d m. let at = number_at (n + 1) ops d m in let same : d.0 ≡ n + 1 + at.0 = at.1 in omega (arith, same)),
  ascends_from (n + 1) ops,
)

ascends_part : (block : NumberedOp → ℕ) (b : ℕ) (os : List NumberedOp) → Ascends os → Ascends (part block b os)
unfolding Ascends
ascends_part block b [] up = tt
ascends_part block b (o ∷ os) up = go (block o == b) (ascends_part block b os up.1)
  where
    go : (c : Bool) → Ascends (part block b os) → Ascends (cond c (o ∷ part block b os) (part block b os))
    go true rest = (each_mem (λ (d : NumberedOp). o.0 < d.0) (part block b os) (λ d m. mem_each (λ (d : NumberedOp). o.0 < d.0) os up.0 d (part-mem block b os d m).0), rest)
    go false rest = rest

-- what defines a variable comes before what uses it, and only one operation defines it
record Flow (os : List NumberedOp) : Type 0 where
  before : (o d : NumberedOp) → Mem o os → Mem d os → (x : ℕ) → defined_variable d.1.kind ≡ Some x → op_uses x o.1 ≡ true → d.0 < o.0
  one : (o d : NumberedOp) → Mem o os → Mem d os → (x : ℕ) → defined_variable d.1.kind ≡ Some x → defined_variable o.1.kind ≡ Some x → d.0 ≡ o.0

definer_in : (os : List NumberedOp) (x : ℕ) → defined_in os x ≡ true → (d : NumberedOp) × Mem d os × (defined_variable d.1.kind ≡ Some x)
definer_in os x e = let r = any_gives (λ (o : NumberedOp). is_var x (defined_variable o.1.kind)) os e in (r.0, r.1, var-named x (defined_variable r.0.1.kind) r.2)

once_each : (os : List NumberedOp) → Ascends os → Flow os → OnceEach os
unfolding Ascends
once_each [] up flow = tt
once_each (o ∷ os) up flow = (
  λ x used. unlike _ (λ own.
      let d = definer_in (o ∷ os) x own in
      let first : d.0.0 < o.0 = flow.before o d.0 (inl refl) d.1 x d.2 used in
      ⊎_elim
      (λ same. let e : d.0.0 ≡ o.0 = ap (λ (z : NumberedOp). z.0) same in omega (arith, first, e))
      (λ m. let later : o.0 < d.0.0 = mem_each (λ (d : NumberedOp). o.0 < d.0) os up.0 d.0 m in omega (arith, first, later))
      d.1),
  λ x mine. unlike _ (λ own.
      let d = definer_in os x own in
      let same : d.0.0 ≡ o.0 = flow.one o d.0 (inl refl) (inr d.1) x d.2 (var-named x (defined_variable o.1.kind) mine) in
      let later : o.0 < d.0.0 = mem_each (λ (d : NumberedOp). o.0 < d.0) os up.0 d.0 d.1 in
      omega (arith, same, later)),
  once_each os up.1 (record { before = λ a b ma mb. flow.before a b (inr ma) (inr mb); one = λ a b ma mb. flow.one a b (inr ma) (inr mb) }),
)

module _ (parts : PlanParts) (is : IsPlan parts) (p : ℕ) (program : Program) (at : slice_get parts.programs p ≡ Some program) (block : ℕ) where
  abbrev keeps : KeepsOrder parts
  keeps = order_kept parts is

  abbrev os : List NumberedOp
  os = part (λ o. block_in parts (Operation p o.0)) block (numbered_from 0 program.ops)

  of_program : (o : NumberedOp) → Mem o os → slice_get program.ops o.0 ≡ Some o.1
  of_program o m = stands parts keeps p program at o (part-mem (λ o. block_in parts (Operation p o.0)) block (numbered_from 0 program.ops) o m).0

  defines : (o : NumberedOp) (x : ℕ) → Mem o os → defined_variable o.1.kind ≡ Some x → Defines program.ops o.0 x
  defines o x m e = there program.ops o.0 o.1 (λ (op : FlatOp). defined_variable op.kind ≡ Some x) (of_program o m) e

  uses : (o : NumberedOp) (x : ℕ) → Mem o os → op_uses x o.1 ≡ true → Uses program.ops o.0 x
  uses o x m e = there program.ops o.0 o.1 (λ (op : FlatOp). op_uses x op ≡ true) (of_program o m) e

  pub call_once : OnceEach os
  call_once = once_each os (ascends_part (λ o. block_in parts (Operation p o.0)) block (numbered_from 0 program.ops) (ascends_from 0 program.ops)) (record {
    before = λ o d mo md x e u. (keeps.flows p d.0 o.0 x program at (defines d x md e) (uses o x mo u)).0;
    one = λ o d mo md x e f. keeps.once p d.0 o.0 x program at (defines d x md e) (defines o x mo f);
  })
