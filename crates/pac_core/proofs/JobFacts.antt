-- What tells a core's job is compared part by part.
use Rattle.std.proofs.Common.{◌≡◌, ◌↔◌, ℕ, Bool, false, List, Result, Ok, Err, sym, subst, ◌∙◌, true≢false}
use Rattle.std.specs.Prelude.{IfOk, IsTrue}
use Rattle.pac_value.specs.State.{Tables}
use Rattle.pac_ops.specs.declared.batch.Batch.{Batch}
use Rattle.pac_plan.specs.declared.parts.PlanParts.{PlanParts}
use Rattle.pac_undo.specs.Undo.{AreSameIn, HasOpening, Undoable}
use Rattle.pac_core.specs.declared.progress.Progress.{Progress}
use Rattle.pac_core.specs.Calls.{IsOfJob}
use Rattle.pac_core.specs.Links.{IsCore, batches_of, core_of}

module _ (p : Progress) (u : Undoable) (core : IsCore p u) (parts : PlanParts) (first tables : ℕ) (held : Tables) (batches : List Batch) where
  abbrev Is : Type 0
  Is = IsOfJob (core_of p u) parts first tables held batches

  -- where a part differs
  none : (Is → ⊥) → IsTrue false ↔ Is
  none differ = ((λ t. absurd (true≢false (sym t))), (λ is. absurd (differ is)))

  pub other_batches : (same : Bool) → same ≡ false → (IsTrue same ↔ (batches_of p ≡ batches)) → IsTrue false ↔ Is
  other_batches same isnt is = none (λ all. true≢false (sym (is.1 (sym all.2)) ∙ isnt))

  -- where all but the tables are the same
  pub by_tables : p.pieces ≡ parts → p.first ≡ first → batches_of p ≡ batches → (is : Bool) → (IsTrue is ↔ HasOpening u tables held) → IsTrue is ↔ Is
  by_tables plan begins loaded is opening = (
    (λ t.
        let has = opening.0 t in
        (sym plan, sym begins, sym loaded, has.0 ∙ core.tables, subst (λ (n : ℕ). AreSameIn n held u.opening) (sym has.0) has.1)),
    (λ all. opening.1 (all.3 ∙ sym core.tables, subst (λ (n : ℕ). AreSameIn n held u.opening) (all.3 ∙ sym core.tables) all.4)),
  )

  pub by_answer : {E : Type 0} → p.pieces ≡ parts → p.first ≡ first → batches_of p ≡ batches → (r : Result Bool E) → IfOk r (λ is. IsTrue is ↔ HasOpening u tables held) → IfOk r (λ is. IsTrue is ↔ Is)
  by_answer plan begins loaded (Ok is) opening = by_tables plan begins loaded is opening
  by_answer plan begins loaded (Err e) opening = tt
