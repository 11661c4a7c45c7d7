-- An open set is lifted, changed and kept again.
use Rattle.std.proofs.Common.{◌≡◌, ℕ, zero, suc, List, [], ◌∷◌, Option, Some, refl, ap, ◌∙◌}
use Rattle.pac_sched.specs.Schedules.{Schedule}
use Rattle.pac_sets.specs.Sets.{Kept, Setting, with_kept_at}
use Rattle.pac_core.specs.declared.progress.Progress.{Progress}
use Rattle.pac_core.specs.declared.stage.OpenSet.{OpenSet}
use Rattle.pac_core.specs.declared.stage.SetStage.{SetStage}
use Rattle.pac_core.specs.declared.stage.SetStage.TheVariants.{Open, Waiting}
use Rattle.pac_core.specs.Moves.{IsLifted}

pub kept_twice : {P : Type 0} (sets : List (Kept P)) (at : ℕ) (one other : Option P) → with_kept_at (with_kept_at sets at one) at other ≡ with_kept_at sets at other
kept_twice [] at one other = refl
kept_twice (s ∷ ss) zero one other = refl
kept_twice (s ∷ ss) (suc at) one other = ap (λ l. s ∷ l) (kept_twice ss at one other)

module _ (p lifted : Progress) (at : ℕ) (now : IsLifted p at lifted) (kept : Setting SetStage) (stage : Option SetStage) (keep : kept ≡ record lifted.sets { sets = with_kept_at lifted.sets.sets at stage }) where
  -- the sets are those with what is kept now
  pub sets_kept : kept ≡ record p.sets { sets = with_kept_at p.sets.sets at stage }
  sets_kept =
      keep
      ∙ ap (λ (q : Progress). record { edges = q.sets.edges; blocks = q.sets.blocks; sets = with_kept_at q.sets.sets at stage }) now
      ∙ (λ k. record { edges = p.sets.edges; blocks = p.sets.blocks; sets = kept_twice p.sets.sets at (Some (Waiting [])) stage k })

-- and all else is as it was
pub moved_to : (p lifted : Progress) (at : ℕ) → IsLifted p at lifted → (kept : Setting SetStage) (one other : OpenSet) → kept ≡ record lifted.sets { sets = with_kept_at lifted.sets.sets at (Some (Open one)) } → one ≡ other
    → ◌≡◌ {A = Progress} (record lifted { sets = kept }) (record p { sets = record p.sets { sets = with_kept_at p.sets.sets at (Some (Open other)) } })
moved_to p lifted at now kept one other keep same =
    ap (λ (q : Progress). record q { sets = kept }) now
    ∙ ap (λ (s : Setting SetStage). record p { sets = s }) (sets_kept p lifted at now kept (Some (Open one)) keep
    ∙ ap (λ (o : OpenSet). record p.sets { sets = with_kept_at p.sets.sets at (Some (Open o)) }) same)

-- a schedule that is changed
pub open_is : (change : Schedule → Schedule) (was opening : OpenSet) (sched : Schedule) → sched ≡ change was.sched → was ≡ opening → ◌≡◌ {A = OpenSet} (record { sched = sched; cells = was.cells }) (record { sched = change opening.sched; cells = opening.cells })
open_is change was opening sched e same = λ k. record { sched = (e ∙ ap (λ (o : OpenSet). change o.sched) same) k; cells = (same k).cells }
