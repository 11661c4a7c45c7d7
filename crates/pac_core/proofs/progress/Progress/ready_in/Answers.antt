-- What is read is the open set that stands there.
use Rattle.std.proofs.Common.{◌≡◌, sym, ap, ◌∙◌}
use Rattle.std.proofs.lemmas.Option.{same_Some}
use Rattle.pac_sched.specs.Schedules.{pick}
use Rattle.pac_core.specs.declared.stage.OpenSet.{OpenSet}
use Rattle.pac_core.specs.declared.stage.SetStage.{SetStage}
use Rattle.pac_core.specs.declared.stage.SetStage.TheVariants.{Open}
use Rattle.pac_core.proofs.progress.Progress.ready_in.Goals as goal

same_open : (a b : OpenSet) → ◌≡◌ {A = SetStage} (Open a) (Open b) → a ≡ b
same_open a b e = cc

pub returns-in-Piece-clause-found : goal.returns-in-Piece-clause-found
returns-in-Piece-clause-found c = record {
  stands = c.requires;
  picked = ap (λ (o : OpenSet). pick o.sched) (same_open c.requires.opening c.in-Open.open (same_Some _ _ (ap (λ kept. kept.1) (same_Some _ _ (sym c.requires.there ∙ c.get.ensures)) ∙ c.in-Some.is) ∙ c.in-Open.is))
      ∙ sym c.peek.ensures ∙ c.in-Piece.is;
}
