-- What is opened is kept.
use Rattle.std.proofs.Common.{Option, Some, sym, ap, subst, ◌∙◌}
use Rattle.std.specs.Prelude.{IfSome, slice_get}
use Rattle.pac_sets.specs.Sets.{Setting}
use Rattle.pac_core.specs.declared.stage.OpenSet.{OpenSet}
use Rattle.pac_core.specs.declared.stage.SetStage.{SetStage}
use Rattle.pac_core.specs.declared.stage.SetStage.TheVariants.{Open, Waiting}
use Rattle.pac_core.specs.Links.{KeepsProgress, replay_so_far}
use Rattle.pac_core.specs.Moves.{IsOpeningOf}
use Rattle.pac_core.proofs.KeptAt.{get_changed}
use Rattle.pac_core.proofs.OpenedSets.{opened_keeps, opened_same}
use Rattle.pac_core.proofs.progress.Progress.open.Goals as goal

pub keep-requires : goal.keep-requires
keep-requires c =
    let is = subst (λ (o : Option OpenSet). IfSome o (IsOpeningOf c.args.self.now c.args.at)) c.in-Some.is c.in_ok-opening.ensures.waiting in
    (is.set, Waiting is.txns, is.there)

pub returns-in-Some-clause-keeps : goal.returns-in-Some-clause-keeps
returns-in-Some-clause-keeps c = λ job keeps.
    let p = c.args.self.now in
    let is = subst (λ (o : Option OpenSet). IfSome o (IsOpeningOf p c.args.at)) c.in-Some.is c.in_ok-opening.ensures.waiting in
    subst (λ (s : Setting SetStage). KeepsProgress job (record p { sets = s })) (sym c.keep.ensures) (opened_keeps job p keeps c.args.at c.requires.open c.in-Some.opening is)

pub returns-in-Some-clause-same : goal.returns-in-Some-clause-same
returns-in-Some-clause-same c = λ job keeps.
    let p = c.args.self.now in
    let is = subst (λ (o : Option OpenSet). IfSome o (IsOpeningOf p c.args.at)) c.in-Some.is c.in_ok-opening.ensures.waiting in
    ap (λ (s : Setting SetStage). replay_so_far job (record p { sets = s })) c.keep.ensures ∙ opened_same job p keeps c.args.at c.requires.open c.in-Some.opening is

pub returns-in-Some-clause-open : goal.returns-in-Some-clause-open
returns-in-Some-clause-open c =
    let p = c.args.self.now in
    let is = subst (λ (o : Option OpenSet). IfSome o (IsOpeningOf p c.args.at)) c.in-Some.is c.in_ok-opening.ensures.waiting in
    record {
      set = is.set;
      opening = c.in-Some.opening;
      there = ap (λ (s : Setting SetStage). slice_get s.sets c.args.at) c.keep.ensures ∙ get_changed p.sets.sets c.args.at (is.set, Some (Waiting is.txns)) (Some (Open c.in-Some.opening)) is.there;
    }
