-- No set before the offset has a ready piece, and each step is one set further.
use Rattle.std.proofs.Common.{◌≡◌, ℕ, ◌<◌, length, Some, refl, sym, ap, subst, ◌∙◌, arith}
use Rattle.std.proofs.lemmas.List.{length-map}
use Rattle.std.proofs.lemmas.Option.{slice_get_within}
use Rattle.pac_commute.specs.Loads.{Job}
use Rattle.pac_sets.specs.Sets.{IsOpenSet, Kept}
use Rattle.pac_core.specs.declared.progress.Progress.{Progress}
use Rattle.pac_core.specs.declared.stage.SetStage.{SetStage}
use Rattle.pac_core.specs.Links.{KeepsProgress, ReadyFrom, replay_so_far, set_ids}
use Rattle.pac_core.specs.Replay.{Replay}
use Rattle.pac_core.proofs.NextReady.{from_next, from_open, from_same, next_here, none_left, seen_keeps}
use Rattle.pac_core.proofs.progress.Progress.look_for_ready.Goals as goal

-- as many sets as before
same_count : (job : Job) (p new : Progress) → KeepsProgress job p → KeepsProgress job new → replay_so_far job new ≡ replay_so_far job p → length new.sets.sets ≡ length p.sets.sets
same_count job p new keeps keeps_new same =
    sym (length-map new.sets.sets (λ (s : Kept SetStage). s.0))
    ∙ ap length (keeps_new.sets ∙ ap (λ (r : Replay). set_ids job.parts 0 r.batches) same ∙ sym keeps.sets)
    ∙ length-map p.sets.sets (λ (s : Kept SetStage). s.0)

open_within : (p : Progress) (at : ℕ) → IsOpenSet p.sets.edges p.sets.sets at → at < length p.sets.sets
open_within p at opened = slice_get_within p.sets.sets at (opened.set, Some opened.kept) opened.there

pub loop-at-init : goal.loop-at-init
loop-at-init c = record { keeps = λ job keeps. keeps; same = λ job keeps. refl; from = λ job keeps seen. seen; count = c.len-count.ensures; recent = refl }

pub open-requires-clause-keeps : goal.open-requires-clause-keeps
open-requires-clause-keeps c = record { job = c.requires.job; keeps = c.loop-at.invariant.keeps c.requires.job c.requires.keeps }

pub returns-in-Some-ready_in-clause-next : goal.returns-in-Some-ready_in-clause-next
returns-in-Some-ready_in-clause-next c = λ job keeps seen.
    let before = c.loop-at.invariant.keeps job keeps in
    let after = c.in_ok-open.ensures.keeps job before in
    let from = from_same job c.loop-at.self c.open.new.self before after (c.in_ok-open.ensures.same job before) c.in-Some.at
    (from_open job c.loop-at.self before c.loop-at.from c.in-Some.at (c.loop-at.invariant.from job keeps seen) c.in-Some.ensures) in
    let found = c.in-Some-ready_in.ensures.found in (
      next_here job c.open.new.self after c.in-Some.at found.stands from c.in-Some-ready_in.piece found.picked,
      record { stands = record { set = found.stands.set; opening = found.stands.opening; there = found.stands.there }; picked = found.picked },
    )

pub returns-in-Some-ready_in-clause-keeps : goal.returns-in-Some-ready_in-clause-keeps
returns-in-Some-ready_in-clause-keeps c = λ job keeps. seen_keeps job c.open.new.self c.in-Some.at (c.in_ok-open.ensures.keeps job (c.loop-at.invariant.keeps job keeps))

pub returns-in-Some-ready_in-clause-same : goal.returns-in-Some-ready_in-clause-same
returns-in-Some-ready_in-clause-same c = λ job keeps. c.in_ok-open.ensures.same job (c.loop-at.invariant.keeps job keeps) ∙ c.loop-at.invariant.same job keeps

pub overflow_add-from : goal.overflow_add-from
overflow_add-from c =
    let lt = open_within c.loop-at.self c.in-Some.at c.in-Some.ensures.1 in
    let count = c.loop-at.invariant.count in
    omega (arith, lt, count)

pub loop-at-smaller : goal.loop-at-smaller
loop-at-smaller c =
    let lt = open_within c.loop-at.self c.in-Some.at c.in-Some.ensures.1 in
    let le = c.in-Some.ensures.0 in
    let count = c.loop-at.invariant.count in
    omega (arith, lt, le, count)

pub loop-at-preserved : goal.loop-at-preserved
loop-at-preserved c = record {
  keeps = λ job keeps. c.in_ok-open.ensures.keeps job (c.loop-at.invariant.keeps job keeps);
  same = λ job keeps. c.in_ok-open.ensures.same job (c.loop-at.invariant.keeps job keeps) ∙ c.loop-at.invariant.same job keeps;
  from = λ job keeps seen.
      let before = c.loop-at.invariant.keeps job keeps in
      let after = c.in_ok-open.ensures.keeps job before in
      from_next job c.open.new.self after c.in-Some.at c.in_ok-open.ensures.open
      (from_same job c.loop-at.self c.open.new.self before after (c.in_ok-open.ensures.same job before) c.in-Some.at
      (from_open job c.loop-at.self before c.loop-at.from c.in-Some.at (c.loop-at.invariant.from job keeps seen) c.in-Some.ensures))
      c.in_default-ready_in.ensures.none;
  count =
      let before = c.loop-at.invariant.keeps c.requires.job c.requires.keeps in
      c.loop-at.invariant.count ∙ sym (same_count c.requires.job c.loop-at.self c.open.new.self before (c.in_ok-open.ensures.keeps c.requires.job before) (c.in_ok-open.ensures.same c.requires.job before));
  recent = c.in_ok-open.ensures.recent ∙ c.loop-at.invariant.recent;
}

pub returns-clause-next : goal.returns-clause-next
returns-clause-next c = λ job keeps seen. none_left job c.loop-at.self (c.loop-at.invariant.keeps job keeps) c.loop-at.from (c.loop-at.invariant.from job keeps seen) c.in_default.ensures

pub returns-clause-sees : goal.returns-clause-sees
returns-clause-sees c = λ job keeps seen.
    let old = c.args.self.now in
    subst (λ n. ReadyFrom job c.loop-at.self n) (sym c.loop-at.invariant.recent)
    (from_same job old c.loop-at.self keeps (c.loop-at.invariant.keeps job keeps) (c.loop-at.invariant.same job keeps) old.recent seen)

pub returns-in_err-open-clause-sees : goal.returns-in_err-open-clause-sees
returns-in_err-open-clause-sees c = λ job keeps seen.
    let old = c.args.self.now in
    let before = c.loop-at.invariant.keeps job keeps in
    subst (λ n. ReadyFrom job c.open.new.self n) (sym (c.in_err-open.ensures.recent ∙ c.loop-at.invariant.recent))
    (from_same job old c.open.new.self keeps (c.in_err-open.ensures.keeps job before) (c.in_err-open.ensures.same job before ∙ c.loop-at.invariant.same job keeps) old.recent seen)

pub returns-in-Some-ready_in-clause-sees : goal.returns-in-Some-ready_in-clause-sees
returns-in-Some-ready_in-clause-sees c = λ job keeps seen.
    let before = c.loop-at.invariant.keeps job keeps in
    let after = c.in_ok-open.ensures.keeps job before in
    from_same job c.loop-at.self c.open.new.self before after (c.in_ok-open.ensures.same job before) c.in-Some.at
    (from_open job c.loop-at.self before c.loop-at.from c.in-Some.at (c.loop-at.invariant.from job keeps seen) c.in-Some.ensures)
