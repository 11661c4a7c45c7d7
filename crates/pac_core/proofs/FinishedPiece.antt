-- A piece is finished: its set is changed or ends, and its transaction keeps other values.
use Rattle.std.proofs.Common.{◌≡◌, ℕ, ◌+◌, ◌≤◌, ◌==◌, Bool, true, false, cond, not, List, map, Option, Some, None, refl, sym, ap, subst, ◌∙◌}
use Rattle.std.specs.Prelude.{slice_get}
use Rattle.std.proofs.lemmas.List.Folds.{sum_by-zero}
use Rattle.pac_value.specs.Expressions.{Values}
use Rattle.pac_ops.specs.declared.note.Note.{Note}
use Rattle.pac_ops.specs.Notes.{least}
use Rattle.pac_sched.specs.declared.state.PieceState.{PieceState}
use Rattle.pac_sched.specs.declared.state.PieceState.TheVariants as state
use Rattle.pac_sched.specs.Schedules.{Schedule, all_finished, is_finished, unfinished_pieces}
use Rattle.pac_sched.proofs.FollowerLemmas.{to_count}
use Rattle.pac_sched.proofs.StateLemmas.{all_same}
use Rattle.pac_sets.specs.declared.set_id.SetId.{SetId}
use Rattle.pac_sets.specs.Sets.{Setting, with_kept_at}
use Rattle.pac_core.specs.declared.loaded.LoadedBatch.{LoadedBatch}
use Rattle.pac_core.specs.declared.place.Place.{Place}
use Rattle.pac_core.specs.declared.progress.Progress.{Progress}
use Rattle.pac_core.specs.declared.stage.OpenSet.{OpenSet}
use Rattle.pac_core.specs.declared.stage.SetStage.{SetStage}
use Rattle.pac_core.specs.declared.stage.SetStage.TheVariants.{Open}
use Rattle.pac_core.specs.Links.{IsUnfinishedBatch, batches_of}
use Rattle.pac_core.specs.Moves.{AreValuesKept, IsFinishedTo, after_finish, keeps_now_at}
use Rattle.pac_core.proofs.Moved.{kept_twice}

-- each piece is finished where none is counted
pub finished_test : (s : Schedule) → all_finished s ≡ (unfinished_pieces s == 0)
finished_test s = sym (sum_by-zero (λ (state : PieceState). to_count (not (is_finished state))) s.states
    ∙ all_same (λ state. to_count (not (is_finished state)) == 0) is_finished (λ state. one (is_finished state)) s.states)
  where
    one : (b : Bool) → (to_count (not b) == 0) ≡ b
    one true = refl
    one false = refl

-- what is kept of the set
pub after_all : (opening : OpenSet) → all_finished opening.sched ≡ true → ◌≡◌ {A = Option SetStage} None (after_finish opening)
after_all opening all = sym (ap (λ b. cond b None (Some (Open opening))) all)

pub after_some : (opening : OpenSet) → all_finished opening.sched ≡ false → ◌≡◌ {A = Option SetStage} (Some (Open opening)) (after_finish opening)
after_some opening some = sym (ap (λ b. cond b None (Some (Open opening))) some)

-- where a progress differs from another one in its sets alone, it differs in them
pub sets_alone : (p new : Progress) (sets : Setting SetStage) → new ≡ record p { sets = sets } → new ≡ record p { sets = new.sets }
sets_alone p new sets is = is ∙ sym (ap (λ (x : Progress). record p { sets = x.sets }) is)

-- the sets where a finished one has ended
pub ended_sets : (p : Progress) (at : ℕ) (opening : OpenSet) → all_finished opening.sched ≡ true → (kept new : Setting SetStage) → kept ≡ record p.sets { sets = with_kept_at p.sets.sets at (Some (Open opening)) }
    → new ≡ record kept { sets = with_kept_at kept.sets at None } → new ≡ record p.sets { sets = with_kept_at p.sets.sets at (after_finish opening) }
ended_sets p at opening all kept new is end =
    end
    ∙ ap (λ (s : Setting SetStage). record s { sets = with_kept_at s.sets at None }) is
    ∙ (λ k. record p.sets { sets = (kept_twice p.sets.sets at (Some (Open opening)) None ∙ ap (with_kept_at p.sets.sets at) (after_all opening all)) k })

module _ (p : Progress) (place : Place) (kept : Values) (note : Option Note) (lifted : Progress) (now : lifted ≡ record p { sets = lifted.sets })
    (batches : List LoadedBatch) (are : AreValuesKept lifted.batches.items place.batch (keeps_now_at place.index kept) batches) where
  old_batches : map (λ (l : LoadedBatch). l.batch) batches ≡ batches_of p
  old_batches = are.batches ∙ ap batches_of now

  values_from : (id : SetId) → id.batch ≡ place.batch → (k : ℕ) (loaded q : LoadedBatch) → slice_get batches k ≡ Some q → loaded.batch ≡ q.batch → loaded.kept.items ≡ q.kept.items
      → (before : LoadedBatch) × (slice_get p.batches.items k ≡ Some before) × (loaded.batch ≡ before.batch) × (loaded.kept.items ≡ cond (k == id.batch) (keeps_now_at place.index kept before.kept.items) before.kept.items)
  values_from id own k loaded q there batch same =
      let before = are.each k q there in (
        before.0,
        sym (ap (λ (x : Progress). slice_get x.batches.items k) now) ∙ before.1,
        batch ∙ before.2,
        same ∙ before.3 ∙ ap (λ b. cond (k == b) (keeps_now_at place.index kept before.0.kept.items) before.0.kept.items) (sym own),
      )

  pub finished_to : (id : SetId) (after : Option SetStage) → id.batch ≡ place.batch → (new : Progress) → new.pieces ≡ lifted.pieces
      → new.sets ≡ record p.sets { sets = with_kept_at p.sets.sets place.at after }
      → new.note ≡ least lifted.note note → new.first ≡ lifted.first → new.next ≡ lifted.next → new.unfinished + 1 ≡ lifted.unfinished → new.is_closed ≡ lifted.is_closed → (new.recent ≤ lifted.recent) × (new.recent ≤ place.at)
      → batches_of new ≡ map (λ (l : LoadedBatch). l.batch) batches
      → ((k : ℕ) (loaded : LoadedBatch) → slice_get new.batches.items k ≡ Some loaded → IsUnfinishedBatch new.sets.sets k → (q : LoadedBatch) × (slice_get batches k ≡ Some q) × (loaded.batch ≡ q.batch) × (loaded.kept.items ≡ q.kept.items))
      → IsFinishedTo p place.at id after place.index kept note new
  finished_to id after own new pieces sets note_is first next unfinished closed recent batches_are values = record {
    pieces = pieces ∙ ap (λ (x : Progress). x.pieces) now;
    sets = sets;
    note_is = note_is ∙ ap (λ (x : Progress). least x.note note) now;
    first = first ∙ ap (λ (x : Progress). x.first) now;
    next = next ∙ ap (λ (x : Progress). x.next) now;
    unfinished = unfinished ∙ ap (λ (x : Progress). x.unfinished) now;
    closed = closed ∙ ap (λ (x : Progress). x.is_closed) now;
    recent = (subst (λ (x : Progress). new.recent ≤ x.recent) now recent.0, recent.1);
    batches = batches_are ∙ old_batches;
    values = λ k loaded there left. let q = values k loaded there left in values_from id own k loaded q.0 q.1 q.2 q.3;
  }
