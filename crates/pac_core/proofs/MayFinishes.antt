-- A piece that is out may be finished; and so may a ready one once it is handed out, which makes of the replay what finishing it at once would.
use Rattle.std.proofs.Common.{◌≡◌, ℕ, zero, suc, ◌<◌, Bool, true, false, cond, not, List, [], ◌∷◌, length, Option, Some, None, refl, sym, ap, subst, ◌∙◌, true≢false, inl, inr, arith}
use Rattle.std.specs.Prelude.{filter, slice_get, slice_set}
use Rattle.std.proofs.lemmas.Option.{same_Some, slice_get_within}
use Rattle.pac_base.specs.Members.{Mem}
use Rattle.pac_value.specs.Expressions.{Values}
use Rattle.pac_ops.specs.declared.note.Note.{Note}
use Rattle.pac_ops.specs.declared.piece.PieceId.{PieceId}
use Rattle.pac_plan.specs.declared.parts.PlanParts.{PlanParts}
use Rattle.pac_sched.specs.declared.state.PieceState.{PieceState}
use Rattle.pac_sched.specs.declared.state.PieceState.TheVariants as state
use Rattle.pac_sched.specs.declared.state.Pick.TheVariants.{Piece}
use Rattle.pac_sched.specs.Schedules.{IsInOrder, Schedule, after_take, handed_out, is_finished, pick, position_of, set_at, with_state}
use Rattle.pac_sched.proofs.CallLemmas.{picked}
use Rattle.pac_sched.proofs.StateLemmas.{get_same}
use Rattle.pac_sets.specs.declared.set_id.SetId.{SetId}
use Rattle.pac_sets.specs.Sets.{IsOpenSet, Kept, WaitsForNothing, with_kept_at}
use Rattle.pac_commute.specs.Loads.{Job}
use Rattle.pac_commute.specs.Machine.{among}
use Rattle.pac_core.specs.declared.place.Place.{Place}
use Rattle.pac_core.specs.declared.progress.Progress.{Progress}
use Rattle.pac_core.specs.declared.stage.OpenSet.{OpenSet}
use Rattle.pac_core.specs.declared.stage.SetStage.{SetStage}
use Rattle.pac_core.specs.declared.stage.SetStage.TheVariants.{Open}
use Rattle.pac_core.specs.Links.{IsOpened, KeepsProgress, replay_so_far}
use Rattle.pac_core.specs.Moves.{AreInBlocks, IsFinishedAt, IsFinishedTo, IsMovedTo, IsOrderAfter, MayFinish, after_finish, finished_in}
use Rattle.pac_core.specs.Places.{IsPieceAt}
use Rattle.pac_core.specs.Replay.{left, loaded_pieces}
use Rattle.pac_core.proofs.EndedSet.{blocks_still, open_still}
use Rattle.pac_core.proofs.KeptAt.{get_changed, still_up}
use Rattle.pac_core.proofs.Moved.{kept_twice}
use Rattle.pac_core.proofs.PlacedPieces as placed
use Rattle.pac_core.proofs.Ready.{SetAt, set_at as set_there, txns}

-- a list that a test finds a member of has one
some_left : {A : Type 0} (test : A → Bool) (xs : List A) (x : A) → Mem x xs → test x ≡ true → 0 < length (filter test xs)
some_left test [] x m e = absurd m
some_left {A} test (y ∷ ys) x (inl same) e = go (test y) (ap test (sym same) ∙ e)
  where
    go : (b : Bool) → b ≡ true → 0 < length (cond b (y ∷ filter test ys) (filter test ys))
    go true e = omega arith
    go false e = absurd (true≢false (sym e))
some_left {A} test (y ∷ ys) x (inr m) e = go (test y) (some_left test ys x m e)
  where
    go : (b : Bool) → 0 < length (filter test ys) → 0 < length (cond b (y ∷ filter test ys) (filter test ys))
    go true lt = omega arith
    go false lt = lt

pub set_twice : {A : Type 0} (xs : List A) (i : ℕ) (a b : A) → slice_set (slice_set xs i a) i b ≡ slice_set xs i b
set_twice [] i a b = refl
set_twice (x ∷ xs) zero a b = refl
set_twice (x ∷ xs) (suc i) a b = ap (λ l. x ∷ l) (set_twice xs i a b)

state_twice : (s : Schedule) (piece : PieceId) (a b : PieceState) → with_state (with_state s piece a) piece b ≡ with_state s piece b
state_twice s piece a b = ap (λ (states : List PieceState). record { pieces = s.pieces; states = states; pairs = s.pairs }) (go (position_of s piece))
  where
    go : (o : Option ℕ) → set_at o b (set_at o a s.states) ≡ set_at o b s.states
    go None = refl
    go (Some i) = set_twice s.states i a b

opens_same : (a b : OpenSet) → ◌≡◌ {A = SetStage} (Open a) (Open b) → a ≡ b
opens_same a b e = cc

module _ (job : Job) (p : Progress) (keeps : KeepsProgress job p) where
  -- a set whose pieces are opened is open
  opens : (at : ℕ) (set : SetId) (opening : OpenSet) → slice_get p.sets.sets at ≡ Some (set, Some (Open opening)) → IsOpenSet p.sets.edges p.sets.sets at
  opens at set opening there = record {
    set = set;
    kept = Open opening;
    there = there;
    passed = subst (λ (edges : List (ℕ × ℕ)). WaitsForNothing edges p.sets.sets set) (ap (λ (parts : PlanParts). parts.edges) keeps.parts ∙ sym keeps.edges) (opened (set_there job p keeps at set (Some (Open opening)) there)).passed;
  }
    where
      opened : (s : SetAt job p keeps at set (Some (Open opening))) → IsOpened (replay_so_far job p) p.sets.sets set (txns job p keeps at set (Some (Open opening)) s) opening
      opened s = (keeps.stages at set (Open opening) s.batch s.there s.batch_there).2

  pub in_blocks : AreInBlocks p
  in_blocks j set there = subst (λ (parts : PlanParts). set.0.block < parts.blocks) keeps.parts (set_there job p keeps j set.0 set.1 there).inside

  -- a piece that isn't finished is counted
  pub counted_left : (piece : PieceId) → Mem piece (loaded_pieces (replay_so_far job p)) → among (replay_so_far job p).finished piece ≡ false → 0 < p.unfinished
  counted_left piece mem unfinished =
      let some = some_left (λ q. not (among (replay_so_far job p).finished q)) (loaded_pieces (replay_so_far job p)) piece mem (ap not unfinished) in
      let count : p.unfinished ≡ left (replay_so_far job p) = keeps.unfinished in
      subst (λ n. 0 < n) (sym count) some

  module _ (place : Place) (piece : PieceId) where
    room : (far : PieceState) (at : IsPieceAt p place piece far) → place.index < length at.txn.loaded.kept.items
    room far at =
        let inside = at.txn.inside in
        let len = placed.kept_len job p keeps place piece far at in
        omega (arith, inside, len)

    counted : (far : PieceState) (at : IsPieceAt p place piece far) → is_finished far ≡ false → 0 < p.unfinished
    counted far at unfinished = counted_left piece (placed.loaded_is job p keeps place piece far at) (placed.finished_now job p keeps place piece far at ∙ unfinished)

    -- a piece that is out
    pub may_finish : IsPieceAt p place piece state.Out → MayFinish p place piece
    may_finish at = record {
      placed = at;
      room = room state.Out at;
      counted = counted state.Out at refl;
      opened = opens place.at at.stands.set at.stands.opening at.stands.there;
      ascend = keeps.ascend;
      blocks = in_blocks;
    }

    -- ---- a ready one that is handed out

    module _ (at : IsPieceAt p place piece state.Waiting) (first : pick at.stands.opening.sched ≡ Piece piece) where
      abbrev out_open : OpenSet
      out_open = record { sched = with_state at.stands.opening.sched piece state.Out; cells = at.stands.opening.cells }

      abbrev out_progress : Progress
      out_progress = record p { sets = record p.sets { sets = with_kept_at p.sets.sets place.at (Some (Open out_open)) } }

      out_there : slice_get out_progress.sets.sets place.at ≡ Some (at.stands.set, Some (Open out_open))
      out_there = get_changed p.sets.sets place.at (at.stands.set, Some (Open at.stands.opening)) (Some (Open out_open)) at.stands.there

      abbrev out_placed : IsPieceAt out_progress place piece state.Out
      out_placed = record {
        txn = at.txn;
        stands = record {
          set = at.stands.set;
          opening = out_open;
          there = out_there;
          position_is = at.stands.position_is;
          far_is = ap (λ o. slice_get (set_at o state.Out at.stands.opening.sched.states) place.position) at.stands.position_is
              ∙ get_same at.stands.opening.sched.states place.position state.Out (slice_get_within at.stands.opening.sched.states place.position state.Waiting at.stands.far_is);
        };
        set_is = at.set_is;
      }

      out_may : MayFinish out_progress place piece
      out_may = record {
        placed = out_placed;
        room = room state.Waiting at;
        counted = counted state.Waiting at refl;
        opened = open_still p.sets.edges p.sets.sets place.at (Open out_open) keeps.ascend (opens place.at at.stands.set at.stands.opening at.stands.there);
        ascend = still_up p.sets.sets keeps.ascend place.at at.stands.set (Some (Open at.stands.opening)) (Some (Open out_open)) at.stands.there;
        blocks = blocks_still p.sets.sets place.at (Some (Open out_open)) p.pieces.blocks in_blocks;
      }

      module _ (out : Progress) (moved : IsMovedTo after_take p place.at out) where
        out_is : out ≡ out_progress
        out_is =
            moved at.stands.set at.stands.opening at.stands.there
            ∙ ap (λ (s : Schedule). record p { sets = record p.sets { sets = with_kept_at p.sets.sets place.at (Some (Open (record { sched = s; cells = at.stands.opening.cells }))) } })
            (ap (handed_out at.stands.opening.sched) (picked at.stands.opening.sched piece first))

        pub may_run : MayFinish out place piece
        may_run = subst (λ (q : Progress). MayFinish q place piece) (sym out_is) out_may

        module _ (kept : Values) (note : Option Note) (new : Progress) (to : IsFinishedAt out place piece kept note new) (order : IsOrderAfter (λ sched. with_state sched piece state.Finished) out place.at) where
          -- finished at once
          abbrev end_open : OpenSet
          end_open = record { sched = with_state at.stands.opening.sched piece state.Finished; cells = at.stands.opening.cells }

          twice : ◌≡◌ {A = OpenSet} (record { sched = with_state out_open.sched piece state.Finished; cells = out_open.cells }) end_open
          twice = ap (λ (s : Schedule). record { sched = s; cells = at.stands.opening.cells }) (state_twice at.stands.opening.sched piece state.Out state.Finished)

          own_finished : at.stands.set.batch ≡ place.batch → IsFinishedTo p place.at at.stands.set (after_finish (finished_in at.stands.opening piece)) place.index kept note new
          own_finished own =
              let is = subst (λ (q : Progress). IsFinishedAt q place piece kept note new) out_is to at.stands.set out_open out_there own in
              record {
                pieces = is.pieces;
                sets = is.sets ∙ (λ k. record p.sets {
                  sets = (kept_twice p.sets.sets place.at (Some (Open out_open)) (after_finish (record { sched = with_state out_open.sched piece state.Finished; cells = out_open.cells }))
                      ∙ ap (λ (o : OpenSet). with_kept_at p.sets.sets place.at (after_finish o)) twice) k;
                });
                note_is = is.note_is;
                first = is.first;
                next = is.next;
                unfinished = is.unfinished;
                closed = is.closed;
                recent = is.recent;
                batches = is.batches;
                values = is.values;
              }

          -- what is open at the offset is the one there
          same_there : (set : SetId) (opening : OpenSet) → slice_get p.sets.sets place.at ≡ Some (set, Some (Open opening)) → ◌≡◌ {A = SetId × OpenSet} (at.stands.set, at.stands.opening) (set, opening)
          same_there set opening there =
              let pair : ◌≡◌ {A = Kept SetStage} (at.stands.set, Some (Open at.stands.opening)) (set, Some (Open opening)) = same_Some _ _ (sym at.stands.there ∙ there) in
              let opened : at.stands.opening ≡ opening = opens_same at.stands.opening opening (same_Some _ _ (ap (λ (x : Kept SetStage). x.1) pair)) in
              λ k. ((pair k).0, opened k)

          pub run_finished : IsFinishedAt p place piece kept note new
          run_finished set opening there own =
              let same = same_there set opening there in
              subst (λ (x : SetId × OpenSet). x.0.batch ≡ place.batch → IsFinishedTo p place.at x.0 (after_finish (finished_in x.1 piece)) place.index kept note new) same own_finished own

          pub run_order : IsOrderAfter (λ sched. with_state sched piece state.Finished) p place.at
          run_order set opening there =
              subst (λ (x : SetId × OpenSet). IsInOrder (with_state x.1.sched piece state.Finished)) (same_there set opening there)
              (subst (λ (o : OpenSet). IsInOrder o.sched) twice (subst (λ (q : Progress). IsOrderAfter (λ sched. with_state sched piece state.Finished) q place.at) out_is order at.stands.set out_open out_there))
