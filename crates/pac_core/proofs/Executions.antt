-- The last state of a replay is that of the batches that were loaded at first.
use Rattle.std.proofs.Common.{[], ◌∷◌, ◌≡◌, ℕ, ◌+◌, List, length, Option, refl, sym, ap, ◌∙◌, arith}
use Rattle.pac_value.specs.State.{Tables}
use Rattle.pac_ops.specs.Notes.{first_note}
use Rattle.pac_ops.specs.Transactions.{replayed}
use Rattle.pac_ops.specs.declared.batch.Batch.{Batch}
use Rattle.pac_ops.specs.declared.note.Note.{Note}
use Rattle.pac_commute.specs.Loads.{Job, pieces_of}
use Rattle.pac_commute.specs.PlanLaws.{txns_of}
use Rattle.pac_core.specs.Calls.{IsReplayOutcome, with_batches}
use Rattle.pac_core.specs.Replay.{Replay, closed, left, loaded_pieces, opening_replay, with_batch_loaded, with_none_taken}
use Rattle.pac_core.proofs.BatchLoads.{begun_is, begun_left, loaded_are}
use Rattle.pac_workers.specs.Shown.{with_each}

module _ (job : Job) (batches : List Batch) (core : Replay) (loaded : core ≡ closed (with_batches (opening_replay job) batches)) where
  pub left_is : left core ≡ length (pieces_of job batches)
  left_is = ap left (loaded ∙ begun_is job batches) ∙ begun_left job batches

  module _ (last : Replay) (same : with_none_taken last ≡ with_none_taken core) where
    pub job_is : last.job ≡ job
    job_is = ap (λ (r : Replay). r.job) (same ∙ ap with_none_taken (loaded ∙ begun_is job batches))

    batches_are : last.batches ≡ batches
    batches_are = ap (λ (r : Replay). r.batches) (same ∙ ap with_none_taken (loaded ∙ begun_is job batches))

    module _ (tables : Tables) (note : Option Note) (is : IsReplayOutcome last tables note) where
      pub tables_are : tables ≡ (replayed job.parts.programs job.first (txns_of batches) job.tables).tables
      tables_are = is.tables_are ∙ (λ i. (replayed (job_is i).parts.programs (job_is i).first (txns_of (batches_are i)) (job_is i).tables).tables)

      pub note_is : note ≡ first_note (replayed job.parts.programs job.first (txns_of batches) job.tables).notes
      note_is = is.note_is ∙ (λ i. first_note (replayed (job_is i).parts.programs (job_is i).first (txns_of (batches_are i)) (job_is i).tables).notes)

-- ---- what a feed gave is loaded

each_is : (r : Replay) (batches : List Batch) → with_each with_batch_loaded r batches ≡ with_batches r batches
each_is r [] = refl
each_is r (b ∷ batches) = each_is (with_batch_loaded r b) batches

-- a replay to whose job these were added is that of the batches
pub fed_same : (job : Job) (batches : List Batch) (core last : Replay) → core ≡ opening_replay job → with_none_taken last ≡ with_each with_batch_loaded (with_none_taken core) batches
    → with_none_taken last ≡ with_none_taken (closed (with_batches (opening_replay job) batches))
fed_same job batches core last opening fed =
    let old : Replay = with_none_taken (opening_replay job) in
    fed ∙ ap (λ (r : Replay). with_each with_batch_loaded (with_none_taken r) batches) opening ∙ each_is old batches ∙ loaded_are old batches ∙ sym (ap with_none_taken (begun_is job batches))

-- what was finished is all of it
pub fed_counted : (job : Job) (batches : List Batch) (core last : Replay) (finished : ℕ) → core ≡ opening_replay job → with_none_taken last ≡ with_none_taken (closed (with_batches (opening_replay job) batches))
    → finished + length (loaded_pieces (with_none_taken core)) ≡ left core + length (loaded_pieces (with_none_taken last)) → finished ≡ length (pieces_of job batches)
fed_counted job batches core last finished opening same counted =
    let size : length (loaded_pieces (with_none_taken core)) ≡ length (pieces_of job []) = ap (λ (r : Replay). length (loaded_pieces (with_none_taken r))) opening in
    let rest : left core ≡ length (pieces_of job []) = ap left opening ∙ begun_left job [] in
    let all : length (loaded_pieces (with_none_taken last)) ≡ length (pieces_of job batches) = ap (λ (r : Replay). length (loaded_pieces r)) (same ∙ ap with_none_taken (begun_is job batches)) in
    omega (arith, size, rest, all, counted)
