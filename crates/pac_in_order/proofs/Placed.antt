-- Where the place of a line is among the pieces of what was loaded.
use Rattle.std.proofs.Common.{◌≡◌, ℕ, ◌+◌, ◌<◌, ◌≤◌, nat_lt, Bool, true, false, List, [], ◌∷◌, ◌++◌, length, Option, Some, None, refl, sym, ap, ◌∙◌, subst, arith}
use Rattle.std.specs.Prelude.{slice_get, IsSomeAnd, map}
use Rattle.std.specs.Option.{option_map}
use Rattle.std.proofs.lemmas.Bool.Decides.{nat_tests}
use Rattle.std.proofs.lemmas.List.{length-append}
use Rattle.std.proofs.lemmas.Option.{slice_get_within, slice_get-map}
use Rattle.pac_value.specs.State.{Tables}
use Rattle.pac_value.specs.Values.{type_of}
use Rattle.pac_ops.specs.declared.batch.Batch.{Batch}
use Rattle.pac_ops.specs.declared.piece.PieceId.{PieceId}
use Rattle.pac_ops.specs.declared.program.Program.{Program}
use Rattle.pac_ops.specs.declared.transaction.Txn.{Txn}
use Rattle.pac_ops.specs.declared.transaction.Txn.TheVariants.{Call as ACall, AdHoc}
use Rattle.pac_ops.specs.Shapes.{RowsFit}
use Rattle.pac_base.specs.Members.{Mem}
use Rattle.pac_plan.specs.declared.parts.PlanParts.{PlanParts}
use Rattle.pac_plan.specs.Worlds.{txn_at}
use Rattle.pac_plan.specs.Codes.{TxnFitsPlan}
use Rattle.pac_piece.specs.InPlace.{Place}
use Rattle.pac_commute.specs.Loads.{Job, begin, pieces_of, world_of}
use Rattle.pac_commute.specs.PartialFits.{TxnIsOfPlan}
use Rattle.pac_commute.specs.PlanLaws.{NumbersRunOn, txns_of}
use Rattle.pac_commute.proofs.BatchLemmas.{get-first, get-second}
use Rattle.pac_commute.proofs.Ends.{machine_ends}
use Rattle.pac_commute.proofs.Replays.{at_number}
use Rattle.pac_commute.proofs.Steps.{mem_among}
use Rattle.pac_lanes.specs.Shares.{applied_each}
use Rattle.pac_in_order.specs.declared.line.Line.{Line}
use Rattle.pac_in_order.specs.Courses.{Course, IsCourseOutcome, IsNextInOrder, IsSoundCourse, course_present}
use Rattle.pac_in_order.specs.Lines.{BegunAt, IsInFirst, KeepsLine, course_of, from_block, line_batches, line_index, line_job, pieces_to}
use Rattle.pac_in_order.proofs.Cursors.{all_passed, left_from}
use Rattle.pac_in_order.proofs.Prefixes as prefix

-- ---- batches

append_txns : (xs ys zs : List Txn) → (xs ++ ys) ++ zs ≡ xs ++ (ys ++ zs)
append_txns [] ys zs = refl
append_txns (x ∷ xs) ys zs = ap (λ l. x ∷ l) (append_txns xs ys zs)

pub txns-both : (xs ys : List Batch) → txns_of (xs ++ ys) ≡ txns_of xs ++ txns_of ys
txns-both [] ys = refl
txns-both (x ∷ xs) ys = ap (λ l. x.txns ++ l) (txns-both xs ys) ∙ sym (append_txns x.txns (txns_of xs) (txns_of ys))

-- a batch begins with the number after those before it
pub begins_at : (next : ℕ) (gone : List Batch) (batch : Batch) (rest : List Batch) → NumbersRunOn next (gone ++ batch ∷ rest) → batch.first ≡ next + length (txns_of gone)
begins_at next [] batch rest run = let e : batch.first ≡ next = run.0 in omega (arith, e)
begins_at next (b ∷ gone) batch rest run =
    let later : batch.first ≡ next + length b.txns + length (txns_of gone) = begins_at (next + length b.txns) gone batch rest run.1 in
    let long : length (b.txns ++ txns_of gone) ≡ length b.txns + length (txns_of gone) = length-append b.txns (txns_of gone) in
    omega (arith, later, long)

pub fits_plan : (parts : PlanParts) (txn : Txn) → TxnIsOfPlan parts txn → TxnFitsPlan parts txn
fits_plan parts (AdHoc records) fits = fits
fits_plan parts (ACall call) fits = subst (λ o. IsSomeAnd o (λ types. map type_of call.args ≡ types)) (sym (slice_get-map (λ (program : Program). program.params) parts.programs call.proc)) (go (slice_get parts.programs call.proc) fits)
  where
    go : (o : Option Program) → IsSomeAnd o (λ program. map type_of call.args ≡ program.params) → IsSomeAnd (option_map (λ (program : Program). program.params) o) (λ types. map type_of call.args ≡ types)
    go (Some program) is = is
    go None is = is

module _ (line : Line) (place : Place) (opening : Tables) (keeps : KeepsLine line place opening) where
  abbrev pub job : Job
  job = line_job line opening

  abbrev pub batches : List Batch
  batches = line_batches line

  abbrev pub k : ℕ
  k = line_index line

  abbrev pub course : Course
  course = course_of line opening

  count_is : length (txns_of batches) ≡ length (txns_of line.gone.items) + length (txns_of line.batches.items)
  count_is = ap length (txns-both line.gone.items line.batches.items) ∙ length-append (txns_of line.gone.items) (txns_of line.batches.items)

  pub index_within : k ≤ length (txns_of batches)
  index_within = go line.batches.items refl keeps.within
    where
      go : (kept : List Batch) → line.batches.items ≡ kept → IsInFirst line.txn kept → k ≤ length (txns_of batches)
      go [] e within = let all = count_is in omega (arith, all, within)
      go (b ∷ rest) e within =
          let all = count_is in
          let kept : length (txns_of line.batches.items) ≡ length b.txns + length (txns_of rest) = ap (λ l. length (txns_of l)) e ∙ length-append b.txns (txns_of rest) in
          omega (arith, all, kept, within)

  -- nothing is left where no batch is kept
  pub index_last : line.batches.items ≡ [] → k ≡ length (txns_of batches)
  index_last none =
      let all = count_is in
      let kept : length (txns_of line.batches.items) ≡ 0 = ap (λ l. length (txns_of l)) none in
      let first : line.txn ≡ 0 = subst (IsInFirst line.txn) none keeps.within in
      omega (arith, all, kept, first)

  module _ (batch : Batch) (rest : List Batch) (kept : line.batches.items ≡ batch ∷ rest) (txn : Txn) (there : slice_get batch.txns line.txn ≡ Some txn) where
    pub txn_there : slice_get (txns_of batches) k ≡ Some txn
    txn_there =
        ap (λ l. slice_get l k) (txns-both line.gone.items line.batches.items ∙ ap (λ l. txns_of line.gone.items ++ txns_of l) kept)
        ∙ get-second (txns_of line.gone.items) (batch.txns ++ txns_of rest) k line.txn refl
        ∙ get-first batch.txns (txns_of rest) line.txn (slice_get_within batch.txns line.txn txn there)
        ∙ there

    pub txn_numbered : txn_at job.first (txns_of batches) (job.first + k) ≡ Some txn
    txn_numbered = at_number line.plan job.first (txns_of batches) k txn txn_there

    pub txn_fits : TxnFitsPlan line.plan txn
    txn_fits = fits_plan line.plan txn (keeps.fits k txn txn_there)

    pub index_below : k < length (txns_of batches)
    index_below = slice_get_within (txns_of batches) k txn txn_there

    pub number_is : batch.first + line.txn ≡ job.first + k
    number_is =
        let begins : batch.first ≡ job.first + length (txns_of line.gone.items) = begins_at job.first line.gone.items batch rest (subst (λ l. NumbersRunOn job.first (line.gone.items ++ l)) kept keeps.run_on) in
        omega (arith, begins)

  -- ---- what is finished

  pub in_order : (rest : List PieceId) × (pieces_of job batches ≡ course.finished ++ rest)
  in_order = go line.block refl keeps.begun
    where
      at_start : (c : Bool) → nat_lt k (length (txns_of batches)) ≡ c → (rest : List PieceId) × (pieces_of job batches ≡ pieces_to job batches k 0 ++ rest)
      at_start true h = left_from job batches k 0 (grind (arith, nat_tests)) (omega arith)
      at_start false h =
          let ge : length (txns_of batches) ≤ k = grind (arith, nat_tests) in
          let le = index_within in
          let same : length (txns_of batches) ≡ k = omega (arith, ge, le) in
          ([], all_passed job batches ∙ ap (λ n. pieces_to job batches n 0) same ∙ sym (none_more (pieces_to job batches k 0)))
        where
          none_more : (l : List PieceId) → l ++ [] ≡ l
          none_more [] = refl
          none_more (p ∷ l) = ap (λ r. p ∷ r) (none_more l)

      go : (block : Option ℕ) → line.block ≡ block → BegunAt line (course_present course) place block → (rest : List PieceId) × (pieces_of job batches ≡ pieces_to job batches k (from_block block) ++ rest)
      go None e begun = at_start (nat_lt k (length (txns_of batches))) refl
      go (Some b) e begun = left_from job batches k b (index_below begun.batch begun.rest begun.kept begun.txn begun.there) begun.block

  pub sound : IsSoundCourse course
  sound = record {
    is_plan = keeps.is_plan;
    fit = keeps.fit;
    in_order = in_order;
    machine = prefix.keeps job batches keeps.is_plan keeps.run_on keeps.fits course.finished in_order.0 in_order.1;
  }

  pub present_is : course_present course ≡ applied_each (world_of job batches) course.finished (begin job batches)
  present_is = prefix.now_is job batches keeps.is_plan keeps.run_on keeps.fits course.finished in_order.0 in_order.1

  pub rows_fit : RowsFit line.plan.tables (course_present course).tables
  rows_fit = prefix.rows_now job batches keeps.is_plan keeps.run_on keeps.fits course.finished in_order.0 in_order.1 keeps.fit

  pub outcome : IsNextInOrder course None → IsCourseOutcome course place.tables place.note
  outcome all =
      let end = machine_ends job keeps.is_plan (prefix.machine job batches keeps.is_plan keeps.run_on keeps.fits course.finished in_order.0 in_order.1) sound.machine
      (λ p m. mem_among course.finished p (subst (Mem p) (sym all) m)) in
      record { tables_are = keeps.tables ∙ end.0; note_is = keeps.note ∙ end.1 }
