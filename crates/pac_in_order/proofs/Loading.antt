-- A batch is loaded after the others: the course has it too, and is kept. And nothing is loaded at the opening.
use Rattle.std.proofs.Common.{◌≡◌, ℕ, ◌+◌, ◌<◌, ◌≤◌, nat_lt, true, false, cond, List, [], ◌∷◌, ◌++◌, length, take, Option, Some, None, refl, sym, ap, ◌∙◌, subst, arith}
use Rattle.std.specs.Prelude.{slice_get}
use Rattle.std.proofs.lemmas.Bool.Decides.{nat_tests}
use Rattle.std.proofs.lemmas.List.{length-append}
use Rattle.pac_value.specs.State.{Tables}
use Rattle.pac_base.specs.Members.{Mem}
use Rattle.pac_base.proofs.TestLemmas.{unlike}
use Rattle.pac_ops.specs.declared.batch.Batch.{Batch}
use Rattle.pac_ops.specs.declared.piece.PieceId.{PieceId}
use Rattle.pac_ops.specs.Operations.{State}
use Rattle.pac_ops.specs.Shapes.{RowsFit}
use Rattle.pac_plan.specs.Analysis.{IsPlan}
use Rattle.pac_plan.specs.Pieces.{Present, of_txn, partial}
use Rattle.pac_plan.specs.Codes.{code_in, code_ops}
use Rattle.pac_piece.specs.Frames.{after_ops}
use Rattle.pac_piece.specs.InPlace.{Place}
use Rattle.pac_commute.specs.Loads.{Job, LoadKeeps, and_batch, begin, loaded, next_in_job}
use Rattle.pac_commute.specs.Machine.{among}
use Rattle.pac_commute.specs.PartialFits.{TxnsFitPlan}
use Rattle.pac_commute.specs.PlanLaws.{NumbersRunOn, txns_of}
use Rattle.pac_commute.proofs.BatchLemmas.{run_on-more, txns-more}
use Rattle.pac_commute.proofs.Loads.{loads_keep}
use Rattle.pac_commute.proofs.Steps.{among_mem, fit_more}
use Rattle.pac_lanes.proofs.FinishLemmas.{mem_first}
use Rattle.pac_in_order.specs.declared.line.Line.{Line}
use Rattle.pac_in_order.specs.Courses.{Course, MayFollow, course_present, course_with_batch, opening_course}
use Rattle.pac_in_order.specs.Lines.{BegunAt, IsAddedNone, IsAddedTo, IsInFirst, KeepsLine, course_of, from_block, line_batches, line_index, line_job, pieces_to}
use Rattle.pac_in_order.proofs.Cursors.{to_same}
use Rattle.pac_in_order.proofs.Placed.{in_order, index_below, index_within}

append_more : (xs ys : List Batch) (b : Batch) → xs ++ (ys ++ b ∷ []) ≡ (xs ++ ys) ++ b ∷ []
append_more [] ys b = refl
append_more (x ∷ xs) ys b = ap (λ l. x ∷ l) (append_more xs ys b)

module _ (line : Line) (opening : Tables) (place : Place) (keeps : KeepsLine line place opening) (batch : Batch) (may : MayFollow (course_of line opening) batch) where
  abbrev job : Job
  job = line_job line opening

  abbrev old : List Batch
  old = line_batches line

  abbrev course : Course
  course = course_of line opening

  abbrev k : ℕ
  k = line_index line

  begun_below : (b : ℕ) → line.block ≡ Some b → k < length (txns_of old)
  begun_below b e = let w = subst (BegunAt line (course_present course) place) e keeps.begun in index_below line place opening keeps w.batch w.rest w.kept w.txn w.there

  at_end : k ≡ length (txns_of old) → from_block line.block ≡ 0
  at_end same = go line.block refl
    where
      go : (block : Option ℕ) → line.block ≡ block → from_block block ≡ 0
      go None e = refl
      go (Some b) e = let lt = begun_below b e in absurd (omega (arith, lt, same))

  finished_same : pieces_to job (and_batch old batch) k (from_block line.block) ≡ course.finished
  finished_same = to_same job old batch keeps.run_on may.first k (from_block line.block) (index_within line place opening keeps) at_end

  load : LoadKeeps job old batch
  load = loads_keep job old batch keeps.run_on may.first

  below : (p : PieceId) → next_in_job job old ≤ p.txn → among course.finished p ≡ false
  below p le = unlike _ (λ f.
      let divided = in_order line place opening keeps in
      let lt : p.txn < next_in_job job old = (load.there p (subst (Mem p) (sym divided.1) (mem_first p course.finished divided.0 (among_mem course.finished p f)))).0 in
      omega (arith, lt, le))

  -- ---- what stands

  abbrev with_it : Course
  with_it = course_with_batch course batch

  present_is : course_present with_it ≡ loaded (next_in_job job old) (begin job (and_batch old batch)).envs (course_present course)
  present_is = load.state (among course.finished) below

  pub tables_same : (course_present with_it).tables ≡ (course_present course).tables
  tables_same = ap (λ (z : Present). z.tables) present_is

  pub note_same : (course_present with_it).note ≡ (course_present course).note
  note_same = ap (λ (z : Present). z.note) present_is

  sees_same : k < length (txns_of old) → of_txn (line.first + k) (course_present with_it) ≡ of_txn (line.first + k) (course_present course)
  sees_same lt = ap (of_txn (line.first + k)) present_is
      ∙ (λ i. record { env = cond (lower i) ((course_present course).envs (line.first + k)) ((begin job (and_batch old batch)).envs (line.first + k)); tables = (course_present course).tables })
    where
      lower : nat_lt (line.first + k) (next_in_job job old) ≡ true
      lower = let less : line.first + k < next_in_job job old = omega (arith, lt) in grind (arith, nat_tests)

  module _ (new : Line) (added : IsAddedTo line batch new) where
    batches_more : line_batches new ≡ and_batch old batch
    batches_more = (λ i. (added.rest i).gone.items ++ added.batches i) ∙ append_more line.gone.items line.batches.items batch

    index_same : line_index new ≡ k
    index_same = λ i. length (txns_of (added.rest i).gone.items) + (added.rest i).txn

    pub load_is : course_of new opening ≡ with_it
    load_is =
        (λ i. record {
          job = line_job (added.rest i) opening;
          batches = batches_more i;
          is_closed = (added.rest i).is_closed;
          finished = pieces_to (line_job (added.rest i) opening) (batches_more i) (index_same i) (from_block (added.rest i).block);
        })
        ∙ (λ i. record { job = job; batches = and_batch old batch; is_closed = line.is_closed; finished = finished_same i })

    begun_now : (block : Option ℕ) → line.block ≡ block → BegunAt new (course_present (course_of new opening)) place block
    begun_now None e = tt
    begun_now (Some b) e =
        let w = subst (BegunAt line (course_present course) place) e keeps.begun in
        record {
          batch = w.batch;
          rest = w.rest ++ batch ∷ [];
          kept = added.batches ∙ ap (λ l. l ++ batch ∷ []) w.kept;
          txn = w.txn;
          there = ap (λ (l : Line). slice_get w.batch.txns l.txn) added.rest ∙ w.there;
          block = subst (λ (l : Line). b ≤ l.plan.blocks) (sym added.rest) w.block;
          done = w.done;
          values = w.values
              ∙ ap (λ (s : State). (after_ops (take w.done (code_ops (code_in line.plan b w.txn))) s).env) (sym (sees_same (begun_below b e)) ∙ ap (of_txn (line.first + k)) (ap course_present (sym load_is)))
              ∙ (λ i. (after_ops (take w.done (code_ops (code_in (sym added.rest i).plan b w.txn))) (of_txn ((sym added.rest i).first + sym index_same i) (course_present (course_of new opening)))).env);
        }

    pub load_keeps : KeepsLine new place opening
    load_keeps = record {
      is_plan = subst (λ (l : Line). IsPlan l.plan) (sym added.rest) keeps.is_plan;
      fit = subst (λ (l : Line). RowsFit l.plan.tables opening) (sym added.rest) keeps.fit;
      run_on = subst (λ (c : Course). NumbersRunOn c.job.first c.batches) (sym load_is) (run_on-more line.first old batch keeps.run_on may.first);
      fits = subst (λ (c : Course). TxnsFitPlan c.job.parts (txns_of c.batches)) (sym load_is)
          (subst (TxnsFitPlan line.plan) (sym (txns-more old batch)) (fit_more line.plan (txns_of old) batch.txns keeps.fits may.fits));
      next =
          let was : line.next ≡ line.first + length (txns_of old) = keeps.next in
          let more : new.next ≡ line.next + length batch.txns = added.next in
          let long : length (txns_of (and_batch old batch)) ≡ length (txns_of old) + length batch.txns = ap length (txns-more old batch) ∙ length-append (txns_of old) batch.txns in
          let all : new.next ≡ line.first + length (txns_of (and_batch old batch)) = omega (arith, was, more, long) in
          all ∙ ap (λ (c : Course). next_in_job c.job c.batches) (sym load_is);
      within = subst (IsInFirst new.txn) (sym added.batches) (subst (λ n. IsInFirst n (line.batches.items ++ batch ∷ [])) (ap (λ (l : Line). l.txn) (sym added.rest)) (go line.batches.items keeps.within));
      begun = subst (BegunAt new (course_present (course_of new opening)) place) (ap (λ (l : Line). l.block) (sym added.rest)) (begun_now line.block refl);
      count = keeps.count ∙ ap (λ (l : Line). length l.plan.tables) (sym added.rest);
      tables = keeps.tables ∙ sym tables_same ∙ ap (λ (c : Course). (course_present c).tables) (sym load_is);
      note = keeps.note ∙ sym note_same ∙ ap (λ (c : Course). (course_present c).note) (sym load_is);
    }
      where
        go : (kept : List Batch) → IsInFirst line.txn kept → IsInFirst line.txn (kept ++ batch ∷ [])
        go [] first = let none : line.txn ≡ 0 = first in omega (arith, none)
        go (b ∷ more) within = within

-- ---- nothing changed

module _ (line : Line) (opening : Tables) (new : Line) (same : IsAddedNone line new) where
  batches_kept : line_batches new ≡ line_batches line
  batches_kept = λ i. (same.rest i).gone.items ++ same.batches i

  index_kept : line_index new ≡ line_index line
  index_kept = λ i. length (txns_of (same.rest i).gone.items) + (same.rest i).txn

  pub none_is : course_of new opening ≡ course_of line opening
  none_is = λ i. record {
    job = line_job (same.rest i) opening;
    batches = batches_kept i;
    is_closed = (same.rest i).is_closed;
    finished = pieces_to (line_job (same.rest i) opening) (batches_kept i) (index_kept i) (from_block (same.rest i).block);
  }

  begun_kept : (place : Place) (block : Option ℕ) → BegunAt line (course_present (course_of line opening)) place block → BegunAt new (course_present (course_of new opening)) place block
  begun_kept place None w = tt
  begun_kept place (Some b) w = record {
    batch = w.batch;
    rest = w.rest;
    kept = same.batches ∙ w.kept;
    txn = w.txn;
    there = ap (λ (l : Line). slice_get w.batch.txns l.txn) same.rest ∙ w.there;
    block = subst (λ (l : Line). b ≤ l.plan.blocks) (sym same.rest) w.block;
    done = w.done;
    values = w.values ∙ (λ i. (after_ops (take w.done (code_ops (code_in (sym same.rest i).plan b w.txn))) (of_txn ((sym same.rest i).first + sym index_kept i) (course_present (sym none_is i)))).env);
  }

  pub none_keeps : (place : Place) → KeepsLine line place opening → KeepsLine new place opening
  none_keeps place keeps = record {
    is_plan = subst (λ (l : Line). IsPlan l.plan) (sym same.rest) keeps.is_plan;
    fit = subst (λ (l : Line). RowsFit l.plan.tables opening) (sym same.rest) keeps.fit;
    run_on = subst (λ (c : Course). NumbersRunOn c.job.first c.batches) (sym none_is) keeps.run_on;
    fits = subst (λ (c : Course). TxnsFitPlan c.job.parts (txns_of c.batches)) (sym none_is) keeps.fits;
    next = ap (λ (l : Line). l.next) same.rest ∙ keeps.next ∙ ap (λ (c : Course). next_in_job c.job c.batches) (sym none_is);
    within = subst (IsInFirst new.txn) (sym same.batches) (subst (λ n. IsInFirst n line.batches.items) (ap (λ (l : Line). l.txn) (sym same.rest)) keeps.within);
    begun = subst (BegunAt new (course_present (course_of new opening)) place) (ap (λ (l : Line). l.block) (sym same.rest)) (begun_kept place line.block keeps.begun);
    count = keeps.count ∙ ap (λ (l : Line). length l.plan.tables) (sym same.rest);
    tables = keeps.tables ∙ ap (λ (c : Course). (course_present c).tables) (sym none_is);
    note = keeps.note ∙ ap (λ (c : Course). (course_present c).note) (sym none_is);
  }

-- ---- nothing is loaded

module _ (line : Line) (opening : Tables) (place : Place) (gone : line.gone.items ≡ []) (kept : line.batches.items ≡ []) (start : line.txn ≡ 0) (none : line.block ≡ None) (not_closed : line.is_closed ≡ false) where
  no_batches : line_batches line ≡ []
  no_batches = λ i. gone i ++ kept i

  no_index : line_index line ≡ 0
  no_index = (λ i. length (txns_of (gone i)) + start i) ∙ zero_more
    where
      zero_more : 0 + 0 ≡ 0
      zero_more = omega arith

  pub opens_is : course_of line opening ≡ opening_course (line_job line opening)
  opens_is = λ i. record {
    job = line_job line opening;
    batches = no_batches i;
    is_closed = not_closed i;
    finished = pieces_to (line_job line opening) (no_batches i) (no_index i) (from_block (none i));
  }

  opens_present : course_present (opening_course (line_job line opening)) ≡ begin (line_job line opening) []
  unfolding partial
  opens_present = refl

  pub opens_keeps : IsPlan line.plan → RowsFit line.plan.tables opening → line.next ≡ line.first → place.count ≡ length line.plan.tables → place.tables ≡ opening → place.note ≡ None → KeepsLine line place opening
  opens_keeps is fit next count tables note = record {
    is_plan = is;
    fit = fit;
    run_on = subst (NumbersRunOn line.first) (sym no_batches) tt;
    fits = subst (λ l. TxnsFitPlan line.plan (txns_of l)) (sym no_batches) (λ i txn e. absurd (cc e));
    next = next ∙ zero_last line.first ∙ ap (next_in_job (line_job line opening)) (sym no_batches);
    within = subst (IsInFirst line.txn) (sym kept) start;
    begun = subst (BegunAt line (course_present (course_of line opening)) place) (sym none) tt;
    count = count;
    tables = tables ∙ ap (λ (z : Present). z.tables) (sym (ap course_present opens_is ∙ opens_present));
    note = note ∙ ap (λ (z : Present). z.note) (sym (ap course_present opens_is ∙ opens_present));
  }
    where
      zero_last : (n : ℕ) → n ≡ n + 0
      zero_last n = omega arith
