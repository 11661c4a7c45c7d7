-- The place of a line moves to the next piece, to the next transaction, or to the next batch: the course is the same, and is kept.
use Rattle.std.proofs.Common.{◌≡◌, ℕ, suc, ◌+◌, ◌<◌, ◌≤◌, nat_lt, Bool, true, false, List, [], ◌∷◌, ◌++◌, length, take, Option, Some, None, refl, sym, ap, ◌∙◌, subst, arith}
use Rattle.std.specs.Prelude.{slice_get, slice_index_or}
use Rattle.std.specs.FinMap.{empty}
use Rattle.std.proofs.lemmas.Bool.Decides.{nat_tests}
use Rattle.std.proofs.lemmas.List.{length-append}
use Rattle.std.proofs.lemmas.Option.{same_Some, slice_get_within}
use Rattle.pac_value.specs.State.{Tables}
use Rattle.pac_ops.specs.declared.batch.Batch.{Batch}
use Rattle.pac_ops.specs.declared.transaction.Txn.{Txn}
use Rattle.pac_ops.specs.Operations.{with_values}
use Rattle.pac_ops.specs.Shapes.{RowsFit}
use Rattle.pac_base.specs.Members.{Mem}
use Rattle.pac_plan.specs.Analysis.{IsPlan}
use Rattle.pac_plan.specs.Pieces.{Present, has_ops, of_txn}
use Rattle.pac_plan.specs.Worlds.{txn_args}
use Rattle.pac_plan.specs.Codes.{code_in, code_ops, piece_ops}
use Rattle.pac_piece.specs.Frames.{after_ops}
use Rattle.pac_piece.specs.InPlace.{Place}
use Rattle.pac_commute.specs.Loads.{begin, next_in_job, world_of}
use Rattle.pac_commute.specs.PartialFits.{TxnsFitPlan}
use Rattle.pac_commute.specs.PlanLaws.{NumbersRunOn, txns_of}
use Rattle.pac_in_order.specs.declared.line.Line.{Line}
use Rattle.pac_in_order.specs.Courses.{Course, course_present}
use Rattle.pac_in_order.specs.Lines.{BegunAt, IsAtPiece, IsFirstBlock, IsInFirst, IsTxnBegun, KeepsLine, OpensTxn, course_of, from_block, left_to_seek, line_batches, line_index, line_job, pieces_to}
use Rattle.pac_in_order.proofs.CodeAgain.{none_give}
use Rattle.pac_in_order.proofs.Cursors.{blocks_passed, exists_is, none_begun, txn_passed}
use Rattle.pac_in_order.proofs.Placed.{present_is, txn_numbered, txns-both}
use Rattle.pac_in_order.proofs.Prefixes.{others_alone}

append_batches : (xs : List Batch) (y : Batch) (ys : List Batch) → (xs ++ y ∷ []) ++ ys ≡ xs ++ y ∷ ys
append_batches [] y ys = refl
append_batches (x ∷ xs) y ys = ap (λ l. x ∷ l) (append_batches xs y ys)

module _ (line : Line) (opening : Tables) (old : Place) (keeps : KeepsLine line old opening)
    (batch : Batch) (rest : List Batch) (kept : line.batches.items ≡ batch ∷ rest) (txn : Txn) (there : slice_get batch.txns line.txn ≡ Some txn) where
  abbrev k : ℕ
  k = line_index line

  abbrev now : Present
  now = course_present (course_of line opening)

  -- no piece stands in the blocks that are passed
  passed : (to : ℕ) → from_block line.block ≤ to → ((c : ℕ) → from_block line.block ≤ c → c < to → has_ops (piece_ops line.plan c txn) ≡ false)
      → pieces_to (line_job line opening) (line_batches line) k to ≡ pieces_to (line_job line opening) (line_batches line) k (from_block line.block)
  passed to le none = blocks_passed (line_job line opening) (line_batches line) k (from_block line.block) to le
      (λ c low high. exists_is (line_job line opening) (line_batches line) (line.first + k) c txn (txn_numbered line old opening keeps batch rest kept txn there) ∙ none c low high)

  module _ (new : Place) (opens : OpensTxn txn line.block old new) where
    rest_same : (block : Option ℕ) → OpensTxn txn block old new → new ≡ record old { values = new.values }
    rest_same None o = o ∙ (λ i. record old { values = ap (λ (p : Place). p.values) (sym o) i })
    rest_same (Some b) o = o ∙ (λ i. record old { values = ap (λ (p : Place). p.values) (sym o) i })

    same : new ≡ record old { values = new.values }
    same = rest_same line.block opens

    -- ---- its next piece

    module _ (b : ℕ) (first : IsFirstBlock line.plan txn (from_block line.block) (Some b)) where
      abbrev at_piece : Line
      at_piece = record line { block = Some b }

      pub found_same : course_of at_piece opening ≡ course_of line opening
      found_same = λ i. record { job = line_job line opening; batches = line_batches line; is_closed = line.is_closed; finished = passed b first.0 first.3 i }

      present_same : course_present (course_of at_piece opening) ≡ now
      present_same = ap course_present found_same

      begun_args : line.block ≡ None → new.values ≡ (now.envs (line.first + k))
      begun_args none =
          ap (λ (p : Place). p.values) (subst (λ o. OpensTxn txn o old new) none opens)
          ∙ sym (ap (λ o. with_values 0 (txn_args o) empty) (txn_numbered line old opening keeps batch rest kept txn there))
          ∙ sym (ap (λ (z : Present). z.envs (line.first + k)) (present_is line old opening keeps)
          ∙ others_alone (world_of (line_job line opening) (line_batches line)) (course_of line opening).finished (begin (line_job line opening) (line_batches line)) (line.first + k)
          (λ q m e. none_begun (line_job line opening) (line_batches line) k q (subst (λ o. Mem q (pieces_to (line_job line opening) (line_batches line) k (from_block o))) none m) e))

      abbrev HasValues : Type 0
      HasValues = (done : ℕ) × (new.values ≡ (after_ops (take done (code_ops (code_in line.plan b txn))) (of_txn (line.first + k) now)).env)

      values_now : HasValues
      values_now = go line.block refl
        where
          was : (c : ℕ) → line.block ≡ Some c → IsTxnBegun line now old c
          was c e = subst (BegunAt line now old) e keeps.begun

          values_there : (c : ℕ) (e : line.block ≡ Some c) → new.values ≡ (after_ops (take (was c e).done (code_ops (code_in line.plan c txn))) (of_txn (line.first + k) now)).env
          values_there c e =
              let w = was c e in
              let batch_is : w.batch ≡ batch = ap (λ l. slice_index_or l 0 batch) (sym w.kept ∙ kept) in
              let txn_is : w.txn ≡ txn = same_Some w.txn txn (sym w.there ∙ ap (λ (x : Batch). slice_get x.txns line.txn) batch_is ∙ there) in
              ap (λ (p : Place). p.values) (subst (λ o. OpensTxn txn o old new) e opens)
              ∙ w.values
              ∙ ap (λ x. (after_ops (take w.done (code_ops (code_in line.plan c x))) (of_txn (line.first + k) now)).env) txn_is

          later : (c : ℕ) (e : line.block ≡ Some c) → c < b → HasValues
          later c e lt = (0, values_there c e ∙ none_give line.plan c txn (first.3 c (subst (λ o. from_block o ≤ c) (sym e) (omega arith)) lt) (was c e).done (of_txn (line.first + k) now))

          here : (c : ℕ) (e : line.block ≡ Some c) → c ≡ b → HasValues
          here c e is = ((was c e).done, values_there c e ∙ ap (λ x. (after_ops (take (was c e).done (code_ops (code_in line.plan x txn))) (of_txn (line.first + k) now)).env) is)

          pick : (c : ℕ) (e : line.block ≡ Some c) (less : Bool) → nat_lt c b ≡ less → HasValues
          pick c e true h = later c e (grind (arith, nat_tests))
          pick c e false h = here c e (let ge : b ≤ c = grind (arith, nat_tests) in let le : c ≤ b = subst (λ o. from_block o ≤ b) e first.0 in omega (arith, ge, le))

          go : (block : Option ℕ) → line.block ≡ block → HasValues
          go None e = (0, begun_args e)
          go (Some c) e = pick c e (nat_lt c b) refl

      pub found_keeps : KeepsLine at_piece new opening
      found_keeps = record {
        is_plan = keeps.is_plan;
        fit = keeps.fit;
        run_on = keeps.run_on;
        fits = keeps.fits;
        next = keeps.next;
        within = keeps.within;
        begun = record {
          batch = batch;
          rest = rest;
          kept = kept;
          txn = txn;
          there = there;
          block = let lt : b < line.plan.blocks = first.1 in omega (arith, lt);
          done = values_now.0;
          values = values_now.1 ∙ ap (λ (z : Present). (after_ops (take values_now.0 (code_ops (code_in line.plan b txn))) (of_txn (line.first + k) z)).env) (sym present_same);
        };
        count = ap (λ (p : Place). p.count) same ∙ keeps.count;
        tables = ap (λ (p : Place). p.tables) same ∙ keeps.tables ∙ ap (λ (z : Present). z.tables) (sym present_same);
        note = ap (λ (p : Place). p.note) same ∙ keeps.note ∙ ap (λ (z : Present). z.note) (sym present_same);
      }

      pub found_at : IsAtPiece at_piece (record { txn = batch.first + line.txn; block = b })
      found_at = record { block = refl; batch = batch; rest = rest; kept = kept; txn = txn; there = there; number = refl; below = first.1; exists = first.2 }

    -- ---- it has no more pieces

    module _ (none : IsFirstBlock line.plan txn (from_block line.block) None) where
      abbrev at_next : Line
      at_next = record line { txn = line.txn + 1; block = None }

      block_within : from_block line.block ≤ line.plan.blocks
      block_within = go line.block refl
        where
          go : (block : Option ℕ) → line.block ≡ block → from_block block ≤ line.plan.blocks
          go None e = omega arith
          go (Some c) e = (subst (BegunAt line now old) e keeps.begun).block

      pub next_same : course_of at_next opening ≡ course_of line opening
      next_same = λ i. record {
        job = line_job line opening;
        batches = line_batches line;
        is_closed = line.is_closed;
        finished = (ap (λ n. pieces_to (line_job line opening) (line_batches line) n 0) index ∙ txn_passed (line_job line opening) (line_batches line) k ∙ passed line.plan.blocks block_within none) i;
      }
        where
          index : length (txns_of line.gone.items) + (line.txn + 1) ≡ k + 1
          index = omega arith

      pub next_keeps : KeepsLine at_next new opening
      next_keeps = record {
        is_plan = keeps.is_plan;
        fit = keeps.fit;
        run_on = keeps.run_on;
        fits = keeps.fits;
        next = keeps.next;
        within = subst (IsInFirst (line.txn + 1)) (sym kept) (let lt : line.txn < length batch.txns = slice_get_within batch.txns line.txn txn there in omega (arith, lt));
        begun = tt;
        count = ap (λ (p : Place). p.count) same ∙ keeps.count;
        tables = ap (λ (p : Place). p.tables) same ∙ keeps.tables ∙ ap (λ (c : Course). (course_present c).tables) (sym next_same);
        note = ap (λ (p : Place). p.note) same ∙ keeps.note ∙ ap (λ (c : Course). (course_present c).note) (sym next_same);
      }

      pub next_nearer : left_to_seek at_next < left_to_seek line
      next_nearer =
          let lt : line.txn < length batch.txns = slice_get_within batch.txns line.txn txn there in
          let long : length (txns_of line.batches.items) ≡ length batch.txns + length (txns_of rest) = ap (λ l. length (txns_of l)) kept ∙ length-append batch.txns (txns_of rest) in
          omega (arith, lt, long)

-- ---- the first batch is finished

module _ (line : Line) (opening : Tables) (place : Place) (keeps : KeepsLine line place opening)
    (batch : Batch) (rest : List Batch) (kept : line.batches.items ≡ batch ∷ rest) (end : line.txn ≡ length batch.txns) where
  pub none_begun_there : line.block ≡ None
  none_begun_there = go line.block refl
    where
      go : (block : Option ℕ) → line.block ≡ block → block ≡ None
      go None e = refl
      go (Some c) e =
          let w = subst (BegunAt line (course_present (course_of line opening)) place) e keeps.begun in
          let batch_is : w.batch ≡ batch = ap (λ l. slice_index_or l 0 batch) (sym w.kept ∙ kept) in
          let inside : line.txn < length batch.txns = slice_get_within batch.txns line.txn w.txn (ap (λ (x : Batch). slice_get x.txns line.txn) (sym batch_is) ∙ w.there) in
          absurd (omega (arith, inside, end))

  module _ (new : Line) (gone : new.gone.items ≡ line.gone.items ++ batch ∷ []) (kept_now : new.batches.items ≡ rest) (others : new ≡ record line { gone = new.gone; batches = new.batches; txn = 0 }) where
    batches_same : line_batches new ≡ line_batches line
    batches_same = (λ i. gone i ++ kept_now i) ∙ append_batches line.gone.items batch rest ∙ ap (λ l. line.gone.items ++ l) (sym kept)

    index_same : line_index new ≡ line_index line
    index_same =
        let first : new.txn ≡ 0 = ap (λ (l : Line). l.txn) others in
        let more : length (txns_of new.gone.items) ≡ length (txns_of line.gone.items) + length batch.txns
        = ap (λ l. length (txns_of l)) gone ∙ ap length (txns-both line.gone.items (batch ∷ [])) ∙ length-append (txns_of line.gone.items) (batch.txns ++ [])
        ∙ ap (λ n. length (txns_of line.gone.items) + n) (length-append batch.txns [] ∙ zero_more (length batch.txns)) in
        omega (arith, first, more, end)
      where
        zero_more : (n : ℕ) → n + 0 ≡ n
        zero_more n = omega arith

    job_same : line_job new opening ≡ line_job line opening
    job_same = λ i. line_job (others i) opening

    pub gone_same : course_of new opening ≡ course_of line opening
    gone_same = λ i. record {
      job = job_same i;
      batches = batches_same i;
      is_closed = (others i).is_closed;
      finished = pieces_to (job_same i) (batches_same i) (index_same i) (from_block ((others i).block));
    }

    pub gone_keeps : KeepsLine new place opening
    gone_keeps = record {
      is_plan = subst (λ (l : Line). IsPlan l.plan) (sym others) keeps.is_plan;
      fit = subst (λ (l : Line). RowsFit l.plan.tables opening) (sym others) keeps.fit;
      run_on = subst (λ (c : Course). NumbersRunOn c.job.first c.batches) (sym gone_same) keeps.run_on;
      fits = subst (λ (c : Course). TxnsFitPlan c.job.parts (txns_of c.batches)) (sym gone_same) keeps.fits;
      next = ap (λ (l : Line). l.next) others ∙ keeps.next ∙ ap (λ (c : Course). next_in_job c.job c.batches) (sym gone_same);
      within = subst (λ n. IsInFirst n new.batches.items) (ap (λ (l : Line). l.txn) (sym others)) (from_start new.batches.items);
      begun = subst (BegunAt new (course_present (course_of new opening)) place) (sym none_begun_there ∙ ap (λ (l : Line). l.block) (sym others)) tt;
      count = keeps.count ∙ ap (λ (l : Line). length l.plan.tables) (sym others);
      tables = keeps.tables ∙ ap (λ (c : Course). (course_present c).tables) (sym gone_same);
      note = keeps.note ∙ ap (λ (c : Course). (course_present c).note) (sym gone_same);
    }
      where
        from_start : (kept : List Batch) → IsInFirst 0 kept
        from_start [] = refl
        from_start (b ∷ more) = omega arith

    pub gone_nearer : left_to_seek new < left_to_seek line
    gone_nearer =
        let first : new.txn ≡ 0 = ap (λ (l : Line). l.txn) others in
        let long : length (txns_of line.batches.items) ≡ length batch.txns + length (txns_of rest) = ap (λ l. length (txns_of l)) kept ∙ length-append batch.txns (txns_of rest) in
        let left : length (txns_of new.batches.items) ≡ length (txns_of rest) = ap (λ l. length (txns_of l)) kept_now in
        let more : length line.batches.items ≡ length rest + 1 = ap length kept ∙ one_more (length rest) in
        let fewer : length new.batches.items ≡ length rest = ap length kept_now in
        omega (arith, first, long, left, more, fewer, end)
      where
        one_more : (n : ℕ) → suc n ≡ n + 1
        one_more n = omega arith
