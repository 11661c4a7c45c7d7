-- What a core has for a piece at a place: its work, what the work may be run on, and what its value makes of the replay.
use Rattle.std.proofs.Common.{◌≡◌, ℕ, ◌<◌, ◌≤◌, true, false, List, [], ◌∷◌, length, get_or, Option, Some, refl, sym, ap, subst, ◌∙◌, arith}
use Rattle.std.specs.Prelude.{All}
use Rattle.std.specs.FinMap.{empty, get}
use Rattle.std.proofs.lemmas.List.Elements.{Contains-get_or}
use Rattle.std.proofs.lemmas.Option.{same_Some}
use Rattle.pac_value.specs.Expressions.{Values}
use Rattle.pac_value.specs.State.{Cell, Tables}
use Rattle.pac_ops.specs.declared.note.Note.{Note}
use Rattle.pac_ops.specs.declared.piece.PieceId.{PieceId}
use Rattle.pac_ops.specs.declared.transaction.Txn.{Txn}
use Rattle.pac_ops.specs.Effects.{NumberedOp}
use Rattle.pac_plan.specs.declared.code.Code.{Code}
use Rattle.pac_plan.specs.Codes.{TxnFitsPlan, code_in, code_ops, piece_ops}
use Rattle.pac_plan.specs.Pieces.{covers, ops}
use Rattle.pac_plan.specs.Worlds.{txn_at}
use Rattle.pac_tables.specs.declared.writes.Write.{Write}
use Rattle.pac_tables.specs.Written.{AreWithin, written}
use Rattle.pac_piece.specs.declared.work.Work.{Work}
use Rattle.pac_piece.specs.Runnable.{IsRunnable, IsRunnableOn, IsRunnableOver}
use Rattle.pac_piece.specs.Sources.{HaveTables}
use Rattle.pac_piece.specs.Values.{IsValueOf, IsValueOver, state_over}
use Rattle.pac_piece.proofs.TableLemmas.{plan_tables, writes_there}
use Rattle.pac_sched.specs.declared.state.PieceState.TheVariants as state
use Rattle.pac_undo.specs.Undo.{Undoable}
use Rattle.pac_commute.specs.Loads.{Job}
use Rattle.pac_commute.specs.Machine.{Machine, NeedsFinished, access_at, among, ends_at, world_at}
use Rattle.pac_commute.specs.PlanLaws.{txns_of}
use Rattle.pac_core.specs.declared.place.Place.{Place}
use Rattle.pac_core.specs.declared.progress.Progress.{Progress}
use Rattle.pac_core.specs.Calls.{IsGivenWork, IsOwn}
use Rattle.pac_core.specs.Cells.{AreCellsOf, copies_at}
use Rattle.pac_core.specs.Inputs.{FindsInputs}
use Rattle.pac_core.specs.Links.{IsCore, KeepsProgress, batches_of, core_of, job_of}
use Rattle.pac_core.specs.Places.{AreValuesAt, IsPieceAt, IsPlaceOf, IsTxnAt}
use Rattle.pac_core.specs.Replay.{Replay, machine_of, present_of}
use Rattle.pac_core.specs.Results.{IsResult}
use Rattle.pac_core.specs.Takes.{IsWorkIn, IsWorkOver, access_now}
use Rattle.pac_core.proofs.Copies.{copied_in}
use Rattle.pac_core.proofs.PieceValue.{value_is_apply}
use Rattle.pac_core.proofs.PlacedPieces as placed
use Rattle.pac_core.proofs.PlacedTxns as txns
use Rattle.pac_core.proofs.PlacedTxns.{as_placed}
use Rattle.pac_core.proofs.Runs.{runnable_copies, runnable_on}
use Rattle.pac_core.proofs.SameCells.{contains_mem, covered_there, same_cells}
use Rattle.pac_core.proofs.SetFacts.{ops_at}
use Rattle.pac_core.proofs.Unnumbered.{code_unnumbered, unnumbered}

-- the tables of operations don't depend on their numbers
without_numbers : (There : ℕ → Type 0) (os : List NumberedOp) → HaveTables There os → HaveTables There (unnumbered os)
without_numbers There [] h = tt
without_numbers There (o ∷ os) h = (h.0, without_numbers There os h.1)

with_numbers : (There : ℕ → Type 0) (os : List NumberedOp) → HaveTables There (unnumbered os) → HaveTables There os
with_numbers There [] h = tt
with_numbers There (o ∷ os) h = (h.0, with_numbers There os h.1)

module _ (p : Progress) (u : Undoable) (core : IsCore p u) (place : Place) (piece : PieceId) (at : IsPlaceOf p place piece) (txn : Txn) (txn_is : IsTxnAt p place txn) where
  abbrev pub job : Job
  job = job_of p u

  abbrev pub r : Replay
  r = core_of p u

  abbrev pub m : Machine
  m = machine_of r

  abbrev keeps : KeepsProgress (job_of p u) p
  keeps = core.progress

  pub fits : TxnFitsPlan p.pieces txn
  fits = txns.fits job p keeps place piece at txn txn_is

  pub block_inside : piece.block < p.pieces.blocks
  block_inside = txns.block_inside job p keeps place piece at

  there : txn_at job.first (txns_of (batches_of p)) piece.txn ≡ Some txn
  there = txns.there job p keeps place piece at txn txn_is

  -- ---- tables

  tables_there : (n : ℕ) → u.tables ≡ n → HaveTables (λ t. t < n) (code_ops (code_in p.pieces piece.block txn))
  tables_there n e = subst (λ n. HaveTables (λ t. t < n) (code_ops (code_in p.pieces piece.block txn))) (sym core.tables ∙ e) (plan_tables p.pieces keeps.is_plan txn fits piece.block)

  ops_are : ops (world_at job m) piece ≡ piece_ops p.pieces piece.block txn
  ops_are = ops_at p.pieces job.first (batches_of p) keeps.machine.run_on piece.txn place.batch place.index (txns.stands_at job p keeps place piece at) piece.block txn (txns.in_batch job p keeps place piece at txn txn_is)

  ops_there : (n : ℕ) → u.tables ≡ n → HaveTables (λ t. t < n) (ops (world_at job m) piece)
  ops_there n e =
      subst (HaveTables (λ t. t < n)) (sym ops_are)
      (with_numbers (λ t. t < n) (piece_ops p.pieces piece.block txn)
      (subst (HaveTables (λ t. t < n)) (code_unnumbered p.pieces piece.block txn) (without_numbers (λ t. t < n) (code_ops (code_in p.pieces piece.block txn)) (tables_there n e))))

  -- the cells of its access are of tables that are there
  pub cells_within : (cells : List Cell) → AreCellsOf (access_at job m piece) cells → (n : ℕ) → u.tables ≡ n → All (λ (a : Cell). a.0 < n) cells
  cells_within cells named n e k d lt =
      covered_there (λ t. t < n) (ops (world_at job m) piece) (ends_at job m piece.txn) (ops_there n e) named.keys (get_or cells k d) ((named.each (get_or cells k d)).0 (Contains-get_or cells k d lt))

  module _ (kept : Values) (kept_is : AreValuesAt p place kept) where
    pub finds_now : (env : Values) → FindsInputs p.pieces piece.block txn kept env → FindsInputs p.pieces piece.block txn ((present_of r).envs piece.txn) env
    finds_now env finds = txns.finds_now job p keeps place piece at txn txn_is kept kept_is env finds

    module _ (needed : NeedsFinished job m piece) where
      -- ---- what it may be run on

      pub may_run_on : (env : Values) → FindsInputs p.pieces piece.block txn kept env → (code : Code) → code ≡ code_in p.pieces piece.block txn → (n : ℕ) → u.tables ≡ n → (held : Tables) → held ≡ u.current → IsRunnableOn piece.block code env n held
      may_run_on env finds code code_is n e held held_is =
          subst (λ (c : Code). IsRunnableOn piece.block c env n held) (sym code_is)
          (subst (λ (t : Tables). IsRunnableOn piece.block (code_in p.pieces piece.block txn) env n t) (sym (held_is ∙ core.rows))
          (runnable_on job keeps.is_plan keeps.fit m keeps.machine piece needed txn there fits env (finds_now env finds) n enough))
        where
          enough : length p.pieces.tables ≤ n
          enough = let t = core.tables in omega (arith, t, e)

      -- ---- what its value makes of the replay

      module _ (unfinished : among r.finished piece ≡ false) where
        pub result_is : (env : Values) → FindsInputs p.pieces piece.block txn kept env → (base : Tables) → ((a : Cell) → covers (access_at job m piece) a ≡ true → get base a ≡ get (present_of r).tables a)
            → (writes : List Write) (outs : Values) (note : Option Note) → IsValueOver piece.txn (code_in p.pieces piece.block txn) env base writes outs note → IsResult r piece writes outs note
        result_is env finds base alike writes outs note value =
            value_is_apply job keeps.is_plan m keeps.machine piece needed unfinished txn there fits env (finds_now env finds) base alike writes outs note value

        pub writes_within : (env : Values) (base : Tables) (writes : List Write) (outs : Values) (note : Option Note) → IsValueOver piece.txn (code_in p.pieces piece.block txn) env base writes outs note → AreWithin u.tables writes
        writes_within env base writes outs note value = writes_there u.tables (code_ops (code_in p.pieces piece.block txn)) (state_over env base) writes (tables_there u.tables refl) value.cells

    -- ---- its work

    module _ (cells : List Cell) (named : AreCellsOf (access_at job m piece) cells) (work : Work) (over : IsWorkOver p.pieces piece txn kept cells u.current work) where
      -- the same of the piece of the work
      abbrev InReplay : PieceId → Type 0
      InReplay q = (txn_at job.first (txns_of (batches_of p)) q.txn ≡ Some txn) × AreCellsOf (access_now r q) cells × IsWorkOver p.pieces q txn ((present_of r).envs q.txn) cells (present_of r).tables work

      in_replay : InReplay work.piece
      in_replay = subst InReplay (sym over.piece_is) (
        there,
        named,
        record { piece_is = over.piece_is; code = over.code; inputs = finds_now work.env over.inputs; rows = over.rows ∙ ap (λ (t : Tables). copies_at t cells) core.rows },
      )

      pub work_in : IsWorkIn r work
      work_in = record { txn = txn; there = in_replay.0; cells = cells; named = in_replay.1; over = in_replay.2 }

      module _ (needed : NeedsFinished job m piece) where
        may_run : IsRunnable work
        may_run =
            subst (λ (b : ℕ). IsRunnableOver b work.code work.env (written empty work.rows)) (ap (λ (q : PieceId). q.block) (sym over.piece_is))
            (subst (λ (c : Code). IsRunnableOver piece.block c work.env (written empty work.rows)) (sym over.code)
            (subst (λ (rows : List Write). IsRunnableOver piece.block (code_in p.pieces piece.block txn) work.env (written empty rows)) (sym (over.rows ∙ ap (λ (t : Tables). copies_at t cells) core.rows))
            (runnable_copies job keeps.is_plan keeps.fit m keeps.machine piece needed txn there fits work.env (finds_now work.env over.inputs) cells)))

        pub given_work : IsGivenWork r piece work
        given_work = (over.piece_is, named.keys, work_in, may_run)

        -- what is made of it
        module _ (unfinished : among r.finished piece ≡ false) (writes : List Write) (outs : Values) (note : Option Note) (value : IsValueOf work writes outs note) where
          value_over : IsValueOver piece.txn (code_in p.pieces piece.block txn) work.env (written empty work.rows) writes outs note
          value_over =
              subst (λ (c : Code). IsValueOver piece.txn c work.env (written empty work.rows) writes outs note) over.code
              (subst (λ (t : ℕ). IsValueOver t work.code work.env (written empty work.rows) writes outs note) (ap (λ (q : PieceId). q.txn) over.piece_is) value)

          rows_alike : (a : Cell) → covers (access_at job m piece) a ≡ true → get (written empty work.rows) a ≡ get (present_of r).tables a
          rows_alike a c =
              ap (λ (rows : List Write). get (written empty rows) a) (over.rows ∙ ap (λ (t : Tables). copies_at t cells) core.rows)
              ∙ copied_in (present_of r).tables cells a (contains_mem cells a ((named.each a).1 c))

          pub work_result : IsResult r piece writes outs note
          work_result = result_is needed unfinished work.env over.inputs (written empty work.rows) rows_alike writes outs note value_over

          pub work_within : AreWithin u.tables writes
          work_within = writes_within needed unfinished work.env (written empty work.rows) writes outs note value_over

-- ---- work that is handed in

module _ (p : Progress) (u : Undoable) (core : IsCore p u) (place : Place) (work : Work) (at : IsPieceAt p place work.piece state.Out) (txn : Txn) (txn_is : IsTxnAt p place txn) (kept : Values) (kept_is : AreValuesAt p place kept) where
  abbrev own_job : Job
  own_job = job_of p u

  abbrev own_replay : Replay
  own_replay = core_of p u

  pub is_out_now : among own_replay.out work.piece ≡ true
  is_out_now = placed.out_now own_job p core.progress place work.piece state.Out at

  pub out_needed : NeedsFinished own_job (machine_of own_replay) work.piece
  out_needed = (core.progress.machine.outs work.piece is_out_now).needed

  -- where its cells are known, it is own exactly where it is the work over what is kept
  module _ (cells : List Cell) (named : AreCellsOf (access_at own_job (machine_of own_replay) work.piece) cells) where
    pub own_of : IsWorkOver p.pieces work.piece txn kept cells u.current work → IsOwn own_replay work
    own_of over = (is_out_now, work_in p u core place work.piece (as_placed at) txn txn_is kept kept_is cells named work over)

    pub of_own : IsOwn own_replay work → IsWorkOver p.pieces work.piece txn kept cells u.current work
    of_own (out, own) = record {
      piece_is = refl;
      code = own.over.code ∙ ap (code_in p.pieces work.piece.block) (sym same_txn);
      inputs = txns.finds_kept own_job p core.progress place work.piece (as_placed at) txn txn_is kept kept_is work.env
          (subst (λ (t : Txn). FindsInputs p.pieces work.piece.block t ((present_of own_replay).envs work.piece.txn) work.env) (sym same_txn) own.over.inputs);
      rows = own.over.rows ∙ ap (copies_at (present_of own_replay).tables) (same_cells (access_at own_job (machine_of own_replay) work.piece) own.cells cells own.named named) ∙ ap (λ (t : Tables). copies_at t cells) (sym core.rows);
    }
      where
        same_txn : txn ≡ own.txn
        same_txn = same_Some txn own.txn (sym (txns.there own_job p core.progress place work.piece (as_placed at) txn txn_is) ∙ own.there)
