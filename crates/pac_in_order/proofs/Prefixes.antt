-- The first pieces in the order of transactions and blocks, one after another: they are the partial replay of just these, and what comes next
-- finds what it needs.
use Rattle.std.proofs.Common.{◌≡◌, ℕ, ◌≤◌, ◌==◌, Bool, true, false, ◌||◌, not, List, [], ◌∷◌, ◌++◌, length, take, Option, Some, None, refl, sym, ap, ◌∙◌, subst, true≢false, inl, inr}
use Rattle.std.specs.Prelude.{filter}
use Rattle.std.specs.FinMap.{get, empty}
use Rattle.pac_value.specs.declared.values.Value.{Value}
use Rattle.pac_value.specs.Expressions.{Values}
use Rattle.pac_value.specs.State.{Tables}
use Rattle.pac_ops.specs.declared.batch.Batch.{Batch}
use Rattle.pac_ops.specs.declared.piece.PieceId.{PieceId}
use Rattle.pac_ops.specs.declared.transaction.Txn.{Txn}
use Rattle.pac_ops.specs.Notes.{first_note, least}
use Rattle.pac_ops.specs.Shapes.{RowsFit}
use Rattle.pac_ops.specs.Operations.{State, with_values}
use Rattle.pac_ops.specs.Transactions.{txn_state}
use Rattle.pac_ops.specs.Effects.{NumberedOp, numbered_meaning, numbered_notes, defined_in, is_var, used_in}
use Rattle.pac_ops.specs.Uses.{defined_variable}
use Rattle.pac_base.specs.Members.{Mem}
use Rattle.pac_base.proofs.TestLemmas.{any_gives, any_mem, eq_self, equal_number, or_none, same_number, unlike}
use Rattle.pac_plan.specs.declared.code.Code.{Code}
use Rattle.pac_plan.specs.Analysis.{IsPlan}
use Rattle.pac_plan.specs.Pieces.{Present, World, apply, every, of_txn, ops, part, partial, InputsAre, HasInputs, run_ops, is_piece, adds}
use Rattle.pac_plan.specs.Worlds.{batch_of, blocks_in, txn_args, txn_at, txn_block, txn_code, txn_vars}
use Rattle.pac_plan.specs.WorldOrder.{WellFormed}
use Rattle.pac_plan.specs.Codes.{TxnFitsPlan, code_in, code_ops, piece_ops}
use Rattle.pac_plan.proofs.PartLemmas.{part-mem}
use Rattle.pac_plan.proofs.WorldLemmas.{fits_blocks, rises-range}
use Rattle.pac_piece.specs.Frames.{AreAmong, after_ops, notes_after}
use Rattle.pac_piece.specs.Runnable.{IsRunnableOn}
use Rattle.pac_piece.specs.InPlace.{after_code, place_in}
use Rattle.pac_piece.proofs.ArgumentWork.{arguments_undefined}
use Rattle.pac_piece.proofs.MeaningLemmas.{code_means_piece}
use Rattle.pac_commute.specs.Exchange.{HoldsNeeds}
use Rattle.pac_commute.specs.Loads.{Job, begin, end_values, pieces_of, world_of}
use Rattle.pac_commute.specs.Machine.{KeepsJob, Machine, NeedsFinished, among}
use Rattle.pac_commute.specs.PartialFits.{TxnsFitPlan}
use Rattle.pac_commute.specs.PlanLaws.{AllInTables, NumbersRunOn, numbers_of, txns_of}
use Rattle.pac_commute.proofs.FitLemmas.{env_is}
use Rattle.pac_commute.proofs.Law.{InOrder, other_stays, undefined_stays}
use Rattle.pac_commute.proofs.Laws.{written_env}
use Rattle.pac_commute.proofs.MachineFit.{machine_fits}
use Rattle.pac_commute.proofs.PlanFacts.{well_formed_plan}
use Rattle.pac_commute.proofs.Steps.{among_mem, have_inputs, records_in_tables}
use Rattle.pac_commute.proofs.Theorem.{in_order, partial-append, whole}
use Rattle.pac_commute.proofs.WorkLemmas.{fresh_law}
use Rattle.pac_lanes.specs.Shares.{IsShareRun, RunsInOrder, adds_all, applied_each}
use Rattle.pac_lanes.proofs.FinishLemmas.{mem_first}
use Rattle.pac_lanes.proofs.RoundLemmas.{drain_runs}
use Rattle.pac_lanes.proofs.ShareLemmas.{applied_is_every, may_be_parted, picks_these, share_is_partial}
use Rattle.pac_in_order.proofs.Again.{over}
use Rattle.pac_in_order.proofs.CodeAgain.{RunsAgain, code_again}

abbrev pub none_picked : PieceId → Bool
none_picked p = false

all_left : (ps : List PieceId) → filter (λ p. not (none_picked p)) ps ≡ ps
all_left [] = refl
all_left (p ∷ ps) = ap (λ qs. p ∷ qs) (all_left ps)

unpicked : (w : World) (ps : List PieceId) (s : Present) → partial w none_picked ps s ≡ s
unfolding partial
unpicked w [] s = refl
unpicked w (p ∷ ps) s = unpicked w ps s

or-false : (b : Bool) → (b || false) ≡ b
or-false true = refl
or-false false = refl

part_defines : (block : NumberedOp → ℕ) (b : ℕ) (os : List NumberedOp) (x : ℕ) → defined_in (part block b os) x ≡ true → defined_in os x ≡ true
part_defines block b os x e =
    let d = any_gives (λ (o : NumberedOp). is_var x (defined_variable o.1.kind)) (part block b os) e in
    any_mem (λ (o : NumberedOp). is_var x (defined_variable o.1.kind)) d.0 os (part-mem block b os d.0 d.1).0 d.2

-- pieces leave the variables of a transaction that they don't define
pub leave_alone : (w : World) (ps : List PieceId) (z : Present) (t x : ℕ) → ((q : PieceId) → Mem q ps → q.txn ≡ t → defined_in (ops w q) x ≡ false)
    → get ((partial w every ps z).envs t) x ≡ get (z.envs t) x
unfolding partial apply
leave_alone w [] z t x none = refl
leave_alone w (q ∷ qs) z t x none = leave_alone w qs (apply w q z) t x (λ r m. none r (inr m)) ∙ go (q.txn == t) refl
  where
    go : (b : Bool) → (q.txn == t) ≡ b → get ((apply w q z).envs t) x ≡ get (z.envs t) x
    go true e =
        let same : q.txn ≡ t = same_number q.txn t e in
        subst (λ u. get ((apply w q z).envs u) x ≡ get (z.envs u) x) same (undefined_stays q.txn (w.vars q.txn) (ops w q) z x (none q (inl refl) same))
    go false e = ap (λ m. get m x) (other_stays q.txn (w.vars q.txn) (ops w q) z t (λ same. true≢false (sym (equal_number q.txn t (sym same)) ∙ e)))

-- and all of those of another
pub others_alone : (w : World) (ps : List PieceId) (z : Present) (t : ℕ) → ((q : PieceId) → Mem q ps → q.txn ≡ t → ⊥) → (applied_each w ps z).envs t ≡ z.envs t
unfolding apply
others_alone w [] z t other = refl
others_alone w (q ∷ qs) z t other = others_alone w qs (apply w q z) t (λ r m. other r (inr m)) ∙ other_stays q.txn (w.vars q.txn) (ops w q) z t (λ same. other q (inl refl) (sym same))

fresh_rest : (w : World) (env : ℕ → Values) (L : List PieceId) (F : PieceId → Bool) (ps : List PieceId) → RunsInOrder w env L F ps → (q : PieceId) → Mem q ps → F q ≡ false
fresh_rest w env L F [] runs q m = absurd m
fresh_rest w env L F (p ∷ ps) runs q (inl same) = ap F same ∙ runs.1
fresh_rest w env L F (p ∷ ps) runs q (inr m) = (or_none (is_piece p q) (F q) (fresh_rest w env L (adds F p) ps runs.3 q m)).1

applied_more : (w : World) (ps : List PieceId) (p : PieceId) (s : Present) → applied_each w (ps ++ p ∷ []) s ≡ apply w p (applied_each w ps s)
applied_more w [] p s = refl
applied_more w (q ∷ ps) p s = applied_more w ps p (apply w q s)

regroup : (xs ys : List PieceId) (p : PieceId) → xs ++ p ∷ ys ≡ (xs ++ p ∷ []) ++ ys
regroup [] ys p = refl
regroup (x ∷ xs) ys p = ap (λ l. x ∷ l) (regroup xs ys p)

module _ (job : Job) (batches : List Batch) (is : IsPlan job.parts) (run_on : NumbersRunOn job.first batches) (fits : TxnsFitPlan job.parts (txns_of batches)) where
  abbrev w : World
  w = world_of job batches

  abbrev L : List PieceId
  L = pieces_of job batches

  abbrev ends : ℕ → Values
  ends = end_values job batches

  abbrev start : Present
  start = begin job batches

  well_formed : WellFormed w
  well_formed = well_formed_plan job.parts is job.first batches

  in_tables : AllInTables job.parts (txns_of batches)
  in_tables = records_in_tables job.parts (txns_of batches) fits

  order : InOrder L
  order = in_order w (numbers_of job.first batches) (blocks_in job.parts) (rises-range job.first (length (txns_of batches))) (rises-range 0 job.parts.blocks)

  all_run : RunsInOrder w ends L none_picked L
  all_run = subst (RunsInOrder w ends L none_picked) (all_left L) (drain_runs w well_formed ends L none_picked order)

  module _ (done rest : List PieceId) (divided : L ≡ done ++ rest) where
    runs : RunsInOrder w ends L none_picked done × RunsInOrder w ends L (adds_all none_picked done) rest
    runs = (may_be_parted w ends L none_picked done rest).0.0 (subst (RunsInOrder w ends L none_picked) divided all_run)

    picked : (q : PieceId) → adds_all none_picked done q ≡ among done q
    picked q = picks_these none_picked done q ∙ or-false (among done q)

    as_among : ◌≡◌ {A = PieceId → Bool} (adds_all none_picked done) (among done)
    as_among = λ i q. picked q i

    share : IsShareRun w ends L start none_picked done
    share = share_is_partial job.parts is job.first batches run_on in_tables start none_picked done (λ p q m n e f. absurd (true≢false (sym f))) runs.0

    -- what stands
    abbrev pub now : Present
    now = partial w (among done) L start

    pub now_is : now ≡ applied_each w done start
    now_is = ap (λ F. partial w F L start) (sym as_among) ∙ share.ends ∙ ap (applied_each w done) (unpicked w L start)

    abbrev pub machine : Machine
    machine = record { batches = batches; out = λ p. false; finished = among done; now = now }

    pub keeps : KeepsJob job machine
    keeps = record {
      run_on = run_on;
      fit = fits;
      closed = subst (λ F. HoldsNeeds w ends L F) as_among share.needs;
      finished = λ p f. subst (Mem p) (sym divided) (mem_first p done rest (among_mem done p f));
      outs = λ p o. absurd (true≢false (sym o));
      now = refl;
    }

    -- what isn't finished is the rest
    pub rest_unfinished : (q : PieceId) → Mem q rest → among done q ≡ false
    rest_unfinished q m = sym (picked q) ∙ fresh_rest w ends L (adds_all none_picked done) rest runs.1 q m

    pub rows_now : RowsFit job.parts.tables job.tables → RowsFit job.parts.tables now.tables
    rows_now fit = (machine_fits job is fit machine keeps).0.rows

    module _ (t : ℕ) (txn : Txn) (there : txn_at job.first (txns_of batches) t ≡ Some txn) (fits_txn : TxnFitsPlan job.parts txn) where
      -- what an unfinished piece defines has no value
      pub fresh_now : (q : PieceId) → among done q ≡ false → q.txn ≡ t → (x : ℕ) → defined_in (ops w q) x ≡ true → get (now.envs t) x ≡ None
      fresh_now q out same x own =
          subst (λ u. get (now.envs u) x ≡ None) same
          (fresh_law w well_formed (numbers_of job.first batches) (blocks_in job.parts) start (among done) q out x own ∙ ap (λ o. get (with_values 0 (txn_args o) empty) x) at ∙ go (get (with_values 0 (txn_args (Some txn)) empty) x) refl)
        where
          at : txn_at job.first (txns_of batches) q.txn ≡ Some txn
          at = ap (txn_at job.first (txns_of batches)) same ∙ there

          defined : defined_in (txn_code job.parts (Some txn)) x ≡ true
          defined = ap (λ o. defined_in (txn_code job.parts o) x) (sym at) ∙ part_defines (w.block q.txn) q.block (w.code q.txn) x own

          go : (o : Option Value) → get (with_values 0 (txn_args (Some txn)) empty) x ≡ o → o ≡ None
          go None e = refl
          go (Some v) e = absurd (true≢false (sym defined ∙ arguments_undefined job.parts is txn fits_txn x v e))

      -- a value that stands is one that the transaction ends with
      pub only_now : (x : ℕ) (v : Value) → get (now.envs t) x ≡ Some v → get (ends t) x ≡ Some v
      only_now x v e =
          ap (λ (z : Present). get (z.envs t) x) (sym (whole w well_formed (numbers_of job.first batches) (blocks_in job.parts) (rises-range 0 job.parts.blocks)
          (fits_blocks job.parts is job.first (batch_of batches) (txns_of batches) in_tables) start))
          ∙ ap (λ ps. get ((partial w every ps start).envs t) x) divided
          ∙ ap (λ (z : Present). get (z.envs t) x) (partial-append w every done rest start)
          ∙ ap (λ (z : Present). get ((partial w every rest z).envs t) x) (sym (applied_is_every w done start) ∙ sym now_is)
          ∙ leave_alone w rest now t x (λ q m same. unlike _ (λ own. let wrong : None ≡ Some v = sym (fresh_now q (rest_unfinished q m) same x own) ∙ e in absurd cc))
          ∙ e

  -- ---- the piece that comes next

  module _ (done rest : List PieceId) (p : PieceId) (divided : L ≡ done ++ p ∷ rest) (fit : RowsFit job.parts.tables job.tables)
      (txn : Txn) (there : txn_at job.first (txns_of batches) p.txn ≡ Some txn) (fits_txn : TxnFitsPlan job.parts txn) where
    abbrev before : Present
    before = now done (p ∷ rest) divided

    -- the state once it ran
    pub now_more : partial w (among (done ++ p ∷ [])) L start ≡ apply w p before
    now_more = now_is (done ++ p ∷ []) rest (divided ∙ regroup done rest p) ∙ applied_more w done p start ∙ ap (apply w p) (sym (now_is done (p ∷ rest) divided))

    needed : NeedsFinished job (machine done (p ∷ rest) divided) p
    needed q m n = sym (picked done (p ∷ rest) divided q) ∙ (runs done (p ∷ rest) divided).1.2 q m n

    unfinished : among done p ≡ false
    unfinished = rest_unfinished done (p ∷ rest) divided p (inl refl)

    operations : ops w p ≡ piece_ops job.parts p.block txn
    operations = ap (λ o. part (txn_block job.parts o) p.block (txn_code job.parts o)) there

    found : HasInputs w ends p before
    found = have_inputs job is (machine done (p ∷ rest) divided) (keeps done (p ∷ rest) divided) p needed

    end : (rows : Tables) × RowsFit job.parts.tables rows × (ends p.txn ≡ (txn_state job.parts.programs txn rows).env)
    end = env_is job.parts is job.first batches run_on fits job.tables fit p.txn txn there

    abbrev code : Code
    code = code_in job.parts p.block txn

    abbrev os : List NumberedOp
    os = code_ops code

    again : RunsAgain os (λ x. defined_in (piece_ops job.parts p.block txn) x)
    again = code_again job.parts is p.block txn fits_txn

    abbrev sees : State
    sees = of_txn p.txn before

    applied : apply w p before ≡ run_ops p.txn (txn_vars job.parts (Some txn)) (piece_ops job.parts p.block txn) before
    unfolding apply
    applied = λ i. run_ops p.txn (txn_vars job.parts (there i)) (operations i) before

    env_after_piece : (apply w p before).envs p.txn ≡ (after_ops os sees).env
    env_after_piece =
        ap (λ (z : Present). z.envs p.txn) applied
        ∙ written_env p.txn p.txn (numbered_meaning (txn_vars job.parts (Some txn)) (piece_ops job.parts p.block txn) sees).env before.envs (eq_self p.txn)
        ∙ ap (λ (z : State). z.env) (sym (code_means_piece job.parts is txn fits_txn p.block p.txn sees).0)

    -- the values that stand once its first operations ran
    abbrev pub values_first : ℕ → Values
    values_first n = (after_ops (take n os) sees).env

    first_only : (n : ℕ) → AreAmong (values_first n) (ends p.txn)
    first_only n x v e = only_now (done ++ p ∷ []) rest (divided ∙ regroup done rest p) p.txn txn there fits_txn x v
        (ap (λ (z : Present). get (z.envs p.txn) x) now_more ∙ ap (λ env. get env x) env_after_piece ∙ again.stand n sees fresh x v e)
      where
        fresh : (y : ℕ) → defined_in (piece_ops job.parts p.block txn) y ≡ true → get sees.env y ≡ None
        fresh y own = fresh_now done (p ∷ rest) divided p.txn txn there fits_txn p unfinished refl y (ap (λ l. defined_in l y) operations ∙ own)

    first_inputs : (n : ℕ) → InputsAre (piece_ops job.parts p.block txn) (ends p.txn) (values_first n)
    first_inputs n x used free = again.kept n sees x free ∙ found x (ap (λ l. used_in l x) operations ∙ used) (ap (λ l. defined_in l x) operations ∙ free)

    -- it can be run over these
    pub runnable : (n tables : ℕ) → length job.parts.tables ≤ tables → IsRunnableOn p.block code (values_first n) tables before.tables
    runnable n tables enough = record {
      runnable = record {
        parts = job.parts;
        is_plan = is;
        txn = txn;
        fits = fits_txn;
        code = refl;
        before = end.0;
        before_fit = end.1;
        inputs = subst (λ (e : Values). InputsAre (piece_ops job.parts p.block txn) e (values_first n)) end.2 (first_inputs n);
        only = subst (λ (e : Values). AreAmong (values_first n) e) end.2 (first_only n);
        rows = rows_now done (p ∷ rest) divided fit;
      };
      among = enough;
    }

    -- and leaves what the piece leaves
    pub leaves : (n count : ℕ) → after_code p.txn code (record { count = count; tables = before.tables; values = values_first n; note = before.note }) ≡ place_in count p.txn (apply w p before)
    leaves n count = (λ i. record { count = count; tables = (state i).tables; values = (ap (λ (z : State). z.env) state ∙ own) i; note = least before.note (notes i) }) ∙ ap (place_in count p.txn) (sym applied)
      where
        state : after_ops os (over (values_first n) sees) ≡ numbered_meaning (txn_vars job.parts (Some txn)) (piece_ops job.parts p.block txn) sees
        state = again.end n sees ∙ (code_means_piece job.parts is txn fits_txn p.block p.txn sees).0

        notes : first_note (notes_after p.txn os (over (values_first n) sees)) ≡ first_note (numbered_notes (txn_vars job.parts (Some txn)) p.txn (piece_ops job.parts p.block txn) sees)
        notes = ap first_note (again.notes p.txn n sees) ∙ (code_means_piece job.parts is txn fits_txn p.block p.txn sees).1

        own : (numbered_meaning (txn_vars job.parts (Some txn)) (piece_ops job.parts p.block txn) sees).env ≡ (run_ops p.txn (txn_vars job.parts (Some txn)) (piece_ops job.parts p.block txn) before).envs p.txn
        own = sym (written_env p.txn p.txn (numbered_meaning (txn_vars job.parts (Some txn)) (piece_ops job.parts p.block txn) sees).env before.envs (eq_self p.txn))

    -- where it is undone, the values are those that its first operations gave, still
    pub undone : (m n : ℕ) → (k : ℕ) × ((after_ops (take n os) (over (values_first m) sees)).env ≡ values_first k)
    undone m n = again.first m n sees
