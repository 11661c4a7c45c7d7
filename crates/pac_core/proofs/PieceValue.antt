-- The value of a piece's code, over tables that are as those of now at the cells of its access and over the values of its inputs, is the
-- piece applied: its writes made in the tables, its values given to its variables, and its note among the notes.
use Rattle.std.proofs.Common.{◌≡◌, ℕ, ◌+◌, ◌==◌, Bool, true, false, cond, ◌&&◌, not, List, [], ◌∷◌, map, Option, Some, None, refl, sym, ap, ◌∙◌, subst, true≢false, ◌⊎◌, inl, inr, ⊎_elim}
use Rattle.std.specs.Prelude.{slice_get, is_some}
use Rattle.std.specs.Ordering.{eq_by_cmp}
use Rattle.std.specs.FinMap.{get, empty}
use Rattle.std.proofs.lemmas.Option.{same_Some}
use Rattle.pac_base.specs.Members.{Each, Mem}
use Rattle.pac_base.proofs.TestLemmas.{and_both, and_false, any_gives, any_mem, eq_self, equal_number, same_number, mem_each, each_mem, or_cases, or_left, or_none, or_right, unlike}
use Rattle.pac_value.specs.declared.values.Value.{Value}
use Rattle.pac_value.specs.Expressions.{Values}
use Rattle.pac_value.specs.State.{Cell, cell_cmp, RowValues, Tables}
use Rattle.pac_value.proofs.CellLemmas.{get-with_row}
use Rattle.pac_ops.specs.declared.note.Note.{Note}
use Rattle.pac_ops.specs.declared.piece.PieceId.{PieceId}
use Rattle.pac_ops.specs.declared.transaction.Txn.{Txn}
use Rattle.pac_ops.specs.declared.transaction.Txn.TheVariants.{Call as ACall, AdHoc}
use Rattle.pac_ops.specs.Notes.{first_note, least}
use Rattle.pac_ops.specs.declared.transaction.Change.{Change}
use Rattle.pac_ops.specs.declared.batch.Batch.{Batch}
use Rattle.pac_ops.specs.Flat.{all_hold}
use Rattle.pac_ops.specs.Operations.{State, done, with_values}
use Rattle.pac_ops.specs.Uses.{accessed_table, defined_variable}
use Rattle.pac_ops.specs.Effects.{NumberedOp, numbered_from, numbered_meaning, numbered_notes, defined_in, used_in, is_var, record_op}
use Rattle.pac_plan.specs.declared.parts.PlanParts.{PlanParts}
use Rattle.pac_plan.specs.Analysis.{IsPlan, block_in}
use Rattle.pac_plan.specs.PieceFits.{change_table, records_in}
use Rattle.pac_plan.specs.Nodes.{Operation}
use Rattle.pac_plan.specs.Pieces.{InputsAre, Present, World, apply, covers, covers_write, ops, part, with_env, HasInputs, RowOf, writes}
use Rattle.pac_plan.specs.Worlds.{blocks_in, home_in, ops_of, txn_at, txn_block, txn_code, txn_vars, txn_args}
use Rattle.pac_plan.specs.Codes.{TxnFitsPlan, code_in, code_ops, piece_ops, proc_ops}
use Rattle.pac_plan.proofs.PartLemmas.{part-mem}
use Rattle.pac_tables.specs.declared.writes.Write.{Write}
use Rattle.pac_tables.specs.Written.{cell_written, is_written, written}
use Rattle.pac_piece.specs.Frames.{after_op, after_ops, change_row, done_or_defaulted, give_value, notes_after, var_given}
use Rattle.pac_piece.specs.Values.{IsValueOver, state_over}
use Rattle.pac_piece.specs.Sources.{HaveTables}
use Rattle.pac_piece.proofs.MeaningLemmas.{code_means_piece}
use Rattle.pac_piece.proofs.TableLemmas.{changed_there}
use Rattle.pac_piece.proofs.ArgumentWork.{arguments_undefined}
use Rattle.pac_piece.proofs.WithinLemmas.{keeps, writes_within_access}
use Rattle.pac_piece.proofs.WriteLookups.{get-none}
use Rattle.pac_commute.specs.Loads.{Job, begin}
use Rattle.pac_commute.specs.Machine.{KeepsJob, Machine, NeedsFinished, access_at, ends_at, world_at}
use Rattle.pac_commute.specs.PlanLaws.{numbers_of, txns_of}
use Rattle.pac_commute.specs.Works.{IsWork, IsOutcome, IsPut, given_over, put_over, with_value, worked}
use Rattle.pac_commute.proofs.Laws.{other_env, written_env}
use Rattle.pac_commute.proofs.PlanFacts.{well_formed_plan}
use Rattle.pac_commute.proofs.Steps.{have_inputs}
use Rattle.pac_commute.proofs.WorkLemmas.{fresh_law, get-with_value, work_is_apply}
use Rattle.pac_core.specs.Inputs.{FindsInputs}
use Rattle.pac_core.specs.Results.{IsGiven}
use Rattle.pac_core.proofs.Unnumbered.{code_changes, code_gives, record_named}

-- ---- values that are given

-- of these variables each has the value that it was given, or the one before
abbrev over_values : List ℕ → Values → Values → Values
over_values [] outs env = env
over_values (x ∷ xs) outs env = with_value (over_values xs outs env) x (given_over (get outs x) (get env x))

over_at : (xs : List ℕ) (outs env : Values) (y : ℕ) → Mem y xs ⊎ (get outs y ≡ None) → get (over_values xs outs env) y ≡ given_over (get outs y) (get env y)
over_at [] outs env y (inl m) = absurd m
over_at [] outs env y (inr none) = ap (λ o. given_over o (get env y)) (sym none)
over_at (x ∷ xs) outs env y h = get-with_value (over_values xs outs env) x (given_over (get outs x) (get env x)) y ∙ go (y == x) refl (over_at xs outs env y)
  where
    go : (b : Bool) → (y == x) ≡ b → (Mem y xs ⊎ (get outs y ≡ None) → get (over_values xs outs env) y ≡ given_over (get outs y) (get env y))
        → cond b (given_over (get outs x) (get env x)) (get (over_values xs outs env) y) ≡ given_over (get outs y) (get env y)
    go true e rest = ap (λ z. given_over (get outs z) (get env z)) (sym (same_number y x e))
    go false f rest = rest (⊎_elim
        (λ m. ⊎_elim (λ same. absurd (true≢false (sym (equal_number y x same) ∙ f))) (λ k. inl k) m)
        (λ none. inr none) h)

-- the variables that operations define
abbrev with_defined : Option ℕ → List ℕ → List ℕ
with_defined None xs = xs
with_defined (Some x) xs = x ∷ xs

abbrev defined_vars : List NumberedOp → List ℕ
defined_vars [] = []
defined_vars (o ∷ os) = with_defined (defined_variable o.1.kind) (defined_vars os)

defined_here : (d : Option ℕ) (x : ℕ) (xs : List ℕ) → (is_var x d ≡ true) ⊎ Mem x xs → Mem x (with_defined d xs)
defined_here None x xs (inl h) = absurd (true≢false (sym h))
defined_here None x xs (inr m) = m
defined_here (Some y) x xs (inl h) = inl (same_number x y h)
defined_here (Some y) x xs (inr m) = inr m

defined_among : (os : List NumberedOp) (x : ℕ) → defined_in os x ≡ true → Mem x (defined_vars os)
defined_among [] x e = absurd (true≢false (sym e))
defined_among (o ∷ os) x e = defined_here (defined_variable o.1.kind) x (defined_vars os)
    (⊎_elim (λ h. inl h) (λ h. inr (defined_among os x h)) (or_cases (is_var x (defined_variable o.1.kind)) (defined_in os x) e))

-- ---- a variable that an operation of a piece defines has no value before

part_defined : (block : NumberedOp → ℕ) (b : ℕ) (os : List NumberedOp) (x : ℕ) → defined_in (part block b os) x ≡ true → defined_in os x ≡ true
part_defined block b os x e =
    let o = any_gives (λ (o : NumberedOp). is_var x (defined_variable o.1.kind)) (part block b os) e in
    any_mem (λ (o : NumberedOp). is_var x (defined_variable o.1.kind)) o.0 os (part-mem block b os o.0 o.1).0 o.2

module _ (parts : PlanParts) (is : IsPlan parts) (txn : Txn) (fits : TxnFitsPlan parts txn) where
  no_argument : (x : ℕ) → defined_in (txn_code parts (Some txn)) x ≡ true → get (with_values 0 (txn_args (Some txn)) empty) x ≡ None
  no_argument x d = go (get (with_values 0 (txn_args (Some txn)) empty) x) refl
    where
      go : (o : Option Value) → get (with_values 0 (txn_args (Some txn)) empty) x ≡ o → o ≡ None
      go None e = refl
      go (Some v) e = absurd (true≢false (sym d ∙ arguments_undefined parts is txn fits x v e))

-- ---- where the operations of a piece change rows

-- the home of each table that code in a block accesses is the block
abbrev HasHome : PlanParts → ℕ → ℕ → Type 0
HasHome parts block t = home_in parts t ≡ block

record_home : (parts : PlanParts) (block n : ℕ) (changes : List Change) → HaveTables (HasHome parts block) (numbered_from n (map record_op (records_in parts block changes)))
unfolding numbered_from
record_home parts block n [] = tt
record_home parts block n (c ∷ cs) = go (home_in parts (change_table c) == block) refl (λ n. record_home parts block n cs)
  where
    go : (b : Bool) → (home_in parts (change_table c) == block) ≡ b → ((n : ℕ) → HaveTables (HasHome parts block) (numbered_from n (map record_op (records_in parts block cs))))
        → HaveTables (HasHome parts block) (numbered_from n (map record_op (cond b (c ∷ records_in parts block cs) (records_in parts block cs))))
    go true e rest = ((λ t named. ap (home_in parts) (sym (same_Some (change_table c) t (sym (record_named c) ∙ named))) ∙ same_number (home_in parts (change_table c)) block e), rest (n + 1))
    go false e rest = rest n

code_home : (parts : PlanParts) (first : ℕ) (batches : List Batch) (is : IsPlan parts) (t block : ℕ) (txn : Txn) → txn_at first (txns_of batches) t ≡ Some txn → HaveTables (HasHome parts block) (code_ops (code_in parts block txn))
code_home parts first batches is t block (AdHoc records) at = record_home parts block 0 records
code_home parts first batches is t block (ACall call) at = each_mem _ (proc_ops parts call.proc block) (λ o m.
    let in_part = part-mem (λ (o : NumberedOp). block_in parts (Operation call.proc o.0)) block (numbered_from 0 (ops_of (slice_get parts.programs call.proc))) o m in
    let homes = subst (λ (x : Option Txn). Each (λ (o : NumberedOp). (a : ℕ) → accessed_table o.1.kind ≡ Some a → home_in parts a ≡ txn_block parts x o) (txn_code parts x)) at ((well_formed_plan parts is first batches).homes t) in
    λ a e. mem_each _ _ homes o in_part.0 a e ∙ in_part.1)

-- ---- values that operations give

given_defined : (os : List NumberedOp) (s : State) (x : ℕ) → give_value os s x ≡ true → defined_in os x ≡ true
given_defined [] s x e = e
given_defined (o ∷ os) s x e = ⊎_elim
    (λ h. or_left _ (defined_in os x) (var_from (all_hold s.env o.1.conds) h))
    (λ h. or_right (is_var x (defined_variable o.1.kind)) _ (given_defined os (after_op o.1 s) x h))
    (or_cases (is_var x (var_given o.1 s)) (give_value os (after_op o.1 s) x) e)
  where
    var_from : (b : Bool) → is_var x (cond b (defined_variable o.1.kind) None) ≡ true → is_var x (defined_variable o.1.kind) ≡ true
    var_from true h = h
    var_from false h = absurd (true≢false (sym h))

ungiven_stays : (os : List NumberedOp) (s : State) (x : ℕ) → give_value os s x ≡ false → get (after_ops os s).env x ≡ get s.env x
ungiven_stays [] s x e = refl
ungiven_stays (o ∷ os) s x e =
    let parts = or_none (is_var x (var_given o.1 s)) (give_value os (after_op o.1 s) x) e in
    ungiven_stays os (after_op o.1 s) x parts.1 ∙ go (all_hold s.env o.1.conds) refl parts.0
  where
    go : (b : Bool) → all_hold s.env o.1.conds ≡ b → is_var x (cond b (defined_variable o.1.kind) None) ≡ false → get (after_op o.1 s).env x ≡ get s.env x
    go true holds none = keeps o.1 s x none
    go false holds none = ap (λ b. get (cond b (done_or_defaulted o.1.kind s (done o.1.kind s)) s).env x) holds

-- ---- rows that are written

written_same : (ws : List Write) (a : Cell) (one other : Tables) → is_written ws a ≡ true → get (written one ws) a ≡ get (written other ws) a
written_same [] a one other e = absurd (true≢false (sym e))
written_same (v ∷ vs) a one other e =
    get-with_row (written one vs) (cell_written v) v.row a
    ∙ go (eq_by_cmp cell_cmp a (cell_written v)) refl (written_same vs a one other)
    ∙ sym (get-with_row (written other vs) (cell_written v) v.row a)
  where
    go : (b : Bool) → eq_by_cmp cell_cmp a (cell_written v) ≡ b → (is_written vs a ≡ true → get (written one vs) a ≡ get (written other vs) a)
        → cond b v.row (get (written one vs) a) ≡ cond b v.row (get (written other vs) a)
    go true h rest = refl
    go false h rest = rest (⊎_elim (λ k. absurd (true≢false (sym k ∙ h))) (λ k. k) (or_cases (eq_by_cmp cell_cmp a (cell_written v)) (is_written vs a) e))

-- ---- the value is the piece applied

module _ (job : Job) (is_plan : IsPlan job.parts) (m : Machine) (inv : KeepsJob job m) (p : PieceId) (needed : NeedsFinished job m p) (unfinished : m.finished p ≡ false)
    (txn : Txn) (there : txn_at job.first (txns_of m.batches) p.txn ≡ Some txn) (fits : TxnFitsPlan job.parts txn)
    (env : Values) (finds : FindsInputs job.parts p.block txn (m.now.envs p.txn) env)
    (base : Tables) (alike : (a : Cell) → covers (access_at job m p) a ≡ true → get base a ≡ get m.now.tables a) where
  abbrev pub w : World
  w = world_at job m

  abbrev pub ends : ℕ → Values
  ends = ends_at job m

  abbrev work : State
  work = state_over env base

  -- the operations of the piece, and their types, are those of the transaction in the block
  ops_are : ops w p ≡ piece_ops job.parts p.block txn
  ops_are = ap (λ o. part (txn_block job.parts o) p.block (txn_code job.parts o)) there

  vars_are : w.vars p.txn ≡ txn_vars job.parts (Some txn)
  vars_are = ap (txn_vars job.parts) there

  -- what the code leaves
  worked_is : worked w p work ≡ after_ops (code_ops (code_in job.parts p.block txn)) work
  worked_is = ap (λ os. numbered_meaning (w.vars p.txn) os work) ops_are ∙ ap (λ vs. numbered_meaning vs (piece_ops job.parts p.block txn) work) vars_are
      ∙ sym (code_means_piece job.parts is_plan txn fits p.block p.txn work).0

  notes_are : first_note (notes_after p.txn (code_ops (code_in job.parts p.block txn)) work) ≡ first_note (numbered_notes (w.vars p.txn) p.txn (ops w p) work)
  notes_are = (code_means_piece job.parts is_plan txn fits p.block p.txn work).1
      ∙ ap (λ vs. first_note (numbered_notes vs p.txn (piece_ops job.parts p.block txn) work)) (sym vars_are) ∙ ap (λ os. first_note (numbered_notes (w.vars p.txn) p.txn os work)) (sym ops_are)

  good : HasInputs w ends p m.now
  good = have_inputs job is_plan m inv p needed

  -- nothing has a value that the piece defines
  none_before : (x : ℕ) → defined_in (ops w p) x ≡ true → get (m.now.envs p.txn) x ≡ None
  none_before x d =
      ap (λ (s : Present). get (s.envs p.txn) x) inv.now
      ∙ fresh_law w (well_formed_plan job.parts is_plan job.first m.batches) (numbers_of job.first m.batches) (blocks_in job.parts) (begin job m.batches) m.finished p unfinished x d
      ∙ ap (λ o. get (with_values 0 (txn_args o) empty) x) there
      ∙ no_argument job.parts is_plan txn fits x (part_defined (txn_block job.parts (Some txn)) p.block (txn_code job.parts (Some txn)) x (ap (λ os. defined_in os x) (sym ops_are) ∙ d))

  pub is_work : IsWork w ends p m.now work
  is_work = record {
    rows = alike;
    inputs = λ x u d. finds x ∙ ap (λ b. cond b (get (m.now.envs p.txn) x) None)
        (ap (λ os. used_in os x && not (defined_in os x)) (sym ops_are) ∙ and_both _ _ u (ap not d));
    fresh = λ x d. finds x ∙ ap (λ b. cond b (get (m.now.envs p.txn) x) None)
        (ap (λ os. used_in os x && not (defined_in os x)) (sym ops_are) ∙ and_false (used_in (ops w p) x) (not (defined_in (ops w p) x)) (ap not d)) ∙ sym (none_before x d);
  }

  module _ (writes_made : List Write) (outs : Values) (note : Option Note) (value : IsValueOver p.txn (code_in job.parts p.block txn) env base writes_made outs note) where
    -- at the cells of writes the rows are the same over any tables
    abbrev rows_made : Cell → Option (Option RowValues)
    rows_made a = cond (is_written writes_made a) (Some (get (written base writes_made) a)) None

    tables_worked : written base writes_made ≡ (worked w p work).tables
    tables_worked = value.rows ∙ ap (λ (s : State). s.tables) (sym worked_is)

    changes : (a : Cell) → is_written writes_made a ≡ true → change_row (code_ops (code_in job.parts p.block txn)) work a ≡ true
    changes a is = sym (value.cells a) ∙ is

    inputs_are : InputsAre (ops w p) (ends p.txn) env
    inputs_are x u d = is_work.inputs x u d ∙ good x u d

    home_is : (a : Cell) → is_written writes_made a ≡ true → (p.block == w.home a.0) ≡ true
    home_is a is = equal_number _ _ (sym (changed_there (HasHome job.parts p.block) (code_ops (code_in job.parts p.block txn)) work a
        (code_home job.parts job.first m.batches is_plan p.txn p.block txn there) (changes a is)))

    covers_is : (a : Cell) → is_written writes_made a ≡ true → covers_write (access_at job m p) a ≡ true
    covers_is a is = writes_within_access (ops w p) (ends p.txn) work inputs_are a
        (ap (λ os. change_row os work a) ops_are ∙ sym (code_changes job.parts p.block txn work a) ∙ changes a is)

    given_own : (x : ℕ) (v : Value) → get outs x ≡ Some v → defined_in (ops w p) x ≡ true
    given_own x v e =
        ap (λ os. defined_in os x) ops_are ∙ given_defined (piece_ops job.parts p.block txn) work x
        (sym (code_gives job.parts p.block txn work x) ∙ sym (value.vars x) ∙ ap is_some e)

    stays : (x : ℕ) → get outs x ≡ None → get (worked w p work).env x ≡ get env x
    stays x none = ap (λ (s : State). get s.env x) worked_is ∙ ungiven_stays (code_ops (code_in job.parts p.block txn)) work x (sym (value.vars x) ∙ ap is_some none)

    outcome : IsOutcome w ends p work rows_made (λ x. get outs x)
    outcome = record {
      written = λ q row e. made q (is_written writes_made q) refl row e;
      unwritten = λ q e. unmade q (is_written writes_made q) refl e;
      given = λ x v e. (given_own x v e, ap (λ (s : State). get s.env x) worked_is ∙ value.values x v e);
      ungiven = stays;
    }
      where
        made : (q : Cell) (b : Bool) → is_written writes_made q ≡ b → (row : Option RowValues) → cond b (Some (get (written base writes_made) q)) None ≡ Some row
            → (writes w ends p (RowOf q) ≡ true) × (get (worked w p work).tables q ≡ row)
        made q true is row e = (and_both _ _ (home_is q is) (covers_is q is), ap (λ t. get t q) (sym tables_worked) ∙ same_Some _ row e)
        made q false is row e = let wrong : ◌≡◌ {A = Option (Option RowValues)} None (Some row) = e in absurd cc

        unmade : (q : Cell) (b : Bool) → is_written writes_made q ≡ b → cond b (Some (get (written base writes_made) q)) None ≡ None → get (worked w p work).tables q ≡ get base q
        unmade q true is e = let wrong : ◌≡◌ {A = Option (Option RowValues)} (Some (get (written base writes_made) q)) None = e in absurd cc
        unmade q false is e = ap (λ t. get t q) (sym tables_worked) ∙ get-none base q writes_made is

    -- the present with what the code made
    abbrev made_present : Present
    made_present = record {
      tables = written m.now.tables writes_made;
      envs = with_env p.txn (over_values (defined_vars (ops w p)) outs (m.now.envs p.txn)) m.now.envs;
      note = least m.now.note note;
    }

    own_made : (x : ℕ) → get (made_present.envs p.txn) x ≡ given_over (get outs x) (get (m.now.envs p.txn) x)
    own_made x = ap (λ (e : Values). get e x) (written_env p.txn p.txn _ m.now.envs (eq_self p.txn)) ∙ over_at (defined_vars (ops w p)) outs (m.now.envs p.txn) x (go (get outs x) refl)
      where
        go : (o : Option Value) → get outs x ≡ o → Mem x (defined_vars (ops w p)) ⊎ (get outs x ≡ None)
        go None e = inr e
        go (Some v) e = inl (defined_among (ops w p) x (given_own x v e))

    others_made : (u x : ℕ) → (u ≡ p.txn → ⊥) → get (made_present.envs u) x ≡ get (m.now.envs u) x
    others_made u x differ = ap (λ (e : Values). get e x) (other_env p.txn u _ m.now.envs (unlike (u == p.txn) (λ h. differ (same_number u p.txn h))))

    put : IsPut w p work rows_made (λ x. get outs x) m.now made_present
    put = record {
      tables = λ q. at q (is_written writes_made q) refl;
      own = own_made;
      others = others_made;
      note = ap (least m.now.note) (value.note_is ∙ notes_are);
    }
      where
        at : (q : Cell) (b : Bool) → is_written writes_made q ≡ b → get (written m.now.tables writes_made) q ≡ put_over (cond b (Some (get (written base writes_made) q)) None) (get m.now.tables q)
        at q true is = written_same writes_made q m.now.tables base is
        at q false is = get-none m.now.tables q writes_made is

    made_is_apply : made_present ≡ apply w p m.now
    made_is_apply = work_is_apply w (well_formed_plan job.parts is_plan job.first m.batches) ends p m.now made_present work rows_made (λ x. get outs x) good is_work outcome put

    pub value_is_apply : IsGiven p (ops w p) writes_made outs note m.now (apply w p m.now)
    value_is_apply = subst (λ (s : Present). IsGiven p (ops w p) writes_made outs note m.now s) made_is_apply (record { tables = refl; own = own_made; others = others_made; note_is = refl; defined = given_own })
