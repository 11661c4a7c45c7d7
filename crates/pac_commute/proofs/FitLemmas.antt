-- Partial replays of a plan's transactions stay fit.
use Rattle.std.proofs.Common.{◌≡◌, ℕ, zero, suc, ◌+◌, ◌-◌, ◌≤◌, ◌==◌, Bool, true, false, cond, List, [], ◌∷◌, map, length, refl, sym, ap, ◌∙◌, subst, true≢false, Option, Some, None, inl, inr, arith, nat_lt}
use Rattle.std.specs.Prelude.{slice_get, IsSomeAnd}
use Rattle.std.specs.List.{range_with_len}
use Rattle.std.specs.FinMap.{get, empty, get-empty}
use Rattle.std.specs.Ordering.{nat_cmp, eq_by_cmp}
use Rattle.std.proofs.lemmas.Option.{same_Some}
use Rattle.std.proofs.lemmas.Bool.Decides.{nat_tests}
use Rattle.pac_value.specs.declared.values.Ty.{Ty}
use Rattle.pac_value.specs.declared.values.Value.{Value}
use Rattle.pac_value.specs.Values.{type_of}
use Rattle.pac_value.specs.Expressions.{Values}
use Rattle.pac_value.specs.State.{Cell, cell_cmp, RowValues, Tables, with_row}
use Rattle.pac_value.proofs.CellLemmas.{get-with_row, tied_same}
use Rattle.pac_ops.specs.declared.batch.Batch.{Batch}
use Rattle.pac_ops.specs.declared.piece.PieceId.{PieceId}
use Rattle.pac_ops.specs.declared.shapes.TableTypes.{TableTypes}
use Rattle.pac_ops.specs.declared.program.FlatOp.{FlatOp}
use Rattle.pac_ops.specs.declared.program.Program.{Program}
use Rattle.pac_ops.specs.declared.transaction.Change.{Change}
use Rattle.pac_ops.specs.declared.transaction.Change.TheVariants.{Put as PutRow, Delete as DeleteRow}
use Rattle.pac_ops.specs.declared.transaction.Txn.{Txn}
use Rattle.pac_ops.specs.declared.transaction.Txn.TheVariants.{Call as ACall, AdHoc}
use Rattle.pac_ops.specs.Shapes.{RowFits, RowsFit, ChangeFits, RecordsFit}
use Rattle.pac_ops.specs.Uses.{op_uses}
use Rattle.pac_ops.specs.Operations.{State, opening, with_values}
use Rattle.pac_ops.specs.Flat.{flat_done, flat_meaning}
use Rattle.pac_ops.specs.Transactions.{with_change, with_changes, call_state, txn_state}
use Rattle.pac_plan.specs.declared.parts.PlanParts.{PlanParts}
use Rattle.pac_plan.specs.Nodes.{Operation}
use Rattle.pac_plan.specs.Analysis.{IsPlan, block_in}
use Rattle.pac_plan.proofs.OrderLemmas.{order_kept}
use Rattle.pac_base.specs.Members.{Mem}
use Rattle.pac_ops.specs.Effects.{NumberedOp, numbered_from, numbered_meaning, record_op}
use Rattle.pac_plan.specs.Pieces.{Present, of_txn, run_ops, World, part, ops, apply, pieces, partial, replayed_in, InputsAre, HasInputs}
use Rattle.pac_commute.specs.Exchange.{env_after, HoldsNeeds}
use Rattle.pac_plan.specs.Worlds.{ops_of, types_in, txn_code, txn_vars, txn_block, txn_args, txn_at, initial, numbers, blocks_in, batch_of, RecordsInTables}
use Rattle.pac_ops.specs.StaysFit.{IsFit, StaysFitAt}
use Rattle.pac_commute.specs.PlanLaws.{txns_of, NumbersRunOn, planned}
use Rattle.pac_commute.specs.PartialFits.{TxnIsOfPlan, TxnsFitPlan, PresentFits, PartialStaysFit}
use Rattle.pac_base.proofs.TestLemmas.{eq_self, same_number, or_left}
use Rattle.pac_commute.proofs.Laws.{written_env}
use Rattle.pac_plan.proofs.PartLemmas.{part-mem}
use Rattle.pac_commute.proofs.Law.{other_stays, Good_turns, picked_turns}
use Rattle.pac_commute.proofs.Theorem.{in_order, whole}
use Rattle.pac_plan.proofs.WorldLemmas.{record_uses, rises-range, fits_blocks}
use Rattle.pac_commute.proofs.PlanFacts.{well_formed_plan, inputs_plan}
use Rattle.pac_commute.proofs.Replays.{one_state, later_stays, moved, at_start, at_number}
use Rattle.pac_ops.proofs.RecordLemmas.{whole_meaning, record_flat}
use Rattle.pac_ops.proofs.ProgramLemmas.{program_fit, stays_end, opening_typed}
use Rattle.pac_plan.proofs.InputLemmas.{pieces_stay_fit}

some_one : {A : Type 0} (o : Option A) (P : A → Type 0) → IsSomeAnd o P → (x : A) × (o ≡ Some x) × P x
some_one None P h = absurd h
some_one (Some x) P h = (x, refl, h)

no_ops : numbered_from 0 [] ≡ []
unfolding numbered_from
no_ops = refl

-- ---- records

row_fits_on : (tables : List TableTypes) (rows : Tables) (a : Cell) (row : Option RowValues) → RowsFit tables rows → ((r : RowValues) → row ≡ Some r → RowFits tables a r) → RowsFit tables (with_row rows a row)
row_fits_on tables rows a row fit new q r h = go (eq_by_cmp cell_cmp q a) refl (sym (get-with_row rows a row q) ∙ h)
  where
    go : (b : Bool) → eq_by_cmp cell_cmp q a ≡ b → cond b row (get rows q) ≡ Some r → RowFits tables q r
    go true e h = subst (λ (c : Cell). RowFits tables c r) (sym (tied_same q a e)) (new r h)
    go false e h = fit q r h

change_fits : (tables : List TableTypes) (rows : Tables) (c : Change) → RowsFit tables rows → ChangeFits tables c → RowsFit tables (with_change rows c)
change_fits tables rows (PutRow table key row) fit fits = row_fits_on tables rows (table, key) (Some row) fit (λ r e. subst (RowFits tables (table, key)) (same_Some row r e) fits)
change_fits tables rows (DeleteRow table key) fit fits = row_fits_on tables rows (table, key) None fit (λ r e. absurd cc)

changes_fit : (tables : List TableTypes) (rows : Tables) (cs : List Change) → RowsFit tables rows → RecordsFit tables cs → RowsFit tables (with_changes rows cs)
changes_fit tables rows [] fit fits = fit
changes_fit tables rows (c ∷ cs) fit fits = changes_fit tables (with_change rows c) cs (change_fits tables rows c fit fits.0) fits.1

-- operations that are records which fit
abbrev IsRecord : List TableTypes → NumberedOp → Type 0
IsRecord tables o = (c : Change) × (o.1 ≡ record_op c) × ChangeFits tables c

are_records : (tables : List TableTypes) (n : ℕ) (cs : List Change) → RecordsFit tables cs → (o : NumberedOp) → Mem o (numbered_from n (map record_op cs)) → IsRecord tables o
unfolding numbered_from
are_records tables n [] fits o m = absurd m
are_records tables n (c ∷ cs) fits o (inl e) = (c, ap (λ (z : NumberedOp). z.1) e, fits.0)
are_records tables n (c ∷ cs) fits o (inr m) = are_records tables (n + 1) cs fits.1 o m

module _ (parts : PlanParts) (is : IsPlan parts) where
  records_fit : (vars : List Ty) (os : List NumberedOp) (s : State) → ((o : NumberedOp) → Mem o os → IsRecord parts.tables o) → IsFit parts.tables vars s → StaysFitAt parts.tables vars os s
  records_fit vars [] s are fit = fit
  records_fit vars (o ∷ os) s are fit =
      let r = are o (inl refl) in
      let after : flat_done vars o.1 s ≡ record { env = s.env; tables = with_change s.tables r.0 } = ap (λ (op : FlatOp). flat_done vars op s) r.1 ∙ record_flat vars r.0 s in (
        fit,
        (λ held x u. absurd (true≢false (sym u ∙ ap (λ (op : FlatOp). op_uses x op) r.1 ∙ record_uses parts (order_kept parts is) r.0 x))),
        records_fit vars os (flat_done vars o.1 s) (λ d m. are d (inr m))
            (subst (IsFit parts.tables vars) (sym after) (record { rows = change_fits parts.tables s.tables r.0 fit.rows r.2; types = fit.types })),
      )

  -- ---- whole transactions

  txn_fit : (txn : Txn) (rows : Tables) → TxnIsOfPlan parts txn → RowsFit parts.tables rows → RowsFit parts.tables (txn_state parts.programs txn rows).tables
  txn_fit (ACall call) rows fits fit = go (slice_get parts.programs call.proc) refl (some_one (slice_get parts.programs call.proc) (λ program. map type_of call.args ≡ program.params) fits)
    where
      go : (o : Option Program) → slice_get parts.programs call.proc ≡ o → (program : Program) × (slice_get parts.programs call.proc ≡ Some program) × (map type_of call.args ≡ program.params) → RowsFit parts.tables (call_state o call.args rows).tables
      go None e r = fit
      go (Some program) e r =
          let same : r.0 ≡ program = same_Some r.0 program (sym r.1 ∙ e) in
          let params : map type_of call.args ≡ program.params = r.2 ∙ ap (λ (q : Program). q.params) same in
          subst (λ (z : State). RowsFit parts.tables z.tables) (whole_meaning program.vars 0 program.ops (opening call.args rows))
          (stays_end parts.tables program.vars (numbered_from 0 program.ops) (opening call.args rows) (program_fit parts.tables program (is.programs call.proc program e) call.args params rows fit)).rows
  txn_fit (AdHoc records) rows fits fit = changes_fit parts.tables rows records fit fits

  module _ (w : World) where
    -- each transaction's values at the end are those that it leaves from rows that fit
    ended : (txns : List Txn) (n : ℕ) (s : Present)
        → ((i : ℕ) (x : Txn) → slice_get txns i ≡ Some x → (w.code (n + i) ≡ txn_code parts (Some x)) × (w.vars (n + i) ≡ txn_vars parts (Some x)))
        → ((i : ℕ) (x : Txn) → slice_get txns i ≡ Some x → s.envs (n + i) ≡ with_values 0 (txn_args (Some x)) empty)
        → ((i : ℕ) (x : Txn) → slice_get txns i ≡ Some x → TxnIsOfPlan parts x) → RowsFit parts.tables s.tables
        → (i : ℕ) (x : Txn) → slice_get txns i ≡ Some x
        → (rows : Tables) × RowsFit parts.tables rows × ((replayed_in w (range_with_len n (length txns)) s).envs (n + i) ≡ (txn_state parts.programs x rows).env)
    unfolding replayed_in
    ended [] n s has opens fits fit = λ i x e. absurd cc
    ended (y ∷ ys) n s has opens fits fit = go (ended ys (n + 1) mid)
      where
        mid : Present
        mid = run_ops n (w.vars n) (w.code n) s

        env : s.envs n ≡ with_values 0 (txn_args (Some y)) empty
        env = ap s.envs (at_start parts w n) ∙ opens 0 y refl

        code : w.code n ≡ txn_code parts (Some y)
        code = ap w.code (at_start parts w n) ∙ (has 0 y refl).0

        vars : w.vars n ≡ txn_vars parts (Some y)
        vars = ap w.vars (at_start parts w n) ∙ (has 0 y refl).1

        state : numbered_meaning (w.vars n) (w.code n) (of_txn n s) ≡ txn_state parts.programs y s.tables
        state = (λ i. numbered_meaning (vars i) (code i) (record { env = env i; tables = s.tables })) ∙ one_state parts y s.tables

        fit_mid : RowsFit parts.tables mid.tables
        fit_mid = subst (λ (z : State). RowsFit parts.tables z.tables) (sym state) (txn_fit y s.tables (fits 0 y refl) fit)

        Goal : ℕ → Txn → Type 0
        Goal i x = (rows : Tables) × RowsFit parts.tables rows × ((replayed_in w (range_with_len (n + 1) (length ys)) mid).envs (n + i) ≡ (txn_state parts.programs x rows).env)

        go : (((i : ℕ) (x : Txn) → slice_get ys i ≡ Some x → (w.code (n + 1 + i) ≡ txn_code parts (Some x)) × (w.vars (n + 1 + i) ≡ txn_vars parts (Some x)))
            → ((i : ℕ) (x : Txn) → slice_get ys i ≡ Some x → mid.envs (n + 1 + i) ≡ with_values 0 (txn_args (Some x)) empty)
            → ((i : ℕ) (x : Txn) → slice_get ys i ≡ Some x → TxnIsOfPlan parts x) → RowsFit parts.tables mid.tables
            → (i : ℕ) (x : Txn) → slice_get ys i ≡ Some x
            → (rows : Tables) × RowsFit parts.tables rows × ((replayed_in w (range_with_len (n + 1) (length ys)) mid).envs (n + 1 + i) ≡ (txn_state parts.programs x rows).env))
            → (i : ℕ) (x : Txn) → slice_get (y ∷ ys) i ≡ Some x → Goal i x
        go rest zero x e = (
          s.tables,
          fit,
          ap (replayed_in w (range_with_len (n + 1) (length ys)) mid).envs (sym (at_start parts w n))
              ∙ later_stays parts w (n + 1) (length ys) mid n (omega arith)
              ∙ written_env n n _ s.envs (eq_self n) ∙ ap (λ (z : State). z.env) state ∙ ap (λ (z : Txn). (txn_state parts.programs z s.tables).env) (same_Some y x e),
        )
        go rest (suc i) x e =
            let r = rest (λ j z f. let h = has (suc j) z f in (ap w.code (moved parts w n j) ∙ h.0, ap w.vars (moved parts w n j) ∙ h.1))
            (λ j z f. other_stays n (w.vars n) (w.code n) s (n + 1 + j) (λ h. omega (arith, h)) ∙ ap s.envs (moved parts w n j) ∙ opens (suc j) z f)
            (λ j z f. fits (suc j) z f) fit_mid i x e in
            (r.0, r.1, ap (replayed_in w (range_with_len (n + 1) (length ys)) mid).envs (sym (moved parts w n i)) ∙ r.2)

  module _ (first : ℕ) (batches : List Batch) (run_on : NumbersRunOn first batches) (fits : TxnsFitPlan parts (txns_of batches)) (tables : Tables) (rows_fit : RowsFit parts.tables tables) where
    abbrev txns : List Txn
    txns = txns_of batches

    abbrev w : World
    w = planned parts first batches

    abbrev env : ℕ → Values
    env = env_after (planned parts first batches) (numbers first txns) (initial first txns tables)

    abbrev start : Present
    start = initial first txns tables

    -- a number with a transaction is that of one in the list
    number_of : (t : ℕ) (x : Txn) → txn_at first txns t ≡ Some x → (i : ℕ) × (t ≡ first + i) × (slice_get txns i ≡ Some x)
    number_of t x e = go (nat_lt t first) refl e
      where
        go : (b : Bool) → nat_lt t first ≡ b → cond b None (slice_get txns (t - first)) ≡ Some x → (i : ℕ) × (t ≡ first + i) × (slice_get txns i ≡ Some x)
        go true lt h = absurd cc
        go false lt h = (t - first, (let le : first ≤ t = grind (arith, nat_tests) in omega (arith, le)), h)

    pub env_is : (t : ℕ) (x : Txn) → txn_at first txns t ≡ Some x → (rows : Tables) × RowsFit parts.tables rows × (env t ≡ (txn_state parts.programs x rows).env)
    env_is t x e =
        let k = number_of t x e in
        let r = ended w txns first start
        (λ i y h. (ap (txn_code parts) (at_number parts first txns i y h), ap (txn_vars parts) (at_number parts first txns i y h)))
        (λ i y h. ap (λ o. with_values 0 (txn_args o) empty) (at_number parts first txns i y h))
        fits rows_fit k.0 x k.2 in
        (r.0, r.1, ap (replayed_in w (range_with_len first (length txns)) start).envs k.1 ∙ r.2)

    -- a piece in a state that fits and has its inputs
    piece_fit : (p : PieceId) (s : Present) → HasInputs w env p s → PresentFits parts w s → StaysFitAt parts.tables (w.vars p.txn) (ops w p) (of_txn p.txn s)
    piece_fit p s right fit = go (txn_at first txns p.txn) refl
        (record { rows = fit.rows; types = λ x v e. fit.types p.txn x v e }) right
      where
        go : (o : Option Txn) → txn_at first txns p.txn ≡ o → IsFit parts.tables (txn_vars parts o) (of_txn p.txn s)
            → InputsAre (part (txn_block parts o) p.block (txn_code parts o)) (env p.txn) (s.envs p.txn)
            → StaysFitAt parts.tables (txn_vars parts o) (part (txn_block parts o) p.block (txn_code parts o)) (of_txn p.txn s)
        go None at fit right = fit
        go (Some (ACall call)) at fit right = call_fit (slice_get parts.programs call.proc) refl fit right
          where
            call_fit : (o : Option Program) → slice_get parts.programs call.proc ≡ o → IsFit parts.tables (types_in o) (of_txn p.txn s)
                → InputsAre (part (λ o. block_in parts (Operation call.proc o.0)) p.block (numbered_from 0 (ops_of o))) (env p.txn) (s.envs p.txn)
                → StaysFitAt parts.tables (types_in o) (part (λ o. block_in parts (Operation call.proc o.0)) p.block (numbered_from 0 (ops_of o))) (of_txn p.txn s)
            call_fit None e fit right = empty_fit fit
              where
                empty_fit : IsFit parts.tables [] (of_txn p.txn s) → StaysFitAt parts.tables [] (part (λ o. block_in parts (Operation call.proc o.0)) p.block (numbered_from 0 [])) (of_txn p.txn s)
                empty_fit fit = subst (λ os. StaysFitAt parts.tables [] (part (λ o. block_in parts (Operation call.proc o.0)) p.block os) (of_txn p.txn s)) (sym no_ops) fit
            call_fit (Some program) e fit right =
                let k = number_of p.txn (ACall call) at in
                let f = some_one (slice_get parts.programs call.proc) (λ program. map type_of call.args ≡ program.params) (fits k.0 (ACall call) k.2) in
                let params : map type_of call.args ≡ program.params = f.2 ∙ ap (λ (q : Program). q.params) (same_Some f.0 program (sym f.1 ∙ e)) in
                let ends = env_is p.txn (ACall call) at in
                let left : env p.txn ≡ (flat_meaning program.vars program.ops (opening call.args ends.0)).env = ends.2 ∙ ap (λ o. (call_state o call.args ends.0).env) e in
                pieces_stay_fit parts is call.proc program e call.args ends.0 params ends.1 p.block (of_txn p.txn s) fit
                (subst (λ (m : Values). InputsAre (part (λ o. block_in parts (Operation call.proc o.0)) p.block (numbered_from 0 program.ops)) m (s.envs p.txn)) left right)
        go (Some (AdHoc records)) at fit right =
            let k = number_of p.txn (AdHoc records) at in
            records_fit [] (part (txn_block parts (Some (AdHoc records))) p.block (numbered_from 0 (map record_op records))) (of_txn p.txn s)
            (λ o m. are_records parts.tables 0 records (fits k.0 (AdHoc records) k.2) o (part-mem (txn_block parts (Some (AdHoc records))) p.block (numbered_from 0 (map record_op records)) o m).0) fit

    opened_fits : PresentFits parts w start
    opened_fits = record { rows = rows_fit; types = λ t x v e. go t (txn_at first txns t) refl x v e }
      where
        none : (x : ℕ) (v : Value) → get {R = nat_cmp} empty x ≡ Some v → ⊥
        none x v e = let wrong : None ≡ Some v = sym (get-empty nat_cmp x) ∙ e in cc

        go : (t : ℕ) (o : Option Txn) → txn_at first txns t ≡ o → (x : ℕ) (v : Value) → get (with_values 0 (txn_args o) empty) x ≡ Some v → slice_get (txn_vars parts o) x ≡ Some (type_of v)
        go t None at x v e = absurd (none x v e)
        go t (Some (AdHoc records)) at x v e = absurd (none x v e)
        go t (Some (ACall call)) at x v e =
            let k = number_of t (ACall call) at in
            let f = some_one (slice_get parts.programs call.proc) (λ program. map type_of call.args ≡ program.params) (fits k.0 (ACall call) k.2) in
            ap (λ o. slice_get (types_in o) x) f.1 ∙ opening_typed parts.tables f.0 (is.programs call.proc f.0 f.1) call.args f.2 x v e

    apply_fits : (p : PieceId) (s : Present) → HasInputs w env p s → PresentFits parts w s → PresentFits parts w (apply w p s)
    unfolding apply
    apply_fits p s right fit = record { rows = following.rows; types = λ t x v e. go t (t == p.txn) refl x v e }
      where
        following : IsFit parts.tables (w.vars p.txn) (numbered_meaning (w.vars p.txn) (ops w p) (of_txn p.txn s))
        following = stays_end parts.tables (w.vars p.txn) (ops w p) (of_txn p.txn s) (piece_fit p s right fit)

        go : (t : ℕ) (b : Bool) → (t == p.txn) ≡ b → (x : ℕ) (v : Value) → get (cond b (numbered_meaning (w.vars p.txn) (ops w p) (of_txn p.txn s)).env (s.envs t)) x ≡ Some v → slice_get (w.vars t) x ≡ Some (type_of v)
        go t true same x v e = ap (λ u. slice_get (w.vars u) x) (same_number t p.txn same) ∙ following.types x v e
        go t false same x v e = fit.types t x v e

    partial_fits : (F : PieceId → Bool) (ps : List PieceId) (s : Present) → Good_turns w (well_formed_plan parts is first batches) env F ps s → PresentFits parts w s → PresentFits parts w (partial w F ps s)
    unfolding partial
    partial_fits F [] s good fit = fit
    partial_fits F (p ∷ ps) s good fit = partial_fits F ps (cond (F p) (apply w p s) s) good.1 (go (F p) refl)
      where
        go : (b : Bool) → F p ≡ b → PresentFits parts w (cond b (apply w p s) s)
        go true e = apply_fits p s (good.0 e) fit
        go false e = fit

    in_tables : (i : ℕ) (x : Txn) → slice_get txns i ≡ Some x → RecordsInTables parts x
    in_tables i (ACall call) e = tt
    in_tables i (AdHoc records) e = fits i (AdHoc records) e

    stays : (F : PieceId → Bool) → HoldsNeeds w env (pieces w (numbers first txns) (blocks_in parts)) F → PresentFits parts w (partial w F (pieces w (numbers first txns) (blocks_in parts)) start)
    stays F holds = partial_fits F (pieces w (numbers first txns) (blocks_in parts)) start
        (picked_turns w (well_formed_plan parts is first batches) env (pieces w (numbers first txns) (blocks_in parts)) (in_order w (numbers first txns) (blocks_in parts) (rises-range first (length txns)) (rises-range 0 parts.blocks)) start
        (λ t x. ap (λ (z : Present). get (z.envs t) x) (whole w (well_formed_plan parts is first batches) (numbers first txns) (blocks_in parts) (rises-range 0 parts.blocks) (fits_blocks parts is first (batch_of batches) txns in_tables) start))
        F holds)
        opened_fits

pub partial_stays_fit : PartialStaysFit
partial_stays_fit parts is first batches run_on fits tables rows_fit F holds =
    let fit = stays parts is first batches run_on fits tables rows_fit F holds in (
      fit,
      λ p ready. piece_fit parts is first batches run_on fits tables rows_fit p _
          (inputs_plan parts is first batches run_on (in_tables parts is first batches run_on fits tables rows_fit) (initial first (txns_of batches) tables) F p holds
          (λ q m e. ready q m (or_left _ _ e)))
          fit,
    )
