-- What laying the after-images of transactions gives is what executing them gives.
use Rattle.std.proofs.Common.{◌≡◌, ◌∙◌, ℕ, ◌+◌, Bool, true, false, cond, ◌||◌, List, [], ◌∷◌, ◌++◌, map, Option, Some, None, is_some, Result, Ok, Err, refl, sym, ap, subst}
use Rattle.std.specs.Ordering.{eq_by_cmp}
use Rattle.std.specs.FinMap.{get, keys, contains_key-keys, same_map}
use Rattle.pac_value.specs.declared.values.Value.{Value}
use Rattle.pac_value.specs.declared.values.Value.TheVariants.{Int, Text, Bool as Truth}
use Rattle.pac_value.specs.declared.expr.Trap.{Trap}
use Rattle.pac_value.specs.Expressions.{Values, value, ◌>>=◌}
use Rattle.pac_value.specs.State.{Cell, cell_cmp, RowValues, Tables, with_row}
use Rattle.pac_value.proofs.CellLemmas.{cells_total, cells_antisymmetric, tied_same, get-with_row}
use Rattle.pac_ops.specs.declared.reason.Reason.{Reason}
use Rattle.pac_ops.specs.declared.program.OpKind.{OpKind}
use Rattle.pac_ops.specs.declared.program.OpKind.TheVariants.{Let, Cond, Read, Has, Put, SetCol, Delete, AbortIf}
use Rattle.pac_ops.specs.declared.note.Note.{Note}
use Rattle.pac_ops.specs.declared.transaction.Change.{Change}
use Rattle.pac_ops.specs.declared.transaction.Change.TheVariants as change
use Rattle.pac_ops.specs.declared.transaction.Txn.{Txn}
use Rattle.pac_ops.specs.declared.transaction.Txn.TheVariants.{Call as ACall, AdHoc}
use Rattle.pac_ops.specs.Reasons.{or_abort}
use Rattle.pac_ops.specs.Uses.{modifies}
use Rattle.pac_ops.specs.Operations.{State, Effect, Nothing, Gives, Leaves, touched, effect, row_at, column_or, with_effect, unless_asked, done, define, opening}
use Rattle.pac_ops.specs.Transactions.{with_change, with_changes}
use Rattle.pac_types.specs.declared.procedure.Proc.{Proc}
use Rattle.pac_types.specs.Meaning.{Abort, at_operation, branch, runs, step_count, meaning}
use Rattle.pac_types.specs.Execution.{called_at, txn_meaning, in_txn, serial}
use Rattle.pac_types.specs.Unrolled.{UnrolledSteps, End, Op, Branch, unrolled}
use Rattle.pac_bytes.proofs.Results.{bind_ok, ok_same}
use Rattle.pac_serial.specs.Writes.{is_among, if_well, cells_in, cells_put, cells_run, cells_called, image_cell, cells_written, cell_set, shown, image_in, after_images}
use Rattle.pac_serial.proofs.ListedLemmas.{set_has}
use Rattle.pac_tuple.specs.AfterImages.{all_after_images}
use Rattle.pac_tuple.specs.Laying.{tables_laid}

-- ---- laying images that show one state

with_shown : (t : Tables) (c : Cell) (row : Option RowValues) → with_change t (shown c row) ≡ with_row t c row
with_shown t c None = refl
with_shown t c (Some row) = refl

laid_rows : (after : Tables) (cs : List Cell) (t : Tables) (q : Cell) → get (with_changes t (map (image_in after) cs)) q ≡ cond (is_among q cs) (get after q) (get t q)
laid_rows after [] t q = refl
laid_rows after (c ∷ cs) t q =
    laid_rows after cs (with_change t (image_in after c)) q
    ∙ ap (λ (u : Tables). cond (is_among q cs) (get after q) (get u q)) (with_shown t c (get after c))
    ∙ ap (cond (is_among q cs) (get after q)) (get-with_row t c (get after c) q)
    ∙ go (eq_by_cmp cell_cmp q c) (is_among q cs) refl
  where
    go : (b d : Bool) → eq_by_cmp cell_cmp q c ≡ b → cond d (get after q) (cond b (get after c) (get t q)) ≡ cond (b || d) (get after q) (get t q)
    go true true e = refl
    go true false e = ap (get after) (sym (tied_same q c e))
    go false true e = refl
    go false false e = refl

-- where nothing but these cells differs, laying what stands at them gives the whole
pub laid_cells : (before after : Tables) (cells : List Cell) → ((q : Cell) → is_among q cells ≡ false → get after q ≡ get before q) → with_changes before (map (image_in after) (keys (cell_set cells))) ≡ after
laid_cells before after cells same = same_map cells_total cells_antisymmetric _ _ (λ q.
    laid_rows after (keys (cell_set cells)) before q
    ∙ ap (λ (b : Bool). cond b (get after q) (get before q)) (sym (contains_key-keys (cell_set cells) q) ∙ set_has cells q)
    ∙ go q (is_among q cells) refl)
  where
    go : (q : Cell) (b : Bool) → is_among q cells ≡ b → cond b (get after q) (get before q) ≡ get after q
    go q true e = refl
    go q false e = sym (same q e)

-- ---- what an operation leaves alone

or_abort_ok : {A : Type 0} (r : Result A Trap) (x : A) → or_abort r ≡ Ok x → r ≡ Ok x
or_abort_ok (Ok y) x e = cc
or_abort_ok (Err trap) x e = absurd cc

-- an effect that leaves no row
abbrev IsQuiet : Effect → Type 0
IsQuiet Nothing = Unit {0}
IsQuiet (Gives x v) = Unit {0}
IsQuiet (Leaves row) = ⊥

quiet_tables : (cell : Option Cell) (e : Effect) (s : State) → IsQuiet e → (with_effect cell e s).tables ≡ s.tables
quiet_tables cell Nothing s h = refl
quiet_tables cell (Gives x v) s h = refl
quiet_tables cell (Leaves row) s h = absurd h

quiet_asked : (v : Value) (e : Effect) → unless_asked v ≡ Ok e → IsQuiet e
quiet_asked (Truth true) e h = absurd cc
quiet_asked (Truth false) e h = subst IsQuiet (ok_same {F = Reason} Nothing e h) tt
quiet_asked (Int z) e h = subst IsQuiet (ok_same {F = Reason} Nothing e h) tt
quiet_asked (Text b) e h = subst IsQuiet (ok_same {F = Reason} Nothing e h) tt

quiet_op : (kind : OpKind) → modifies kind ≡ false → (env : Values) (row : Option RowValues) (e : Effect) → effect kind env row ≡ Ok e → IsQuiet e
quiet_op (Let x v) m env row e h = let w = bind_ok (or_abort (value v env)) (λ w. Ok (Gives x w)) e h in subst IsQuiet (ok_same {F = Reason} (Gives x w.0) e w.2) tt
quiet_op (Cond x v) m env row e h = let w = bind_ok (or_abort (value v env)) (λ w. Ok (Gives x w)) e h in subst IsQuiet (ok_same {F = Reason} (Gives x w.0) e w.2) tt
quiet_op (Read x t k c d) m env row e h = subst IsQuiet (ok_same {F = Reason} (Gives x (column_or row c d)) e h) tt
quiet_op (Has x t k) m env row e h = subst IsQuiet (ok_same {F = Reason} (Gives x (Truth (is_some row))) e h) tt
quiet_op (Put t k es) m env row e h = absurd cc
quiet_op (SetCol t k c v) m env row e h = absurd cc
quiet_op (Delete t k) m env row e h = absurd cc
quiet_op (AbortIf v) m env row e h = let w = bind_ok (or_abort (value v env)) unless_asked e h in quiet_asked w.0 e w.2

or_false : (a b : Bool) → a || b ≡ false → (a ≡ false) × (b ≡ false)
or_false true b h = absurd cc
or_false false b h = (refl, h)

-- a write at another cell
other_cell : (cell : Option Cell) (e : Effect) (s : State) (q : Cell) → is_among q (cells_in cell) ≡ false → get (with_effect cell e s).tables q ≡ get s.tables q
other_cell cell Nothing s q out = refl
other_cell cell (Gives x v) s q out = refl
other_cell None (Leaves row) s q out = refl
other_cell (Some p) (Leaves row) s q out = get-with_row s.tables p row q ∙ ap (λ (b : Bool). cond b row (get s.tables q)) (or_false (eq_by_cmp cell_cmp q p) false out).0

op_keeps : (kind : OpKind) (s t : State) (q : Cell) → done kind s ≡ Ok t → is_among q (cells_put kind s) ≡ false → get t.tables q ≡ get s.tables q
op_keeps kind s t q h out =
    let cell = bind_ok (or_abort (touched kind s.env)) (λ cell. effect kind s.env (row_at s.tables cell) >>= λ e. Ok (with_effect cell e s)) t h in
    let e = bind_ok (effect kind s.env (row_at s.tables cell.0)) (λ e. Ok (with_effect cell.0 e s)) t cell.2 in
    let is : with_effect cell.0 e.0 s ≡ t = ok_same {F = Reason} (with_effect cell.0 e.0 s) t e.2 in
    ap (λ (u : State). get u.tables q) (sym is) ∙ go (modifies kind) refl cell.0 e.0 (or_abort_ok (touched kind s.env) cell.0 cell.1) e.1 out
  where
    go : (b : Bool) → modifies kind ≡ b → (cell : Option Cell) (e : Effect) → touched kind s.env ≡ Ok cell → effect kind s.env (row_at s.tables cell) ≡ Ok e
        → is_among q (cond b (if_well cells_in (touched kind s.env)) []) ≡ false → get (with_effect cell e s).tables q ≡ get s.tables q
    go true m cell e at does out = other_cell cell e s q (subst (λ (r : Result (Option Cell) Trap). is_among q (if_well cells_in r) ≡ false) at out)
    go false m cell e at does out = ap (λ (u : Tables). get u q) (quiet_tables cell e s (quiet_op kind m s.env (row_at s.tables cell) e does))

-- ---- what steps and transactions leave alone

among_both : (q : Cell) (cs ds : List Cell) → is_among q (cs ++ ds) ≡ false → (is_among q cs ≡ false) × (is_among q ds ≡ false)
among_both q [] ds h = (refl, h)
among_both q (c ∷ cs) ds h = go (eq_by_cmp cell_cmp q c) (among_both q cs ds) h
  where
    go : (b : Bool) → (is_among q (cs ++ ds) ≡ false → (is_among q cs ≡ false) × (is_among q ds ≡ false)) → b || is_among q (cs ++ ds) ≡ false → (b || is_among q cs ≡ false) × (is_among q ds ≡ false)
    go true both h = absurd cc
    go false both h = both h

at_operation_ok : {A : Type 0} (n : ℕ) (r : Result A Reason) (x : A) → at_operation n r ≡ Ok x → r ≡ Ok x
at_operation_ok n (Ok y) x e = cc
at_operation_ok n (Err reason) x e = absurd cc

in_txn_ok : {A : Type 0} (n : ℕ) (r : Result A Abort) (x : A) → in_txn n r ≡ Ok x → r ≡ Ok x
in_txn_ok n (Ok y) x e = cc
in_txn_ok n (Err abort) x e = absurd cc

-- the first of the two blocks runs
abbrev is_first : Value → Bool
is_first (Truth true) = true
is_first v = false

branch_is : {A : Type 0} (v : Value) (a b : A) → branch v a b ≡ cond (is_first v) a b
branch_is (Truth true) a b = refl
branch_is (Truth false) a b = refl
branch_is (Int z) a b = refl
branch_is (Text t) a b = refl

steps_keep : (steps : UnrolledSteps) (n : ℕ) (s t : State) (q : Cell) → runs steps n s ≡ Ok t → is_among q (cells_run steps n s) ≡ false → get t.tables q ≡ get s.tables q
steps_keep End n s t q h out = ap (λ (u : State). get u.tables q) (sym (ok_same {F = Abort} s t h))
steps_keep (Op kind rest) n s t q h out =
    let one = bind_ok (at_operation n (done kind s)) (λ u. runs rest (n + 1) u) t h in
    let does = at_operation_ok n (done kind s) one.0 one.1 in
    let parts = among_both q (cells_put kind s) (cells_run rest (n + 1) one.0) (subst (λ (r : Result State Reason). is_among q (if_well (λ u. cells_put kind s ++ cells_run rest (n + 1) u) r) ≡ false) does out) in
    steps_keep rest (n + 1) one.0 t q one.2 parts.1 ∙ op_keeps kind s one.0 q does parts.0
steps_keep (Branch x e first second rest) n s t q h out =
    let v = bind_ok (at_operation n (or_abort (value e s.env))) (λ v. branch v (runs first (n + 1)) (runs second (n + 1 + step_count first)) (define x v s) >>= λ u. runs rest (n + 1 + step_count first + step_count second) u) t h in
    let is = or_abort_ok (value e s.env) v.0 (at_operation_ok n (or_abort (value e s.env)) v.0 v.1) in
    let u = bind_ok (branch v.0 (runs first (n + 1)) (runs second (n + 1 + step_count first)) (define x v.0 s)) (λ u. runs rest (n + 1 + step_count first + step_count second) u) t v.2 in
    let out1 = subst (λ (r : Result Value Trap). is_among q (if_well (λ w. if_well (λ z. branch w (cells_run first (n + 1) (define x w s)) (cells_run second (n + 1 + step_count first) (define x w s)) ++ cells_run rest (n + 1 + step_count first + step_count second) z) (branch w (runs first (n + 1)) (runs second (n + 1 + step_count first)) (define x w s))) r) ≡ false) is out in
    let out2 = subst (λ (r : Result State Abort). is_among q (if_well (λ z. branch v.0 (cells_run first (n + 1) (define x v.0 s)) (cells_run second (n + 1 + step_count first) (define x v.0 s)) ++ cells_run rest (n + 1 + step_count first + step_count second) z) r) ≡ false) u.1 out1 in
    let parts = among_both q (branch v.0 (cells_run first (n + 1) (define x v.0 s)) (cells_run second (n + 1 + step_count first) (define x v.0 s))) (cells_run rest (n + 1 + step_count first + step_count second) u.0) out2 in
    steps_keep rest (n + 1 + step_count first + step_count second) u.0 t q u.2 parts.1
    ∙ block v.0 u.0 (is_first v.0) (λ h o. steps_keep first (n + 1) (define x v.0 s) u.0 q h o) (λ h o. steps_keep second (n + 1 + step_count first) (define x v.0 s) u.0 q h o) (sym (ap (λ (f : State → Result State Abort). f (define x v.0 s)) (branch_is v.0 (runs first (n + 1)) (runs second (n + 1 + step_count first)))) ∙ u.1)
    (subst (λ (cs : List Cell). is_among q cs ≡ false) (branch_is v.0 (cells_run first (n + 1) (define x v.0 s)) (cells_run second (n + 1 + step_count first) (define x v.0 s))) parts.0)
  where
    block : (v : Value) (u : State) (b : Bool)
        → (runs first (n + 1) (define x v s) ≡ Ok u → is_among q (cells_run first (n + 1) (define x v s)) ≡ false → get u.tables q ≡ get s.tables q)
        → (runs second (n + 1 + step_count first) (define x v s) ≡ Ok u → is_among q (cells_run second (n + 1 + step_count first) (define x v s)) ≡ false → get u.tables q ≡ get s.tables q)
        → cond b (runs first (n + 1)) (runs second (n + 1 + step_count first)) (define x v s) ≡ Ok u
        → is_among q (cond b (cells_run first (n + 1) (define x v s)) (cells_run second (n + 1 + step_count first) (define x v s))) ≡ false → get u.tables q ≡ get s.tables q
    block v u true one two h out = one h out
    block v u false one two h out = two h out

change_keeps : (t : Tables) (c : Change) (q : Cell) → eq_by_cmp cell_cmp q (image_cell c) ≡ false → get (with_change t c) q ≡ get t q
change_keeps t (change.Put table key row) q out = get-with_row t (table, key) (Some row) q ∙ ap (λ (b : Bool). cond b (Some row) (get t q)) out
change_keeps t (change.Delete table key) q out = get-with_row t (table, key) None q ∙ ap (λ (b : Bool). cond b None (get t q)) out

changes_keep : (cs : List Change) (t : Tables) (q : Cell) → is_among q (map image_cell cs) ≡ false → get (with_changes t cs) q ≡ get t q
changes_keep [] t q out = refl
changes_keep (c ∷ cs) t q out =
    let parts = or_false (eq_by_cmp cell_cmp q (image_cell c)) (is_among q (map image_cell cs)) out in
    changes_keep cs (with_change t c) q parts.1 ∙ change_keeps t c q parts.0

call_keeps : (o : Option Proc) (args : List Value) (before after : Tables) (q : Cell) → called_at o args before ≡ Ok after → is_among q (cells_called o args before) ≡ false → get after q ≡ get before q
call_keeps None args before after q h out = ap (λ (u : Tables). get u q) (sym (ok_same {F = Abort} before after h))
call_keeps (Some proc) args before after q h out =
    let s = bind_ok (meaning proc (opening args before)) (λ s. Ok s.tables) after h in
    ap (λ (u : Tables). get u q) (sym (ok_same {F = Abort} s.0.tables after s.2)) ∙ steps_keep (unrolled proc) 0 (opening args before) s.0 q s.1 out

txn_keeps : (procs : List Proc) (txn : Txn) (before after : Tables) → txn_meaning procs txn before ≡ Ok after → (q : Cell) → is_among q (cells_written procs txn before) ≡ false → get after q ≡ get before q
txn_keeps procs (ACall call) before after h q out = call_keeps _ call.args before after q h out
txn_keeps procs (AdHoc records) before after h q out = ap (λ (u : Tables). get u q) (sym (ok_same {F = Abort} (with_changes before records) after h)) ∙ changes_keep records before q out

-- ---- the whole

-- laying the after-images of a transaction gives what it does
pub laid_after : (procs : List Proc) (txn : Txn) (before after : Tables) → txn_meaning procs txn before ≡ Ok after → with_changes before (after_images procs txn before after) ≡ after
laid_after procs txn before after h = laid_cells before after (cells_written procs txn before) (txn_keeps procs txn before after h)

-- laying the after-images of transactions gives what serial execution gives
pub laid_is_serial : (procs : List Proc) (txns : List Txn) (first : ℕ) (before after : Tables) → serial procs first txns before ≡ Ok after → tables_laid before (all_after_images procs txns before) ≡ after
laid_is_serial procs [] first before after h = ok_same {F = Note} before after h
laid_is_serial procs (txn ∷ txns) first before after h =
    let one = bind_ok (in_txn first (txn_meaning procs txn before)) (λ t. serial procs (first + 1) txns t) after h in
    let is = in_txn_ok first (txn_meaning procs txn before) one.0 one.1 in
    rw is (ap (λ (t : Tables). tables_laid t (all_after_images procs txns one.0)) (laid_after procs txn before one.0 is) ∙ laid_is_serial procs txns (first + 1) one.0 after one.2)
