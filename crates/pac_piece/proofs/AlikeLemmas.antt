-- What code leaves depends on the rows of its access alone.
use Rattle.std.proofs.Common.{◌≡◌, ℕ, Bool, true, false, cond, ◌&&◌, ◌||◌, List, [], ◌∷◌, ◌++◌, Option, Some, None, Result, Ok, Err, refl, sym, ap, ap₂, ◌∙◌, subst, true≢false, inl, inr, ⊎_elim}
use Rattle.std.specs.Prelude.{is_ok}
use Rattle.std.specs.List.{list_any}
use Rattle.std.specs.Ordering.{eq_by_cmp}
use Rattle.std.specs.FinMap.{get, same_map}
use Rattle.pac_value.specs.declared.expr.Trap.{Trap}
use Rattle.pac_value.specs.Expressions.{Values, ◌>>=◌}
use Rattle.pac_value.specs.State.{Cell, cell_cmp, RowValues, Tables}
use Rattle.pac_value.proofs.CellLemmas.{cells_total, cells_antisymmetric, get-with_row, tied_same}
use Rattle.pac_ops.specs.declared.reason.Reason.{Reason}
use Rattle.pac_ops.specs.declared.program.OpKind.{OpKind}
use Rattle.pac_ops.specs.declared.program.FlatOp.{FlatOp}
use Rattle.pac_ops.specs.Reasons.{or_abort}
use Rattle.pac_ops.specs.declared.note.Note.{Note}
use Rattle.pac_ops.specs.Notes.{note_at, first_note}
use Rattle.pac_ops.specs.Uses.{defined_variable, modifies}
use Rattle.pac_ops.specs.Operations.{State, Effect, Nothing, Gives, Leaves, touched, effect, row_at, with_effect, done}
use Rattle.pac_ops.specs.Flat.{all_hold, reason_in, flat_reason}
use Rattle.pac_ops.specs.Defaults.{trapped_type}
use Rattle.pac_ops.specs.Effects.{NumberedOp, cell_in, flat_cell, is_var, defined_in}
use Rattle.pac_base.specs.Members.{Mem}
use Rattle.pac_base.proofs.TestLemmas.{and_right, any_mem, or_cases, or_left, or_right, unlike}
use Rattle.pac_plan.specs.declared.access.Access.{Access}
use Rattle.pac_plan.specs.declared.access.Access.TheVariants.{Keys, Whole}
use Rattle.pac_plan.specs.declared.access.Touch.{Touch}
use Rattle.pac_plan.specs.Pieces.{access_of, covers, covers_write, named_cell, InputsAre}
use Rattle.pac_plan.specs.declared.code.Code.{Code}
use Rattle.pac_plan.specs.Codes.{code_ops}
use Rattle.pac_plan.proofs.AccessLemmas.{covered}
use Rattle.pac_tables.specs.declared.writes.Write.{Write}
use Rattle.pac_tables.specs.Written.{cell_written, is_written, written}
use Rattle.pac_piece.specs.Frames.{defaulted, done_or_defaulted, after_op, after_ops, notes_after, cell_changed, var_given, is_cell, change_row, give_value}
use Rattle.pac_piece.specs.Values.{IsValueOver, code_end, state_over}
use Rattle.pac_piece.proofs.WriteLookups.{get-none}
use Rattle.pac_piece.proofs.WithinLemmas.{keeps, writes_within_access}

-- ---- what an operation finds, apart from the tables

-- the row at the cell, if there is one
unfoldable pub row_found : Tables → Result (Option Cell) Trap → Option RowValues
row_found rows (Ok cell) = row_at rows cell
row_found rows (Err trap) = None

-- the cell and the effect there, or why it aborts
unfoldable pub at_row : OpKind → Values → Result (Option Cell) Trap → Option RowValues → Result (Option Cell × Effect) Reason
at_row kind env r row = or_abort r >>= λ cell. effect kind env row >>= λ e. Ok (cell, e)

-- the state after it
unfoldable pub ended : Values → Tables → Result (Option Cell × Effect) Reason → Result State Reason
ended env rows (Ok step) = Ok (with_effect step.0 step.1 (state_over env rows))
ended env rows (Err reason) = Err reason

-- the cell that it touches, where it has an effect
cell_of : Result (Option Cell × Effect) Reason → Option Cell
cell_of (Ok step) = step.0
cell_of (Err reason) = None

pub done_ended : (kind : OpKind) (env : Values) (rows : Tables) → done kind (state_over env rows) ≡ ended env rows (at_row kind env (touched kind env) (row_found rows (touched kind env)))
unfolding row_found at_row ended
done_ended kind env rows = go (touched kind env)
  where
    after : (cell : Option Cell) (r : Result Effect Reason) → (r >>= λ e. Ok (with_effect cell e (state_over env rows))) ≡ ended env rows (r >>= λ e. Ok (cell, e))
    after cell (Ok e) = refl
    after cell (Err reason) = refl

    go : (r : Result (Option Cell) Trap) → (or_abort r >>= λ cell. effect kind env (row_at rows cell) >>= λ e. Ok (with_effect cell e (state_over env rows))) ≡ ended env rows (at_row kind env r (row_found rows r))
    go (Ok cell) = after cell (effect kind env (row_at rows cell))
    go (Err trap) = refl

-- ---- accesses

write_covers : (x : Access) (a : Cell) → covers_write x a ≡ true → covers x a ≡ true
write_covers Whole a e = refl
write_covers (Keys l) a e = go l e
  where
    go : (es : List Touch) → list_any (λ e. e.is_write && eq_by_cmp cell_cmp (named_cell e) a) es ≡ true → list_any (λ e. eq_by_cmp cell_cmp (named_cell e) a) es ≡ true
    go [] h = cc
    go (e ∷ es) h = ⊎_elim
        (λ here. or_left (eq_by_cmp cell_cmp (named_cell e) a) (list_any (λ e. eq_by_cmp cell_cmp (named_cell e) a) es) (and_right e.is_write (eq_by_cmp cell_cmp (named_cell e) a) here))
        (λ later. or_right (eq_by_cmp cell_cmp (named_cell e) a) (list_any (λ e. eq_by_cmp cell_cmp (named_cell e) a) es) (go es later))
        (or_cases (e.is_write && eq_by_cmp cell_cmp (named_cell e) a) (list_any (λ e. e.is_write && eq_by_cmp cell_cmp (named_cell e) a) es) h)

module _ (os : List NumberedOp) (inputs : Values) where
  -- the same rows at the cells of the access
  abbrev Alike : Tables → Tables → Type 0
  Alike one other = (a : Cell) → covers (access_of os inputs) a ≡ true → get one a ≡ get other a

  -- one operation from two states with the same values, of the rows of the access
  record SameStep (op : FlatOp) (env : Values) (one other : Tables) : Type 0 where
    env_same : (after_op op (state_over env one)).env ≡ (after_op op (state_over env other)).env
    alike : Alike (after_op op (state_over env one)).tables (after_op op (state_over env other)).tables
    stays : (a : Cell) → covers (access_of os inputs) a ≡ false → get (after_op op (state_over env other)).tables a ≡ get other a
    reason : flat_reason op (state_over env one) ≡ flat_reason op (state_over env other)
    cell : cell_changed op (state_over env one) ≡ cell_changed op (state_over env other)

  -- the same of some operations
  record SameRun (rest : List NumberedOp) (s t : State) : Type 0 where
    env_same : (after_ops rest s).env ≡ (after_ops rest t).env
    alike : Alike (after_ops rest s).tables (after_ops rest t).tables
    stays : (a : Cell) → covers (access_of os inputs) a ≡ false → get (after_ops rest t).tables a ≡ get t.tables a
    notes : (txn : ℕ) → notes_after txn rest s ≡ notes_after txn rest t
    changed : (a : Cell) → change_row rest s a ≡ change_row rest t a
    given : (x : ℕ) → give_value rest s x ≡ give_value rest t x

  module _ (o : NumberedOp) (m : Mem o os) (env : Values) (are : InputsAre os inputs env) (one other : Tables) (same : Alike one other) where
    abbrev kind : OpKind
    kind = o.1.kind

    -- the state after it, by what it found and whether its conditions hold
    abbrev left : Bool → Tables → Result (Option Cell × Effect) Reason → State
    left h rows r = cond h (done_or_defaulted kind (state_over env rows) (ended env rows r)) (state_over env rows)

    left_env : (h : Bool) (r : Result (Option Cell × Effect) Reason) → (left h one r).env ≡ (left h other r).env
    unfolding ended
    left_env false r = refl
    left_env true (Err reason) = go (defined_variable kind)
      where
        go : (x : Option ℕ) → (defaulted x (trapped_type kind) (state_over env one)).env ≡ (defaulted x (trapped_type kind) (state_over env other)).env
        go None = refl
        go (Some x) = refl
    left_env true (Ok step) = go step.0 step.1
      where
        go : (cell : Option Cell) (e : Effect) → (with_effect cell e (state_over env one)).env ≡ (with_effect cell e (state_over env other)).env
        go cell Nothing = refl
        go cell (Gives x v) = refl
        go None (Leaves row) = refl
        go (Some cell) (Leaves row) = refl

    left_alike : (h : Bool) (r : Result (Option Cell × Effect) Reason) → Alike (left h one r).tables (left h other r).tables
    unfolding ended
    left_alike false r a c = same a c
    left_alike true (Err reason) a c = go (defined_variable kind)
      where
        go : (x : Option ℕ) → get (defaulted x (trapped_type kind) (state_over env one)).tables a ≡ get (defaulted x (trapped_type kind) (state_over env other)).tables a
        go None = same a c
        go (Some x) = same a c
    left_alike true (Ok step) a c = go step.0 step.1
      where
        go : (cell : Option Cell) (e : Effect) → get (with_effect cell e (state_over env one)).tables a ≡ get (with_effect cell e (state_over env other)).tables a
        go cell Nothing = same a c
        go cell (Gives x v) = same a c
        go None (Leaves row) = same a c
        go (Some cell) (Leaves row) = get-with_row one cell row a ∙ ap (cond (eq_by_cmp cell_cmp a cell) row) (same a c) ∙ sym (get-with_row other cell row a)

    -- where its cell is one of the access, the rows at others stay
    left_stays : (h : Bool) (r : Result (Option Cell × Effect) Reason) → (h ≡ true → (cell : Cell) → cell_of r ≡ Some cell → covers (access_of os inputs) cell ≡ true)
        → (a : Cell) → covers (access_of os inputs) a ≡ false → get (left h other r).tables a ≡ get other a
    unfolding ended cell_of
    left_stays false r there a c = refl
    left_stays true (Err reason) there a c = go (defined_variable kind)
      where
        go : (x : Option ℕ) → get (defaulted x (trapped_type kind) (state_over env other)).tables a ≡ get other a
        go None = refl
        go (Some x) = refl
    left_stays true (Ok step) there a c = go step.0 step.1 (there refl)
      where
        go : (cell : Option Cell) (e : Effect) → ((b : Cell) → cell ≡ Some b → covers (access_of os inputs) b ≡ true) → get (with_effect cell e (state_over env other)).tables a ≡ get other a
        go cell Nothing in_access = refl
        go cell (Gives x v) in_access = refl
        go None (Leaves row) in_access = refl
        go (Some cell) (Leaves row) in_access = get-with_row other cell row a ∙ here (eq_by_cmp cell_cmp a cell) refl
          where
            here : (b : Bool) → eq_by_cmp cell_cmp a cell ≡ b → cond b row (get other a) ≡ get other a
            here true e = absurd (true≢false (sym (in_access cell refl) ∙ ap (λ q. covers (access_of os inputs) q) (sym (tied_same a cell e)) ∙ c))
            here false e = refl

    -- what it finds over some rows
    abbrev found : Tables → Result (Option Cell × Effect) Reason
    found rows = at_row kind env (touched kind env) (row_found rows (touched kind env))

    in_access : all_hold env o.1.conds ≡ true → (a : Cell) → touched kind env ≡ Ok (Some a) → covers (access_of os inputs) a ≡ true
    in_access h a e = (covered os inputs env are o m a (ap (λ b. cond b (cell_in (touched kind env)) None) h ∙ ap cell_in e)).0

    found_same : all_hold env o.1.conds ≡ true → found one ≡ found other
    unfolding row_found
    found_same h = ap (at_row kind env (touched kind env)) (go (touched kind env) refl)
      where
        go : (r : Result (Option Cell) Trap) → touched kind env ≡ r → row_found one r ≡ row_found other r
        go (Ok None) e = refl
        go (Ok (Some a)) e = same a (in_access h a e)
        go (Err trap) e = refl

    cell_there : all_hold env o.1.conds ≡ true → (a : Cell) → cell_of (found one) ≡ Some a → covers (access_of os inputs) a ≡ true
    unfolding at_row cell_of
    cell_there h a q = go (touched kind env) refl q
      where
        on_effect : (cell : Option Cell) (r : Result Effect Reason) → touched kind env ≡ Ok cell → cell_of (r >>= λ e. Ok (cell, e)) ≡ Some a → covers (access_of os inputs) a ≡ true
        on_effect cell (Ok e) t q = in_access h a (t ∙ ap (λ c. Ok c) q)
        on_effect cell (Err reason) t q = cc

        go : (r : Result (Option Cell) Trap) → touched kind env ≡ r → cell_of (at_row kind env r (row_found one r)) ≡ Some a → covers (access_of os inputs) a ≡ true
        go (Ok cell) t q = on_effect cell (effect kind env (row_found one (Ok cell))) t q
        go (Err trap) t q = cc

    after_as : (rows : Tables) (h : Bool) (r : Result (Option Cell × Effect) Reason) → all_hold env o.1.conds ≡ h → (h ≡ true → found rows ≡ r) → after_op o.1 (state_over env rows) ≡ left h rows r
    after_as rows h r e f = ap (λ d. cond (all_hold env o.1.conds) (done_or_defaulted kind (state_over env rows) d) (state_over env rows)) (done_ended kind env rows) ∙ go h e f
      where
        go : (h : Bool) → all_hold env o.1.conds ≡ h → (h ≡ true → found rows ≡ r) → left (all_hold env o.1.conds) rows (found rows) ≡ left h rows r
        go true e f = ap (λ b. left b rows (found rows)) e ∙ ap (left true rows) (f refl)
        go false e f = ap (λ b. left b rows (found rows)) e

    reason_as : (rows : Tables) (h : Bool) (r : Result (Option Cell × Effect) Reason) → all_hold env o.1.conds ≡ h → (h ≡ true → found rows ≡ r)
        → flat_reason o.1 (state_over env rows) ≡ cond h (reason_in (ended env rows r)) None
    reason_as rows h r e f = ap (λ d. cond (all_hold env o.1.conds) (reason_in d) None) (done_ended kind env rows) ∙ go h e f
      where
        go : (h : Bool) → all_hold env o.1.conds ≡ h → (h ≡ true → found rows ≡ r) → cond (all_hold env o.1.conds) (reason_in (ended env rows (found rows))) None ≡ cond h (reason_in (ended env rows r)) None
        go true e f = ap (λ b. cond b (reason_in (ended env rows (found rows))) None) e ∙ ap (λ x. reason_in (ended env rows x)) (f refl)
        go false e f = ap (λ b. cond b (reason_in (ended env rows (found rows))) None) e

    cell_as : (rows : Tables) (h : Bool) (r : Result (Option Cell × Effect) Reason) → all_hold env o.1.conds ≡ h → (h ≡ true → found rows ≡ r)
        → cell_changed o.1 (state_over env rows) ≡ cond (modifies kind && is_ok (ended env rows r)) (cond h (cell_in (touched kind env)) None) None
    cell_as rows h r e f = ap (λ d. cond (modifies kind && is_ok d) (flat_cell o.1 env) None) (done_ended kind env rows)
        ∙ ap (λ b. cond (modifies kind && is_ok (ended env rows (found rows))) (cond b (cell_in (touched kind env)) None) None) e ∙ go h f
      where
        none : (b : Bool) → ◌≡◌ {A = Option Cell} (cond b None None) None
        none true = refl
        none false = refl

        go : (h : Bool) → (h ≡ true → found rows ≡ r)
            → cond (modifies kind && is_ok (ended env rows (found rows))) (cond h (cell_in (touched kind env)) None) None ≡ cond (modifies kind && is_ok (ended env rows r)) (cond h (cell_in (touched kind env)) None) None
        go true f = ap (λ x. cond (modifies kind && is_ok (ended env rows x)) (cell_in (touched kind env)) None) (f refl)
        go false f = none (modifies kind && is_ok (ended env rows (found rows))) ∙ sym (none (modifies kind && is_ok (ended env rows r)))

    one_reason : (r : Result (Option Cell × Effect) Reason) → reason_in (ended env one r) ≡ reason_in (ended env other r)
    unfolding ended
    one_reason (Ok step) = refl
    one_reason (Err reason) = refl

    one_ok : (r : Result (Option Cell × Effect) Reason) → is_ok (ended env one r) ≡ is_ok (ended env other r)
    unfolding ended
    one_ok (Ok step) = refl
    one_ok (Err reason) = refl

    one_step : SameStep o.1 env one other
    one_step = record {
      env_same = ap (λ (z : State). z.env) first ∙ left_env h r ∙ sym (ap (λ (z : State). z.env) second);
      alike = λ a c. ap (λ (z : State). get z.tables a) first ∙ left_alike h r a c ∙ sym (ap (λ (z : State). get z.tables a) second);
      stays = λ a c. ap (λ (z : State). get z.tables a) second ∙ left_stays h r cell_there a c;
      reason = reason_as one h r refl (λ t. refl) ∙ ap (λ x. cond h x None) (one_reason r) ∙ sym (reason_as other h r refl back);
      cell = cell_as one h r refl (λ t. refl) ∙ ap (λ b. cond (modifies kind && b) (cond h (cell_in (touched kind env)) None) None) (one_ok r) ∙ sym (cell_as other h r refl back);
    }
      where
        h : Bool
        h = all_hold env o.1.conds

        r : Result (Option Cell × Effect) Reason
        r = found one

        back : h ≡ true → found other ≡ r
        back t = sym (found_same t)

        first : after_op o.1 (state_over env one) ≡ left h one r
        first = after_as one h r refl (λ t. refl)

        second : after_op o.1 (state_over env other) ≡ left h other r
        second = after_as other h r refl back

  none_defined : (o : NumberedOp) → Mem o os → (x : ℕ) → defined_in os x ≡ false → is_var x (defined_variable o.1.kind) ≡ false
  none_defined o m x out = unlike _ (λ t. true≢false (sym (any_mem (λ (d : NumberedOp). is_var x (defined_variable d.1.kind)) o os m t) ∙ out))

  same_run : (rest : List NumberedOp) → ((o : NumberedOp) → Mem o rest → Mem o os) → (env : Values) → InputsAre os inputs env → (one other : Tables) → Alike one other
      → SameRun rest (state_over env one) (state_over env other)
  same_run [] among env are one other same = record {
    env_same = refl;
    alike = same;
    stays = λ a c. refl;
    notes = λ txn. refl;
    changed = λ a. refl;
    given = λ x. refl;
  }
  same_run (o ∷ rest) among env are one other same =
      let m = among o (inl refl) in
      let step = one_step o m env are one other same in
      let s = after_op o.1 (state_over env one) in
      let t = after_op o.1 (state_over env other) in
      let later = subst (λ (e : Values). SameRun rest s (state_over e t.tables)) step.env_same
      (same_run rest (λ d n. among d (inr n)) s.env (λ x used out. keeps o.1 (state_over env one) x (none_defined o m x out) ∙ are x used out) s.tables t.tables step.alike) in
      record {
        env_same = later.env_same;
        alike = later.alike;
        stays = λ a c. later.stays a c ∙ step.stays a c;
        notes = λ txn. ap₂ (λ r notes. note_at txn o.0 r ++ notes) step.reason (later.notes txn);
        changed = λ a. ap₂ (λ c b. is_cell a c || b) step.cell (later.changed a);
        given = λ x. ap (λ b. is_var x (var_given o.1 (state_over env one)) || b) (later.given x);
      }

-- ---- the value

-- what is written at a cell is the same over any rows
written_alike : (one other : Tables) (a : Cell) → get one a ≡ get other a → (writes : List Write) → get (written other writes) a ≡ get (written one writes) a
written_alike one other a e [] = sym e
written_alike one other a e (w ∷ ws) = get-with_row (written other ws) (cell_written w) w.row a
    ∙ ap (cond (eq_by_cmp cell_cmp a (cell_written w)) w.row) (written_alike one other a e ws)
    ∙ sym (get-with_row (written one ws) (cell_written w) w.row a)

pub same_by_rows : (txn : ℕ) (code : Code) (inputs env : Values) (one other : Tables) → InputsAre (code_ops code) inputs env → Alike (code_ops code) inputs one other
    → (writes : List Write) (outs : Values) (note : Option Note) → IsValueOver txn code env one writes outs note → IsValueOver txn code env other writes outs note
same_by_rows txn code inputs env one other are alike writes outs least_note v = record {
  rows = same_map cells_total cells_antisymmetric _ _ (λ a. at a (covers (access_of os inputs) a) refl);
  cells = λ a. v.cells a ∙ run.changed a;
  vars = λ x. v.vars x ∙ run.given x;
  values = λ x w e. ap (λ (m : Values). get m x) (sym run.env_same) ∙ v.values x w e;
  note_is = v.note_is ∙ ap first_note (run.notes txn);
}
  where
    os : List NumberedOp
    os = code_ops code

    run : SameRun os inputs os (state_over env one) (state_over env other)
    run = same_run os inputs os (λ o m. m) env are one other alike

    at : (a : Cell) (b : Bool) → covers (access_of os inputs) a ≡ b → get (written other writes) a ≡ get (code_end code env other).tables a
    at a true c = written_alike one other a (alike a c) writes ∙ ap (λ (m : Tables). get m a) v.rows ∙ run.alike a c
    at a false c = get-none other a writes unwritten ∙ sym (run.stays a c)
      where
        unwritten : is_written writes a ≡ false
        unwritten = v.cells a ∙ unlike _ (λ t. true≢false (sym (write_covers (access_of os inputs) a (writes_within_access os inputs (state_over env one) are a t)) ∙ c))
