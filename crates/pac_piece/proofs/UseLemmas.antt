-- What code leaves depends, of the values that it begins with, on those of the variables that its operations use.
use Rattle.std.proofs.Common.{◌≡◌, ℕ, Bool, true, false, cond, ◌==◌, ◌&&◌, ◌||◌, List, [], ◌∷◌, ◌++◌, Option, Some, None, Result, Ok, Err, refl, sym, ap, ap₂, ◌∙◌, subst, inl, inr, ⊎_elim}
use Rattle.std.specs.Prelude.{is_ok, is_some}
use Rattle.std.specs.FinMap.{get}
use Rattle.pac_value.specs.declared.values.Value.{Value}
use Rattle.pac_value.specs.declared.expr.Trap.{Trap}
use Rattle.pac_value.specs.Expressions.{Values, ◌>>=◌}
use Rattle.pac_value.specs.State.{Cell, RowValues, Tables}
use Rattle.pac_ops.specs.declared.reason.Reason.{Reason}
use Rattle.pac_ops.specs.declared.program.OpKind.{OpKind}
use Rattle.pac_ops.specs.declared.program.FlatOp.{FlatOp}
use Rattle.pac_ops.specs.declared.note.Note.{Note}
use Rattle.pac_ops.specs.Notes.{note_at, first_note}
use Rattle.pac_ops.specs.Uses.{conds_use, kind_uses, op_uses, defined_variable, modifies}
use Rattle.pac_ops.specs.Operations.{State, Effect, Nothing, Gives, Leaves, touched, effect, row_at, with_effect}
use Rattle.pac_ops.specs.Flat.{all_hold, default_of, reason_in, flat_reason}
use Rattle.pac_ops.specs.Defaults.{trapped_type}
use Rattle.pac_ops.specs.Effects.{NumberedOp, flat_cell, is_var, used_in}
use Rattle.pac_ops.proofs.EffectLemmas.{SameOn, op_reads, holds-alike, touched-alike, effect-alike, flat_cell-alike}
use Rattle.pac_ops.proofs.StateLemmas.{get-given, value_now}
use Rattle.pac_base.specs.Members.{Mem}
use Rattle.pac_base.proofs.TestLemmas.{any_mem, or_cases, or_left, or_right}
use Rattle.pac_plan.specs.declared.code.Code.{Code}
use Rattle.pac_plan.specs.Codes.{code_ops}
use Rattle.pac_tables.specs.declared.writes.Write.{Write}
use Rattle.pac_piece.specs.Frames.{defaulted, done_or_defaulted, after_op, after_ops, notes_after, cell_changed, var_given, is_cell, change_row, give_value}
use Rattle.pac_piece.specs.Steps.{var_left}
use Rattle.pac_piece.specs.Values.{IsValueOver, state_over}
use Rattle.pac_piece.proofs.StepLemmas.{effect_kind}
use Rattle.pac_piece.specs.PieceLaws.{SameByAccess}
use Rattle.pac_piece.proofs.AlikeLemmas.{row_found, at_row, ended, done_ended, same_by_rows}

-- an effect gives the variable that the operation defines
gives_defined : (kind : OpKind) (env : Values) (r : Result (Option Cell) Trap) (row : Option RowValues) (step : Option Cell × Effect) → at_row kind env r row ≡ Ok step → var_left step.1 ≡ defined_variable kind
unfolding at_row
gives_defined kind env (Err trap) row step is = cc
gives_defined kind env (Ok cell) row step is = go (effect kind env row) refl is
  where
    go : (x : Result Effect Reason) → effect kind env row ≡ x → (x >>= λ e. Ok (cell, e)) ≡ Ok step → var_left step.1 ≡ defined_variable kind
    go (Err reason) at same = cc
    go (Ok e) at same =
        let e_is : e ≡ step.1 = cc in
        subst (λ (d : Effect). var_left d ≡ defined_variable kind) e_is (effect_kind kind env row e at).0

-- a variable that gets the same value, or that has the same
set_alike : (y : ℕ) (v : Value) (env env' : Values) (x : ℕ) → (x == y) ≡ true → value_now (Some (y, v)) (get env x) x ≡ value_now (Some (y, v)) (get env' x) x
set_alike y v env env' x here = ap (λ b. cond b (Some v) (get env x)) here ∙ sym (ap (λ b. cond b (Some v) (get env' x)) here)

-- ---- one operation from two environments that agree on the variables that it uses, over the same rows

module _ (op : FlatOp) (env env' : Values) (rows : Tables) (same : SameOn (op_reads op) env env') where
  abbrev kind : OpKind
  kind = op.kind

  kind_same : SameOn (λ x. kind_uses x kind) env env'
  kind_same x u = same x (or_right (conds_use x op.conds) (kind_uses x kind) u)

  hold_same : all_hold env op.conds ≡ all_hold env' op.conds
  hold_same = holds-alike op.conds env env' (λ x u. same x (or_left (conds_use x op.conds) (kind_uses x kind) u))

  abbrev found : Values → Result (Option Cell × Effect) Reason
  found e = at_row kind e (touched kind e) (row_found rows (touched kind e))

  found_same : found env ≡ found env'
  unfolding at_row row_found
  found_same = go (touched kind env) ∙ ap (λ r. at_row kind env' r (row_found rows r)) (touched-alike kind env env' kind_same)
    where
      go : (r : Result (Option Cell) Trap) → at_row kind env r (row_found rows r) ≡ at_row kind env' r (row_found rows r)
      go (Ok cell) = ap (λ (x : Result Effect Reason). x >>= λ e. Ok (cell, e)) (effect-alike kind env env' (row_at rows cell) kind_same)
      go (Err trap) = refl

  -- the state after it, by whether its conditions hold and what it found
  abbrev left : Values → Bool → Result (Option Cell × Effect) Reason → State
  left e h r = cond h (done_or_defaulted kind (state_over e rows) (ended e rows r)) (state_over e rows)

  after_is : (e : Values) (h : Bool) (r : Result (Option Cell × Effect) Reason) → all_hold e op.conds ≡ h → found e ≡ r → after_op op (state_over e rows) ≡ left e h r
  after_is e h r hold is = ap₂ (λ b d. cond b (done_or_defaulted kind (state_over e rows) d) (state_over e rows)) hold (done_ended kind e rows ∙ ap (ended e rows) is)

  left_tables : (h : Bool) (r : Result (Option Cell × Effect) Reason) → (left env h r).tables ≡ (left env' h r).tables
  unfolding ended
  left_tables false r = refl
  left_tables true (Err reason) = go (defined_variable kind)
    where
      go : (x : Option ℕ) → (defaulted x (trapped_type kind) (state_over env rows)).tables ≡ (defaulted x (trapped_type kind) (state_over env' rows)).tables
      go None = refl
      go (Some x) = refl
  left_tables true (Ok step) = go step.0 step.1
    where
      go : (cell : Option Cell) (e : Effect) → (with_effect cell e (state_over env rows)).tables ≡ (with_effect cell e (state_over env' rows)).tables
      go cell Nothing = refl
      go cell (Gives x v) = refl
      go None (Leaves row) = refl
      go (Some cell) (Leaves row) = refl

  -- a variable that had the same value has the same
  left_kept : (h : Bool) (r : Result (Option Cell × Effect) Reason) (x : ℕ) → get env x ≡ get env' x → get (left env h r).env x ≡ get (left env' h r).env x
  unfolding ended
  left_kept false r x e = e
  left_kept true (Err reason) x e = go (defined_variable kind)
    where
      go : (y : Option ℕ) → get (defaulted y (trapped_type kind) (state_over env rows)).env x ≡ get (defaulted y (trapped_type kind) (state_over env' rows)).env x
      go None = e
      go (Some y) =
          let v = default_of (trapped_type kind) in
          get-given (Some (y, v)) env x ∙ ap (λ o. value_now (Some (y, v)) o x) e ∙ sym (get-given (Some (y, v)) env' x)
  left_kept true (Ok step) x e = go step.0 step.1
    where
      go : (cell : Option Cell) (d : Effect) → get (with_effect cell d (state_over env rows)).env x ≡ get (with_effect cell d (state_over env' rows)).env x
      go cell Nothing = e
      go cell (Gives y v) = get-given (Some (y, v)) env x ∙ ap (λ o. value_now (Some (y, v)) o x) e ∙ sym (get-given (Some (y, v)) env' x)
      go None (Leaves row) = e
      go (Some cell) (Leaves row) = e

  -- a variable that it gives a value has the same too
  left_gave : (h : Bool) (r : Result (Option Cell × Effect) Reason) → ((step : Option Cell × Effect) → r ≡ Ok step → var_left step.1 ≡ defined_variable kind)
      → (x : ℕ) → is_var x (cond h (defined_variable kind) None) ≡ true → get (left env h r).env x ≡ get (left env' h r).env x
  unfolding ended
  left_gave false r defined x given = cc
  left_gave true (Err reason) defined x given = go (defined_variable kind) given
    where
      go : (y : Option ℕ) → is_var x y ≡ true → get (defaulted y (trapped_type kind) (state_over env rows)).env x ≡ get (defaulted y (trapped_type kind) (state_over env' rows)).env x
      go None here = cc
      go (Some y) here =
          let v = default_of (trapped_type kind) in
          get-given (Some (y, v)) env x ∙ set_alike y v env env' x here ∙ sym (get-given (Some (y, v)) env' x)
  left_gave true (Ok step) defined x given = go step.0 step.1 (ap (is_var x) (defined step refl) ∙ given)
    where
      go : (cell : Option Cell) (d : Effect) → is_var x (var_left d) ≡ true → get (with_effect cell d (state_over env rows)).env x ≡ get (with_effect cell d (state_over env' rows)).env x
      go cell Nothing here = cc
      go cell (Gives y v) here = get-given (Some (y, v)) env x ∙ set_alike y v env env' x here ∙ sym (get-given (Some (y, v)) env' x)
      go None (Leaves row) here = cc
      go (Some cell) (Leaves row) here = cc

  ended_ok : (r : Result (Option Cell × Effect) Reason) → is_ok (ended env rows r) ≡ is_ok (ended env' rows r)
  unfolding ended
  ended_ok (Ok step) = refl
  ended_ok (Err reason) = refl

  ended_reason : (r : Result (Option Cell × Effect) Reason) → reason_in (ended env rows r) ≡ reason_in (ended env' rows r)
  unfolding ended
  ended_reason (Ok step) = refl
  ended_reason (Err reason) = refl

  record SameUse : Type 0 where
    tables : (after_op op (state_over env rows)).tables ≡ (after_op op (state_over env' rows)).tables
    kept : (x : ℕ) → get env x ≡ get env' x → get (after_op op (state_over env rows)).env x ≡ get (after_op op (state_over env' rows)).env x
    gave : (x : ℕ) → is_var x (var_given op (state_over env rows)) ≡ true → get (after_op op (state_over env rows)).env x ≡ get (after_op op (state_over env' rows)).env x
    reason : flat_reason op (state_over env rows) ≡ flat_reason op (state_over env' rows)
    cell : cell_changed op (state_over env rows) ≡ cell_changed op (state_over env' rows)
    given : var_given op (state_over env rows) ≡ var_given op (state_over env' rows)

  one_use : SameUse
  one_use = record {
    tables = ap (λ (z : State). z.tables) first ∙ left_tables h r ∙ sym (ap (λ (z : State). z.tables) second);
    kept = λ x e. ap (λ (z : State). get z.env x) first ∙ left_kept h r x e ∙ sym (ap (λ (z : State). get z.env x) second);
    gave = λ x g. ap (λ (z : State). get z.env x) first ∙ left_gave h r (λ step is. gives_defined kind env (touched kind env) (row_found rows (touched kind env)) step is) x g
        ∙ sym (ap (λ (z : State). get z.env x) second);
    reason = ap (λ d. cond h (reason_in d) None) (done_ended kind env rows) ∙ ap (λ o. cond h o None) (ended_reason r)
        ∙ sym (ap₂ (λ b d. cond b (reason_in d) None) (sym hold_same) (done_ended kind env' rows ∙ ap (ended env' rows) (sym found_same)));
    cell = ap (λ d. cond (modifies kind && is_ok d) (flat_cell op env) None) (done_ended kind env rows)
        ∙ ap₂ (λ b c. cond (modifies kind && b) c None) (ended_ok r) (flat_cell-alike op env env' same)
        ∙ sym (ap (λ d. cond (modifies kind && is_ok d) (flat_cell op env') None) (done_ended kind env' rows ∙ ap (ended env' rows) (sym found_same)));
    given = ap (λ b. cond b (defined_variable kind) None) hold_same;
  }
    where
      h : Bool
      h = all_hold env op.conds

      r : Result (Option Cell × Effect) Reason
      r = found env

      first : after_op op (state_over env rows) ≡ left env h r
      first = after_is env h r refl refl

      second : after_op op (state_over env' rows) ≡ left env' h r
      second = after_is env' h r (sym hold_same) (sym found_same)

-- ---- one after another

module _ (os : List NumberedOp) where
  record SameUses (rest : List NumberedOp) (s t : State) : Type 0 where
    tables : (after_ops rest s).tables ≡ (after_ops rest t).tables
    kept : (x : ℕ) → get s.env x ≡ get t.env x → get (after_ops rest s).env x ≡ get (after_ops rest t).env x
    gave : (x : ℕ) → give_value rest s x ≡ true → get (after_ops rest s).env x ≡ get (after_ops rest t).env x
    notes : (txn : ℕ) → notes_after txn rest s ≡ notes_after txn rest t
    changed : (a : Cell) → change_row rest s a ≡ change_row rest t a
    given : (x : ℕ) → give_value rest s x ≡ give_value rest t x

  same_uses : (rest : List NumberedOp) → ((o : NumberedOp) → Mem o rest → Mem o os) → (env env' : Values) (rows : Tables) → SameOn (used_in os) env env'
      → SameUses rest (state_over env rows) (state_over env' rows)
  same_uses [] among env env' rows same = record {
    tables = refl;
    kept = λ x e. e;
    gave = λ x g. cc;
    notes = λ txn. refl;
    changed = λ a. refl;
    given = λ x. refl;
  }
  same_uses (o ∷ rest) among env env' rows same =
      let reads : SameOn (op_reads o.1) env env' = λ x u. same x (any_mem (λ (d : NumberedOp). op_uses x d.1) o os (among o (inl refl)) u) in
      let step = one_use o.1 env env' rows reads in
      let s = after_op o.1 (state_over env rows) in
      let t = after_op o.1 (state_over env' rows) in
      let later : SameUses rest s t = subst (λ (tables : Tables). SameUses rest s (state_over t.env tables)) step.tables
      (same_uses rest (λ d n. among d (inr n)) s.env t.env s.tables (λ x u. step.kept x (same x u))) in
      record {
        tables = later.tables;
        kept = λ x e. later.kept x (step.kept x e);
        gave = λ x g. ⊎_elim (λ here. later.kept x (step.gave x here)) (λ after. later.gave x after) (or_cases (is_var x (var_given o.1 (state_over env rows))) (give_value rest s x) g);
        notes = λ txn. ap₂ (λ r notes. note_at txn o.0 r ++ notes) step.reason (later.notes txn);
        changed = λ a. ap₂ (λ c b. is_cell a c || b) step.cell (later.changed a);
        given = λ x. ap₂ (λ y b. is_var x y || b) step.given (later.given x);
      }

-- ---- the value

-- what is given has a value
has_value : {A : Type 0} (o : Option A) (v : A) → o ≡ Some v → is_some o ≡ true
has_value o v e = ap (λ p. is_some p) e

pub value_by_use : (txn : ℕ) (code : Code) (env env' : Values) (base : Tables) → SameOn (used_in (code_ops code)) env env'
    → (writes : List Write) (outs : Values) (note : Option Note) → IsValueOver txn code env base writes outs note → IsValueOver txn code env' base writes outs note
value_by_use txn code env env' base same writes outs least_note v = record {
  rows = v.rows ∙ run.tables;
  cells = λ a. v.cells a ∙ run.changed a;
  vars = λ x. v.vars x ∙ run.given x;
  values = λ x w e. sym (run.gave x (sym (v.vars x) ∙ has_value (get outs x) w e)) ∙ v.values x w e;
  note_is = v.note_is ∙ ap first_note (run.notes txn);
}
  where
    run : SameUses (code_ops code) (code_ops code) (state_over env base) (state_over env' base)
    run = same_uses (code_ops code) (code_ops code) (λ o m. m) env env' base same

pub same_by_access : SameByAccess
same_by_access txn code inputs env env' one other are same alike writes outs note v =
    same_by_rows txn code inputs env' one other (λ x used out. sym (same x used) ∙ are x used out) alike writes outs note (value_by_use txn code env env' one same writes outs note v)
