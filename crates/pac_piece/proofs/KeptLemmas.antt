-- What is kept of the values that operations give: which variables have one, and which.
use Rattle.std.proofs.Common.{◌≡◌, ℕ, ◌==◌, Bool, true, false, cond, ◌||◌, List, [], ◌∷◌, Option, Some, None, refl, sym, ap, ◌∙◌}
use Rattle.std.specs.Prelude.{is_some}
use Rattle.std.specs.Ordering.{nat_cmp}
use Rattle.std.specs.FinMap.{get, get-empty, empty, insert}
use Rattle.pac_base.proofs.TestLemmas.{same_number}
use Rattle.pac_value.specs.declared.values.Value.{Value}
use Rattle.pac_value.specs.Expressions.{Values}
use Rattle.pac_value.specs.State.{Tables}
use Rattle.pac_ops.specs.declared.program.FlatOp.{FlatOp}
use Rattle.pac_ops.specs.Uses.{defined_variable}
use Rattle.pac_ops.specs.Operations.{State, done}
use Rattle.pac_ops.specs.Flat.{all_hold}
use Rattle.pac_ops.specs.Effects.{NumberedOp, is_var}
use Rattle.pac_ops.proofs.StateLemmas.{get-given}
use Rattle.pac_plan.specs.declared.code.Code.{Code}
use Rattle.pac_plan.specs.Codes.{code_ops}
use Rattle.pac_piece.specs.declared.frame.Frame.{Frame}
use Rattle.pac_piece.specs.Frames.{AreAmong, HasOneMore, Keeps, KeepsAll, done_or_defaulted, after_op, after_ops, give_value, var_given}
use Rattle.pac_piece.specs.Values.{IsOutcomeOver, IsValueOver, IsEndOver, state_over}
use Rattle.pac_piece.proofs.WithinLemmas.{keeps}

-- ---- what an operation gives no value keeps the one that it has

pub not_given_stays : (op : FlatOp) (s : State) (y : ℕ) → is_var y (var_given op s) ≡ false → get (after_op op s).env y ≡ get s.env y
not_given_stays op s y = go (all_hold s.env op.conds) refl
  where
    go : (b : Bool) → all_hold s.env op.conds ≡ b → is_var y (cond b (defined_variable op.kind) None) ≡ false → get (after_op op s).env y ≡ get s.env y
    go true h none = keeps op s y none
    go false h none = ap (λ (t : State). get t.env y) (ap (λ b. cond b (done_or_defaulted op.kind s (done op.kind s)) s) h)

pub none_given_stays : (os : List NumberedOp) (s : State) (y : ℕ) → give_value os s y ≡ false → get (after_ops os s).env y ≡ get s.env y
none_given_stays [] s y none = refl
none_given_stays (o ∷ os) s y none = go (is_var y (var_given o.1 s)) refl none (none_given_stays os (after_op o.1 s) y)
  where
    go : (b : Bool) → is_var y (var_given o.1 s) ≡ b → (b || give_value os (after_op o.1 s) y) ≡ false
        → (give_value os (after_op o.1 s) y ≡ false → get (after_ops os (after_op o.1 s)).env y ≡ get (after_op o.1 s).env y) → get (after_ops os (after_op o.1 s)).env y ≡ get s.env y
    go true given none rest = cc
    go false given none rest = rest none ∙ not_given_stays o.1 s y given

-- ---- where each is kept

-- one operation
record OneKept (x : Option ℕ) (before after old new : Values) : Type 0 where
  vars : (y : ℕ) → is_some (get new y) ≡ (is_var y x || is_some (get old y))
  values : AreAmong old before → AreAmong new after

one_kept : (x : Option ℕ) (before after old new : Values) → ((y : ℕ) → is_var y x ≡ false → get after y ≡ get before y) → Keeps HasOneMore x after old new → OneKept x before after old new
one_kept None before after old new stays same = record {
  vars = λ y. ap (λ (m : Values). is_some (get m y)) same;
  values = λ among y w e. stays y refl ∙ among y w (ap (λ (m : Values). get m y) (sym same) ∙ e);
}
one_kept (Some x) before after old new stays (v, there, more) = record {
  vars = λ y. ap is_some (at y) ∙ some y (y == x);
  values = λ among y w e. value among y w (y == x) refl (sym (at y) ∙ e);
}
  where
    at : (y : ℕ) → get new y ≡ cond (y == x) (Some v) (get old y)
    at y = ap (λ (m : Values). get m y) more ∙ get-given (Some (x, v)) old y

    some : (y : ℕ) (b : Bool) → is_some (cond b (Some v) (get old y)) ≡ (b || is_some (get old y))
    some y true = refl
    some y false = refl

    value : AreAmong old before → (y : ℕ) (w : Value) (b : Bool) → (y == x) ≡ b → cond b (Some v) (get old y) ≡ Some w → get after y ≡ Some w
    value among y w true same e = ap (get after) (same_number y x same) ∙ there ∙ e
    value among y w false other e = stays y other ∙ among y w e

or-swap : (a b c : Bool) → (a || (b || c)) ≡ ((b || a) || c)
or-swap true true c = refl
or-swap true false c = refl
or-swap false true c = refl
or-swap false false c = refl

-- all operations
record AllKept (os : List NumberedOp) (s : State) (old new : Values) : Type 0 where
  vars : (y : ℕ) → is_some (get new y) ≡ (give_value os s y || is_some (get old y))
  values : AreAmong old s.env → AreAmong new (after_ops os s).env

all_kept : (os : List NumberedOp) (s : State) (old new : Values) → KeepsAll HasOneMore os s old new → AllKept os s old new
all_kept [] s old new same = record {
  vars = λ y. ap (λ (m : Values). is_some (get m y)) same;
  values = λ among y w e. among y w (ap (λ (m : Values). get m y) (sym same) ∙ e);
}
all_kept (o ∷ os) s old new (mid, one, rest) =
    let first = one_kept (var_given o.1 s) s.env (after_op o.1 s).env old mid (not_given_stays o.1 s) one in
    let later = all_kept os (after_op o.1 s) mid new rest in
    record {
      vars = λ y. later.vars y ∙ ap (λ b. give_value os (after_op o.1 s) y || b) (first.vars y) ∙ or-swap (give_value os (after_op o.1 s) y) (is_var y (var_given o.1 s)) (is_some (get old y));
      values = λ among. later.values (first.values among);
    }

or-none : (b : Bool) → (b || false) ≡ b
or-none true = refl
or-none false = refl

none_there : (y : ℕ) → ◌≡◌ {A = Option Value} (get {R = nat_cmp} empty y) None
none_there y = get-empty nat_cmp y

-- what the frame kept is the value of the code
pub value_of : (txn : ℕ) (code : Code) (env : Values) (base : Tables) (frame : Frame Values) → IsOutcomeOver HasOneMore txn code env base empty frame
    → IsValueOver txn code env base frame.writes.items frame.outs frame.note
value_of txn code env base frame runs =
    let all = all_kept (code_ops code) (state_over env base) empty frame.outs runs.kept in
    record {
      rows = ap (λ (s : State). s.tables) runs.state;
      cells = runs.changed;
      vars = λ y. all.vars y ∙ ap (λ (o : Option Value). give_value (code_ops code) (state_over env base) y || is_some o) (none_there y) ∙ or-none (give_value (code_ops code) (state_over env base) y);
      values = all.values (λ y w e. let wrong : None ≡ Some w = sym (none_there y) ∙ e in cc);
      note_is = runs.note;
    }

-- ---- where none is kept: they stand among all values

-- the values that were given, so far as others are kept
given_of : (os : List NumberedOp) (s : State) {K : Type 0} (a b : K) → KeepsAll (λ (old : K) (x : ℕ) (v : Value) (new : K). Unit {0}) os s a b → (old : Values) → (new : Values) × KeepsAll HasOneMore os s old new
given_of [] s a b all old = (old, refl)
given_of (o ∷ os) s a b (mid, one, rest) old =
    let first = go (var_given o.1 s) one in
    let later = given_of os (after_op o.1 s) mid b rest first.0 in
    (later.0, (first.0, first.1, later.1))
  where
    go : (x : Option ℕ) → Keeps (λ (old : _) (x : ℕ) (v : Value) (new : _). Unit {0}) x (after_op o.1 s).env a mid → (new : Values) × Keeps HasOneMore x (after_op o.1 s).env old new
    go None same = (old, refl)
    go (Some x) (v, there, u) = (insert old x v, (v, there, refl))

-- the values at the end are those that were given, over those at the beginning
pub end_of : {K : Type 0} (txn : ℕ) (code : Code) (env : Values) (base : Tables) (begun : K) (frame : Frame K)
    → IsOutcomeOver (λ (old : K) (x : ℕ) (v : Value) (new : K). Unit {0}) txn code env base begun frame → IsEndOver txn code env base frame.writes.items frame.env frame.note
end_of txn code env base begun frame runs =
    let given = given_of (code_ops code) (state_over env base) begun frame.outs runs.kept empty in
    let all = all_kept (code_ops code) (state_over env base) empty given.0 given.1 in
    record {
      outs = given.0;
      value = record {
        rows = ap (λ (s : State). s.tables) runs.state;
        cells = runs.changed;
        vars = λ y. all.vars y ∙ ap (λ (o : Option Value). give_value (code_ops code) (state_over env base) y || is_some o) (none_there y) ∙ or-none (give_value (code_ops code) (state_over env base) y);
        values = all.values (λ y w e. let wrong : None ≡ Some w = sym (none_there y) ∙ e in cc);
        note_is = runs.note;
      };
      all_are = ap (λ (s : State). s.env) runs.state;
    }
