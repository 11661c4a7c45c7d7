-- One operation of a piece: from what its effect made of the frame to what the operation means.
use Rattle.std.proofs.Common.{◌≡◌, ℕ, Bool, true, false, cond, ◌&&◌, ◌||◌, Option, Some, None, Result, Ok, Err, refl, sym, ap, ◌∙◌, subst, inl, inr}
use Rattle.std.specs.Prelude.{IsSome, OnOk, is_ok}
use Rattle.std.specs.FinMap.{get}
use Rattle.pac_value.specs.declared.values.Value.{Value}
use Rattle.pac_value.specs.declared.values.Value.TheVariants.{Int, Text, Bool as Truth}
use Rattle.pac_value.specs.declared.expr.Expr.{Expr}
use Rattle.pac_value.specs.declared.expr.Trap.{Trap}
use Rattle.pac_value.specs.Expressions.{Values, type_in, types_of, value, ◌>>=◌}
use Rattle.pac_value.specs.State.{Cell, RowValues, Tables}
use Rattle.pac_ops.specs.declared.reason.Reason.{Reason}
use Rattle.pac_ops.specs.declared.program.OpKind.{OpKind}
use Rattle.pac_ops.specs.declared.program.OpKind.TheVariants.{Let, Cond, Read, Has, Put, SetCol, Delete, AbortIf}
use Rattle.pac_ops.specs.Reasons.{or_abort, reason_of}
use Rattle.pac_ops.specs.Notes.{note_at, first_note, least}
use Rattle.pac_ops.specs.Uses.{defined_variable, modifies}
use Rattle.pac_ops.specs.Operations.{Effect, Nothing, Gives, Leaves, values, replaced, unless_asked, touched, effect, row_at, with_effect, define, done}
use Rattle.pac_ops.specs.Flat.{all_hold, default_of, reason_in}
use Rattle.pac_ops.specs.Defaults.{trapped_type}
use Rattle.pac_ops.specs.Effects.{NumberedOp, cell_in}
use Rattle.pac_ops.proofs.StateLemmas.{get-given, least_none}
use Rattle.pac_base.proofs.TestLemmas.{eq_self}
use Rattle.pac_tables.specs.Written.{IsOnce, is_written, written}
use Rattle.pac_piece.specs.declared.frame.Frame.{Frame}
use Rattle.pac_piece.specs.Effects.{CanDo}
use Rattle.pac_piece.specs.Frames.{state_seen, defaulted, done_or_defaulted, cell_changed, is_cell, Given, Keeps, StepsTo}
use Rattle.pac_piece.specs.Steps.{cell_left, var_left, Applies, GivesUp, GivesValueOf}

pub on_ok : {A E P Q : Type 0} (r : Result A E) → (P → Q) → OnOk r P → OnOk r Q
on_ok (Ok x) f p = f p
on_ok (Err e) f p = p

-- ---- what the effect of an operation of a kind may be

abbrev pub IsOfKind : OpKind → Effect → Type 0
IsOfKind kind e = (var_left e ≡ defined_variable kind) × ((cell : Option Cell) → cell_left cell e ≡ cond (modifies kind && true) cell None)

then_of : {A : Type 0} (kind : OpKind) (e : Effect) (r : Result A Reason) (f : A → Result Effect Reason) → ((a : A) → f a ≡ Ok e → IsOfKind kind e) → (r >>= f) ≡ Ok e → IsOfKind kind e
then_of kind e (Ok a) f h is = h a is
then_of kind e (Err reason) f h is = cc

ok_of : (kind : OpKind) (e d : Effect) → IsOfKind kind d → ◌≡◌ {A = Result Effect Reason} (Ok d) (Ok e) → IsOfKind kind e
ok_of kind e d h is = let same : d ≡ e = cc in subst (λ (x : Effect). IsOfKind kind x) same h

pub effect_kind : (kind : OpKind) (env : Values) (row : Option RowValues) (e : Effect) → effect kind env row ≡ Ok e → IsOfKind kind e
effect_kind (Let x ex) env row e is = then_of (Let x ex) e (or_abort (value ex env)) (λ v. Ok (Gives x v)) (λ v h. ok_of (Let x ex) e (Gives x v) (refl, λ cell. refl) h) is
effect_kind (Cond x ex) env row e is = then_of (Cond x ex) e (or_abort (value ex env)) (λ v. Ok (Gives x v)) (λ v h. ok_of (Cond x ex) e (Gives x v) (refl, λ cell. refl) h) is
effect_kind (Read x t k c d) env row e is = ok_of (Read x t k c d) e _ (refl, λ cell. refl) is
effect_kind (Has x t k) env row e is = ok_of (Has x t k) e _ (refl, λ cell. refl) is
effect_kind (Put t k es) env row e is = then_of (Put t k es) e (or_abort (values es env)) (λ vs. Ok (Leaves (Some vs))) (λ vs h. ok_of (Put t k es) e (Leaves (Some vs)) (refl, λ cell. refl) h) is
effect_kind (SetCol t k c ex) env row e is = then_of (SetCol t k c ex) e (or_abort (value ex env)) (λ v. replaced row c v >>= λ vs. Ok (Leaves (Some vs)))
    (λ v h. then_of (SetCol t k c ex) e (replaced row c v) (λ vs. Ok (Leaves (Some vs))) (λ vs h. ok_of (SetCol t k c ex) e (Leaves (Some vs)) (refl, λ cell. refl) h) h) is
effect_kind (Delete t k) env row e is = ok_of (Delete t k) e (Leaves None) (refl, λ cell. refl) is
effect_kind (AbortIf ex) env row e is = then_of (AbortIf ex) e (or_abort (value ex env)) unless_asked (λ v h. asked v h) is
  where
    asked : (v : Value) → unless_asked v ≡ Ok e → IsOfKind (AbortIf ex) e
    asked (Int n) h = ok_of (AbortIf ex) e Nothing (refl, λ cell. refl) h
    asked (Text t) h = ok_of (AbortIf ex) e Nothing (refl, λ cell. refl) h
    asked (Truth true) h = cc
    asked (Truth false) h = ok_of (AbortIf ex) e Nothing (refl, λ cell. refl) h

-- what gives a variable the value of an expression has a type
pub can_value : (env : Values) (kind : OpKind) (var : ℕ) (e : Expr) → GivesValueOf kind var e → CanDo env kind → IsSome (type_in (types_of env) e)
can_value env kind var e (inl same) can = subst (CanDo env) same can
can_value env kind var e (inr same) can = subst (CanDo env) same can

-- ---- a variable gets a value

module _ {K : Type 0} (Adds : K → ℕ → Value → K → Type 0) where
  module _ (var : ℕ) (v : Value) (old new : Frame K) (g : Given Adds var v old new) where
    given_kept : Keeps Adds (Some var) new.env old.outs new.outs
    given_kept = (v, ap (λ m. get m var) g.env ∙ get-given (Some (var, v)) old.env var ∙ ap (λ b. cond b (Some v) (get old.env var)) (eq_self var), g.outs)

    given_state : (base : Tables) → state_seen base new ≡ define var v (state_seen base old)
    given_state base i = record { env = g.env i; tables = written base (g.writes i) }

  pub applies_gives : (var : ℕ) (v : Value) (cell : Option Cell) (old new : Frame K) → IsOnce old.writes.items → Given Adds var v old new → Applies Adds cell (Gives var v) old new
  applies_gives var v cell old new once g = record {
    state = given_state var v old new g;
    note = g.note;
    changed = λ a. ap (λ ws. is_written ws a) g.writes;
    kept = given_kept var v old new g;
    once = subst (λ ws. IsOnce ws) (sym g.writes) once;
  }

  pub gives_up : (txn : ℕ) (o : NumberedOp) (reason : Reason) (old mid new : Frame K) (var : ℕ) (v : Value)
      → mid.env ≡ old.env → mid.outs ≡ old.outs → mid.writes.items ≡ old.writes.items → mid.note ≡ least old.note (Some (record { txn = txn; op = o.0; reason = reason }))
      → defined_variable o.1.kind ≡ Some var → v ≡ default_of (trapped_type o.1.kind) → Given Adds var v mid new → GivesUp Adds txn o reason old new
  gives_up txn o reason old mid new var v env outs writes note is_var_ is_default g = record {
    state = λ base. given_state var v mid new g base
        ∙ (λ i. define var (is_default i) (record { env = env i; tables = written base (writes i) }))
        ∙ ap (λ x. defaulted x (trapped_type o.1.kind) (state_seen base old)) (sym is_var_);
    note = g.note ∙ note;
    changed = g.writes ∙ writes;
    kept = subst (λ (x : Option ℕ). Keeps Adds x new.env old.outs new.outs) (sym is_var_) (subst (λ (k : K). Keeps Adds (Some var) new.env k new.outs) outs (given_kept var v mid new g));
  }

  -- ---- an operation that has an effect

  pub stepped : (base : Tables) (txn : ℕ) (o : NumberedOp) (old new : Frame K) (cell : Option Cell) (e : Effect) → all_hold old.env o.1.conds ≡ true
      → touched o.1.kind old.env ≡ Ok cell → effect o.1.kind old.env (row_at (state_seen base old).tables cell) ≡ Ok e → Applies Adds cell e old new → StepsTo Adds base txn o old new
  stepped base txn o old new cell e hold touch has applies = record {
    state = applies.state base ∙ sym (ap (λ b. cond b (done_or_defaulted o.1.kind (state_seen base old) (done o.1.kind (state_seen base old))) (state_seen base old)) hold ∙ ap (done_or_defaulted o.1.kind (state_seen base old)) is_done);
    note = applies.note ∙ sym (least_none old.note) ∙ sym (ap (λ r. least old.note (first_note (note_at txn o.0 r))) (ap (λ b. cond b (reason_in (done o.1.kind (state_seen base old))) None) hold ∙ ap reason_in is_done));
    changed = λ a. applies.changed a ∙ ap (λ c. is_cell a c || is_written old.writes.items a) (kind.1 cell ∙ sym changes);
    kept = subst (λ (x : Option ℕ). Keeps Adds x new.env old.outs new.outs) (kind.0 ∙ sym (ap (λ b. cond b (defined_variable o.1.kind) None) hold)) applies.kept;
    once = applies.once;
  }
    where
      is_done : done o.1.kind (state_seen base old) ≡ Ok (with_effect cell e (state_seen base old))
      is_done = ap (λ r. or_abort r >>= λ c. effect o.1.kind old.env (row_at (state_seen base old).tables c) >>= λ d. Ok (with_effect c d (state_seen base old))) touch
          ∙ ap (λ r. r >>= λ d. Ok (with_effect cell d (state_seen base old))) has

      kind : IsOfKind o.1.kind e
      kind = effect_kind o.1.kind old.env (row_at (state_seen base old).tables cell) e has

      changes : cell_changed o.1 (state_seen base old) ≡ cond (modifies o.1.kind && true) cell None
      changes =
          ap (λ r. cond (modifies o.1.kind && is_ok r) (cond (all_hold old.env o.1.conds) (cell_in (touched o.1.kind old.env)) None) None) is_done
          ∙ ap (λ b. cond (modifies o.1.kind && true) (cond b (cell_in (touched o.1.kind old.env)) None) None) hold
          ∙ ap (λ r. cond (modifies o.1.kind && true) (cell_in r) None) touch

  -- ---- an operation that gives a variable the value of an expression

  -- where it has one
  pub value_given : (base : Tables) (txn : ℕ) (o : NumberedOp) (old new : Frame K) (var : ℕ) (e : Expr) (v : Value) → GivesValueOf o.1.kind var e → all_hold old.env o.1.conds ≡ true → value e old.env ≡ Ok v
      → IsOnce old.writes.items → Given Adds var v old new → StepsTo Adds base txn o old new
  value_given base txn o old new var e v kind hold is once g = stepped base txn o old new None (Gives var v) hold (none kind) (has kind) (applies_gives var v None old new once g)
    where
      none : GivesValueOf o.1.kind var e → touched o.1.kind old.env ≡ Ok None
      none (inl same) = ap (λ k. touched k old.env) same
      none (inr same) = ap (λ k. touched k old.env) same

      has : GivesValueOf o.1.kind var e → effect o.1.kind old.env (row_at (state_seen base old).tables None) ≡ Ok (Gives var v)
      has (inl same) = ap (λ k. effect k old.env (row_at (state_seen base old).tables None)) same ∙ ap (λ r. or_abort r >>= λ w. Ok (Gives var w)) is
      has (inr same) = ap (λ k. effect k old.env (row_at (state_seen base old).tables None)) same ∙ ap (λ r. or_abort r >>= λ w. Ok (Gives var w)) is

  -- where it aborts
  pub value_traps : (base : Tables) (txn : ℕ) (o : NumberedOp) (old new : Frame K) (var : ℕ) (e : Expr) (trap : Trap) → GivesValueOf o.1.kind var e → all_hold old.env o.1.conds ≡ true → value e old.env ≡ Err trap
      → IsOnce old.writes.items → GivesUp Adds txn o (reason_of trap) old new → StepsTo Adds base txn o old new
  value_traps base txn o old new var e trap kind hold is once gives = record {
    state = gives.state base ∙ sym (ap (λ b. cond b (done_or_defaulted o.1.kind (state_seen base old) (done o.1.kind (state_seen base old))) (state_seen base old)) hold ∙ ap (done_or_defaulted o.1.kind (state_seen base old)) (fails kind));
    note = gives.note ∙ sym (ap (λ r. least old.note (first_note (note_at txn o.0 r))) (ap (λ b. cond b (reason_in (done o.1.kind (state_seen base old))) None) hold ∙ ap reason_in (fails kind)));
    changed = λ a. ap (λ ws. is_written ws a) gives.changed ∙ ap (λ c. is_cell a c || is_written old.writes.items a) (sym changes);
    kept = subst (λ (x : Option ℕ). Keeps Adds x new.env old.outs new.outs) (sym (ap (λ b. cond b (defined_variable o.1.kind) None) hold)) gives.kept;
    once = subst (λ ws. IsOnce ws) (sym gives.changed) once;
  }
    where
      fails : GivesValueOf o.1.kind var e → done o.1.kind (state_seen base old) ≡ Err (reason_of trap)
      fails (inl same) = ap (λ k. done k (state_seen base old)) same ∙ ap (λ r. (or_abort r >>= λ w. Ok (Gives var w)) >>= λ d. Ok (with_effect None d (state_seen base old))) is
      fails (inr same) = ap (λ k. done k (state_seen base old)) same ∙ ap (λ r. (or_abort r >>= λ w. Ok (Gives var w)) >>= λ d. Ok (with_effect None d (state_seen base old))) is

      go : (b : Bool) (c : Option Cell) → cond (b && false) c None ≡ None
      go true c = refl
      go false c = refl

      changes : cell_changed o.1 (state_seen base old) ≡ None
      changes = ap (λ r. cond (modifies o.1.kind && is_ok r) (cond (all_hold old.env o.1.conds) (cell_in (touched o.1.kind old.env)) None) None) (fails kind)
          ∙ go (modifies o.1.kind) (cond (all_hold old.env o.1.conds) (cell_in (touched o.1.kind old.env)) None)
