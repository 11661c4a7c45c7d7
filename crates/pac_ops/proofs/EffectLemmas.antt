-- One operation: its form, and what it depends on.
use Rattle.std.proofs.Common.{◌≡◌, ℕ, Bool, true, false, cond, ◌&&◌, List, [], ◌∷◌, refl, sym, ap, ap₂, ◌∙◌, true≢false, Option, Some, None, Result, Ok, Err, ◌==◌, unwrap_or}
use Rattle.std.specs.Prelude.{slice_get}
use Rattle.std.specs.Option.{option_map}
use Rattle.std.specs.FinMap.{get}
use Rattle.pac_value.specs.declared.values.Ty.{Ty}
use Rattle.pac_value.specs.declared.values.Value.{Value}
use Rattle.pac_value.specs.declared.values.Value.TheVariants.{Int, Text, Bool as Truth}
use Rattle.pac_value.specs.declared.expr.Expr.{Expr}
use Rattle.pac_value.specs.declared.expr.Trap.{Trap}
use Rattle.pac_value.specs.Values.{as_key}
use Rattle.pac_value.specs.Expressions.{Values, value, value_step, joined, negated, ◌>>=◌}
use Rattle.pac_value.specs.State.{Cell, RowValues, Tables}
use Rattle.pac_value.proofs.ByForms.{by_forms, fold-Lit, fold-Var, fold-Bin, fold-Not}
use Rattle.pac_ops.specs.declared.reason.Reason.{Reason}
use Rattle.pac_ops.specs.declared.program.FlatOp.{FlatOp}
use Rattle.pac_ops.specs.declared.program.OpKind.{OpKind}
use Rattle.pac_ops.specs.declared.program.OpKind.TheVariants.{Let, Cond, Read, Has, Put, SetCol, Delete, AbortIf}
use Rattle.pac_ops.specs.Reasons.{or_abort}
use Rattle.pac_ops.specs.Uses.{use_step, expr_uses, exprs_use, conds_use, kind_uses, op_uses, defined_variable, accessed_table, modifies}
use Rattle.pac_ops.specs.Operations.{State, cell_at, touched, Effect, Nothing, Gives, Leaves, values, replaced, unless_asked, effect, row_at, with_effect, done}
use Rattle.pac_ops.specs.Flat.{is_as_asked, all_hold, default_of, given_default, with_default, done_or_default, reason_in, flat_done, flat_reason}
use Rattle.pac_ops.specs.Effects.{target_of, cell_in, flat_cell, Same, FlatEffect, nothing, default_in, done_effect, effect_or_default, kind_effect, flat_effect, given, changed, with_flat}
use Rattle.pac_base.proofs.TestLemmas.{or_left, or_right, eq_self}

-- ---- the form

default_law : (vars : List Ty) (o : Option ℕ) (s : State) → with_default vars o s ≡ record { env = given (default_in vars o) s.env; tables = s.tables }
default_law vars None s = refl
default_law vars (Some x) s = go (slice_get vars x)
  where
    go : (ty : Option Ty) → given_default x ty s ≡ record { env = given (option_map (λ ty. (x, default_of ty)) ty) s.env; tables = s.tables }
    go None = refl
    go (Some ty) = refl

same_left : (cell : Option Cell) (tables : Tables) → changed cell Same tables ≡ tables
same_left None tables = refl
same_left (Some cell) tables = refl

effect_law : (cell : Option Cell) (e : Effect) (s : State) → with_effect cell e s ≡ with_flat cell (done_effect e) s
effect_law None Nothing s = refl
effect_law None (Gives x v) s = refl
effect_law None (Leaves row) s = refl
effect_law (Some cell) Nothing s = refl
effect_law (Some cell) (Gives x v) s = refl
effect_law (Some cell) (Leaves row) s = refl

module _ (vars : List Ty) where
  kind_law : (kind : OpKind) (s : State) → done_or_default vars kind s (done kind s) ≡ with_flat (cell_in (touched kind s.env)) (kind_effect vars kind s.env (row_at s.tables (cell_in (touched kind s.env)))) s
  kind_law kind s = go (touched kind s.env)
    where
      settled : (cell : Option Cell) (r : Result Effect Reason) → done_or_default vars kind s (r >>= λ e. Ok (with_effect cell e s)) ≡ with_flat cell (effect_or_default vars (defined_variable kind) r) s
      settled cell (Ok e) = effect_law cell e s
      settled cell (Err reason) = default_law vars (defined_variable kind) s ∙ (λ i. record { env = given (default_in vars (defined_variable kind)) s.env; tables = sym (same_left cell s.tables) i })

      go : (r : Result (Option Cell) Trap) → done_or_default vars kind s (or_abort r >>= λ cell. effect kind s.env (row_at s.tables cell) >>= λ e. Ok (with_effect cell e s))
          ≡ with_flat (cell_in r) (effect_or_default vars (defined_variable kind) (or_abort r >>= λ cell. effect kind s.env (row_at s.tables (cell_in r)))) s
      go (Ok cell) = settled cell (effect kind s.env (row_at s.tables cell))
      go (Err trap) = default_law vars (defined_variable kind) s

  -- an operation has its effect on the cell that it touches
  pub form : (op : FlatOp) (s : State) → flat_done vars op s ≡ with_flat (flat_cell op s.env) (flat_effect vars op s.env (row_at s.tables (flat_cell op s.env))) s
  form op s = go (all_hold s.env op.conds)
    where
      go : (b : Bool) → cond b (done_or_default vars op.kind s (done op.kind s)) s
          ≡ with_flat (cond b (cell_in (touched op.kind s.env)) None) (cond b (kind_effect vars op.kind s.env (row_at s.tables (cond b (cell_in (touched op.kind s.env)) None))) nothing) s
      go true = kind_law op.kind s
      go false = refl

  reason_law : (kind : OpKind) (s : State) → reason_in (done kind s) ≡ (kind_effect vars kind s.env (row_at s.tables (cell_in (touched kind s.env)))).reason
  reason_law kind s = go (touched kind s.env)
    where
      done_none : (e : Effect) → None ≡ (done_effect e).reason
      done_none Nothing = refl
      done_none (Gives x v) = refl
      done_none (Leaves row) = refl

      settled : (cell : Option Cell) (r : Result Effect Reason) → reason_in (r >>= λ e. Ok (with_effect cell e s)) ≡ (effect_or_default vars (defined_variable kind) r).reason
      settled cell (Ok e) = done_none e
      settled cell (Err reason) = refl

      go : (r : Result (Option Cell) Trap) → reason_in (or_abort r >>= λ cell. effect kind s.env (row_at s.tables cell) >>= λ e. Ok (with_effect cell e s))
          ≡ (effect_or_default vars (defined_variable kind) (or_abort r >>= λ cell. effect kind s.env (row_at s.tables (cell_in r)))).reason
      go (Ok cell) = settled cell (effect kind s.env (row_at s.tables cell))
      go (Err trap) = refl

  -- why it would abort is in its effect
  pub reason_form : (op : FlatOp) (s : State) → flat_reason op s ≡ (flat_effect vars op s.env (row_at s.tables (flat_cell op s.env))).reason
  reason_form op s = go (all_hold s.env op.conds)
    where
      go : (b : Bool) → cond b (reason_in (done op.kind s)) None
          ≡ (cond b (kind_effect vars op.kind s.env (row_at s.tables (cond b (cell_in (touched op.kind s.env)) None))) nothing).reason
      go true = reason_law op.kind s
      go false = refl

-- ---- what is used

abbrev pub SameOn : (ℕ → Bool) → Values → Values → Type 0
SameOn u env env' = (x : ℕ) → u x ≡ true → get env x ≡ get env' x

pub value-alike : (e : Expr) (env env' : Values) → SameOn (λ x. expr_uses x e) env env' → value e env ≡ value e env'
value-alike = by_forms (λ e. (env env' : Values) → SameOn (λ x. expr_uses x e) env env' → value e env ≡ value e env')
    (λ v env env' same. fold-Lit (Result Value Trap) (value_step env) v ∙ sym (fold-Lit (Result Value Trap) (value_step env') v))
    (λ y env env' same. fold-Var (Result Value Trap) (value_step env) y
    ∙ ap (λ (o : Option Value). Ok (unwrap_or o (Truth false))) (same y (fold-Var Bool (use_step y) y ∙ eq_self y))
    ∙ sym (fold-Var (Result Value Trap) (value_step env') y))
    (λ op l r p q env env' same. fold-Bin (Result Value Trap) (value_step env) op l r
    ∙ ap₂ (λ (a b : Result Value Trap). a >>= λ v. joined op v b)
    (p env env' (λ x u. same x (fold-Bin Bool (use_step x) op l r ∙ or_left (expr_uses x l) (expr_uses x r) u)))
    (q env env' (λ x u. same x (fold-Bin Bool (use_step x) op l r ∙ or_right (expr_uses x l) (expr_uses x r) u)))
    ∙ sym (fold-Bin (Result Value Trap) (value_step env') op l r))
    (λ e p env env' same. fold-Not (Result Value Trap) (value_step env) e
    ∙ ap (λ (a : Result Value Trap). a >>= λ v. Ok (negated v)) (p env env' (λ x u. same x (fold-Not Bool (use_step x) e ∙ u)))
    ∙ sym (fold-Not (Result Value Trap) (value_step env') e))

pub values-alike : (es : List Expr) (env env' : Values) → SameOn (λ x. exprs_use x es) env env' → values es env ≡ values es env'
values-alike [] env env' same = refl
values-alike (e ∷ es) env env' same =
    ap₂ (λ (a : Result Value Trap) (b : Result RowValues Trap). a >>= λ v. b >>= λ vs. Ok (v ∷ vs))
    (value-alike e env env' (λ x u. same x (or_left (expr_uses x e) (exprs_use x es) u)))
    (values-alike es env env' (λ x u. same x (or_right (expr_uses x e) (exprs_use x es) u)))

pub holds-alike : (cs : List (ℕ × Bool)) (env env' : Values) → SameOn (λ x. conds_use x cs) env env' → all_hold env cs ≡ all_hold env' cs
holds-alike [] env env' same = refl
holds-alike (c ∷ cs) env env' same =
    ap₂ ◌&&◌ (ap (is_as_asked c.1) (same c.0 (or_left (c.0 == c.0) (conds_use c.0 cs) (eq_self c.0)))) (holds-alike cs env env' (λ x u. same x (or_right (c.0 == x) (conds_use x cs) u)))

-- the cell at the location that an operation names
abbrev pub named : Option (ℕ × Expr) → Values → Result (Option Cell) Trap
named None env = Ok None
named (Some n) env = cell_at n.0 n.1 env

pub touched-named : (kind : OpKind) (env : Values) → touched kind env ≡ named (target_of kind) env
touched-named (Let x e) env = refl
touched-named (Cond x e) env = refl
touched-named (Read x t k c d) env = refl
touched-named (Has x t k) env = refl
touched-named (Put t k es) env = refl
touched-named (SetCol t k c e) env = refl
touched-named (Delete t k) env = refl
touched-named (AbortIf e) env = refl

pub accessed-named : (kind : OpKind) → accessed_table kind ≡ option_map (λ n. n.0) (target_of kind)
accessed-named (Let x e) = refl
accessed-named (Cond x e) = refl
accessed-named (Read x t k c d) = refl
accessed-named (Has x t k) = refl
accessed-named (Put t k es) = refl
accessed-named (SetCol t k c e) = refl
accessed-named (Delete t k) = refl
accessed-named (AbortIf e) = refl

-- the key is among what the operation uses
abbrev pub key_uses : Option (ℕ × Expr) → ℕ → Bool
key_uses None x = false
key_uses (Some n) x = expr_uses x n.1

pub key-kind : (k : OpKind) (x : ℕ) → key_uses (target_of k) x ≡ true → kind_uses x k ≡ true
key-kind (Let y e) x u = absurd (true≢false (sym u))
key-kind (Cond y e) x u = absurd (true≢false (sym u))
key-kind (Read y t k c d) x u = u
key-kind (Has y t k) x u = u
key-kind (Put t k es) x u = or_left (expr_uses x k) (exprs_use x es) u
key-kind (SetCol t k c e) x u = or_left (expr_uses x k) (expr_uses x e) u
key-kind (Delete t k) x u = u
key-kind (AbortIf e) x u = absurd (true≢false (sym u))

pub named-alike : (n : Option (ℕ × Expr)) (env env' : Values) → SameOn (key_uses n) env env' → named n env ≡ named n env'
named-alike None env env' same = refl
named-alike (Some n) env env' same = ap (λ (r : Result Value Trap). r >>= λ v. Ok (Some (n.0, as_key v))) (value-alike n.1 env env' same)

pub touched-alike : (kind : OpKind) (env env' : Values) → SameOn (λ x. kind_uses x kind) env env' → touched kind env ≡ touched kind env'
touched-alike kind env env' same =
    touched-named kind env ∙ named-alike (target_of kind) env env' (λ x u. same x (key-kind kind x u)) ∙ sym (touched-named kind env')

pub effect-alike : (kind : OpKind) (env env' : Values) (row : Option RowValues) → SameOn (λ x. kind_uses x kind) env env' → effect kind env row ≡ effect kind env' row
effect-alike (Let x e) env env' row same = ap (λ (r : Result Value Trap). or_abort r >>= λ v. Ok (Gives x v)) (value-alike e env env' same)
effect-alike (Cond x e) env env' row same = ap (λ (r : Result Value Trap). or_abort r >>= λ v. Ok (Gives x v)) (value-alike e env env' same)
effect-alike (Read x t k c d) env env' row same = refl
effect-alike (Has x t k) env env' row same = refl
effect-alike (Put t k es) env env' row same = ap (λ (r : Result RowValues Trap). or_abort r >>= λ vs. Ok (Leaves (Some vs))) (values-alike es env env' (λ x u. same x (or_right (expr_uses x k) (exprs_use x es) u)))
effect-alike (SetCol t k c e) env env' row same = ap (λ (r : Result Value Trap). or_abort r >>= λ v. replaced row c v >>= λ vs. Ok (Leaves (Some vs))) (value-alike e env env' (λ x u. same x (or_right (expr_uses x k) (expr_uses x e) u)))
effect-alike (Delete t k) env env' row same = refl
effect-alike (AbortIf e) env env' row same = ap (λ (r : Result Value Trap). or_abort r >>= λ v. unless_asked v) (value-alike e env env' same)

abbrev pub op_reads : FlatOp → ℕ → Bool
op_reads op x = op_uses x op

-- the cell and the effect of a flat operation depend on the variables that it uses, and the effect on its row
pub flat_cell-alike : (op : FlatOp) (env env' : Values) → SameOn (op_reads op) env env' → flat_cell op env ≡ flat_cell op env'
flat_cell-alike op env env' same =
    ap₂ (λ b (r : Result (Option Cell) Trap). cond b (cell_in r) None)
    (holds-alike op.conds env env' (λ x u. same x (or_left (conds_use x op.conds) (kind_uses x op.kind) u)))
    (touched-alike op.kind env env' (λ x u. same x (or_right (conds_use x op.conds) (kind_uses x op.kind) u)))

pub flat_effect-alike : (vars : List Ty) (op : FlatOp) (env env' : Values) (row : Option RowValues) → SameOn (op_reads op) env env' → flat_effect vars op env row ≡ flat_effect vars op env' row
flat_effect-alike vars op env env' row same = λ i. cond (holds i) (effect_or_default vars (defined_variable op.kind) (or_abort (touches i) >>= λ cell. effects i)) nothing
  where
    kind_same : SameOn (λ x. kind_uses x op.kind) env env'
    kind_same x u = same x (or_right (conds_use x op.conds) (kind_uses x op.kind) u)

    holds : all_hold env op.conds ≡ all_hold env' op.conds
    holds = holds-alike op.conds env env' (λ x u. same x (or_left (conds_use x op.conds) (kind_uses x op.kind) u))

    touches : touched op.kind env ≡ touched op.kind env'
    touches = touched-alike op.kind env env' kind_same

    effects : effect op.kind env row ≡ effect op.kind env' row
    effects = effect-alike op.kind env env' row kind_same

-- ---- what an effect may be

-- a fact of an effect, of the default and of each done effect that a result may be
module _ (vars : List Ty) (x : Option ℕ) (R : FlatEffect → Type 0) (aborted : (reason : Reason) → R (record { gives = default_in vars x; change = Same; reason = Some reason })) where
  pub then_law : {A : Type 0} (r : Result A Reason) (f : A → Result Effect Reason) → ((a : A) → R (effect_or_default vars x (f a))) → R (effect_or_default vars x (r >>= f))
  then_law (Ok a) f h = h a
  then_law (Err reason) f h = aborted reason

  asked_law : R nothing → (v : Value) → R (effect_or_default vars x (unless_asked v))
  asked_law h (Truth true) = aborted _
  asked_law h (Truth false) = h
  asked_law h (Int n) = h
  asked_law h (Text t) = h

Unchanging : FlatEffect → Type 0
Unchanging e = e.change ≡ Same

-- an operation that doesn't modify changes no row
kind_same_row : (vars : List Ty) (k : OpKind) (env : Values) (row : Option RowValues) → modifies k ≡ false → Unchanging (effect_or_default vars (defined_variable k) (effect k env row))
unfolding Unchanging
kind_same_row vars (Let x e) env row m = then_law vars (Some x) Unchanging (λ r. refl) (or_abort (value e env)) _ (λ v. refl)
kind_same_row vars (Cond x e) env row m = then_law vars (Some x) Unchanging (λ r. refl) (or_abort (value e env)) _ (λ v. refl)
kind_same_row vars (Read x t k c d) env row m = refl
kind_same_row vars (Has x t k) env row m = refl
kind_same_row vars (Put t k es) env row m = absurd (true≢false m)
kind_same_row vars (SetCol t k c e) env row m = absurd (true≢false m)
kind_same_row vars (Delete t k) env row m = absurd (true≢false m)
kind_same_row vars (AbortIf e) env row m = then_law vars None Unchanging (λ r. refl) (or_abort (value e env)) _ (λ v. asked_law vars None Unchanging (λ r. refl) refl v)

pub flat_same_row : (vars : List Ty) (op : FlatOp) (env : Values) (row : Option RowValues) → modifies op.kind ≡ false → (flat_effect vars op env row).change ≡ Same
unfolding Unchanging
flat_same_row vars op env row m = go (all_hold env op.conds)
  where
    go : (b : Bool) → (cond b (kind_effect vars op.kind env row) nothing).change ≡ Same
    go true = then_law vars (defined_variable op.kind) Unchanging (λ r. refl) (or_abort (touched op.kind env)) _ (λ cell. kind_same_row vars op.kind env row m)
    go false = refl

-- an effect gives a value to this variable or to none
GivesOnly : Option ℕ → FlatEffect → Type 0
GivesOnly x e = (g : ℕ × Value) → e.gives ≡ Some g → x ≡ Some g.0

first_of_given : (x : ℕ) (v : Value) (g : ℕ × Value) → ◌≡◌ {A = Option (ℕ × Value)} (Some (x, v)) (Some g) → Some x ≡ Some g.0
first_of_given x v g e = ap (λ (o : Option (ℕ × Value)). option_map (λ p. p.0) o) e

default_only : (vars : List Ty) (x : Option ℕ) (reason : Reason) → GivesOnly x (record { gives = default_in vars x; change = Same; reason = Some reason })
unfolding GivesOnly
default_only vars None reason g e = absurd cc
default_only vars (Some x) reason g e = go (slice_get vars x) e
  where
    go : (o : Option Ty) → option_map (λ ty. (x, default_of ty)) o ≡ Some g → Some x ≡ Some g.0
    go None e = absurd cc
    go (Some ty) e = first_of_given x (default_of ty) g e

none_given : {A : Type 0} (g : ℕ × Value) → ◌≡◌ {A = Option (ℕ × Value)} None (Some g) → A
none_given g e = absurd cc

kind_gives : (vars : List Ty) (k : OpKind) (env : Values) (row : Option RowValues) → GivesOnly (defined_variable k) (effect_or_default vars (defined_variable k) (effect k env row))
unfolding GivesOnly
kind_gives vars (Let x e) env row = then_law vars (Some x) (GivesOnly (Some x)) (default_only vars (Some x)) (or_abort (value e env)) _ (λ v g h. first_of_given x v g h)
kind_gives vars (Cond x e) env row = then_law vars (Some x) (GivesOnly (Some x)) (default_only vars (Some x)) (or_abort (value e env)) _ (λ v g h. first_of_given x v g h)
kind_gives vars (Read x t k c d) env row = λ g h. first_of_given x _ g h
kind_gives vars (Has x t k) env row = λ g h. first_of_given x _ g h
kind_gives vars (Put t k es) env row = then_law vars None (GivesOnly None) (default_only vars None) (or_abort (values es env)) _ (λ vs g h. none_given g h)
kind_gives vars (SetCol t k c e) env row = then_law vars None (GivesOnly None) (default_only vars None) (or_abort (value e env)) _ (λ v. then_law vars None (GivesOnly None) (default_only vars None) (replaced row c v) _ (λ vs g h. none_given g h))
kind_gives vars (Delete t k) env row = λ g h. none_given g h
kind_gives vars (AbortIf e) env row = then_law vars None (GivesOnly None) (default_only vars None) (or_abort (value e env)) _ (λ v. asked_law vars None (GivesOnly None) (default_only vars None) (λ g h. none_given g h) v)

pub flat_gives : (vars : List Ty) (op : FlatOp) (env : Values) (row : Option RowValues) (g : ℕ × Value) → (flat_effect vars op env row).gives ≡ Some g → defined_variable op.kind ≡ Some g.0
unfolding GivesOnly
flat_gives vars op env row = go (all_hold env op.conds)
  where
    go : (b : Bool) (g : ℕ × Value) → (cond b (kind_effect vars op.kind env row) nothing).gives ≡ Some g → defined_variable op.kind ≡ Some g.0
    go true = then_law vars (defined_variable op.kind) (GivesOnly (defined_variable op.kind)) (default_only vars (defined_variable op.kind)) (or_abort (touched op.kind env)) _ (λ cell. kind_gives vars op.kind env row)
    go false = λ g h. none_given g h

-- what an operation touches where its conditions hold
pub cell-holds : (op : FlatOp) (env : Values) (a : Cell) → flat_cell op env ≡ Some a → (all_hold env op.conds ≡ true) × (cell_in (named (target_of op.kind) env) ≡ Some a)
cell-holds op env a e = go (all_hold env op.conds) refl e
  where
    go : (b : Bool) → all_hold env op.conds ≡ b → cond b (cell_in (touched op.kind env)) None ≡ Some a → (all_hold env op.conds ≡ true) × (cell_in (named (target_of op.kind) env) ≡ Some a)
    go true h p = (h, ap cell_in (sym (touched-named op.kind env)) ∙ p)
    go false h p = absurd cc

pub named-table : (n : Option (ℕ × Expr)) (env : Values) (a : Cell) → cell_in (named n env) ≡ Some a → option_map (λ m. m.0) n ≡ Some a.0
named-table None env a e = absurd cc
named-table (Some n) env a e = go (value n.1 env) e
  where
    go : (r : Result Value Trap) → cell_in (r >>= λ v. Ok (Some (n.0, as_key v))) ≡ Some a → Some n.0 ≡ Some a.0
    go (Ok v) p = ap (λ (o : Option Cell). option_map (λ c. c.0) o) p
    go (Err trap) p = absurd cc

-- the cell is in the table that the operation accesses
pub cell-table : (op : FlatOp) (env : Values) (a : Cell) → flat_cell op env ≡ Some a → accessed_table op.kind ≡ Some a.0
cell-table op env a e = accessed-named op.kind ∙ named-table (target_of op.kind) env a (cell-holds op env a e).1
