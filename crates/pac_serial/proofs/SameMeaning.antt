-- What statements do over values by the numbers of the text is what their steps do, but for the numbers of variables.
use Rattle.std.proofs.Common.{◌≡◌, ◌≢◌, ◌<◌, ◌≤◌, ℕ, suc, ◌+◌, ◌*◌, ◌==◌, ◌&&◌, ◌||◌, ℤ, Bool, true, false, cond, List, [], ◌∷◌, ◌++◌, length, get_or, map, Option, Some, None, Result, Ok, Err, is_some, OnOk, refl, sym, ap, subst, ◌∙◌, append_assoc, append-nil, arith}
use Rattle.std.specs.Prelude.{if◌then◌else◌, unwrap_or, slice_get}
use Rattle.std.specs.Cmp.{nat_cmp_total, unsigned_ties}
use Rattle.std.specs.FinMap.{get, insert, empty, get-insert}
use Rattle.std.specs.List.{AllByRecursion}
use Rattle.std.specs.Option.{option_map, option_and_then}
use Rattle.std.proofs.lemmas.Bool.Decides.{nat_tests}
use Rattle.std.proofs.lemmas.Option.{slice_get_within, slice_get-get_or}
use Rattle.std.proofs.lemmas.List.{length-map}
use Rattle.pac_value.specs.declared.values.Ty.{Ty}
use Rattle.pac_value.specs.declared.values.Ty.TheVariants.{Int as IntTy, Bool as BoolTy}
use Rattle.pac_value.specs.declared.values.Value.{Value}
use Rattle.pac_value.specs.declared.values.Value.TheVariants.{Int, Text, Bool as Truth}
use Rattle.pac_value.specs.declared.expr.Expr.{Expr, Lit, Var}
use Rattle.pac_value.specs.declared.expr.Trap.{Trap}
use Rattle.pac_value.specs.Expressions.{Values, type_in, type_step, operator_type, negated_type, value, value_step, joined, negated, ◌>>=◌}
use Rattle.pac_value.specs.Scopes.{Scope, with_var, is_bool, is_wanted, are_wanted, is_width}
use Rattle.pac_value.specs.State.{Cell, RowValues, Tables}
use Rattle.pac_value.specs.Values.{type_of, as_key}
use Rattle.pac_value.proofs.ByForms.{by_forms, fold-Lit, fold-Var, fold-Bin, fold-Not}
use Rattle.pac_ops.specs.declared.program.OpKind.{OpKind}
use Rattle.pac_ops.specs.declared.program.OpKind.TheVariants as kind
use Rattle.pac_ops.specs.declared.reason.Reason.{Reason}
use Rattle.pac_ops.specs.Operations.{State, opening, with_values, define, values, column_or, replaced, unless_asked, Gives, Leaves, with_effect, row_at, done}
use Rattle.pac_ops.specs.Reasons.{or_abort}
use Rattle.pac_ops.specs.Uses.{defined_variable}
use Rattle.pac_types.specs.declared.procedure.Proc.{Proc}
use Rattle.pac_types.specs.declared.statement.Stmt.{Stmt}
use Rattle.pac_types.specs.declared.table.Table.{Table}
use Rattle.pac_types.specs.Meaning.{Abort, at_operation, branch, step_count, runs, meaning}
use Rattle.pac_types.specs.Typing.{IsProc}
use Rattle.pac_types.specs.Fits.{FitParams}
use Rattle.pac_types.specs.Unrolled.{UnrolledSteps, End, Branch, turns, turn_numbers, renamed, renamed_step, renamed_kind, Point, with_next, with_turn, with_defined, Unrolling, all_after, in_steps, after_turns, in_turns, unroll_step, unrolling, beginning, unrolled}
use Rattle.pac_types.specs.Variables.{variables_step, stmt_variables, defined_variables}
use Rattle.pac_types.specs.WellFormed.{types, key_type, column_type, column_types, if_so, without, Check, any_defines, in_order, check_step, check, scope_of, scope_after_all}
use Rattle.pac_types.proofs.PartLemmas.{equal}
use Rattle.pac_types.proofs.RunsOnLemmas.{RunsOn, runs_on-parts, runs_on-proc, variable_list, variables-one, all_names-kept, turn_names-kept}
use Rattle.pac_types.proofs.StmtShapes.{form_of, is_test, IsOne, IsConditional, IsLoop, all_by_shape}
use Rattle.pac_types.proofs.UnrolledLemmas.{unrolling-one, length-ascending, next-grows, all_next-grows, all_steps-count}
use Rattle.pac_serial.specs.Writes.{if_well, cells_in, cells_put, cells_run}
use Rattle.pac_serial.specs.TextMeaning.{Code, run_codes, run_turns, code_cells, turn_cells, code_step, code, code_count, text_meaning, text_cells}
use Rattle.pac_serial.proofs.CodeLemmas.{code-one, count-all-operations}
use Rattle.pac_serial.proofs.OpeningLemmas.{argument-at}

-- ---- values of variables

insert-at : (env : Values) (x : ℕ) (v : Value) (y : ℕ) → get (insert env x v) y ≡ cond (y == x) (Some v) (get env y)
insert-at env x v y = get-insert nat_cmp_total env x v y ∙ ap (λ b. cond b (Some v) (get env y)) (sym (unsigned_ties y x))

itself : (n : ℕ) → (n == n) ≡ true
itself n = grind (arith, nat_tests)

apart : (y x : ℕ) → y ≢ x → (y == x) ≡ false
apart y x h = grind (arith, nat_tests)

insert-other : (env : Values) (x : ℕ) (v : Value) (y : ℕ) → y ≢ x → get (insert env x v) y ≡ get env y
insert-other env x v y h = insert-at env x v y ∙ ap (λ b. cond b (Some v) (get env y)) (apart y x h)

value-var : (env : Values) (y : ℕ) → value (Var y) env ≡ Ok (unwrap_or (get env y) (Truth false))
value-var env y = fold-Var (Result Value Trap) (value_step env) y

value-same : (env now : Values) (y : ℕ) → get now y ≡ get env y → value (Var y) now ≡ value (Var y) env
value-same env now y h = value-var now y ∙ ap (λ o. Ok (unwrap_or o (Truth false))) h ∙ sym (value-var env y)

-- the variables before a number have their values
abbrev pub Keeps : ℕ → Values → Values → Type 0
Keeps n env now = (z : ℕ) → z < n → get now z ≡ get env z

keeps-trans : (n : ℕ) (a b c : Values) → Keeps n a b → Keeps n b c → Keeps n a c
keeps-trans n a b c h g z lt = g z lt ∙ h z lt

keeps-insert : (n x : ℕ) (env : Values) (v : Value) → n ≤ x → Keeps n env (insert env x v)
keeps-insert n x env v le z lt = insert-other env x v z (λ e. let no_way : ⊥ = omega (arith, e, le, lt) in no_way)

-- an expression over variables before a number alone
abbrev pub Steady : ℕ → Expr → Type 0
Steady n e = (env now : Values) → Keeps n env now → value e now ≡ value e env

steady-var : (n k : ℕ) → k < n → Steady n (Var k)
steady-var n k lt env now h = value-same env now k (h k lt)

steady-lit : (n : ℕ) (v : Value) → Steady n (Lit v)
steady-lit n v env now h = fold-Lit (Result Value Trap) (value_step now) v ∙ sym (fold-Lit (Result Value Trap) (value_step env) v)

steady-more : (n m : ℕ) (e : Expr) → n ≤ m → Steady n e → Steady m e
steady-more n m e le h env now k = h env now (λ z lt. k z (omega (arith, lt, le)))

-- ---- what is visible

abbrev Visible : Scope → ℕ → Type 0
Visible f y = is_some (f y) ≡ true

abbrev Less : Scope → Scope → Type 0
Less f g = (y : ℕ) → Visible f y → Visible g y

abbrev Before : ℕ → Scope → Type 0
Before k f = (y : ℕ) → Visible f y → y < k

before-var : (k x : ℕ) (f : Scope) (ty : Ty) → x ≡ k → Before k f → Before (k + 1) (with_var f x ty)
before-var k x f ty is before y h = go (y == x) refl h
  where
    go : (b : Bool) → (y == x) ≡ b → is_some (if b then Some ty else f y) ≡ true → y < k + 1
    go true e h = let same : y ≡ x = equal y x e in omega (arith, same, is)
    go false e h = omega (arith, before y h)

without-less : (some : ℕ → Bool) (f : Scope) → Less (without some f) f
without-less some f y h = go (some y) h
  where
    go : (b : Bool) → is_some (if b then None else f y) ≡ true → is_some (f y) ≡ true
    go true h = absurd cc
    go false h = h

-- each variable of the text that is visible has the value of what it stands for, which is there already
record Pictures (f : Scope) (p : Point) (text own : Values) : Type 0 where
  values : (y : ℕ) → Visible f y → value (p.names y) own ≡ value (Var y) text
  steady : (y : ℕ) → Visible f y → Steady p.next (p.names y)

pictures-next : (f : Scope) (p : Point) (text own : Values) (x : ℕ) (ty : Ty) (v : Value) → Pictures f p text own → Pictures (with_var f x ty) (with_next x p) (insert text x v) (insert own p.next v)
pictures-next f p text own x ty v pic = record { values = λ y h. here y (y == x) refl h; steady = λ y h. there y (y == x) h }
  where
    now : Value → (env : Values) (n : ℕ) → value (Var n) (insert env n v) ≡ Ok v
    now w env n = value-var (insert env n v) n ∙ ap (λ o. Ok (unwrap_or o (Truth false))) (insert-at env n v n ∙ ap (λ b. cond b (Some v) (get env n)) (itself n))

    here : (y : ℕ) (b : Bool) → (y == x) ≡ b → is_some (if b then Some ty else f y) ≡ true → value (if b then Var p.next else p.names y) (insert own p.next v) ≡ value (Var y) (insert text x v)
    here y true e h = now v own p.next ∙ sym (now v text x) ∙ ap (λ z. value (Var z) (insert text x v)) (sym (equal y x e))
    here y false e h = pic.steady y h own (insert own p.next v) (keeps-insert p.next p.next own v (omega arith)) ∙ pic.values y h
        ∙ sym (value-same text (insert text x v) y (insert-at text x v y ∙ ap (λ b. cond b (Some v) (get text y)) e))

    there : (y : ℕ) (b : Bool) → is_some (if b then Some ty else f y) ≡ true → Steady (p.next + 1) (if b then Var p.next else p.names y)
    there y true h = steady-var (p.next + 1) p.next (omega arith)
    there y false h = steady-more p.next (p.next + 1) (p.names y) (omega arith) (pic.steady y h)

pictures-turn : (f : Scope) (p : Point) (text own : Values) (x : ℕ) (i : ℤ) → Pictures f p text own → Pictures (with_var f x IntTy) (with_turn x i p) (insert text x (Int i)) own
pictures-turn f p text own x i pic = record { values = λ y h. here y (y == x) refl h; steady = λ y h. there y (y == x) h }
  where
    here : (y : ℕ) (b : Bool) → (y == x) ≡ b → is_some (if b then Some IntTy else f y) ≡ true → value (if b then Lit (Int i) else p.names y) own ≡ value (Var y) (insert text x (Int i))
    here y true e h = fold-Lit (Result Value Trap) (value_step own) (Int i)
        ∙ sym (value-var (insert text x (Int i)) y ∙ ap (λ o. Ok (unwrap_or o (Truth false))) (insert-at text x (Int i) y ∙ ap (λ b. cond b (Some (Int i)) (get text y)) e))
    here y false e h = pic.values y h ∙ sym (value-same text (insert text x (Int i)) y (insert-at text x (Int i) y ∙ ap (λ b. cond b (Some (Int i)) (get text y)) e))

    there : (y : ℕ) (b : Bool) → is_some (if b then Some IntTy else f y) ≡ true → Steady p.next (if b then Lit (Int i) else p.names y)
    there y true h = steady-lit p.next (Int i)
    there y false h = pic.steady y h

-- later, where lower variables stand for the same and have their values
pictures-later : (f g : Scope) (p q : Point) (text own text' own' : Values) (k : ℕ) → Pictures f p text own → Less g f → Before k g → ((y : ℕ) → y < k → q.names y ≡ p.names y) → Keeps k text text' → Keeps p.next own own' → p.next ≤ q.next → Pictures g q text' own'
pictures-later f g p q text own text' own' k pic less before same text_keeps own_keeps up = record {
  values = λ y h. ap (λ e. value e own') (same y (before y h)) ∙ pic.steady y (less y h) own own' own_keeps ∙ pic.values y (less y h) ∙ sym (value-same text text' y (text_keeps y (before y h)));
  steady = λ y h. subst (Steady q.next) (sym (same y (before y h))) (steady-more p.next q.next (p.names y) up (pic.steady y (less y h)));
}

-- ---- expressions

bin_some : (k : Ty → Ty → Option Ty) (l r : Option Ty) → is_some (option_and_then (λ a. option_and_then (λ b. k a b) r) l) ≡ true → (is_some l ≡ true) × (is_some r ≡ true)
bin_some k None r h = absurd cc
bin_some k (Some a) None h = absurd cc
bin_some k (Some a) (Some b) h = (refl, refl)

not_some : (k : Ty → Option Ty) (o : Option Ty) → is_some (option_and_then k o) ≡ true → is_some o ≡ true
not_some k None h = h
not_some k (Some a) h = refl

module _ (f : Scope) (p : Point) (text own : Values) (pic : Pictures f p text own) where
  renamed-value : (e : Expr) → is_some (type_in f e) ≡ true → value (renamed p.names e) own ≡ value e text
  renamed-value = by_forms (λ e. is_some (type_in f e) ≡ true → value (renamed p.names e) own ≡ value e text)
      (λ v h. ap (λ z. value z own) (fold-Lit Expr (renamed_step p.names) v) ∙ fold-Lit (Result Value Trap) (value_step own) v ∙ sym (fold-Lit (Result Value Trap) (value_step text) v))
      (λ x h. ap (λ z. value z own) (fold-Var Expr (renamed_step p.names) x) ∙ pic.values x (ap is_some (sym (fold-Var (Option Ty) (type_step f) x)) ∙ h))
      (λ op l r a b h.
      let parts = bin_some (operator_type op) (type_in f l) (type_in f r) (ap is_some (sym (fold-Bin (Option Ty) (type_step f) op l r)) ∙ h) in
      ap (λ z. value z own) (fold-Bin Expr (renamed_step p.names) op l r) ∙ fold-Bin (Result Value Trap) (value_step own) op (renamed p.names l) (renamed p.names r)
      ∙ (λ i. a parts.0 i >>= λ v. joined op v (b parts.1 i)) ∙ sym (fold-Bin (Result Value Trap) (value_step text) op l r))
      (λ e a h. ap (λ z. value z own) (fold-Not Expr (renamed_step p.names) e) ∙ fold-Not (Result Value Trap) (value_step own) (renamed p.names e)
      ∙ ap (λ r. r >>= λ v. Ok (negated v)) (a (not_some negated_type (type_in f e) (ap is_some (sym (fold-Not (Option Ty) (type_step f) e)) ∙ h)))
      ∙ sym (fold-Not (Result Value Trap) (value_step text) e))

  wanted-value : (e : Expr) (w : Option Ty) → is_wanted (type_in f e) w ≡ true → value (renamed p.names e) own ≡ value e text
  wanted-value e w h = renamed-value e (go (type_in f e) h)
    where
      go : (o : Option Ty) → is_wanted o w ≡ true → is_some o ≡ true
      go None h = absurd cc
      go (Some ty) h = refl

  bool-value : (e : Expr) → is_bool (type_in f e) ≡ true → value (renamed p.names e) own ≡ value e text
  bool-value e h = renamed-value e (go (type_in f e) h)
    where
      go : (o : Option Ty) → is_bool o ≡ true → is_some o ≡ true
      go None h = absurd cc
      go (Some ty) h = refl

  both : (a b : Bool) → (a && b) ≡ true → (a ≡ true) × (b ≡ true)
  both true b h = (refl, h)
  both false b h = absurd cc

  all-values : (es : List Expr) (tys : List Ty) → are_wanted (map (type_in f) es) tys ≡ true → values (map (renamed p.names) es) own ≡ values es text
  all-values [] tys h = refl
  all-values (e ∷ es) [] h = absurd cc
  all-values (e ∷ es) (ty ∷ tys) h =
      let q = both (is_wanted (type_in f e) (Some ty)) (are_wanted (map (type_in f) es) tys) h in
      λ i. wanted-value e (Some ty) q.0 i >>= λ v. all-values es tys q.1 i >>= λ vs. Ok (v ∷ vs)

and_parts : (a b : Bool) → (a && b) ≡ true → (a ≡ true) × (b ≡ true)
and_parts true b h = (refl, h)
and_parts false b h = absurd cc

so_is : (ok : Bool) (f g : Scope) → if_so ok f ≡ Some g → (ok ≡ true) × (f ≡ g)
so_is true f g h = (refl, cc)
so_is false f g h = absurd cc

-- ---- operations

-- a value that is given, and a cell that is looked at
abbrev give : Result Value Trap → ℕ → State → Result State Reason
give r x s = (or_abort r >>= λ v. Ok (Gives x v)) >>= λ e. Ok (with_effect None e s)

abbrev keyed : Result Value Trap → ℕ → (Option Cell → Result State Reason) → Result State Reason
keyed r t F = or_abort (r >>= λ v. Ok (Some (t, as_key v))) >>= F

abbrev laid_down : Result RowValues Trap → Option Cell → State → Result State Reason
laid_down r cell s = (or_abort r >>= λ vs. Ok (Leaves (Some vs))) >>= λ e. Ok (with_effect cell e s)

abbrev replacing : Result Value Trap → ℕ → Option Cell → State → Result State Reason
replacing r c cell s = (or_abort r >>= λ v. replaced (row_at s.tables cell) c v >>= λ vs. Ok (Leaves (Some vs))) >>= λ e. Ok (with_effect cell e s)

abbrev asking : Result Value Trap → State → Result State Reason
asking r s = (or_abort r >>= λ v. unless_asked v) >>= λ e. Ok (with_effect None e s)

module _ (k : ℕ) (f g : Scope) (p : Point) (text own : Values) (pic : Pictures f p text own) where
  -- two results: the tables are the same, and what is visible has its values
  abbrev Followed : Point → Result State Reason → Result State Reason → Type 0
  Followed q (Ok t) (Ok o) = (o.tables ≡ t.tables) × Pictures g q t.env o.env × Keeps k text t.env × Keeps p.next own o.env
  Followed q (Err a) (Err b) = b ≡ a
  Followed q _ _ = ⊥

  abbrev s : Tables → State
  s tables = record { env = text; tables = tables }

  abbrev o : Tables → State
  o tables = record { env = own; tables = tables }

  defined-follow : (x : ℕ) (ty : Ty) (v : Value) (tables : Tables) → x ≡ k → with_var f x ty ≡ g → Followed (with_next x p) (Ok (define x v (s tables))) (Ok (define p.next v (o tables)))
  defined-follow x ty v tables at same = (
    refl,
    subst (λ (z : Scope). Pictures z (with_next x p) (insert text x v) (insert own p.next v)) same (pictures-next f p text own x ty v pic),
    keeps-insert k x text v (omega (arith, at)),
    keeps-insert p.next p.next own v (omega arith),
  )

  plain-follow : (tables : Tables) → f ≡ g → Followed p (Ok (s tables)) (Ok (o tables))
  plain-follow tables same = (refl, subst (λ (z : Scope). Pictures z p text own) same pic, (λ z lt. refl), λ z lt. refl)

  give-follow : (r : Result Value Trap) (x : ℕ) (ty : Ty) (tables : Tables) → x ≡ k → with_var f x ty ≡ g → Followed (with_next x p) (give r x (s tables)) (give r p.next (o tables))
  give-follow (Ok v) x ty tables at same = defined-follow x ty v tables at same
  give-follow (Err trap) x ty tables at same = refl

  keyed-follow : (q : Point) (r : Result Value Trap) (t : ℕ) (F G : Option Cell → Result State Reason) → ((cell : Cell) → Followed q (F (Some cell)) (G (Some cell))) → Followed q (keyed r t F) (keyed r t G)
  keyed-follow q (Ok v) t F G h = h (t, as_key v)
  keyed-follow q (Err trap) t F G h = refl

  rows-follow : (r : Result RowValues Trap) (cell : Cell) (tables : Tables) → f ≡ g → Followed p (laid_down r (Some cell) (s tables)) (laid_down r (Some cell) (o tables))
  rows-follow (Ok vs) cell tables same = (refl, (plain-follow tables same).1, (λ z lt. refl), λ z lt. refl)
  rows-follow (Err trap) cell tables same = refl

  replacing-follow : (r : Result Value Trap) (c : ℕ) (cell : Cell) (tables : Tables) → f ≡ g → Followed p (replacing r c (Some cell) (s tables)) (replacing r c (Some cell) (o tables))
  replacing-follow (Ok v) c cell tables same = go (replaced (row_at tables (Some cell)) c v)
    where
      go : (r : Result RowValues Reason) → Followed p ((r >>= λ vs. Ok (Leaves (Some vs))) >>= λ e. Ok (with_effect (Some cell) e (s tables))) ((r >>= λ vs. Ok (Leaves (Some vs))) >>= λ e. Ok (with_effect (Some cell) e (o tables)))
      go (Ok vs) = (refl, (plain-follow tables same).1, (λ z lt. refl), λ z lt. refl)
      go (Err reason) = refl
  replacing-follow (Err trap) c cell tables same = refl

  asking-follow : (r : Result Value Trap) (tables : Tables) → f ≡ g → Followed p (asking r (s tables)) (asking r (o tables))
  asking-follow (Ok (Truth true)) tables same = refl
  asking-follow (Ok (Truth false)) tables same = plain-follow tables same
  asking-follow (Ok (Int n)) tables same = plain-follow tables same
  asking-follow (Ok (Text l)) tables same = plain-follow tables same
  asking-follow (Err trap) tables same = refl

  -- an operation that is well-formed
  follow-kind : (ts : List Table) (kind : OpKind) → is_test kind ≡ false → RunsOn k (variable_list (defined_variable kind)) → (check_step ts (form_of Check kind)).after f ≡ Some g
      → (tables : Tables) → Followed (with_defined (defined_variable kind) p) (done kind (s tables)) (done (renamed_kind p kind) (o tables))
  follow-kind ts (kind.Let x e) single run ok tables = go (type_in f e) refl ok
    where
      go : (a : Option Ty) → type_in f e ≡ a → option_map (with_var f x) a ≡ Some g → Followed (with_next x p) (give (value e text) x (s tables)) (give (value (renamed p.names e) own) p.next (o tables))
      go None found is = absurd cc
      go (Some ty) found is =
          let same : with_var f x ty ≡ g = cc in
          subst (λ r. Followed (with_next x p) (give (value e text) x (s tables)) (give r p.next (o tables))) (sym (renamed-value f p text own pic e (ap is_some found))) (give-follow (value e text) x ty tables run.0 same)
  follow-kind ts (kind.Cond x e) single run ok tables = absurd cc
  follow-kind ts (kind.Read x t key c d) single run ok tables =
      let a = so_is (is_wanted (type_in f key) (key_type ts t) && is_wanted (Some (type_of d)) (column_type ts t c)) (with_var f x (type_of d)) g ok in
      let b = and_parts (is_wanted (type_in f key) (key_type ts t)) (is_wanted (Some (type_of d)) (column_type ts t c)) a.0 in
      let F : Option Cell → Result State Reason = λ cell. Ok (define x (column_or (row_at tables cell) c d) (s tables)) in
      let G : Option Cell → Result State Reason = λ cell. Ok (define p.next (column_or (row_at tables cell) c d) (o tables)) in
      subst (λ r. Followed (with_next x p) (keyed (value key text) t F) (keyed r t G)) (sym (wanted-value f p text own pic key (key_type ts t) b.0))
      (keyed-follow (with_next x p) (value key text) t F G (λ cell. defined-follow x (type_of d) (column_or (row_at tables (Some cell)) c d) tables run.0 a.1))
  follow-kind ts (kind.Has x t key) single run ok tables =
      let a = so_is (is_wanted (type_in f key) (key_type ts t)) (with_var f x BoolTy) g ok in
      let F : Option Cell → Result State Reason = λ cell. Ok (define x (Truth (is_some (row_at tables cell))) (s tables)) in
      let G : Option Cell → Result State Reason = λ cell. Ok (define p.next (Truth (is_some (row_at tables cell))) (o tables)) in
      subst (λ r. Followed (with_next x p) (keyed (value key text) t F) (keyed r t G)) (sym (wanted-value f p text own pic key (key_type ts t) a.0))
      (keyed-follow (with_next x p) (value key text) t F G (λ cell. defined-follow x BoolTy (Truth (is_some (row_at tables (Some cell)))) tables run.0 a.1))
  follow-kind ts (kind.Put t key es) single run ok tables =
      let a = so_is (is_wanted (type_in f key) (key_type ts t) && is_width (length es) && are_wanted (map (type_in f) es) (column_types ts t)) f g ok in
      let b = and_parts (is_wanted (type_in f key) (key_type ts t) && is_width (length es)) (are_wanted (map (type_in f) es) (column_types ts t)) a.0 in
      let c = and_parts (is_wanted (type_in f key) (key_type ts t)) (is_width (length es)) b.0 in
      subst (λ (q : Result Value Trap × Result RowValues Trap). Followed p (keyed (value key text) t (λ cell. laid_down (values es text) cell (s tables))) (keyed q.0 t (λ cell. laid_down q.1 cell (o tables))))
      (λ i. (sym (wanted-value f p text own pic key (key_type ts t) c.0) i, sym (all-values f p text own pic es (column_types ts t) b.1) i))
      (keyed-follow p (value key text) t (λ cell. laid_down (values es text) cell (s tables)) (λ cell. laid_down (values es text) cell (o tables)) (λ cell. rows-follow (values es text) cell tables a.1))
  follow-kind ts (kind.SetCol t key c e) single run ok tables =
      let a = so_is (is_wanted (type_in f key) (key_type ts t) && is_wanted (type_in f e) (column_type ts t c)) f g ok in
      let b = and_parts (is_wanted (type_in f key) (key_type ts t)) (is_wanted (type_in f e) (column_type ts t c)) a.0 in
      subst (λ (q : Result Value Trap × Result Value Trap). Followed p (keyed (value key text) t (λ cell. replacing (value e text) c cell (s tables))) (keyed q.0 t (λ cell. replacing q.1 c cell (o tables))))
      (λ i. (sym (wanted-value f p text own pic key (key_type ts t) b.0) i, sym (wanted-value f p text own pic e (column_type ts t c) b.1) i))
      (keyed-follow p (value key text) t (λ cell. replacing (value e text) c cell (s tables)) (λ cell. replacing (value e text) c cell (o tables)) (λ cell. replacing-follow (value e text) c cell tables a.1))
  follow-kind ts (kind.Delete t key) single run ok tables =
      let a = so_is (is_wanted (type_in f key) (key_type ts t)) f g ok in
      let F : Option Cell → Result State Reason = λ cell. Ok (with_effect cell (Leaves None) (s tables)) in
      let G : Option Cell → Result State Reason = λ cell. Ok (with_effect cell (Leaves None) (o tables)) in
      subst (λ r. Followed p (keyed (value key text) t F) (keyed r t G)) (sym (wanted-value f p text own pic key (key_type ts t) a.0))
      (keyed-follow p (value key text) t F G (λ cell. (refl, (plain-follow tables a.1).1, (λ z lt. refl), λ z lt. refl)))
  follow-kind ts (kind.AbortIf e) single run ok tables =
      let a = so_is (is_bool (type_in f e)) f g ok in
      subst (λ r. Followed p (asking (value e text) (s tables)) (asking r (o tables))) (sym (bool-value f p text own pic e a.0)) (asking-follow (value e text) tables a.1)

  -- it writes the same cell
  same-cells : (t : ℕ) (key : Expr) (ts : List Table) → is_wanted (type_in f key) (key_type ts t) ≡ true → if_well cells_in (value (renamed p.names key) own >>= λ v. Ok (Some (t, as_key v))) ≡ if_well cells_in (value key text >>= λ v. Ok (Some (t, as_key v)))
  same-cells t key ts wanted = ap (λ (r : Result Value Trap). if_well cells_in (r >>= λ v. Ok (Some (t, as_key v)))) (wanted-value f p text own pic key (key_type ts t) wanted)

  cells-kind : (ts : List Table) (kind : OpKind) → (check_step ts (form_of Check kind)).after f ≡ Some g → (tables : Tables) → cells_put (renamed_kind p kind) (o tables) ≡ cells_put kind (s tables)
  cells-kind ts (kind.Let x e) ok tables = refl
  cells-kind ts (kind.Cond x e) ok tables = refl
  cells-kind ts (kind.Read x t key c d) ok tables = refl
  cells-kind ts (kind.Has x t key) ok tables = refl
  cells-kind ts (kind.Put t key es) ok tables =
      let a = so_is (is_wanted (type_in f key) (key_type ts t) && is_width (length es) && are_wanted (map (type_in f) es) (column_types ts t)) f g ok in
      let b = and_parts (is_wanted (type_in f key) (key_type ts t) && is_width (length es)) (are_wanted (map (type_in f) es) (column_types ts t)) a.0 in
      same-cells t key ts (and_parts (is_wanted (type_in f key) (key_type ts t)) (is_width (length es)) b.0).0
  cells-kind ts (kind.SetCol t key c e) ok tables =
      let a = so_is (is_wanted (type_in f key) (key_type ts t) && is_wanted (type_in f e) (column_type ts t c)) f g ok in
      same-cells t key ts (and_parts (is_wanted (type_in f key) (key_type ts t)) (is_wanted (type_in f e) (column_type ts t c)) a.0).0
  cells-kind ts (kind.Delete t key) ok tables = same-cells t key ts (so_is (is_wanted (type_in f key) (key_type ts t)) f g ok).0
  cells-kind ts (kind.AbortIf e) ok tables = refl

-- ---- statements

-- what a text does and which cells it writes, against what steps do and write: they go on with those after them, from the same tables
abbrev Follow : ℕ → ℕ → Scope → ℕ → Point → Values → Values → UnrolledSteps → Result State Abort → List Cell → Result State Abort → List Cell → Type 0
Follow k n g m q text own rest (Ok t) cells does writes = (now : Values) × Pictures g q t.env now × Keeps k text t.env × Keeps m own now × (does ≡ runs rest n (record { env = now; tables = t.tables })) × (writes ≡ cells ++ cells_run rest n (record { env = now; tables = t.tables }))
Follow k n g m q text own rest (Err abort) cells does writes = does ≡ Err abort

-- one after another
follow-then : (k k' n n' m m' : ℕ) (f g : Scope) (p q : Point) (text own : Values) (between rest : UnrolledSteps) (r : Result State Abort) (cells : List Cell) (does : Result State Abort) (writes : List Cell) (F : State → Result State Abort) (G : State → List Cell) → k ≤ k' → m ≤ m'
    → Follow k n f m p text own between r cells does writes
    → ((t : State) (now : Values) → Pictures f p t.env now → Follow k' n' g m' q t.env now rest (F t) (G t) (runs between n (record { env = now; tables = t.tables })) (cells_run between n (record { env = now; tables = t.tables })))
    → Follow k n' g m q text own rest (r >>= F) (if_well (λ t. cells ++ G t) r) does writes
follow-then k k' n n' m m' f g p q text own between rest (Err abort) cells does writes F G le up h later = h
follow-then k k' n n' m m' f g p q text own between rest (Ok t) cells does writes F G le up (now, pic, text_keeps, own_keeps, is, all) later = go (F t) (later t now pic)
  where
    go : (r : Result State Abort) → Follow k' n' g m' q t.env now rest r (G t) (runs between n (record { env = now; tables = t.tables })) (cells_run between n (record { env = now; tables = t.tables })) → Follow k n' g m q text own rest r (cells ++ G t) does writes
    go (Err abort) e = is ∙ e
    go (Ok u) (last, pic', text_keeps', own_keeps', is', all') = (
      last,
      pic',
      keeps-trans k text t.env u.env text_keeps (λ z lt. text_keeps' z (omega (arith, lt, le))),
      keeps-trans m own now last own_keeps (λ z lt. own_keeps' z (omega (arith, lt, up))),
      is ∙ is',
      all ∙ ap (λ (cs : List Cell). cells ++ cs) all' ∙ sym (append_assoc cells (G t) (cells_run rest n' (record { env = last; tables = u.tables }))),
    )

-- seen from before
follow-from : (k k' n m m' : ℕ) (f g : Scope) (p q : Point) (text text' own own' : Values) (rest : UnrolledSteps) (r : Result State Abort) (cells : List Cell) (does : Result State Abort) (writes : List Cell) → Follow k' n f m' p text' own' rest r cells does writes
    → ((t : State) (now : Values) → Pictures f p t.env now → Keeps k' text' t.env → Keeps m' own' now → Pictures g q t.env now × Keeps k text t.env × Keeps m own now) → Follow k n g m q text own rest r cells does writes
follow-from k k' n m m' f g p q text text' own own' rest (Err abort) cells does writes h from = h
follow-from k k' n m m' f g p q text text' own own' rest (Ok t) cells does writes (now, pic, a, b, is, all) from = let c = from t now pic a b in (now, c.0, c.1, c.2, is, all)

-- with what comes after it
follow-end : (k n n' m : ℕ) (g : Scope) (q : Point) (text own : Values) (rest : UnrolledSteps) (r : Result State Abort) (cells : List Cell) (does : Result State Abort) (writes : List Cell) → Follow k n g m q text own End r cells does writes
    → Follow k n' g m q text own rest r cells (does >>= λ t. runs rest n' t) (if_well (λ t. writes ++ cells_run rest n' t) does)
follow-end k n n' m g q text own rest (Err abort) cells does writes h = ap (λ (r : Result State Abort). r >>= λ t. runs rest n' t) h
follow-end k n n' m g q text own rest (Ok t) cells does writes (now, pic, a, b, is, all) = (
  now,
  pic,
  a,
  b,
  ap (λ (r : Result State Abort). r >>= λ t. runs rest n' t) is,
  ap (λ (r : Result State Abort). if_well (λ t. writes ++ cells_run rest n' t) r) is ∙ ap (λ (cs : List Cell). cs ++ cells_run rest n' (record { env = now; tables = t.tables })) (all ∙ append-nil cells),
)

follow-number : (k n n' m : ℕ) (g : Scope) (q : Point) (text own : Values) (rest : UnrolledSteps) (r : Result State Abort) (cells : List Cell) (does : Result State Abort) (writes : List Cell) → n ≡ n' → Follow k n g m q text own rest r cells does writes → Follow k n' g m q text own rest r cells does writes
follow-number k n n' m g q text own rest r cells does writes same h = subst (λ z. Follow k z g m q text own rest r cells does writes) same h

module _ (ts : List Table) where
  abbrev Same : Unrolling → List ℕ → Code → (Scope → Option Scope) → Type 0
  Same u xs code after = (k : ℕ) (f g : Scope) → RunsOn k xs → Before k f → after f ≡ Some g
      → Before (k + length xs) g × ((p : Point) (text own : Values) → Pictures f p text own → (tables : Tables) (n : ℕ) (rest : UnrolledSteps)
      → Follow k (n + code.count) g p.next (u.after p) text own rest (code.run n (record { env = text; tables = tables })) (code.cells n (record { env = text; tables = tables }))
      (runs (u.steps p rest) n (record { env = own; tables = tables })) (cells_run (u.steps p rest) n (record { env = own; tables = tables })))

  abbrev SameStmt : Stmt → Type 0
  SameStmt s = Same (unrolling s) (stmt_variables s) (code s) ((check ts s).after)

  then_is : (cs : List Check) (o : Option Scope) (g : Scope) → option_and_then (in_order cs) o ≡ Some g → (h : Scope) × (o ≡ Some h) × (in_order cs h ≡ Some g)
  then_is cs None g is = absurd cc
  then_is cs (Some h) g is = (h, refl, is)

  there_is : (o : Option Scope) → is_some o ≡ true → (h : Scope) × (o ≡ Some h)
  there_is None e = absurd cc
  there_is (Some h) e = (h, refl)

  same_all : (ss : List Stmt) → AllByRecursion SameStmt ss → (k : ℕ) (f g : Scope) → RunsOn k (defined_variables ss) → Before k f → in_order (map (check ts) ss) f ≡ Some g
      → (p : Point) (text own : Values) → Pictures f p text own → (tables : Tables) (n : ℕ) (rest : UnrolledSteps)
      → Follow k (n + code_count ss) g p.next (all_after (map unrolling ss) p) text own rest (text_meaning ss n (record { env = text; tables = tables })) (text_cells ss n (record { env = text; tables = tables }))
      (runs (in_steps (map unrolling ss) p rest) n (record { env = own; tables = tables })) (cells_run (in_steps (map unrolling ss) p rest) n (record { env = own; tables = tables }))
  same_all [] all k f g run before ok p text own pic tables n rest =
      let same : f ≡ g = cc in
      let number : n ≡ n + 0 = omega arith in
      (own, subst (λ (z : Scope). Pictures z p text own) same pic, (λ z lt. refl), (λ z lt. refl), ap (λ m. runs rest m (record { env = own; tables = tables })) number, ap (λ m. cells_run rest m (record { env = own; tables = tables })) number)
  same_all (s ∷ ss) all k f g run before ok p text own pic tables n rest =
      let parts = runs_on-parts k (stmt_variables s) (defined_variables ss) run in
      let mid = then_is (map (check ts) ss) ((check ts s).after f) g ok in
      let first = all.0 k f mid.0 parts.0 before mid.1 in
      let q = (unrolling s).after p in
      let number : n + (code s).count + code_count ss ≡ n + code_count (s ∷ ss) = omega arith in
      follow-then k (k + length (stmt_variables s)) (n + (code s).count) (n + code_count (s ∷ ss)) p.next q.next mid.0 g q (all_after (map unrolling ss) q) text own (in_steps (map unrolling ss) q rest) rest
      ((code s).run n (record { env = text; tables = tables })) ((code s).cells n (record { env = text; tables = tables }))
      (runs (in_steps (map unrolling (s ∷ ss)) p rest) n (record { env = own; tables = tables })) (cells_run (in_steps (map unrolling (s ∷ ss)) p rest) n (record { env = own; tables = tables }))
      (λ t. run_codes (map code ss) (n + (code s).count) t) (λ t. code_cells (map code ss) (n + (code s).count) t)
      (omega arith) (next-grows s p).0 (first.1 p text own pic tables n (in_steps (map unrolling ss) q rest))
      (λ t now pic'. follow-number _ _ _ _ g _ _ _ rest _ _ _ _ number (same_all ss all.1 (k + length (stmt_variables s)) mid.0 g parts.1 first.0 mid.2 q t.env now pic' t.tables (n + (code s).count) rest))

  before-same : (k : ℕ) (f g : Scope) → f ≡ g → Before k f → Before (k + 0) g
  before-same k f g same before y h = omega (arith, before y (ap (λ (z : Scope). is_some (z y)) same ∙ h))

  -- an operation's scope
  before-kind : (k : ℕ) (kind : OpKind) (f g : Scope) → is_test kind ≡ false → RunsOn k (variable_list (defined_variable kind)) → Before k f → (check_step ts (form_of Check kind)).after f ≡ Some g → Before (k + length (variable_list (defined_variable kind))) g
  before-kind k (kind.Let x e) f g single run before ok = go (type_in f e) ok
    where
      go : (o : Option Ty) → option_map (with_var f x) o ≡ Some g → Before (k + 1) g
      go None is = absurd cc
      go (Some ty) is = let same : with_var f x ty ≡ g = cc in subst (Before (k + 1)) same (before-var k x f ty run.0 before)
  before-kind k (kind.Cond x e) f g single run before ok = absurd cc
  before-kind k (kind.Read x t key c d) f g single run before ok = subst (Before (k + 1)) (so_is _ (with_var f x (type_of d)) g ok).1 (before-var k x f (type_of d) run.0 before)
  before-kind k (kind.Has x t key) f g single run before ok = subst (Before (k + 1)) (so_is _ (with_var f x BoolTy) g ok).1 (before-var k x f BoolTy run.0 before)
  before-kind k (kind.Put t key es) f g single run before ok = before-same k f g (so_is _ f g ok).1 before
  before-kind k (kind.SetCol t key c e) f g single run before ok = before-same k f g (so_is _ f g ok).1 before
  before-kind k (kind.Delete t key) f g single run before ok = before-same k f g (so_is _ f g ok).1 before
  before-kind k (kind.AbortIf e) f g single run before ok = before-same k f g (so_is _ f g ok).1 before

  one-follow : (k n : ℕ) (f g : Scope) (p q : Point) (text own : Values) (pic : Pictures f p text own) (rest : UnrolledSteps) (r d : Result State Reason) (cells writes : List Cell) → writes ≡ cells → Followed k f g p text own pic q r d
      → Follow k (n + 1) g p.next q text own rest (at_operation n r) cells (at_operation n d >>= λ t. runs rest (n + 1) t) (if_well (λ t. writes ++ cells_run rest (n + 1) t) d)
  one-follow k n f g p q text own pic rest (Ok t) (Ok o) cells writes same (tables, pic', a, b) = (
    o.env,
    pic',
    a,
    b,
    (λ i. runs rest (n + 1) (record { env = o.env; tables = tables i })),
    λ i. same i ++ cells_run rest (n + 1) (record { env = o.env; tables = tables i }),
  )
  one-follow k n f g p q text own pic rest (Ok t) (Err b) cells writes same h = absurd h
  one-follow k n f g p q text own pic rest (Err a) (Ok o) cells writes same h = absurd h
  one-follow k n f g p q text own pic rest (Err a) (Err b) cells writes same h = ap (λ z. Err (n, z)) h

  check-one : (s : Stmt) (kind : OpKind) → IsOne s kind → check ts s ≡ check_step ts (form_of Check kind)
  check-one s kind is = is Check (check_step ts)

  same-one : (s : Stmt) (kind : OpKind) → is_test kind ≡ false → IsOne s kind → SameStmt s
  same-one s kind single is = subst (λ (q : Unrolling × List ℕ × Code × Check). Same q.0 q.1 q.2 (q.3).after)
      (λ i. (sym (unrolling-one s kind single is) i, sym (variables-one s kind single is) i, sym (code-one s kind single is) i, sym (check-one s kind is) i))
      (λ k f g run before ok. (
        before-kind k kind f g single run before ok,
        λ p text own pic tables n rest. one-follow k n f g p (with_defined (defined_variable kind) p) text own pic rest _ _ _ _ (cells-kind k f g p text own pic ts kind ok tables) (follow-kind k f g p text own pic ts kind single run ok tables),
      ))

  -- ---- conditionals

  module _ (x : ℕ) (e : Expr) (first second : List Stmt) (all : AllByRecursion SameStmt first) (others : AllByRecursion SameStmt second) (k : ℕ) (f g ga gb : Scope) (at : x ≡ k)
      (run_first : RunsOn (k + 1) (defined_variables first)) (run_second : RunsOn (k + 1 + length (defined_variables first)) (defined_variables second)) (before : Before k f) (typed : is_bool (type_in f e) ≡ true)
      (ok_first : in_order (map (check ts) first) (with_var f x BoolTy) ≡ Some ga) (ok_second : in_order (map (check ts) second) (with_var f x BoolTy) ≡ Some gb) (less : Less g (with_var f x BoolTy))
      (p : Point) (text own : Values) (pic : Pictures f p text own) (tables : Tables) (n : ℕ) (rest : UnrolledSteps) where
    abbrev inner : Scope
    inner = with_var f x BoolTy

    abbrev point : Point
    point = with_next x p

    abbrev between : Point
    between = all_after (map unrolling first) point

    abbrev end : Point
    end = all_after (map unrolling second) between

    abbrev a : UnrolledSteps
    a = in_steps (map unrolling first) point End

    abbrev b : UnrolledSteps
    b = in_steps (map unrolling second) between End

    abbrev number : ℕ
    number = n + 1 + step_count a + step_count b

    visible : Before (k + 1) inner
    visible = before-var k x f BoolTy at before

    count-a : step_count a ≡ code_count first
    count-a = omega (arith, all_steps-count first point End, count-all-operations first)

    count-b : step_count b ≡ code_count second
    count-b = omega (arith, all_steps-count second between End, count-all-operations second)

    names-a : (y : ℕ) → y < k + 1 → between.names y ≡ point.names y
    names-a = all_names-kept first (k + 1) run_first point

    names-b : (y : ℕ) → y < k + 1 → end.names y ≡ between.names y
    names-b y lt = all_names-kept second (k + 1 + length (defined_variables first)) run_second between y (omega (arith, lt))

    up-a : point.next ≤ between.next
    up-a = (all_next-grows first point).0

    up-b : between.next ≤ end.next
    up-b = (all_next-grows second between).0

    module _ (v : Value) where
      abbrev text' : Values
      text' = insert text x v

      abbrev own' : Values
      own' = insert own p.next v

      begun : Pictures inner point text' own'
      begun = pictures-next f p text own x BoolTy v pic

      begun-b : Pictures inner between text' own'
      begun-b = pictures-later inner inner point between text' own' text' own' (k + 1) begun (λ y h. h) visible names-a (λ z lt. refl) (λ z lt. refl) up-a

      text-kept : (t : Values) → Keeps (k + 1) text' t → Keeps k text t
      text-kept t h z lt = h z (omega (arith, lt)) ∙ keeps-insert k x text v (omega (arith, at)) z lt

      own-kept : (m : ℕ) (o : Values) → p.next ≤ m → Keeps m own' o → Keeps p.next own o
      own-kept m o up h z lt = h z (omega (arith, lt, up)) ∙ keeps-insert p.next p.next own v (omega arith) z lt

      abbrev begins : State
      begins = record { env = text'; tables = tables }

      abbrev own_begins : State
      own_begins = record { env = own'; tables = tables }

      after-first : Follow k number g p.next end text own rest (text_meaning first (n + 1) begins) (text_cells first (n + 1) begins)
          (runs a (n + 1) own_begins >>= λ t. runs rest number t) (if_well (λ t. cells_run a (n + 1) own_begins ++ cells_run rest number t) (runs a (n + 1) own_begins))
      after-first = follow-end k (n + 1 + code_count first) number p.next g end text own rest _ _ _ _
          (follow-from k (k + 1) (n + 1 + code_count first) p.next point.next ga g between end text text' own own' End _ _ _ _
          (same_all first all (k + 1) inner ga run_first visible ok_first point text' own' begun tables (n + 1) End)
          (λ t now pic' tk ok. (
            pictures-later inner g point end text' own' t.env now (k + 1) begun less (λ y h. visible y (less y h)) (λ y lt. names-b y lt ∙ names-a y lt) tk ok (omega (arith, up-a, up-b)),
            text-kept t.env tk,
            own-kept point.next now (omega arith) ok,
          )))

      after-second : Follow k number g p.next end text own rest (text_meaning second (n + 1 + code_count first) begins) (text_cells second (n + 1 + code_count first) begins)
          (runs b (n + 1 + step_count a) own_begins >>= λ t. runs rest number t) (if_well (λ t. cells_run b (n + 1 + step_count a) own_begins ++ cells_run rest number t) (runs b (n + 1 + step_count a) own_begins))
      after-second = follow-end k (n + 1 + code_count first + code_count second) number p.next g end text own rest _ _ _ _
          (subst (λ c. Follow k (n + 1 + code_count first + code_count second) g p.next end text own End (text_meaning second (n + 1 + code_count first) begins) (text_cells second (n + 1 + code_count first) begins) (runs b (n + 1 + c) own_begins) (cells_run b (n + 1 + c) own_begins)) (sym count-a)
          (follow-from k (k + 1 + length (defined_variables first)) (n + 1 + code_count first + code_count second) p.next between.next gb g end end text text' own own' End _ _ _ _
          (same_all second others (k + 1 + length (defined_variables first)) inner gb run_second (λ y h. omega (arith, visible y h)) ok_second between text' own' begun-b tables (n + 1 + code_count first) End)
          (λ t now pic' tk ok. (
            pictures-later inner g between end text' own' t.env now (k + 1) begun-b less (λ y h. visible y (less y h)) names-b (λ z lt. tk z (omega (arith, lt))) ok up-b,
            text-kept t.env (λ z lt. tk z (omega (arith, lt))),
            own-kept between.next now (omega (arith, up-a)) ok,
          ))))

    -- what one of the blocks does, as text and as steps, and which cells it writes
    abbrev text_does : Value → Result State Abort
    text_does v = branch v (text_meaning first (n + 1)) (text_meaning second (n + 1 + code_count first)) (define x v (record { env = text; tables = tables }))

    abbrev text_writes : Value → List Cell
    text_writes v = branch v (text_cells first (n + 1)) (text_cells second (n + 1 + code_count first)) (define x v (record { env = text; tables = tables }))

    abbrev own_does : Value → Result State Abort
    own_does v = branch v (runs a (n + 1)) (runs b (n + 1 + step_count a)) (define p.next v (record { env = own; tables = tables }))

    abbrev own_writes : Value → List Cell
    own_writes v = branch v (cells_run a (n + 1) (define p.next v (record { env = own; tables = tables }))) (cells_run b (n + 1 + step_count a) (define p.next v (record { env = own; tables = tables })))

    after-branch : (v : Value) → Follow k number g p.next end text own rest (text_does v) (text_writes v) (own_does v >>= λ t. runs rest number t) (if_well (λ t. own_writes v ++ cells_run rest number t) (own_does v))
    after-branch (Truth true) = after-first (Truth true)
    after-branch (Truth false) = after-second (Truth false)
    after-branch (Int m) = after-second (Int m)
    after-branch (Text l) = after-second (Text l)

    after-test : (r : Result Value Trap) → Follow k number g p.next end text own rest (at_operation n (or_abort r) >>= text_does) (if_well text_writes r)
        (at_operation n (or_abort r) >>= λ v. own_does v >>= λ t. runs rest number t) (if_well (λ v. if_well (λ t. own_writes v ++ cells_run rest number t) (own_does v)) r)
    after-test (Ok v) = after-branch v
    after-test (Err trap) = refl

    after-conditional : Follow k (n + (1 + (code_count first + code_count second))) g p.next end text own rest (at_operation n (or_abort (value e text)) >>= text_does) (if_well text_writes (value e text))
        (runs (Branch p.next (renamed p.names e) a b rest) n (record { env = own; tables = tables })) (cells_run (Branch p.next (renamed p.names e) a b rest) n (record { env = own; tables = tables }))
    after-conditional =
        let total : number ≡ n + (1 + (code_count first + code_count second)) = omega (arith, count-a, count-b) in
        follow-number k number (n + (1 + (code_count first + code_count second))) p.next g end text own rest _ _ _ _ total
        (subst (λ r. Follow k number g p.next end text own rest (at_operation n (or_abort (value e text)) >>= text_does) (if_well text_writes (value e text))
        (at_operation n (or_abort r) >>= λ v. own_does v >>= λ t. runs rest number t) (if_well (λ v. if_well (λ t. own_writes v ++ cells_run rest number t) (own_does v)) r))
        (sym (bool-value f p text own pic e typed)) (after-test (value e text)))

  same-conditional : (s : Stmt) (x : ℕ) (e : Expr) (first second : List Stmt) → IsConditional s x e first second → AllByRecursion SameStmt first → AllByRecursion SameStmt second → SameStmt s
  same-conditional s x e first second is all others =
      subst (λ (q : Unrolling × List ℕ × Code × Check). Same q.0 q.1 q.2 (q.3).after) (λ i. (sym (is Unrolling unroll_step) i, sym (is (List ℕ) variables_step) i, sym (is Code code_step) i, sym (is Check (check_step ts)) i))
      (λ k f g run before ok.
      let inner = with_var f x BoolTy in
      let fa = in_order (map (check ts) first) inner in
      let fb = in_order (map (check ts) second) inner in
      let one = any_defines (map (check ts) first) in
      let two = any_defines (map (check ts) second) in
      let a = so_is (is_bool (type_in f e) && is_some fa && is_some fb) (without one (without two inner)) g ok in
      let b = and_parts (is_bool (type_in f e) && is_some fa) (is_some fb) a.0 in
      let c = and_parts (is_bool (type_in f e)) (is_some fa) b.0 in
      let ga = there_is fa c.1 in
      let gb = there_is fb b.1 in
      let parts = runs_on-parts (k + 1) (defined_variables first) (defined_variables second) run.1 in
      let less : Less g inner = subst (λ (z : Scope). Less z inner) a.1 (λ y h. without-less two inner y (without-less one (without two inner) y h)) in
      let visible : Before (k + 1) inner = before-var k x f BoolTy run.0 before in
      ((λ y h. omega (arith, visible y (less y h))), λ p text own pic tables n rest. after-conditional x e first second all others k f g ga.0 gb.0 run.0 parts.0 parts.1 before c.0 ga.1 gb.1 less p text own pic tables n rest))

  -- ---- loops

  module _ (x k : ℕ) (at : x ≡ k) (body : List Stmt) (all : AllByRecursion SameStmt body) (run : RunsOn (k + 1) (defined_variables body)) (f g : Scope) (before : Before k f) (ok : in_order (map (check ts) body) (with_var f x IntTy) ≡ Some g) where
    turn-kept : (text t : Values) (v : Value) → Keeps (k + 1) (insert text x v) t → Keeps k text t
    turn-kept text t v h z lt = h z (omega (arith, lt)) ∙ keeps-insert k x text v (omega (arith, at)) z lt

    same_turns : (is : List ℤ) (p : Point) (text own : Values) → Pictures f p text own → (tables : Tables) (n : ℕ) (rest : UnrolledSteps)
        → Follow k (n + length is * code_count body) f p.next (after_turns x (map unrolling body) is p) text own rest (run_turns x (map code body) is n (record { env = text; tables = tables })) (turn_cells x (map code body) is n (record { env = text; tables = tables }))
        (runs (in_turns x (map unrolling body) is p rest) n (record { env = own; tables = tables })) (cells_run (in_turns x (map unrolling body) is p rest) n (record { env = own; tables = tables }))
    same_turns [] p text own pic tables n rest =
        let number : n ≡ n + 0 * code_count body = omega arith in
        (own, pic, (λ z lt. refl), (λ z lt. refl), ap (λ m. runs rest m (record { env = own; tables = tables })) number, ap (λ m. cells_run rest m (record { env = own; tables = tables })) number)
    same_turns (i ∷ is) p text own pic tables n rest =
        let turn = with_turn x i p in
        let text' = insert text x (Int i) in
        let q = all_after (map unrolling body) turn in
        let c = code_count body in
        let more = in_turns x (map unrolling body) is q rest in
        let number : n + c + length is * c ≡ n + length (i ∷ is) * c = times n (length is) c in
        let last = after_turns x (map unrolling body) is q in
        follow-then k k (n + c) (n + length (i ∷ is) * c) p.next q.next f f q last text own more rest (text_meaning body n (record { env = text'; tables = tables })) (text_cells body n (record { env = text'; tables = tables }))
        (runs (in_steps (map unrolling body) turn more) n (record { env = own; tables = tables })) (cells_run (in_steps (map unrolling body) turn more) n (record { env = own; tables = tables }))
        (λ t. run_turns x (map code body) is (n + c) t) (λ t. turn_cells x (map code body) is (n + c) t) (omega arith) (all_next-grows body turn).0
        (follow-from k (k + 1) (n + c) p.next p.next g f q q text text' own own more _ _ _ _
        (same_all body all (k + 1) (with_var f x IntTy) g run (before-var k x f IntTy at before) ok turn text' own (pictures-turn f p text own x i pic) tables n more)
        (λ t now pic' tk okp. (
          pictures-later f f p q text own t.env now k pic (λ y h. h) before (turn_names-kept body x k at run i p) (turn-kept text t.env (Int i) tk) okp (all_next-grows body turn).0,
          turn-kept text t.env (Int i) tk,
          okp,
        )))
        (λ t now pic'. follow-number k _ _ q.next f last t.env now rest _ _ _ _ number (same_turns is q t.env now pic' t.tables (n + c) rest))
      where
        times : (n l c : ℕ) → n + c + l * c ≡ n + suc l * c
        times n l c = omega arith

  less_visible : (a b : Bool) (o : Option Ty) → is_some (if a || b then None else o) ≡ true → is_some (if b then None else o) ≡ true
  less_visible true b o h = absurd cc
  less_visible false b o h = h

  same-loop : (s : Stmt) (x : ℕ) (from to : ℤ) (body : List Stmt) → IsLoop s x from to body → AllByRecursion SameStmt body → SameStmt s
  same-loop s x from to body is all =
      subst (λ (q : Unrolling × List ℕ × Code × Check). Same q.0 q.1 q.2 (q.3).after) (λ i. (sym (is Unrolling unroll_step) i, sym (is (List ℕ) variables_step) i, sym (is Code code_step) i, sym (is Check (check_step ts)) i))
      (λ k f g run before ok.
      let some = any_defines (map (check ts) body) in
      let outer = without some f in
      let inner = in_order (map (check ts) body) (with_var outer x IntTy) in
      let a = so_is (is_some inner) (without (λ y. y == x || some y) f) g ok in
      let found = there_is inner a.0 in
      let less : Less outer f = without-less some f in
      let visible : Before k outer = λ y h. before y (less y h) in
      let shown : Less g outer = subst (λ (z : Scope). Less z outer) a.1 (λ y h. less_visible (y == x) (some y) (f y) h) in
      let count : length (turn_numbers from to) * code_count body ≡ turns from to * code_count body = ap (λ m. m * code_count body) (length-ascending (turns from to) from) in (
        λ y h. omega (arith, visible y (shown y h)),
        λ p text own pic tables n rest.
            let q = after_turns x (map unrolling body) (turn_numbers from to) p in
            let pic_outer : Pictures outer p text own = pictures-later f outer p p text own text own k pic less visible (λ y lt. refl) (λ z lt. refl) (λ z lt. refl) (omega arith) in
            let total : n + length (turn_numbers from to) * code_count body ≡ n + turns from to * code_count body = omega (arith, count) in
            follow-number k _ _ p.next g q text own rest _ _ _ _ total
            (follow-from k k _ p.next p.next outer g q q text text own own rest _ _ _ _
            (same_turns x k run.0 body all run.1 outer found.0 visible found.1 (turn_numbers from to) p text own pic_outer tables n rest)
            (λ t now pic' tk okp. (pictures-later outer g q q t.env now t.env now k pic' shown (λ y h. visible y (shown y h)) (λ y lt. refl) (λ z lt. refl) (λ z lt. refl) (omega arith), tk, okp))),
      ))

  all_same : (ss : List Stmt) → AllByRecursion SameStmt ss
  all_same = all_by_shape SameStmt same-one same-conditional same-loop

-- ---- procedures

same-end : (r : Result State Abort) (cells : List Cell) (does : Result State Abort) (writes : List Cell) (k n m : ℕ) (g : Scope) (q : Point) (text own : Values) → Follow k n g m q text own End r cells does writes
    → ((r >>= λ s. Ok s.tables) ≡ (does >>= λ s. Ok s.tables)) × OnOk r (writes ≡ cells)
same-end (Ok t) cells does writes k n m g q text own (now, pic, a, b, is, all) = (sym (ap (λ (r : Result State Abort). r >>= λ s. Ok s.tables) is), all ∙ append-nil cells)
same-end (Err abort) cells does writes k n m g q text own h = (sym (ap (λ (r : Result State Abort). r >>= λ s. Ok s.tables) h), tt)

-- a call gives the same tables and writes the same cells, or aborts alike, whatever values other variables have where it begins
pub same-called : (ts : List Table) (proc : Proc) → IsProc ts proc → (args : List Value) → FitParams proc.params args → (old : Values) (tables : Tables)
    → ((text_meaning proc.body 0 (record { env = with_values 0 args old; tables = tables }) >>= λ s. Ok s.tables) ≡ (meaning proc (opening args tables) >>= λ s. Ok s.tables))
    × OnOk (text_meaning proc.body 0 (record { env = with_values 0 args old; tables = tables })) (cells_run (unrolled proc) 0 (opening args tables) ≡ text_cells proc.body 0 (record { env = with_values 0 args old; tables = tables }))
same-called ts proc is args fit old tables =
    let start = opening args tables in
    let text = with_values 0 args old in
    let f = scope_of proc.params in
    let end = there_is ts (scope_after_all ts proc.body f) is.well_formed in
    let wide : length (types proc.params) ≡ length proc.params = length-map proc.params (λ column. column.ty) in
    let before : Before (length proc.params) f = λ y h. visible (types proc.params) (length proc.params) wide y (slice_get (types proc.params) y) refl h in
    let pic : Pictures f (beginning proc) text start.env = record { values = λ y h. value-same text start.env y (argument y (before y h)); steady = λ y h. steady-var (length proc.params) y (before y h) } in
    same-end (text_meaning proc.body 0 (record { env = text; tables = tables })) (text_cells proc.body 0 (record { env = text; tables = tables })) (meaning proc start) (cells_run (unrolled proc) 0 start) (length proc.params) (0 + code_count proc.body) (length proc.params) end.0 (all_after (map unrolling proc.body) (beginning proc)) text start.env
    (same_all ts proc.body (all_same ts proc.body) (length proc.params) f end.0 (runs_on-proc ts proc is) before end.1 (beginning proc) text start.env pic tables 0 End)
  where
    visible : (tys : List Ty) (n : ℕ) → length tys ≡ n → (y : ℕ) (o : Option Ty) → slice_get tys y ≡ o → is_some o ≡ true → y < n
    visible tys n wide y None found h = absurd cc
    visible tys n wide y (Some ty) found h = omega (arith, slice_get_within tys y ty found, wide)

    counted : length proc.params ≡ length args
    counted = sym (length-map proc.params (λ column. column.ty)) ∙ ap (λ (tys : List Ty). length tys) (sym fit) ∙ length-map args type_of

    argument : (y : ℕ) → y < length proc.params → get (with_values 0 args empty) y ≡ get (with_values 0 args old) y
    argument y lt =
        let found : slice_get args y ≡ Some (get_or args y (Truth false)) = slice_get-get_or args y (Truth false) (omega (arith, lt, counted)) in
        argument-at args empty y (get_or args y (Truth false)) found ∙ sym (argument-at args old y (get_or args y (Truth false)) found)
