-- What checking a statement says: its numbers, that it is well-formed and what is visible after it, or that it is neither.
use Rattle.std.proofs.Common.{◌≡◌, ◌<◌, ◌≤◌, ℕ, suc, ◌+◌, Bool, true, false, ◌&&◌, ◌==◌, cond, List, [], ◌∷◌, ◌++◌, length, take, drop, get_or, map, Option, Some, None, Result, Ok, Err, true≢false, refl, sym, ap, subst, ◌∙◌, arith}
use Rattle.std.specs.Prelude.{bytes_eq, nat_eq, not}
use Rattle.std.specs.Option.{option_map, option_and_then}
use Rattle.std.specs.List.{IsDistinct}
use Rattle.std.proofs.lemmas.List.{append-nil}
use Rattle.pac_value.specs.declared.values.Ty.{Ty}
use Rattle.pac_value.specs.declared.values.Ty.TheVariants.{Bool as BoolTy}
use Rattle.pac_value.specs.declared.expr.Expr.{Expr}
use Rattle.pac_value.specs.Values.{type_of}
use Rattle.pac_value.specs.Expressions.{◌>>=◌, type_in}
use Rattle.pac_syntax.specs.declared.tree.NameNode.{NameNode}
use Rattle.pac_syntax.specs.declared.tree.LiteralNode.{LiteralNode}
use Rattle.pac_syntax.specs.declared.tree.ExprNode.{ExprNode}
use Rattle.pac_types.specs.declared.type_error.TypeFault.{TypeFault}
use Rattle.pac_types.specs.declared.type_error.TypeFaultKind.TheVariants.{Twice, WrongCount}
use Rattle.pac_types.specs.declared.checker.scope.Variable.{Variable}
use Rattle.pac_types.specs.declared.checker.expressions.Typed.{Typed}
use Rattle.pac_types.specs.declared.table.Table.{Table}
use Rattle.pac_types.specs.declared.statement.Stmt.{Stmt, Let, Read, Has, Put, Set, Delete, AbortIf}
use Rattle.pac_types.specs.declared.statement.Stmt.TheOpen as form
use Rattle.pac_types.specs.Numbering.{AreDistinct, number_of, table_number, column_number, Sight, Numbered, naming, plain, cell_by, resolved, resolved_all}
use Rattle.pac_types.specs.WellFormed.{Check, check, check_step, scope_after, if_so, key_type, column_type, column_types}
use Rattle.pac_value.specs.Scopes.{Scope, with_var, is_wanted, is_bool, are_wanted, is_width}
use Rattle.pac_types.specs.Faults.{is_before}
use Rattle.pac_types.specs.Checking.{ScopeState, Reported, Cells, Fields, once, unless, taken, known_at, same_count, with_variable, checked_wanted, checked_cell, checked_field, checked_read, checked_values}
use Rattle.pac_types.proofs.StmtForms.{at-Let, at-Read, at-Has, at-Put, at-Set, at-Delete, at-AbortIf}
use Rattle.pac_types.proofs.NameLemmas.{number-take, below, distinct-more, not_yet}
use Rattle.pac_types.proofs.ExprLemmas.{numbers_of, Said, Fit, Passed, wanted_passed, some_is, none_is}
use Rattle.pac_types.proofs.PartLemmas.{itself, equal, drop_first, map_is, then_is, cell_is, so_false, so_some, and_true, left_false, right_false, both_true, conflict, fit_push}

module _ (tables : List Table) (names : List (List ℕ)) where
  abbrev pub at : List (Option Variable) → ℕ → ScopeState
  at known next = record { names = names; known = known; next = next }

  -- what holds before what defines these names
  pub record Start (known : List (Option Variable)) (next : ℕ) (scope : Scope) (ds rest : List (List ℕ)) : Type 0 where
    pub fit : Fit known next scope
    pub distinct : IsDistinct bytes_eq (take (length known) names)
    pub left : drop (length known) names ≡ ds ++ rest

  pub record Good (n : Numbered) (known : List (Option Variable)) (next : ℕ) (scope : Scope) (rest : List (List ℕ)) (s : Stmt) (st : ScopeState) : Type 0 where
    pub extra : List (Option Variable)
    pub state : st ≡ at (known ++ extra) (next + n.count)
    pub numbers : numbers_of extra ≡ n.shown next
    pub many : length extra ≡ n.names
    pub is : n.stmt (numbers_of known) next ≡ Some s
    pub after : Scope
    pub well_formed : scope_after tables s scope ≡ Some after
    pub fit : Fit (known ++ extra) (next + n.count) after
    pub defines : (y : ℕ) → (check tables s).defines y ≡ true → (next ≤ y) × (y < next + n.count)
    pub distinct : IsDistinct bytes_eq (take (length known + length extra) names)
    pub left : drop (length known + length extra) names ≡ rest

  abbrev pub Bad : Option Stmt → Scope → Type 0
  Bad o scope = (s : Stmt) → o ≡ Some s → (after : Scope) → scope_after tables s scope ≡ Some after → AreDistinct names → ⊥

  abbrev pub StmtReported : Numbered → List (Option Variable) → ℕ → Scope → List (List ℕ) → Reported → Type 0
  StmtReported n known next scope rest (Ok a) = Good n known next scope rest a.0 a.1
  StmtReported n known next scope rest (Err f) = Bad (n.stmt (numbers_of known) next) scope

  -- ---- statements that define nothing

  abbrev pub PlainReported : List (Option Variable) → ℕ → Scope → Option Stmt → Reported → Type 0
  PlainReported known next scope o (Ok a) = (a.1 ≡ at known next) × (o ≡ Some a.0) × (scope_after tables a.0 scope ≡ Some scope) × ((y : ℕ) → (check tables a.0).defines y ≡ false)
  PlainReported known next scope o (Err f) = (s : Stmt) → o ≡ Some s → scope_after tables s scope ≡ None

  pub plain_reported : (f : Sight → ℕ → Option Stmt) (known : List (Option Variable)) (next : ℕ) (scope : Scope) (rest : List (List ℕ)) (r : Reported) → Start known next scope [] rest → PlainReported known next scope (f (numbers_of known) next) r → StmtReported (plain f) known next scope rest r
  plain_reported f known next scope rest (Err e) start reported = λ s is after well_formed distinct. none_is (sym (reported s is) ∙ well_formed)
  plain_reported f known next scope rest (Ok a) start reported = record {
    extra = [];
    state = reported.0 ∙ λ i. at (sym (append-nil known) i) (same_next i);
    numbers = refl;
    many = refl;
    is = reported.1;
    after = scope;
    well_formed = reported.2;
    fit = subst (λ zs. Fit zs (next + 0) scope) (sym (append-nil known)) (subst (λ n. Fit known n scope) same_next start.fit);
    defines = λ y e. absurd (conflict _ e (reported.3 y));
    distinct = subst (λ n. IsDistinct bytes_eq (take n names)) same_length start.distinct;
    left = subst (λ n. drop n names ≡ rest) same_length start.left;
  }
    where
      same_next : next ≡ next + 0
      same_next = omega arith

      same_length : length known ≡ length known + 0
      same_length = omega arith

  -- ---- statements that define a variable

  abbrev pub NamingReported : List (Option Variable) → ℕ → Scope → Option Stmt → Reported → Type 0
  NamingReported known next scope o (Ok a) = (ty : Ty) × (a.1 ≡ with_variable ty (at known next)) × (o ≡ Some a.0) × (scope_after tables a.0 scope ≡ Some (with_var scope next ty)) × ((y : ℕ) → (check tables a.0).defines y ≡ (y == next))
  NamingReported known next scope o (Err f) = (s : Stmt) → o ≡ Some s → scope_after tables s scope ≡ None

  pub not_before : (o : Option ℕ) (k : ℕ) → is_before o k ≡ false → below k o ≡ None
  not_before None k e = refl
  not_before (Some n) k e = ap (λ b. cond b (Some n) None) e

  pub is_there : (o : Option ℕ) (k : ℕ) → is_before o k ≡ true → below k o ≡ None → ⊥
  is_there None k e h = true≢false (sym e)
  is_there (Some n) k e h = none_is (sym h ∙ ap (λ b. cond b (Some n) None) e)

  pub naming_reported : (f : Sight → ℕ → Option Stmt) (name : NameNode) (known : List (Option Variable)) (next : ℕ) (scope : Scope) (rest : List (List ℕ)) (r : Reported) → Start known next scope (name.name ∷ []) rest → NamingReported known next scope (f (numbers_of known) next) r
      → StmtReported (naming f) known next scope rest (once names (length known) name >>= λ _. r)
  naming_reported f name known next scope rest r start reported = go (is_before (number_of names name.name) (length known)) refl
    where
      first : (length known < length names) × (name.name ≡ get_or names (length known) name.name) × (drop (length known + 1) names ≡ rest)
      first = drop_first names (length known) name.name rest start.left

      new : (r : Reported) → NamingReported known next scope (f (numbers_of known) next) r → is_before (number_of names name.name) (length known) ≡ false → StmtReported (naming f) known next scope rest r
      new (Err e) reported no_before = λ s is after well_formed distinct. none_is (sym (reported s is) ∙ well_formed)
      new (Ok a) reported no_before = record {
        extra = Some (record { number = next; ty = reported.0 }) ∷ [];
        state = reported.1;
        numbers = refl;
        many = refl;
        is = reported.2;
        after = with_var scope next reported.0;
        well_formed = reported.3;
        fit = fit_push known next scope reported.0 start.fit;
        defines = λ y e. let p = equal y next (sym (reported.4 y) ∙ e) in (omega (arith, p), omega (arith, p));
        distinct = distinct-more names (length known) name.name first.0 first.1 start.distinct (number-take names (length known) name.name ∙ not_before (number_of names name.name) (length known) no_before);
        left = first.2;
      }

      go : (b : Bool) → is_before (number_of names name.name) (length known) ≡ b → StmtReported (naming f) known next scope rest (unless {A = Unit {0}} b tt name.at Twice >>= λ _. r)
      go true e = λ s is after well_formed distinct. is_there (number_of names name.name) (length known) e (sym (number-take names (length known) name.name) ∙ not_yet names (length known) name.name first.0 first.1 distinct)
      go false e = new r reported e

  -- ---- the parts of statements

  abbrev CellReported : Scope → Option ℕ → Option Expr → Result Cells TypeFault → Type 0
  CellReported scope t k (Ok c) = (t ≡ Some c.0) × (k ≡ Some c.1) × (is_wanted (type_in scope c.1) (key_type tables c.0) ≡ true)
  CellReported scope t k (Err f) = (a : ℕ) (b : Expr) → t ≡ Some a → k ≡ Some b → is_wanted (type_in scope b) (key_type tables a) ≡ false

  cell_reported : (scope : Scope) (at : ℕ) (t : Option ℕ) (k : Option Expr) (r : ℕ → Result Expr TypeFault) → ((a : ℕ) → Passed scope (λ ty. is_wanted ty (key_type tables a)) k (r a))
      → CellReported scope t k (known_at at t >>= λ a. r a >>= λ b. Ok (a, b))
  cell_reported scope at None k r reported = λ a b p q. absurd (none_is p)
  cell_reported scope at (Some a) k r reported = go (r a) (reported a)
    where
      go : (q : Result Expr TypeFault) → Passed scope (λ ty. is_wanted ty (key_type tables a)) k q → CellReported scope (Some a) k (q >>= λ b. Ok (a, b))
      go (Ok b) p = (refl, p.0, p.1)
      go (Err f) p = λ c b e q. ap (λ n. is_wanted (type_in scope b) (key_type tables n)) (sym (some_is e)) ∙ p b q

  abbrev FieldReported : Scope → Option ℕ → Option Expr → (ℕ → Option ℕ) → Result Fields TypeFault → Type 0
  FieldReported scope t k c (Ok f) = (t ≡ Some f.0) × (k ≡ Some f.1) × (c f.0 ≡ Some f.2) × (is_wanted (type_in scope f.1) (key_type tables f.0) ≡ true)
  FieldReported scope t k c (Err f) = (a : ℕ) (b : Expr) (d : ℕ) → t ≡ Some a → k ≡ Some b → c a ≡ Some d → is_wanted (type_in scope b) (key_type tables a) ≡ false

  field_reported : (scope : Scope) (at : ℕ) (t : Option ℕ) (k : Option Expr) (c : ℕ → Option ℕ) (r : Result Cells TypeFault) → CellReported scope t k r → FieldReported scope t k c (r >>= λ a. known_at at (c a.0) >>= λ d. Ok (a.0, a.1, d))
  field_reported scope at t k c (Err f) reported = λ a b d p q e. reported a b p q
  field_reported scope at t k c (Ok x) reported = go (c x.0) refl
    where
      go : (o : Option ℕ) → c x.0 ≡ o → FieldReported scope t k c (known_at at o >>= λ d. Ok (x.0, x.1, d))
      go None e = λ a b d p q h. absurd (none_is (sym e ∙ ap c (some_is (sym reported.0 ∙ p)) ∙ h))
      go (Some d) e = (reported.0, reported.1, e, reported.2)

  -- values of their columns' types
  abbrev ValuesReported : Scope → Option (List Expr) → List Ty → Result (List Expr) TypeFault → Type 0
  ValuesReported scope o tys (Ok xs) = (o ≡ Some xs) × (are_wanted (map (type_in scope) xs) tys ≡ true)
  ValuesReported scope o tys (Err f) = (xs : List Expr) → o ≡ Some xs → are_wanted (map (type_in scope) xs) tys ≡ false

  abbrev list_of : Option Expr → Option (List Expr) → Option (List Expr)
  list_of o os = option_and_then (λ a. option_map (λ as_. a ∷ as_) os) o

  list_is : (o : Option Expr) (os : Option (List Expr)) (xs : List Expr) → list_of o os ≡ Some xs → (a : Expr) × (as_ : List Expr) × (o ≡ Some a) × (os ≡ Some as_) × (a ∷ as_ ≡ xs)
  list_is None os xs h = absurd (none_is h)
  list_is (Some a) None xs h = absurd (none_is h)
  list_is (Some a) (Some as_) xs h = (a, as_, refl, refl, some_is h)

  values_step : (scope : Scope) (ty : Ty) (tys : List Ty) (o : Option Expr) (os : Option (List Expr)) (r : Result Expr TypeFault) (rs : Result (List Expr) TypeFault) → Passed scope (λ t. is_wanted t (Some ty)) o r → ValuesReported scope os tys rs
      → ValuesReported scope (list_of o os) (ty ∷ tys) (r >>= λ x. rs >>= λ xs. Ok (x ∷ xs))
  values_step scope ty tys o os (Err f) rs p q = λ xs is. let h = list_is o os xs is in
      sym (ap (λ zs. are_wanted (map (type_in scope) zs) (ty ∷ tys)) h.4) ∙ left_false _ _ (p h.0 h.2)
  values_step scope ty tys o os (Ok x) (Err f) p q = λ xs is. let h = list_is o os xs is in
      sym (ap (λ zs. are_wanted (map (type_in scope) zs) (ty ∷ tys)) h.4) ∙ right_false _ _ (q h.1 h.3)
  values_step scope ty tys o os (Ok x) (Ok xs) p q = (ap (λ z. list_of z os) p.0 ∙ ap (λ z. list_of (Some x) z) q.0, both_true _ _ p.1 q.1)

  wanted_length : (types : List (Option Ty)) (tys : List Ty) → are_wanted types tys ≡ true → length types ≡ length tys
  wanted_length [] [] h = refl
  wanted_length [] (ty ∷ tys) h = absurd (true≢false (sym h))
  wanted_length (t ∷ ts) [] h = absurd (true≢false (sym h))
  wanted_length (t ∷ ts) (ty ∷ tys) h = ap suc (wanted_length ts tys (and_true (is_wanted t (Some ty)) (are_wanted ts tys) h).1)

  length_types : (scope : Scope) (xs : List Expr) → length (map (type_in scope) xs) ≡ length xs
  length_types scope [] = refl
  length_types scope (x ∷ xs) = ap suc (length_types scope xs)

  -- ---- forms

  pub after_is : (s : Stmt) (c : Check) (scope : Scope) → check tables s ≡ c → scope_after tables s scope ≡ c.after scope
  after_is s c scope e = ap (λ (c : Check). c.after scope) e

  pub defines_is : (s : Stmt) (c : Check) (y : ℕ) → check tables s ≡ c → (check tables s).defines y ≡ c.defines y
  defines_is s c y e = ap (λ (c : Check). c.defines y) e

  module _ (known : List (Option Variable)) (next : ℕ) (scope : Scope) (fit : Fit known next scope) where
    here : ScopeState
    here = record { names = names; known = known; next = next }

    pub cell_of_node : (table : NameNode) (key : ExprNode) → CellReported scope (table_number tables table.name) (resolved names (numbers_of known) key) (checked_cell tables (record { names = names; known = known; next = next }) table key)
    cell_of_node table key = cell_reported scope table.at (table_number tables table.name) _ _ (λ a. wanted_passed names known next scope fit key (key_type tables a))

    pub field_of_node : (table : NameNode) (key : ExprNode) (column : NameNode)
        → FieldReported scope (table_number tables table.name) (resolved names (numbers_of known) key) (λ t. column_number tables t column.name) (checked_field tables (record { names = names; known = known; next = next }) table key column)
    field_of_node table key column = field_reported scope column.at _ _ (λ t. column_number tables t column.name) _ (cell_of_node table key)

    pub let_reported : (o : Option Expr) (r : Result Typed TypeFault) → Said scope o r → NamingReported known next scope (option_map (λ e. Let next e) o) (r >>= λ v. Ok (Let next v.expr, with_variable v.ty (record { names = names; known = known; next = next })))
    let_reported o (Err f) reported = λ s is. let h = map_is (λ e. Let next e) o s is in
        ap (λ z. scope_after tables z scope) (sym h.2) ∙ after_is _ _ scope (at-Let Check (check_step tables) _ next h.0 refl) ∙ ap (option_map (with_var scope next)) (reported h.0 h.1)
    let_reported o (Ok v) reported = (
      v.ty,
      refl,
      ap (λ z. option_map (λ e. Let next e) z) reported.0,
      after_is _ _ scope (at-Let Check (check_step tables) _ next v.expr refl) ∙ ap (option_map (with_var scope next)) reported.1,
      λ y. defines_is _ _ y (at-Let Check (check_step tables) _ next v.expr refl),
    )

    pub read_reported : (t : Option ℕ) (k : Option Expr) (c : ℕ → Option ℕ) (default : LiteralNode) (r : Result Fields TypeFault) → FieldReported scope t k c r
        → NamingReported known next scope (cell_by t k (λ t k. option_map (λ c. Read next t k c default.value) (c t))) (r >>= λ f. checked_read tables (record { names = names; known = known; next = next }) f default)
    read_reported t k c default (Err f) reported = λ s is.
        let h = cell_is t k _ s is in
        let g = map_is (λ c. Read next h.0 h.1 c default.value) (c h.0) s h.4 in
        ap (λ z. scope_after tables z scope) (sym g.2) ∙ after_is _ _ scope (at-Read Check (check_step tables) _ next h.0 h.1 g.0 default.value refl) ∙ so_false _ _ (left_false _ _ (reported h.0 h.1 g.0 h.2 h.3 g.1))
    read_reported t k c default (Ok f) reported = go (is_wanted (Some (type_of default.value)) (column_type tables f.0 f.2)) refl
      where
        the_form : check tables (Read next f.0 f.1 f.2 default.value) ≡ check_step tables (form.Read next f.0 f.1 f.2 default.value)
        the_form = at-Read Check (check_step tables) _ next f.0 f.1 f.2 default.value refl

        found : cell_by t k (λ t k. option_map (λ c. Read next t k c default.value) (c t)) ≡ Some (Read next f.0 f.1 f.2 default.value)
        found = ap (λ z. cell_by z k (λ t k. option_map (λ c. Read next t k c default.value) (c t))) reported.0 ∙ ap (λ z. cell_by (Some f.0) z (λ t k. option_map (λ c. Read next t k c default.value) (c t))) reported.1 ∙ ap (λ z. option_map (λ c. Read next f.0 f.1 c default.value) z) reported.2

        go : (b : Bool) → is_wanted (Some (type_of default.value)) (column_type tables f.0 f.2) ≡ b
            → NamingReported known next scope (cell_by t k (λ t k. option_map (λ c. Read next t k c default.value) (c t))) (taken default.at b >>= λ _. Ok (Read next f.0 f.1 f.2 default.value, with_variable (type_of default.value) (record { names = names; known = known; next = next })))
        go true e = (type_of default.value, refl, found, after_is _ _ scope the_form ∙ so_some _ _ (both_true _ _ reported.3 e), λ y. defines_is _ _ y the_form)
        go false e = λ s is. ap (λ z. scope_after tables z scope) (some_is (sym is ∙ found)) ∙ after_is _ _ scope the_form ∙ so_false _ _ (right_false _ _ e)

    pub has_reported : (t : Option ℕ) (k : Option Expr) (r : Result Cells TypeFault) → CellReported scope t k r
        → NamingReported known next scope (cell_by t k (λ t k. Some (Has next t k))) (r >>= λ c. Ok (Has next c.0 c.1, with_variable BoolTy (record { names = names; known = known; next = next })))
    has_reported t k (Err f) reported = λ s is. let h = cell_is t k _ s is in
        ap (λ z. scope_after tables z scope) (sym (some_is h.4)) ∙ after_is _ _ scope (at-Has Check (check_step tables) _ next h.0 h.1 refl) ∙ so_false _ _ (reported h.0 h.1 h.2 h.3)
    has_reported t k (Ok c) reported = (
      BoolTy,
      refl,
      ap (λ z. cell_by z k (λ t k. Some (Has next t k))) reported.0 ∙ ap (λ z. cell_by (Some c.0) z (λ t k. Some (Has next t k))) reported.1,
      after_is _ _ scope (at-Has Check (check_step tables) _ next c.0 c.1 refl) ∙ so_some _ _ reported.2,
      λ y. defines_is _ _ y (at-Has Check (check_step tables) _ next c.0 c.1 refl),
    )

    pub delete_reported : (t : Option ℕ) (k : Option Expr) (r : Result Cells TypeFault) → CellReported scope t k r
        → PlainReported known next scope (cell_by t k (λ t k. Some (Delete t k))) (r >>= λ c. Ok (Delete c.0 c.1, record { names = names; known = known; next = next }))
    delete_reported t k (Err f) reported = λ s is. let h = cell_is t k _ s is in
        ap (λ z. scope_after tables z scope) (sym (some_is h.4)) ∙ after_is _ _ scope (at-Delete Check (check_step tables) _ h.0 h.1 refl) ∙ so_false _ _ (reported h.0 h.1 h.2 h.3)
    delete_reported t k (Ok c) reported = (
      refl,
      ap (λ z. cell_by z k (λ t k. Some (Delete t k))) reported.0 ∙ ap (λ z. cell_by (Some c.0) z (λ t k. Some (Delete t k))) reported.1,
      after_is _ _ scope (at-Delete Check (check_step tables) _ c.0 c.1 refl) ∙ so_some _ _ reported.2,
      λ y. defines_is _ _ y (at-Delete Check (check_step tables) _ c.0 c.1 refl),
    )

    pub abort_reported : (o : Option Expr) (r : Result Expr TypeFault) → Passed scope is_bool o r → PlainReported known next scope (option_map (λ e. AbortIf e) o) (r >>= λ e. Ok (AbortIf e, record { names = names; known = known; next = next }))
    abort_reported o (Err f) reported = λ s is. let h = map_is (λ e. AbortIf e) o s is in
        ap (λ z. scope_after tables z scope) (sym h.2) ∙ after_is _ _ scope (at-AbortIf Check (check_step tables) _ h.0 refl) ∙ so_false _ _ (reported h.0 h.1)
    abort_reported o (Ok e) reported = (
      refl,
      ap (λ z. option_map (λ e. AbortIf e) z) reported.0,
      after_is _ _ scope (at-AbortIf Check (check_step tables) _ e refl) ∙ so_some _ _ reported.1,
      λ y. defines_is _ _ y (at-AbortIf Check (check_step tables) _ e refl),
    )

    pub set_reported : (t : Option ℕ) (k : Option Expr) (c : ℕ → Option ℕ) (o : Option Expr) (r : Result Fields TypeFault) (q : Option Ty → Result Expr TypeFault) → FieldReported scope t k c r → ((by : Option Ty) → Passed scope (λ ty. is_wanted ty by) o (q by))
        → PlainReported known next scope (cell_by t k (λ t k. option_and_then (λ c. option_map (λ e. Set t k c e) o) (c t))) (r >>= λ f. q (column_type tables f.0 f.2) >>= λ e. Ok (Set f.0 f.1 f.2 e, record { names = names; known = known; next = next }))
    set_reported t k c o (Err f) q reported passes = λ s is.
        let h = cell_is t k _ s is in
        let g = then_is (λ c. option_map (λ e. Set h.0 h.1 c e) o) (c h.0) s h.4 in
        let j = map_is (λ e. Set h.0 h.1 g.0 e) o s g.2 in
        ap (λ z. scope_after tables z scope) (sym j.2) ∙ after_is _ _ scope (at-Set Check (check_step tables) _ h.0 h.1 g.0 j.0 refl) ∙ so_false _ _ (left_false _ _ (reported h.0 h.1 g.0 h.2 h.3 g.1))
    set_reported t k c o (Ok f) q reported passes = go (q (column_type tables f.0 f.2)) (passes (column_type tables f.0 f.2))
      where
        numbered_set : Option Stmt
        numbered_set = cell_by t k (λ t k. option_and_then (λ c. option_map (λ e. Set t k c e) o) (c t))

        found : numbered_set ≡ option_map (λ e. Set f.0 f.1 f.2 e) o
        found = ap (λ z. cell_by z k (λ t k. option_and_then (λ c. option_map (λ e. Set t k c e) o) (c t))) reported.0 ∙ ap (λ z. cell_by (Some f.0) z (λ t k. option_and_then (λ c. option_map (λ e. Set t k c e) o) (c t))) reported.1
            ∙ ap (λ z. option_and_then (λ c. option_map (λ e. Set f.0 f.1 c e) o) z) reported.2

        go : (r : Result Expr TypeFault) → Passed scope (λ ty. is_wanted ty (column_type tables f.0 f.2)) o r → PlainReported known next scope numbered_set (r >>= λ e. Ok (Set f.0 f.1 f.2 e, record { names = names; known = known; next = next }))
        go (Err g) p = λ s is. let j = map_is (λ e. Set f.0 f.1 f.2 e) o s (sym found ∙ is) in
            ap (λ z. scope_after tables z scope) (sym j.2) ∙ after_is _ _ scope (at-Set Check (check_step tables) _ f.0 f.1 f.2 j.0 refl) ∙ so_false _ _ (right_false _ _ (p j.0 j.1))
        go (Ok e) p = (
          refl,
          found ∙ ap (λ z. option_map (λ e. Set f.0 f.1 f.2 e) z) p.0,
          after_is _ _ scope (at-Set Check (check_step tables) _ f.0 f.1 f.2 e refl) ∙ so_some _ _ (both_true _ _ reported.3 p.1),
          λ y. defines_is _ _ y (at-Set Check (check_step tables) _ f.0 f.1 f.2 e refl),
        )

    values_reported : (es : List ExprNode) (tys : List Ty) → length es ≡ length tys → ValuesReported scope (resolved_all names (numbers_of known) es) tys (checked_values (record { names = names; known = known; next = next }) es tys)
    values_reported [] [] e = (refl, refl)
    values_reported [] (ty ∷ tys) e = let never : ⊥ = omega (arith, e) in absurd never
    values_reported (x ∷ xs) [] e = let never : ⊥ = omega (arith, e) in absurd never
    values_reported (x ∷ xs) (ty ∷ tys) e = values_step scope ty tys _ _ _ _ (wanted_passed names known next scope fit x (Some ty)) (values_reported xs tys (omega (arith, e)))

  resolved_length : (sight : Sight) (es : List ExprNode) (xs : List Expr) → resolved_all names sight es ≡ Some xs → length xs ≡ length es
  resolved_length sight [] xs h = ap length (sym (some_is h))
  resolved_length sight (e ∷ es) xs h = let p = list_is (resolved names sight e) (resolved_all names sight es) xs h in
      ap length (sym p.4) ∙ ap suc (resolved_length sight es p.1 p.3)

  -- each table has 1 to 8 columns
  abbrev pub Wide : Type 0
  Wide = (name : List ℕ) (t : ℕ) → table_number tables name ≡ Some t → is_width (length (column_types tables t)) ≡ true

  module _ (wide : Wide) (known : List (Option Variable)) (next : ℕ) (scope : Scope) (fit : Fit known next scope) (table : NameNode) (key : ExprNode) (values : List ExprNode) where
    abbrev pub PutReported : Result Stmt TypeFault → Type 0
    PutReported r = PlainReported known next scope (cell_by (table_number tables table.name) (resolved names (numbers_of known) key) (λ t k. option_map (λ es. Put t k es) (resolved_all names (numbers_of known) values))) (r >>= λ s. Ok (s, record { names = names; known = known; next = next }))

    -- what a `put` by numbers is
    put_is : (s : Stmt) → cell_by (table_number tables table.name) (resolved names (numbers_of known) key) (λ t k. option_map (λ es. Put t k es) (resolved_all names (numbers_of known) values)) ≡ Some s
        → (t : ℕ) × (k : Expr) × (es : List Expr) × (table_number tables table.name ≡ Some t) × (resolved names (numbers_of known) key ≡ Some k) × (resolved_all names (numbers_of known) values ≡ Some es)
        × (scope_after tables s scope ≡ if_so (is_wanted (type_in scope k) (key_type tables t) && is_width (length es) && are_wanted (map (type_in scope) es) (column_types tables t)) scope)
    put_is s is =
        let h = cell_is _ _ _ s is in
        let g = map_is (λ es. Put h.0 h.1 es) (resolved_all names (numbers_of known) values) s h.4 in
        (h.0, h.1, g.0, h.2, h.3, g.1, ap (λ z. scope_after tables z scope) (sym g.2) ∙ after_is _ _ scope (at-Put Check (check_step tables) _ h.0 h.1 g.0 refl))

    module _ (t : ℕ) (at_table : table_number tables table.name ≡ Some t) where
      put_values : (k : Expr) → resolved names (numbers_of known) key ≡ Some k → is_wanted (type_in scope k) (key_type tables t) ≡ true → (r : Result (List Expr) TypeFault) → ValuesReported scope (resolved_all names (numbers_of known) values) (column_types tables t) r
          → PutReported (r >>= λ es. Ok (Put t k es))
      put_values k is_key wants (Err f) reported = λ s is. let h = put_is s is in
          h.6 ∙ so_false _ _ (right_false _ _ (ap (λ n. are_wanted (map (type_in scope) h.2) (column_types tables n)) (some_is (sym h.3 ∙ at_table)) ∙ reported h.2 h.5))
      put_values k is_key wants (Ok es) reported =
          let width : is_width (length es) ≡ true = ap is_width (sym (length_types scope es) ∙ wanted_length _ _ reported.1) ∙ wide table.name t at_table in (
            refl,
            ap (λ z. cell_by z (resolved names (numbers_of known) key) (λ t k. option_map (λ es. Put t k es) (resolved_all names (numbers_of known) values))) at_table
                ∙ ap (λ z. cell_by (Some t) z (λ t k. option_map (λ es. Put t k es) (resolved_all names (numbers_of known) values))) is_key ∙ ap (λ z. option_map (λ es. Put t k es) z) reported.0,
            after_is _ _ scope (at-Put Check (check_step tables) _ t k es refl) ∙ so_some _ _ (both_true _ _ (both_true _ _ wants width) reported.1),
            λ y. defines_is _ _ y (at-Put Check (check_step tables) _ t k es refl),
          )

      put_key : length values ≡ length (column_types tables t) → (r : Result Expr TypeFault) → Passed scope (λ ty. is_wanted ty (key_type tables t)) (resolved names (numbers_of known) key) r
          → PutReported (r >>= λ k. checked_values (record { names = names; known = known; next = next }) values (column_types tables t) >>= λ es. Ok (Put t k es))
      put_key many (Err f) reported = λ s is. let h = put_is s is in
          h.6 ∙ so_false _ _ (left_false _ _ (left_false _ _ (ap (λ n. is_wanted (type_in scope h.1) (key_type tables n)) (some_is (sym h.3 ∙ at_table)) ∙ reported h.1 h.4)))
      put_key many (Ok k) reported = put_values k reported.0 reported.1 _ (values_reported known next scope fit values (column_types tables t) many)

      put_counted : (b : Bool) → nat_eq (length values) (length (column_types tables t)) ≡ b
          → PutReported (unless {A = Unit {0}} (not b) tt table.at WrongCount >>= λ _. checked_wanted (record { names = names; known = known; next = next }) key (key_type tables t) >>= λ k. checked_values (record { names = names; known = known; next = next }) values (column_types tables t) >>= λ es. Ok (Put t k es))
      put_counted true e = put_key (equal _ _ e) _ (wanted_passed names known next scope fit key (key_type tables t))
      put_counted false e = λ s is. let h = put_is s is in h.6 ∙ so_false _ _ (right_false _ _ (unequal h.0 h.2 (some_is (sym h.3 ∙ at_table)) (resolved_length (numbers_of known) values h.2 h.5) (are_wanted (map (type_in scope) h.2) (column_types tables h.0)) refl))
        where
          unequal : (u : ℕ) (es : List Expr) → u ≡ t → length es ≡ length values → (b : Bool) → are_wanted (map (type_in scope) es) (column_types tables u) ≡ b → b ≡ false
          unequal u es same many false h = refl
          unequal u es same many true h =
              let long : length values ≡ length (column_types tables t) = sym many ∙ sym (length_types scope es) ∙ wanted_length _ _ h ∙ ap (λ n. length (column_types tables n)) same in
              absurd (true≢false (sym (itself (length values)) ∙ ap (λ n. nat_eq (length values) n) long ∙ e))

    pub put_reported : (o : Option ℕ) → table_number tables table.name ≡ o
        → PutReported (known_at table.at o >>= λ t. same_count table.at (length values) (length (column_types tables t)) >>= λ _. checked_wanted (record { names = names; known = known; next = next }) key (key_type tables t) >>= λ k. checked_values (record { names = names; known = known; next = next }) values (column_types tables t) >>= λ es. Ok (Put t k es))
    put_reported None e = λ s is. let h = put_is s is in absurd (none_is (sym e ∙ h.3))
    put_reported (Some t) e = put_counted t e (nat_eq (length values) (length (column_types tables t))) refl
