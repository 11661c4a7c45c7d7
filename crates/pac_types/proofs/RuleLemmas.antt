-- Checking from left to right meets the first of the faults of statements.
use Rattle.std.proofs.Common.{◌≡◌, ℕ, zero, suc, ◌+◌, Bool, true, false, List, [], ◌∷◌, ◌++◌, length, replicate, Option, Some, None, Result, Ok, Err, true≢false, refl, sym, ap, subst, ◌∙◌}
use Rattle.std.specs.Prelude.{nat_eq, not, if◌then◌else◌}
use Rattle.std.specs.Option.{option_map, option_and_then}
use Rattle.std.proofs.lemmas.List.{append-nil, length-map}
use Rattle.pac_value.specs.declared.values.Ty.{Ty}
use Rattle.pac_value.specs.declared.values.Ty.TheVariants.{Int as IntTy, Text as TextTy, Bool as BoolTy}
use Rattle.pac_value.specs.declared.expr.Expr.{Expr}
use Rattle.pac_value.specs.Values.{type_of}
use Rattle.pac_value.specs.Expressions.{◌>>=◌}
use Rattle.pac_syntax.specs.declared.tree.NameNode.{NameNode}
use Rattle.pac_syntax.specs.declared.tree.LiteralNode.{LiteralNode}
use Rattle.pac_syntax.specs.declared.tree.ExprNode.{ExprNode}
use Rattle.pac_types.specs.declared.type_error.TypeFault.{TypeFault}
use Rattle.pac_types.specs.declared.type_error.TypeFaultKind.TheVariants.{WrongType, WrongCount}
use Rattle.pac_types.specs.declared.checker.scope.Variable.{Variable}
use Rattle.pac_types.specs.declared.checker.expressions.Typed.{Typed}
use Rattle.pac_types.specs.declared.table.Table.{Table}
use Rattle.pac_types.specs.declared.statement.Stmt.{Stmt, Let, Read, Has, Put, Set}
use Rattle.pac_types.specs.Numbering.{table_number, column_number}
use Rattle.pac_types.specs.WellFormed.{key_type, column_type, column_types}
use Rattle.pac_value.specs.Scopes.{is_wanted}
use Rattle.pac_types.specs.Faults.{fault_if, twice, Known, out_of_sight, is_fitting, Judged, wrong_type, placed, judged, unknown, key_wanted, column_wanted, column_faults, wrong_count, values_wanted, values_faults, cell_faults, Ruled, ruled_naming, ruled_plain}
use Rattle.pac_types.specs.Checking.{ScopeState, Reported, Cells, Fields, once, unless, taken, known_at, with_variable, checked_expr, checked_wanted, checked_cell, checked_field, checked_read, same_count, checked_values, checked_put}
use Rattle.pac_types.proofs.PartLemmas.{equal}
use Rattle.pac_types.proofs.FaultLemmas.{Agree, agree_then, agree_map, agree_same, once_agrees, known_types, JudgedBy, expr_judged, wanted_agrees, values_agree, key_found, column_found, then_ok, cell_agrees}

-- ---- the parts of statements

module _ (tables : List Table) (names : List (List ℕ)) (known : List (Option Variable)) (next : ℕ) where
  abbrev st : ScopeState
  st = record { names = names; known = known; next = next }

  abbrev judge : ExprNode → Judged
  judge = judged names (known_types known)

  known_found : (o : Option ℕ) (at t : ℕ) → known_at at o ≡ Ok t → o ≡ Some t
  known_found None at t h = absurd cc
  known_found (Some n) at t h = cc

  -- the table of a cell that was checked
  cell_table : (table : NameNode) (key : ExprNode) (a : Cells) → checked_cell tables st table key ≡ Ok a → table_number tables table.name ≡ Some a.0
  cell_table table key a h =
      let p = then_ok (known_at table.at (table_number tables table.name)) _ a h in
      let q = then_ok (checked_wanted st key (key_type tables p.0)) _ a p.2 in
      known_found _ table.at p.0 p.1 ∙ ap Some (first_is p.0 q.0 a q.2)
    where
      first_is : (t : ℕ) (k : Expr) (a : Cells) → ◌≡◌ {A = Result Cells TypeFault} (Ok (t, k)) (Ok a) → t ≡ a.0
      first_is t k a h = cc

  -- the table and the column of a field that was checked
  field_found : (table : NameNode) (key : ExprNode) (column : NameNode) (f : Fields) → checked_field tables st table key column ≡ Ok f → (table_number tables table.name ≡ Some f.0) × (column_number tables f.0 column.name ≡ Some f.2)
  field_found table key column f h =
      let p = then_ok (checked_cell tables st table key) _ f h in
      let q = then_ok (known_at column.at (column_number tables p.0.0 column.name)) _ f p.2 in
      let same = parts_are p.0 q.0 f q.2 in
      (cell_table table key p.0 p.1 ∙ ap Some same.0, ap (λ t. column_number tables t column.name) (sym same.0) ∙ known_found _ column.at q.0 q.1 ∙ ap Some same.1)
    where
      parts_are : (a : Cells) (c : ℕ) (f : Fields) → ◌≡◌ {A = Result Fields TypeFault} (Ok (a.0, a.1, c)) (Ok f) → (a.0 ≡ f.0) × (c ≡ f.2)
      parts_are a c f h = (cc, cc)

  pub field_agrees : (table : NameNode) (key : ExprNode) (column : NameNode) → Agree (cell_faults tables judge table key ++ column_faults tables (table_number tables table.name) column) (checked_field tables st table key column)
  field_agrees table key column = agree_then _ _ (checked_cell tables st table key) (λ a. known_at column.at (column_number tables a.0 column.name) >>= λ c. Ok (a.0, a.1, c)) (cell_agrees tables names known next table key)
      (λ a is. agree_same {A = Fields} _ _ _ (ap (λ o. column_faults tables o column) (cell_table table key a is)) (go a (column_number tables a.0 column.name)))
    where
      go : (a : Cells) (o : Option ℕ) → Agree {A = Fields} (unknown o column.at) (known_at column.at o >>= λ c. Ok (a.0, a.1, c))
      go a None = ([], refl)
      go a (Some c) = refl

  -- the type that a column wants
  pub column_is : (table : NameNode) (key : ExprNode) (column : NameNode) (f : Fields) → checked_field tables st table key column ≡ Ok f
      → (ty : Ty) × (column_type tables f.0 f.2 ≡ Some ty) × (column_wanted tables (table_number tables table.name) column.name ≡ column_type tables f.0 f.2)
  column_is table key column f h =
      let p = field_found table key column f h in
      let w = column_found tables f.0 column.name f.2 p.1 in
      (w.0, w.1, ap (λ o. column_wanted tables o column.name) p.0 ∙ ap (λ o. option_and_then (λ c. column_type tables f.0 c) o) p.1)

  pub put_agrees : (table : NameNode) (key : ExprNode) (values : List ExprNode) → Agree (unknown (table_number tables table.name) table.at ++ (wrong_count tables (table_number tables table.name) table.at (length values)
      ++ (placed (is_fitting (key_wanted tables (table_number tables table.name))) (judge key) ++ values_faults judge values (values_wanted tables (table_number tables table.name) (length values))))) (checked_put tables st table key values)
  put_agrees table key values = go (table_number tables table.name) refl
    where
      count : (t : ℕ) → table_number tables table.name ≡ Some t → (b : Bool) → nat_eq (length values) (length (column_types tables t)) ≡ b
          → Agree {A = Stmt} (fault_if (not b) table.at WrongCount ++ (placed (is_fitting (key_type tables t)) (judge key) ++ values_faults judge values (if b then column_types tables t else [])))
          (unless {A = Unit {0}} (not b) tt table.at WrongCount >>= λ _. checked_wanted st key (key_type tables t) >>= λ k. checked_values st values (column_types tables t) >>= λ es. Ok (Put t k es))
      count t e false g = (_, refl)
      count t e true g = let w = key_found tables table.name t e in
          agree_then _ _ (checked_wanted st key (key_type tables t)) (λ k. checked_values st values (column_types tables t) >>= λ es. Ok (Put t k es)) (wanted_agrees names known next key (key_type tables t) w.0 w.1)
          (λ k is. agree_map _ (checked_values st values (column_types tables t)) (λ es. Put t k es) (values_agree names known next values (column_types tables t) (equal _ _ g)))

      go : (o : Option ℕ) → table_number tables table.name ≡ o → Agree {A = Stmt} (unknown o table.at ++ (wrong_count tables o table.at (length values) ++ (placed (is_fitting (key_wanted tables o)) (judge key) ++ values_faults judge values (values_wanted tables o (length values)))))
          (known_at table.at o >>= λ t. same_count table.at (length values) (length (column_types tables t)) >>= λ _. checked_wanted st key (key_type tables t) >>= λ k. checked_values st values (column_types tables t) >>= λ es. Ok (Put t k es))
      go None e = (_, refl)
      go (Some t) e = count t e (nat_eq (length values) (length (column_types tables t))) refl

-- ---- statements

pub types-append : (a b : List (Option Variable)) → known_types (a ++ b) ≡ known_types a ++ known_types b
types-append [] b = refl
types-append (x ∷ a) b = ap (λ zs. option_map (λ v. Some v.ty) x ∷ zs) (types-append a b)

pub types-unseen : (k : ℕ) → known_types (replicate k None) ≡ out_of_sight k
types-unseen zero = refl
types-unseen (suc k) = ap (λ zs. None ∷ zs) (types-unseen k)

abbrev pub at : List (List ℕ) → List (Option Variable) → ℕ → ScopeState
at names known next = record { names = names; known = known; next = next }

-- where no fault stands in a statement, what is known after it; or the first fault
abbrev pub StmtAgrees : List (List ℕ) → Ruled → List (Option Variable) → Reported → Type 0
StmtAgrees names d known (Ok a) = (d.faults (known_types known) ≡ []) × (extra : List (Option Variable)) × (n : ℕ) × (a.1 ≡ at names (known ++ extra) n) × (known_types extra ≡ d.shown (known_types known)) × (length extra ≡ d.names)
StmtAgrees names d known (Err f) = (rest : List TypeFault) × (d.faults (known_types known) ≡ f ∷ rest)

module _ (names : List (List ℕ)) (known : List (Option Variable)) (next : ℕ) where
  -- a statement that defines nothing leaves what is known
  pub plain_agrees : {A : Type 0} (faults : Known → List TypeFault) (r : Result A TypeFault) (h : A → Stmt) → Agree (faults (known_types known)) r → StmtAgrees names (ruled_plain faults) known (r >>= λ x. Ok (h x, at names known next))
  plain_agrees faults (Ok x) h p = (p, [], next, (λ i. at names (sym (append-nil known) i) next), refl, refl)
  plain_agrees faults (Err f) h p = p

  -- one that defines a variable, after its name
  abbrev pub NamingAgrees : Option Ty → List TypeFault → Reported → Type 0
  NamingAgrees o faults (Ok a) = (faults ≡ []) × (ty : Ty) × (a.1 ≡ with_variable ty (at names known next)) × (o ≡ Some ty)
  NamingAgrees o faults (Err f) = (rest : List TypeFault) × (faults ≡ f ∷ rest)

  pub naming_agrees : (ty : Known → Option Ty) (faults : Known → List TypeFault) (name : NameNode) (r : Reported) → NamingAgrees (ty (known_types known)) (faults (known_types known)) r
      → StmtAgrees names (ruled_naming ty (λ k. twice names (length k) name ++ faults k)) known (once names (length known) name >>= λ _. r)
  naming_agrees ty faults name r reported = go (once names (length known) name) (subst (λ k. Agree (twice names k name) (once names (length known) name)) (sym (length-map known (λ o. option_map (λ v. Some v.ty) o))) (once_agrees names (length known) name))
    where
      fresh : (r : Reported) → NamingAgrees (ty (known_types known)) (faults (known_types known)) r → twice names (length (known_types known)) name ≡ [] → StmtAgrees names (ruled_naming ty (λ k. twice names (length k) name ++ faults k)) known r
      fresh (Ok a) p e = (ap (λ zs. zs ++ faults (known_types known)) e ∙ p.0, Some (record { number = next; ty = p.1 }) ∷ [], next + 1, p.2, (λ i. Some (sym p.3 i) ∷ []), refl)
      fresh (Err f) p e = (p.0, ap (λ zs. zs ++ faults (known_types known)) e ∙ p.1)

      go : (q : Result (Unit {0}) TypeFault) → Agree (twice names (length (known_types known)) name) q → StmtAgrees names (ruled_naming ty (λ k. twice names (length k) name ++ faults k)) known (q >>= λ _. r)
      go (Ok x) p = fresh r reported p
      go (Err f) p = (p.0 ++ faults (known_types known), ap (λ zs. zs ++ faults (known_types known)) p.1)

  pub let_naming : (value : ExprNode) → NamingAgrees (judged names (known_types known) value).ty (judged names (known_types known) value).faults (checked_expr (at names known next) value >>= λ v. Ok (Let next v.expr, with_variable v.ty (at names known next)))
  let_naming value = go (checked_expr (at names known next) value) (expr_judged names known next value)
    where
      go : (r : Result Typed TypeFault) → JudgedBy (judged names (known_types known) value) r
          → NamingAgrees (judged names (known_types known) value).ty (judged names (known_types known) value).faults (r >>= λ v. Ok (Let next v.expr, with_variable v.ty (at names known next)))
      go (Ok v) p = (p.2, v.ty, refl, p.1)
      go (Err f) p = (p.1, p.2)

  module _ (tables : List Table) where
    pub has_naming : (table : NameNode) (key : ExprNode) → NamingAgrees (Some BoolTy) (cell_faults tables (judged names (known_types known)) table key) (checked_cell tables (at names known next) table key >>= λ c. Ok (Has next c.0 c.1, with_variable BoolTy (at names known next)))
    has_naming table key = go (checked_cell tables (at names known next) table key) (cell_agrees tables names known next table key)
      where
        go : (r : Result Cells TypeFault) → Agree (cell_faults tables (judged names (known_types known)) table key) r
            → NamingAgrees (Some BoolTy) (cell_faults tables (judged names (known_types known)) table key) (r >>= λ c. Ok (Has next c.0 c.1, with_variable BoolTy (at names known next)))
        go (Ok c) p = (p, BoolTy, refl, refl)
        go (Err f) p = p

    is_the_type : (a : Ty) (o : Option Ty) → is_wanted (Some a) o ≡ true → o ≡ Some a
    is_the_type IntTy (Some IntTy) h = refl
    is_the_type IntTy (Some TextTy) h = absurd (true≢false (sym h))
    is_the_type IntTy (Some BoolTy) h = absurd (true≢false (sym h))
    is_the_type TextTy (Some IntTy) h = absurd (true≢false (sym h))
    is_the_type TextTy (Some TextTy) h = refl
    is_the_type TextTy (Some BoolTy) h = absurd (true≢false (sym h))
    is_the_type BoolTy (Some IntTy) h = absurd (true≢false (sym h))
    is_the_type BoolTy (Some TextTy) h = absurd (true≢false (sym h))
    is_the_type BoolTy (Some BoolTy) h = absurd (true≢false (sym h))
    is_the_type IntTy None h = absurd (true≢false (sym h))
    is_the_type TextTy None h = absurd (true≢false (sym h))
    is_the_type BoolTy None h = absurd (true≢false (sym h))

    module _ (table : NameNode) (key : ExprNode) (column : NameNode) (default : LiteralNode) where
      abbrev wanted : Option Ty
      wanted = column_wanted tables (table_number tables table.name) column.name

      abbrev field_faults : List TypeFault
      field_faults = cell_faults tables (judged names (known_types known)) table key ++ column_faults tables (table_number tables table.name) column

      read_faults : (b : Bool) (ty : Ty) (by : Option Ty) → wanted ≡ by → by ≡ Some ty → is_wanted (Some (type_of default.value)) by ≡ b → wrong_type (is_fitting wanted) default.at (Some (type_of default.value)) ≡ fault_if (not b) default.at WrongType
      read_faults b ty by e w h = ap (λ o. fault_if (not (is_fitting o (type_of default.value))) default.at WrongType) (e ∙ w) ∙ ap (λ o. fault_if (not (is_wanted (Some (type_of default.value)) o)) default.at WrongType) (sym w) ∙ ap (λ c. fault_if (not c) default.at WrongType) h

      abbrev last : List TypeFault
      last = wrong_type (is_fitting wanted) default.at (Some (type_of default.value))

      pub read_naming : (r : Result Fields TypeFault) → Agree field_faults r → ((f : Fields) → r ≡ Ok f → (ty : Ty) × (column_type tables f.0 f.2 ≡ Some ty) × (wanted ≡ column_type tables f.0 f.2))
          → NamingAgrees wanted (field_faults ++ last) (r >>= λ f. checked_read tables (at names known next) f default)
      read_naming (Err f) p q = (p.0 ++ last, ap (λ zs. zs ++ last) p.1)
      read_naming (Ok f) p q = go (is_wanted (Some (type_of default.value)) (column_type tables f.0 f.2)) refl
        where
          w : (ty : Ty) × (column_type tables f.0 f.2 ≡ Some ty) × (wanted ≡ column_type tables f.0 f.2)
          w = q f refl

          go : (b : Bool) → is_wanted (Some (type_of default.value)) (column_type tables f.0 f.2) ≡ b
              → NamingAgrees wanted (field_faults ++ last) (taken default.at b >>= λ _. Ok (Read next f.0 f.1 f.2 default.value, with_variable (type_of default.value) (at names known next)))
          go true h = ((λ i. p i ++ read_faults true w.0 _ w.2 w.1 h i), type_of default.value, refl, w.2 ∙ is_the_type (type_of default.value) (column_type tables f.0 f.2) h)
          go false h = ([], λ i. p i ++ read_faults false w.0 _ w.2 w.1 h i)

    pub set_agrees : (table : NameNode) (key : ExprNode) (column : NameNode) (value : ExprNode)
        → Agree {A = Stmt × ScopeState} ((cell_faults tables (judged names (known_types known)) table key ++ column_faults tables (table_number tables table.name) column) ++ placed (is_fitting (column_wanted tables (table_number tables table.name) column.name)) (judged names (known_types known) value))
        (checked_field tables (at names known next) table key column >>= λ f. checked_wanted (at names known next) value (column_type tables f.0 f.2) >>= λ e. Ok (Set f.0 f.1 f.2 e, at names known next))
    set_agrees table key column value = agree_then _ _ (checked_field tables (at names known next) table key column) (λ f. checked_wanted (at names known next) value (column_type tables f.0 f.2) >>= λ e. Ok (Set f.0 f.1 f.2 e, at names known next)) (field_agrees tables names known next table key column)
        (λ f is. let w = column_is tables names known next table key column f is in
        agree_same {A = Stmt × ScopeState} _ _ _ (ap (λ o. placed (is_fitting o) (judged names (known_types known) value)) w.2) (agree_map _ (checked_wanted (at names known next) value (column_type tables f.0 f.2)) (λ e. (Set f.0 f.1 f.2 e, at names known next)) (wanted_agrees names known next value (column_type tables f.0 f.2) w.0 w.1)))

    abbrev set_rules : NameNode → ExprNode → NameNode → ExprNode → Ruled
    set_rules table key column value = ruled_plain (λ k. (cell_faults tables (judged names k) table key ++ column_faults tables (table_number tables table.name) column) ++ placed (is_fitting (column_wanted tables (table_number tables table.name) column.name)) (judged names k value))

    -- a `set` leaves what is known
    pub set_plain : (table : NameNode) (key : ExprNode) (column : NameNode) (value : ExprNode)
        → StmtAgrees names (set_rules table key column value) known (checked_field tables (at names known next) table key column >>= λ f. checked_wanted (at names known next) value (column_type tables f.0 f.2) >>= λ e. Ok (Set f.0 f.1 f.2 e, at names known next))
    set_plain table key column value = go (checked_field tables (at names known next) table key column) (set_agrees table key column value)
      where
        value_plain : (f : Fields) (r : Result Expr TypeFault) → Agree {A = Stmt × ScopeState} ((set_rules table key column value).faults (known_types known)) (r >>= λ e. Ok (Set f.0 f.1 f.2 e, at names known next))
            → StmtAgrees names (set_rules table key column value) known (r >>= λ e. Ok (Set f.0 f.1 f.2 e, at names known next))
        value_plain f (Ok e) p = (p, [], next, (λ i. at names (sym (append-nil known) i) next), refl, refl)
        value_plain f (Err x) p = p

        go : (r : Result Fields TypeFault) → Agree {A = Stmt × ScopeState} ((set_rules table key column value).faults (known_types known)) (r >>= λ f. checked_wanted (at names known next) value (column_type tables f.0 f.2) >>= λ e. Ok (Set f.0 f.1 f.2 e, at names known next))
            → StmtAgrees names (set_rules table key column value) known (r >>= λ f. checked_wanted (at names known next) value (column_type tables f.0 f.2) >>= λ e. Ok (Set f.0 f.1 f.2 e, at names known next))
        go (Err x) p = p
        go (Ok f) p = value_plain f (checked_wanted (at names known next) value (column_type tables f.0 f.2)) p
