-- What a derivation spells leads to its tree.
use Rattle.std.proofs.Common.{◌≡◌, ◌<◌, ◌≤◌, ℕ, zero, suc, ℤ, List, [], ◌∷◌, ◌++◌, Some, None, refl, sym, ap, subst, ◌∙◌, append_assoc, arith, inl, inr}
use Rattle.std.proofs.lemmas.Bool.{cases_lt, eq-eqb}
use Rattle.std.proofs.lemmas.List.{append-nil}
use Rattle.pac_value.specs.declared.values.Ty.{Ty}
use Rattle.pac_value.specs.declared.expr.BinOp.{BinOp}
use Rattle.pac_value.specs.declared.expr.BinOp.TheVariants as op
use Rattle.pac_tokens.specs.declared.token.Token.TheVariants as token
use Rattle.pac_tokens.specs.declared.token.Symbol.TheVariants as symbol
use Rattle.pac_syntax.specs.declared.limits.Around.{Around}
use Rattle.pac_syntax.specs.declared.tree.LiteralNode.{LiteralNode}
use Rattle.pac_syntax.specs.declared.tree.ColumnNode.{ColumnNode}
use Rattle.pac_syntax.specs.declared.tree.ExprNode.{ExprNode}
use Rattle.pac_syntax.specs.declared.tree.StmtNode.{StmtNode}
use Rattle.pac_syntax.specs.declared.tree.StmtNode.TheVariants as stmt
use Rattle.pac_syntax.specs.declared.tree.TableNode.{TableNode}
use Rattle.pac_syntax.specs.declared.tree.ProcNode.{ProcNode}
use Rattle.pac_syntax.specs.declared.tree.Tree.{Tree}
use Rattle.pac_syntax.specs.Grammar.{LiteralForm, AnInt, ANegative, AText, ATrue, AFalse, ExprForm, ALiteral, AName, ANot, AParen, ABinary, ValuesForm, NoValue, AValue, StmtsForm, NoStmt, ALet, ARead, AHas, APut, ASet, ADelete, AnAbort, AnIf, AnIfElse, ALoop, BoundForm, ABound, ANegativeBound, TypeForm, AnIntType, ATextType, ColumnsForm, NoColumn, AColumn, ParamsForm, NoParam, AParam, TablesForm, NoTable, ATable, ProcsForm, NoProc, AProc, operator_symbol, precedence, left_level, AtLevel, IsExpr, AreValues, AreStmts, AreProcs, literal_node, bound_value, outermost, inside_block, in_loop, expr_offset, expr_node, value_nodes, stmt_nodes, type_of_form, column_node, column_nodes, param_nodes, table_nodes, proc_nodes, Role, Plain, ColumnName, ParamName, Operator, Marked, symbol_mark, name_mark, type_mark, literal_before, bound_before, last_bound, counted, expr_before, whole_before, values_before, stmts_before, columns_before, params_before, tables_before, procs_before, Whole}
use Rattle.pac_syntax.specs.Machine.{Begun, Steps, WantType, WantLiteral, WantBound, Level, Rest, MoreValues, MoreStmts, MaybeElse, MoreColumns, SomeParams, MoreTables, MoreProcs, want_symbol, want_expr, begun_literal, begun_not, begun_paren, begun_binary, top, lay, columns_steps, tree_end, tree_procs, start, operator_of, operator_in, operator_at, of_precedence, feed, finish}
use Rattle.pac_syntax.proofs.Running.{Runs}

-- an expression with the offset at which it begins
abbrev pub begun : ExprForm → Begun
begun e = record { from = expr_offset e; expr = expr_node e }

-- ---- symbols of operators

pub operator_of-sign : (op : BinOp) → operator_of (operator_symbol op) ≡ Some op
operator_of-sign op.Add = refl
operator_of-sign op.Sub = refl
operator_of-sign op.Mul = refl
operator_of-sign op.Div = refl
operator_of-sign op.Rem = refl
operator_of-sign op.Eq = refl
operator_of-sign op.Ne = refl
operator_of-sign op.Lt = refl
operator_of-sign op.Le = refl
operator_of-sign op.Gt = refl
operator_of-sign op.Ge = refl
operator_of-sign op.And = refl
operator_of-sign op.Or = refl

of_precedence-same : (n : ℕ) (op : BinOp) → precedence op ≡ n → of_precedence n (Some op) ≡ Some op
of_precedence-same n op e = rw (eq-eqb (precedence op) n e) refl

of_precedence-other : (n : ℕ) (op : BinOp) → n < precedence op → of_precedence n (Some op) ≡ None
of_precedence-other n op lt = grind arith

at_symbol : (op : BinOp) → operator_at (precedence op) (token.Symbol (operator_symbol op)) ≡ Some op
at_symbol op = ap (of_precedence (precedence op)) (operator_of-sign op) ∙ of_precedence-same (precedence op) op refl

below_symbol : (op : BinOp) (j : ℕ) → j < precedence op → operator_at j (token.Symbol (operator_symbol op)) ≡ None
below_symbol op j lt = ap (of_precedence j) (operator_of-sign op) ∙ of_precedence-other j op lt

-- ---- levels

-- the first token is no operator of a precedence below n
abbrev pub Ends : ℕ → List Marked → Type 0
Ends n [] = Unit {0}
Ends n (m ∷ ms) = (j : ℕ) → j < n → operator_at j m.token.token ≡ None

-- a symbol or word that is no operator ends an expression
abbrev pub IsNoOperator : Marked → Type 0
IsNoOperator m = operator_in m.token.token ≡ None

pub ends_all : (n : ℕ) (m : Marked) (ms : List Marked) → IsNoOperator m → Ends n (m ∷ ms)
ends_all n m ms e = λ j lt. ap (of_precedence j) e

ends_below : (m n : ℕ) (x : List Marked) → m ≤ n → Ends n x → Ends m x
ends_below m n [] le h = tt
ends_below m n (t ∷ ts) le h = λ j lt. h j (omega arith)

-- what has to end where an expression of a level does
abbrev pub less : ℕ → ℕ
less zero = 0
less (suc zero) = 0
less (suc (suc zero)) = 1
less (suc (suc (suc zero))) = 3
less (suc (suc (suc (suc n)))) = suc (suc (suc n))

less-le : (n : ℕ) → less n ≤ n
less-le zero = omega arith
less-le (suc zero) = omega arith
less-le (suc (suc zero)) = omega arith
less-le (suc (suc (suc zero))) = omega arith
less-le (suc (suc (suc (suc n)))) = omega arith

le-less : (j n : ℕ) → j < n → j ≤ less n
le-less j zero lt = absurd (omega arith)
le-less j (suc zero) lt = omega arith
le-less j (suc (suc zero)) lt = omega arith
le-less j (suc (suc (suc zero))) lt = omega arith
le-less j (suc (suc (suc (suc n)))) lt = omega arith

less-less : (j n : ℕ) → j < n → less j ≤ less n
less-less j n lt = omega (arith, less-le j, le-less j n lt)

module _ (tree : Tree) where
  pub runs_rest : (d n m : ℕ) (k : Begun → ℕ → Steps) (v : Begun) (o : ℕ) (x : List Marked) → n < m → Ends m x → Runs (k v o) x tree → Runs (Rest d n v o k) x tree
  unfolding feed finish
  runs_rest d n m k v o [] lt h r = r
  runs_rest d n m k v o (t ∷ ts) lt h r = rw (h n lt) r

  -- what runs from what is after the rests of a level runs from the rests
  pub runs_lay : (d n : ℕ) (k : Begun → ℕ → Steps) (v : Begun) (o : ℕ) (x : List Marked) → Ends n x → Runs (k v o) x tree → Runs (lay d n k v o) x tree
  runs_lay d zero k v o x h r = r
  runs_lay d (suc n) k v o x h r = runs_lay d n (λ v o. Rest d n v o k) v o x (ends_below n (suc n) x (omega arith) h) (runs_rest d n (suc n) k v o x (omega arith) h r)

  runs_top : (d n : ℕ) (k : Begun → ℕ → Steps) (v : Begun) (o : ℕ) (x : List Marked) → Ends n x → Runs (k v o) x tree → Runs (top d n k v o) x tree
  runs_top d zero k v o x h r = r
  runs_top d (suc zero) k v o x h r = runs_rest d 0 1 k v o x (omega arith) h r
  runs_top d (suc (suc zero)) k v o x h r = runs_rest d 1 2 k v o x (omega arith) h r
  runs_top d (suc (suc (suc zero))) k v o x h r = r
  runs_top d (suc (suc (suc (suc n)))) k v o x h r = runs_rest d (suc (suc (suc n))) (suc (suc (suc (suc n)))) k v o x (omega arith) h r

  lay_top : (d n : ℕ) (k : Begun → ℕ → Steps) (v : Begun) (o : ℕ) (x : List Marked) → Ends (less n) x → Runs (top d n k v o) x tree → Runs (lay d n k v o) x tree
  lay_top d zero k v o x h r = r
  lay_top d (suc zero) k v o x h r = r
  lay_top d (suc (suc zero)) k v o x h r = runs_lay d 1 (λ v o. Rest d 1 v o k) v o x h r
  lay_top d (suc (suc (suc zero))) k v o x h r = runs_lay d 3 k v o x h r
  lay_top d (suc (suc (suc (suc n)))) k v o x h r = runs_lay d (suc (suc (suc n))) (λ v o. Rest d (suc (suc (suc n))) v o k) v o x h r

  rest_of_top : (d n : ℕ) (k : Begun → ℕ → Steps) (v : Begun) (o : ℕ) (x : List Marked) → Ends (less (suc n)) x → Runs (top d (suc n) k v o) x tree → Runs (Rest d n v o k) x tree
  rest_of_top d zero k v o x h r = r
  rest_of_top d (suc zero) k v o x h r = r
  rest_of_top d (suc (suc zero)) k v o x h r = runs_rest d 2 3 k v o x (omega arith) h r
  rest_of_top d (suc (suc (suc n))) k v o x h r = r

  -- A level as a lower one, with the rests between.
  record Lower (d j n : ℕ) (k : Begun → ℕ → Steps) : Type 0 where
    after : Begun → ℕ → Steps
    opens : (o : ℕ) (s : List Marked) → Runs (Level d (suc j) o after) s tree → Runs (Level d n o k) s tree
    closes : (v : Begun) (o : ℕ) (x : List Marked) → Ends (less n) x → Runs (top d n k v o) x tree → Runs (top d (suc j) after v o) x tree

  level_down : (d n : ℕ) (k : Begun → ℕ → Steps) (o : ℕ) (s : List Marked) → Runs (Level d n o (λ v o. Rest d n v o k)) s tree → Runs (Level d (suc n) o k) s tree
  unfolding feed finish
  level_down d n k o [] r = r
  level_down d n k o (t ∷ ts) r = r

  lower : (d j n : ℕ) (k : Begun → ℕ → Steps) → j < n → Lower d j n k
  lower d j zero k lt = absurd (omega arith)
  lower d j (suc n) k lt = elim (cases_lt j n) [
    | inl below ↦ let l = lower d j n (λ v o. Rest d n v o k) below in record {
      after = l.after;
      opens = λ o s r. level_down d n k o s (l.opens o s r);
      closes = λ v o x h r. l.closes v o x (ends_below (less n) (less (suc n)) x (less-less n (suc n) (omega arith)) h)
          (runs_top d n (λ v o. Rest d n v o k) v o x (ends_below n (less (suc n)) x (le-less n (suc n) (omega arith)) h) (rest_of_top d n k v o x h r));
    }
    | inr same ↦ let e : n ≡ j = omega arith in record {
      after = k;
      opens = λ o s r. subst (λ (i : ℕ). Runs (Level d (suc i) o k) s tree) (sym e) r;
      closes = λ v o x h r. subst (λ (i : ℕ). Runs (top d (suc i) k v o) x tree) e r;
    }
  ]

  -- ---- expressions

  read_literal : (l : LiteralForm) (k : LiteralNode → Steps) (rest : List Marked) → Runs (k (literal_node l)) rest tree → Runs (WantLiteral k) (literal_before l rest) tree
  unfolding feed
  read_literal (AnInt at z) k rest h = (_, refl, refl, h)
  read_literal (ANegative minus at z) k rest h = (_, refl, refl, (_, refl, refl, h))
  read_literal (AText at text) k rest h = (_, refl, refl, h)
  read_literal (ATrue at) k rest h = (_, refl, refl, h)
  read_literal (AFalse at) k rest h = (_, refl, refl, h)

  operand_literal : (l : LiteralForm) (d n o : ℕ) (k : Begun → ℕ → Steps) (rest : List Marked) → Runs (lay d n k (begun_literal (literal_node l)) o) rest tree → Runs (Level d n o k) (literal_before l rest) tree
  unfolding feed
  operand_literal (AnInt at z) d n o k rest h = (_, refl, refl, h)
  operand_literal (ANegative minus at z) d n o k rest h = (_, refl, refl, (_, refl, refl, h))
  operand_literal (AText at text) d n o k rest h = (_, refl, refl, h)
  operand_literal (ATrue at) d n o k rest h = (_, refl, refl, h)
  operand_literal (AFalse at) d n o k rest h = (_, refl, refl, h)

  -- how an expression is read as a level
  abbrev Reads : ExprForm → ℕ → ℕ → Type 0
  Reads e d o = (n : ℕ) (k : Begun → ℕ → Steps) (rest : List Marked) → AtLevel n e → Ends (less n) rest → Runs (top d n k (begun e) (counted o e)) rest tree → Runs (Level d n o k) (expr_before d o e rest) tree

  -- the left operand of operators of a precedence
  left_operand : (e : ExprForm) (d o j : ℕ) (after : Begun → ℕ → Steps) (x : List Marked) → Reads e d o → AtLevel (left_level j) e → Ends j x → Runs (Rest d j (begun e) (counted o e) after) x tree → Runs (Level d (suc j) o after) (expr_before d o e x) tree
  left_operand e d o zero after x reads l h r = reads 1 after x l h r
  left_operand e d o (suc zero) after x reads l h r = reads 2 after x l h r
  left_operand e d o (suc (suc zero)) after x reads l h r =
      level_down d 2 after o (expr_before d o e x) (reads 2 (λ v o. Rest d 2 v o after) x l (ends_below 1 2 x (omega arith) h) (runs_rest d 1 2 (λ v o. Rest d 2 v o after) (begun e) (counted o e) x (omega arith) h r))
  left_operand e d o (suc (suc (suc n))) after x reads l h r = reads (suc (suc (suc (suc n)))) after x l h r

  takes_symbol : (d : ℕ) (op : BinOp) (at : ℕ) (k : Begun → ℕ → Steps) (v : Begun) (o : ℕ) (x : List Marked)
      → Runs (Level d (precedence op) (suc o) (λ w o. top d (suc (precedence op)) k (begun_binary op v w) o)) x tree → Runs (Rest d (precedence op) v o k) (symbol_mark (operator_symbol op) at (Operator (suc o)) ∷ x) tree
  unfolding feed
  takes_symbol d op at k v o x r = rw (at_symbol op) (_, refl, refl, r)

  read_expr : (e : ExprForm) (d o : ℕ) → Reads e d o
  unfolding feed
  read_expr (ALiteral l) d o n k rest lv h r = operand_literal l d n o k rest (lay_top d n k (begun (ALiteral l)) o rest h r)
  read_expr (AName x) d o n k rest lv h r = (_, refl, refl, lay_top d n k (begun (AName x)) o rest h r)
  read_expr (ANot at e) d o n k rest lv h r = (
    _,
    refl,
    refl,
    read_expr e d (suc o) 0 (λ x o. lay d n k (begun_not at x) o) rest lv (ends_below 0 (less n) rest (omega arith) h) (lay_top d n k (begun_not at (begun e)) (counted (suc o) e) rest h r),
  )
  read_expr (AParen opening e closing) d o n k rest lv h r =
      let close = symbol_mark symbol.CloseParen closing Plain in
      let after : Begun → ℕ → Steps = λ x o. want_symbol symbol.CloseParen (lay d n k (begun_paren opening x) o) in (
        _,
        refl,
        refl,
        read_expr e (suc d) o 5 after (close ∷ rest) lv (ends_all 4 close rest refl)
            (runs_rest (suc d) 4 5 after (begun e) (counted o e) (close ∷ rest) (omega arith) (ends_all 5 close rest refl) (_, refl, refl, lay_top d n k (begun_paren opening (begun e)) (counted o e) rest h r)),
      )
  read_expr (ABinary op at a b) d o n k rest lv h r =
      let j = precedence op in
      let lo = lower d j n k lv.0 in
      let before = counted o a in
      let whole = begun (ABinary op at a b) in
      let after : Begun → ℕ → Steps = λ w o. top d (suc j) lo.after (begun_binary op (begun a) w) o in
      let x = symbol_mark (operator_symbol op) at (Operator (suc before)) ∷ expr_before d (suc before) b rest in
      lo.opens o (expr_before d o a x) (left_operand a d o j lo.after x (read_expr a d o) lv.1 (below_symbol op)
      (takes_symbol d op at lo.after (begun a) before (expr_before d (suc before) b rest)
      (read_expr b d (suc before) j after rest lv.2 (ends_below (less j) (less n) rest (less-less j n lv.0) h)
      (runs_top d j after (begun b) (counted (suc before) b) rest (ends_below j (less n) rest (le-less j n lv.0) h) (lo.closes whole (counted (suc before) b) rest h r)))))

  -- a whole expression, before a symbol that is no operator
  read_whole : (e : ExprForm) (k : ExprNode → Steps) (m : Marked) (rest : List Marked) → IsExpr e → IsNoOperator m → Runs (k (expr_node e)) (m ∷ rest) tree → Runs (want_expr k) (whole_before e (m ∷ rest)) tree
  read_whole e k m rest lv other r =
      read_expr e 0 0 5 (λ x o. k x.expr) (m ∷ rest) lv (ends_all 4 m rest other) (runs_rest 0 4 5 (λ x o. k x.expr) (begun e) (counted 0 e) (m ∷ rest) (omega arith) (ends_all 5 m rest other) r)

  -- an expression ends before a comma or a parenthesis
  read_value : (e : ExprForm) (vs : ValuesForm) (k : ExprNode → Steps) (p : ℕ) (rest : List Marked) → IsExpr e
      → Runs (k (expr_node e)) (values_before vs (symbol_mark symbol.CloseParen p Plain ∷ rest)) tree → Runs (want_expr k) (whole_before e (values_before vs (symbol_mark symbol.CloseParen p Plain ∷ rest))) tree
  read_value e NoValue k p rest lv r = read_whole e k _ rest lv refl r
  read_value e (AValue comma v vs) k p rest lv r = read_whole e k _ (whole_before v (values_before vs (symbol_mark symbol.CloseParen p Plain ∷ rest))) lv refl r

  read_values : (c : ValuesForm) (vs : List ExprNode) (k : List ExprNode → Steps) (p : ℕ) (rest : List Marked) → AreValues c
      → Runs (k (vs ++ value_nodes c)) (symbol_mark symbol.CloseParen p Plain ∷ rest) tree → Runs (MoreValues vs k) (values_before c (symbol_mark symbol.CloseParen p Plain ∷ rest)) tree
  unfolding feed
  read_values NoValue vs k p rest lv h = subst (λ (xs : List ExprNode). Runs (k xs) (symbol_mark symbol.CloseParen p Plain ∷ rest) tree) (append-nil vs) h
  read_values (AValue comma e c) vs k p rest lv h = (
    _,
    refl,
    refl,
    read_value e c _ p rest lv.0
        (read_values c (vs ++ (expr_node e ∷ [])) k p rest lv.1 (subst (λ (xs : List ExprNode). Runs (k xs) (symbol_mark symbol.CloseParen p Plain ∷ rest) tree) (sym (append_assoc vs (expr_node e ∷ []) (value_nodes c))) h)),
  )

  -- ---- statements, which end before a brace

  no_else : (s : StmtsForm) (d e : Around) (k : List StmtNode → Steps) (p : ℕ) (rest : List Marked)
      → Runs (k []) (stmts_before e s (symbol_mark symbol.CloseBrace p Plain ∷ rest)) tree → Runs (MaybeElse d k) (stmts_before e s (symbol_mark symbol.CloseBrace p Plain ∷ rest)) tree
  unfolding feed
  no_else NoStmt d e k p rest h = h
  no_else (ALet p0 x p1 v p2 s) d e k p rest h = h
  no_else (ARead p0 x p1 t p2 v p3 p4 c p5 l p6 s) d e k p rest h = h
  no_else (AHas p0 x p1 t p2 v p3 p4 s) d e k p rest h = h
  no_else (APut p0 t p1 v p2 p3 p4 w vs p5 p6 s) d e k p rest h = h
  no_else (ASet p0 t p1 v p2 p3 c p4 w p5 s) d e k p rest h = h
  no_else (ADelete p0 t p1 v p2 p3 s) d e k p rest h = h
  no_else (AnAbort p0 p1 v p2 s) d e k p rest h = h
  no_else (AnIf p0 v p1 first p2 s) d e k p rest h = h
  no_else (AnIfElse p0 v p1 first p2 p3 p4 second p5 s) d e k p rest h = h
  no_else (ALoop p0 x p1 a p2 b p3 body p4 s) d e k p rest h = h

  -- one token that is taken as it stands
  abbrev Follows : (d : Around) (ss : List StmtNode) (node : StmtNode) (s : StmtsForm) (k : List StmtNode → Steps) (p : ℕ) (rest : List Marked) → Type 0
  Follows d ss node s k p rest = Runs (MoreStmts d (ss ++ (node ∷ [])) k) (stmts_before d s (symbol_mark symbol.CloseBrace p Plain ∷ rest)) tree

  read_bound : (b : BoundForm) (role : ℤ → Role) (k : ℤ → Steps) (rest : List Marked) → Runs (k (bound_value b)) rest tree → Runs (WantBound role k) (bound_before b (role (bound_value b)) rest) tree
  unfolding feed
  read_bound (ABound at z) role k rest h = (_, refl, refl, h)
  read_bound (ANegativeBound minus at z) role k rest h = (_, refl, refl, (_, refl, refl, h))

  read_stmts : (s : StmtsForm) (d : Around) (ss : List StmtNode) (k : List StmtNode → Steps) (p : ℕ) (rest : List Marked) → AreStmts s
      → Runs (k (ss ++ stmt_nodes s)) (symbol_mark symbol.CloseBrace p Plain ∷ rest) tree → Runs (MoreStmts d ss k) (stmts_before d s (symbol_mark symbol.CloseBrace p Plain ∷ rest)) tree
  unfolding feed
  read_stmts NoStmt d ss k p rest lv h = subst (λ (xs : List StmtNode). Runs (k xs) (symbol_mark symbol.CloseBrace p Plain ∷ rest) tree) (append-nil ss) h
  read_stmts (ALet p0 x p1 e p2 s) d ss k p rest lv h =
      let node = stmt.Let x (expr_node e) in
      let more : Follows d ss node s k p rest = read_stmts s d (ss ++ (node ∷ [])) k p rest lv.1 (subst (λ (xs : List StmtNode). Runs (k xs) (symbol_mark symbol.CloseBrace p Plain ∷ rest) tree) (sym (append_assoc ss (node ∷ []) (stmt_nodes s))) h) in
      (_, refl, refl, (_, refl, refl, (_, refl, refl, read_whole e _ _ _ lv.0 refl (_, refl, refl, more))))
  read_stmts (ARead p0 x p1 t p2 e p3 p4 c p5 l p6 s) d ss k p rest lv h =
      let node = stmt.Read x t (expr_node e) c (literal_node l) in
      let more : Follows d ss node s k p rest = read_stmts s d (ss ++ (node ∷ [])) k p rest lv.1 (subst (λ (xs : List StmtNode). Runs (k xs) (symbol_mark symbol.CloseBrace p Plain ∷ rest) tree) (sym (append_assoc ss (node ∷ []) (stmt_nodes s))) h) in
      (_, refl, refl, (_, refl, refl, (_, refl, refl, (_, refl, refl, (_, refl, refl, read_whole e _ _ _ lv.0 refl (_, refl, refl, (_, refl, refl, (_, refl, refl, (_, refl, refl, (read_literal l _ _ (_, refl, refl, more)))))))))))
  read_stmts (AHas p0 x p1 t p2 e p3 p4 s) d ss k p rest lv h =
      let node = stmt.Has x t (expr_node e) in
      let more : Follows d ss node s k p rest = read_stmts s d (ss ++ (node ∷ [])) k p rest lv.1 (subst (λ (xs : List StmtNode). Runs (k xs) (symbol_mark symbol.CloseBrace p Plain ∷ rest) tree) (sym (append_assoc ss (node ∷ []) (stmt_nodes s))) h) in
      (_, refl, refl, (_, refl, refl, (_, refl, refl, (_, refl, refl, (_, refl, refl, read_whole e _ _ _ lv.0 refl (_, refl, refl, (_, refl, refl, more)))))))
  read_stmts (APut p0 t p1 e p2 p3 p4 v vs p5 p6 s) d ss k p rest lv h =
      let node = stmt.Put t (expr_node e) (expr_node v ∷ value_nodes vs) in
      let more : Follows d ss node s k p rest = read_stmts s d (ss ++ (node ∷ [])) k p rest lv.3 (subst (λ (xs : List StmtNode). Runs (k xs) (symbol_mark symbol.CloseBrace p Plain ∷ rest) tree) (sym (append_assoc ss (node ∷ []) (stmt_nodes s))) h) in
      (_, refl, refl, (_, refl, refl, (_, refl, refl, read_whole e _ _ _ lv.0 refl (_, refl, refl, (_, refl, refl, (_, refl, refl, read_value v vs _ p5 _ lv.1 (read_values vs (expr_node v ∷ []) _ p5 _ lv.2 (_, refl, refl, (_, refl, refl, more)))))))))
  read_stmts (ASet p0 t p1 e p2 p3 c p4 v p5 s) d ss k p rest lv h =
      let node = stmt.Set t (expr_node e) c (expr_node v) in
      let more : Follows d ss node s k p rest = read_stmts s d (ss ++ (node ∷ [])) k p rest lv.2 (subst (λ (xs : List StmtNode). Runs (k xs) (symbol_mark symbol.CloseBrace p Plain ∷ rest) tree) (sym (append_assoc ss (node ∷ []) (stmt_nodes s))) h) in
      (_, refl, refl, (_, refl, refl, (_, refl, refl, read_whole e _ _ _ lv.0 refl (_, refl, refl, (_, refl, refl, (_, refl, refl, (_, refl, refl, read_whole v _ _ _ lv.1 refl (_, refl, refl, more))))))))
  read_stmts (ADelete p0 t p1 e p2 p3 s) d ss k p rest lv h =
      let node = stmt.Delete t (expr_node e) in
      let more : Follows d ss node s k p rest = read_stmts s d (ss ++ (node ∷ [])) k p rest lv.1 (subst (λ (xs : List StmtNode). Runs (k xs) (symbol_mark symbol.CloseBrace p Plain ∷ rest) tree) (sym (append_assoc ss (node ∷ []) (stmt_nodes s))) h) in
      (_, refl, refl, (_, refl, refl, (_, refl, refl, read_whole e _ _ _ lv.0 refl (_, refl, refl, (_, refl, refl, more)))))
  read_stmts (AnAbort p0 p1 e p2 s) d ss k p rest lv h =
      let node = stmt.AbortIf (expr_node e) in
      let more : Follows d ss node s k p rest = read_stmts s d (ss ++ (node ∷ [])) k p rest lv.1 (subst (λ (xs : List StmtNode). Runs (k xs) (symbol_mark symbol.CloseBrace p Plain ∷ rest) tree) (sym (append_assoc ss (node ∷ []) (stmt_nodes s))) h) in
      (_, refl, refl, (_, refl, refl, read_whole e _ _ _ lv.0 refl (_, refl, refl, more)))
  read_stmts (AnIf p0 e p1 first p2 s) d ss k p rest lv h =
      let node = stmt.If (expr_node e) (stmt_nodes first) [] in
      let more : Follows d ss node s k p rest = read_stmts s d (ss ++ (node ∷ [])) k p rest lv.2 (subst (λ (xs : List StmtNode). Runs (k xs) (symbol_mark symbol.CloseBrace p Plain ∷ rest) tree) (sym (append_assoc ss (node ∷ []) (stmt_nodes s))) h) in
      (_, refl, refl, read_whole e _ _ _ lv.0 refl (_, refl, refl, (read_stmts first (inside_block d) [] _ p2 _ lv.1 (_, refl, refl, (no_else s (inside_block d) d _ p rest more)))))
  read_stmts (AnIfElse p0 e p1 first p2 p3 p4 second p5 s) d ss k p rest lv h =
      let node = stmt.If (expr_node e) (stmt_nodes first) (stmt_nodes second) in
      let more : Follows d ss node s k p rest = read_stmts s d (ss ++ (node ∷ [])) k p rest lv.3 (subst (λ (xs : List StmtNode). Runs (k xs) (symbol_mark symbol.CloseBrace p Plain ∷ rest) tree) (sym (append_assoc ss (node ∷ []) (stmt_nodes s))) h) in
      (_, refl, refl, read_whole e _ _ _ lv.0 refl (_, refl, refl, (read_stmts first (inside_block d) [] _ p2 _ lv.1 (_, refl, refl, (_, refl, refl, (_, refl, refl, (read_stmts second (inside_block d) [] _ p5 _ lv.2 (_, refl, refl, more))))))))
  read_stmts (ALoop p0 x p1 a p2 b p3 body p4 s) d ss k p rest lv h =
      let node = stmt.For x (bound_value a) (bound_value b) (stmt_nodes body) in
      let more : Follows d ss node s k p rest = read_stmts s d (ss ++ (node ∷ [])) k p rest lv.1 (subst (λ (xs : List StmtNode). Runs (k xs) (symbol_mark symbol.CloseBrace p Plain ∷ rest) tree) (sym (append_assoc ss (node ∷ []) (stmt_nodes s))) h) in
      (_, refl, refl, (_, refl, refl, (_, refl, refl, read_bound a (λ from. Plain) _ _ (_, refl, refl, read_bound b (λ to. last_bound d p0 (bound_value a) to) _ _ (_, refl, refl, (read_stmts body (in_loop d (bound_value a) (bound_value b)) [] _ p4 _ lv.0 (_, refl, refl, more)))))))

  -- ---- columns, tables and procedures

  read_type : (t : TypeForm) (k : Ty → Steps) (rest : List Marked) → Runs (k (type_of_form t)) rest tree → Runs (WantType k) (type_mark t ∷ rest) tree
  unfolding feed
  read_type (AnIntType at) k rest h = (_, refl, refl, h)
  read_type (ATextType at) k rest h = (_, refl, refl, h)

  read_columns : (c : ColumnsForm) (role : ℕ → Role) (i : ℕ) (cs : List ColumnNode) (k : List ColumnNode → Steps) (p : ℕ) (rest : List Marked)
      → Runs (k (cs ++ column_nodes c)) (symbol_mark symbol.CloseParen p Plain ∷ rest) tree → Runs (MoreColumns role i cs k) (columns_before role i c (symbol_mark symbol.CloseParen p Plain ∷ rest)) tree
  unfolding feed
  read_columns NoColumn role i cs k p rest h = subst (λ (xs : List ColumnNode). Runs (k xs) (symbol_mark symbol.CloseParen p Plain ∷ rest) tree) (append-nil cs) h
  read_columns (AColumn comma n t c) role i cs k p rest h =
      let more = read_columns c role (suc i) (cs ++ (column_node n t ∷ [])) k p rest
      (subst (λ (xs : List ColumnNode). Runs (k xs) (symbol_mark symbol.CloseParen p Plain ∷ rest) tree) (sym (append_assoc cs (column_node n t ∷ []) (column_nodes c))) h) in
      (_, refl, refl, (_, refl, refl, read_type t _ _ more))

  read_params : (c : ParamsForm) (k : List ColumnNode → Steps) (p : ℕ) (rest : List Marked)
      → Runs (k (param_nodes c)) (symbol_mark symbol.CloseParen p Plain ∷ rest) tree → Runs (SomeParams k) (params_before c (symbol_mark symbol.CloseParen p Plain ∷ rest)) tree
  unfolding feed
  read_params NoParam k p rest h = h
  read_params (AParam n t c) k p rest h = (_, refl, refl, read_type t _ _ (read_columns c ParamName 1 (column_node n t ∷ []) k p rest h))

  read_procs : (f : ProcsForm) (i : ℕ) (ps : List ProcNode) (k : List ProcNode → Steps) → AreProcs f → Runs (k (ps ++ proc_nodes f)) [] tree → Runs (MoreProcs i ps k) (procs_before i f []) tree
  unfolding feed finish
  read_procs NoProc i ps k lv h = subst (λ (xs : List ProcNode). Runs (k xs) [] tree) (append-nil ps) h
  read_procs (AProc p0 n p1 params p2 p3 s p4 f) i ps k lv h =
      let node : ProcNode = record { name = n; params = param_nodes params; body = stmt_nodes s } in
      let more = read_procs f (suc i) (ps ++ (node ∷ [])) k lv.1 (subst (λ (xs : List ProcNode). Runs (k xs) [] tree) (sym (append_assoc ps (node ∷ []) (proc_nodes f))) h) in
      (_, refl, refl, (_, refl, refl, (_, refl, refl, read_params params _ p2 _ (_, refl, refl, (_, refl, refl, read_stmts s outermost [] _ p4 _ lv.0 (_, refl, refl, more))))))

  -- tables end before a procedure or the end
  tables_end : (f : ProcsForm) (i : ℕ) (ts : List TableNode) → Runs (tree_procs ts) (procs_before 0 f []) tree → Runs (MoreTables i ts tree_procs) (procs_before 0 f []) tree
  unfolding feed finish
  tables_end NoProc i ts h = h
  tables_end (AProc p0 n p1 params p2 p3 s p4 f) i ts h = h

  read_tables : (f : TablesForm) (procs : ProcsForm) (i : ℕ) (ts : List TableNode) → Runs (tree_procs (ts ++ table_nodes f)) (procs_before 0 procs []) tree → Runs (MoreTables i ts tree_procs) (tables_before i f (procs_before 0 procs [])) tree
  unfolding feed
  read_tables NoTable procs i ts h = tables_end procs i ts (subst (λ (xs : List TableNode). Runs (tree_procs xs) (procs_before 0 procs []) tree) (append-nil ts) h)
  read_tables (ATable p0 n p1 p2 key p3 c t cs p4 p5 f) procs i ts h =
      let node : TableNode = record { name = n; key = type_of_form key; columns = column_node c t ∷ column_nodes cs } in
      let more = read_tables f procs (suc i) (ts ++ (node ∷ [])) (subst (λ (xs : List TableNode). Runs (tree_procs xs) (procs_before 0 procs []) tree) (sym (append_assoc ts (node ∷ []) (table_nodes f))) h) in
      let ended : Ty → List ColumnNode → Steps = λ y columns. want_symbol symbol.CloseParen (want_symbol symbol.Semicolon (MoreTables (suc i) (ts ++ (record { name = n; key = y; columns = columns } ∷ [])) tree_procs)) in
      let rest = tables_before (suc i) f (procs_before 0 procs []) in
      let end : Runs (ended (type_of_form key) (column_node c t ∷ column_nodes cs)) (symbol_mark symbol.CloseParen p4 Plain ∷ symbol_mark symbol.Semicolon p5 Plain ∷ rest) tree = (_, refl, refl, (_, refl, refl, more)) in
      let columns = read_columns cs ColumnName 1 (column_node c t ∷ []) (ended (type_of_form key)) p4 (symbol_mark symbol.Semicolon p5 Plain ∷ rest) end in
      let typed = read_type t (λ y. MoreColumns ColumnName 1 (record { name = c; ty = y } ∷ []) (ended (type_of_form key))) (columns_before ColumnName 1 cs (symbol_mark symbol.CloseParen p4 Plain ∷ symbol_mark symbol.Semicolon p5 Plain ∷ rest)) columns in
      let comma : Runs (want_symbol symbol.Comma (columns_steps (ended (type_of_form key)))) (symbol_mark symbol.Comma p3 Plain ∷ name_mark c (ColumnName 1) ∷ type_mark t ∷ columns_before ColumnName 1 cs (symbol_mark symbol.CloseParen p4 Plain ∷ symbol_mark symbol.Semicolon p5 Plain ∷ rest)) tree =
      (_, refl, refl, (_, refl, refl, typed)) in
      (_, refl, refl, (_, refl, refl, (_, refl, refl, (_, refl, refl, read_type key (λ y. want_symbol symbol.Comma (columns_steps (ended y))) (symbol_mark symbol.Comma p3 Plain ∷ name_mark c (ColumnName 1) ∷ type_mark t ∷ columns_before ColumnName 1 cs (symbol_mark symbol.CloseParen p4 Plain ∷ symbol_mark symbol.Semicolon p5 Plain ∷ rest)) comma))))

-- a catalogue's tokens lead to its tree
pub whole_runs : (ms : List Marked) (tree : Tree) → Whole ms tree → Runs start ms tree
unfolding finish
whole_runs ms tree whole =
    let f = whole.form in
    let procs : Runs (tree_procs (table_nodes f.tables)) (procs_before 0 f.procs []) tree = read_procs tree f.procs 0 [] (tree_end (table_nodes f.tables)) whole.levels (ap (λ t. Some t) whole.is_tree) in
    subst (λ (ms : List Marked). Runs start ms tree) whole.spells (read_tables tree f.tables f.procs 0 [] procs)
