-- The grammar of catalogues: derivations with the offset of each token, their tokens, and the tree that each is read as.
use Rattle.std.specs.Prelude.{◌≡◌, ℕ, zero, suc, ◌*◌, ◌<◌, max, ℤ, ◌-ℤ◌, unsigned_abs, int_lt, if◌then◌else◌, List, [], ◌∷◌, true, false}
use Rattle.pac_value.specs.declared.values.Ty.{Ty}
use Rattle.pac_value.specs.declared.values.Ty.TheVariants as ty
use Rattle.pac_value.specs.declared.values.Value.TheVariants as value
use Rattle.pac_value.specs.declared.expr.BinOp.{BinOp}
use Rattle.pac_value.specs.declared.expr.BinOp.TheVariants as op
use Rattle.pac_tokens.specs.declared.token.Keyword.{Keyword}
use Rattle.pac_tokens.specs.declared.token.Keyword.TheVariants as keyword
use Rattle.pac_tokens.specs.declared.token.Symbol.{Symbol}
use Rattle.pac_tokens.specs.declared.token.Symbol.TheVariants as symbol
use Rattle.pac_tokens.specs.declared.token.Token.{Token}
use Rattle.pac_tokens.specs.declared.token.Token.TheVariants as token
use Rattle.pac_tokens.specs.declared.token.Spanned.{Spanned}
use Rattle.pac_syntax.specs.declared.limits.Around.{Around}
use Rattle.pac_syntax.specs.declared.tree.NameNode.{NameNode}
use Rattle.pac_syntax.specs.declared.tree.LiteralNode.{LiteralNode}
use Rattle.pac_syntax.specs.declared.tree.ColumnNode.{ColumnNode}
use Rattle.pac_syntax.specs.declared.tree.ExprNode.{ExprNode, Literal, Name, Binary, Not}
use Rattle.pac_syntax.specs.declared.tree.StmtNode.{StmtNode}
use Rattle.pac_syntax.specs.declared.tree.StmtNode.TheVariants as stmt
use Rattle.pac_syntax.specs.declared.tree.TableNode.{TableNode}
use Rattle.pac_syntax.specs.declared.tree.ProcNode.{ProcNode}
use Rattle.pac_syntax.specs.declared.tree.Tree.{Tree}

-- ---- derivations; their numbers are the offsets of the symbols and words, in the order of the text

-- lit = [ "-" ] INT | TEXT | "true" | "false"
pub data LiteralForm : Type 0 where
  AnInt : (at : ℕ) → ℤ → LiteralForm
  ANegative : (minus at : ℕ) → ℤ → LiteralForm
  AText : (at : ℕ) → List ℕ → LiteralForm
  ATrue : (at : ℕ) → LiteralForm
  AFalse : (at : ℕ) → LiteralForm

-- an expression, with its parentheses; which operand may stand where is given by its level, below
pub data ExprForm : Type 0 where
  ALiteral : LiteralForm → ExprForm
  AName : NameNode → ExprForm
  -- "!" operand
  ANot : (at : ℕ) → ExprForm → ExprForm
  -- "(" expr ")"
  AParen : (opening : ℕ) → ExprForm → (closing : ℕ) → ExprForm
  -- left operator right; the offset is the operator's
  ABinary : BinOp → (at : ℕ) → ExprForm → ExprForm → ExprForm

-- { "," expr }
pub data ValuesForm : Type 0 where
  NoValue : ValuesForm
  AValue : (comma : ℕ) → ExprForm → ValuesForm → ValuesForm

-- [ "-" ] INT
pub data BoundForm : Type 0 where
  ABound : (at : ℕ) → ℤ → BoundForm
  ANegativeBound : (minus at : ℕ) → ℤ → BoundForm

-- { stmt }, where a stmt is
pub data StmtsForm : Type 0 where
  NoStmt : StmtsForm
  -- "let" NAME "=" expr ";"
  ALet : (p0 : ℕ) → NameNode → (p1 : ℕ) → ExprForm → (p2 : ℕ) → StmtsForm → StmtsForm
  -- "read" NAME "=" NAME "[" expr "]" "." NAME "default" lit ";"
  ARead : (p0 : ℕ) → NameNode → (p1 : ℕ) → NameNode → (p2 : ℕ) → ExprForm → (p3 p4 : ℕ) → NameNode → (p5 : ℕ) → LiteralForm → (p6 : ℕ) → StmtsForm → StmtsForm
  -- "has" NAME "=" NAME "[" expr "]" ";"
  AHas : (p0 : ℕ) → NameNode → (p1 : ℕ) → NameNode → (p2 : ℕ) → ExprForm → (p3 p4 : ℕ) → StmtsForm → StmtsForm
  -- "put" NAME "[" expr "]" "=" "(" expr { "," expr } ")" ";"
  APut : (p0 : ℕ) → NameNode → (p1 : ℕ) → ExprForm → (p2 p3 p4 : ℕ) → ExprForm → ValuesForm → (p5 p6 : ℕ) → StmtsForm → StmtsForm
  -- "set" NAME "[" expr "]" "." NAME "=" expr ";"
  ASet : (p0 : ℕ) → NameNode → (p1 : ℕ) → ExprForm → (p2 p3 : ℕ) → NameNode → (p4 : ℕ) → ExprForm → (p5 : ℕ) → StmtsForm → StmtsForm
  -- "delete" NAME "[" expr "]" ";"
  ADelete : (p0 : ℕ) → NameNode → (p1 : ℕ) → ExprForm → (p2 p3 : ℕ) → StmtsForm → StmtsForm
  -- "abort" "if" expr ";"
  AnAbort : (p0 p1 : ℕ) → ExprForm → (p2 : ℕ) → StmtsForm → StmtsForm
  -- "if" expr "{" { stmt } "}"
  AnIf : (p0 : ℕ) → ExprForm → (p1 : ℕ) → StmtsForm → (p2 : ℕ) → StmtsForm → StmtsForm
  -- "if" expr "{" { stmt } "}" "else" "{" { stmt } "}"
  AnIfElse : (p0 : ℕ) → ExprForm → (p1 : ℕ) → StmtsForm → (p2 p3 p4 : ℕ) → StmtsForm → (p5 : ℕ) → StmtsForm → StmtsForm
  -- "for" NAME "in" [ "-" ] INT ".." [ "-" ] INT "{" { stmt } "}"
  ALoop : (p0 : ℕ) → NameNode → (p1 : ℕ) → BoundForm → (p2 : ℕ) → BoundForm → (p3 : ℕ) → StmtsForm → (p4 : ℕ) → StmtsForm → StmtsForm

-- type = "int" | "text"
pub data TypeForm : Type 0 where
  AnIntType : (at : ℕ) → TypeForm
  ATextType : (at : ℕ) → TypeForm

-- { "," NAME type }
pub data ColumnsForm : Type 0 where
  NoColumn : ColumnsForm
  AColumn : (comma : ℕ) → NameNode → TypeForm → ColumnsForm → ColumnsForm

-- [ NAME type { "," NAME type } ]
pub data ParamsForm : Type 0 where
  NoParam : ParamsForm
  AParam : NameNode → TypeForm → ColumnsForm → ParamsForm

-- { "table" NAME "(" "key" type "," NAME type { "," NAME type } ")" ";" }
pub data TablesForm : Type 0 where
  NoTable : TablesForm
  ATable : (p0 : ℕ) → NameNode → (p1 p2 : ℕ) → TypeForm → (p3 : ℕ) → NameNode → TypeForm → ColumnsForm → (p4 p5 : ℕ) → TablesForm → TablesForm

-- { "proc" NAME "(" params ")" "{" { stmt } "}" }
pub data ProcsForm : Type 0 where
  NoProc : ProcsForm
  AProc : (p0 : ℕ) → NameNode → (p1 : ℕ) → ParamsForm → (p2 p3 : ℕ) → StmtsForm → (p4 : ℕ) → ProcsForm → ProcsForm

-- catalogue = { table } { proc }
pub record CatalogueForm : Type 0 where
  pub tables : TablesForm
  pub procs : ProcsForm

-- ---- operators and levels

-- the symbol of an operator
abbrev pub operator_symbol : BinOp → Symbol
operator_symbol op.Add = symbol.Plus
operator_symbol op.Sub = symbol.Minus
operator_symbol op.Mul = symbol.Star
operator_symbol op.Div = symbol.Slash
operator_symbol op.Rem = symbol.Percent
operator_symbol op.Eq = symbol.Equal
operator_symbol op.Ne = symbol.NotEqual
operator_symbol op.Lt = symbol.Less
operator_symbol op.Le = symbol.LessEqual
operator_symbol op.Gt = symbol.Greater
operator_symbol op.Ge = symbol.GreaterEqual
operator_symbol op.And = symbol.And
operator_symbol op.Or = symbol.Or

-- how loosely an operator binds: `* / %` the least, `||` the most
abbrev pub precedence : BinOp → ℕ
precedence op.Mul = 0
precedence op.Div = 0
precedence op.Rem = 0
precedence op.Add = 1
precedence op.Sub = 1
precedence op.Eq = 2
precedence op.Ne = 2
precedence op.Lt = 2
precedence op.Le = 2
precedence op.Gt = 2
precedence op.Ge = 2
precedence op.And = 3
precedence op.Or = 4

-- The level of the left operand of operators of a precedence: they group from the left, and comparisons do not follow one
-- another.
abbrev pub left_level : ℕ → ℕ
left_level zero = 1
left_level (suc zero) = 2
left_level (suc (suc zero)) = 2
left_level (suc (suc (suc n))) = suc (suc (suc (suc n)))

-- The levels: 0 a literal, a name, a negation or parentheses; 1 products, 2 sums, 3 comparisons, 4 conjunctions, and 5
-- any expression. An operator's operands are of a level that binds tighter, but for the left one of its own precedence.
abbrev pub AtLevel : ℕ → ExprForm → Type 0
AtLevel n (ALiteral l) = Unit {0}
AtLevel n (AName x) = Unit {0}
AtLevel n (ANot at e) = AtLevel 0 e
AtLevel n (AParen opening e closing) = AtLevel 5 e
AtLevel n (ABinary op at l r) = (precedence op < n) × AtLevel (left_level (precedence op)) l × AtLevel (precedence op) r

-- an expression whose operators stand as the levels say
abbrev pub IsExpr : ExprForm → Type 0
IsExpr e = AtLevel 5 e

-- the operators of values stand as the levels say
abbrev pub AreValues : ValuesForm → Type 0
AreValues NoValue = Unit {0}
AreValues (AValue comma e vs) = IsExpr e × AreValues vs

-- the operators of statements stand as the levels say
abbrev pub AreStmts : StmtsForm → Type 0
AreStmts NoStmt = Unit {0}
AreStmts (ALet p0 x p1 e p2 s) = IsExpr e × AreStmts s
AreStmts (ARead p0 x p1 t p2 e p3 p4 c p5 l p6 s) = IsExpr e × AreStmts s
AreStmts (AHas p0 x p1 t p2 e p3 p4 s) = IsExpr e × AreStmts s
AreStmts (APut p0 t p1 e p2 p3 p4 v vs p5 p6 s) = IsExpr e × IsExpr v × AreValues vs × AreStmts s
AreStmts (ASet p0 t p1 e p2 p3 c p4 v p5 s) = IsExpr e × IsExpr v × AreStmts s
AreStmts (ADelete p0 t p1 e p2 p3 s) = IsExpr e × AreStmts s
AreStmts (AnAbort p0 p1 e p2 s) = IsExpr e × AreStmts s
AreStmts (AnIf p0 e p1 first p2 s) = IsExpr e × AreStmts first × AreStmts s
AreStmts (AnIfElse p0 e p1 first p2 p3 p4 second p5 s) = IsExpr e × AreStmts first × AreStmts second × AreStmts s
AreStmts (ALoop p0 x p1 a p2 b p3 body p4 s) = AreStmts body × AreStmts s

-- the operators of procedures stand as the levels say
abbrev pub AreProcs : ProcsForm → Type 0
AreProcs NoProc = Unit {0}
AreProcs (AProc p0 n p1 ps p2 p3 s p4 procs) = AreStmts s × AreProcs procs

-- ---- the trees of derivations

-- a literal in the tree, at the offset of its first token
abbrev pub literal_node : LiteralForm → LiteralNode
literal_node (AnInt at z) = record { at = at; value = value.Int z }
literal_node (ANegative minus at z) = record { at = minus; value = value.Int z }
literal_node (AText at text) = record { at = at; value = value.Text text }
literal_node (ATrue at) = record { at = at; value = value.Bool true }
literal_node (AFalse at) = record { at = at; value = value.Bool false }

-- the offset of the first token
abbrev pub expr_offset : ExprForm → ℕ
expr_offset (ALiteral l) = (literal_node l).at
expr_offset (AName n) = n.at
expr_offset (ANot at e) = at
expr_offset (AParen opening e closing) = opening
expr_offset (ABinary op at l r) = expr_offset l

-- the tree keeps no parentheses
abbrev pub expr_node : ExprForm → ExprNode
expr_node (ALiteral l) = Literal (literal_node l)
expr_node (AName n) = Name n
expr_node (ANot at e) = Not at (expr_node e)
expr_node (AParen opening e closing) = expr_node e
expr_node (ABinary op at l r) = Binary (expr_offset l) op (expr_node l) (expr_node r)

-- further values in the tree
abbrev pub value_nodes : ValuesForm → List ExprNode
value_nodes NoValue = []
value_nodes (AValue comma e vs) = expr_node e ∷ value_nodes vs

-- the int of a bound
abbrev pub bound_value : BoundForm → ℤ
bound_value (ABound at z) = z
bound_value (ANegativeBound minus at z) = z

-- an `else` with no statements is the same tree as none
abbrev pub stmt_nodes : StmtsForm → List StmtNode
stmt_nodes NoStmt = []
stmt_nodes (ALet p0 x p1 e p2 s) = stmt.Let x (expr_node e) ∷ stmt_nodes s
stmt_nodes (ARead p0 x p1 t p2 e p3 p4 c p5 l p6 s) = stmt.Read x t (expr_node e) c (literal_node l) ∷ stmt_nodes s
stmt_nodes (AHas p0 x p1 t p2 e p3 p4 s) = stmt.Has x t (expr_node e) ∷ stmt_nodes s
stmt_nodes (APut p0 t p1 e p2 p3 p4 v vs p5 p6 s) = stmt.Put t (expr_node e) (expr_node v ∷ value_nodes vs) ∷ stmt_nodes s
stmt_nodes (ASet p0 t p1 e p2 p3 c p4 v p5 s) = stmt.Set t (expr_node e) c (expr_node v) ∷ stmt_nodes s
stmt_nodes (ADelete p0 t p1 e p2 p3 s) = stmt.Delete t (expr_node e) ∷ stmt_nodes s
stmt_nodes (AnAbort p0 p1 e p2 s) = stmt.AbortIf (expr_node e) ∷ stmt_nodes s
stmt_nodes (AnIf p0 e p1 first p2 s) = stmt.If (expr_node e) (stmt_nodes first) [] ∷ stmt_nodes s
stmt_nodes (AnIfElse p0 e p1 first p2 p3 p4 second p5 s) = stmt.If (expr_node e) (stmt_nodes first) (stmt_nodes second) ∷ stmt_nodes s
stmt_nodes (ALoop p0 x p1 a p2 b p3 body p4 s) = stmt.For x (bound_value a) (bound_value b) (stmt_nodes body) ∷ stmt_nodes s

-- the type that a word names
abbrev pub type_of_form : TypeForm → Ty
type_of_form (AnIntType at) = ty.Int
type_of_form (ATextType at) = ty.Text

-- a column or a parameter in the tree
abbrev pub column_node : NameNode → TypeForm → ColumnNode
column_node n t = record { name = n; ty = type_of_form t }

-- further columns or parameters in the tree
abbrev pub column_nodes : ColumnsForm → List ColumnNode
column_nodes NoColumn = []
column_nodes (AColumn comma n t cs) = column_node n t ∷ column_nodes cs

-- parameters in the tree
abbrev pub param_nodes : ParamsForm → List ColumnNode
param_nodes NoParam = []
param_nodes (AParam n t cs) = column_node n t ∷ column_nodes cs

-- tables in the tree
abbrev pub table_nodes : TablesForm → List TableNode
table_nodes NoTable = []
table_nodes (ATable p0 n p1 p2 k p3 c t cs p4 p5 ts) = record { name = n; key = type_of_form k; columns = column_node c t ∷ column_nodes cs } ∷ table_nodes ts

-- procedures in the tree
abbrev pub proc_nodes : ProcsForm → List ProcNode
proc_nodes NoProc = []
proc_nodes (AProc p0 n p1 ps p2 p3 s p4 procs) = record { name = n; params = param_nodes ps; body = stmt_nodes s } ∷ proc_nodes procs

-- the tree of a derivation
abbrev pub tree_of : CatalogueForm → Tree
tree_of form = record { tables = table_nodes form.tables; procs = proc_nodes form.procs }

-- ---- what stands round a statement, for the limits

-- the statements of a procedure have nothing round them, and run once
abbrev pub outermost : Around
outermost = record { nested = 0; turns = 1 }

-- a conditional more
abbrev pub inside_block : Around → Around
inside_block d = record { nested = suc d.nested; turns = d.turns }

-- how many whole numbers there are from the one on and below the other: none where that is no greater
abbrev pub range_len : ℤ → ℤ → ℕ
range_len from to = if int_lt from to then unsigned_abs (to -ℤ from) else 0

-- a loop more: its block runs in each of its turns, in each turn of the loops round it
abbrev pub in_loop : Around → ℤ → ℤ → Around
in_loop d from to = record { nested = suc d.nested; turns = range_len from to * d.turns }

-- the turns of a loop that are limited: its own, and all that it runs
abbrev pub loop_turns : Around → ℤ → ℤ → ℕ
loop_turns d from to = max (range_len from to) (range_len from to * d.turns)

-- ---- the tokens of derivations, each with what it is for the limits

-- what a token is in its derivation
pub data Role : Type 0 where
  Plain : Role
  TableWord : ℕ → Role  -- the `table` of that many tables, itself counted
  ProcWord : ℕ → Role  -- the `proc` of that many procedures
  ColumnName : ℕ → Role  -- the name of that many columns of its table, the key not counted
  ParamName : ℕ → Role  -- the name of that many parameters of its procedure
  Operator : ℕ → Role  -- the operator of that many in its expression, parentheses included
  Paren : ℕ → Role  -- the `(` of that many parentheses of its expression that are open at once
  Nested : ℕ → Role  -- the `if` or `for` of that many conditionals and loops that stand one in another
  LastBound : (turns loop : ℕ) → Role  -- the int with which a loop has that many turns, whose `for` stands at this offset

-- a token with its role
pub record Marked : Type 0 where
  pub token : Spanned
  pub role : Role

-- a token at an offset, with its role
abbrev pub marked : Token → ℕ → Role → Marked
marked t at role = record { token = record { token = t; at = at }; role = role }

-- a keyword at an offset, with its role
abbrev pub keyword_mark : Keyword → ℕ → Role → Marked
keyword_mark word at role = marked (token.Keyword word) at role

-- a symbol at an offset, with its role
abbrev pub symbol_mark : Symbol → ℕ → Role → Marked
symbol_mark sign at role = marked (token.Symbol sign) at role

-- a name at its own offset, with its role
abbrev pub name_mark : NameNode → Role → Marked
name_mark n role = marked (token.Name n.name) n.at role

-- the tokens of a literal, before those that follow
abbrev pub literal_before : LiteralForm → List Marked → List Marked
literal_before (AnInt at z) rest = marked (token.Int z) at Plain ∷ rest
literal_before (ANegative minus at z) rest = symbol_mark symbol.Minus minus Plain ∷ marked (token.Negative z) at Plain ∷ rest
literal_before (AText at text) rest = marked (token.Text text) at Plain ∷ rest
literal_before (ATrue at) rest = keyword_mark keyword.True at Plain ∷ rest
literal_before (AFalse at) rest = keyword_mark keyword.False at Plain ∷ rest

-- the operators up to an expression's end, where that many stand before it
abbrev pub counted : ℕ → ExprForm → ℕ
counted o (ALiteral l) = o
counted o (AName n) = o
counted o (ANot at e) = counted (suc o) e
counted o (AParen opening e closing) = counted o e
counted o (ABinary op at l r) = counted (suc (counted o l)) r

-- the tokens of an expression, before those that follow, where that many parentheses are open and that many operators stand
-- before
abbrev pub expr_before : ℕ → ℕ → ExprForm → List Marked → List Marked
expr_before d o (ALiteral l) rest = literal_before l rest
expr_before d o (AName n) rest = name_mark n Plain ∷ rest
expr_before d o (ANot at e) rest = symbol_mark symbol.Not at (Operator (suc o)) ∷ expr_before d (suc o) e rest
expr_before d o (AParen opening e closing) rest = symbol_mark symbol.OpenParen opening (Paren (suc d)) ∷ expr_before (suc d) o e (symbol_mark symbol.CloseParen closing Plain ∷ rest)
expr_before d o (ABinary op at l r) rest = expr_before d o l (symbol_mark (operator_symbol op) at (Operator (suc (counted o l))) ∷ expr_before d (suc (counted o l)) r rest)

-- those of a whole expression
abbrev pub whole_before : ExprForm → List Marked → List Marked
whole_before e rest = expr_before 0 0 e rest

-- the tokens of further values, before those that follow
abbrev pub values_before : ValuesForm → List Marked → List Marked
values_before NoValue rest = rest
values_before (AValue comma e vs) rest = symbol_mark symbol.Comma comma Plain ∷ whole_before e (values_before vs rest)

-- an int of this role, with a `-` before it or not
abbrev pub bound_before : BoundForm → Role → List Marked → List Marked
bound_before (ABound at z) role rest = marked (token.Int z) at role ∷ rest
bound_before (ANegativeBound minus at z) role rest = symbol_mark symbol.Minus minus Plain ∷ marked (token.Negative z) at role ∷ rest

-- the role of the second bound of a loop whose `for` stands there
abbrev pub last_bound : Around → ℕ → ℤ → ℤ → Role
last_bound d loop from to = LastBound (loop_turns d from to) loop

-- the tokens of statements, with what stands round them, before those that follow
abbrev pub stmts_before : Around → StmtsForm → List Marked → List Marked
stmts_before d NoStmt rest = rest
stmts_before d (ALet p0 x p1 e p2 s) rest =
    keyword_mark keyword.Let p0 Plain ∷ name_mark x Plain ∷ symbol_mark symbol.Assign p1 Plain
    ∷ whole_before e (symbol_mark symbol.Semicolon p2 Plain ∷ stmts_before d s rest)
stmts_before d (ARead p0 x p1 t p2 e p3 p4 c p5 l p6 s) rest =
    keyword_mark keyword.Read p0 Plain ∷ name_mark x Plain ∷ symbol_mark symbol.Assign p1 Plain ∷ name_mark t Plain ∷ symbol_mark symbol.OpenBracket p2 Plain
    ∷ whole_before e (symbol_mark symbol.CloseBracket p3 Plain ∷ symbol_mark symbol.Dot p4 Plain ∷ name_mark c Plain ∷ keyword_mark keyword.Default p5 Plain
    ∷ literal_before l (symbol_mark symbol.Semicolon p6 Plain ∷ stmts_before d s rest))
stmts_before d (AHas p0 x p1 t p2 e p3 p4 s) rest =
    keyword_mark keyword.Has p0 Plain ∷ name_mark x Plain ∷ symbol_mark symbol.Assign p1 Plain ∷ name_mark t Plain ∷ symbol_mark symbol.OpenBracket p2 Plain
    ∷ whole_before e (symbol_mark symbol.CloseBracket p3 Plain ∷ symbol_mark symbol.Semicolon p4 Plain ∷ stmts_before d s rest)
stmts_before d (APut p0 t p1 e p2 p3 p4 v vs p5 p6 s) rest =
    keyword_mark keyword.Put p0 Plain ∷ name_mark t Plain ∷ symbol_mark symbol.OpenBracket p1 Plain
    ∷ whole_before e (symbol_mark symbol.CloseBracket p2 Plain ∷ symbol_mark symbol.Assign p3 Plain ∷ symbol_mark symbol.OpenParen p4 Plain
    ∷ whole_before v (values_before vs (symbol_mark symbol.CloseParen p5 Plain ∷ symbol_mark symbol.Semicolon p6 Plain ∷ stmts_before d s rest)))
stmts_before d (ASet p0 t p1 e p2 p3 c p4 v p5 s) rest =
    keyword_mark keyword.Set p0 Plain ∷ name_mark t Plain ∷ symbol_mark symbol.OpenBracket p1 Plain
    ∷ whole_before e (symbol_mark symbol.CloseBracket p2 Plain ∷ symbol_mark symbol.Dot p3 Plain ∷ name_mark c Plain ∷ symbol_mark symbol.Assign p4 Plain
    ∷ whole_before v (symbol_mark symbol.Semicolon p5 Plain ∷ stmts_before d s rest))
stmts_before d (ADelete p0 t p1 e p2 p3 s) rest =
    keyword_mark keyword.Delete p0 Plain ∷ name_mark t Plain ∷ symbol_mark symbol.OpenBracket p1 Plain
    ∷ whole_before e (symbol_mark symbol.CloseBracket p2 Plain ∷ symbol_mark symbol.Semicolon p3 Plain ∷ stmts_before d s rest)
stmts_before d (AnAbort p0 p1 e p2 s) rest =
    keyword_mark keyword.Abort p0 Plain ∷ keyword_mark keyword.If p1 Plain ∷ whole_before e (symbol_mark symbol.Semicolon p2 Plain ∷ stmts_before d s rest)
stmts_before d (AnIf p0 e p1 first p2 s) rest =
    keyword_mark keyword.If p0 (Nested (suc d.nested)) ∷ whole_before e (symbol_mark symbol.OpenBrace p1 Plain
    ∷ stmts_before (inside_block d) first (symbol_mark symbol.CloseBrace p2 Plain ∷ stmts_before d s rest))
stmts_before d (AnIfElse p0 e p1 first p2 p3 p4 second p5 s) rest =
    keyword_mark keyword.If p0 (Nested (suc d.nested)) ∷ whole_before e (symbol_mark symbol.OpenBrace p1 Plain
    ∷ stmts_before (inside_block d) first (symbol_mark symbol.CloseBrace p2 Plain ∷ keyword_mark keyword.Else p3 Plain ∷ symbol_mark symbol.OpenBrace p4 Plain
    ∷ stmts_before (inside_block d) second (symbol_mark symbol.CloseBrace p5 Plain ∷ stmts_before d s rest)))
stmts_before d (ALoop p0 x p1 a p2 b p3 body p4 s) rest =
    keyword_mark keyword.For p0 (Nested (suc d.nested)) ∷ name_mark x Plain ∷ keyword_mark keyword.In p1 Plain
    ∷ bound_before a Plain (symbol_mark symbol.Range p2 Plain ∷ bound_before b (last_bound d p0 (bound_value a) (bound_value b)) (symbol_mark symbol.OpenBrace p3 Plain
    ∷ stmts_before (in_loop d (bound_value a) (bound_value b)) body (symbol_mark symbol.CloseBrace p4 Plain ∷ stmts_before d s rest)))

-- the token of a type
abbrev pub type_mark : TypeForm → Marked
type_mark (AnIntType at) = keyword_mark keyword.Int at Plain
type_mark (ATextType at) = keyword_mark keyword.Text at Plain

-- the tokens of columns or parameters after that many others
abbrev pub columns_before : (ℕ → Role) → ℕ → ColumnsForm → List Marked → List Marked
columns_before role i NoColumn rest = rest
columns_before role i (AColumn comma n t cs) rest =
    symbol_mark symbol.Comma comma Plain ∷ name_mark n (role (suc i)) ∷ type_mark t ∷ columns_before role (suc i) cs rest

-- the tokens of parameters, before those that follow
abbrev pub params_before : ParamsForm → List Marked → List Marked
params_before NoParam rest = rest
params_before (AParam n t cs) rest = name_mark n (ParamName 1) ∷ type_mark t ∷ columns_before ParamName 1 cs rest

-- the tokens of tables after that many others
abbrev pub tables_before : ℕ → TablesForm → List Marked → List Marked
tables_before i NoTable rest = rest
tables_before i (ATable p0 n p1 p2 k p3 c t cs p4 p5 ts) rest =
    keyword_mark keyword.Table p0 (TableWord (suc i)) ∷ name_mark n Plain ∷ symbol_mark symbol.OpenParen p1 Plain
    ∷ keyword_mark keyword.Key p2 Plain ∷ type_mark k ∷ symbol_mark symbol.Comma p3 Plain
    ∷ name_mark c (ColumnName 1) ∷ type_mark t
    ∷ columns_before ColumnName 1 cs (symbol_mark symbol.CloseParen p4 Plain ∷ symbol_mark symbol.Semicolon p5 Plain ∷ tables_before (suc i) ts rest)

-- the tokens of procedures after that many others
abbrev pub procs_before : ℕ → ProcsForm → List Marked → List Marked
procs_before i NoProc rest = rest
procs_before i (AProc p0 n p1 ps p2 p3 s p4 procs) rest =
    keyword_mark keyword.Proc p0 (ProcWord (suc i)) ∷ name_mark n Plain ∷ symbol_mark symbol.OpenParen p1 Plain
    ∷ params_before ps (symbol_mark symbol.CloseParen p2 Plain ∷ symbol_mark symbol.OpenBrace p3 Plain
    ∷ stmts_before outermost s (symbol_mark symbol.CloseBrace p4 Plain ∷ procs_before (suc i) procs rest))

-- the tokens of a derivation, with their roles
abbrev pub marks_of : CatalogueForm → List Marked
marks_of form = tables_before 0 form.tables (procs_before 0 form.procs [])

-- tokens without their roles
abbrev pub tokens_of : List Marked → List Spanned
tokens_of [] = []
tokens_of (m ∷ ms) = m.token ∷ tokens_of ms

-- these tokens with their roles are a catalogue's in the grammar without limits, and this is its tree
pub record Whole (ms : List Marked) (tree : Tree) : Type 0 where
  pub form : CatalogueForm
  pub levels : AreProcs form.procs
  pub spells : marks_of form ≡ ms
  pub is_tree : tree_of form ≡ tree
