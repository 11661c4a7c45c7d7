-- Reading tokens one at a time: what is still to come, and what is done with it.
use Rattle.std.specs.Prelude.{ℕ, zero, suc, ℤ, List, [], ◌∷◌, ◌++◌, Option, Some, None, Result, Ok, Err, Bool, true, false, nat_eq, if◌then◌else◌}
use Rattle.pac_value.specs.declared.values.Ty.{Ty}
use Rattle.pac_value.specs.declared.values.Ty.TheVariants as ty
use Rattle.pac_value.specs.declared.values.Value.TheVariants as value
use Rattle.pac_value.specs.declared.expr.BinOp.{BinOp}
use Rattle.pac_value.specs.declared.expr.BinOp.TheVariants as op
use Rattle.pac_tokens.specs.declared.token.Keyword.{Keyword}
use Rattle.pac_tokens.specs.declared.token.Keyword.TheVariants as keyword
use Rattle.pac_tokens.specs.declared.token.Symbol.{Symbol}
use Rattle.pac_tokens.specs.declared.token.Symbol.TheVariants as symbol
use Rattle.pac_tokens.specs.declared.token.Token.{Token}
use Rattle.pac_tokens.specs.declared.token.Token.TheVariants as token
use Rattle.pac_tokens.specs.declared.token.Spanned.{Spanned}
use Rattle.pac_syntax.specs.declared.parse.statement.StatementWord.{StatementWord}
use Rattle.pac_syntax.specs.declared.parse.statement.StatementWord.TheVariants as word
use Rattle.pac_tokens.specs.declared.fault.FaultKind.TheVariants.{Expected}
use Rattle.pac_tokens.specs.declared.fault.Fault.{Fault}
use Rattle.pac_syntax.specs.declared.limits.Around.{Around}
use Rattle.pac_syntax.specs.declared.tree.NameNode.{NameNode}
use Rattle.pac_syntax.specs.declared.tree.LiteralNode.{LiteralNode}
use Rattle.pac_syntax.specs.declared.tree.ColumnNode.{ColumnNode}
use Rattle.pac_syntax.specs.declared.tree.ExprNode.{ExprNode, Literal, Name, Binary, Not}
use Rattle.pac_syntax.specs.declared.tree.StmtNode.{StmtNode}
use Rattle.pac_syntax.specs.declared.tree.StmtNode.TheVariants as stmt
use Rattle.pac_syntax.specs.declared.tree.TableNode.{TableNode}
use Rattle.pac_syntax.specs.declared.tree.ProcNode.{ProcNode}
use Rattle.pac_syntax.specs.declared.tree.Tree.{Tree}
use Rattle.pac_syntax.specs.Grammar.{Role, Plain, TableWord, ProcWord, ColumnName, ParamName, Operator, Paren, Nested, precedence, outermost, inside_block, in_loop, last_bound}
use Rattle.pac_syntax.specs.Faults.{fault_of, over_role, offset}

-- an expression, and where it begins, parentheses round it included
pub record Begun : Type 0 where
  pub from : ℕ
  pub expr : ExprNode

-- What is to come, and what is done with it.
pub data Steps : Type 0 where
  -- nothing
  Done : Tree → Steps
  -- this word or symbol
  Want : Token → Steps → Steps
  -- a name of this role; a type; a literal; the int after a literal's `-` at this offset
  WantName : Role → (NameNode → Steps) → Steps
  WantType : (Ty → Steps) → Steps
  WantLiteral : (LiteralNode → Steps) → Steps
  WantNegative : ℕ → (LiteralNode → Steps) → Steps
  -- [ "-" ] INT, whose int has these roles; the int after its `-`
  WantBound : (ℤ → Role) → (ℤ → Steps) → Steps
  WantNegativeBound : (ℤ → Role) → (ℤ → Steps) → Steps
  -- an expression of a level, where that many parentheses are open and that many operators stand before
  Level : (open_parens level operators : ℕ) → (Begun → ℕ → Steps) → Steps
  -- the operators of a precedence with their right operands, after a left one
  Rest : (open_parens precedence : ℕ) → Begun → (operators : ℕ) → (Begun → ℕ → Steps) → Steps
  -- { "," expr } after these values
  MoreValues : List ExprNode → (List ExprNode → Steps) → Steps
  -- { stmt } after these statements, with so much round them
  MoreStmts : Around → List StmtNode → (List StmtNode → Steps) → Steps
  -- [ "else" block ]
  MaybeElse : Around → (List StmtNode → Steps) → Steps
  -- { "," column } after that many columns, whose names have these roles
  MoreColumns : (ℕ → Role) → ℕ → List ColumnNode → (List ColumnNode → Steps) → Steps
  -- [ column { "," column } ]
  SomeParams : (List ColumnNode → Steps) → Steps
  -- { table } and { proc } after that many
  MoreTables : ℕ → List TableNode → (List TableNode → Steps) → Steps
  MoreProcs : ℕ → List ProcNode → (List ProcNode → Steps) → Steps

-- what is to come after a token, with the token's role
pub record Next : Type 0 where
  pub steps : Steps
  pub role : Role

-- where the reading stopped: the tokens from the refused one on, and the fault that is reported
pub record Stop : Type 0 where
  pub rest : List Spanned
  pub fault : Fault

-- ---- tokens

-- the number of a keyword
abbrev pub keyword_code : Keyword → ℕ
keyword_code keyword.Table = 0
keyword_code keyword.Proc = 1
keyword_code keyword.Key = 2
keyword_code keyword.Int = 3
keyword_code keyword.Text = 4
keyword_code keyword.Let = 5
keyword_code keyword.Read = 6
keyword_code keyword.Has = 7
keyword_code keyword.Put = 8
keyword_code keyword.Set = 9
keyword_code keyword.Delete = 10
keyword_code keyword.Abort = 11
keyword_code keyword.If = 12
keyword_code keyword.Else = 13
keyword_code keyword.Default = 14
keyword_code keyword.True = 15
keyword_code keyword.False = 16
keyword_code keyword.For = 17
keyword_code keyword.In = 18

-- the number of a symbol
abbrev pub symbol_code : Symbol → ℕ
symbol_code symbol.OpenParen = 0
symbol_code symbol.CloseParen = 1
symbol_code symbol.OpenBrace = 2
symbol_code symbol.CloseBrace = 3
symbol_code symbol.OpenBracket = 4
symbol_code symbol.CloseBracket = 5
symbol_code symbol.Comma = 6
symbol_code symbol.Semicolon = 7
symbol_code symbol.Dot = 8
symbol_code symbol.Assign = 9
symbol_code symbol.Plus = 10
symbol_code symbol.Minus = 11
symbol_code symbol.Star = 12
symbol_code symbol.Slash = 13
symbol_code symbol.Percent = 14
symbol_code symbol.Not = 15
symbol_code symbol.Less = 16
symbol_code symbol.Greater = 17
symbol_code symbol.Equal = 18
symbol_code symbol.NotEqual = 19
symbol_code symbol.LessEqual = 20
symbol_code symbol.GreaterEqual = 21
symbol_code symbol.And = 22
symbol_code symbol.Or = 23
symbol_code symbol.Range = 24

-- the two are one word or one symbol
abbrev pub is_same_keyword_or_symbol : Token → Token → Bool
is_same_keyword_or_symbol (token.Keyword a) (token.Keyword b) = nat_eq (keyword_code a) (keyword_code b)
is_same_keyword_or_symbol (token.Symbol a) (token.Symbol b) = nat_eq (symbol_code a) (symbol_code b)
is_same_keyword_or_symbol _ _ = false

abbrev pub name_in : Token → ℕ → Option NameNode
name_in (token.Name n) at = Some (record { at = at; name = n })
name_in _ at = None

abbrev pub type_of_token : Token → Option Ty
type_of_token (token.Keyword keyword.Int) = Some ty.Int
type_of_token (token.Keyword keyword.Text) = Some ty.Text
type_of_token _ = None

abbrev pub literal_at : ℕ → ℤ → LiteralNode
literal_at at z = record { at = at; value = value.Int z }

-- a literal of one token
abbrev pub literal_in : Token → ℕ → Option LiteralNode
literal_in (token.Int z) at = Some (literal_at at z)
literal_in (token.Text text) at = Some (record { at = at; value = value.Text text })
literal_in (token.Keyword keyword.True) at = Some (record { at = at; value = value.Bool true })
literal_in (token.Keyword keyword.False) at = Some (record { at = at; value = value.Bool false })
literal_in _ at = None

abbrev pub operator_of : Symbol → Option BinOp
operator_of symbol.Plus = Some op.Add
operator_of symbol.Minus = Some op.Sub
operator_of symbol.Star = Some op.Mul
operator_of symbol.Slash = Some op.Div
operator_of symbol.Percent = Some op.Rem
operator_of symbol.Equal = Some op.Eq
operator_of symbol.NotEqual = Some op.Ne
operator_of symbol.Less = Some op.Lt
operator_of symbol.LessEqual = Some op.Le
operator_of symbol.Greater = Some op.Gt
operator_of symbol.GreaterEqual = Some op.Ge
operator_of symbol.And = Some op.And
operator_of symbol.Or = Some op.Or
operator_of _ = None

abbrev pub operator_in : Token → Option BinOp
operator_in (token.Symbol s) = operator_of s
operator_in _ = None

abbrev pub of_precedence : ℕ → Option BinOp → Option BinOp
of_precedence n None = None
of_precedence n (Some op) = if nat_eq (precedence op) n then Some op else None

-- the operator of a precedence that a token is
abbrev pub operator_at : ℕ → Token → Option BinOp
operator_at n t = of_precedence n (operator_in t)

-- ---- the steps of each form

abbrev pub next : Steps → Role → Next
next k role = record { steps = k; role = role }

abbrev pub want_keyword : Keyword → Steps → Steps
want_keyword w k = Want (token.Keyword w) k

abbrev pub want_symbol : Symbol → Steps → Steps
want_symbol sign k = Want (token.Symbol sign) k

-- an expression of its own
abbrev pub want_expr : (ExprNode → Steps) → Steps
want_expr k = Level 0 5 0 (λ x o. k x.expr)

abbrev pub begun_name : NameNode → Begun
begun_name n = record { from = n.at; expr = Name n }

abbrev pub begun_literal : LiteralNode → Begun
begun_literal l = record { from = l.at; expr = Literal l }

abbrev pub begun_not : ℕ → Begun → Begun
begun_not at x = record { from = at; expr = Not at x.expr }

abbrev pub begun_paren : ℕ → Begun → Begun
begun_paren at x = record { from = at; expr = x.expr }

abbrev pub begun_binary : BinOp → Begun → Begun → Begun
begun_binary op l r = record { from = l.from; expr = Binary l.from op l.expr r.expr }

-- what may still follow after an expression of a level: operators of the loosest precedence in it, but after a comparison
-- none
abbrev pub top : ℕ → ℕ → (Begun → ℕ → Steps) → Begun → ℕ → Steps
top d zero k x o = k x o
top d (suc zero) k x o = Rest d 0 x o k
top d (suc (suc zero)) k x o = Rest d 1 x o k
top d (suc (suc (suc zero))) k x o = k x o
top d (suc (suc (suc (suc n)))) k x o = Rest d (suc (suc (suc n))) x o k

-- the rests of the precedences below a level, from the tightest on
abbrev pub lay : ℕ → ℕ → (Begun → ℕ → Steps) → Begun → ℕ → Steps
lay d zero k = k
lay d (suc n) k = lay d n (λ x o. Rest d n x o k)

-- TABLE "[" expr "]"
abbrev pub cell_steps : (NameNode → ExprNode → Steps) → Steps
cell_steps k = WantName Plain (λ t. want_symbol symbol.OpenBracket (want_expr (λ e. want_symbol symbol.CloseBracket (k t e))))

-- TABLE "[" expr "]" "." COLUMN
abbrev pub field_steps : (NameNode → ExprNode → NameNode → Steps) → Steps
field_steps k = cell_steps (λ t e. want_symbol symbol.Dot (WantName Plain (λ c. k t e c)))

abbrev pub let_steps : (StmtNode → Steps) → Steps
let_steps k = WantName Plain (λ x. want_symbol symbol.Assign (want_expr (λ e. want_symbol symbol.Semicolon (k (stmt.Let x e)))))

abbrev pub read_steps : (StmtNode → Steps) → Steps
read_steps k = WantName Plain (λ x. want_symbol symbol.Assign (field_steps (λ t e c.
    want_keyword keyword.Default (WantLiteral (λ l. want_symbol symbol.Semicolon (k (stmt.Read x t e c l)))))))

abbrev pub has_steps : (StmtNode → Steps) → Steps
has_steps k = WantName Plain (λ x. want_symbol symbol.Assign (cell_steps (λ t e. want_symbol symbol.Semicolon (k (stmt.Has x t e)))))

abbrev pub values_steps : (List ExprNode → Steps) → Steps
values_steps k = want_symbol symbol.OpenParen (want_expr (λ v. MoreValues (v ∷ []) (λ vs. want_symbol symbol.CloseParen (k vs))))

abbrev pub put_steps : (StmtNode → Steps) → Steps
put_steps k = cell_steps (λ t e. want_symbol symbol.Assign (values_steps (λ vs. want_symbol symbol.Semicolon (k (stmt.Put t e vs)))))

abbrev pub set_steps : (StmtNode → Steps) → Steps
set_steps k = field_steps (λ t e c. want_symbol symbol.Assign (want_expr (λ v. want_symbol symbol.Semicolon (k (stmt.Set t e c v)))))

abbrev pub delete_steps : (StmtNode → Steps) → Steps
delete_steps k = cell_steps (λ t e. want_symbol symbol.Semicolon (k (stmt.Delete t e)))

abbrev pub abort_steps : (StmtNode → Steps) → Steps
abort_steps k = want_keyword keyword.If (want_expr (λ e. want_symbol symbol.Semicolon (k (stmt.AbortIf e))))

-- "{" { stmt } "}"
abbrev pub block_steps : Around → (List StmtNode → Steps) → Steps
block_steps d k = want_symbol symbol.OpenBrace (MoreStmts d [] (λ b. want_symbol symbol.CloseBrace (k b)))

abbrev pub if_steps : Around → (StmtNode → Steps) → Steps
if_steps d k = want_expr (λ e. block_steps (inside_block d) (λ first. MaybeElse (inside_block d) (λ second. k (stmt.If e first second))))

-- [ "-" ] INT ".." [ "-" ] INT of a loop whose `for` stands there, with what stands round its block
abbrev pub bounds_steps : Around → ℕ → (ℤ → ℤ → Around → Steps) → Steps
bounds_steps d loop k = WantBound (λ from. Plain) (λ from. want_symbol symbol.Range (WantBound (λ to. last_bound d loop from to) (λ to. k from to (in_loop d from to))))

abbrev pub for_steps : Around → ℕ → (StmtNode → Steps) → Steps
for_steps d at k = WantName Plain (λ x. want_keyword keyword.In (bounds_steps d at (λ from to inner. block_steps inner (λ body. k (stmt.For x from to body)))))

-- the type after a column's name
abbrev pub typed_steps : NameNode → (ColumnNode → Steps) → Steps
typed_steps n k = WantType (λ t. k (record { name = n; ty = t }))

abbrev pub column_steps : Role → (ColumnNode → Steps) → Steps
column_steps role k = WantName role (λ n. typed_steps n k)

abbrev pub columns_steps : (List ColumnNode → Steps) → Steps
columns_steps k = column_steps (ColumnName 1) (λ c. MoreColumns ColumnName 1 (c ∷ []) k)

abbrev pub table_steps : (TableNode → Steps) → Steps
table_steps k = WantName Plain (λ n. want_symbol symbol.OpenParen (want_keyword keyword.Key (WantType (λ key. want_symbol symbol.Comma (columns_steps (λ cs.
    want_symbol symbol.CloseParen (want_symbol symbol.Semicolon (k (record { name = n; key = key; columns = cs })))))))))

abbrev pub proc_steps : (ProcNode → Steps) → Steps
proc_steps k = WantName Plain (λ n. want_symbol symbol.OpenParen (SomeParams (λ ps. want_symbol symbol.CloseParen (block_steps outermost (λ b.
    k (record { name = n; params = ps; body = b }))))))

abbrev pub tree_end : List TableNode → List ProcNode → Steps
tree_end ts ps = Done (record { tables = ts; procs = ps })

abbrev pub tree_procs : List TableNode → Steps
tree_procs ts = MoreProcs 0 [] (tree_end ts)

abbrev pub start : Steps
start = MoreTables 0 [] tree_procs

-- ---- one token

abbrev pub or_else : Option Next → Option Next → Option Next
or_else None other = other
or_else (Some n) other = Some n

abbrev pub where_true : Bool → Next → Option Next
where_true true n = Some n
where_true false n = None

abbrev pub where_some : {A : Type 0} → Option A → (A → Next) → Option Next
where_some None f = None
where_some (Some x) f = Some (f x)

abbrev pub literal_begins : Token → ℕ → (LiteralNode → Steps) → Option Next
literal_begins t at k = or_else (where_some (literal_in t at) (λ l. next (k l) Plain)) (where_true (is_same_keyword_or_symbol (token.Symbol symbol.Minus) t) (next (WantNegative at k) Plain))

abbrev pub negative_in : Token → ℕ → (LiteralNode → Steps) → Option Next
negative_in (token.Negative z) minus k = Some (next (k (literal_at minus z)) Plain)
negative_in _ minus k = None

abbrev pub bound_begins : Token → (ℤ → Role) → (ℤ → Steps) → Option Next
bound_begins (token.Int z) role k = Some (next (k z) (role z))
bound_begins (token.Symbol symbol.Minus) role k = Some (next (WantNegativeBound role k) Plain)
bound_begins _ role k = None

abbrev pub negative_bound_in : Token → (ℤ → Role) → (ℤ → Steps) → Option Next
negative_bound_in (token.Negative z) role k = Some (next (k z) (role z))
negative_bound_in _ role k = None

-- after a negation's `!`, and after a parenthesis
abbrev pub negation_steps : ℕ → ℕ → ℕ → (Begun → ℕ → Steps) → Steps
negation_steps at d o k = Level d 0 o (λ x o. k (begun_not at x) o)

abbrev pub paren_steps : ℕ → ℕ → ℕ → (Begun → ℕ → Steps) → Steps
paren_steps at d o k = Level d 5 o (λ x o. want_symbol symbol.CloseParen (k (begun_paren at x) o))

abbrev pub operand_begins : Token → ℕ → ℕ → ℕ → (Begun → ℕ → Steps) → Option Next
operand_begins (token.Name n) at d o k = Some (next (k (begun_name (record { at = at; name = n })) o) Plain)
operand_begins (token.Symbol symbol.Not) at d o k = Some (next (negation_steps at d (suc o) k) (Operator (suc o)))
operand_begins (token.Symbol symbol.OpenParen) at d o k = Some (next (paren_steps at (suc d) o k) (Paren (suc d)))
operand_begins t at d o k = literal_begins t at (λ l. k (begun_literal l) o)

-- the word that begins a statement
abbrev pub stmt_word : Token → Option StatementWord
stmt_word (token.Keyword keyword.Let) = Some word.Let
stmt_word (token.Keyword keyword.Read) = Some word.Read
stmt_word (token.Keyword keyword.Has) = Some word.Has
stmt_word (token.Keyword keyword.Put) = Some word.Put
stmt_word (token.Keyword keyword.Set) = Some word.Set
stmt_word (token.Keyword keyword.Delete) = Some word.Delete
stmt_word (token.Keyword keyword.Abort) = Some word.Abort
stmt_word (token.Keyword keyword.If) = Some word.If
stmt_word (token.Keyword keyword.For) = Some word.For
stmt_word _ = None

-- what comes after it, where it stands at that offset
abbrev pub stmt_steps : Around → ℕ → StatementWord → (StmtNode → Steps) → Steps
stmt_steps d at word.Let k = let_steps k
stmt_steps d at word.Read k = read_steps k
stmt_steps d at word.Has k = has_steps k
stmt_steps d at word.Put k = put_steps k
stmt_steps d at word.Set k = set_steps k
stmt_steps d at word.Delete k = delete_steps k
stmt_steps d at word.Abort k = abort_steps k
stmt_steps d at word.If k = if_steps d k
stmt_steps d at word.For k = for_steps d at k

abbrev pub stmt_role : Around → StatementWord → Role
stmt_role d word.If = Nested (suc d.nested)
stmt_role d word.For = Nested (suc d.nested)
stmt_role d _ = Plain

abbrev pub stmt_begins : Around → Token → ℕ → (StmtNode → Steps) → Option Next
stmt_begins d t at k = where_some (stmt_word t) (λ w. next (stmt_steps d at w k) (stmt_role d w))

-- what is to come after the token, where it can follow
unfoldable pub feed : Steps → Spanned → Option Next
feed (Done tree) t = None
feed (Want w k) t = where_true (is_same_keyword_or_symbol w t.token) (next k Plain)
feed (WantName role k) t = where_some (name_in t.token t.at) (λ n. next (k n) role)
feed (WantType k) t = where_some (type_of_token t.token) (λ y. next (k y) Plain)
feed (WantLiteral k) t = literal_begins t.token t.at k
feed (WantNegative minus k) t = negative_in t.token minus k
feed (WantBound role k) t = bound_begins t.token role k
feed (WantNegativeBound role k) t = negative_bound_in t.token role k
feed (Level d n o k) t = operand_begins t.token t.at d o (lay d n k)
feed (Rest d n x o k) t =
    or_else (where_some (operator_at n t.token) (λ op. next (Level d n (suc o) (λ y o. top d (suc n) k (begun_binary op x y) o)) (Operator (suc o)))) (feed (k x o) t)
feed (MoreValues vs k) t =
    or_else (where_true (is_same_keyword_or_symbol (token.Symbol symbol.Comma) t.token) (next (want_expr (λ v. MoreValues (vs ++ (v ∷ [])) k)) Plain)) (feed (k vs) t)
feed (MoreStmts d ss k) t = or_else (stmt_begins d t.token t.at (λ s. MoreStmts d (ss ++ (s ∷ [])) k)) (feed (k ss) t)
feed (MaybeElse d k) t = or_else (where_true (is_same_keyword_or_symbol (token.Keyword keyword.Else) t.token) (next (block_steps d k) Plain)) (feed (k []) t)
feed (MoreColumns role i cs k) t =
    or_else (where_true (is_same_keyword_or_symbol (token.Symbol symbol.Comma) t.token) (next (column_steps (role (suc i)) (λ c. MoreColumns role (suc i) (cs ++ (c ∷ [])) k)) Plain)) (feed (k cs) t)
feed (SomeParams k) t =
    or_else (where_some (name_in t.token t.at) (λ n. next (typed_steps n (λ c. MoreColumns ParamName 1 (c ∷ []) k)) (ParamName 1))) (feed (k []) t)
feed (MoreTables i ts k) t =
    or_else (where_true (is_same_keyword_or_symbol (token.Keyword keyword.Table) t.token) (next (table_steps (λ table. MoreTables (suc i) (ts ++ (table ∷ [])) k)) (TableWord (suc i)))) (feed (k ts) t)
feed (MoreProcs i ps k) t =
    or_else (where_true (is_same_keyword_or_symbol (token.Keyword keyword.Proc) t.token) (next (proc_steps (λ proc. MoreProcs (suc i) (ps ++ (proc ∷ [])) k)) (ProcWord (suc i)))) (feed (k ps) t)

-- ---- all tokens

-- the tree at the end of the tokens, where they may end
unfoldable pub finish : Steps → Option Tree
finish (Done tree) = Some tree
finish (Want w k) = None
finish (WantName role k) = None
finish (WantType k) = None
finish (WantLiteral k) = None
finish (WantNegative minus k) = None
finish (WantBound role k) = None
finish (WantNegativeBound role k) = None
finish (Level d n o k) = None
finish (Rest d n x o k) = finish (k x o)
finish (MoreValues vs k) = finish (k vs)
finish (MoreStmts d ss k) = finish (k ss)
finish (MaybeElse d k) = finish (k [])
finish (MoreColumns role i cs k) = finish (k cs)
finish (SomeParams k) = finish (k [])
finish (MoreTables i ts k) = finish (k ts)
finish (MoreProcs i ps k) = finish (k ps)

-- a stop at the first of these tokens, or at the end, which can't follow
abbrev pub unexpected : ℕ → List Spanned → Stop
unexpected end rest = record { rest = rest; fault = fault_of Expected (offset end rest) }

abbrev pub ended : ℕ → Option Tree → Result Tree Stop
ended end (Some tree) = Ok tree
ended end None = Err (unexpected end [])

-- a token over a limit ends the reading
abbrev pub bar : Option Fault → List Spanned → Result Tree Stop → Result Tree Stop
bar None rest r = r
bar (Some fault) rest r = Err (record { rest = rest; fault = fault })

abbrev pub go : ℕ → Option Next → Spanned → List Spanned → (Next → Result Tree Stop) → Result Tree Stop
go end None t ts f = Err (unexpected end (t ∷ ts))
go end (Some n) t ts f = bar (over_role n.role t.at) (t ∷ ts) (f n)

-- the tree that the tokens of a text that ends there give, or where and why they stop
unfoldable pub scan : ℕ → Steps → List Spanned → Result Tree Stop
scan end k [] = ended end (finish k)
scan end k (t ∷ ts) = go end (feed k t) t ts (λ n. scan end n.steps ts)

abbrev pub reported : Result Tree Stop → Result Tree Fault
reported (Ok tree) = Ok tree
reported (Err stop) = Err stop.fault

-- the same with the fault alone
unfoldable pub run : ℕ → Steps → List Spanned → Result Tree Fault
run end k ts = reported (scan end k ts)

-- ---- what a function of the parser says

-- what follows where there is something, and where there is nothing
abbrev pub either : {X Y : Type 0} → Option X → Y → (X → Y) → Y
either None none some = none
either (Some x) none some = some x
