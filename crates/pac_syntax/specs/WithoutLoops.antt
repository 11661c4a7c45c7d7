-- The grammar of catalogues as it was before there were loops, and what a text was read as: `..` was no token, and there was no
-- statement that begins with `for`. Expressions, columns and tables are those of `Grammar`.
use Rattle.std.specs.Prelude.{◌≡◌, ◌≢◌, ℕ, suc, ◌+◌, ◌≤◌, Bool, true, false, ◌&&◌, List, [], ◌∷◌, ◌++◌, length, drop, map, IsTrue}
use Rattle.std.specs.List.{AllByRecursion, list_all}
use Rattle.pac_tokens.specs.declared.token.Keyword.TheVariants as keyword
use Rattle.pac_tokens.specs.declared.token.Symbol.TheVariants as symbol
use Rattle.pac_tokens.specs.declared.token.Token.{Token}
use Rattle.pac_tokens.specs.declared.token.Token.TheVariants as token
use Rattle.pac_tokens.specs.declared.token.Spanned.{Spanned}
use Rattle.pac_tokens.specs.declared.lexer.Before.{Before}
use Rattle.pac_tokens.specs.declared.lexer.Before.TheVariants.{Other}
use Rattle.pac_tokens.specs.Tokens.{Spells, is_long, gap, after}
use Rattle.pac_syntax.specs.declared.tree.NameNode.{NameNode}
use Rattle.pac_syntax.specs.declared.tree.StmtNode.{StmtNode}
use Rattle.pac_syntax.specs.declared.tree.StmtNode.TheVariants as stmt
use Rattle.pac_syntax.specs.declared.tree.StmtNode.TheOpen as form
use Rattle.pac_syntax.specs.declared.tree.StmtNode.TheOpen.{StmtNode-F}
use Rattle.pac_syntax.specs.declared.tree.StmtNode.TheFolds.{fold-StmtNode}
use Rattle.pac_syntax.specs.declared.tree.ProcNode.{ProcNode}
use Rattle.pac_syntax.specs.declared.tree.Tree.{Tree}
use Rattle.pac_syntax.specs.declared.limits.TheConstants.{MAX_CATALOGUE}
use Rattle.pac_syntax.specs.Grammar.{LiteralForm, ExprForm, ValuesForm, ParamsForm, TablesForm, IsExpr, AreValues, literal_node, expr_node, value_nodes, param_nodes, table_nodes, Plain, ProcWord, Nested, Marked, keyword_mark, symbol_mark, name_mark, literal_before, whole_before, values_before, params_before, tables_before, tokens_of}
use Rattle.pac_syntax.specs.Faults.{IsWithin}

-- ---- tokens

-- the token that `..` is
abbrev pub range : Token
range = token.Symbol symbol.Range

-- The longest token at the start of the bytes but for `..`: w spells it, and no longer prefix spells any.
pub record IsLongestDotless (before : Before) (bytes : List ℕ) (t : Token) (w rest : List ℕ) : Type 0 where
  pub parts : bytes ≡ w ++ rest
  pub spells : Spells before t w
  pub other : t ≢ range
  pub longest : (v behind : List ℕ) (u : Token) → u ≢ range → bytes ≡ v ++ behind → Spells before u v → length v ≤ length w

-- the next token, and how many bytes it has
pub record IsNextDotless (before : Before) (bytes : List ℕ) (t : Token) (len : ℕ) : Type 0 where
  pub prefix : List ℕ
  pub rest : List ℕ
  pub longest : IsLongestDotless before bytes t prefix rest
  pub short : is_long before t prefix rest ≡ false
  pub counted : len ≡ length prefix

-- from this offset on the bytes are these tokens, with white space and comments between them, up to their end
abbrev pub LexedDotless : Before → ℕ → List ℕ → List Spanned → Type 0
LexedDotless before at bytes [] = drop (gap bytes) bytes ≡ []
LexedDotless before at bytes (t ∷ ts) =
    (len : ℕ) × IsNextDotless before (drop (gap bytes) bytes) t.token len × (t.at ≡ at + gap bytes)
    × LexedDotless (after before t.token) (at + gap bytes + len) (drop len (drop (gap bytes) bytes)) ts

-- ---- derivations

-- { stmt }, where a stmt is
pub data LooplessStmts : Type 0 where
  NoStmt : LooplessStmts
  -- "let" NAME "=" expr ";"
  ALet : (p0 : ℕ) → NameNode → (p1 : ℕ) → ExprForm → (p2 : ℕ) → LooplessStmts → LooplessStmts
  -- "read" NAME "=" NAME "[" expr "]" "." NAME "default" lit ";"
  ARead : (p0 : ℕ) → NameNode → (p1 : ℕ) → NameNode → (p2 : ℕ) → ExprForm → (p3 p4 : ℕ) → NameNode → (p5 : ℕ) → LiteralForm → (p6 : ℕ) → LooplessStmts → LooplessStmts
  -- "has" NAME "=" NAME "[" expr "]" ";"
  AHas : (p0 : ℕ) → NameNode → (p1 : ℕ) → NameNode → (p2 : ℕ) → ExprForm → (p3 p4 : ℕ) → LooplessStmts → LooplessStmts
  -- "put" NAME "[" expr "]" "=" "(" expr { "," expr } ")" ";"
  APut : (p0 : ℕ) → NameNode → (p1 : ℕ) → ExprForm → (p2 p3 p4 : ℕ) → ExprForm → ValuesForm → (p5 p6 : ℕ) → LooplessStmts → LooplessStmts
  -- "set" NAME "[" expr "]" "." NAME "=" expr ";"
  ASet : (p0 : ℕ) → NameNode → (p1 : ℕ) → ExprForm → (p2 p3 : ℕ) → NameNode → (p4 : ℕ) → ExprForm → (p5 : ℕ) → LooplessStmts → LooplessStmts
  -- "delete" NAME "[" expr "]" ";"
  ADelete : (p0 : ℕ) → NameNode → (p1 : ℕ) → ExprForm → (p2 p3 : ℕ) → LooplessStmts → LooplessStmts
  -- "abort" "if" expr ";"
  AnAbort : (p0 p1 : ℕ) → ExprForm → (p2 : ℕ) → LooplessStmts → LooplessStmts
  -- "if" expr "{" { stmt } "}"
  AnIf : (p0 : ℕ) → ExprForm → (p1 : ℕ) → LooplessStmts → (p2 : ℕ) → LooplessStmts → LooplessStmts
  -- "if" expr "{" { stmt } "}" "else" "{" { stmt } "}"
  AnIfElse : (p0 : ℕ) → ExprForm → (p1 : ℕ) → LooplessStmts → (p2 p3 p4 : ℕ) → LooplessStmts → (p5 : ℕ) → LooplessStmts → LooplessStmts

-- { "proc" NAME "(" params ")" "{" { stmt } "}" }
pub data LooplessProcs : Type 0 where
  NoProc : LooplessProcs
  AProc : (p0 : ℕ) → NameNode → (p1 : ℕ) → ParamsForm → (p2 p3 : ℕ) → LooplessStmts → (p4 : ℕ) → LooplessProcs → LooplessProcs

-- catalogue = { table } { proc }
pub record LooplessCatalogue : Type 0 where
  pub tables : TablesForm
  pub procs : LooplessProcs

-- the operators of statements stand as the levels say
abbrev pub AreLooplessStmts : LooplessStmts → Type 0
AreLooplessStmts NoStmt = Unit {0}
AreLooplessStmts (ALet p0 x p1 e p2 s) = IsExpr e × AreLooplessStmts s
AreLooplessStmts (ARead p0 x p1 t p2 e p3 p4 c p5 l p6 s) = IsExpr e × AreLooplessStmts s
AreLooplessStmts (AHas p0 x p1 t p2 e p3 p4 s) = IsExpr e × AreLooplessStmts s
AreLooplessStmts (APut p0 t p1 e p2 p3 p4 v vs p5 p6 s) = IsExpr e × IsExpr v × AreValues vs × AreLooplessStmts s
AreLooplessStmts (ASet p0 t p1 e p2 p3 c p4 v p5 s) = IsExpr e × IsExpr v × AreLooplessStmts s
AreLooplessStmts (ADelete p0 t p1 e p2 p3 s) = IsExpr e × AreLooplessStmts s
AreLooplessStmts (AnAbort p0 p1 e p2 s) = IsExpr e × AreLooplessStmts s
AreLooplessStmts (AnIf p0 e p1 first p2 s) = IsExpr e × AreLooplessStmts first × AreLooplessStmts s
AreLooplessStmts (AnIfElse p0 e p1 first p2 p3 p4 second p5 s) = IsExpr e × AreLooplessStmts first × AreLooplessStmts second × AreLooplessStmts s

-- the operators of procedures stand as the levels say
abbrev pub AreLooplessProcs : LooplessProcs → Type 0
AreLooplessProcs NoProc = Unit {0}
AreLooplessProcs (AProc p0 n p1 ps p2 p3 s p4 procs) = AreLooplessStmts s × AreLooplessProcs procs

-- ---- the trees of derivations

-- an `else` with no statements is the same tree as none
abbrev pub loopless_stmts : LooplessStmts → List StmtNode
loopless_stmts NoStmt = []
loopless_stmts (ALet p0 x p1 e p2 s) = stmt.Let x (expr_node e) ∷ loopless_stmts s
loopless_stmts (ARead p0 x p1 t p2 e p3 p4 c p5 l p6 s) = stmt.Read x t (expr_node e) c (literal_node l) ∷ loopless_stmts s
loopless_stmts (AHas p0 x p1 t p2 e p3 p4 s) = stmt.Has x t (expr_node e) ∷ loopless_stmts s
loopless_stmts (APut p0 t p1 e p2 p3 p4 v vs p5 p6 s) = stmt.Put t (expr_node e) (expr_node v ∷ value_nodes vs) ∷ loopless_stmts s
loopless_stmts (ASet p0 t p1 e p2 p3 c p4 v p5 s) = stmt.Set t (expr_node e) c (expr_node v) ∷ loopless_stmts s
loopless_stmts (ADelete p0 t p1 e p2 p3 s) = stmt.Delete t (expr_node e) ∷ loopless_stmts s
loopless_stmts (AnAbort p0 p1 e p2 s) = stmt.AbortIf (expr_node e) ∷ loopless_stmts s
loopless_stmts (AnIf p0 e p1 first p2 s) = stmt.If (expr_node e) (loopless_stmts first) [] ∷ loopless_stmts s
loopless_stmts (AnIfElse p0 e p1 first p2 p3 p4 second p5 s) = stmt.If (expr_node e) (loopless_stmts first) (loopless_stmts second) ∷ loopless_stmts s

-- procedures in the tree
abbrev pub loopless_procs : LooplessProcs → List ProcNode
loopless_procs NoProc = []
loopless_procs (AProc p0 n p1 ps p2 p3 s p4 procs) = record { name = n; params = param_nodes ps; body = loopless_stmts s } ∷ loopless_procs procs

-- the tree of a derivation
abbrev pub loopless_tree : LooplessCatalogue → Tree
loopless_tree form = record { tables = table_nodes form.tables; procs = loopless_procs form.procs }

-- ---- the tokens of derivations, each with what it is for the limits

-- the tokens of statements in that many conditionals
abbrev pub loopless_stmts_before : ℕ → LooplessStmts → List Marked → List Marked
loopless_stmts_before d NoStmt rest = rest
loopless_stmts_before d (ALet p0 x p1 e p2 s) rest =
    keyword_mark keyword.Let p0 Plain ∷ name_mark x Plain ∷ symbol_mark symbol.Assign p1 Plain
    ∷ whole_before e (symbol_mark symbol.Semicolon p2 Plain ∷ loopless_stmts_before d s rest)
loopless_stmts_before d (ARead p0 x p1 t p2 e p3 p4 c p5 l p6 s) rest =
    keyword_mark keyword.Read p0 Plain ∷ name_mark x Plain ∷ symbol_mark symbol.Assign p1 Plain ∷ name_mark t Plain ∷ symbol_mark symbol.OpenBracket p2 Plain
    ∷ whole_before e (symbol_mark symbol.CloseBracket p3 Plain ∷ symbol_mark symbol.Dot p4 Plain ∷ name_mark c Plain ∷ keyword_mark keyword.Default p5 Plain
    ∷ literal_before l (symbol_mark symbol.Semicolon p6 Plain ∷ loopless_stmts_before d s rest))
loopless_stmts_before d (AHas p0 x p1 t p2 e p3 p4 s) rest =
    keyword_mark keyword.Has p0 Plain ∷ name_mark x Plain ∷ symbol_mark symbol.Assign p1 Plain ∷ name_mark t Plain ∷ symbol_mark symbol.OpenBracket p2 Plain
    ∷ whole_before e (symbol_mark symbol.CloseBracket p3 Plain ∷ symbol_mark symbol.Semicolon p4 Plain ∷ loopless_stmts_before d s rest)
loopless_stmts_before d (APut p0 t p1 e p2 p3 p4 v vs p5 p6 s) rest =
    keyword_mark keyword.Put p0 Plain ∷ name_mark t Plain ∷ symbol_mark symbol.OpenBracket p1 Plain
    ∷ whole_before e (symbol_mark symbol.CloseBracket p2 Plain ∷ symbol_mark symbol.Assign p3 Plain ∷ symbol_mark symbol.OpenParen p4 Plain
    ∷ whole_before v (values_before vs (symbol_mark symbol.CloseParen p5 Plain ∷ symbol_mark symbol.Semicolon p6 Plain ∷ loopless_stmts_before d s rest)))
loopless_stmts_before d (ASet p0 t p1 e p2 p3 c p4 v p5 s) rest =
    keyword_mark keyword.Set p0 Plain ∷ name_mark t Plain ∷ symbol_mark symbol.OpenBracket p1 Plain
    ∷ whole_before e (symbol_mark symbol.CloseBracket p2 Plain ∷ symbol_mark symbol.Dot p3 Plain ∷ name_mark c Plain ∷ symbol_mark symbol.Assign p4 Plain
    ∷ whole_before v (symbol_mark symbol.Semicolon p5 Plain ∷ loopless_stmts_before d s rest))
loopless_stmts_before d (ADelete p0 t p1 e p2 p3 s) rest =
    keyword_mark keyword.Delete p0 Plain ∷ name_mark t Plain ∷ symbol_mark symbol.OpenBracket p1 Plain
    ∷ whole_before e (symbol_mark symbol.CloseBracket p2 Plain ∷ symbol_mark symbol.Semicolon p3 Plain ∷ loopless_stmts_before d s rest)
loopless_stmts_before d (AnAbort p0 p1 e p2 s) rest =
    keyword_mark keyword.Abort p0 Plain ∷ keyword_mark keyword.If p1 Plain ∷ whole_before e (symbol_mark symbol.Semicolon p2 Plain ∷ loopless_stmts_before d s rest)
loopless_stmts_before d (AnIf p0 e p1 first p2 s) rest =
    keyword_mark keyword.If p0 (Nested (suc d)) ∷ whole_before e (symbol_mark symbol.OpenBrace p1 Plain
    ∷ loopless_stmts_before (suc d) first (symbol_mark symbol.CloseBrace p2 Plain ∷ loopless_stmts_before d s rest))
loopless_stmts_before d (AnIfElse p0 e p1 first p2 p3 p4 second p5 s) rest =
    keyword_mark keyword.If p0 (Nested (suc d)) ∷ whole_before e (symbol_mark symbol.OpenBrace p1 Plain
    ∷ loopless_stmts_before (suc d) first (symbol_mark symbol.CloseBrace p2 Plain ∷ keyword_mark keyword.Else p3 Plain ∷ symbol_mark symbol.OpenBrace p4 Plain
    ∷ loopless_stmts_before (suc d) second (symbol_mark symbol.CloseBrace p5 Plain ∷ loopless_stmts_before d s rest)))

-- the tokens of procedures after that many others
abbrev pub loopless_procs_before : ℕ → LooplessProcs → List Marked → List Marked
loopless_procs_before i NoProc rest = rest
loopless_procs_before i (AProc p0 n p1 ps p2 p3 s p4 procs) rest =
    keyword_mark keyword.Proc p0 (ProcWord (suc i)) ∷ name_mark n Plain ∷ symbol_mark symbol.OpenParen p1 Plain
    ∷ params_before ps (symbol_mark symbol.CloseParen p2 Plain ∷ symbol_mark symbol.OpenBrace p3 Plain
    ∷ loopless_stmts_before 0 s (symbol_mark symbol.CloseBrace p4 Plain ∷ loopless_procs_before (suc i) procs rest))

-- the tokens of a derivation, with their roles
abbrev pub loopless_marks : LooplessCatalogue → List Marked
loopless_marks form = tables_before 0 form.tables (loopless_procs_before 0 form.procs [])

-- ---- trees without loops

-- a statement is no loop and has none, from whether those in its blocks are so
abbrev pub no_loop_step : StmtNode-F Bool → Bool
no_loop_step (form.If test first second) = list_all (λ b. b) first && list_all (λ b. b) second
no_loop_step (form.For name from to body) = false
no_loop_step _ = true

-- a statement is no loop, and has none in its blocks
abbrev pub is_no_loop : StmtNode → Bool
is_no_loop = fold-StmtNode Bool no_loop_step

-- no statement is a loop, and none has one in its blocks
abbrev pub are_no_loops : List StmtNode → Bool
are_no_loops nodes = list_all (λ b. b) (map is_no_loop nodes)

-- no procedure has a loop
abbrev pub IsLooplessTree : Tree → Type 0
IsLooplessTree tree = AllByRecursion (λ proc. IsTrue (are_no_loops proc.body)) tree.procs

-- ---- texts

-- the text was this catalogue's: it is short enough, and its tokens are the catalogue's within the limits
pub record ReadsWithoutLoops (text : List ℕ) (tree : Tree) : Type 0 where
  pub short : length text ≤ MAX_CATALOGUE
  pub form : LooplessCatalogue
  pub levels : AreLooplessProcs form.procs
  pub lexed : LexedDotless Other 0 text (tokens_of (loopless_marks form))
  pub within : AllByRecursion IsWithin (loopless_marks form)
  pub is_tree : loopless_tree form ≡ tree
