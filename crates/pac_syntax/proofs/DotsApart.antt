-- In a catalogue without loops no dot follows a dot, and `..` stands nowhere.
use Rattle.std.proofs.Common.{◌≡◌, ℕ, suc, Bool, true, false, List, [], ◌∷◌, refl, sym, subst}
use Rattle.pac_value.specs.declared.expr.BinOp.{BinOp}
use Rattle.pac_value.specs.declared.expr.BinOp.TheVariants as op
use Rattle.pac_tokens.specs.declared.token.Symbol.TheVariants as symbol
use Rattle.pac_tokens.specs.declared.token.Token.{Token}
use Rattle.pac_tokens.specs.declared.token.Token.TheVariants as token
use Rattle.pac_tokens.specs.declared.token.Spanned.{Spanned}
use Rattle.pac_syntax.specs.Grammar.{LiteralForm, AnInt, ANegative, AText, ATrue, AFalse, ExprForm, ALiteral, AName, ANot, AParen, ABinary, ValuesForm, NoValue, AValue, TypeForm, AnIntType, ATextType, ColumnsForm, NoColumn, AColumn, ParamsForm, NoParam, AParam, TablesForm, NoTable, ATable, operator_symbol, Role, Plain, ColumnName, ParamName, Marked, symbol_mark, name_mark, type_mark, literal_before, counted, expr_before, whole_before, values_before, columns_before, params_before, tables_before, tokens_of}
use Rattle.pac_syntax.specs.WithoutLoops as old

abbrev pub is_dot : Token → Bool
is_dot (token.Symbol symbol.Dot) = true
is_dot _ = false

-- where a dot stands before these tokens, the first of them is none
abbrev pub NoDot : Bool → List Spanned → Type 0
NoDot false ts = Unit {0}
NoDot true [] = Unit {0}
NoDot true (t ∷ ts) = is_dot t.token ≡ false

abbrev pub is_range : Token → Bool
is_range (token.Symbol symbol.Range) = true
is_range _ = false

-- no dot follows a dot, and no token is `..`
abbrev pub DotsApart : List Spanned → Type 0
DotsApart [] = Unit {0}
DotsApart (t ∷ ts) = (NoDot (is_dot t.token) ts × (is_range t.token ≡ false)) × DotsApart ts

abbrev Apart : List Marked → Type 0
Apart ms = DotsApart (tokens_of ms)

no_dot_operator : (op : BinOp) → is_dot (token.Symbol (operator_symbol op)) ≡ false
no_dot_operator op.Add = refl
no_dot_operator op.Sub = refl
no_dot_operator op.Mul = refl
no_dot_operator op.Div = refl
no_dot_operator op.Rem = refl
no_dot_operator op.Eq = refl
no_dot_operator op.Ne = refl
no_dot_operator op.Lt = refl
no_dot_operator op.Le = refl
no_dot_operator op.Gt = refl
no_dot_operator op.Ge = refl
no_dot_operator op.And = refl
no_dot_operator op.Or = refl

no_range_operator : (op : BinOp) → is_range (token.Symbol (operator_symbol op)) ≡ false
no_range_operator op.Add = refl
no_range_operator op.Sub = refl
no_range_operator op.Mul = refl
no_range_operator op.Div = refl
no_range_operator op.Rem = refl
no_range_operator op.Eq = refl
no_range_operator op.Ne = refl
no_range_operator op.Lt = refl
no_range_operator op.Le = refl
no_range_operator op.Gt = refl
no_range_operator op.Ge = refl
no_range_operator op.And = refl
no_range_operator op.Or = refl

apart_literal : (l : LiteralForm) (rest : List Marked) → Apart rest → Apart (literal_before l rest)
apart_literal (AnInt at z) rest h = ((tt, refl), h)
apart_literal (ANegative minus at z) rest h = ((tt, refl), ((tt, refl), h))
apart_literal (AText at text) rest h = ((tt, refl), h)
apart_literal (ATrue at) rest h = ((tt, refl), h)
apart_literal (AFalse at) rest h = ((tt, refl), h)

apart_expr : (e : ExprForm) (d o : ℕ) (rest : List Marked) → Apart rest → Apart (expr_before d o e rest)
apart_expr (ALiteral l) d o rest h = apart_literal l rest h
apart_expr (AName n) d o rest h = ((tt, refl), h)
apart_expr (ANot at e) d o rest h = ((tt, refl), apart_expr e d (suc o) rest h)
apart_expr (AParen opening e closing) d o rest h = ((tt, refl), apart_expr e (suc d) o (_ ∷ rest) ((tt, refl), h))
apart_expr (ABinary op at l r) d o rest h =
    let right = expr_before d (suc (counted o l)) r rest in
    let sign : NoDot (is_dot (token.Symbol (operator_symbol op))) (tokens_of right) = subst (λ (b : Bool). NoDot b (tokens_of right)) (sym (no_dot_operator op)) tt in
    apart_expr l d o (_ ∷ right) ((sign, no_range_operator op), apart_expr r d (suc (counted o l)) rest h)

apart_whole : (e : ExprForm) (rest : List Marked) → Apart rest → Apart (whole_before e rest)
apart_whole e rest h = apart_expr e 0 0 rest h

apart_values : (vs : ValuesForm) (rest : List Marked) → Apart rest → Apart (values_before vs rest)
apart_values NoValue rest h = h
apart_values (AValue comma e vs) rest h = ((tt, refl), apart_whole e (values_before vs rest) (apart_values vs rest h))

apart_stmts : (s : old.LooplessStmts) (d : ℕ) (rest : List Marked) → Apart rest → Apart (old.loopless_stmts_before d s rest)
apart_stmts old.NoStmt d rest h = h
apart_stmts (old.ALet p0 x p1 e p2 s) d rest h = ((tt, refl), ((tt, refl), ((tt, refl), apart_whole e _ ((tt, refl), apart_stmts s d rest h))))
apart_stmts (old.ARead p0 x p1 t p2 e p3 p4 c p5 l p6 s) d rest h = ((tt, refl), ((tt, refl), ((tt, refl), ((tt, refl), ((tt, refl), apart_whole e _ ((tt, refl), ((refl, refl), ((tt, refl), ((tt, refl), apart_literal l _ ((tt, refl), apart_stmts s d rest h))))))))))
apart_stmts (old.AHas p0 x p1 t p2 e p3 p4 s) d rest h = ((tt, refl), ((tt, refl), ((tt, refl), ((tt, refl), ((tt, refl), apart_whole e _ ((tt, refl), ((tt, refl), apart_stmts s d rest h)))))))
apart_stmts (old.APut p0 t p1 e p2 p3 p4 v vs p5 p6 s) d rest h = ((tt, refl), ((tt, refl), ((tt, refl), apart_whole e _ ((tt, refl), ((tt, refl), ((tt, refl), apart_whole v _ (apart_values vs _ ((tt, refl), ((tt, refl), apart_stmts s d rest h)))))))))
apart_stmts (old.ASet p0 t p1 e p2 p3 c p4 v p5 s) d rest h = ((tt, refl), ((tt, refl), ((tt, refl), apart_whole e _ ((tt, refl), ((refl, refl), ((tt, refl), ((tt, refl), apart_whole v _ ((tt, refl), apart_stmts s d rest h))))))))
apart_stmts (old.ADelete p0 t p1 e p2 p3 s) d rest h = ((tt, refl), ((tt, refl), ((tt, refl), apart_whole e _ ((tt, refl), ((tt, refl), apart_stmts s d rest h)))))
apart_stmts (old.AnAbort p0 p1 e p2 s) d rest h = ((tt, refl), ((tt, refl), apart_whole e _ ((tt, refl), apart_stmts s d rest h)))
apart_stmts (old.AnIf p0 e p1 first p2 s) d rest h = ((tt, refl), apart_whole e _ ((tt, refl), apart_stmts first (suc d) _ ((tt, refl), apart_stmts s d rest h)))
apart_stmts (old.AnIfElse p0 e p1 first p2 p3 p4 second p5 s) d rest h = ((tt, refl), apart_whole e _ ((tt, refl), apart_stmts first (suc d) _ ((tt, refl), ((tt, refl), ((tt, refl), apart_stmts second (suc d) _ ((tt, refl), apart_stmts s d rest h))))))

apart_type : (t : TypeForm) (rest : List Marked) → Apart rest → Apart (type_mark t ∷ rest)
apart_type (AnIntType at) rest h = ((tt, refl), h)
apart_type (ATextType at) rest h = ((tt, refl), h)

apart_columns : (c : ColumnsForm) (role : ℕ → Role) (i : ℕ) (rest : List Marked) → Apart rest → Apart (columns_before role i c rest)
apart_columns NoColumn role i rest h = h
apart_columns (AColumn comma n t c) role i rest h = ((tt, refl), ((tt, refl), apart_type t _ (apart_columns c role (suc i) rest h)))

apart_params : (c : ParamsForm) (rest : List Marked) → Apart rest → Apart (params_before c rest)
apart_params NoParam rest h = h
apart_params (AParam n t c) rest h = ((tt, refl), apart_type t _ (apart_columns c ParamName 1 rest h))

apart_tables : (f : TablesForm) (i : ℕ) (rest : List Marked) → Apart rest → Apart (tables_before i f rest)
apart_tables NoTable i rest h = h
apart_tables (ATable p0 n p1 p2 k p3 c t cs p4 p5 f) i rest h =
    let more : List Marked = symbol_mark symbol.CloseParen p4 Plain ∷ symbol_mark symbol.Semicolon p5 Plain ∷ tables_before (suc i) f rest in
    let columns : Apart (columns_before ColumnName 1 cs more) = apart_columns cs ColumnName 1 more ((tt, refl), ((tt, refl), apart_tables f (suc i) rest h)) in
    let first : List Marked = name_mark c (ColumnName 1) ∷ type_mark t ∷ columns_before ColumnName 1 cs more in
    ((tt, refl), ((tt, refl), ((tt, refl), ((tt, refl), apart_type k (symbol_mark symbol.Comma p3 Plain ∷ first) ((tt, refl), ((tt, refl), apart_type t (columns_before ColumnName 1 cs more) columns))))))

apart_procs : (f : old.LooplessProcs) (i : ℕ) → Apart (old.loopless_procs_before i f [])
apart_procs old.NoProc i = tt
apart_procs (old.AProc p0 n p1 ps p2 p3 s p4 f) i = ((tt, refl), ((tt, refl), ((tt, refl), apart_params ps _ ((tt, refl), ((tt, refl), apart_stmts s 0 _ ((tt, refl), apart_procs f (suc i)))))))

pub dots_apart : (form : old.LooplessCatalogue) → DotsApart (tokens_of (old.loopless_marks form))
dots_apart form = apart_tables form.tables 0 (old.loopless_procs_before 0 form.procs []) (apart_procs form.procs 0)
