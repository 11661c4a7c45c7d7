-- The tokens of a derivation that is proper are within the limits, and its operators stand as the levels say.
use Rattle.std.proofs.Common.{◌≡◌, ◌≤◌, ℕ, suc, List, [], ◌∷◌, None, refl, ◌∙◌, arith}
use Rattle.std.specs.List.{AllByRecursion}
use Rattle.std.proofs.lemmas.Bool.{le-ltb}
use Rattle.pac_tokens.specs.declared.fault.FaultKind.TheVariants.{TooMany, TooDeep}
use Rattle.pac_tokens.specs.declared.fault.Fault.{Fault}
use Rattle.pac_tokens.specs.declared.token.Symbol.TheVariants as symbol
use Rattle.pac_syntax.specs.declared.limits.Around.{Around}
use Rattle.pac_syntax.specs.Grammar.{outermost, inside_block, in_loop, loop_turns, last_bound, bound_value, bound_before, BoundForm, ABound, ANegativeBound, ALoop, LiteralForm, AnInt, ANegative, AText, ATrue, AFalse, ExprForm, ALiteral, AName, ANot, AParen, ABinary, ValuesForm, NoValue, AValue, StmtsForm, NoStmt, ALet, ARead, AHas, APut, ASet, ADelete, AnAbort, AnIf, AnIfElse, TypeForm, AnIntType, ATextType, ColumnsForm, NoColumn, AColumn, ParamsForm, NoParam, AParam, TablesForm, NoTable, ATable, ProcsForm, NoProc, AProc, CatalogueForm, AreValues, AreStmts, AreProcs, Role, Plain, ColumnName, ParamName, Marked, symbol_mark, name_mark, type_mark, counted, literal_before, expr_before, whole_before, values_before, stmts_before, columns_before, params_before, tables_before, procs_before, marks_of}
use Rattle.pac_syntax.specs.Faults.{fault_of, past, over_role, IsWithin}
use Rattle.pac_syntax.proofs.WithinLimits.{AllWithin}
use Rattle.pac_print.proofs.Proper.{IsProper, IsProperWhole, AreProperValues, AreProperStmts, AreProperColumns, AreProperParams, AreProperTables, AreProperProcs, IsProperCatalogue, IsLimitedTo}

-- a number that is within its limit has no fault
within_most : (limit n : ℕ) (fault : Fault) → n ≤ limit → past limit n fault ≡ None
within_most limit n fault le = rw (le-ltb limit n le) refl

-- ---- expressions

within_literal : (l : LiteralForm) (rest : List Marked) → AllWithin rest → AllWithin (literal_before l rest)
within_literal (AnInt at z) rest h = (refl, h)
within_literal (ANegative minus at z) rest h = (refl, (refl, h))
within_literal (AText at x) rest h = (refl, h)
within_literal (ATrue at) rest h = (refl, h)
within_literal (AFalse at) rest h = (refl, h)

within_bound : (b : BoundForm) (role : Role) (rest : List Marked) → ((at : ℕ) → over_role role at ≡ None) → AllWithin rest → AllWithin (bound_before b role rest)
within_bound (ABound at z) role rest fine h = (fine at, h)
within_bound (ANegativeBound minus at z) role rest fine h = (refl, (fine at, h))

counted_grows : (e : ExprForm) (o : ℕ) → o ≤ counted o e
counted_grows (ALiteral l) o = omega arith
counted_grows (AName n) o = omega arith
counted_grows (ANot at e) o = omega (arith, counted_grows e (suc o))
counted_grows (AParen opening e closing) o = counted_grows e o
counted_grows (ABinary op at l r) o = omega (arith, counted_grows l o, counted_grows r (suc (counted o l)))

within_expr : (e : ExprForm) (d o : ℕ) (rest : List Marked) → IsProper d e → counted o e ≤ 64 → AllWithin rest → AllWithin (expr_before d o e rest)
within_expr (ALiteral l) d o rest p few h = within_literal l rest h
within_expr (AName n) d o rest p few h = (refl, h)
within_expr (ANot at e) d o rest p few h = (within_most 64 (suc o) (fault_of TooMany at) (omega (arith, few, counted_grows e (suc o))), within_expr e d (suc o) rest p few h)
within_expr (AParen opening e closing) d o rest p few h = (within_most 16 (suc d) (fault_of TooDeep opening) p.0, within_expr e (suc d) o (_ ∷ rest) p.1 few (refl, h))
within_expr (ABinary op at l r) d o rest p few h =
    let grown : suc (counted o l) ≤ counted o (ABinary op at l r) = counted_grows r (suc (counted o l)) in
    within_expr l d o (_ ∷ expr_before d (suc (counted o l)) r rest) p.0 (omega (arith, few, grown))
    (within_most 64 (suc (counted o l)) (fault_of TooMany at) (omega (arith, few, grown)), within_expr r d (suc (counted o l)) rest p.1 few h)

within_whole : (e : ExprForm) (rest : List Marked) → IsProperWhole e → AllWithin rest → AllWithin (whole_before e rest)
within_whole e rest p h = within_expr e 0 0 rest p.parts p.few h

within_values : (vs : ValuesForm) (rest : List Marked) → AreProperValues vs → AllWithin rest → AllWithin (values_before vs rest)
within_values NoValue rest p h = h
within_values (AValue comma e vs) rest p h = (refl, within_whole e (values_before vs rest) p.0 (within_values vs rest p.1 h))

-- ---- statements

within_stmts : (s : StmtsForm) (d : Around) (rest : List Marked) → AreProperStmts d s → AllWithin rest → AllWithin (stmts_before d s rest)
within_stmts NoStmt d rest p h = h
within_stmts (ALet p0 x p1 e p2 s) d rest p h = (refl, (refl, (refl, within_whole e _ p.1 (refl, within_stmts s d rest p.2 h))))
within_stmts (ARead p0 x p1 t p2 e p3 p4 c p5 l p6 s) d rest p h =
    (refl, (refl, (refl, (refl, (refl, within_whole e _ p.2 (refl, (refl, (refl, (refl, within_literal l _ (refl, within_stmts s d rest p.5 h))))))))))
within_stmts (AHas p0 x p1 t p2 e p3 p4 s) d rest p h = (refl, (refl, (refl, (refl, (refl, within_whole e _ p.2 (refl, (refl, within_stmts s d rest p.3 h)))))))
within_stmts (APut p0 t p1 e p2 p3 p4 v vs p5 p6 s) d rest p h =
    (refl, (refl, (refl, within_whole e _ p.1 (refl, (refl, (refl, within_whole v _ p.2 (within_values vs _ p.3 (refl, (refl, within_stmts s d rest p.4 h)))))))))
within_stmts (ASet p0 t p1 e p2 p3 c p4 v p5 s) d rest p h =
    (refl, (refl, (refl, within_whole e _ p.1 (refl, (refl, (refl, (refl, within_whole v _ p.3 (refl, within_stmts s d rest p.4 h))))))))
within_stmts (ADelete p0 t p1 e p2 p3 s) d rest p h = (refl, (refl, (refl, within_whole e _ p.1 (refl, (refl, within_stmts s d rest p.2 h)))))
within_stmts (AnAbort p0 p1 e p2 s) d rest p h = (refl, (refl, within_whole e _ p.0 (refl, within_stmts s d rest p.1 h)))
within_stmts (AnIf p0 e p1 first p2 s) d rest p h =
    (within_most 16 (suc d.nested) (fault_of TooDeep p0) p.0, within_whole e _ p.1 (refl, within_stmts first (inside_block d) _ p.2 (refl, within_stmts s d rest p.3 h)))
within_stmts (AnIfElse p0 e p1 first p2 p3 p4 second p5 s) d rest p h =
    (within_most 16 (suc d.nested) (fault_of TooDeep p0) p.0, within_whole e _ p.1 (refl, within_stmts first (inside_block d) _ p.2 (refl, (refl, (refl, within_stmts second (inside_block d) _ p.3 (refl, within_stmts s d rest p.4 h))))))
within_stmts (ALoop p0 x p1 a p2 b p3 body p4 s) d rest p h =
    let role = last_bound d p0 (bound_value a) (bound_value b) in
    let inner = in_loop d (bound_value a) (bound_value b) in
    let block = stmts_before inner body (symbol_mark symbol.CloseBrace p4 Plain ∷ stmts_before d s rest) in
    let inside_is : AllWithin block = within_stmts body inner (symbol_mark symbol.CloseBrace p4 Plain ∷ stmts_before d s rest) p.5 (refl, within_stmts s d rest p.6 h) in
    let last = within_bound b role (symbol_mark symbol.OpenBrace p3 Plain ∷ block) (λ at. within_most 256 (loop_turns d (bound_value a) (bound_value b)) (fault_of TooMany p0) p.4) (refl, inside_is) in
    let first = within_bound a Plain (symbol_mark symbol.Range p2 Plain ∷ bound_before b role (symbol_mark symbol.OpenBrace p3 Plain ∷ block)) (λ at. refl) (refl, last) in
    (within_most 16 (suc d.nested) (fault_of TooDeep p0) p.0, (refl, (refl, first)))

values_levels : (vs : ValuesForm) → AreProperValues vs → AreValues vs
values_levels NoValue p = tt
values_levels (AValue comma e vs) p = (p.0.levels, values_levels vs p.1)

stmts_levels : (s : StmtsForm) (d : Around) → AreProperStmts d s → AreStmts s
stmts_levels NoStmt d p = tt
stmts_levels (ALet p0 x p1 e p2 s) d p = (p.1.levels, stmts_levels s d p.2)
stmts_levels (ARead p0 x p1 t p2 e p3 p4 c p5 l p6 s) d p = (p.2.levels, stmts_levels s d p.5)
stmts_levels (AHas p0 x p1 t p2 e p3 p4 s) d p = (p.2.levels, stmts_levels s d p.3)
stmts_levels (APut p0 t p1 e p2 p3 p4 v vs p5 p6 s) d p = (p.1.levels, p.2.levels, values_levels vs p.3, stmts_levels s d p.4)
stmts_levels (ASet p0 t p1 e p2 p3 c p4 v p5 s) d p = (p.1.levels, p.3.levels, stmts_levels s d p.4)
stmts_levels (ADelete p0 t p1 e p2 p3 s) d p = (p.1.levels, stmts_levels s d p.2)
stmts_levels (AnAbort p0 p1 e p2 s) d p = (p.0.levels, stmts_levels s d p.1)
stmts_levels (AnIf p0 e p1 first p2 s) d p = (p.1.levels, stmts_levels first (inside_block d) p.2, stmts_levels s d p.3)
stmts_levels (AnIfElse p0 e p1 first p2 p3 p4 second p5 s) d p = (p.1.levels, stmts_levels first (inside_block d) p.2, stmts_levels second (inside_block d) p.3, stmts_levels s d p.4)
stmts_levels (ALoop p0 x p1 a p2 b p3 body p4 s) d p = (stmts_levels body (in_loop d (bound_value a) (bound_value b)) p.5, stmts_levels s d p.6)

-- ---- columns, parameters, tables and procedures

within_type : (t : TypeForm) (rest : List Marked) → AllWithin rest → AllWithin (type_mark t ∷ rest)
within_type (AnIntType at) rest h = (refl, h)
within_type (ATextType at) rest h = (refl, h)

within_columns : (most : ℕ) (role : ℕ → Role) → IsLimitedTo most role → (cs : ColumnsForm) (i : ℕ) (rest : List Marked) → AreProperColumns most i cs → AllWithin rest → AllWithin (columns_before role i cs rest)
within_columns most role is NoColumn i rest p h = h
within_columns most role is (AColumn comma n t cs) i rest p h =
    (refl, (is (suc i) n.at ∙ within_most most (suc i) (fault_of TooMany n.at) p.0, within_type t _ (within_columns most role is cs (suc i) rest p.2 h)))

within_params : (ps : ParamsForm) (rest : List Marked) → AreProperParams ps → AllWithin rest → AllWithin (params_before ps rest)
within_params NoParam rest p h = h
within_params (AParam n t cs) rest p h = (refl, within_type t _ (within_columns 16 ParamName (λ n at. refl) cs 1 rest p.1 h))

within_tables : (ts : TablesForm) (i : ℕ) (rest : List Marked) → AreProperTables i ts → AllWithin rest → AllWithin (tables_before i ts rest)
within_tables NoTable i rest p h = h
within_tables (ATable p0 n p1 p2 k p3 c t cs p4 p5 ts) i rest p h =
    let more : List Marked = symbol_mark symbol.CloseParen p4 Plain ∷ symbol_mark symbol.Semicolon p5 Plain ∷ tables_before (suc i) ts rest in
    let columns : AllWithin (columns_before ColumnName 1 cs more) = within_columns 8 ColumnName (λ n at. refl) cs 1 more p.3 (refl, (refl, within_tables ts (suc i) rest p.4 h)) in
    let first : List Marked = name_mark c (ColumnName 1) ∷ type_mark t ∷ columns_before ColumnName 1 cs more in
    (within_most 64 (suc i) (fault_of TooMany p0) p.0, (refl, (refl, (refl, within_type k (symbol_mark symbol.Comma p3 Plain ∷ first) (refl, (refl, within_type t (columns_before ColumnName 1 cs more) columns))))))

within_procs : (procs : ProcsForm) (i : ℕ) → AreProperProcs i procs → AllWithin (procs_before i procs [])
within_procs NoProc i p = tt
within_procs (AProc p0 n p1 ps p2 p3 s p4 procs) i p =
    (within_most 64 (suc i) (fault_of TooMany p0) p.0, (refl, (refl, within_params ps _ p.2 (refl, (refl, within_stmts s outermost _ p.3 (refl, within_procs procs (suc i) p.4))))))

procs_levels : (procs : ProcsForm) (i : ℕ) → AreProperProcs i procs → AreProcs procs
procs_levels NoProc i p = tt
procs_levels (AProc p0 n p1 ps p2 p3 s p4 procs) i p = (stmts_levels s outermost p.3, procs_levels procs (suc i) p.4)

pub catalogue_within : (form : CatalogueForm) → IsProperCatalogue form → AllByRecursion IsWithin (marks_of form)
catalogue_within form p = within_tables form.tables 0 (procs_before 0 form.procs []) p.tables (within_procs form.procs 0 p.procs)

pub catalogue_levels : (form : CatalogueForm) → IsProperCatalogue form → AreProcs form.procs
catalogue_levels form p = procs_levels form.procs 0 p.procs
