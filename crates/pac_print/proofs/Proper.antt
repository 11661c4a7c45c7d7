-- What a derivation within the limits is made of, without its tokens: it spells tokens within the limits just where its
-- parts are proper.
use Rattle.std.proofs.Common.{◌≡◌, ◌≤◌, ℕ, suc, List, [], ◌∷◌, None, refl, sym, ◌∙◌, arith}
use Rattle.std.specs.List.{AllByRecursion}
use Rattle.pac_tokens.specs.declared.fault.FaultKind.TheVariants.{TooMany, TooDeep}
use Rattle.pac_syntax.specs.declared.limits.Around.{Around}
use Rattle.pac_syntax.specs.Grammar.{outermost, inside_block, in_loop, loop_turns, last_bound, bound_value, bound_before, BoundForm, ABound, ANegativeBound, ALoop, LiteralForm, AnInt, ANegative, AText, ATrue, AFalse, ExprForm, ALiteral, AName, ANot, AParen, ABinary, ValuesForm, NoValue, AValue, StmtsForm, NoStmt, ALet, ARead, AHas, APut, ASet, ADelete, AnAbort, AnIf, AnIfElse, ColumnsForm, NoColumn, AColumn, ParamsForm, NoParam, AParam, TablesForm, NoTable, ATable, ProcsForm, NoProc, AProc, CatalogueForm, IsExpr, AreValues, AreStmts, AreProcs, Role, Plain, ColumnName, ParamName, Marked, counted, literal_before, expr_before, whole_before, values_before, stmts_before, columns_before, params_before, tables_before, procs_before, marks_of, tokens_of}
use Rattle.pac_syntax.specs.Faults.{fault_of, past, over_role, IsWithin}
use Rattle.pac_print.proofs.TokenFacts.{IsNameToken, IsIntToken, IsNegativeToken, IsTextToken, IsToken}
use Rattle.pac_syntax.proofs.WithinLimits.{at_most}

-- ---- what is proper

abbrev pub IsProperLiteral : LiteralForm → Type 0
IsProperLiteral (AnInt at z) = IsIntToken z
IsProperLiteral (ANegative minus at z) = IsNegativeToken z
IsProperLiteral (AText at x) = IsTextToken x
IsProperLiteral (ATrue at) = Unit {0}
IsProperLiteral (AFalse at) = Unit {0}

abbrev pub IsProperBound : BoundForm → Type 0
IsProperBound (ABound at z) = IsIntToken z
IsProperBound (ANegativeBound minus at z) = IsNegativeToken z

-- an expression in that many parentheses
abbrev pub IsProper : ℕ → ExprForm → Type 0
IsProper d (ALiteral l) = IsProperLiteral l
IsProper d (AName n) = IsNameToken n.name
IsProper d (ANot at e) = IsProper d e
IsProper d (AParen opening e closing) = (suc d ≤ 16) × IsProper (suc d) e
IsProper d (ABinary op at l r) = IsProper d l × IsProper d r

pub record IsProperWhole (e : ExprForm) : Type 0 where
  pub levels : IsExpr e
  pub parts : IsProper 0 e
  pub few : counted 0 e ≤ 64

abbrev pub AreProperValues : ValuesForm → Type 0
AreProperValues NoValue = Unit {0}
AreProperValues (AValue comma e vs) = IsProperWhole e × AreProperValues vs

-- statements with so much round them
abbrev pub AreProperStmts : Around → StmtsForm → Type 0
AreProperStmts d NoStmt = Unit {0}
AreProperStmts d (ALet p0 x p1 e p2 s) = IsNameToken x.name × IsProperWhole e × AreProperStmts d s
AreProperStmts d (ARead p0 x p1 t p2 e p3 p4 c p5 l p6 s) = IsNameToken x.name × IsNameToken t.name × IsProperWhole e × IsNameToken c.name × IsProperLiteral l × AreProperStmts d s
AreProperStmts d (AHas p0 x p1 t p2 e p3 p4 s) = IsNameToken x.name × IsNameToken t.name × IsProperWhole e × AreProperStmts d s
AreProperStmts d (APut p0 t p1 e p2 p3 p4 v vs p5 p6 s) = IsNameToken t.name × IsProperWhole e × IsProperWhole v × AreProperValues vs × AreProperStmts d s
AreProperStmts d (ASet p0 t p1 e p2 p3 c p4 v p5 s) = IsNameToken t.name × IsProperWhole e × IsNameToken c.name × IsProperWhole v × AreProperStmts d s
AreProperStmts d (ADelete p0 t p1 e p2 p3 s) = IsNameToken t.name × IsProperWhole e × AreProperStmts d s
AreProperStmts d (AnAbort p0 p1 e p2 s) = IsProperWhole e × AreProperStmts d s
AreProperStmts d (AnIf p0 e p1 first p2 s) = (suc d.nested ≤ 16) × IsProperWhole e × AreProperStmts (inside_block d) first × AreProperStmts d s
AreProperStmts d (AnIfElse p0 e p1 first p2 p3 p4 second p5 s) = (suc d.nested ≤ 16) × IsProperWhole e × AreProperStmts (inside_block d) first × AreProperStmts (inside_block d) second × AreProperStmts d s
AreProperStmts d (ALoop p0 x p1 a p2 b p3 body p4 s) =
    (suc d.nested ≤ 16) × IsNameToken x.name × IsProperBound a × IsProperBound b × (loop_turns d (bound_value a) (bound_value b) ≤ 256) × AreProperStmts (in_loop d (bound_value a) (bound_value b)) body × AreProperStmts d s

-- columns or parameters after that many others, of which there may be that many
abbrev pub AreProperColumns : ℕ → ℕ → ColumnsForm → Type 0
AreProperColumns most i NoColumn = Unit {0}
AreProperColumns most i (AColumn comma n t cs) = (suc i ≤ most) × IsNameToken n.name × AreProperColumns most (suc i) cs

abbrev pub AreProperParams : ParamsForm → Type 0
AreProperParams NoParam = Unit {0}
AreProperParams (AParam n t cs) = IsNameToken n.name × AreProperColumns 16 1 cs

abbrev pub AreProperTables : ℕ → TablesForm → Type 0
AreProperTables i NoTable = Unit {0}
AreProperTables i (ATable p0 n p1 p2 k p3 c t cs p4 p5 ts) = (suc i ≤ 64) × IsNameToken n.name × IsNameToken c.name × AreProperColumns 8 1 cs × AreProperTables (suc i) ts

abbrev pub AreProperProcs : ℕ → ProcsForm → Type 0
AreProperProcs i NoProc = Unit {0}
AreProperProcs i (AProc p0 n p1 ps p2 p3 s p4 procs) = (suc i ≤ 64) × IsNameToken n.name × AreProperParams ps × AreProperStmts outermost s × AreProperProcs (suc i) procs

pub record IsProperCatalogue (form : CatalogueForm) : Type 0 where
  pub tables : AreProperTables 0 form.tables
  pub procs : AreProperProcs 0 form.procs

-- ---- from tokens to what is proper

-- a token of a text, and within its limit
abbrev pub IsFine : Marked → Type 0
IsFine m = IsWithin m × IsToken m.token.token

abbrev AllFine : List Marked → Type 0
AllFine ms = AllByRecursion IsFine ms

pub all_fine : (ms : List Marked) → AllByRecursion IsWithin ms → AllByRecursion (λ t. IsToken t.token) (tokens_of ms) → AllByRecursion IsFine ms
all_fine [] h k = tt
all_fine (m ∷ ms) h k = ((h.0, k.0), all_fine ms h.1 k.1)

record FineLiteral (l : LiteralForm) (rest : List Marked) : Type 0 where
  proper : IsProperLiteral l
  after : AllFine rest

fine_literal : (l : LiteralForm) (rest : List Marked) → AllFine (literal_before l rest) → FineLiteral l rest
fine_literal (AnInt at z) rest h = record { proper = h.0.1; after = h.1 }
fine_literal (ANegative minus at z) rest h = record { proper = h.1.0.1; after = h.1.1 }
fine_literal (AText at x) rest h = record { proper = h.0.1; after = h.1 }
fine_literal (ATrue at) rest h = record { proper = tt; after = h.1 }
fine_literal (AFalse at) rest h = record { proper = tt; after = h.1 }

record FineBound (b : BoundForm) (role : Role) (rest : List Marked) : Type 0 where
  proper : IsProperBound b
  within : (at : ℕ) × (over_role role at ≡ None)
  after : AllFine rest

fine_bound : (b : BoundForm) (role : Role) (rest : List Marked) → AllFine (bound_before b role rest) → FineBound b role rest
fine_bound (ABound at z) role rest h = record { proper = h.0.1; within = (at, h.0.0); after = h.1 }
fine_bound (ANegativeBound minus at z) role rest h = record { proper = h.1.0.1; within = (at, h.1.0.0); after = h.1.1 }

record FineExpr (e : ExprForm) (d o : ℕ) (rest : List Marked) : Type 0 where
  proper : IsProper d e
  few : counted o e ≤ 64
  after : AllFine rest

fine_expr : (e : ExprForm) (d o : ℕ) (rest : List Marked) → o ≤ 64 → AllFine (expr_before d o e rest) → FineExpr e d o rest
fine_expr (ALiteral l) d o rest le h = let f = fine_literal l rest h in record { proper = f.proper; few = le; after = f.after }
fine_expr (AName n) d o rest le h = record { proper = h.0.1; few = le; after = h.1 }
fine_expr (ANot at e) d o rest le h =
    let f = fine_expr e d (suc o) rest (at_most 64 (suc o) (fault_of TooMany at) h.0.0) h.1 in
    record { proper = f.proper; few = f.few; after = f.after }
fine_expr (AParen opening e closing) d o rest le h =
    let f = fine_expr e (suc d) o (_ ∷ rest) le h.1 in
    record { proper = (at_most 16 (suc d) (fault_of TooDeep opening) h.0.0, f.proper); few = f.few; after = f.after.1 }
fine_expr (ABinary op at l r) d o rest le h =
    let f = fine_expr l d o (_ ∷ expr_before d (suc (counted o l)) r rest) le h in
    let g = fine_expr r d (suc (counted o l)) rest (at_most 64 (suc (counted o l)) (fault_of TooMany at) f.after.0.0) f.after.1 in
    record { proper = (f.proper, g.proper); few = g.few; after = g.after }

record FineWhole (e : ExprForm) (rest : List Marked) : Type 0 where
  proper : IsProperWhole e
  after : AllFine rest

fine_whole : (e : ExprForm) (rest : List Marked) → IsExpr e → AllFine (whole_before e rest) → FineWhole e rest
fine_whole e rest levels h = let f = fine_expr e 0 0 rest (omega arith) h in record { proper = record { levels = levels; parts = f.proper; few = f.few }; after = f.after }

record FineValues (vs : ValuesForm) (rest : List Marked) : Type 0 where
  proper : AreProperValues vs
  after : AllFine rest

fine_values : (vs : ValuesForm) (rest : List Marked) → AreValues vs → AllFine (values_before vs rest) → FineValues vs rest
fine_values NoValue rest levels h = record { proper = tt; after = h }
fine_values (AValue comma e vs) rest levels h =
    let f = fine_whole e (values_before vs rest) levels.0 h.1 in
    let more = fine_values vs rest levels.1 f.after in
    record { proper = (f.proper, more.proper); after = more.after }

record FineStmts (s : StmtsForm) (d : Around) (rest : List Marked) : Type 0 where
  proper : AreProperStmts d s
  after : AllFine rest

fine_stmts : (s : StmtsForm) (d : Around) (rest : List Marked) → AreStmts s → AllFine (stmts_before d s rest) → FineStmts s d rest
fine_stmts NoStmt d rest levels h = record { proper = tt; after = h }
fine_stmts (ALet p0 x p1 e p2 s) d rest levels h =
    let f = fine_whole e (_ ∷ stmts_before d s rest) levels.0 h.1.1.1 in
    let more = fine_stmts s d rest levels.1 f.after.1 in
    record { proper = (h.1.0.1, f.proper, more.proper); after = more.after }
fine_stmts (ARead p0 x p1 t p2 e p3 p4 c p5 l p6 s) d rest levels h =
    let f = fine_whole e (_ ∷ _ ∷ _ ∷ _ ∷ literal_before l (_ ∷ stmts_before d s rest)) levels.0 h.1.1.1.1.1 in
    let g = fine_literal l (_ ∷ stmts_before d s rest) f.after.1.1.1.1 in
    let more = fine_stmts s d rest levels.1 g.after.1 in
    record { proper = (h.1.0.1, h.1.1.1.0.1, f.proper, f.after.1.1.0.1, g.proper, more.proper); after = more.after }
fine_stmts (AHas p0 x p1 t p2 e p3 p4 s) d rest levels h =
    let f = fine_whole e (_ ∷ _ ∷ stmts_before d s rest) levels.0 h.1.1.1.1.1 in
    let more = fine_stmts s d rest levels.1 f.after.1.1 in
    record { proper = (h.1.0.1, h.1.1.1.0.1, f.proper, more.proper); after = more.after }
fine_stmts (APut p0 t p1 e p2 p3 p4 v vs p5 p6 s) d rest levels h =
    let f = fine_whole e (_ ∷ _ ∷ _ ∷ whole_before v (values_before vs (_ ∷ _ ∷ stmts_before d s rest))) levels.0 h.1.1.1 in
    let g = fine_whole v (values_before vs (_ ∷ _ ∷ stmts_before d s rest)) levels.1 f.after.1.1.1 in
    let k = fine_values vs (_ ∷ _ ∷ stmts_before d s rest) levels.2 g.after in
    let more = fine_stmts s d rest levels.3 k.after.1.1 in
    record { proper = (h.1.0.1, f.proper, g.proper, k.proper, more.proper); after = more.after }
fine_stmts (ASet p0 t p1 e p2 p3 c p4 v p5 s) d rest levels h =
    let f = fine_whole e (_ ∷ _ ∷ _ ∷ _ ∷ whole_before v (_ ∷ stmts_before d s rest)) levels.0 h.1.1.1 in
    let g = fine_whole v (_ ∷ stmts_before d s rest) levels.1 f.after.1.1.1.1 in
    let more = fine_stmts s d rest levels.2 g.after.1 in
    record { proper = (h.1.0.1, f.proper, f.after.1.1.0.1, g.proper, more.proper); after = more.after }
fine_stmts (ADelete p0 t p1 e p2 p3 s) d rest levels h =
    let f = fine_whole e (_ ∷ _ ∷ stmts_before d s rest) levels.0 h.1.1.1 in
    let more = fine_stmts s d rest levels.1 f.after.1.1 in
    record { proper = (h.1.0.1, f.proper, more.proper); after = more.after }
fine_stmts (AnAbort p0 p1 e p2 s) d rest levels h =
    let f = fine_whole e (_ ∷ stmts_before d s rest) levels.0 h.1.1 in
    let more = fine_stmts s d rest levels.1 f.after.1 in
    record { proper = (f.proper, more.proper); after = more.after }
fine_stmts (AnIf p0 e p1 first p2 s) d rest levels h =
    let f = fine_whole e (_ ∷ stmts_before (inside_block d) first (_ ∷ stmts_before d s rest)) levels.0 h.1 in
    let one = fine_stmts first (inside_block d) (_ ∷ stmts_before d s rest) levels.1 f.after.1 in
    let more = fine_stmts s d rest levels.2 one.after.1 in
    record { proper = (at_most 16 (suc d.nested) (fault_of TooDeep p0) h.0.0, f.proper, one.proper, more.proper); after = more.after }
fine_stmts (AnIfElse p0 e p1 first p2 p3 p4 second p5 s) d rest levels h =
    let f = fine_whole e (_ ∷ stmts_before (inside_block d) first (_ ∷ _ ∷ _ ∷ stmts_before (inside_block d) second (_ ∷ stmts_before d s rest))) levels.0 h.1 in
    let one = fine_stmts first (inside_block d) (_ ∷ _ ∷ _ ∷ stmts_before (inside_block d) second (_ ∷ stmts_before d s rest)) levels.1 f.after.1 in
    let two = fine_stmts second (inside_block d) (_ ∷ stmts_before d s rest) levels.2 one.after.1.1.1 in
    let more = fine_stmts s d rest levels.3 two.after.1 in
    record { proper = (at_most 16 (suc d.nested) (fault_of TooDeep p0) h.0.0, f.proper, one.proper, two.proper, more.proper); after = more.after }
fine_stmts (ALoop p0 x p1 a p2 b p3 body p4 s) d rest levels h =
    let turns = loop_turns d (bound_value a) (bound_value b) in
    let role = last_bound d p0 (bound_value a) (bound_value b) in
    let inner = in_loop d (bound_value a) (bound_value b) in
    let block = stmts_before inner body (_ ∷ stmts_before d s rest) in
    let first = fine_bound a Plain (_ ∷ bound_before b role (_ ∷ block)) h.1.1.1 in
    let last = fine_bound b role (_ ∷ block) first.after.1 in
    let one = fine_stmts body inner (_ ∷ stmts_before d s rest) levels.0 last.after.1 in
    let more = fine_stmts s d rest levels.1 one.after.1 in
    record {
      proper = (at_most 16 (suc d.nested) (fault_of TooDeep p0) h.0.0, h.1.0.1, first.proper, last.proper, at_most 256 turns (fault_of TooMany p0) last.within.1, one.proper, more.proper);
      after = more.after;
    }

record FineColumns (most i : ℕ) (cs : ColumnsForm) (rest : List Marked) : Type 0 where
  proper : AreProperColumns most i cs
  after : AllFine rest

-- the fault of a name over the limit
abbrev pub IsLimitedTo : ℕ → (ℕ → Role) → Type 0
IsLimitedTo most role = (n at : ℕ) → over_role (role n) at ≡ past most n (fault_of TooMany at)

fine_columns : (most : ℕ) (role : ℕ → Role) → IsLimitedTo most role → (cs : ColumnsForm) (i : ℕ) (rest : List Marked) → AllFine (columns_before role i cs rest) → FineColumns most i cs rest
fine_columns most role is NoColumn i rest h = record { proper = tt; after = h }
fine_columns most role is (AColumn comma n t cs) i rest h =
    let more = fine_columns most role is cs (suc i) rest h.1.1.1 in
    record { proper = (at_most most (suc i) (fault_of TooMany n.at) (sym (is (suc i) n.at) ∙ h.1.0.0), h.1.0.1, more.proper); after = more.after }

record FineParams (ps : ParamsForm) (rest : List Marked) : Type 0 where
  proper : AreProperParams ps
  after : AllFine rest

fine_params : (ps : ParamsForm) (rest : List Marked) → AllFine (params_before ps rest) → FineParams ps rest
fine_params NoParam rest h = record { proper = tt; after = h }
fine_params (AParam n t cs) rest h = let more = fine_columns 16 ParamName (λ n at. refl) cs 1 rest h.1.1 in record { proper = (h.0.1, more.proper); after = more.after }

record FineTables (i : ℕ) (ts : TablesForm) (rest : List Marked) : Type 0 where
  proper : AreProperTables i ts
  after : AllFine rest

fine_tables : (ts : TablesForm) (i : ℕ) (rest : List Marked) → AllFine (tables_before i ts rest) → FineTables i ts rest
fine_tables NoTable i rest h = record { proper = tt; after = h }
fine_tables (ATable p0 n p1 p2 k p3 c t cs p4 p5 ts) i rest h =
    let f = fine_columns 8 ColumnName (λ n at. refl) cs 1 (_ ∷ _ ∷ tables_before (suc i) ts rest) h.1.1.1.1.1.1.1.1 in
    let more = fine_tables ts (suc i) rest f.after.1.1 in
    record { proper = (at_most 64 (suc i) (fault_of TooMany p0) h.0.0, h.1.0.1, h.1.1.1.1.1.1.0.1, f.proper, more.proper); after = more.after }

fine_procs : (procs : ProcsForm) (i : ℕ) → AreProcs procs → AllFine (procs_before i procs []) → AreProperProcs i procs
fine_procs NoProc i levels h = tt
fine_procs (AProc p0 n p1 ps p2 p3 s p4 procs) i levels h =
    let f = fine_params ps (_ ∷ _ ∷ stmts_before outermost s (_ ∷ procs_before (suc i) procs [])) h.1.1.1 in
    let g = fine_stmts s outermost (_ ∷ procs_before (suc i) procs []) levels.0 f.after.1.1 in
    (at_most 64 (suc i) (fault_of TooMany p0) h.0.0, h.1.0.1, f.proper, g.proper, fine_procs procs (suc i) levels.1 g.after.1)

pub fine_catalogue : (form : CatalogueForm) → AreProcs form.procs → AllByRecursion IsFine (marks_of form) → IsProperCatalogue form
fine_catalogue form levels h =
    let f = fine_tables form.tables 0 (procs_before 0 form.procs []) h in
    record { tables = f.proper; procs = fine_procs form.procs 0 levels f.after }
