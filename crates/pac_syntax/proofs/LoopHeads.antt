-- The second bound of a loop carries the offset of the loop's `for`, and between these two there are plain tokens alone.
use Rattle.std.proofs.Common.{◌≡◌, ℕ, suc, List, [], ◌∷◌, ◌++◌, Option, Some, None, refl, ap, subst, inl, inr, ◌⊎◌}
use Rattle.std.specs.List.{AllByRecursion}
use Rattle.pac_tokens.specs.declared.token.Symbol.TheVariants as symbol
use Rattle.pac_tokens.specs.declared.token.Spanned.{Spanned}
use Rattle.pac_syntax.specs.declared.limits.Around.{Around}
use Rattle.pac_syntax.specs.declared.tree.Tree.{Tree}
use Rattle.pac_syntax.specs.Grammar.{LiteralForm, AnInt, ANegative, AText, ATrue, AFalse, ExprForm, ALiteral, AName, ANot, AParen, ABinary, ValuesForm, NoValue, AValue, BoundForm, ABound, ANegativeBound, StmtsForm, NoStmt, ALet, ARead, AHas, APut, ASet, ADelete, AnAbort, AnIf, AnIfElse, ALoop, TypeForm, AnIntType, ATextType, ColumnsForm, NoColumn, AColumn, ParamsForm, NoParam, AParam, TablesForm, NoTable, ATable, ProcsForm, NoProc, AProc, bound_value, outermost, inside_block, in_loop, loop_turns, last_bound, Role, Plain, TableWord, ProcWord, ColumnName, ParamName, Operator, Paren, Nested, LastBound, Marked, symbol_mark, name_mark, type_mark, literal_before, bound_before, counted, expr_before, whole_before, values_before, stmts_before, columns_before, params_before, tables_before, procs_before, Whole}

-- the offset of the last `if` or `for`, where plain tokens alone come after it
abbrev Head : Type 0
Head = Option ℕ

abbrev after_role : Role → ℕ → Head → Head
after_role Plain at head = head
after_role (Nested n) at head = Some at
after_role _ at head = None

-- a second bound carries that offset
abbrev IsHead : Role → Head → Type 0
IsHead (LastBound n loop) head = head ≡ Some loop
IsHead _ head = Unit {0}

abbrev Heads : Head → List Marked → Type 0
Heads head [] = Unit {0}
Heads head (m ∷ ms) = IsHead m.role head × Heads (after_role m.role m.token.at head) ms

-- wherever they stand
abbrev AllHeads : List Marked → Type 0
AllHeads ms = (head : Head) → Heads head ms

literal : (l : LiteralForm) (rest : List Marked) → AllHeads rest → AllHeads (literal_before l rest)
literal (AnInt at z) rest h head = (tt, h head)
literal (ANegative minus at z) rest h head = (tt, (tt, h head))
literal (AText at text) rest h head = (tt, h head)
literal (ATrue at) rest h head = (tt, h head)
literal (AFalse at) rest h head = (tt, h head)

expr : (e : ExprForm) (d o : ℕ) (rest : List Marked) → AllHeads rest → AllHeads (expr_before d o e rest)
expr (ALiteral l) d o rest h head = literal l rest h head
expr (AName n) d o rest h head = (tt, h head)
expr (ANot at e) d o rest h head = (tt, expr e d (suc o) rest h None)
expr (AParen opening e closing) d o rest h head = (tt, expr e (suc d) o (_ ∷ rest) (λ head. (tt, h head)) None)
expr (ABinary op at l r) d o rest h head = expr l d o (_ ∷ expr_before d (suc (counted o l)) r rest) (λ head. (tt, expr r d (suc (counted o l)) rest h None)) head

whole : (e : ExprForm) (rest : List Marked) → AllHeads rest → AllHeads (whole_before e rest)
whole e rest h head = expr e 0 0 rest h head

values : (vs : ValuesForm) (rest : List Marked) → AllHeads rest → AllHeads (values_before vs rest)
values NoValue rest h head = h head
values (AValue comma e vs) rest h head = (tt, whole e (values_before vs rest) (values vs rest h) head)

plain_bound : (b : BoundForm) (rest : List Marked) (head : Head) → Heads head rest → Heads head (bound_before b Plain rest)
plain_bound (ABound at z) rest head h = (tt, h)
plain_bound (ANegativeBound minus at z) rest head h = (tt, (tt, h))

second_bound : (b : BoundForm) (n loop : ℕ) (rest : List Marked) → AllHeads rest → Heads (Some loop) (bound_before b (LastBound n loop) rest)
second_bound (ABound at z) n loop rest h = (refl, h None)
second_bound (ANegativeBound minus at z) n loop rest h = (tt, (refl, h None))

stmts : (s : StmtsForm) (d : Around) (rest : List Marked) → AllHeads rest → AllHeads (stmts_before d s rest)
stmts NoStmt d rest h head = h head
stmts (ALet p0 x p1 e p2 s) d rest h head = (tt, (tt, (tt, whole e _ (λ head. (tt, stmts s d rest h head)) head)))
stmts (ARead p0 x p1 t p2 e p3 p4 c p5 l p6 s) d rest h head =
    (tt, (tt, (tt, (tt, (tt, whole e _ (λ head. (tt, (tt, (tt, (tt, literal l _ (λ head. (tt, stmts s d rest h head)) head))))) head)))))
stmts (AHas p0 x p1 t p2 e p3 p4 s) d rest h head = (tt, (tt, (tt, (tt, (tt, whole e _ (λ head. (tt, (tt, stmts s d rest h head))) head)))))
stmts (APut p0 t p1 e p2 p3 p4 v vs p5 p6 s) d rest h head =
    (tt, (tt, (tt, whole e _ (λ head. (tt, (tt, (tt, whole v _ (values vs _ (λ head. (tt, (tt, stmts s d rest h head)))) head)))) head)))
stmts (ASet p0 t p1 e p2 p3 c p4 v p5 s) d rest h head =
    (tt, (tt, (tt, whole e _ (λ head. (tt, (tt, (tt, (tt, whole v _ (λ head. (tt, stmts s d rest h head)) head))))) head)))
stmts (ADelete p0 t p1 e p2 p3 s) d rest h head = (tt, (tt, (tt, whole e _ (λ head. (tt, (tt, stmts s d rest h head))) head)))
stmts (AnAbort p0 p1 e p2 s) d rest h head = (tt, (tt, whole e _ (λ head. (tt, stmts s d rest h head)) head))
stmts (AnIf p0 e p1 first p2 s) d rest h head = (tt, whole e _ (λ head. (tt, stmts first (inside_block d) _ (λ head. (tt, stmts s d rest h head)) head)) (Some p0))
stmts (AnIfElse p0 e p1 first p2 p3 p4 second p5 s) d rest h head =
    (tt, whole e _ (λ head. (tt, stmts first (inside_block d) _ (λ head. (tt, (tt, (tt, stmts second (inside_block d) _ (λ head. (tt, stmts s d rest h head)) head)))) head)) (Some p0))
stmts (ALoop p0 x p1 a p2 b p3 body p4 s) d rest h head =
    let inner = in_loop d (bound_value a) (bound_value b) in
    let shut : List Marked = symbol_mark symbol.CloseBrace p4 Plain ∷ stmts_before d s rest in
    let last = bound_before b (last_bound d p0 (bound_value a) (bound_value b)) (symbol_mark symbol.OpenBrace p3 Plain ∷ stmts_before inner body shut) in
    let block : AllHeads (symbol_mark symbol.OpenBrace p3 Plain ∷ stmts_before inner body shut) = λ head. (tt, stmts body inner shut (λ head. (tt, stmts s d rest h head)) head) in
    (tt, (tt, (tt, plain_bound a (symbol_mark symbol.Range p2 Plain ∷ last) (Some p0) (tt, second_bound b (loop_turns d (bound_value a) (bound_value b)) p0 (symbol_mark symbol.OpenBrace p3 Plain ∷ stmts_before inner body shut) block))))

type : (t : TypeForm) (rest : List Marked) → AllHeads rest → AllHeads (type_mark t ∷ rest)
type (AnIntType at) rest h head = (tt, h head)
type (ATextType at) rest h head = (tt, h head)

-- a role that no second bound has
IsOther : (ℕ → Role) → Type 0
IsOther role = (n : ℕ) (head : Head) → IsHead (role n) head

columns : (c : ColumnsForm) (role : ℕ → Role) (i : ℕ) (rest : List Marked) → IsOther role → AllHeads rest → AllHeads (columns_before role i c rest)
unfolding IsOther
columns NoColumn role i rest other h head = h head
columns (AColumn comma n t c) role i rest other h head = (tt, (other (suc i) head, type t _ (columns c role (suc i) rest other h) _))

params : (c : ParamsForm) (rest : List Marked) → AllHeads rest → AllHeads (params_before c rest)
unfolding IsOther
params NoParam rest h head = h head
params (AParam n t c) rest h head = (tt, type t _ (columns c ParamName 1 rest (λ n head. tt) h) _)

tables : (f : TablesForm) (i : ℕ) (rest : List Marked) → AllHeads rest → AllHeads (tables_before i f rest)
unfolding IsOther
tables NoTable i rest h head = h head
tables (ATable p0 n p1 p2 k p3 c t cs p4 p5 f) i rest h head =
    let end : List Marked = symbol_mark symbol.CloseParen p4 Plain ∷ symbol_mark symbol.Semicolon p5 Plain ∷ tables_before (suc i) f rest in
    let more : AllHeads end = λ head. (tt, (tt, tables f (suc i) rest h head)) in
    let list : AllHeads (columns_before ColumnName 1 cs end) = columns cs ColumnName 1 end (λ n head. tt) more in
    let front : List Marked = symbol_mark symbol.Comma p3 Plain ∷ name_mark c (ColumnName 1) ∷ type_mark t ∷ columns_before ColumnName 1 cs end in
    let first : AllHeads front = λ head. (tt, (tt, type t (columns_before ColumnName 1 cs end) list None)) in
    (tt, (tt, (tt, (tt, type k front first None))))

procs : (f : ProcsForm) (i : ℕ) → AllHeads (procs_before i f [])
procs NoProc i head = tt
procs (AProc p0 n p1 ps p2 p3 s p4 f) i head =
    let shut : List Marked = symbol_mark symbol.CloseBrace p4 Plain ∷ procs_before (suc i) f [] in
    let block : List Marked = symbol_mark symbol.CloseParen p2 Plain ∷ symbol_mark symbol.OpenBrace p3 Plain ∷ stmts_before outermost s shut in
    let body : AllHeads block = λ head. (tt, (tt, stmts s outermost shut (λ head. (tt, procs f (suc i) head)) head)) in
    (tt, (tt, (tt, params ps block body None)))

-- ---- the mark of a loop's `for`

abbrev pub ArePlain : List Marked → Type 0
ArePlain ms = AllByRecursion (λ m. m.role ≡ Plain) ms

-- among these marks one stands at the offset, and plain ones alone after it
pub record LoopMark (before : List Marked) (loop : ℕ) : Type 0 where
  pub front : List Marked
  pub mark : Marked
  pub back : List Marked
  pub parts : before ≡ front ++ mark ∷ back
  pub stands : mark.token.at ≡ loop
  pub plain : ArePlain back

abbrev some : ℕ → Head
some at = Some at

at_is : (a b : ℕ) → some a ≡ some b → a ≡ b
at_is a b e = cc

no_head : (a : ℕ) → ◌≡◌ {A = Head} None (Some a) → ⊥
no_head a e = absurd cc

head_of : (before : List Marked) (t : Spanned) (n loop : ℕ) (after : List Marked) (head : Head) → Heads head (before ++ (record { token = t; role = LastBound n loop } ∷ after)) → ((head ≡ Some loop) × ArePlain before) ⊎ LoopMark before loop
head_of [] t n loop after head h = inl (h.0, tt)
head_of (m ∷ before) t n loop after head h = go (head_of before t n loop after (after_role m.role m.token.at head) h.1)
  where
    by : (role : Role) → m.role ≡ role → after_role role m.token.at head ≡ Some loop → ArePlain before → ((head ≡ Some loop) × ArePlain (m ∷ before)) ⊎ LoopMark (m ∷ before) loop
    by Plain is e plain = inl (e, (is, plain))
    by (Nested k) is e plain = inr (record { front = []; mark = m; back = before; parts = refl; stands = at_is m.token.at loop e; plain = plain })
    by (TableWord k) is e plain = absurd (no_head loop e)
    by (ProcWord k) is e plain = absurd (no_head loop e)
    by (ColumnName k) is e plain = absurd (no_head loop e)
    by (ParamName k) is e plain = absurd (no_head loop e)
    by (Operator k) is e plain = absurd (no_head loop e)
    by (Paren k) is e plain = absurd (no_head loop e)
    by (LastBound k l) is e plain = absurd (no_head loop e)

    go : ((after_role m.role m.token.at head ≡ Some loop) × ArePlain before) ⊎ LoopMark before loop → ((head ≡ Some loop) × ArePlain (m ∷ before)) ⊎ LoopMark (m ∷ before) loop
    go (inl p) = by m.role refl p.0 p.1
    go (inr l) = inr (record { front = m ∷ l.front; mark = l.mark; back = l.back; parts = ap (λ x. m ∷ x) l.parts; stands = l.stands; plain = l.plain })

pub loop_mark : (before : List Marked) (t : Spanned) (n loop : ℕ) (after : List Marked) (tree : Tree) → Whole (before ++ (record { token = t; role = LastBound n loop } ∷ after)) tree → LoopMark before loop
loop_mark before t n loop after tree w = go (head_of before t n loop after None (subst (λ (ms : List Marked). Heads None ms) w.spells (tables w.form.tables 0 (procs_before 0 w.form.procs []) (procs w.form.procs 0) None)))
  where
    go : (◌≡◌ {A = Head} None (Some loop) × ArePlain before) ⊎ LoopMark before loop → LoopMark before loop
    go (inl p) = absurd (no_head loop p.0)
    go (inr l) = l
