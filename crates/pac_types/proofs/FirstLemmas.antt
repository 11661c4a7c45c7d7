-- Checking from left to right meets the first fault of a tree.
use Rattle.std.proofs.Common.{◌≡◌, ℕ, suc, ℤ, ◌+◌, List, [], ◌∷◌, ◌++◌, length, replicate, map, Option, Some, None, Result, Ok, Err, refl, sym, ap, subst, ◌∙◌, arith, append_assoc, length-append, inl, inr, ◌⊎◌, ◌≤◌, ◌<◌}
use Rattle.std.specs.Option.{option_map}
use Rattle.std.proofs.lemmas.List.{append-nil, length-replicate, length-map}
use Rattle.pac_value.specs.declared.values.Ty.TheVariants.{Int as IntTy, Bool as BoolTy}
use Rattle.pac_value.specs.Values.{type_of}
use Rattle.pac_value.specs.declared.expr.Expr.{Expr}
use Rattle.pac_value.specs.Expressions.{◌>>=◌}
use Rattle.pac_syntax.specs.declared.tree.NameNode.{NameNode}
use Rattle.pac_syntax.specs.declared.tree.ColumnNode.{ColumnNode}
use Rattle.pac_syntax.specs.declared.tree.StmtNode.{StmtNode}
use Rattle.pac_syntax.specs.declared.tree.StmtNode.TheOpen as form
use Rattle.pac_syntax.specs.declared.tree.StmtNode.TheOpen.{StmtNode-F}
use Rattle.pac_syntax.specs.declared.tree.StmtNode.TheViews.{roll-StmtNode}
use Rattle.pac_syntax.specs.declared.tree.StmtNode.TheFolds.{fold-roll-StmtNode, ind-StmtNode, map-StmtNode}
use Rattle.pac_syntax.specs.declared.tree.TableNode.{TableNode}
use Rattle.pac_syntax.specs.declared.tree.ProcNode.{ProcNode}
use Rattle.pac_syntax.specs.declared.tree.Tree.{Tree}
use Rattle.pac_syntax.specs.Order.{IsOrdered}
use Rattle.pac_types.specs.declared.type_error.TypeFault.{TypeFault}
use Rattle.pac_types.specs.declared.checker.scope.Variable.{Variable}
use Rattle.pac_types.specs.declared.table.Table.{Table}
use Rattle.pac_types.specs.declared.procedure.Proc.{Proc}
use Rattle.pac_types.specs.declared.statement.Stmt.{Stmt, Delete, AbortIf, If, For}
use Rattle.pac_types.specs.Numbering.{table_number, variables, column_of, table_of}
use Rattle.pac_types.specs.Faults.{twice, cell_faults, column_faults, column_wanted, wrong_type, is_fitting, Known, out_of_sight, is_test, placed, judged, Ruled, ruled_names, all_faults, ruled_plain, ruled_branching, ruled_looping, rule_step, ruled, names_faults, tables_faults, params_known, proc_faults, procs_faults, tree_faults, IsAmong, Stands, IsFirstTypeFault}
use Rattle.pac_types.specs.Checking.{ScopeState, Reported, once, with_variable, left_at, checked_test, checked_cell, checked_put, run_all, block, checked_stmt_step, checked_stmt, checked_block, all_once, names_of, checked_tables, checked_params, checked_proc, checked_procs, opening_scope}
use Rattle.pac_types.proofs.BlockLemmas.{left_is}
use Rattle.pac_types.proofs.TreeLemmas.{variables_from}
use Rattle.pac_types.proofs.FaultLemmas.{Agree, agree_then, agree_map, agree_same, once_agrees, known_types, test_agrees, cell_agrees}
use Rattle.pac_types.proofs.RuleLemmas.{at, StmtAgrees, types-append, types-unseen, plain_agrees, naming_agrees, let_naming, has_naming, read_naming, set_plain, put_agrees, column_is, field_agrees}
use Rattle.pac_types.proofs.OffsetLemmas.{faults_climb, first_before}

-- a statement to the rules, and what checking it does
pub record Case : Type 0 where
  pub ruled : Ruled
  pub checked : ScopeState → Reported

abbrev ruling : List Case → List Ruled
ruling cs = map (λ c. c.ruled) cs

abbrev checking : List Case → List (ScopeState → Reported)
checking cs = map (λ c. c.checked) cs

module _ (names : List (List ℕ)) where
  abbrev Agrees : Case → Type 0
  Agrees c = (known : List (Option Variable)) (next : ℕ) → StmtAgrees names c.ruled known (c.checked (at names known next))

  abbrev AllAgree : List Case → Type 0
  AllAgree [] = Unit {0}
  AllAgree (c ∷ cs) = Agrees c × AllAgree cs

  abbrev Reported-all : Type 0
  Reported-all = Result (List Stmt × ScopeState) TypeFault

  abbrev RunAgrees : List Ruled → List (Option Variable) → Reported-all → Type 0
  RunAgrees ds known (Ok b) = (all_faults ds (known_types known) ≡ []) × (extra : List (Option Variable)) × (n : ℕ) × (b.1 ≡ at names (known ++ extra) n) × (length extra ≡ ruled_names ds)
  RunAgrees ds known (Err f) = (rest : List TypeFault) × (all_faults ds (known_types known) ≡ f ∷ rest)

  after : (d : Ruled) (ds : List Ruled) (known extra : List (Option Variable)) (s : Stmt) (r : Reported-all) → d.faults (known_types known) ≡ [] → known_types extra ≡ d.shown (known_types known) → length extra ≡ d.names
      → RunAgrees ds (known ++ extra) r → RunAgrees (d ∷ ds) known (r >>= λ b. Ok (s ∷ b.0, b.1))
  after d ds known extra s r clean shown many reported = go r reported
    where
      same : all_faults (d ∷ ds) (known_types known) ≡ all_faults ds (known_types (known ++ extra))
      same = ap (λ zs. zs ++ all_faults ds (known_types known ++ d.shown (known_types known))) clean ∙ ap (λ zs. all_faults ds zs) (ap (λ zs. known_types known ++ zs) (sym shown) ∙ sym (types-append known extra))

      go : (r : Reported-all) → RunAgrees ds (known ++ extra) r → RunAgrees (d ∷ ds) known (r >>= λ b. Ok (s ∷ b.0, b.1))
      go (Ok b) p = (same ∙ p.0, extra ++ p.1, p.2, p.3 ∙ (λ i. at names (append_assoc known extra p.1 i) p.2), omega (arith, length-append extra p.1, many, p.4))
      go (Err f) p = (p.0, same ∙ p.1)

  run_agrees : (cs : List Case) → AllAgree cs → (known : List (Option Variable)) (next : ℕ) → RunAgrees (ruling cs) known (run_all (checking cs) (at names known next))
  run_agrees [] all known next = (refl, [], next, (λ i. at names (sym (append-nil known) i) next), refl)
  run_agrees (c ∷ cs) all known next = go (λ k n. run_agrees cs all.1 k n) (c.checked (at names known next)) (all.0 known next)
    where
      go : ((k : List (Option Variable)) (n : ℕ) → RunAgrees (ruling cs) k (run_all (checking cs) (at names k n))) → (r : Reported) → StmtAgrees names c.ruled known r → RunAgrees (ruling (c ∷ cs)) known (r >>= λ a. run_all (checking cs) a.1 >>= λ b. Ok (a.0 ∷ b.0, b.1))
      go later (Err f) p = (p.0 ++ all_faults (ruling cs) (known_types known ++ c.ruled.shown (known_types known)), ap (λ zs. zs ++ all_faults (ruling cs) (known_types known ++ c.ruled.shown (known_types known))) p.1)
      go later (Ok a) p = after c.ruled (ruling cs) known p.1 a.0 (run_all (checking cs) a.1) p.0 p.4 p.5
          (subst (λ st. RunAgrees (ruling cs) (known ++ p.1) (run_all (checking cs) st)) (sym p.3) (later (known ++ p.1) p.2))

  abbrev BlockAgrees : List Ruled → List (Option Variable) → Reported-all → Type 0
  BlockAgrees ds known (Ok b) = (all_faults ds (known_types known) ≡ []) × (n : ℕ) × (b.1 ≡ at names (known ++ replicate (ruled_names ds) None) n)
  BlockAgrees ds known (Err f) = (rest : List TypeFault) × (all_faults ds (known_types known) ≡ f ∷ rest)

  block_agrees : (cs : List Case) → AllAgree cs → (known : List (Option Variable)) (next : ℕ) → BlockAgrees (ruling cs) known (block (checking cs) (at names known next))
  block_agrees cs all known next = go (run_all (checking cs) (at names known next)) (run_agrees cs all known next)
    where
      go : (r : Reported-all) → RunAgrees (ruling cs) known r → BlockAgrees (ruling cs) known (r >>= λ b. Ok (b.0, left_at (length known) b.1))
      go (Ok b) p = (p.0, p.2, ap (λ st. left_at (length known) st) p.3 ∙ left_is [] names known p.1 (ruled_names (ruling cs)) p.2 p.4)
      go (Err f) p = p

  -- ---- conditionals

  module _ (first second : List Case) (all_first : AllAgree first) (all_second : AllAgree second) (test : Known → List TypeFault) (known : List (Option Variable)) (next : ℕ) where
    abbrev k1 : ℕ
    k1 = ruled_names (ruling first)

    abbrev k2 : ℕ
    k2 = ruled_names (ruling second)

    abbrev whole : Ruled
    whole = ruled_branching test (ruling first) (ruling second)

    abbrev middle : List TypeFault
    middle = all_faults (ruling first) (known_types known)

    abbrev end : List TypeFault
    end = all_faults (ruling second) (known_types known ++ out_of_sight k1)

    types_is : known_types (known ++ replicate k1 None) ≡ known_types known ++ out_of_sight k1
    types_is = types-append known (replicate k1 None) ∙ ap (λ zs. known_types known ++ zs) (types-unseen k1)

    second_agrees : (e : Expr) (a : List Stmt) → test (known_types known) ≡ [] → middle ≡ [] → (r : Reported-all) → BlockAgrees (ruling second) (known ++ replicate k1 None) r → StmtAgrees names whole known (r >>= λ b. Ok (If next e a b.0, b.1))
    second_agrees e a clean first_clean (Ok b) p = (
      (λ i. clean i ++ (first_clean i ++ (ap (λ zs. all_faults (ruling second) zs) (sym types_is) ∙ p.0) i)),
      replicate k1 None ++ replicate k2 None,
      p.1,
      p.2 ∙ (λ i. at names (append_assoc known (replicate k1 None) (replicate k2 None) i) p.1),
      types-append (replicate k1 None) (replicate k2 None) ∙ (λ i. types-unseen k1 i ++ types-unseen k2 i),
      length-append (replicate k1 None) (replicate k2 None) ∙ (λ i. length-replicate {A = Option Variable} k1 None i + length-replicate {A = Option Variable} k2 None i),
    )
    second_agrees e a clean first_clean (Err f) p = (p.0, λ i. clean i ++ (first_clean i ++ (ap (λ zs. all_faults (ruling second) zs) (sym types_is) ∙ p.1) i))

    first_agrees : (e : Expr) → test (known_types known) ≡ [] → (r : Reported-all) → BlockAgrees (ruling first) known r → StmtAgrees names whole known (r >>= λ a. block (checking second) a.1 >>= λ b. Ok (If next e a.0 b.0, b.1))
    first_agrees e clean (Err f) p = (p.0 ++ end, λ i. clean i ++ (p.1 i ++ end))
    first_agrees e clean (Ok a) p = second_agrees e a.0 clean p.0 (block (checking second) a.1)
        (subst (λ st. BlockAgrees (ruling second) (known ++ replicate k1 None) (block (checking second) st)) (sym p.2) (block_agrees second all_second (known ++ replicate k1 None) p.1))

    if_agrees : (r : Result Expr TypeFault) → Agree (test (known_types known)) r → StmtAgrees names whole known (r >>= λ e. block (checking first) (at names known (next + 1)) >>= λ a. block (checking second) a.1 >>= λ b. Ok (If next e a.0 b.0, b.1))
    if_agrees (Err f) p = (p.0 ++ (middle ++ end), ap (λ zs. zs ++ (middle ++ end)) p.1)
    if_agrees (Ok e) p = first_agrees e p (block (checking first) (at names known (next + 1))) (block_agrees first all_first known (next + 1))

  -- ---- loops

  module _ (body : List Case) (all_body : AllAgree body) (name : NameNode) (from to : ℤ) (known : List (Option Variable)) (next : ℕ) where
    abbrev within : List (Option Variable)
    within = known ++ Some (record { number = next; ty = IntTy }) ∷ []

    abbrev loop : Ruled
    loop = ruled_looping (λ k. twice names (length k) name) (ruling body)

    abbrev in_block : List TypeFault
    in_block = all_faults (ruling body) (known_types known ++ Some (Some IntTy) ∷ [])

    same_types : known_types within ≡ known_types known ++ Some (Some IntTy) ∷ []
    same_types = types-append known (Some (record { number = next; ty = IntTy }) ∷ [])

    block_then : twice names (length (known_types known)) name ≡ [] → (r : Reported-all) → BlockAgrees (ruling body) within r → StmtAgrees names loop known (r >>= λ b. Ok (For next from to b.0, left_at (length known) b.1))
    block_then clean (Ok b) p = (
      (λ i. clean i ++ (ap (λ zs. all_faults (ruling body) zs) (sym same_types) ∙ p.0) i),
      None ∷ replicate (ruled_names (ruling body)) None,
      p.1,
      ap (λ st. left_at (length known) st) (p.2 ∙ (λ i. at names (append_assoc known (Some (record { number = next; ty = IntTy }) ∷ []) (replicate (ruled_names (ruling body)) None) i) p.1))
          ∙ left_is [] names known (Some (record { number = next; ty = IntTy }) ∷ replicate (ruled_names (ruling body)) None) (suc (ruled_names (ruling body))) p.1 (ap suc (length-replicate {A = Option Variable} (ruled_names (ruling body)) None)),
      types-unseen (suc (ruled_names (ruling body))),
      ap suc (length-replicate {A = Option Variable} (ruled_names (ruling body)) None),
    )
    block_then clean (Err f) p = (p.0, λ i. clean i ++ (ap (λ zs. all_faults (ruling body) zs) (sym same_types) ∙ p.1) i)

    for_agrees : (r : Result (Unit {0}) TypeFault) → Agree (twice names (length (known_types known)) name) r → StmtAgrees names loop known (r >>= λ _. block (checking body) (at names within (next + 1)) >>= λ b. Ok (For next from to b.0, left_at (length known) b.1))
    for_agrees (Err f) p = (p.0 ++ in_block, ap (λ zs. zs ++ in_block) p.1)
    for_agrees (Ok x) p = block_then p (block (checking body) (at names within (next + 1))) (block_agrees body all_body within (next + 1))

-- ---- every statement

module _ (tables : List Table) (names : List (List ℕ)) where
  abbrev case_of : StmtNode → Case
  case_of node = record { ruled = ruled tables names node; checked = checked_stmt tables node }

  abbrev Agreed : Type 0
  Agreed = (node : StmtNode) × Agrees names (case_of node)

  abbrev cases : List Agreed → List Case
  cases [] = []
  cases (q ∷ qs) = case_of q.0 ∷ cases qs

  all_agree : (qs : List Agreed) → AllAgree names (cases qs)
  all_agree [] = tt
  all_agree (q ∷ qs) = (q.1, all_agree qs)

  abbrev nodes_of : List Agreed → List StmtNode
  nodes_of qs = map (λ q. q.0) qs

  ruling_is : (qs : List Agreed) → map (ruled tables names) (nodes_of qs) ≡ ruling (cases qs)
  ruling_is [] = refl
  ruling_is (q ∷ qs) = ap (λ zs. ruled tables names q.0 ∷ zs) (ruling_is qs)

  checking_is : (qs : List Agreed) → map (checked_stmt tables) (nodes_of qs) ≡ checking (cases qs)
  checking_is [] = refl
  checking_is (q ∷ qs) = ap (λ zs. checked_stmt tables q.0 ∷ zs) (checking_is qs)

  step_agrees : (y : StmtNode-F Agreed) → Agrees names (record {
    ruled = rule_step tables names (map-StmtNode StmtNode Ruled (ruled tables names) (map-StmtNode Agreed StmtNode (λ q. q.0) y));
    checked = checked_stmt_step tables (map-StmtNode StmtNode (ScopeState → Reported) (checked_stmt tables) (map-StmtNode Agreed StmtNode (λ q. q.0) y));
  })
  step_agrees (form.Let name value) known next = naming_agrees names known next (λ k. (judged names k value).ty) (λ k. (judged names k value).faults) name _ (let_naming names known next value)
  step_agrees (form.Read name table key column default) known next =
      subst (λ (faults : Known → List TypeFault). StmtAgrees names (record { names = 1; shown = λ k. Some (column_wanted tables (table_number tables table.name) column.name) ∷ []; faults = λ k. twice names (length k) name ++ faults k }) known (checked_stmt_step tables (form.Read name table key column default) (at names known next)))
      (λ i k. append_assoc (cell_faults tables (judged names k) table key) (column_faults tables (table_number tables table.name) column) (wrong_type (is_fitting (column_wanted tables (table_number tables table.name) column.name)) default.at (Some (type_of default.value))) i)
      (naming_agrees names known next (λ k. column_wanted tables (table_number tables table.name) column.name)
      (λ k. (cell_faults tables (judged names k) table key ++ column_faults tables (table_number tables table.name) column) ++ wrong_type (is_fitting (column_wanted tables (table_number tables table.name) column.name)) default.at (Some (type_of default.value)))
      name _ (read_naming names known next tables table key column default _ (field_agrees tables names known next table key column) (column_is tables names known next table key column)))
  step_agrees (form.Has name table key) known next = naming_agrees names known next (λ k. Some BoolTy) (λ k. cell_faults tables (judged names k) table key) name _ (has_naming names known next tables table key)
  step_agrees (form.Put table key values) known next = plain_agrees names known next (rule_step tables names (form.Put table key values)).faults (checked_put tables (at names known next) table key values) (λ s. s) (put_agrees tables names known next table key values)
  step_agrees (form.Set table key column value) known next =
      subst (λ (faults : Known → List TypeFault). StmtAgrees names (ruled_plain faults) known (checked_stmt_step tables (form.Set table key column value) (at names known next)))
      (λ i k. append_assoc (cell_faults tables (judged names k) table key) (column_faults tables (table_number tables table.name) column) (placed (is_fitting (column_wanted tables (table_number tables table.name) column.name)) (judged names k value)) i)
      (set_plain names known next tables table key column value)
  step_agrees (form.Delete table key) known next = plain_agrees names known next (rule_step tables names (form.Delete table key)).faults (checked_cell tables (at names known next) table key) (λ c. Delete c.0 c.1) (cell_agrees tables names known next table key)
  step_agrees (form.AbortIf test) known next = plain_agrees names known next (rule_step tables names (form.AbortIf test)).faults (checked_test (at names known next) test) (λ e. AbortIf e) (test_agrees names known next test)
  step_agrees (form.If test first second) known next =
      subst (λ (c : Case). StmtAgrees names c.ruled known (c.checked (at names known next))) (λ i. record {
        ruled = ruled_branching (λ k. placed is_test (judged names k test)) (sym (ruling_is first) i) (sym (ruling_is second) i);
        checked = λ scope. checked_stmt_step tables (form.If test (sym (checking_is first) i) (sym (checking_is second) i)) scope;
      })
      (if_agrees names (cases first) (cases second) (all_agree first) (all_agree second) (λ k. placed is_test (judged names k test)) known next _ (test_agrees names known next test))
  step_agrees (form.For name from to body) known next =
      subst (λ (c : Case). StmtAgrees names c.ruled known (c.checked (at names known next))) (λ i. record {
        ruled = ruled_looping (λ k. twice names (length k) name) (sym (ruling_is body) i);
        checked = λ scope. checked_stmt_step tables (form.For name from to (sym (checking_is body) i)) scope;
      })
      (for_agrees names (cases body) (all_agree body) name from to known next _ (subst (λ k. Agree (twice names k name) (once names (length known) name)) (sym (length-map known (λ o. option_map (λ v. Some v.ty) o))) (once_agrees names (length known) name)))

  stmt_agrees : (node : StmtNode) → Agrees names (case_of node)
  stmt_agrees = ind-StmtNode (λ node. Agrees names (case_of node)) (λ x y is. subst (λ z. Agrees names (case_of (roll-StmtNode z))) is
      (subst (λ (c : Case). Agrees names c) (λ i. record {
        ruled = sym (fold-roll-StmtNode Ruled (rule_step tables names) (map-StmtNode Agreed StmtNode (λ q. q.0) y)) i;
        checked = sym (fold-roll-StmtNode (ScopeState → Reported) (checked_stmt_step tables) (map-StmtNode Agreed StmtNode (λ q. q.0) y)) i;
      }) (step_agrees y)))

  abbrev agreed : List StmtNode → List Agreed
  agreed nodes = map (λ node. (node, stmt_agrees node)) nodes

  nodes_same : (nodes : List StmtNode) → nodes_of (agreed nodes) ≡ nodes
  nodes_same [] = refl
  nodes_same (n ∷ ns) = ap (λ zs. n ∷ zs) (nodes_same ns)

  -- the faults of a body
  body_agrees : (nodes : List StmtNode) (known : List (Option Variable)) (next : ℕ) → Agree (all_faults (map (ruled tables names) nodes) (known_types known)) (checked_block tables nodes (at names known next))
  body_agrees nodes known next =
      let rs : ruling (cases (agreed nodes)) ≡ map (ruled tables names) nodes = sym (ruling_is (agreed nodes)) ∙ ap (λ (zs : List StmtNode). map (ruled tables names) zs) (nodes_same nodes) in
      let cs : checking (cases (agreed nodes)) ≡ map (checked_stmt tables) nodes = sym (checking_is (agreed nodes)) ∙ ap (λ (zs : List StmtNode). map (checked_stmt tables) zs) (nodes_same nodes) in
      subst (λ zs. Agree (all_faults zs (known_types known)) (checked_block tables nodes (at names known next))) rs
      (subst (λ zs. Agree (all_faults (ruling (cases (agreed nodes))) (known_types known)) (block zs (at names known next))) cs
      (go (block (checking (cases (agreed nodes))) (at names known next)) (block_agrees names (cases (agreed nodes)) (all_agree (agreed nodes)) known next)))
    where
      go : (r : Result (List Stmt × ScopeState) TypeFault) → BlockAgrees names (ruling (cases (agreed nodes))) known r → Agree (all_faults (ruling (cases (agreed nodes))) (known_types known)) r
      go (Ok b) p = p.0
      go (Err f) p = p

-- ---- tables and procedures

columns_agree : (names : List (List ℕ)) (offset : ℕ) (nodes : List ColumnNode) → Agree (names_faults names offset nodes) (all_once names offset nodes)
columns_agree names offset [] = refl
columns_agree names offset (node ∷ nodes) = agree_then _ _ (once names offset node.name) (λ _. all_once names (offset + 1) nodes) (once_agrees names offset node.name) (λ x is. columns_agree names (offset + 1) nodes)

tables_agree : (names : List (List ℕ)) (offset : ℕ) (nodes : List TableNode) → Agree (tables_faults names offset nodes) (checked_tables names offset nodes)
tables_agree names offset [] = refl
tables_agree names offset (node ∷ nodes) =
    agree_then _ _ (once names offset node.name >>= λ _. all_once (names_of node.columns) 0 node.columns) (λ _. checked_tables names (offset + 1) nodes)
    (agree_then _ _ (once names offset node.name) (λ _. all_once (names_of node.columns) 0 node.columns) (once_agrees names offset node.name) (λ x is. columns_agree (names_of node.columns) 0 node.columns))
    (λ x is. tables_agree names (offset + 1) nodes)

abbrev ParamsAgree : List (List ℕ) → List (Option Variable) → ℕ → List ColumnNode → List TypeFault → Result ScopeState TypeFault → Type 0
ParamsAgree names known next nodes faults (Ok st) = (faults ≡ []) × (st ≡ at names (known ++ variables_from next nodes) (next + length nodes))
ParamsAgree names known next nodes faults (Err f) = (rest : List TypeFault) × (faults ≡ f ∷ rest)

params_agree : (names : List (List ℕ)) (nodes : List ColumnNode) (known : List (Option Variable)) (next offset : ℕ) → offset ≡ length known → ParamsAgree names known next nodes (names_faults names offset nodes) (checked_params nodes (at names known next))
params_agree names [] known next offset long = (refl, λ i. at names (sym (append-nil known) i) (same i))
  where
    same : next ≡ next + 0
    same = omega arith
params_agree names (node ∷ nodes) known next offset long =
    go (params_agree names nodes (known ++ Some (record { number = next; ty = node.ty }) ∷ []) (next + 1) (offset + 1) (omega (arith, long, length-append known (Some (record { number = next; ty = node.ty }) ∷ []))))
    (once names (length known) node.name) (subst (λ k. Agree (twice names k node.name) (once names (length known) node.name)) (sym long) (once_agrees names (length known) node.name))
  where
    more : List (Option Variable)
    more = known ++ Some (record { number = next; ty = node.ty }) ∷ []

    whole : (r : Result ScopeState TypeFault) → twice names offset node.name ≡ [] → ParamsAgree names more (next + 1) nodes (names_faults names (offset + 1) nodes) r → ParamsAgree names known next (node ∷ nodes) (names_faults names offset (node ∷ nodes)) r
    whole (Ok st) e p = ((λ i. e i ++ p.0 i), p.1 ∙ λ i. at names (append_assoc known (Some (record { number = next; ty = node.ty }) ∷ []) (variables_from (next + 1) nodes) i) (same i))
      where
        same : next + 1 + length nodes ≡ next + suc (length nodes)
        same = omega arith
    whole (Err f) e p = (p.0, λ i. e i ++ p.1 i)

    go : ParamsAgree names more (next + 1) nodes (names_faults names (offset + 1) nodes) (checked_params nodes (at names more (next + 1))) → (r : Result (Unit {0}) TypeFault) → Agree (twice names offset node.name) r
        → ParamsAgree names known next (node ∷ nodes) (names_faults names offset (node ∷ nodes)) (r >>= λ _. checked_params nodes (with_variable node.ty (at names known next)))
    go later (Ok x) p = whole (checked_params nodes (at names more (next + 1))) p later
    go later (Err f) p = (p.0 ++ names_faults names (offset + 1) nodes, ap (λ zs. zs ++ names_faults names (offset + 1) nodes) p.1)

params_types : (n : ℕ) (nodes : List ColumnNode) → known_types (variables_from n nodes) ≡ params_known nodes
params_types n [] = refl
params_types n (node ∷ nodes) = ap (λ zs. Some (Some node.ty) ∷ zs) (params_types (n + 1) nodes)

module _ (tables : List Table) where
  abbrev the_proc : ProcNode → List Stmt → Proc
  the_proc node body = record { name = node.name.name; params = map column_of node.params; body = body }

  proc_agrees : (node : ProcNode) → Agree (proc_faults tables node) (checked_proc tables node)
  proc_agrees node = go (checked_params node.params (opening_scope node)) (params_agree (variables node) node.params [] 0 0 refl)
    where
      go : (r : Result ScopeState TypeFault) → ParamsAgree (variables node) [] 0 node.params (names_faults (variables node) 0 node.params) r
          → Agree {A = Proc} (names_faults (variables node) 0 node.params ++ all_faults (map (ruled tables (variables node)) node.body) (params_known node.params)) (r >>= λ scope. checked_block tables node.body scope >>= λ b. Ok (the_proc node b.0))
      go (Err f) p = (p.0 ++ all_faults (map (ruled tables (variables node)) node.body) (params_known node.params), ap (λ zs. zs ++ all_faults (map (ruled tables (variables node)) node.body) (params_known node.params)) p.1)
      go (Ok st) p = agree_same {A = Proc} _ _ _ (λ i. p.0 i ++ all_faults (map (ruled tables (variables node)) node.body) (sym (params_types 0 node.params) i))
          (subst (λ z. Agree {A = Proc} (all_faults (map (ruled tables (variables node)) node.body) (known_types (variables_from 0 node.params))) (checked_block tables node.body z >>= λ b. Ok (the_proc node b.0))) (sym p.1)
          (agree_map _ (checked_block tables node.body (at (variables node) (variables_from 0 node.params) (0 + length node.params))) (λ b. the_proc node b.0) (body_agrees tables (variables node) node.body (variables_from 0 node.params) (0 + length node.params))))

  procs_agree : (names : List (List ℕ)) (offset : ℕ) (nodes : List ProcNode) → Agree (procs_faults tables names offset nodes) (checked_procs tables names offset nodes)
  procs_agree names offset [] = refl
  procs_agree names offset (node ∷ nodes) =
      agree_same {A = List Proc} _ _ _ (append_assoc (twice names offset node.name) (proc_faults tables node) (procs_faults tables names (offset + 1) nodes))
      (agree_then _ _ (once names offset node.name) (λ _. checked_proc tables node >>= λ p. checked_procs tables names (offset + 1) nodes >>= λ ps. Ok (p ∷ ps)) (once_agrees names offset node.name)
      (λ x is. agree_then _ _ (checked_proc tables node) (λ p. checked_procs tables names (offset + 1) nodes >>= λ ps. Ok (p ∷ ps)) (proc_agrees node)
      (λ p is. agree_map _ (checked_procs tables names (offset + 1) nodes) (λ ps. p ∷ ps) (procs_agree names (offset + 1) nodes))))

-- ---- trees

module _ (tree : Tree) where
  abbrev table_names : List (List ℕ)
  table_names = map (λ node. node.name.name) tree.tables

  abbrev proc_names : List (List ℕ)
  proc_names = map (λ node. node.name.name) tree.procs

  abbrev first_faults : List TypeFault
  first_faults = tables_faults table_names 0 tree.tables

  abbrev last_faults : List TypeFault
  last_faults = procs_faults (map table_of tree.tables) proc_names 0 tree.procs

  tables_result : (r : Result (Unit {0}) TypeFault) → checked_tables table_names 0 tree.tables ≡ r → Agree first_faults r
  tables_result r e = subst (Agree first_faults) e (tables_agree table_names 0 tree.tables)

  procs_result : (tables : List Table) → tables ≡ map table_of tree.tables → (r : Result (List Proc) TypeFault) → checked_procs tables proc_names 0 tree.procs ≡ r → Agree last_faults r
  procs_result tables is r e = subst (Agree last_faults) (ap (λ (ts : List Table). checked_procs ts proc_names 0 tree.procs) (sym is) ∙ e) (procs_agree (map table_of tree.tables) proc_names 0 tree.procs)

  not_before : (f other : TypeFault) → (f ≡ other) ⊎ (f.at < other.at) → f.at ≤ other.at
  not_before f other (inl e) = omega (arith, ap (λ (z : TypeFault). z.at) e)
  not_before f other (inr lt) = omega arith

  same_offset : (f other : TypeFault) → (f ≡ other) ⊎ (f.at < other.at) → other.at ≡ f.at → other ≡ f
  same_offset f other (inl e) at = sym e
  same_offset f other (inr lt) at = absurd (omega arith)

  a_first : IsOrdered tree → (f : TypeFault) (rest : List TypeFault) → tree_faults tree ≡ f ∷ rest → IsFirstTypeFault tree f
  a_first ordered f rest is = record {
    stands = subst (λ fs. IsAmong fs f) (sym is) (inl refl);
    least = λ other stands. not_before f other (first_before f (tree_faults tree) rest is (faults_climb tree ordered) other stands);
    alone = λ other stands at. same_offset f other (first_before f (tree_faults tree) rest is (faults_climb tree ordered) other stands) at;
  }

  -- the fault that is met among the tables, or else among the procedures, is the first
  pub tables_first : IsOrdered tree → (f : TypeFault) → checked_tables table_names 0 tree.tables ≡ Err f → IsFirstTypeFault tree f
  tables_first ordered f e = let p = tables_result (Err f) e in a_first ordered f (p.0 ++ last_faults) (ap (λ zs. zs ++ last_faults) p.1)

  pub procs_first : IsOrdered tree → checked_tables table_names 0 tree.tables ≡ Ok tt → (tables : List Table) → tables ≡ map table_of tree.tables → (f : TypeFault) → checked_procs tables proc_names 0 tree.procs ≡ Err f → IsFirstTypeFault tree f
  procs_first ordered clean tables is f e = let p = procs_result tables is (Err f) e in a_first ordered f p.0 (λ i. tables_result (Ok tt) clean i ++ p.1 i)

  -- where none is met, none stands in the tree
  pub none_stands : checked_tables table_names 0 tree.tables ≡ Ok tt → (tables : List Table) → tables ≡ map table_of tree.tables → (procs : List Proc) → checked_procs tables proc_names 0 tree.procs ≡ Ok procs → (f : TypeFault) → Stands tree f → ⊥
  none_stands clean tables is procs e f stands = subst (λ fs. IsAmong fs f) {x = tree_faults tree} {y = []} (λ i. tables_result (Ok tt) clean i ++ procs_result tables is (Ok procs) e i) stands
