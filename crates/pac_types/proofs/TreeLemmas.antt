-- What checking a procedure says.
use Rattle.std.proofs.Common.{◌≡◌, ◌<◌, ℕ, zero, suc, ◌+◌, Bool, true, false, List, [], ◌∷◌, ◌++◌, length, take, drop, get_or, map, Option, Some, None, Result, Ok, Err, true≢false, refl, sym, ap, subst, ◌∙◌, arith, append_assoc, is_some, take-append-drop, length-append}
use Rattle.std.specs.Prelude.{slice_get, bytes_eq, IsSome}
use Rattle.std.specs.Option.{option_map}
use Rattle.std.specs.List.{IsDistinct, flat_map}
use Rattle.std.proofs.lemmas.List.{append-nil}
use Rattle.pac_value.specs.Expressions.{◌>>=◌}
use Rattle.pac_syntax.specs.declared.tree.NameNode.{NameNode}
use Rattle.pac_syntax.specs.declared.tree.ColumnNode.{ColumnNode}
use Rattle.pac_syntax.specs.declared.tree.StmtNode.{StmtNode}
use Rattle.pac_syntax.specs.declared.tree.StmtNode.TheOpen as form
use Rattle.pac_syntax.specs.declared.tree.StmtNode.TheOpen.{StmtNode-F}
use Rattle.pac_syntax.specs.declared.tree.StmtNode.TheViews.{roll-StmtNode}
use Rattle.pac_syntax.specs.declared.tree.StmtNode.TheFolds.{fold-roll-StmtNode, ind-StmtNode, map-StmtNode}
use Rattle.pac_syntax.specs.declared.tree.ProcNode.{ProcNode}
use Rattle.pac_types.specs.declared.type_error.TypeFault.{TypeFault}
use Rattle.pac_types.specs.declared.type_error.TypeFaultKind.TheVariants.{Twice}
use Rattle.pac_types.specs.declared.checker.scope.Variable.{Variable}
use Rattle.pac_types.specs.declared.table.Table.{Table}
use Rattle.pac_types.specs.declared.procedure.Proc.{Proc}
use Rattle.pac_types.specs.declared.statement.Stmt.{Stmt}
use Rattle.pac_types.specs.Numbering.{AreDistinct, number_of, table_number, column_number, column_of, Numbered, in_a_row, defined, defined_step, numbered, number_step, branching, looping, in_turn, body_of, numbers_from, variables, resolved}
use Rattle.pac_types.specs.WellFormed.{IsWellFormedProc, check, in_order, scope_of, types}
use Rattle.pac_value.specs.Scopes.{Scope}
use Rattle.pac_types.specs.Typing.{IsProcOf}
use Rattle.pac_types.specs.Faults.{is_before}
use Rattle.pac_types.specs.Checking.{ScopeState, Reported, once, unless, with_variable, checked_stmt, checked_stmt_step, checked_block, checked_params, checked_proc, opening_scope, block}
use Rattle.pac_types.proofs.CheckLemmas.{joined-map}
use Rattle.pac_types.proofs.NameLemmas.{number-take, distinct-more, distinct-nil, not_yet, are_distinct}
use Rattle.pac_types.proofs.ExprLemmas.{numbers_of, said, Fit, test_passed, wanted_passed, some_is, none_is}
use Rattle.pac_types.proofs.PartLemmas.{drop_first}
use Rattle.pac_types.proofs.StmtLemmas.{at, Start, Wide, plain_reported, naming_reported, not_before, is_there, let_reported, read_reported, has_reported, put_reported, set_reported, delete_reported, abort_reported, cell_of_node, field_of_node}
use Rattle.pac_types.proofs.BlockLemmas.{Piece, numbering, checking, defining, Holds, AllHold, BlockReported, block_reported, if_reported}
use Rattle.pac_types.proofs.LoopLemmas.{for_reported}

-- ---- statements

module _ (tables : List Table) (names : List (List ℕ)) (wide : Wide tables names) where
  abbrev piece : StmtNode → Piece
  piece node = record { numbered = numbered tables names node; defined = defined node; checked = checked_stmt tables node }

  abbrev Known-node : Type 0
  Known-node = (node : StmtNode) × Holds tables names (piece node)

  abbrev pieces : List Known-node → List Piece
  pieces [] = []
  pieces (q ∷ qs) = piece q.0 ∷ pieces qs

  all_hold : (qs : List Known-node) → AllHold tables names (pieces qs)
  all_hold [] = tt
  all_hold (q ∷ qs) = (q.1, all_hold qs)

  abbrev nodes_of : List Known-node → List StmtNode
  nodes_of qs = map (λ q. q.0) qs

  numbering_is : (qs : List Known-node) → map (numbered tables names) (nodes_of qs) ≡ numbering (pieces qs)
  numbering_is [] = refl
  numbering_is (q ∷ qs) = ap (λ zs. numbered tables names q.0 ∷ zs) (numbering_is qs)

  checking_is : (qs : List Known-node) → map (checked_stmt tables) (nodes_of qs) ≡ checking (pieces qs)
  checking_is [] = refl
  checking_is (q ∷ qs) = ap (λ zs. checked_stmt tables q.0 ∷ zs) (checking_is qs)

  defining_is : (qs : List Known-node) → in_a_row (map defined (nodes_of qs)) ≡ defining (pieces qs)
  defining_is [] = refl
  defining_is (q ∷ qs) = ap (λ zs. defined q.0 ++ zs) (defining_is qs)

  abbrev open_piece : StmtNode-F Known-node → Piece
  open_piece y = record {
    numbered = number_step tables names (map-StmtNode StmtNode Numbered (numbered tables names) (map-StmtNode Known-node StmtNode (λ q. q.0) y));
    defined = defined_step (map-StmtNode StmtNode (List (List ℕ)) defined (map-StmtNode Known-node StmtNode (λ q. q.0) y));
    checked = checked_stmt_step tables (map-StmtNode StmtNode (ScopeState → Reported) (checked_stmt tables) (map-StmtNode Known-node StmtNode (λ q. q.0) y));
  }

  step_holds : (y : StmtNode-F Known-node) → Holds tables names (open_piece y)
  step_holds (form.Let name value) known next scope rest start =
      naming_reported tables names _ name known next scope rest _ start (let_reported tables names known next scope start.fit _ _ (said names known next scope start.fit value))
  step_holds (form.Read name table key column default) known next scope rest start =
      naming_reported tables names _ name known next scope rest _ start (read_reported tables names known next scope start.fit _ _ (λ t. column_number tables t column.name) default _ (field_of_node tables names known next scope start.fit table key column))
  step_holds (form.Has name table key) known next scope rest start =
      naming_reported tables names _ name known next scope rest _ start (has_reported tables names known next scope start.fit _ _ _ (cell_of_node tables names known next scope start.fit table key))
  step_holds (form.Put table key values) known next scope rest start =
      plain_reported tables names _ known next scope rest _ start (put_reported tables names wide known next scope start.fit table key values (table_number tables table.name) refl)
  step_holds (form.Set table key column value) known next scope rest start =
      plain_reported tables names _ known next scope rest _ start (set_reported tables names known next scope start.fit _ _ (λ t. column_number tables t column.name) _ _ _ (field_of_node tables names known next scope start.fit table key column) (λ by. wanted_passed names known next scope start.fit value by))
  step_holds (form.Delete table key) known next scope rest start =
      plain_reported tables names _ known next scope rest _ start (delete_reported tables names known next scope start.fit _ _ _ (cell_of_node tables names known next scope start.fit table key))
  step_holds (form.AbortIf test) known next scope rest start =
      plain_reported tables names _ known next scope rest _ start (abort_reported tables names known next scope start.fit _ _ (test_passed names known next scope start.fit test))
  step_holds (form.If test first second) known next scope rest start =
      subst (Holds tables names) (λ i. record {
        numbered = branching (λ sight. resolved names sight test) (sym (numbering_is first) i) (sym (numbering_is second) i);
        defined = sym (defining_is first) i ++ sym (defining_is second) i;
        checked = λ scope. checked_stmt_step tables (form.If test (sym (checking_is first) i) (sym (checking_is second) i)) scope;
      })
      (λ known next scope rest start. if_reported tables names (pieces first) (pieces second) (all_hold first) (all_hold second) (λ sight. resolved names sight test) known next scope rest start _ (test_passed names known next scope start.fit test))
      known next scope rest start
  step_holds (form.For name from to body) known next scope rest start =
      subst (Holds tables names) (λ i. record {
        numbered = looping from to (sym (numbering_is body) i);
        defined = name.name ∷ sym (defining_is body) i;
        checked = λ scope. checked_stmt_step tables (form.For name from to (sym (checking_is body) i)) scope;
      })
      (λ known next scope rest start. for_reported tables names (pieces body) (all_hold body) name from to known next scope rest start)
      known next scope rest start

  pub stmt_holds : (node : StmtNode) → Holds tables names (piece node)
  stmt_holds = ind-StmtNode (λ node. Holds tables names (piece node)) (λ x y is. subst (λ z. Holds tables names (piece (roll-StmtNode z))) is
      (subst (Holds tables names) (λ i. record {
        numbered = sym (fold-roll-StmtNode Numbered (number_step tables names) (map-StmtNode Known-node StmtNode (λ q. q.0) y)) i;
        defined = sym (fold-roll-StmtNode (List (List ℕ)) defined_step (map-StmtNode Known-node StmtNode (λ q. q.0) y)) i;
        checked = sym (fold-roll-StmtNode (ScopeState → Reported) (checked_stmt_step tables) (map-StmtNode Known-node StmtNode (λ q. q.0) y)) i;
      }) (step_holds y)))

  abbrev known_nodes : List StmtNode → List Known-node
  known_nodes nodes = map (λ node. (node, stmt_holds node)) nodes

  nodes_same : (nodes : List StmtNode) → nodes_of (known_nodes nodes) ≡ nodes
  nodes_same [] = refl
  nodes_same (n ∷ ns) = ap (λ zs. n ∷ zs) (nodes_same ns)

  -- what checking a body says
  pub body_reported : (nodes : List StmtNode) (known : List (Option Variable)) (next : ℕ) (scope : Scope) (rest : List (List ℕ)) → Start tables names known next scope (in_a_row (map defined nodes)) rest
      → BlockReported tables names (map (numbered tables names) nodes) known next scope rest (checked_block tables nodes (at tables names known next))
  body_reported nodes known next scope rest start =
      let qs = known_nodes nodes in
      let ns : numbering (pieces qs) ≡ map (numbered tables names) nodes = sym (numbering_is qs) ∙ ap (λ (zs : List StmtNode). map (numbered tables names) zs) (nodes_same nodes) in
      let cs : checking (pieces qs) ≡ map (checked_stmt tables) nodes = sym (checking_is qs) ∙ ap (λ (zs : List StmtNode). map (checked_stmt tables) zs) (nodes_same nodes) in
      let ds : in_a_row (map defined nodes) ≡ defining (pieces qs) = sym (ap (λ (zs : List StmtNode). in_a_row (map defined zs)) (nodes_same nodes)) ∙ defining_is qs in
      subst (λ zs. BlockReported tables names zs known next scope rest (checked_block tables nodes (at tables names known next))) ns
      (subst (λ zs. BlockReported tables names (numbering (pieces qs)) known next scope rest (block zs (at tables names known next))) cs
      (block_reported tables names (pieces qs) (all_hold qs) known next scope rest (subst (λ zs. Start tables names known next scope zs rest) ds start)))

-- ---- names that stand once

module _ (names : List (List ℕ)) where
  -- a name that stands for the first time, or else they don't all differ
  abbrev pub OnceReported : ℕ → List (List ℕ) → Result (Unit {0}) TypeFault → Type 0
  OnceReported offset rest (Ok x) = IsDistinct bytes_eq (take (offset + 1) names) × (drop (offset + 1) names ≡ rest)
  OnceReported offset rest (Err f) = AreDistinct names → ⊥

  pub once_reported : (offset : ℕ) (name : NameNode) (rest : List (List ℕ)) → IsDistinct bytes_eq (take offset names) → drop offset names ≡ name.name ∷ rest → OnceReported offset rest (once names offset name)
  once_reported offset name rest distinct left = go (is_before (number_of names name.name) offset) refl
    where
      first : (offset < length names) × (name.name ≡ get_or names offset name.name) × (drop (offset + 1) names ≡ rest)
      first = drop_first names offset name.name rest left

      go : (b : Bool) → is_before (number_of names name.name) offset ≡ b → OnceReported offset rest (unless {A = Unit {0}} b tt name.at Twice)
      go true e = λ all. is_there [] names (number_of names name.name) offset e (sym (number-take names offset name.name) ∙ not_yet names offset name.name first.0 first.1 all)
      go false e = (distinct-more names offset name.name first.0 first.1 distinct (number-take names offset name.name ∙ not_before [] names (number_of names name.name) offset e), first.2)

-- ---- parameters

-- the variables of parameters, where the first has this number
abbrev pub variables_from : ℕ → List ColumnNode → List (Option Variable)
variables_from n [] = []
variables_from n (node ∷ nodes) = Some (record { number = n; ty = node.ty }) ∷ variables_from (n + 1) nodes

numbers_same : (n : ℕ) (nodes : List ColumnNode) → numbers_of (variables_from n nodes) ≡ numbers_from n nodes
numbers_same n [] = refl
numbers_same n (node ∷ nodes) = ap (λ zs. Some n ∷ zs) (numbers_same (n + 1) nodes)

variables_long : (n : ℕ) (nodes : List ColumnNode) → length (variables_from n nodes) ≡ length nodes
variables_long n [] = refl
variables_long n (node ∷ nodes) = ap suc (variables_long (n + 1) nodes)

variable_at : (n : ℕ) (nodes : List ColumnNode) (i : ℕ) (v : Variable) → slice_get (variables_from n nodes) i ≡ Some (Some v) → (v.number ≡ n + i) × (i < length nodes) × (slice_get (types (map column_of nodes)) i ≡ Some v.ty)
variable_at n [] i v h = absurd (none_is h)
variable_at n (node ∷ nodes) zero v h =
    let is : record { number = n; ty = node.ty } ≡ v = some_is (some_is h) in
    (sym (ap (λ (w : Variable). w.number) is) ∙ omega arith, omega arith, ap (λ (w : Variable). Some w.ty) is)
variable_at n (node ∷ nodes) (suc i) v h = let p = variable_at (n + 1) nodes i v h in (p.0 ∙ omega arith, omega (arith, p.1), p.2)

fit_params : (nodes : List ColumnNode) → Fit (variables_from 0 nodes) (length nodes) (scope_of (map column_of nodes))
fit_params nodes i v h =
    let p = variable_at 0 nodes i v h in
    let same : v.number ≡ i = p.0 ∙ omega arith in
    (omega (arith, p.1, same), ap (λ n. slice_get (types (map column_of nodes)) n) same ∙ p.2)

module _ (names : List (List ℕ)) where
  abbrev ParamsReported : List ColumnNode → List (Option Variable) → ℕ → List (List ℕ) → Result ScopeState TypeFault → Type 0
  ParamsReported nodes known next rest (Ok st) = (st ≡ record { names = names; known = known ++ variables_from next nodes; next = next + length nodes })
      × IsDistinct bytes_eq (take (length known + length nodes) names) × (drop (length known + length nodes) names ≡ rest)
  ParamsReported nodes known next rest (Err f) = AreDistinct names → ⊥

  params_reported : (nodes : List ColumnNode) (known : List (Option Variable)) (next : ℕ) (rest : List (List ℕ)) → IsDistinct bytes_eq (take (length known) names) → drop (length known) names ≡ map (λ node. node.name.name) nodes ++ rest
      → ParamsReported nodes known next rest (checked_params nodes (record { names = names; known = known; next = next }))
  params_reported [] known next rest distinct left =
      let long : length known ≡ length known + 0 = omega arith in
      let same : next ≡ next + 0 = omega arith in
      ((λ i. record { names = names; known = sym (append-nil known) i; next = same i }), subst (λ k. IsDistinct bytes_eq (take k names)) long distinct, subst (λ k. drop k names ≡ rest) long left)
  params_reported (node ∷ nodes) known next rest distinct left =
      go (λ d l. params_reported nodes (known ++ Some (record { number = next; ty = node.ty }) ∷ []) (next + 1) rest d l) (once names (length known) node.name) (once_reported names (length known) node.name (map (λ node. node.name.name) nodes ++ rest) distinct left)
    where
      more : List (Option Variable)
      more = known ++ Some (record { number = next; ty = node.ty }) ∷ []

      long : length known + 1 ≡ length more
      long = sym (length-append known (Some (record { number = next; ty = node.ty }) ∷ []))

      others : Type 0
      others = IsDistinct bytes_eq (take (length more) names) → drop (length more) names ≡ map (λ node. node.name.name) nodes ++ rest → ParamsReported nodes more (next + 1) rest (checked_params nodes (record { names = names; known = more; next = next + 1 }))

      whole : (r : Result ScopeState TypeFault) → ParamsReported nodes more (next + 1) rest r → ParamsReported (node ∷ nodes) known next rest r
      whole (Err f) reported = reported
      whole (Ok st) reported =
          let count : length more + length nodes ≡ length known + suc (length nodes) = omega (arith, long) in
          let same : next + 1 + length nodes ≡ next + suc (length nodes) = omega arith in (
            reported.0 ∙ (λ i. record { names = names; known = append_assoc known (Some (record { number = next; ty = node.ty }) ∷ []) (variables_from (next + 1) nodes) i; next = same i }),
            subst (λ k. IsDistinct bytes_eq (take k names)) count reported.1,
            subst (λ k. drop k names ≡ rest) count reported.2,
          )

      go : others → (r : Result (Unit {0}) TypeFault) → OnceReported names (length known) (map (λ node. node.name.name) nodes ++ rest) r
          → ParamsReported (node ∷ nodes) known next rest (r >>= λ _. checked_params nodes (with_variable node.ty (record { names = names; known = known; next = next })))
      go later (Err f) reported = reported
      go later (Ok x) reported = whole (checked_params nodes (record { names = names; known = more; next = next + 1 }))
          (later (subst (λ k. IsDistinct bytes_eq (take k names)) long reported.0) (subst (λ k. drop k names ≡ map (λ node. node.name.name) nodes ++ rest) long reported.1))

-- ---- procedures

module _ (tables : List Table) (node : ProcNode) (wide : Wide tables (variables node)) where
  abbrev pub ProcReported : Result Proc TypeFault → Type 0
  ProcReported (Ok proc) = IsProcOf tables node proc
  ProcReported (Err f) = (proc : Proc) → IsProcOf tables node proc → ⊥

  abbrev the_proc : List Stmt → Proc
  the_proc body = record { name = node.name.name; params = map column_of node.params; body = body }

  abbrev start_of : List (Option Variable)
  start_of = variables_from 0 node.params

  abbrev inner_scope : Scope
  inner_scope = scope_of (map column_of node.params)

  -- the body that the definition numbers
  numbered_body : body_of tables (variables node) node.body (numbers_from 0 node.params) (length node.params) ≡ in_turn (map (numbered tables (variables node)) node.body) (numbers_of start_of) (length node.params)
  numbered_body = ap (λ zs. in_turn (map (numbered tables (variables node)) node.body) zs (length node.params)) (sym (numbers_same 0 node.params))

  all_names_differ : (k : ℕ) → IsDistinct bytes_eq (take k (variables node)) → drop k (variables node) ≡ [] → AreDistinct (variables node)
  all_names_differ k distinct none = are_distinct (variables node) (subst (IsDistinct bytes_eq) (sym (append-nil (take k (variables node))) ∙ ap (λ zs. take k (variables node) ++ zs) (sym none) ∙ take-append-drop k (variables node)) distinct)

  body_proc : (r : Result (List Stmt × ScopeState) TypeFault) → BlockReported tables (variables node) (map (numbered tables (variables node)) node.body) start_of (length node.params) inner_scope [] r
      → ProcReported (r >>= λ b. Ok (the_proc b.0))
  body_proc (Ok b) g = record {
    distinct = all_names_differ _ g.distinct g.left;
    named = ap (λ z. option_map the_proc z) (numbered_body ∙ g.is);
    well_formed = ap (λ z. is_some z) g.well_formed;
  }
  body_proc (Err f) bad = λ proc is. go proc is (body_of tables (variables node) node.body (numbers_from 0 node.params) (length node.params)) refl
    where
      found : (proc : Proc) → IsProcOf tables node proc → (body : List Stmt) → body_of tables (variables node) node.body (numbers_from 0 node.params) (length node.params) ≡ Some body → (o : Option Scope) → in_order (map (check tables) body) inner_scope ≡ o → IsSome o → ⊥
      found proc is body e None s h = true≢false (sym h)
      found proc is body e (Some after) s h = bad body (sym numbered_body ∙ e) after s is.distinct

      go : (proc : Proc) → IsProcOf tables node proc → (o : Option (List Stmt)) → body_of tables (variables node) node.body (numbers_from 0 node.params) (length node.params) ≡ o → ⊥
      go proc is None e = none_is (sym (ap (λ z. option_map the_proc z) e) ∙ is.named)
      go proc is (Some body) e =
          let same : the_proc body ≡ proc = some_is (sym (ap (λ z. option_map the_proc z) e) ∙ is.named) in
          found proc is body e (in_order (map (check tables) body) inner_scope) refl (subst (IsWellFormedProc tables) (sym same) is.well_formed)

  params_proc : (r : Result ScopeState TypeFault) → ParamsReported (variables node) node.params [] 0 (flat_map defined node.body) r → ProcReported (r >>= λ scope. checked_block tables node.body scope >>= λ b. Ok (the_proc b.0))
  params_proc (Err f) bad = λ proc is. bad is.distinct
  params_proc (Ok st) reported =
      let next : 0 + length node.params ≡ length node.params = omega arith in
      let long : 0 + length node.params ≡ length start_of = next ∙ sym (variables_long 0 node.params) in
      subst (λ z. ProcReported (checked_block tables node.body z >>= λ b. Ok (the_proc b.0))) (sym (reported.0 ∙ λ i. record { names = variables node; known = start_of; next = next i }))
      (body_proc _ (body_reported tables (variables node) wide node.body start_of (length node.params) inner_scope [] (record {
        fit = fit_params node.params;
        distinct = subst (λ k. IsDistinct bytes_eq (take k (variables node))) long reported.1;
        left = subst (λ k. drop k (variables node) ≡ flat_map defined node.body) long reported.2 ∙ sym (joined-map node.body) ∙ sym (append-nil (in_a_row (map defined node.body)));
      })))

  pub proc_reported : ProcReported (checked_proc tables node)
  proc_reported = params_proc (checked_params node.params (opening_scope node)) (params_reported (variables node) node.params [] 0 (flat_map defined node.body) distinct-nil refl)
