-- The canonical text of a tree is spelled by a derivation of the same tree.
use Rattle.std.proofs.Common.{◌≡◌, ◌+◌, ℕ, suc, List, [], ◌∷◌, ◌++◌, map, flat_map, length, codes, None, refl, sym, ap, subst, ◌∙◌, append-nil, append_assoc}
use Rattle.pac_value.specs.declared.values.Ty.{Ty}
use Rattle.pac_tokens.specs.declared.token.Keyword.TheVariants as keyword
use Rattle.pac_tokens.specs.declared.token.Symbol.TheVariants as symbol
use Rattle.pac_tokens.specs.declared.lexer.Before.{Before}
use Rattle.pac_tokens.specs.declared.lexer.Before.TheVariants.{Value, Other}
use Rattle.pac_syntax.specs.declared.tree.NameNode.{NameNode}
use Rattle.pac_syntax.specs.declared.tree.ColumnNode.{ColumnNode}
use Rattle.pac_syntax.specs.declared.tree.StmtNode.{StmtNode}
use Rattle.pac_syntax.specs.declared.tree.TableNode.{TableNode}
use Rattle.pac_syntax.specs.declared.tree.ProcNode.{ProcNode}
use Rattle.pac_tokens.specs.Tokens.{is_name, IsLexed}
use Rattle.pac_syntax.specs.Grammar.{outermost, TypeForm, AnIntType, ATextType, ColumnsForm, NoColumn, AColumn, ParamsForm, NoParam, AParam, TablesForm, NoTable, ATable, ProcsForm, NoProc, AProc, CatalogueForm, stmt_nodes, type_of_form, column_node, column_nodes, param_nodes, table_nodes, proc_nodes, tree_of, Role, Plain, TableWord, ProcWord, ColumnName, ParamName, Marked, name_mark, type_mark, columns_before, params_before, tables_before, procs_before, marks_of, tokens_of}
use Rattle.pac_print.specs.Canonical.{type_text, column_text, further_column_text, params_text, table_text, proc_text, deeper, canonical}
use Rattle.pac_print.specs.Unplaced.{unplaced_name, unplaced_column, unplaced_stmt, unplaced_table, unplaced_proc, without_offsets}
use Rattle.pac_print.proofs.Prefixes.{Stops}
use Rattle.pac_print.proofs.Pieces.{Piece, Free, joined, nothing, space, line, word, sign, name, placed, word_space}
use Rattle.pac_print.proofs.PrintedBlocks.{stmts}
use Rattle.pac_print.proofs.PrintedExprs.{goes_on, name_end, symbol_end, word_open}
use Rattle.pac_print.proofs.Proper.{AreProperColumns, AreProperParams, AreProperTables, AreProperProcs, IsProperCatalogue}
use Rattle.pac_print.proofs.SymbolPrefixes.{is_equals}
use Rattle.pac_print.proofs.TokenFacts.{IsNameToken}

-- ---- columns and parameters

-- a type at another offset
abbrev type_at : TypeForm → ℕ → TypeForm
type_at (AnIntType p) at = AnIntType at
type_at (ATextType p) at = ATextType at

same_type : (t : TypeForm) (at : ℕ) → type_of_form (type_at t at) ≡ type_of_form t
same_type (AnIntType p) at = refl
same_type (ATextType p) at = refl

type_piece : (b : Before) (at : ℕ) (t : TypeForm) → Piece b Other at (at + length (type_text (type_of_form t))) (type_text (type_of_form t)) (λ ms. type_mark (type_at t at) ∷ ms) (Stops is_name)
type_piece b at (AnIntType p) = word b at keyword.Int Plain
type_piece b at (ATextType p) = word b at keyword.Text Plain

abbrev after_column : ℕ → NameNode → TypeForm → ℕ
after_column at n t = at + length n.name + 1 + length (type_text (type_of_form t))

-- NAME TYPE
column : (b : Before) (at : ℕ) (n : NameNode) (t : TypeForm) (role : Role) → IsNameToken n.name
    → Piece b Other at (after_column at n t) (column_text (column_node n t)) (λ ms. name_mark (placed n at) role ∷ type_mark (type_at t (at + length n.name + 1)) ∷ ms) (Stops is_name)
column b at n t role is = joined (joined (name b at n role is) (space Value (at + length n.name)) (λ rest k. refl)) (type_piece Value (at + length n.name + 1) t) (λ rest k. tt)

same_column : (n : NameNode) (t : TypeForm) (at p : ℕ) → unplaced_column (column_node (placed n at) (type_at t p)) ≡ unplaced_column (column_node n t)
same_column n t at p = ap (λ (y : Ty). record { name = unplaced_name n; ty = y }) (same_type t p)

same_cons : (a b : ColumnNode) (xs ys : List ColumnNode) → unplaced_column a ≡ unplaced_column b → map unplaced_column xs ≡ map unplaced_column ys → map unplaced_column (a ∷ xs) ≡ map unplaced_column (b ∷ ys)
same_cons a b xs ys e es = ap (λ (x : ColumnNode). x ∷ map unplaced_column xs) e ∙ ap (λ (zs : List ColumnNode). unplaced_column b ∷ zs) es

-- columns after others
record PrintedColumns (most i : ℕ) (role : ℕ → Role) (cs : ColumnsForm) (at : ℕ) : Type 0 where
  form : ColumnsForm
  proper : AreProperColumns most i form
  same : map unplaced_column (column_nodes form) ≡ map unplaced_column (column_nodes cs)
  next : ℕ
  piece : Piece Other Other at next (flat_map further_column_text (column_nodes cs)) (columns_before role i form) (Stops is_name)

columns_end : (cs : ColumnsForm) (rest : List ℕ) → Stops is_name rest → Stops is_name (flat_map further_column_text (column_nodes cs) ++ rest)
columns_end NoColumn rest h = h
columns_end (AColumn comma n t cs) rest h = refl

columns : (most i : ℕ) (role : ℕ → Role) (cs : ColumnsForm) (at : ℕ) → AreProperColumns most i cs → PrintedColumns most i role cs at
columns most i role NoColumn at p = record { form = NoColumn; proper = tt; same = refl; next = at; piece = nothing Other at (Stops is_name) }
columns most i role (AColumn comma n t cs) at p =
    let at_name : ℕ = at + 1 + 1 in
    let more = columns most (suc i) role cs (after_column at_name n t) p.2 in
    record {
      form = AColumn at (placed n at_name) (type_at t (at_name + length n.name + 1)) more.form;
      proper = (p.0, p.1, more.proper);
      same = same_cons (column_node (placed n at_name) (type_at t (at_name + length n.name + 1))) (column_node n t) (column_nodes more.form) (column_nodes cs) (same_column n t at_name (at_name + length n.name + 1)) more.same;
      next = more.next;
      piece = joined (joined (joined (sign Other at symbol.Comma refl) (space Other (at + 1)) (λ rest k. refl)) (column Other at_name n t (role (suc i)) p.1) (λ rest k. tt)) more.piece (λ rest k. columns_end cs rest k);
    }

-- a parameter's name is what its text begins with
name_starts : (n : NameNode) → IsNameToken n.name → (x y z rest : List ℕ) → Stops is_equals ((n.name ++ x ++ y ++ z) ++ rest)
name_starts n is x y z rest =
    let apart : (n.name ++ x ++ y ++ z) ++ rest ≡ n.name ++ (x ++ (y ++ (z ++ rest))) = simp append_assoc in
    subst (λ (xs : List ℕ). Stops is_equals xs) (sym apart) (word_open n.name (x ++ (y ++ (z ++ rest))) is.0)

record PrintedParams (ps : ParamsForm) (at : ℕ) : Type 0 where
  form : ParamsForm
  proper : AreProperParams form
  same : map unplaced_column (param_nodes form) ≡ map unplaced_column (param_nodes ps)
  next : ℕ
  opens : (rest : List ℕ) → Stops is_equals rest → Stops is_equals (params_text (param_nodes ps) ++ rest)
  piece : Piece Other Other at next (params_text (param_nodes ps)) (params_before form) (Stops goes_on)

weaker : {b c : Before} {at next : ℕ} {text : List ℕ} {f : List Marked → List Marked} → Piece b c at next text f (Stops is_name) → Piece b c at next text f (Stops goes_on)
weaker p = record { lexes = λ ms rest k h. p.lexes ms rest (name_end rest k) h }

params : (ps : ParamsForm) (at : ℕ) → AreProperParams ps → PrintedParams ps at
params NoParam at p = record { form = NoParam; proper = tt; same = refl; next = at; opens = λ rest k. k; piece = nothing Other at (Stops goes_on) }
params (AParam n t cs) at p =
    let more = columns 16 1 ParamName cs (after_column at n t) p.1 in
    record {
      form = AParam (placed n at) (type_at t (at + length n.name + 1)) more.form;
      proper = (p.0, more.proper);
      same = same_cons (column_node (placed n at) (type_at t (at + length n.name + 1))) (column_node n t) (column_nodes more.form) (column_nodes cs) (same_column n t at (at + length n.name + 1)) more.same;
      next = more.next;
      opens = λ rest k. name_starts n p.0 (codes " ") (type_text (type_of_form t)) (flat_map further_column_text (column_nodes cs)) rest;
      piece = weaker (joined (column Other at n t (ParamName 1) p.0) more.piece (λ rest k. columns_end cs rest k));
    }

-- ---- tables

record PrintedTables (i : ℕ) (ts : TablesForm) (at : ℕ) : Type 0 where
  form : TablesForm
  proper : AreProperTables i form
  same : map unplaced_table (table_nodes form) ≡ map unplaced_table (table_nodes ts)
  next : ℕ
  piece : Piece Other Other at next (flat_map table_text (table_nodes ts)) (tables_before i form) Free

tables : (i : ℕ) (ts : TablesForm) (at : ℕ) → AreProperTables i ts → PrintedTables i ts at
tables i NoTable at p = record { form = NoTable; proper = tt; same = refl; next = at; piece = nothing Other at Free }
tables i (ATable p0 n p1 p2 k p3 c t cs p4 p5 ts) at p =
    let at_name : ℕ = at + 5 + 1 in
    let at_key : ℕ = at_name + length n.name + 1 in
    let at_type : ℕ = at_key + 3 + 1 in
    let at_comma : ℕ = at_type + length (type_text (type_of_form k)) in
    let at_first : ℕ = at_comma + 1 + 1 in
    let more = columns 8 1 ColumnName cs (after_column at_first c t) p.3 in
    let others = tables (suc i) ts (more.next + 1 + 1 + 1) p.4 in
    record {
      form = ATable at (placed n at_name) (at_name + length n.name) at_key (type_at k at_type) at_comma (placed c at_first) (type_at t (at_first + length c.name + 1)) more.form more.next (more.next + 1) others.form;
      proper = (p.0, p.1, p.2, more.proper, others.proper);
      same = same_table n (type_of_form (type_at k at_type)) (type_of_form k) (column_node (placed c at_first) (type_at t (at_first + length c.name + 1)) ∷ column_nodes more.form) (column_node c t ∷ column_nodes cs) at_name (table_nodes others.form) (table_nodes ts)
          (same_type k at_type) (same_cons (column_node (placed c at_first) (type_at t (at_first + length c.name + 1))) (column_node c t) (column_nodes more.form) (column_nodes cs) (same_column c t at_first (at_first + length c.name + 1)) more.same) others.same;
      next = others.next;
      piece = joined
          (joined (joined (joined (joined (joined (word_space Other at keyword.Table (TableWord (suc i))) (name Other at_name n Plain p.1) (λ rest k. tt))
          (joined (sign Value (at_name + length n.name) symbol.OpenParen refl) (word_space Other at_key keyword.Key Plain) (λ rest k. refl)) (λ rest k. refl)) (type_piece Other at_type k) (λ rest k. tt))
          (joined (joined (joined (sign Other at_comma symbol.Comma refl) (space Other (at_comma + 1)) (λ rest k. refl)) (column Other at_first c t (ColumnName 1) p.2) (λ rest k. tt)) more.piece (λ rest k. columns_end cs rest k)) (λ rest k. refl))
          (joined (joined (sign Other more.next symbol.CloseParen refl) (sign Value (more.next + 1) symbol.Semicolon refl) (λ rest k. refl)) (line Other (more.next + 1 + 1)) (λ rest k. refl)) (λ rest k. refl))
          others.piece (λ rest k. tt);
    }
  where
    same_table : (n : NameNode) (k k' : Ty) (cs cs' : List ColumnNode) (at : ℕ) (ts ts' : List TableNode) → k ≡ k' → map unplaced_column cs ≡ map unplaced_column cs' → map unplaced_table ts ≡ map unplaced_table ts'
        → map unplaced_table (record { name = placed n at; key = k; columns = cs } ∷ ts) ≡ map unplaced_table (record { name = n; key = k'; columns = cs' } ∷ ts')
    same_table n k k' cs cs' at ts ts' e es more = λ i. record { name = unplaced_name n; key = e i; columns = es i } ∷ more i

-- ---- procedures

record PrintedProcs (i : ℕ) (ps : ProcsForm) (at : ℕ) : Type 0 where
  form : ProcsForm
  proper : AreProperProcs i form
  same : map unplaced_proc (proc_nodes form) ≡ map unplaced_proc (proc_nodes ps)
  next : ℕ
  piece : Piece Other Other at next (flat_map proc_text (proc_nodes ps)) (procs_before i form) Free

same_proc : (n : NameNode) (ps ps' : List ColumnNode) (body body' : List StmtNode) (at : ℕ) (more more' : List ProcNode) → map unplaced_column ps ≡ map unplaced_column ps' → map unplaced_stmt body ≡ map unplaced_stmt body' → map unplaced_proc more ≡ map unplaced_proc more'
    → map unplaced_proc (record { name = placed n at; params = ps; body = body } ∷ more) ≡ map unplaced_proc (record { name = n; params = ps'; body = body' } ∷ more')
same_proc n ps ps' body body' at more more' e es rest = λ i. record { name = unplaced_name n; params = e i; body = es i } ∷ rest i

procs : (i : ℕ) (ps : ProcsForm) (at : ℕ) → AreProperProcs i ps → PrintedProcs i ps at
procs i NoProc at p = record { form = NoProc; proper = tt; same = refl; next = at; piece = nothing Other at Free }
procs i (AProc p0 n p1 ps p2 p3 s p4 more) at p =
    let at_name : ℕ = at + 4 + 1 in
    let at_open : ℕ = at_name + length n.name in
    let w = params ps (at_open + 1) p.2 in
    let body = stmts s outermost (deeper []) (w.next + 1 + 1 + 1 + 1) (refl, (refl, tt)) p.3 in
    let others = procs (suc i) more (body.next + 1 + 1) p.4 in
    record {
      form = AProc at (placed n at_name) at_open w.form w.next (w.next + 1 + 1) body.form body.next others.form;
      proper = (p.0, p.1, w.proper, body.proper, others.proper);
      same = same_proc n (param_nodes w.form) (param_nodes ps) (stmt_nodes body.form) (stmt_nodes s) at_name (proc_nodes others.form) (proc_nodes more) w.same body.same others.same;
      next = others.next;
      piece = joined
          (joined (joined (joined (joined (joined (joined (word_space Other at keyword.Proc (ProcWord (suc i))) (name Other at_name n Plain p.1) (λ rest k. tt)) (sign Value at_open symbol.OpenParen refl) (λ rest k. refl)) w.piece (λ rest k. w.opens rest (symbol_end rest k)))
          (joined (joined (joined (sign Other w.next symbol.CloseParen refl) (space Value (w.next + 1)) (λ rest k. refl)) (sign Value (w.next + 1 + 1) symbol.OpenBrace refl) (λ rest k. tt)) (line Other (w.next + 1 + 1 + 1)) (λ rest k. refl)) (λ rest k. refl))
          (body.piece outermost) (λ rest k. tt)) (joined (sign Other body.next symbol.CloseBrace refl) (line Other (body.next + 1)) (λ rest k. refl)) (λ rest k. tt))
          others.piece (λ rest k. tt);
    }

-- ---- catalogues

-- the same catalogue, whose tokens are those of the canonical text
pub record PrintedCatalogue (form : CatalogueForm) : Type 0 where
  pub again : CatalogueForm
  pub proper : IsProperCatalogue again
  pub same : without_offsets (tree_of again) ≡ without_offsets (tree_of form)
  pub lexed : IsLexed (canonical (tree_of form)) (tokens_of (marks_of again)) None

pub catalogue : (form : CatalogueForm) → IsProperCatalogue form → PrintedCatalogue form
catalogue form p =
    let ts = tables 0 form.tables 0 p.tables in
    let ps = procs 0 form.procs ts.next p.procs in
    let both : Piece Other Other 0 ps.next (canonical (tree_of form)) (λ ms. tables_before 0 ts.form (procs_before 0 ps.form ms)) Free = joined ts.piece ps.piece (λ rest k. tt) in
    record {
      again = record { tables = ts.form; procs = ps.form };
      proper = record { tables = ts.proper; procs = ps.proper };
      same = λ i. record { tables = ts.same i; procs = ps.same i };
      lexed = subst (λ (x : List ℕ). IsLexed x (tokens_of (marks_of (record { tables = ts.form; procs = ps.form }))) None) (append-nil (canonical (tree_of form))) (both.lexes [] [] tt refl);
    }
