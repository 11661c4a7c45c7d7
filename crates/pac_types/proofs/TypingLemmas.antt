-- Tables, procedures and catalogues.
use Rattle.std.proofs.Common.{◌≡◌, ◌<◌, ◌≤◌, ℕ, ◌+◌, suc, true, List, [], ◌∷◌, ◌++◌, length, take, drop, map, get_or, Option, Some, None, Result, Ok, Err, refl, sym, ap, ◌∙◌, subst, arith, take-append-drop}
use Rattle.std.specs.Prelude.{All, IfSome, IsTrue, bytes_eq}
use Rattle.std.specs.List.{AllZip, AllByRecursion, IsDistinct, range_with_len}
use Rattle.std.specs.Option.{option_map}
use Rattle.std.proofs.lemmas.List.{length-map, append-nil}
use Rattle.std.proofs.lemmas.List.Elements.{All-map, All-from_recursion, recursion_from_All}
use Rattle.std.proofs.lemmas.Option.{slice_get-get_or}
use Rattle.std.proofs.lemmas.Grind.{common_steps}
use Rattle.pac_base.specs.Refusals.{Reports}
use Rattle.pac_value.specs.Expressions.{◌>>=◌}
use Rattle.pac_syntax.specs.declared.tree.ColumnNode.{ColumnNode}
use Rattle.pac_syntax.specs.declared.tree.TableNode.{TableNode}
use Rattle.pac_syntax.specs.declared.tree.ProcNode.{ProcNode}
use Rattle.pac_syntax.specs.declared.tree.Tree.{Tree}
use Rattle.pac_syntax.proofs.Trees.{tree-within}
use Rattle.pac_syntax.specs.Limits.{IsTableWithinLimits, IsProcWithinLimits, IsWithinLimits, HasStoredType, is_stored_type}
use Rattle.pac_types.specs.declared.type_error.TypeFault.{TypeFault}
use Rattle.pac_types.specs.declared.table.Column.{Column}
use Rattle.pac_types.specs.declared.table.Table.{Table}
use Rattle.pac_types.specs.declared.procedure.Proc.{Proc}
use Rattle.pac_types.specs.declared.statement.Stmt.{Stmt}
use Rattle.pac_types.specs.WellFormed.{column_types, column_types_of}
use Rattle.pac_value.specs.Scopes.{is_width}
use Rattle.pac_types.specs.Variables.{defined_variables}
use Rattle.pac_types.specs.Numbering.{AreDistinct, variables, body_of, numbers_from, column_of, table_of, column_names, table_names}
use Rattle.pac_types.specs.Typing.{IsProcOf, HasDistinctColumns, Types, CatalogueState, IsCatalogue, IsWellFormedTable, IsProc, IsTyped}
use Rattle.pac_base.specs.declared.refusal.Refusal.{Refusal}
use Rattle.pac_base.specs.declared.refusal.Refusal.TheVariants as error
use Rattle.pac_types.specs.Checking.{once, all_once, names_of, checked_tables, checked_proc, checked_procs}
use Rattle.pac_types.proofs.NameLemmas.{are_distinct, distinct-nil, number-within}
use Rattle.pac_types.proofs.NumberLemmas.{body_numbers}
use Rattle.pac_types.proofs.ExprLemmas.{some_is, none_is}
use Rattle.pac_types.proofs.StmtLemmas.{Wide}
use Rattle.pac_types.proofs.TreeLemmas.{OnceReported, once_reported, ProcReported, proc_reported}

columns-named : (nodes : List ColumnNode) → map (λ node. node.name.name) nodes ≡ column_names (map column_of nodes)
columns-named [] = refl
columns-named (n ∷ ns) = ap (λ names. n.name.name ∷ names) (columns-named ns)

-- the names of nodes are those of their tables
pub tables-named : (nodes : List TableNode) → map (λ node. node.name.name) nodes ≡ table_names (map table_of nodes)
tables-named [] = refl
tables-named (n ∷ ns) = ap (λ names. n.name.name ∷ names) (tables-named ns)

-- and the names of their columns
pub columns-of : (nodes : List TableNode) → map (λ node. map (λ column. column.name.name) node.columns) nodes ≡ map (λ table. column_names table.columns) (map table_of nodes)
columns-of [] = refl
columns-of (n ∷ ns) = ap (λ names. names ∷ map (λ node. map (λ column. column.name.name) node.columns) ns) (columns-named n.columns) ∙ ap (λ names. column_names (map column_of n.columns) ∷ names) (columns-of ns)

-- ---- lists item by item

-- partners that each item has but one of
zip-same : {A B : Type 0} (R : A → B → Type 0) → ((x : A) (y z : B) → R x y → R x z → y ≡ z) → (xs : List A) (ys zs : List B) → AllZip R xs ys → AllZip R xs zs → ys ≡ zs
zip-same R one [] [] [] a b = refl
zip-same R one [] [] (z ∷ zs) a b = absurd b
zip-same R one [] (y ∷ ys) zs a b = absurd a
zip-same R one (x ∷ xs) [] zs a b = absurd a
zip-same R one (x ∷ xs) (y ∷ ys) [] a b = absurd b
zip-same R one (x ∷ xs) (y ∷ ys) (z ∷ zs) a b = ap (λ w. w ∷ ys) (one x y z a.0 b.0) ∙ ap (λ ws. z ∷ ws) (zip-same R one xs ys zs a.1 b.1)

-- a node has one procedure
one_proc : (tables : List Table) (node : ProcNode) (p q : Proc) → IsProcOf tables node p → IsProcOf tables node q → p ≡ q
one_proc tables node p q a b = some_is (sym a.named ∙ b.named)

-- a tree has one catalogue
pub one_catalogue : (tree : Tree) (c d : CatalogueState) → Types tree c → Types tree d → c ≡ d
one_catalogue tree c d a b =
    let tables : c.tables ≡ d.tables = a.tables ∙ sym b.tables in
    let procs : c.procs ≡ d.procs = zip-same (IsProcOf d.tables) (one_proc d.tables) tree.procs c.procs d.procs (subst (λ (ts : List Table). AllZip (IsProcOf ts) tree.procs c.procs) tables a.procs) b.procs in
    λ i. record { tables = tables i; procs = procs i }

-- ---- what a catalogue is

stored-columns : (nodes : List ColumnNode) → All HasStoredType nodes → All (λ column. IsTrue (is_stored_type column.ty)) (map column_of nodes)
stored-columns nodes all = All-map (λ column. IsTrue (is_stored_type column.ty)) column_of nodes all

well_formed_table : (node : TableNode) → IsTableWithinLimits node → IsWellFormedTable (table_of node)
well_formed_table node limits = record {
  some = subst (λ n. 1 ≤ n) (sym (length-map node.columns column_of)) limits.some;
  few = subst (λ n. n ≤ 8) (sym (length-map node.columns column_of)) limits.few;
  key = limits.key;
  columns = stored-columns node.columns limits.columns;
}

pub tables_well_formed : (catalogue : CatalogueState) → IsCatalogue catalogue → All IsWellFormedTable catalogue.tables
tables_well_formed catalogue is = subst (All IsWellFormedTable) (sym is.2.tables) (All-map IsWellFormedTable table_of is.0.tables (λ k d within. well_formed_table (get_or is.0.tables k d) ((tree-within is.0 is.1).tables k d within)))

zip-long : {A B : Type 0} (R : A → B → Type 0) (xs : List A) (ys : List B) → AllZip R xs ys → length ys ≡ length xs
zip-long R [] [] all = refl
zip-long R [] (y ∷ ys) all = absurd all
zip-long R (x ∷ xs) [] all = absurd all
zip-long R (x ∷ xs) (y ∷ ys) all = ap suc (zip-long R xs ys all.1)

zip-all : {A B : Type 0} (R : A → B → Type 0) (P : A → Type 0) (Q : B → Type 0) → ((x : A) (y : B) → P x → R x y → Q y) → (xs : List A) (ys : List B) → AllZip R xs ys → AllByRecursion P xs → AllByRecursion Q ys
zip-all R P Q step [] [] all each = tt
zip-all R P Q step [] (y ∷ ys) all each = absurd all
zip-all R P Q step (x ∷ xs) [] all each = absurd all
zip-all R P Q step (x ∷ xs) (y ∷ ys) all each = (step x y each.0 all.0, zip-all R P Q step xs ys all.1 each.1)

abbrev the_proc : ProcNode → List Stmt → Proc
the_proc node body = record { name = node.name.name; params = map column_of node.params; body = body }

-- the body of a procedure by numbers
body_found : (tables : List Table) (node : ProcNode) (proc : Proc) (b : Option (List Stmt)) → option_map (the_proc node) b ≡ Some proc → (body : List Stmt) × (b ≡ Some body) × (the_proc node body ≡ proc)
body_found tables node proc None h = absurd (none_is h)
body_found tables node proc (Some body) h = (body, refl, some_is h)

a_proc : (tables : List Table) (node : ProcNode) (proc : Proc) → IsProcWithinLimits node → IsProcOf tables node proc → IsProc tables proc
a_proc tables node proc limits is =
    let b = body_found tables node proc (body_of tables (variables node) node.body (numbers_from 0 node.params) (length node.params)) is.named in
    let params : proc.params ≡ map column_of node.params = ap (λ (p : Proc). p.params) (sym b.2) in
    let body : b.0 ≡ proc.body = ap (λ (p : Proc). p.body) b.2 in
    let many : length node.params ≡ length proc.params = sym (ap length params ∙ length-map node.params column_of) in
    record {
      few = subst (λ n. n ≤ 16) (sym (ap length params ∙ length-map node.params column_of)) limits.few;
      params = subst (All (λ column. IsTrue (is_stored_type column.ty))) (sym params) (stored-columns node.params limits.params);
      well_formed = is.well_formed;
      numbered = subst (λ (ss : List Stmt). defined_variables ss ≡ range_with_len (length proc.params) (length (defined_variables ss))) body
          (subst (λ n. defined_variables b.0 ≡ range_with_len n (length (defined_variables b.0))) many
          (body_numbers tables (variables node) node.body (numbers_from 0 node.params) (length node.params) b.0 b.1));
    }

name_of : (tables : List Table) (node : ProcNode) (proc : Proc) → IsProcOf tables node proc → proc.name ≡ node.name.name
name_of tables node proc is = ap (λ (p : Proc). p.name) (sym (body_found tables node proc (body_of tables (variables node) node.body (numbers_from 0 node.params) (length node.params)) is.named).2)

-- the names of nodes are those of their procedures
pub procs-named : (tables : List Table) (nodes : List ProcNode) (procs : List Proc) → AllZip (IsProcOf tables) nodes procs → map (λ node. node.name.name) nodes ≡ map (λ proc. proc.name) procs
procs-named tables [] [] all = refl
procs-named tables [] (p ∷ ps) all = absurd all
procs-named tables (n ∷ ns) [] all = absurd all
procs-named tables (n ∷ ns) (p ∷ ps) all = ap (λ names. n.name.name ∷ names) (procs-named tables ns ps all.1) ∙ ap (λ name. name ∷ map (λ proc. proc.name) ps) (sym (name_of tables n p all.0))

pub procs_well_formed : (catalogue : CatalogueState) → IsCatalogue catalogue → All (IsProc catalogue.tables) catalogue.procs
procs_well_formed catalogue is = All-from_recursion (IsProc catalogue.tables) catalogue.procs
    (zip-all (IsProcOf catalogue.tables) IsProcWithinLimits (IsProc catalogue.tables) (a_proc catalogue.tables) is.0.procs catalogue.procs is.2.procs (recursion_from_All IsProcWithinLimits is.0.procs (tree-within is.0 is.1).procs))

pub tables_few : (catalogue : CatalogueState) → IsCatalogue catalogue → length catalogue.tables ≤ 64
tables_few catalogue is = subst (λ n. n ≤ 64) (sym (ap length is.2.tables ∙ length-map is.0.tables table_of)) (tree-within is.0 is.1).few_tables

pub procs_few : (catalogue : CatalogueState) → IsCatalogue catalogue → length catalogue.procs ≤ 64
procs_few catalogue is = subst (λ n. n ≤ 64) (sym (zip-long (IsProcOf catalogue.tables) is.0.procs catalogue.procs is.2.procs)) (tree-within is.0 is.1).few_procs

-- ---- what checking tables and procedures says

abbrev AllReported : List (List ℕ) → Result (Unit {0}) TypeFault → Type 0
AllReported names (Ok x) = AreDistinct names
AllReported names (Err f) = AreDistinct names → ⊥

all_differ : (names : List (List ℕ)) (k : ℕ) → IsDistinct bytes_eq (take k names) → drop k names ≡ [] → AreDistinct names
all_differ names k distinct none = are_distinct names (subst (IsDistinct bytes_eq) (sym (append-nil (take k names)) ∙ ap (λ zs. take k names ++ zs) (sym none) ∙ take-append-drop k names) distinct)

columns_reported : (names : List (List ℕ)) (nodes : List ColumnNode) (offset : ℕ) → IsDistinct bytes_eq (take offset names) → drop offset names ≡ names_of nodes → AllReported names (all_once names offset nodes)
columns_reported names [] offset distinct left = all_differ names offset distinct left
columns_reported names (node ∷ nodes) offset distinct left = go (λ d l. columns_reported names nodes (offset + 1) d l) (once names offset node.name) (once_reported names offset node.name (names_of nodes) distinct left)
  where
    go : (IsDistinct bytes_eq (take (offset + 1) names) → drop (offset + 1) names ≡ names_of nodes → AllReported names (all_once names (offset + 1) nodes)) → (r : Result (Unit {0}) TypeFault) → OnceReported names offset (names_of nodes) r
        → AllReported names (r >>= λ _. all_once names (offset + 1) nodes)
    go later (Err f) reported = reported
    go later (Ok x) reported = later reported.0 reported.1

abbrev node_names : List TableNode → List (List ℕ)
node_names nodes = map (λ node. node.name.name) nodes

abbrev TablesReported : List (List ℕ) → List TableNode → Result (Unit {0}) TypeFault → Type 0
TablesReported names nodes (Ok x) = AreDistinct names × AllByRecursion HasDistinctColumns nodes
TablesReported names nodes (Err f) = AreDistinct names → AllByRecursion HasDistinctColumns nodes → ⊥

tables_reported : (names : List (List ℕ)) (nodes : List TableNode) (offset : ℕ) → IsDistinct bytes_eq (take offset names) → drop offset names ≡ node_names nodes → TablesReported names nodes (checked_tables names offset nodes)
tables_reported names [] offset distinct left = (all_differ names offset distinct left, tt)
tables_reported names (node ∷ nodes) offset distinct left = go (λ d l. tables_reported names nodes (offset + 1) d l) (once names offset node.name) (once_reported names offset node.name (node_names nodes) distinct left)
  where
    later_reported : (r : Result (Unit {0}) TypeFault) → HasDistinctColumns node → TablesReported names nodes r → TablesReported names (node ∷ nodes) r
    later_reported (Ok x) columns reported = (reported.0, (columns, reported.1))
    later_reported (Err f) columns reported = λ all each. reported all each.1

    with_columns : (r : Result (Unit {0}) TypeFault) → AllReported (names_of node.columns) r → TablesReported names nodes (checked_tables names (offset + 1) nodes) → TablesReported names (node ∷ nodes) (r >>= λ _. checked_tables names (offset + 1) nodes)
    with_columns (Err f) reported later = λ all each. reported each.0
    with_columns (Ok x) reported later = later_reported (checked_tables names (offset + 1) nodes) reported later

    go : (IsDistinct bytes_eq (take (offset + 1) names) → drop (offset + 1) names ≡ node_names nodes → TablesReported names nodes (checked_tables names (offset + 1) nodes)) → (r : Result (Unit {0}) TypeFault) → OnceReported names offset (node_names nodes) r
        → TablesReported names (node ∷ nodes) ((r >>= λ _. all_once (names_of node.columns) 0 node.columns) >>= λ _. checked_tables names (offset + 1) nodes)
    go later (Err f) reported = λ all each. reported all
    go later (Ok x) reported = with_columns (all_once (names_of node.columns) 0 node.columns) (columns_reported (names_of node.columns) node.columns 0 distinct-nil refl) (later reported.0 reported.1)

module _ (tables : List Table) (wide : (names : List (List ℕ)) → Wide tables names) (names : List (List ℕ)) where
  abbrev proc_names : List ProcNode → List (List ℕ)
  proc_names nodes = map (λ node. node.name.name) nodes

  abbrev ProcsReported : List ProcNode → Result (List Proc) TypeFault → Type 0
  ProcsReported nodes (Ok procs) = AreDistinct names × AllZip (IsProcOf tables) nodes procs
  ProcsReported nodes (Err f) = (procs : List Proc) → AreDistinct names → AllZip (IsProcOf tables) nodes procs → ⊥

  pub procs_reported : (nodes : List ProcNode) (offset : ℕ) → IsDistinct bytes_eq (take offset names) → drop offset names ≡ proc_names nodes → ProcsReported nodes (checked_procs tables names offset nodes)
  procs_reported [] offset distinct left = (all_differ names offset distinct left, tt)
  procs_reported (node ∷ nodes) offset distinct left = go (λ d l. procs_reported nodes (offset + 1) d l) (once names offset node.name) (once_reported names offset node.name (proc_names nodes) distinct left)
    where
      others : (p : Proc) → IsProcOf tables node p → (r : Result (List Proc) TypeFault) → ProcsReported nodes r → ProcsReported (node ∷ nodes) (r >>= λ ps. Ok (p ∷ ps))
      others p is (Ok ps) reported = (reported.0, (is, reported.1))
      others p is (Err f) reported = none_left
        where
          none_left : (procs : List Proc) → AreDistinct names → AllZip (IsProcOf tables) (node ∷ nodes) procs → ⊥
          none_left [] all zip = zip
          none_left (q ∷ qs) all zip = reported qs all zip.1

      with_proc : (r : Result Proc TypeFault) → ProcReported tables node (wide (variables node)) r → ProcsReported nodes (checked_procs tables names (offset + 1) nodes)
          → ProcsReported (node ∷ nodes) (r >>= λ p. checked_procs tables names (offset + 1) nodes >>= λ ps. Ok (p ∷ ps))
      with_proc (Err f) reported later = none_here
        where
          none_here : (procs : List Proc) → AreDistinct names → AllZip (IsProcOf tables) (node ∷ nodes) procs → ⊥
          none_here [] all zip = zip
          none_here (q ∷ qs) all zip = reported q zip.0
      with_proc (Ok p) reported later = others p reported (checked_procs tables names (offset + 1) nodes) later

      go : (IsDistinct bytes_eq (take (offset + 1) names) → drop (offset + 1) names ≡ proc_names nodes → ProcsReported nodes (checked_procs tables names (offset + 1) nodes)) → (r : Result (Unit {0}) TypeFault) → OnceReported names offset (proc_names nodes) r
          → ProcsReported (node ∷ nodes) (r >>= λ _. checked_proc tables node >>= λ p. checked_procs tables names (offset + 1) nodes >>= λ ps. Ok (p ∷ ps))
      go later (Err f) reported = λ procs all zip. reported all
      go later (Ok x) reported = with_proc (checked_proc tables node) (proc_reported tables node (wide (variables node))) (later reported.0 reported.1)

-- ---- trees

wide_is : (n : ℕ) → 1 ≤ n → n ≤ 8 → is_width n ≡ true
wide_is n low high = grind (arith, common_steps)

wide_at : (tables : List Table) (first : Table) (t : ℕ) → All IsWellFormedTable tables → t < length tables → is_width (length (column_types tables t)) ≡ true
wide_at tables first t well_formed within =
    let table = get_or tables t first in
    let here = well_formed t first within in
    ap (λ (o : Option Table). is_width (length (column_types_of o))) (slice_get-get_or tables t first within)
    ∙ ap is_width (length-map table.columns (λ (column : Column). column.ty)) ∙ wide_is (length table.columns) here.some here.few

pub tables_wide : (nodes : List TableNode) → All IsTableWithinLimits nodes → (names : List (List ℕ)) → Wide (map table_of nodes) names
tables_wide nodes limits names name t found = go nodes limits (omega (arith, subst (λ (o : Option ℕ). IfSome o (λ n. n < length (table_names (map table_of nodes)))) found (number-within (table_names (map table_of nodes)) name), length-map (map table_of nodes) (λ (table : Table). table.name)))
  where
    go : (nodes : List TableNode) → All IsTableWithinLimits nodes → t < length (map table_of nodes) → is_width (length (column_types (map table_of nodes) t)) ≡ true
    go [] limits within = let never : ⊥ = omega (arith, within) in absurd never
    go (n ∷ ns) limits within = wide_at (map table_of (n ∷ ns)) (table_of n) t (All-map IsWellFormedTable table_of (n ∷ ns) (λ k d within. well_formed_table (get_or (n ∷ ns) k d) (limits k d within))) within

module _ (tree : Tree) (limits : IsWithinLimits tree) where
  abbrev of_tables : List (List ℕ)
  of_tables = node_names tree.tables

  abbrev of_procs : List (List ℕ)
  of_procs = map (λ node. node.name.name) tree.procs

  tables_of_tree : (r : Result (Unit {0}) TypeFault) → checked_tables of_tables 0 tree.tables ≡ r → TablesReported of_tables tree.tables r
  tables_of_tree r e = subst (TablesReported of_tables tree.tables) e (tables_reported of_tables tree.tables 0 distinct-nil refl)

  wide_tables : (tables : List Table) → tables ≡ map table_of tree.tables → (names : List (List ℕ)) → Wide tables names
  wide_tables tables is names = subst (λ (ts : List Table). Wide ts names) (sym is) (tables_wide tree.tables limits.tables names)

  -- a tree with no fault has the catalogue that was found
  pub tree_typed : (tables : List Table) (procs : List Proc) → tables ≡ map table_of tree.tables → checked_tables of_tables 0 tree.tables ≡ Ok tt → checked_procs tables of_procs 0 tree.procs ≡ Ok procs → Types tree (record { tables = tables; procs = procs })
  tree_typed tables procs is names found =
      let t = tables_of_tree (Ok tt) names in
      let p = subst (ProcsReported tables (wide_tables tables is) of_procs tree.procs) found (procs_reported tables (wide_tables tables is) of_procs tree.procs 0 distinct-nil refl) in
      record { table_names = t.0; proc_names = p.0; column_names = All-from_recursion HasDistinctColumns tree.tables t.1; tables = is; procs = p.1 }

  -- one with a fault has none
  pub tables_untyped : (f : TypeFault) → checked_tables of_tables 0 tree.tables ≡ Err f → IsTyped tree → ⊥
  tables_untyped f e typed = tables_of_tree (Err f) e typed.1.table_names (recursion_from_All HasDistinctColumns tree.tables typed.1.column_names)

  pub procs_untyped : (tables : List Table) → tables ≡ map table_of tree.tables → (f : TypeFault) → checked_procs tables of_procs 0 tree.procs ≡ Err f → IsTyped tree → ⊥
  procs_untyped tables is f e typed =
      subst (ProcsReported tables (wide_tables tables is) of_procs tree.procs) e (procs_reported tables (wide_tables tables is) of_procs tree.procs 0 distinct-nil refl)
      typed.0.procs typed.1.proc_names (subst (λ (ts : List Table). AllZip (IsProcOf ts) tree.procs typed.0.procs) (typed.1.tables ∙ sym is) typed.1.procs)

-- ---- what a `?` hands on

same_error : {A E : Type 0} {x y : E} → ◌≡◌ {A = Result A E} (Err x) (Err y) → x ≡ y
same_error h = cc

-- where the result is a fault, so is what the callee returned
pub fault_reported : {X Y A : Type 0} (view : X → Y) (reported : Result Y TypeFault) (r : Result A (Refusal TypeFault)) (x y : Refusal TypeFault) (f : TypeFault) → r ≡ Err x → x ≡ y → r ≡ Err (error.Fault f) → Reports view (Err y) reported → reported ≡ Err f
fault_reported view reported r x y f is same h gives = subst (λ e. Reports view (Err e) reported) (sym same ∙ same_error (sym is ∙ h)) gives
