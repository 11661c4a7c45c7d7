-- What checking statements one after another says, and so of conditionals.
use Rattle.std.proofs.Common.{◌≡◌, ◌<◌, ◌≤◌, ℕ, ◌+◌, ◌-◌, Bool, true, false, ◌||◌, ◌==◌, List, [], ◌∷◌, ◌++◌, length, take, drop, replicate, map, Option, Some, None, Result, Ok, Err, true≢false, refl, sym, ap, subst, ◌∙◌, arith, append_assoc, inl, inr, ◌⊎◌, length-append, is_some}
use Rattle.std.specs.Prelude.{slice_get, if◌then◌else◌, bytes_eq}
use Rattle.std.specs.Option.{option_map, option_and_then}
use Rattle.std.specs.List.{IsDistinct}
use Rattle.std.proofs.lemmas.List.{append-nil, length-replicate}
use Rattle.std.proofs.Math.Seq.{take-append_seam}
use Rattle.pac_value.specs.declared.values.Ty.TheVariants.{Bool as BoolTy}
use Rattle.pac_value.specs.declared.expr.Expr.{Expr}
use Rattle.pac_value.specs.Expressions.{◌>>=◌, type_in}
use Rattle.pac_types.specs.declared.type_error.TypeFault.{TypeFault}
use Rattle.pac_types.specs.declared.checker.scope.Variable.{Variable}
use Rattle.pac_types.specs.declared.table.Table.{Table}
use Rattle.pac_types.specs.declared.statement.Stmt.{Stmt, If}
use Rattle.pac_types.specs.declared.statement.Stmt.TheOpen as form
use Rattle.pac_types.specs.Numbering.{AreDistinct, Sight, Numbered, in_a_row, all_names, variables_in, in_turn, unseen, branching}
use Rattle.pac_types.specs.WellFormed.{Check, check, check_step, scope_after, in_order, any_defines, without}
use Rattle.pac_value.specs.Scopes.{Scope, with_var, is_bool}
use Rattle.pac_types.specs.Checking.{ScopeState, Reported, left_at, run_all, block}
use Rattle.pac_types.proofs.StmtForms.{at-If}
use Rattle.pac_types.proofs.ExprLemmas.{numbers_of, Fit, Passed, some_is, none_is}
use Rattle.pac_types.proofs.PartLemmas.{in_either, unseen_none, numbers-append, numbers-unseen, map_is, then_is, some_of, so_true, so_some, and_true, or_true, both_true, conflict, differs, equal, fit_hidden, fit_unseen}
use Rattle.pac_types.proofs.StmtLemmas.{at, Start, Good, StmtReported, after_is, defines_is}

-- what is said of a statement: what it is to numbering, the names that it defines, and what checking it does
pub record Piece : Type 0 where
  pub numbered : Numbered
  pub defined : List (List ℕ)
  pub checked : ScopeState → Reported

abbrev pub numbering : List Piece → List Numbered
numbering ps = map (λ p. p.numbered) ps

abbrev pub checking : List Piece → List (ScopeState → Reported)
checking ps = map (λ p. p.checked) ps

abbrev pub defining : List Piece → List (List ℕ)
defining ps = in_a_row (map (λ p. p.defined) ps)

module _ (tables : List Table) (names : List (List ℕ)) where
  -- what checking the statement says, wherever it stands
  abbrev pub Holds : Piece → Type 0
  Holds p = (known : List (Option Variable)) (next : ℕ) (scope : Scope) (rest : List (List ℕ)) → Start tables names known next scope p.defined rest
      → StmtReported tables names p.numbered known next scope rest (p.checked (at tables names known next))

  abbrev pub AllHold : List Piece → Type 0
  AllHold [] = Unit {0}
  AllHold (p ∷ ps) = Holds p × AllHold ps

  abbrev Reported-all : Type 0
  Reported-all = Result (List Stmt × ScopeState) TypeFault

  pub record RunGood (ns : List Numbered) (known : List (Option Variable)) (next : ℕ) (scope : Scope) (rest : List (List ℕ)) (ss : List Stmt) (st : ScopeState) : Type 0 where
    pub extra : List (Option Variable)
    pub state : st ≡ at tables names (known ++ extra) (next + variables_in ns)
    pub many : length extra ≡ all_names ns
    pub is : in_turn ns (numbers_of known) next ≡ Some ss
    pub after : Scope
    pub well_formed : in_order (map (check tables) ss) scope ≡ Some after
    pub defines : (y : ℕ) → any_defines (map (check tables) ss) y ≡ true → (next ≤ y) × (y < next + variables_in ns)
    pub distinct : IsDistinct bytes_eq (take (length known + length extra) names)
    pub left : drop (length known + length extra) names ≡ rest

  abbrev pub RunBad : Option (List Stmt) → Scope → Type 0
  RunBad o scope = (ss : List Stmt) → o ≡ Some ss → (after : Scope) → in_order (map (check tables) ss) scope ≡ Some after → AreDistinct names → ⊥

  abbrev pub RunReported : List Numbered → List (Option Variable) → ℕ → Scope → List (List ℕ) → Reported-all → Type 0
  RunReported ns known next scope rest (Ok b) = RunGood ns known next scope rest b.0 b.1
  RunReported ns known next scope rest (Err f) = RunBad (in_turn ns (numbers_of known) next) scope

  -- the parts of statements by numbers
  pub turn_is : (n : Numbered) (ns : List Numbered) (sight : Sight) (next : ℕ) (ss : List Stmt) → in_turn (n ∷ ns) sight next ≡ Some ss
      → (a : Stmt) × (as_ : List Stmt) × (n.stmt sight next ≡ Some a) × (in_turn ns (sight ++ n.shown next) (next + n.count) ≡ Some as_) × (a ∷ as_ ≡ ss)
  turn_is n ns sight next ss h =
      let p = then_is (λ a. option_map (λ as_. a ∷ as_) (in_turn ns (sight ++ n.shown next) (next + n.count))) (n.stmt sight next) ss h in
      let q = map_is (λ as_. p.0 ∷ as_) (in_turn ns (sight ++ n.shown next) (next + n.count)) ss p.2 in
      (p.0, q.0, p.1, q.1, q.2)

  -- the scope after the first statement, and after the others
  order_is : (a : Stmt) (as_ ss : List Stmt) (scope after : Scope) → a ∷ as_ ≡ ss → in_order (map (check tables) ss) scope ≡ Some after
      → (mid : Scope) × (scope_after tables a scope ≡ Some mid) × (in_order (map (check tables) as_) mid ≡ Some after)
  order_is a as_ ss scope after same h = then_is (in_order (map (check tables) as_)) (scope_after tables a scope) after (ap (λ zs. in_order (map (check tables) zs) scope) same ∙ h)

  module _ (n : Numbered) (ns : List Numbered) (known : List (Option Variable)) (next : ℕ) (scope : Scope) (rest : List (List ℕ)) where
    following : (r : Reported-all) (mid : List (List ℕ)) (s : Stmt) (st : ScopeState) (g : Good tables names n known next scope mid s st)
        → RunReported ns (known ++ g.extra) (next + n.count) g.after rest r → RunReported (n ∷ ns) known next scope rest (r >>= λ b. Ok (s ∷ b.0, b.1))
    following (Err f) mid s st g reported = λ ss is after well_formed distinct.
        let p = turn_is n ns (numbers_of known) next ss is in
        let same : p.0 ≡ s = some_is (sym p.2 ∙ g.is) in
        let q = order_is p.0 p.1 ss scope after p.4 well_formed in
        let mid_is : q.0 ≡ g.after = some_is (sym q.1 ∙ ap (λ z. scope_after tables z scope) same ∙ g.well_formed) in
        reported p.1 (ap (λ zs. in_turn ns zs (next + n.count)) (numbers-append known g.extra ∙ ap (λ zs. numbers_of known ++ zs) g.numbers) ∙ p.3) after (ap (λ z. in_order (map (check tables) p.1) z) (sym mid_is) ∙ q.2) distinct
    following (Ok b) mid s st g r = record {
      extra = g.extra ++ r.extra;
      state = r.state ∙ λ i. at tables names (append_assoc known g.extra r.extra i) (counted i);
      many = length-append g.extra r.extra ∙ omega (arith, g.many, r.many);
      is = ap (λ z. option_and_then (λ a. option_map (λ as_. a ∷ as_) (in_turn ns (numbers_of known ++ n.shown next) (next + n.count))) z) g.is
          ∙ ap (λ z. option_map (λ as_. s ∷ as_) z) (ap (λ zs. in_turn ns zs (next + n.count)) (sym (numbers-append known g.extra ∙ ap (λ zs. numbers_of known ++ zs) g.numbers)) ∙ r.is);
      after = r.after;
      well_formed = ap (λ z. option_and_then (in_order (map (check tables) b.0)) z) g.well_formed ∙ r.well_formed;
      defines = λ y e. in_one_of y (or_true _ _ e);
      distinct = subst (λ k. IsDistinct bytes_eq (take k names)) long r.distinct;
      left = subst (λ k. drop k names ≡ rest) long r.left;
    }
      where
        counted : next + n.count + variables_in ns ≡ next + (n.count + variables_in ns)
        counted = omega arith

        long : length (known ++ g.extra) + length r.extra ≡ length known + length (g.extra ++ r.extra)
        long = omega (arith, length-append known g.extra, length-append g.extra r.extra)

        in_one_of : (y : ℕ) → ((check tables s).defines y ≡ true) ⊎ (any_defines (map (check tables) b.0) y ≡ true) → (next ≤ y) × (y < next + (n.count + variables_in ns))
        in_one_of y (inl e) = let p = g.defines y e in (p.0, omega (arith, p.1))
        in_one_of y (inr e) = let p = r.defines y e in (omega (arith, p.0), omega (arith, p.1))

  run_reported : (ps : List Piece) → AllHold ps → (known : List (Option Variable)) (next : ℕ) (scope : Scope) (rest : List (List ℕ)) → Start tables names known next scope (defining ps) rest
      → RunReported (numbering ps) known next scope rest (run_all (checking ps) (at tables names known next))
  run_reported [] all known next scope rest start = record {
    extra = [];
    state = λ i. at tables names (sym (append-nil known) i) (same_next i);
    many = refl;
    is = refl;
    after = scope;
    well_formed = refl;
    defines = λ y e. absurd (true≢false (sym e));
    distinct = subst (λ k. IsDistinct bytes_eq (take k names)) same_length start.distinct;
    left = subst (λ k. drop k names ≡ rest) same_length start.left;
  }
    where
      same_next : next ≡ next + 0
      same_next = omega arith

      same_length : length known ≡ length known + 0
      same_length = omega arith
  run_reported (p ∷ ps) all known next scope rest start = go (λ k n sc st. run_reported ps all.1 k n sc rest st) (p.checked (at tables names known next)) (all.0 known next scope (defining ps ++ rest) (record { fit = start.fit; distinct = start.distinct; left = start.left ∙ append_assoc p.defined (defining ps) rest }))
    where
      others : Type 0
      others = (k : List (Option Variable)) (n : ℕ) (sc : Scope) → Start tables names k n sc (defining ps) rest → RunReported (numbering ps) k n sc rest (run_all (checking ps) (at tables names k n))

      go : others → (r : Reported) → StmtReported tables names p.numbered known next scope (defining ps ++ rest) r → RunReported (numbering (p ∷ ps)) known next scope rest (r >>= λ a. run_all (checking ps) a.1 >>= λ b. Ok (a.0 ∷ b.0, b.1))
      go later (Err f) bad = λ ss is after well_formed distinct.
          let q = turn_is p.numbered (numbering ps) (numbers_of known) next ss is in
          let o = order_is q.0 q.1 ss scope after q.4 well_formed in
          bad q.0 q.2 o.0 o.1 distinct
      go later (Ok a) g = following p.numbered (numbering ps) known next scope rest (run_all (checking ps) a.1) (defining ps ++ rest) a.0 a.1 g
          (subst (λ st. RunReported (numbering ps) (known ++ g.extra) (next + p.numbered.count) g.after rest (run_all (checking ps) st)) (sym g.state)
          (later (known ++ g.extra) (next + p.numbered.count) g.after (record {
            fit = g.fit;
            distinct = subst (λ k. IsDistinct bytes_eq (take k names)) (sym (length-append known g.extra)) g.distinct;
            left = subst (λ k. drop k names ≡ defining ps ++ rest) (sym (length-append known g.extra)) g.left;
          })))

  -- ---- blocks

  pub record BlockGood (ns : List Numbered) (known : List (Option Variable)) (next : ℕ) (scope : Scope) (rest : List (List ℕ)) (ss : List Stmt) (st : ScopeState) : Type 0 where
    pub state : st ≡ at tables names (known ++ replicate (all_names ns) None) (next + variables_in ns)
    pub is : in_turn ns (numbers_of known) next ≡ Some ss
    pub after : Scope
    pub well_formed : in_order (map (check tables) ss) scope ≡ Some after
    pub defines : (y : ℕ) → any_defines (map (check tables) ss) y ≡ true → (next ≤ y) × (y < next + variables_in ns)
    pub distinct : IsDistinct bytes_eq (take (length known + all_names ns) names)
    pub left : drop (length known + all_names ns) names ≡ rest

  abbrev pub BlockReported : List Numbered → List (Option Variable) → ℕ → Scope → List (List ℕ) → Reported-all → Type 0
  BlockReported ns known next scope rest (Ok b) = BlockGood ns known next scope rest b.0 b.1
  BlockReported ns known next scope rest (Err f) = RunBad (in_turn ns (numbers_of known) next) scope

  pub left_is : (known extra : List (Option Variable)) (k next : ℕ) → length extra ≡ k → left_at (length known) (at tables names (known ++ extra) next) ≡ at tables names (known ++ replicate k None) next
  left_is known extra k next long =
      let count : length (known ++ extra) - length known ≡ k = omega (arith, length-append known extra, long) in
      λ i. at tables names (take-append_seam known extra i ++ replicate (count i) None) next

  pub block_reported : (ps : List Piece) → AllHold ps → (known : List (Option Variable)) (next : ℕ) (scope : Scope) (rest : List (List ℕ)) → Start tables names known next scope (defining ps) rest
      → BlockReported (numbering ps) known next scope rest (block (checking ps) (at tables names known next))
  block_reported ps all known next scope rest start = go (run_all (checking ps) (at tables names known next)) (run_reported ps all known next scope rest start)
    where
      go : (r : Reported-all) → RunReported (numbering ps) known next scope rest r → BlockReported (numbering ps) known next scope rest (r >>= λ b. Ok (b.0, left_at (length known) b.1))
      go (Err f) bad = bad
      go (Ok b) g = record {
        state = ap (λ st. left_at (length known) st) g.state ∙ left_is known g.extra (all_names (numbering ps)) (next + variables_in (numbering ps)) g.many;
        is = g.is;
        after = g.after;
        well_formed = g.well_formed;
        defines = g.defines;
        distinct = subst (λ k. IsDistinct bytes_eq (take (length known + k) names)) g.many g.distinct;
        left = subst (λ k. drop (length known + k) names ≡ rest) g.many g.left;
      }

  -- ---- conditionals

  pub if_is : (test : Option Expr) (first : Option (List Stmt)) (second : Option (List Stmt)) (next : ℕ) (s : Stmt) → option_and_then (λ e. option_and_then (λ a. option_map (λ b. If next e a b) second) first) test ≡ Some s
      → (e : Expr) × (a b : List Stmt) × (test ≡ Some e) × (first ≡ Some a) × (second ≡ Some b) × (If next e a b ≡ s)
  if_is None first second next s h = absurd (none_is h)
  if_is (Some e) None second next s h = absurd (none_is h)
  if_is (Some e) (Some a) None next s h = absurd (none_is h)
  if_is (Some e) (Some a) (Some b) next s h = (e, a, b, refl, refl, refl, some_is h)

  inner : Scope → ℕ → Scope
  inner scope next = with_var scope next BoolTy

  -- a well-formed conditional has a bool and well-formed blocks
  if_well_formed : (scope : Scope) (next : ℕ) (e : Expr) (a b : List Stmt) (s : Stmt) (after : Scope) → If next e a b ≡ s → scope_after tables s scope ≡ Some after
      → (is_bool (type_in scope e) ≡ true) × (f g : Scope) × (in_order (map (check tables) a) (with_var scope next BoolTy) ≡ Some f) × (in_order (map (check tables) b) (with_var scope next BoolTy) ≡ Some g)
  if_well_formed scope next e a b s after same well_formed =
      let so = so_true _ _ after (sym (after_is tables names _ _ scope (at-If Check (check_step tables) _ next e a b refl)) ∙ ap (λ z. scope_after tables z scope) same ∙ well_formed) in
      let one = and_true _ _ so in
      let two = and_true _ _ one.0 in
      let f = some_of (in_order (map (check tables) a) (with_var scope next BoolTy)) two.1 in
      let g = some_of (in_order (map (check tables) b) (with_var scope next BoolTy)) one.1 in
      (two.0, f.0, g.0, f.1, g.1)

  module _ (first second : List Piece) (all_first : AllHold first) (all_second : AllHold second) (test : Sight → Option Expr) (known : List (Option Variable)) (next : ℕ) (scope : Scope) (rest : List (List ℕ)) (start : Start tables names known next scope (defining first ++ defining second) rest) where
    abbrev k1 : ℕ
    k1 = all_names (numbering first)

    abbrev k2 : ℕ
    k2 = all_names (numbering second)

    abbrev c1 : ℕ
    c1 = variables_in (numbering first)

    abbrev c2 : ℕ
    c2 = variables_in (numbering second)

    abbrev whole : Numbered
    whole = branching test (numbering first) (numbering second)

    abbrev IfReported : Reported → Type 0
    IfReported r = StmtReported tables names whole known next scope rest r

    sight_is : numbers_of (known ++ replicate k1 None) ≡ numbers_of known ++ unseen k1
    sight_is = numbers-append known (replicate k1 None) ∙ ap (λ zs. numbers_of known ++ zs) (numbers-unseen k1)

    if_good : (e : Expr) (a b : List Stmt) (st1 st2 : ScopeState) → Passed scope is_bool (test (numbers_of known)) (Ok e)
        → BlockGood (numbering first) known (next + 1) (with_var scope next BoolTy) (defining second ++ rest) a st1
        → BlockGood (numbering second) (known ++ replicate k1 None) (next + 1 + c1) (with_var scope next BoolTy) rest b st2
        → Good tables names whole known next scope rest (If next e a b) st2
    if_good e a b st1 st2 p f g = record {
      extra = replicate k1 None ++ replicate k2 None;
      state = g.state ∙ λ i. at tables names (append_assoc known (replicate k1 None) (replicate k2 None) i) (counted i);
      numbers = numbers-append (replicate k1 None) (replicate k2 None) ∙ (λ i. numbers-unseen k1 i ++ numbers-unseen k2 i);
      many = length-append (replicate k1 None) (replicate k2 None) ∙ (λ i. length-replicate {A = Option Variable} k1 None i + length-replicate {A = Option Variable} k2 None i);
      is = ap (λ z. option_and_then (λ e. option_and_then (λ a. option_map (λ b. If next e a b) (in_turn (numbering second) (numbers_of known ++ unseen k1) (next + 1 + c1))) (in_turn (numbering first) (numbers_of known) (next + 1))) z) p.0
          ∙ ap (λ z. option_and_then (λ a. option_map (λ b. If next e a b) (in_turn (numbering second) (numbers_of known ++ unseen k1) (next + 1 + c1))) z) f.is
          ∙ ap (λ z. option_map (λ b. If next e a b) z) (ap (λ zs. in_turn (numbering second) zs (next + 1 + c1)) (sym sight_is) ∙ g.is);
      after = after_both;
      well_formed = after_is tables names _ _ scope the_form ∙ so_some _ _ (both_true _ _ (both_true _ _ p.1 (ap (λ z. is_some z) f.well_formed)) (ap (λ z. is_some z) g.well_formed));
      fit = fits;
      defines = λ y h. defined_by y (or_true _ _ (sym (defines_is tables names _ _ y the_form) ∙ h));
      distinct = subst (λ k. IsDistinct bytes_eq (take k names)) long g.distinct;
      left = subst (λ k. drop k names ≡ rest) long g.left;
    }
      where
        the_form : check tables (If next e a b) ≡ check_step tables (form.If next e (map (check tables) a) (map (check tables) b))
        the_form = at-If Check (check_step tables) (If next e a b) next e a b refl

        after_both : Scope
        after_both = without (any_defines (map (check tables) a)) (without (any_defines (map (check tables) b)) (with_var scope next BoolTy))

        counted : next + 1 + c1 + c2 ≡ next + (1 + (c1 + c2))
        counted = omega arith

        long : length (known ++ replicate k1 None) + k2 ≡ length known + length (replicate {A = Option Variable} k1 None ++ replicate k2 None)
        long = omega (arith, length-append known (replicate k1 None), length-append {A = Option Variable} (replicate k1 None) (replicate k2 None), length-replicate {A = Option Variable} k1 None, length-replicate {A = Option Variable} k2 None)

        defined_by : (y : ℕ) → ((y == next) ≡ true) ⊎ ((any_defines (map (check tables) a) y || any_defines (map (check tables) b) y) ≡ true) → (next ≤ y) × (y < next + (1 + (c1 + c2)))
        defined_by y (inl h) = let q = equal y next h in (omega (arith, q), omega (arith, q))
        defined_by y (inr h) = go (or_true _ _ h)
          where
            go : (any_defines (map (check tables) a) y ≡ true) ⊎ (any_defines (map (check tables) b) y ≡ true) → (next ≤ y) × (y < next + (1 + (c1 + c2)))
            go (inl h) = let q = f.defines y h in (omega (arith, q.0), omega (arith, q.1))
            go (inr h) = let q = g.defines y h in (omega (arith, q.0), omega (arith, q.1))

        -- a variable before the conditional is none of its blocks
        stays : (y : ℕ) → y < next → after_both y ≡ scope y
        stays y lt = first_no (any_defines (map (check tables) a) y) (λ h. (f.defines y h).0)
          where
            last : (if y == next then Some BoolTy else scope y) ≡ scope y
            last = ap (λ b. if b then Some BoolTy else scope y) (differs y next lt)

            second_no : (c : Bool) → (c ≡ true → next + 1 + c1 ≤ y) → (if c then None else (if y == next then Some BoolTy else scope y)) ≡ scope y
            second_no true h = let never : ⊥ = omega (arith, h refl) in absurd never
            second_no false h = last

            first_no : (c : Bool) → (c ≡ true → next + 1 ≤ y) → (if c then None else (if any_defines (map (check tables) b) y then None else (if y == next then Some BoolTy else scope y))) ≡ scope y
            first_no true h = let never : ⊥ = omega (arith, h refl) in absurd never
            first_no false h = second_no (any_defines (map (check tables) b) y) (λ h. (g.defines y h).0)

        fits : Fit (known ++ (replicate k1 None ++ replicate k2 None)) (next + (1 + (c1 + c2))) after_both
        fits i v h = go (in_either known (replicate k1 None ++ replicate k2 None) i (Some v) h)
          where
            none : (j : ℕ) → (slice_get (replicate k1 None) j ≡ Some (Some v)) ⊎ ((l : ℕ) × (slice_get (replicate k2 None) l ≡ Some (Some v))) → ⊥
            none j (inl h) = unseen_none k1 j v h
            none j (inr h) = unseen_none k2 h.0 v h.1

            go : (slice_get known i ≡ Some (Some v)) ⊎ ((j : ℕ) × (slice_get (replicate k1 None ++ replicate k2 None) j ≡ Some (Some v))) → (v.number < next + (1 + (c1 + c2))) × (after_both v.number ≡ Some v.ty)
            go (inl h) = let q = start.fit i v h in (omega (arith, q.0), stays v.number q.0 ∙ q.1)
            go (inr h) = absurd (none h.0 (in_either (replicate k1 None) (replicate k2 None) h.0 (Some v) h.1))

    second_reported : (e : Expr) → Passed scope is_bool (test (numbers_of known)) (Ok e) → (a : List Stmt) (st1 : ScopeState) → BlockGood (numbering first) known (next + 1) (with_var scope next BoolTy) (defining second ++ rest) a st1
        → (r : Reported-all) → BlockReported (numbering second) (known ++ replicate k1 None) (next + 1 + c1) (with_var scope next BoolTy) rest r → IfReported (r >>= λ b. Ok (If next e a b.0, b.1))
    second_reported e p a st1 f (Ok b) g = if_good e a b.0 st1 b.1 p f g
    second_reported e p a st1 f (Err x) bad = λ s is after well_formed distinct.
        let h = if_is (test (numbers_of known)) (in_turn (numbering first) (numbers_of known) (next + 1)) (in_turn (numbering second) (numbers_of known ++ unseen k1) (next + 1 + c1)) next s is in
        let w = if_well_formed scope next h.0 h.1 h.2 s after h.6 well_formed in
        bad h.2 (ap (λ zs. in_turn (numbering second) zs (next + 1 + c1)) sight_is ∙ h.5) w.2 w.4 distinct

    first_reported : (e : Expr) → Passed scope is_bool (test (numbers_of known)) (Ok e) → (r : Reported-all) → BlockReported (numbering first) known (next + 1) (with_var scope next BoolTy) (defining second ++ rest) r
        → IfReported (r >>= λ a. block (checking second) a.1 >>= λ b. Ok (If next e a.0 b.0, b.1))
    first_reported e p (Err x) bad = λ s is after well_formed distinct.
        let h = if_is (test (numbers_of known)) (in_turn (numbering first) (numbers_of known) (next + 1)) (in_turn (numbering second) (numbers_of known ++ unseen k1) (next + 1 + c1)) next s is in
        let w = if_well_formed scope next h.0 h.1 h.2 s after h.6 well_formed in
        bad h.1 h.4 w.1 w.3 distinct
    first_reported e p (Ok a) f =
        let long : length (known ++ replicate k1 None) ≡ length known + k1 = omega (arith, length-append known (replicate k1 None), length-replicate {A = Option Variable} k1 None) in
        second_reported e p a.0 a.1 f (block (checking second) a.1)
        (subst (λ st. BlockReported (numbering second) (known ++ replicate k1 None) (next + 1 + c1) (with_var scope next BoolTy) rest (block (checking second) st)) (sym f.state)
        (block_reported second all_second (known ++ replicate k1 None) (next + 1 + c1) (with_var scope next BoolTy) rest (record {
          fit = fit_unseen known (next + 1) (next + 1 + c1) k1 (with_var scope next BoolTy) (omega arith) (fit_hidden known next scope BoolTy start.fit);
          distinct = subst (λ k. IsDistinct bytes_eq (take k names)) (sym long) f.distinct;
          left = subst (λ k. drop k names ≡ defining second ++ rest) (sym long) f.left;
        })))

    pub if_reported : (r : Result Expr TypeFault) → Passed scope is_bool (test (numbers_of known)) r
        → IfReported (r >>= λ e. block (checking first) (at tables names known (next + 1)) >>= λ a. block (checking second) a.1 >>= λ b. Ok (If next e a.0 b.0, b.1))
    if_reported (Err x) p = λ s is after well_formed distinct.
        let h = if_is (test (numbers_of known)) (in_turn (numbering first) (numbers_of known) (next + 1)) (in_turn (numbering second) (numbers_of known ++ unseen k1) (next + 1 + c1)) next s is in
        let w = if_well_formed scope next h.0 h.1 h.2 s after h.6 well_formed in
        conflict _ w.0 (p h.0 h.3)
    if_reported (Ok e) p = first_reported e p _ (block_reported first all_first known (next + 1) (with_var scope next BoolTy) (defining second ++ rest) (record {
      fit = fit_hidden known next scope BoolTy start.fit;
      distinct = start.distinct;
      left = start.left ∙ append_assoc (defining first) (defining second) rest;
    }))
