-- What checking a loop says.
use Rattle.std.proofs.Common.{◌≡◌, ◌<◌, ◌≤◌, ℕ, suc, ℤ, ◌+◌, Bool, true, false, ◌||◌, ◌==◌, List, [], ◌∷◌, ◌++◌, length, take, drop, get_or, replicate, map, Option, Some, None, Result, Ok, Err, refl, sym, ap, subst, ◌∙◌, arith, append_assoc, inl, inr, ◌⊎◌, length-append, is_some}
use Rattle.std.specs.Prelude.{slice_get, if◌then◌else◌, bytes_eq}
use Rattle.std.specs.Option.{option_map}
use Rattle.std.specs.List.{IsDistinct}
use Rattle.std.proofs.lemmas.List.{length-replicate}
use Rattle.pac_value.specs.declared.values.Ty.TheVariants.{Int as IntTy}
use Rattle.pac_value.specs.Expressions.{◌>>=◌}
use Rattle.pac_syntax.specs.declared.tree.NameNode.{NameNode}
use Rattle.pac_types.specs.declared.type_error.TypeFault.{TypeFault}
use Rattle.pac_types.specs.declared.type_error.TypeFaultKind.TheVariants.{Twice}
use Rattle.pac_types.specs.declared.checker.scope.Variable.{Variable}
use Rattle.pac_types.specs.declared.table.Table.{Table}
use Rattle.pac_types.specs.declared.statement.Stmt.{Stmt, For}
use Rattle.pac_types.specs.declared.statement.Stmt.TheOpen as form
use Rattle.pac_types.specs.Numbering.{number_of, Numbered, all_names, variables_in, in_turn, looping}
use Rattle.pac_types.specs.WellFormed.{check, check_step, scope_after, in_order, any_defines, without}
use Rattle.pac_value.specs.Scopes.{Scope, with_var}
use Rattle.pac_types.specs.Faults.{is_before}
use Rattle.pac_types.specs.Checking.{ScopeState, Reported, once, unless, left_at, block}
use Rattle.pac_types.proofs.StmtForms.{at-For}
use Rattle.pac_types.proofs.NameLemmas.{number-take, distinct-more, not_yet}
use Rattle.pac_types.proofs.ExprLemmas.{numbers_of, Fit, none_is}
use Rattle.pac_types.proofs.ScopeLemmas.{Within, with_var-within}
use Rattle.pac_types.proofs.WellFormedLemmas.{is_some-within, scope_after_all-within}
use Rattle.pac_types.proofs.PartLemmas.{in_either, unseen_none, drop_first, numbers-append, numbers-unseen, map_is, some_of, so_true, so_some, or_true, differs, equal, fit_push}
use Rattle.pac_types.proofs.StmtLemmas.{at, Start, Good, StmtReported, not_before, is_there, after_is, defines_is}
use Rattle.pac_types.proofs.BlockLemmas.{Piece, numbering, checking, defining, AllHold, BlockGood, BlockReported, left_is, block_reported}

-- a scope without some variables says no more
without_less : (some : ℕ → Bool) (scope : Scope) → Within (without some scope) scope
without_less some scope y ty h = by (some y) h
  where
    by : (b : Bool) → (if b then None else scope y) ≡ Some ty → scope y ≡ Some ty
    by true e = absurd (none_is e)
    by false e = e

module _ (tables : List Table) (names : List (List ℕ)) where
  abbrev in_block : Scope → ℕ → List Stmt → Scope
  in_block scope next a = with_var (without (any_defines (map (check tables) a)) scope) next IntTy

  -- a well-formed loop has a block that is well-formed where its variable is an int
  loop_well_formed : (scope : Scope) (next : ℕ) (from to : ℤ) (a : List Stmt) (s : Stmt) (after : Scope) → For next from to a ≡ s → scope_after tables s scope ≡ Some after
      → (f : Scope) × (in_order (map (check tables) a) (with_var scope next IntTy) ≡ Some f)
  loop_well_formed scope next from to a s after same well_formed =
      let so = so_true _ _ after (sym (after_is tables names _ _ scope (at-For _ (check_step tables) _ next from to a refl)) ∙ ap (λ z. scope_after tables z scope) same ∙ well_formed) in
      let within = scope_after_all-within tables a (in_block scope next a) (with_var scope next IntTy) (with_var-within _ _ next IntTy (without_less (any_defines (map (check tables) a)) scope)) in
      some_of (in_order (map (check tables) a) (with_var scope next IntTy)) (is_some-within (in_order (map (check tables) a) (in_block scope next a)) _ within so)

  module _ (body : List Piece) (all_body : AllHold tables names body) (name : NameNode) (from to : ℤ) (known : List (Option Variable)) (next : ℕ) (scope : Scope) (rest : List (List ℕ)) (start : Start tables names known next scope (name.name ∷ defining body) rest) where
    abbrev k : ℕ
    k = all_names (numbering body)

    abbrev c : ℕ
    c = variables_in (numbering body)

    abbrev whole : Numbered
    whole = looping from to (numbering body)

    abbrev its : Option Variable
    its = Some (record { number = next; ty = IntTy })

    abbrev inner : List (Option Variable)
    inner = known ++ its ∷ []

    abbrev ForReported : Reported → Type 0
    ForReported r = StmtReported tables names whole known next scope rest r

    -- a block as it is reported where these variables are visible
    abbrev Blocks : Result (List Stmt × ScopeState) TypeFault → Type 0
    Blocks r = (f : Scope) → Fit inner (next + 1) f → BlockReported tables names (numbering body) inner (next + 1) f rest r

    first : (length known < length names) × (name.name ≡ get_or names (length known) name.name) × (drop (length known + 1) names ≡ defining body ++ rest)
    first = drop_first names (length known) name.name (defining body ++ rest) start.left

    long : length known + 1 ≡ length inner
    long = sym (length-append known (its ∷ []))

    sight_is : numbers_of inner ≡ numbers_of known ++ Some next ∷ []
    sight_is = numbers-append known (its ∷ [])

    for_good : (a : List Stmt) (st : ScopeState) → Blocks (Ok (a, st)) → Good tables names whole known next scope rest (For next from to a) (left_at (length known) st)
    for_good a st each = record {
      extra = None ∷ replicate k None;
      state = ap (λ z. left_at (length known) z) (g.state ∙ λ i. at tables names (append_assoc known (its ∷ []) (replicate k None) i) (next + 1 + c))
          ∙ left_is tables names known (its ∷ replicate k None) (suc k) (next + 1 + c) (ap suc (length-replicate {A = Option Variable} k None)) ∙ λ i. at tables names (known ++ (None ∷ replicate k None)) (counted i);
      numbers = ap (λ zs. None ∷ zs) (numbers-unseen k);
      many = ap suc (length-replicate {A = Option Variable} k None);
      is = ap (λ z. option_map (λ b. For next from to b) z) (ap (λ zs. in_turn (numbering body) zs (next + 1)) (sym sight_is) ∙ g.is);
      after = after_it;
      well_formed = after_is tables names _ _ scope the_form ∙ so_some _ _ (ap (λ z. is_some z) (each (in_block scope next a) fit_block).well_formed);
      fit = fits;
      defines = λ y h. defined_by y (or_true _ _ (sym (defines_is tables names _ _ y the_form) ∙ h));
      distinct = subst (λ n. IsDistinct bytes_eq (take n names)) longer g.distinct;
      left = subst (λ n. drop n names ≡ rest) longer g.left;
    }
      where
        g : BlockGood tables names (numbering body) inner (next + 1) (with_var scope next IntTy) rest a st
        g = each (with_var scope next IntTy) (fit_push known next scope IntTy start.fit)

        the_form : check tables (For next from to a) ≡ check_step tables (form.For next from to (map (check tables) a))
        the_form = at-For _ (check_step tables) (For next from to a) next from to a refl

        after_it : Scope
        after_it = without (λ y. y == next || any_defines (map (check tables) a) y) scope

        counted : next + 1 + c ≡ next + (1 + c)
        counted = omega arith

        longer : length inner + k ≡ length known + length (None ∷ replicate {A = Option Variable} k None)
        longer = omega (arith, long, length-replicate {A = Option Variable} k None)

        -- a variable before the loop is none of its block's
        not_in : (y : ℕ) → y < next → any_defines (map (check tables) a) y ≡ false
        not_in y lt = by (any_defines (map (check tables) a) y) refl
          where
            by : (b : Bool) → any_defines (map (check tables) a) y ≡ b → b ≡ false
            by true e = let never : ⊥ = omega (arith, lt, (g.defines y e).0) in absurd never
            by false e = refl

        before : (y : ℕ) → y < next → without (any_defines (map (check tables) a)) scope y ≡ scope y
        before y lt = ap (λ b. if b then None else scope y) (not_in y lt)

        fit_block : Fit inner (next + 1) (in_block scope next a)
        fit_block = fit_push known next (without (any_defines (map (check tables) a)) scope) IntTy (λ i v h. let p = start.fit i v h in (p.0, before v.number p.0 ∙ p.1))

        defined_by : (y : ℕ) → ((y == next) ≡ true) ⊎ (any_defines (map (check tables) a) y ≡ true) → (next ≤ y) × (y < next + (1 + c))
        defined_by y (inl h) = let q = equal y next h in (omega (arith, q), omega (arith, q))
        defined_by y (inr h) = let q = g.defines y h in (omega (arith, q.0), omega (arith, q.1))

        stays : (y : ℕ) → y < next → after_it y ≡ scope y
        stays y lt = ap (λ b. if b || any_defines (map (check tables) a) y then None else scope y) (differs y next lt) ∙ before y lt

        fits : Fit (known ++ (None ∷ replicate k None)) (next + (1 + c)) after_it
        fits i v h = go (in_either known (None ∷ replicate k None) i (Some v) h)
          where
            go : (slice_get known i ≡ Some (Some v)) ⊎ ((j : ℕ) × (slice_get (None ∷ replicate k None) j ≡ Some (Some v))) → (v.number < next + (1 + c)) × (after_it v.number ≡ Some v.ty)
            go (inl h) = let q = start.fit i v h in (omega (arith, q.0), stays v.number q.0 ∙ q.1)
            go (inr h) = absurd (unseen_none (suc k) h.0 v h.1)

    block_then : (r : Result (List Stmt × ScopeState) TypeFault) → Blocks r → ForReported (r >>= λ b. Ok (For next from to b.0, left_at (length known) b.1))
    block_then (Ok b) each = for_good b.0 b.1 each
    block_then (Err f) each = λ s is after well_formed distinct.
        let h = map_is (λ b. For next from to b) (in_turn (numbering body) (numbers_of known ++ Some next ∷ []) (next + 1)) s is in
        let w = loop_well_formed scope next from to h.0 s after h.2 well_formed in
        each (with_var scope next IntTy) (fit_push known next scope IntTy start.fit) h.0 (ap (λ zs. in_turn (numbering body) zs (next + 1)) sight_is ∙ h.1) w.0 w.1 distinct

    pub for_reported : ForReported (once names (length known) name >>= λ _. block (checking body) (at tables names inner (next + 1)) >>= λ b. Ok (For next from to b.0, left_at (length known) b.1))
    for_reported = go (is_before (number_of names name.name) (length known)) refl
      where
        blocks : is_before (number_of names name.name) (length known) ≡ false → Blocks (block (checking body) (at tables names inner (next + 1)))
        blocks none f fit = block_reported tables names body all_body inner (next + 1) f rest (record {
          fit = fit;
          distinct = subst (λ n. IsDistinct bytes_eq (take n names)) long (distinct-more names (length known) name.name first.0 first.1 start.distinct (number-take names (length known) name.name ∙ not_before tables names (number_of names name.name) (length known) none));
          left = subst (λ n. drop n names ≡ defining body ++ rest) long first.2;
        })

        go : (b : Bool) → is_before (number_of names name.name) (length known) ≡ b
            → ForReported (unless {A = Unit {0}} b tt name.at Twice >>= λ _. block (checking body) (at tables names inner (next + 1)) >>= λ b. Ok (For next from to b.0, left_at (length known) b.1))
        go true e = λ s is after well_formed distinct. is_there tables names (number_of names name.name) (length known) e (sym (number-take names (length known) name.name) ∙ not_yet names (length known) name.name first.0 first.1 distinct)
        go false e = block_then (block (checking body) (at tables names inner (next + 1))) (blocks e)
