-- Well-formed programs find what they use; and so do their parts in blocks, where the inputs are those of the whole program.
use Rattle.std.proofs.Common.{◌≡◌, ℕ, zero, suc, ◌+◌, ◌<◌, ◌≤◌, ◌==◌, Bool, true, false, cond, List, [], ◌∷◌, ◌++◌, map, length, take, refl, sym, ap, ◌∙◌, subst, Some, None, ◌⊎◌, inl, inr, ⊎_elim, arith}
use Rattle.std.specs.Prelude.{slice_get}
use Rattle.std.specs.Option.{option_map}
use Rattle.std.specs.FinMap.{get, insert, empty, get-empty, get-insert}
use Rattle.std.specs.Cmp.{nat_cmp_total, unsigned_ties}
use Rattle.std.specs.Ordering.{nat_cmp}
use Rattle.std.proofs.lemmas.Option.{slice_get-map, same_Some}
use Rattle.std.proofs.lemmas.List.{length-map}
use Rattle.pac_value.specs.declared.values.Ty.{Ty}
use Rattle.pac_value.specs.declared.values.Value.{Value}
use Rattle.pac_value.specs.Values.{type_of}
use Rattle.pac_value.specs.Expressions.{Values}
use Rattle.pac_value.specs.State.{Tables}
use Rattle.pac_ops.specs.declared.shapes.TableTypes.{TableTypes}
use Rattle.pac_ops.specs.declared.program.FlatOp.{FlatOp}
use Rattle.pac_ops.specs.declared.program.Program.{Program}
use Rattle.pac_ops.specs.Shapes.{RowsFit}
use Rattle.pac_ops.specs.Programs.{IsPrefixOf, IsWellFormedProgram, IsDefinedBefore}
use Rattle.pac_ops.specs.Uses.{op_uses, defined_variable, Defines}
use Rattle.pac_ops.specs.Operations.{State, opening, with_values}
use Rattle.pac_ops.specs.Flat.{all_hold, flat_done, flat_meaning}
use Rattle.pac_base.proofs.ItemLemmas.{there, item, item_at}
use Rattle.pac_base.specs.Members.{Mem}
use Rattle.pac_ops.specs.Effects.{NumberedOp, numbered_from, numbered_meaning, is_var, defined_in}
use Rattle.pac_ops.specs.StaysFit.{IsFit, FindsUses, StaysFitAt, StaysFit}
use Rattle.pac_base.proofs.TestLemmas.{eq_self, same_number, equal_number, any_mem, any_gives, unlike, not_false}
use Rattle.pac_ops.proofs.DefinedLemmas.{is_var-same, undefined_meaning, var-named}
use Rattle.pac_ops.proofs.RecordLemmas.{number_at}
use Rattle.pac_ops.proofs.StayLemmas.{Typable, Follows, Follow, stay_fit, all_given}

-- ---- arguments

insert-at : (env : Values) (x : ℕ) (v : Value) (y : ℕ) → get (insert env x v) y ≡ cond (y == x) (Some v) (get env y)
insert-at env x v y = get-insert nat_cmp_total env x v y ∙ ap (λ b. cond b (Some v) (get env y)) (sym (unsigned_ties y x))

below_stays : (args : List Value) (n : ℕ) (env : Values) (x : ℕ) → x < n → get (with_values n args env) x ≡ get env x
below_stays [] n env x lt = refl
below_stays (v ∷ vs) n env x lt =
    below_stays vs (n + 1) (insert env n v) x (omega (arith, lt)) ∙ insert-at env n v x
    ∙ ap (λ b. cond b (Some v) (get env x)) (unlike (x == n) (λ e. let same : x ≡ n = same_number x n e in omega (arith, lt, same)))

pub arg_there : (args : List Value) (n : ℕ) (env : Values) (k : ℕ) (v : Value) → slice_get args k ≡ Some v → get (with_values n args env) (n + k) ≡ Some v
arg_there [] n env k v e = absurd cc
arg_there (a ∷ as_) n env zero v e =
    let zero_ : n + 0 ≡ n = omega arith in
    ap (get (with_values (n + 1) as_ (insert env n a))) zero_ ∙ below_stays as_ (n + 1) (insert env n a) n (omega arith) ∙ insert-at env n a n
    ∙ ap (λ b. cond b (Some a) (get env n)) (eq_self n) ∙ e
arg_there (a ∷ as_) n env (suc k) v e =
    let moved : n + suc k ≡ n + 1 + k = omega arith in
    ap (get (with_values (n + 1) as_ (insert env n a))) moved ∙ arg_there as_ (n + 1) (insert env n a) k v e

arg_or : (args : List Value) (n : ℕ) (env : Values) (x : ℕ) (v : Value) → get (with_values n args env) x ≡ Some v → (get env x ≡ Some v) ⊎ ((k : ℕ) × (x ≡ n + k) × (slice_get args k ≡ Some v))
arg_or [] n env x v e = inl e
arg_or (a ∷ as_) n env x v e = go (arg_or as_ (n + 1) (insert env n a) x v e)
  where
    pick : (b : Bool) → (x == n) ≡ b → cond b (Some a) (get env x) ≡ Some v → (get env x ≡ Some v) ⊎ ((k : ℕ) × (x ≡ n + k) × (slice_get (a ∷ as_) k ≡ Some v))
    pick true t h = inr (0, (let same : x ≡ n = same_number x n t in omega (arith, same)), h)
    pick false t h = inl h

    go : (get (insert env n a) x ≡ Some v) ⊎ ((k : ℕ) × (x ≡ n + 1 + k) × (slice_get as_ k ≡ Some v)) → (get env x ≡ Some v) ⊎ ((k : ℕ) × (x ≡ n + k) × (slice_get (a ∷ as_) k ≡ Some v))
    go (inl h) = pick (x == n) refl (sym (insert-at env n a x) ∙ h)
    go (inr (k, same, h)) = inr (suc k, omega (arith, same), h)

prefix_get : {A : Type 0} (xs ys : List A) (k : ℕ) (x : A) → slice_get xs k ≡ Some x → slice_get (xs ++ ys) k ≡ Some x
prefix_get [] ys k x e = absurd cc
prefix_get (z ∷ zs) ys zero x e = e
prefix_get (z ∷ zs) ys (suc k) x e = prefix_get zs ys k x e

pub mem_number : (n : ℕ) (ops : List FlatOp) (k : ℕ) (op : FlatOp) → slice_get ops k ≡ Some op → (m : ℕ) → m ≡ n + k → Mem (m, op) (numbered_from n ops)
unfolding numbered_from
mem_number n [] k op e m same = absurd cc
mem_number n (o ∷ os) zero op e m same = inl (λ i. ((let h : m ≡ n = omega (arith, same) in h) i, sym (same_Some o op e) i))
mem_number n (o ∷ os) (suc k) op e m same = inr (mem_number (n + 1) os k op e m (omega (arith, same)))

module _ (tables : List TableTypes) (program : Program) (well_formed : IsWellFormedProgram tables program) where
  -- a variable that an operation defines is defined before by none, and is no parameter
  pub not_used : (n m x : ℕ) (op i : FlatOp) → slice_get program.ops n ≡ Some op → defined_variable op.kind ≡ Some x → slice_get program.ops m ≡ Some i → m ≤ n → op_uses x i ≡ false
  not_used n m x op i at d ati le = unlike (op_uses x i) (λ u. go (well_formed.used m x i ati u))
    where
      defines : Defines program.ops n x
      defines = there program.ops n op (λ (o : FlatOp). defined_variable o.kind ≡ Some x) at d

      go : (x < length program.params) ⊎ IsDefinedBefore program.ops m i x → ⊥
      go (inl lt) = let after : length program.params ≤ x = well_formed.after n x defines in omega (arith, lt, after)
      go (inr (j, lt, found)) =
          let f = item program.ops j (λ (o : FlatOp). (defined_variable o.kind ≡ Some x) × IsPrefixOf o.conds i.conds) found in
          let same : j ≡ n = well_formed.once j n x (there program.ops j f.0 (λ (o : FlatOp). defined_variable o.kind ≡ Some x) f.1 f.2.0) defines in
          omega (arith, lt, le, same)

  pub can : (n : ℕ) (op : FlatOp) → slice_get program.ops n ≡ Some op → Typable tables program.vars (n, op)
  can n op at = record { typed = well_formed.typed n op at; gives = λ x d. well_formed.given n x op at d }

  pub opening_typed : (args : List Value) → map type_of args ≡ program.params → (x : ℕ) (v : Value) → get (with_values 0 args empty) x ≡ Some v → slice_get program.vars x ≡ Some (type_of v)
  opening_typed args fits x v e = go (arg_or args 0 empty x v e)
    where
      go : (get {R = nat_cmp} empty x ≡ Some v) ⊎ ((k : ℕ) × (x ≡ 0 + k) × (slice_get args k ≡ Some v)) → slice_get program.vars x ≡ Some (type_of v)
      go (inl h) = let wrong : None ≡ Some v = sym (get-empty nat_cmp x) ∙ h in absurd cc
      go (inr (k, same, h)) =
          let param : slice_get program.params k ≡ Some (type_of v) = ap (λ tys. slice_get tys k) (sym fits) ∙ slice_get-map type_of args k ∙ ap (option_map type_of) h in
          let is : x ≡ k = omega (arith, same) in
          ap (slice_get program.vars) is ∙ ap (λ tys. slice_get tys k) well_formed.params.1 ∙ prefix_get program.params well_formed.params.0 k (type_of v) param

  module _ (args : List Value) (fits : map type_of args ≡ program.params) where
    param_there : (x : ℕ) → x < length program.params → (v : Value) × (get (with_values 0 args empty) x ≡ Some v)
    param_there x lt =
        let count : length args ≡ length program.params = sym (length-map args type_of) ∙ ap (λ (tys : List Ty). length tys) fits in
        let v = item_at args x (omega (arith, lt, count)) in
        let same : 0 + x ≡ x = omega arith in
        (v.0, ap (get (with_values 0 args empty)) (sym same) ∙ arg_there args 0 empty x v.0 v.1)

    param_undefined : (x : ℕ) → x < length program.params → defined_in (numbered_from 0 program.ops) x ≡ false
    param_undefined x lt = unlike _ (λ e.
        let r = any_gives (λ (o : NumberedOp). is_var x (defined_variable o.1.kind)) (numbered_from 0 program.ops) e in
        let k = number_at 0 program.ops r.0 r.1 in
        let after : length program.params ≤ x = well_formed.after k.0 x (there program.ops k.0 r.0.1 (λ (o : FlatOp). defined_variable o.kind ≡ Some x) k.2 (var-named x (defined_variable r.0.1.kind) r.2)) in
        omega (arith, lt, after))

    inputs : (o : NumberedOp) (x : ℕ) → x < length program.params → (env : Values) → ((y : ℕ) → defined_in (numbered_from 0 program.ops) y ≡ false → get env y ≡ get (with_values 0 args empty) y) → all_hold env o.1.conds ≡ true → (v : Value) × (get env x ≡ Some v)
    inputs o x lt env elsewhere held = let v = param_there x lt in (v.0, elsewhere x (param_undefined x lt) ∙ v.1)

    -- before number n stand exactly the operations of lower numbers
    record Stands (n : ℕ) (before : List NumberedOp) : Type 0 where
      holds : (i : ℕ) (op : FlatOp) → slice_get program.ops i ≡ Some op → i < n → Mem (i, op) before
      only : (i : NumberedOp) → Mem i before → (slice_get program.ops i.0 ≡ Some i.1) × (i.0 < n)

    follow_from : (rest : List FlatOp) (n : ℕ) (before : List NumberedOp) → ((k : ℕ) (op : FlatOp) → slice_get rest k ≡ Some op → slice_get program.ops (n + k) ≡ Some op) → Stands n before
        → Follow tables program.vars (numbered_from 0 program.ops) (λ o x. x < length program.params) (with_values 0 args empty) inputs before (numbered_from n rest)
    unfolding numbered_from
    follow_from [] n before at stands = tt
    follow_from (op ∷ rest) n before at stands = (follows, follow_from rest (n + 1) ((n, op) ∷ before) (λ k o e. moved k o (at (suc k) o e)) more)
      where
        here : slice_get program.ops n ≡ Some op
        here = let zero_ : n ≡ n + 0 = omega arith in ap (slice_get program.ops) zero_ ∙ at 0 op refl

        moved : (k : ℕ) (o : FlatOp) → slice_get program.ops (n + suc k) ≡ Some o → slice_get program.ops (n + 1 + k) ≡ Some o
        moved k o e = let same : n + 1 + k ≡ n + suc k = omega arith in ap (slice_get program.ops) same ∙ e

        follows : Follows tables program.vars (numbered_from 0 program.ops) (λ o x. x < length program.params) (with_values 0 args empty) inputs before (n, op)
        follows = record {
          can = can n op here;
          uses = λ x u. ⊎_elim (λ lt. inl lt) (λ d.
              let f = item program.ops d.0 (λ (o : FlatOp). (defined_variable o.kind ≡ Some x) × IsPrefixOf o.conds op.conds) d.2 in
              inr ((d.0, f.0), stands.holds d.0 f.0 f.1 d.1, f.2.0, f.2.1)) (well_formed.used n x op here u);
          own = λ x d. not_used n n x op op here d here (omega arith);
          later = λ x d i m. let s = stands.only i m in not_used n i.0 x op i.1 here d s.0 (let lt : i.0 < n = s.1 in omega (arith, lt));
          listed = λ x d. any_mem (λ (o : NumberedOp). is_var x (defined_variable o.1.kind)) (n, op) (numbered_from 0 program.ops) (mem_number 0 program.ops n op here n (omega arith)) (is_var-same x (defined_variable op.kind) d);
        }

        more : Stands (n + 1) ((n, op) ∷ before)
        more = record { holds = held; only = own }
          where
            held : (i : ℕ) (o : FlatOp) → slice_get program.ops i ≡ Some o → i < n + 1 → Mem (i, o) ((n, op) ∷ before)
            held i o e lt = go (i == n) refl
              where
                go : (b : Bool) → (i == n) ≡ b → (◌≡◌ {A = NumberedOp} (i, o) (n, op)) ⊎ Mem (i, o) before
                go true t = let same : i ≡ n = same_number i n t in inl (λ j. (same j, same_Some o op (sym e ∙ ap (slice_get program.ops) same ∙ here) j))
                go false t = inr (stands.holds i o e (let differ : i ≡ n → ⊥ = λ h. not_false (i == n) t (equal_number i n h) in grind (arith, lt, differ)))

            own : (i : NumberedOp) → Mem i ((n, op) ∷ before) → (slice_get program.ops i.0 ≡ Some i.1) × (i.0 < n + 1)
            own i (inl e) = (subst (λ (z : NumberedOp). slice_get program.ops z.0 ≡ Some z.1) (sym e) here, (let same : i.0 ≡ n = ap (λ (z : NumberedOp). z.0) e in omega (arith, same)))
            own i (inr m) = let s = stands.only i m in (s.0, (let lt : i.0 < n = s.1 in omega (arith, lt)))

    whole_follows : Follow tables program.vars (numbered_from 0 program.ops) (λ o x. x < length program.params) (with_values 0 args empty) inputs [] (numbered_from 0 program.ops)
    whole_follows = follow_from program.ops 0 [] (λ k op e. let same : 0 + k ≡ k = omega arith in ap (slice_get program.ops) same ∙ e) (record { holds = λ i op e lt. absurd (omega (arith, lt)); only = λ i m. absurd m })

    pub program_fit : (rows : Tables) → RowsFit tables rows → StaysFitAt tables program.vars (numbered_from 0 program.ops) (opening args rows)
    program_fit rows fit = stay_fit tables program.vars (numbered_from 0 program.ops) (λ o x. x < length program.params) (with_values 0 args empty) inputs [] (numbered_from 0 program.ops) (opening args rows)
        whole_follows (record { rows = fit; types = opening_typed args fits }) (λ i m held x d. absurd m) (λ y out. refl)

    -- after the whole program an operation whose conditions hold has given its variable a value
    pub program_given : (rows : Tables) (i : ℕ) (op : FlatOp) → slice_get program.ops i ≡ Some op → all_hold (numbered_meaning program.vars (numbered_from 0 program.ops) (opening args rows)).env op.conds ≡ true
        → (x : ℕ) → defined_variable op.kind ≡ Some x → (v : Value) × (get (numbered_meaning program.vars (numbered_from 0 program.ops) (opening args rows)).env x ≡ Some v)
    program_given rows i op at held x d = all_given tables program.vars (numbered_from 0 program.ops) (λ o x. x < length program.params) (with_values 0 args empty) inputs [] (numbered_from 0 program.ops) (opening args rows)
        whole_follows (λ i m held x d. absurd m) (i, op) (inr (mem_number 0 program.ops i op at i (omega arith))) held x d

    pub program_param : (rows : Tables) (x : ℕ) → x < length program.params → (v : Value) × (get (numbered_meaning program.vars (numbered_from 0 program.ops) (opening args rows)).env x ≡ Some v)
    program_param rows x lt = let v = param_there x lt in (v.0, undefined_meaning program.vars (numbered_from 0 program.ops) (opening args rows) x (param_undefined x lt) ∙ v.1)

-- ---- at any operation

stays_at : (tables : List TableTypes) (vars : List Ty) (ops : List FlatOp) (m n : ℕ) (s : State) → StaysFitAt tables vars (numbered_from m ops) s
    → IsFit tables vars (flat_meaning vars (take n ops) s) × ((op : FlatOp) → slice_get ops n ≡ Some op → FindsUses vars op (flat_meaning vars (take n ops) s).env)
unfolding numbered_from
stays_at tables vars [] m zero s fit = (fit, λ op e. absurd cc)
stays_at tables vars [] m (suc n) s fit = (fit, λ op e. absurd cc)
stays_at tables vars (op ∷ ops) m zero s fit = (fit.0, λ o e. subst (λ (o : FlatOp). FindsUses vars o s.env) (same_Some op o e) fit.1)
stays_at tables vars (op ∷ ops) m (suc n) s fit = stays_at tables vars ops (m + 1) n (flat_done vars op s) fit.2

pub stays_fit : StaysFit
stays_fit tables program well_formed args rows fits fit n = stays_at tables program.vars program.ops 0 n (opening args rows) (program_fit tables program well_formed args fits rows fit)

pub stays_end : (tables : List TableTypes) (vars : List Ty) (os : List NumberedOp) (s : State) → StaysFitAt tables vars os s → IsFit tables vars (numbered_meaning vars os s)
unfolding numbered_meaning
stays_end tables vars [] s fit = fit
stays_end tables vars (o ∷ os) s fit = stays_end tables vars os (flat_done vars o.1 s) fit.2
