-- The flat form does what the steps do, up to the first abort.
use Rattle.std.proofs.Common.{◌≡◌, ℕ, ◌+◌, ◌<◌, ◌≤◌, Bool, true, false, not, ◌&&◌, cond, List, [], ◌∷◌, ◌++◌, length, Some, None, Result, Ok, Err, refl, sym, ap, subst, ◌∙◌, arith, append_assoc, append-nil, length-append}
use Rattle.std.specs.FinMap.{get}
use Rattle.pac_value.specs.declared.values.Ty.{Ty}
use Rattle.pac_value.specs.declared.values.Value.{Value}
use Rattle.pac_value.specs.declared.values.Value.TheVariants.{Int, Text, Bool as Truth}
use Rattle.pac_value.specs.declared.expr.Expr.{Expr}
use Rattle.pac_value.specs.declared.expr.Trap.{Trap}
use Rattle.pac_value.specs.Expressions.{value, ◌>>=◌}
use Rattle.pac_ops.specs.declared.note.Note.{Note}
use Rattle.pac_ops.specs.declared.program.FlatOp.{FlatOp}
use Rattle.pac_ops.specs.declared.program.OpKind.{OpKind}
use Rattle.pac_ops.specs.declared.program.OpKind.TheVariants.{Cond}
use Rattle.pac_ops.specs.declared.reason.Reason.{Reason}
use Rattle.pac_ops.specs.Reasons.{or_abort, reason_of}
use Rattle.pac_ops.specs.Notes.{note_at}
use Rattle.pac_ops.specs.Operations.{State, Gives, define, done, with_effect}
use Rattle.pac_ops.specs.Uses.{defined_variable}
use Rattle.pac_ops.specs.Flat.{is_true, is_as_asked, all_hold, done_or_default, reason_in, flat_done, flat_reason, flat_meaning, notes_of}
use Rattle.pac_types.specs.Meaning.{Abort, at_operation, step_count, branch, runs}
use Rattle.pac_types.specs.Unrolled.{UnrolledSteps, End, Op, Branch}
use Rattle.pac_types.proofs.RunsOnLemmas.{RunsOn, runs_on-joined, variable_list}
use Rattle.pac_flat.specs.FlatForm.{Conditions, flat, inside, under}
use Rattle.pac_flat.proofs.FormLemmas.{length-flat, defined_in, RunsTo, defined_in-append, runs_to-defined, all_hold-inside, AllShut, shut-flat}
use Rattle.pac_flat.proofs.KeptLemmas.{get-defined, get-others, kept, lower-differs, Below, below-more, below-inside, all_hold-kept}

-- what comes after two comes after the second
then_then : {A B C E : Type 0} (r : Result A E) (f : A → Result B E) (g : B → Result C E) → ((r >>= f) >>= g) ≡ (r >>= λ a. f a >>= g)
then_then (Ok a) f g = refl
then_then (Err e) f g = refl

module _ (vars : List Ty) (txn : ℕ) where
  pub flat_meaning-append : (xs ys : List FlatOp) (s : State) → flat_meaning vars (xs ++ ys) s ≡ flat_meaning vars ys (flat_meaning vars xs s)
  flat_meaning-append [] ys s = refl
  flat_meaning-append (x ∷ xs) ys s = flat_meaning-append xs ys (flat_done vars x s)

  notes_of-append : (n : ℕ) (xs ys : List FlatOp) (s : State) → notes_of vars txn n (xs ++ ys) s ≡ notes_of vars txn n xs s ++ notes_of vars txn (n + length xs) ys (flat_meaning vars xs s)
  notes_of-append n [] ys s = let same : n ≡ n + 0 = omega arith in ap (λ k. notes_of vars txn k ys s) same
  notes_of-append n (x ∷ xs) ys s =
      let same : n + 1 + length xs ≡ n + length (x ∷ xs) = omega arith in
      let here = note_at txn n (flat_reason x s) in
      ap (λ l. here ++ l) (notes_of-append (n + 1) xs ys (flat_done vars x s))
      ∙ sym (append_assoc here _ _)
      ∙ ap (λ k. (here ++ notes_of vars txn (n + 1) xs (flat_done vars x s)) ++ notes_of vars txn k ys (flat_meaning vars (x ∷ xs) s)) same

  -- the notes begin with that of an abort
  abbrev pub BeginWith : Abort → List Note → Type 0
  BeginWith abort notes = (rest : List Note) × (notes ≡ record { txn = txn; op = abort.0; reason = abort.1 } ∷ rest)

  -- operations, numbered from n, end in the state that is meant and leave no note, or their first note reports the abort
  abbrev pub Meets : ℕ → List FlatOp → State → Result State Abort → Type 0
  Meets n ops s (Ok t) = (flat_meaning vars ops s ≡ t) × (notes_of vars txn n ops s ≡ [])
  Meets n ops s (Err abort) = BeginWith abort (notes_of vars txn n ops s)

  -- one list after another
  meets-append : (xs ys : List FlatOp) (n k : ℕ) (s : State) (m : Result State Abort) (f : State → Result State Abort) → n + length xs ≡ k
      → Meets n xs s m → ((t : State) → m ≡ Ok t → Meets k ys t (f t)) → Meets n (xs ++ ys) s (m >>= f)
  meets-append xs ys n k s (Ok t) f on h rest = go (f t) (rest t refl)
    where
      joined : notes_of vars txn n (xs ++ ys) s ≡ notes_of vars txn k ys t
      joined = notes_of-append n xs ys s ∙ ap (λ l. l ++ notes_of vars txn (n + length xs) ys (flat_meaning vars xs s)) h.1
          ∙ ap (λ z. notes_of vars txn (n + length xs) ys z) h.0 ∙ ap (λ z. notes_of vars txn z ys t) on

      go : (r : Result State Abort) → Meets k ys t r → Meets n (xs ++ ys) s r
      go (Ok u) g = (flat_meaning-append xs ys s ∙ ap (flat_meaning vars ys) h.0 ∙ g.0, joined ∙ g.1)
      go (Err abort) g = (g.0, joined ∙ g.1)
  meets-append xs ys n k s (Err abort) f on h rest =
      (h.0 ++ notes_of vars txn (n + length xs) ys (flat_meaning vars xs s), notes_of-append n xs ys s ∙ ap (λ l. l ++ notes_of vars txn (n + length xs) ys (flat_meaning vars xs s)) h.1)

  -- an operation of which some condition does not hold does nothing
  idle_op : (op : FlatOp) (s : State) → all_hold s.env op.conds ≡ false → (flat_done vars op s ≡ s) × (flat_reason op s ≡ None)
  idle_op op s h = (ap (λ b. cond b (done_or_default vars op.kind s (done op.kind s)) s) h, ap (λ b. cond b (reason_in (done op.kind s)) None) h)

  -- nor do several
  idle : (ops : List FlatOp) (n : ℕ) (s : State) → AllShut s.env ops → Meets n ops s (Ok s)
  idle [] n s h = (refl, refl)
  idle (op ∷ ops) n s h =
      let here = idle_op op s h.0 in
      let rest = idle ops (n + 1) s h.1 in (
        ap (flat_meaning vars ops) here.0 ∙ rest.0,
        ap (λ o. note_at txn n o ++ notes_of vars txn (n + 1) ops (flat_done vars op s)) here.1 ∙ ap (λ z. notes_of vars txn (n + 1) ops z) here.0 ∙ rest.1,
      )

  -- such operations may stand before or after
  meets-after_idle : (xs ys : List FlatOp) (n k : ℕ) (s : State) (m : Result State Abort) → n + length xs ≡ k → AllShut s.env xs → Meets k ys s m → Meets n (xs ++ ys) s m
  meets-after_idle xs ys n k s m on shut h =
      meets-append xs ys n k s (Ok s) (λ t. m) on (idle xs n s shut) (λ t e. let same : s ≡ t = cc in subst (λ z. Meets k ys z m) same h)

  meets-before_idle : (xs ys : List FlatOp) (n : ℕ) (s : State) (m : Result State Abort) → Meets n xs s m → ((t : State) → m ≡ Ok t → AllShut t.env ys) → Meets n (xs ++ ys) s m
  meets-before_idle xs ys n s (Ok t) h shut = meets-append xs ys n (n + length xs) s (Ok t) (λ z. Ok z) refl h (λ z e. idle ys (n + length xs) z (shut z e))
  meets-before_idle xs ys n s (Err abort) h shut = meets-append xs ys n (n + length xs) s (Err abort) (λ z. Ok z) refl h (λ z e. absurd cc)

  -- one operation whose conditions hold
  meets_one : (conds : Conditions) (kind : OpKind) (n : ℕ) (s : State) → all_hold s.env conds ≡ true → Meets n (under conds kind ∷ []) s (at_operation n (done kind s))
  meets_one conds kind n s h = go (done kind s) refl
    where
      state_is : flat_done vars (under conds kind) s ≡ done_or_default vars kind s (done kind s)
      state_is = ap (λ b. cond b (done_or_default vars kind s (done kind s)) s) h

      reason_is : flat_reason (under conds kind) s ≡ reason_in (done kind s)
      reason_is = ap (λ b. cond b (reason_in (done kind s)) None) h

      go : (r : Result State Reason) → done kind s ≡ r → Meets n (under conds kind ∷ []) s (at_operation n r)
      go (Ok t) is = (state_is ∙ ap (done_or_default vars kind s) is, ap (λ o. note_at txn n o ++ []) (reason_is ∙ ap reason_in is))
      go (Err reason) is = ([], ap (λ o. note_at txn n o ++ []) (reason_is ∙ ap reason_in is))

  -- ---- steps

  -- what steps are in flat form meets what they do, where the conditions round them hold and their variables run on
  abbrev pub MeetsSteps : UnrolledSteps → Type 0
  MeetsSteps steps = (conds : Conditions) (m k n : ℕ) (s : State) → RunsTo m steps k → Below m conds → all_hold s.env conds ≡ true → Meets n (flat steps conds) s (runs steps n s)

  -- after operations that define none of them, lower variables have their values
  low_kept : (ops : List FlatOp) (m : ℕ) (s t : State) → RunsOn m (defined_in ops) → flat_meaning vars ops s ≡ t → (y : ℕ) → y < m → get t.env y ≡ get s.env y
  low_kept ops m s t run ends y lt = ap (λ (z : State). get z.env y) (sym ends) ∙ kept y vars ops s (lower-differs y m (defined_in ops) lt run)

  -- the variables of steps run up
  runs_up : (steps : UnrolledSteps) (m k : ℕ) → RunsTo m steps k → m ≤ k
  runs_up End m k run = omega (arith, run)
  runs_up (Op kind rest) m k run = omega (arith, runs_up rest (m + length (variable_list (defined_variable kind))) k run.1)
  runs_up (Branch x e first second rest) m k (is, i, j, a, b, c) = omega (arith, runs_up first (m + 1) i a, runs_up second i j b, runs_up rest j k c)

  meets_op : (kind : OpKind) (rest : UnrolledSteps) → MeetsSteps rest → MeetsSteps (Op kind rest)
  meets_op kind rest later conds m k n s run below hold =
      let one = under conds kind ∷ [] in
      let met : Meets n one s (at_operation n (done kind s)) = meets_one conds kind n s hold in
      let own : RunsOn m (defined_in one) = subst (RunsOn m) (sym (append-nil (variable_list (defined_variable kind)))) run.0 in
      meets-append one (flat rest conds) n (n + 1) s (at_operation n (done kind s)) (λ t. runs rest (n + 1) t) refl met (λ t e.
      later conds (m + length (variable_list (defined_variable kind))) k (n + 1) t run.1 (below-more m (m + length (variable_list (defined_variable kind))) conds (omega arith) below)
      (all_hold-kept m conds s.env t.env below (low_kept one m s t own (subst (Meets n one s) e met).0) ∙ hold))

  module _ (x : ℕ) (e : Expr) (first second : UnrolledSteps) (meets_first : MeetsSteps first) (meets_second : MeetsSteps second) (conds : Conditions) (m i j n : ℕ) (s : State)
      (is : x ≡ m) (run_first : RunsTo (m + 1) first i) (run_second : RunsTo i second j) (below : Below m conds) (hold : all_hold s.env conds ≡ true) where
    abbrev a : List FlatOp
    a = flat first (inside conds x true)

    abbrev b : List FlatOp
    b = flat second (inside conds x false)

    abbrev run_a : State → Result State Abort
    run_a t = runs first (n + 1) t

    abbrev run_b : State → Result State Abort
    run_b t = runs second (n + 1 + step_count first) t

    up : m + 1 ≤ i
    up = runs_up first (m + 1) i run_first

    -- after the test its variable has this value, and the conditions still hold
    module _ (v : Value) where
      abbrev t : State
      t = define x v s

      still : all_hold t.env conds ≡ true
      still = all_hold-kept m conds s.env t.env below (λ y lt. get-others s x v y (λ h. let no_way : ⊥ = omega (arith, is, h, lt) in no_way)) ∙ hold

      test_is : (asked : Bool) (u : State) → get u.env x ≡ Some v → all_hold u.env conds ≡ true → all_hold u.env (inside conds x asked) ≡ is_as_asked asked (Some v)
      test_is asked u is h = all_hold-inside u.env conds x asked ∙ ap (λ z. z && is_as_asked asked (get u.env x)) h ∙ ap (is_as_asked asked) is

      lt_x : x < m + 1
      lt_x = omega (arith, is)

      met_first : is_true v ≡ true → Meets (n + 1) (a ++ b) t (run_a t)
      met_first yes_ = meets-before_idle a b (n + 1) t (run_a t) met shut
        where
          met : Meets (n + 1) a t (run_a t)
          met = meets_first (inside conds x true) (m + 1) i (n + 1) t run_first (below-inside m (m + 1) x true conds (omega arith) lt_x below) (test_is true t (get-defined s x v) still ∙ yes_)

          shut : (u : State) → run_a t ≡ Ok u → AllShut u.env b
          shut u ends =
              let same : (y : ℕ) → y < m + 1 → get u.env y ≡ get t.env y = low_kept a (m + 1) t u (runs_to-defined first (inside conds x true) (m + 1) i run_first).0 (subst (Meets (n + 1) a t) ends met).0 in
              shut-flat second u.env (inside conds x false) (test_is false u (same x lt_x ∙ get-defined s x v) (all_hold-kept m conds t.env u.env below (λ y lt. same y (omega (arith, lt))) ∙ still) ∙ ap not yes_)

      met_second : is_true v ≡ false → Meets (n + 1) (a ++ b) t (run_b t)
      met_second no_ = meets-after_idle a b (n + 1) (n + 1 + step_count first) t (run_b t) (ap (λ k. n + 1 + k) (length-flat first (inside conds x true)))
          (shut-flat first t.env (inside conds x true) (test_is true t (get-defined s x v) still ∙ no_))
          (meets_second (inside conds x false) i j (n + 1 + step_count first) t run_second
          (below-inside m i x false conds (omega (arith, up)) (omega (arith, is, up)) below) (test_is false t (get-defined s x v) still ∙ ap not no_))

    met_branch : (v : Value) → Meets (n + 1) (a ++ b) (define x v s) (branch v run_a run_b (define x v s))
    met_branch (Truth true) = met_first (Truth true) refl
    met_branch (Truth false) = met_second (Truth false) refl
    met_branch (Int k) = met_second (Int k) refl
    met_branch (Text l) = met_second (Text l) refl

    met_test : (r : Result Value Trap) → value e s.env ≡ r
        → Meets n (under conds (Cond x e) ∷ (a ++ b)) s (at_operation n (or_abort r) >>= λ v. branch v run_a run_b (define x v s))
    met_test (Ok v) is = meets-append (under conds (Cond x e) ∷ []) (a ++ b) n (n + 1) s (Ok (define x v s)) (λ u. branch v run_a run_b u) refl
        (subst (Meets n (under conds (Cond x e) ∷ []) s) (ap (λ z. at_operation n ((or_abort z >>= λ w. Ok (Gives x w)) >>= λ f. Ok (with_effect None f s))) is) (meets_one conds (Cond x e) n s hold))
        (λ u ends. let same : define x v s ≡ u = cc in subst (λ z. Meets (n + 1) (a ++ b) z (branch v run_a run_b z)) same (met_branch v))
    met_test (Err trap) is = meets-append (under conds (Cond x e) ∷ []) (a ++ b) n (n + 1) s (Err (n, reason_of trap)) (λ u. Ok u) refl
        (subst (Meets n (under conds (Cond x e) ∷ []) s) (ap (λ z. at_operation n ((or_abort z >>= λ w. Ok (Gives x w)) >>= λ f. Ok (with_effect None f s))) is) (meets_one conds (Cond x e) n s hold))
        (λ u ends. absurd cc)

    -- the operations of the conditional define variables up to j
    own_variables : RunsOn m (defined_in (under conds (Cond x e) ∷ (a ++ b)))
    own_variables = (is, subst (RunsOn (m + 1)) (sym (defined_in-append a b)) (runs_on-joined (m + 1) i (defined_in a) (defined_in b) fa.1 fa.0 (runs_to-defined second (inside conds x false) i j run_second).0))
      where
        fa : RunsOn (m + 1) (defined_in a) × (m + 1 + length (defined_in a) ≡ i)
        fa = runs_to-defined first (inside conds x true) (m + 1) i run_first

    long : n + length (under conds (Cond x e) ∷ (a ++ b)) ≡ n + 1 + step_count first + step_count second
    long = omega (arith, length-append a b, length-flat first (inside conds x true), length-flat second (inside conds x false))

    met_all : (rest : UnrolledSteps) → MeetsSteps rest → (k : ℕ) → RunsTo j rest k → Meets n (flat (Branch x e first second rest) conds) s (runs (Branch x e first second rest) n s)
    met_all rest later k run =
        let end = n + 1 + step_count first + step_count second in
        let ops = under conds (Cond x e) ∷ (a ++ b) in
        let does = at_operation n (or_abort (value e s.env)) >>= λ v. branch v run_a run_b (define x v s) in
        let met : Meets n ops s does = met_test (value e s.env) refl in
        subst (Meets n (flat (Branch x e first second rest) conds) s) (then_then (at_operation n (or_abort (value e s.env))) (λ v. branch v run_a run_b (define x v s)) (λ t. runs rest end t))
        (meets-append ops (flat rest conds) n end s does (λ t. runs rest end t) long met (λ t ends.
        later conds j k end t run (below-more m j conds (omega (arith, up, runs_up second i j run_second)) below)
        (all_hold-kept m conds s.env t.env below (low_kept ops m s t own_variables (subst (Meets n ops s) ends met).0) ∙ hold)))

  -- steps in flat form, under conditions that hold, meet what they do
  pub meets : (steps : UnrolledSteps) → MeetsSteps steps
  meets End conds m k n s run below hold = (refl, refl)
  meets (Op kind rest) conds m k n s run below hold = meets_op kind rest (meets rest) conds m k n s run below hold
  meets (Branch x e first second rest) conds m k n s (is, i, j, in_first, in_second, after) below hold =
      met_all x e first second (meets first) (meets second) conds m i j n s is in_first in_second below hold rest (meets rest) k after
