-- Inside one transaction the blocks in order do what the operations in order do.
use Rattle.std.proofs.Common.{◌≡◌, ℕ, ◌<◌, Bool, true, false, cond, ◌&&◌, ◌||◌, List, [], ◌∷◌, refl, sym, ap, ◌∙◌, subst, true≢false, Option, Some, None, ◌==◌, inl, inr, ⊎_elim, arith}
use Rattle.pac_value.specs.declared.values.Ty.{Ty}
use Rattle.pac_value.specs.declared.values.Value.{Value}
use Rattle.pac_value.specs.Expressions.{Values}
use Rattle.pac_value.specs.State.{RowValues}
use Rattle.pac_ops.specs.declared.note.Note.{Note}
use Rattle.pac_ops.specs.Notes.{note_at, first_note, least}
use Rattle.pac_ops.specs.Uses.{op_uses, defined_variable, accessed_table}
use Rattle.pac_ops.specs.Operations.{State}
use Rattle.pac_ops.specs.Flat.{flat_done, flat_reason}
use Rattle.pac_base.specs.Members.{Each, Mem, Rises}
use Rattle.pac_ops.specs.Effects.{NumberedOp, numbered_meaning, numbered_notes, is_var, defined_in, used_in}
use Rattle.pac_plan.specs.Pieces.{Present, of_txn, with_env, left_by, run_ops, part, World, apply, partial, has_ops, blocks_of, Location, RowOf, VarOf, at_location, every}
use Rattle.pac_plan.specs.WorldOrder.{WellFormed, Ordered}
use Rattle.pac_commute.proofs.Turns as turns
use Rattle.pac_base.proofs.TestLemmas.{or_left, or_right, eq_self, same_number, equal_number, and_left, and_right, and_both, or_cases, any_mem, each_mem, mem_each, unlike}
use Rattle.pac_ops.proofs.EffectLemmas.{cell-table}
use Rattle.pac_commute.proofs.Present.{same_present}
use Rattle.pac_ops.proofs.StateLemmas.{least_none, least-swap, least-assoc, first-append}
use Rattle.pac_ops.proofs.FrameLemmas.{Fits, kept_op, alike_op, reason_same}
use Rattle.pac_commute.proofs.Laws.{spots, seen_spot, kept_in, alike_in, noted_by}
use Rattle.pac_plan.proofs.PartLemmas.{part_holds}

abbrev pub is_table : ℕ → Option ℕ → Bool
is_table a None = false
is_table a (Some b) = b == a

abbrev pub op_touches : ℕ → NumberedOp → Location → Bool
op_touches t o (RowOf a) = is_table a.0 (accessed_table o.1.kind)
op_touches t o (VarOf u x) = u == t && (op_uses x o.1 || is_var x (defined_variable o.1.kind))

abbrev pub op_writes : ℕ → NumberedOp → Location → Bool
op_writes t o (RowOf a) = is_table a.0 (accessed_table o.1.kind)
op_writes t o (VarOf u x) = u == t && is_var x (defined_variable o.1.kind)

abbrev pub Anywhere : NumberedOp → Present → Type 0
Anywhere o s = Unit {0}

abbrev pub Always : State → Type 0
Always s = Unit {0}

op_fits : (t : ℕ) (vars : List Ty) (o : NumberedOp) → Fits vars (spots t (op_touches t o)) (spots t (op_writes t o)) Always o.1
op_fits t vars o = record {
  reads = λ x u. and_both (t == t) (op_uses x o.1 || is_var x (defined_variable o.1.kind)) (eq_self t) (or_left _ _ u);
  sets = λ x d. and_both (t == t) (is_var x (defined_variable o.1.kind)) (eq_self t) (rw d (eq_self x));
  rows = λ s good a at. let e : is_table a.0 (accessed_table o.1.kind) ≡ true = rw (cell-table o.1 s.env a at) (eq_self a.0) in (e, λ m. e);
}

module _ (t : ℕ) (vars : List Ty) where
  -- one operation
  pub step : NumberedOp → Present → Present
  step o s = left_by t (flat_done vars o.1 (of_txn t s)) (note_at t o.0 (flat_reason o.1 (of_txn t s))) s

  op_says : NumberedOp → Present → List Note
  op_says o s = note_at t o.0 (flat_reason o.1 (of_txn t s))

  op_laws : turns.Laws Present Location (Option RowValues × Option Value) (Option Note) (List Note) NumberedOp at_location (λ s. s.note) step op_says noted_by (op_touches t) (op_writes t) Anywhere
  unfolding step op_says
  op_laws = record {
    same = same_present;
    any_order = λ n a b. least-swap n (first_note a) (first_note b);
    within = within;
    noted = λ o s. refl;
    kept = λ o s good. kept_in t (op_writes t o) s _ (step o s).note (kept_op vars (spots t (op_touches t o)) (spots t (op_writes t o)) Always o.1 (op_fits t vars o) (of_txn t s) tt);
    good_alike = λ o s s' good alike. tt;
    alike = λ o s s' good alike. alike_in t (op_touches t o) s s' _ _ (step o s).note (step o s').note
        (alike_op vars (spots t (op_touches t o)) (spots t (op_writes t o)) Always o.1 (op_fits t vars o) (of_txn t s) (of_txn t s') tt (seen_spot t (op_touches t o) s s' alike)) alike;
    said_alike = λ o s s' good alike. ap (note_at t o.0) (reason_same vars (spots t (op_touches t o)) (spots t (op_writes t o)) Always o.1 (op_fits t vars o) (of_txn t s) (of_txn t s') tt (seen_spot t (op_touches t o) s s' alike));
  }
    where
      within : (o : NumberedOp) (c : Location) → op_writes t o c ≡ true → op_touches t o c ≡ true
      within o (RowOf a) e = e
      within o (VarOf u x) e = and_both _ _ (and_left (u == t) (is_var x (defined_variable o.1.kind)) e) (or_right (op_uses x o.1) _ (and_right (u == t) (is_var x (defined_variable o.1.kind)) e))

  abbrev pub ApartOps : NumberedOp → NumberedOp → Type 0
  ApartOps o d = (c : Location) → (op_writes t o c ≡ true → op_touches t d c ≡ false) × (op_writes t d c ≡ true → op_touches t o c ≡ false)

  op_swap : (o d : NumberedOp) (s : Present) → ApartOps o d → step o (step d s) ≡ step d (step o s)
  op_swap o d s apart = turns.swap Present Location (Option RowValues × Option Value) (Option Note) (List Note) NumberedOp at_location (λ s. s.note) step op_says noted_by (op_touches t) (op_writes t) Anywhere op_laws o d s tt tt apart

  -- operations one after another
  pub steps : List NumberedOp → Present → Present
  steps [] s = s
  steps (o ∷ os) s = steps os (step o s)

  twice_env : (env env' : Values) (envs : ℕ → Values) → ◌≡◌ {A = ℕ → Values} (with_env t env (with_env t env' envs)) (with_env t env envs)
  twice_env env env' envs = λ i u. go u (u == t) i
    where
      go : (u : ℕ) (b : Bool) → cond b env (cond b env' (envs u)) ≡ cond b env (envs u)
      go u true = refl
      go u false = refl

  own_env : (envs : ℕ → Values) → ◌≡◌ {A = ℕ → Values} (with_env t (envs t) envs) envs
  own_env envs = λ i u. go u (u == t) refl i
    where
      go : (u : ℕ) (b : Bool) → (u == t) ≡ b → cond b (envs t) (envs u) ≡ envs u
      go u true e = ap envs (sym (same_number u t e))
      go u false e = refl

  -- the operation first, and then the others from what it left
  seen_after : (b : State) (ns : List Note) (s : Present) → of_txn t (left_by t b ns s) ≡ b
  seen_after b ns s = λ i. record { env = ap (λ c. cond c b.env (s.envs t)) (eq_self t) i; tables = b.tables }

  pub steps_are_run : (os : List NumberedOp) (s : Present) → steps os s ≡ run_ops t vars os s
  unfolding step steps numbered_meaning numbered_notes
  steps_are_run [] s = λ i. record { tables = s.tables; envs = sym (own_env s.envs) i; note = sym (least_none s.note) i }
  steps_are_run (o ∷ os) s = steps_are_run os (step o s) ∙ first
    where
      mid : State
      mid = flat_done vars o.1 (of_txn t s)

      said : List Note
      said = note_at t o.0 (flat_reason o.1 (of_txn t s))

      first : run_ops t vars os (step o s) ≡ run_ops t vars (o ∷ os) s
      first = (λ i. left_by t (numbered_meaning vars os (seen_after mid said s i)) (numbered_notes vars t os (seen_after mid said s i)) (left_by t mid said s))
          ∙ (λ i. record {
            tables = (numbered_meaning vars os mid).tables;
            envs = twice_env (numbered_meaning vars os mid).env mid.env s.envs i;
            note = (sym (least-assoc s.note (first_note said) (first_note (numbered_notes vars t os mid))) ∙ ap (least s.note) (sym (first-append said (numbered_notes vars t os mid)))) i;
          })

  -- an operation moves past a list of others
  past_all : (o : NumberedOp) (os : List NumberedOp) (s : Present) → Each (ApartOps o) os → step o (steps os s) ≡ steps os (step o s)
  unfolding steps
  past_all o [] s apart = refl
  past_all o (d ∷ os) s apart = past_all o os (step d s) apart.1 ∙ ap (steps os) (op_swap o d s apart.0)

  module _ (block : NumberedOp → ℕ) where
    -- an operation is apart from each later one of a lower block
    abbrev pub Sorts : List NumberedOp → Type 0
    Sorts [] = Unit {0}
    Sorts (o ∷ os) = Each (λ d. block d < block o → ApartOps o d) os × Sorts os

    pub block_runs : List ℕ → List NumberedOp → Present → Present
    block_runs [] os s = s
    block_runs (b ∷ bs) os s = block_runs bs os (steps (part block b os) s)

    part_apart : (b : ℕ) (o : NumberedOp) (os : List NumberedOp) → b < block o → Each (λ d. block d < block o → ApartOps o d) os → Each (ApartOps o) (part block b os)
    part_apart b o [] lt e = tt
    part_apart b o (d ∷ os) lt e = go (block d == b) refl (part_apart b o os lt e.1)
      where
        go : (c : Bool) → (block d == b) ≡ c → Each (ApartOps o) (part block b os) → Each (ApartOps o) (cond c (d ∷ part block b os) (part block b os))
        go true h rest = (e.0 (let k : block d ≡ b = same_number (block d) b h in omega arith), rest)
        go false h rest = rest

    other_blocks : (bs : List ℕ) (o : NumberedOp) (os : List NumberedOp) (s : Present) → Each (λ c. block o < c) bs → block_runs bs (o ∷ os) s ≡ block_runs bs os s
    unfolding block_runs
    other_blocks [] o os s above = refl
    other_blocks (b ∷ bs) o os s above =
        ap (λ c. block_runs bs (o ∷ os) (steps (cond c (o ∷ part block b os) (part block b os)) s)) (unlike (block o == b) differs)
        ∙ other_blocks bs o os (steps (part block b os) s) above.1
      where
        differs : (block o == b) ≡ true → ⊥
        differs e = let k : block o ≡ b = same_number (block o) b e in let l : block o < b = above.0 in omega arith

    first_op : (bs : List ℕ) (o : NumberedOp) (os : List NumberedOp) (s : Present) → Rises bs → Mem (block o) bs → Each (λ d. block d < block o → ApartOps o d) os
        → block_runs bs (o ∷ os) s ≡ block_runs bs os (step o s)
    unfolding block_runs steps
    first_op [] o os s rises m apart = absurd m
    first_op (b ∷ bs) o os s rises (inl same) apart =
        ap (λ c. block_runs bs (o ∷ os) (steps (cond c (o ∷ part block b os) (part block b os)) s)) (equal_number (block o) b same)
        ∙ other_blocks bs o os (steps (part block b os) (step o s)) (subst (λ c. Each (λ d. c < d) bs) (sym same) rises.0)
    first_op (b ∷ bs) o os s rises (inr m) apart =
        ap (λ c. block_runs bs (o ∷ os) (steps (cond c (o ∷ part block b os) (part block b os)) s)) (unlike (block o == b) differs)
        ∙ first_op bs o os (steps (part block b os) s) rises.1 m apart
        ∙ ap (block_runs bs os) (past_all o (part block b os) s (part_apart b o os (mem_each (λ c. b < c) bs rises.0 (block o) m) apart))
      where
        differs : (block o == b) ≡ true → ⊥
        differs e = let k : block o ≡ b = same_number (block o) b e in let l : b < block o = mem_each (λ c. b < c) bs rises.0 (block o) m in omega arith

    nothing_runs : (bs : List ℕ) (s : Present) → block_runs bs [] s ≡ s
    unfolding block_runs steps
    nothing_runs [] s = refl
    nothing_runs (b ∷ bs) s = nothing_runs bs s

    pub blocks_are_steps : (bs : List ℕ) (os : List NumberedOp) (s : Present) → Rises bs → Each (λ o. Mem (block o) bs) os → Sorts os → block_runs bs os s ≡ steps os s
    unfolding steps
    blocks_are_steps bs [] s rises inside sorts = nothing_runs bs s
    blocks_are_steps bs (o ∷ os) s rises inside sorts = first_op bs o os s rises inside.0 sorts.0 ∙ blocks_are_steps bs os (step o s) rises inside.1 sorts.1

pub is_table-named : (a : ℕ) (n : Option ℕ) → is_table a n ≡ true → n ≡ Some a
is_table-named a None e = absurd (true≢false (sym e))
is_table-named a (Some n) e = ap (λ z. Some z) (same_number n a e)

module _ (w : World) (well_formed : WellFormed w) (t : ℕ) where
  defined_by : (o : NumberedOp) → Mem o (w.code t) → (x : ℕ) → is_var x (defined_variable o.1.kind) ≡ true → defined_in (part (w.block t) (w.block t o) (w.code t)) x ≡ true
  defined_by o m x e = any_mem (λ (d : NumberedOp). is_var x (defined_variable d.1.kind)) o (part (w.block t) (w.block t o) (w.code t)) (part_holds (w.block t) o (w.code t) m) e

  used_by : (o : NumberedOp) → Mem o (w.code t) → (x : ℕ) → op_uses x o.1 ≡ true → used_in (part (w.block t) (w.block t o) (w.code t)) x ≡ true
  used_by o m x e = any_mem (λ (d : NumberedOp). op_uses x d.1) o (part (w.block t) (w.block t o) (w.code t)) (part_holds (w.block t) o (w.code t) m) e

  home_of : (o : NumberedOp) → Mem o (w.code t) → (a : ℕ) → is_table a (accessed_table o.1.kind) ≡ true → w.home a ≡ w.block t o
  home_of o m a e = mem_each _ (w.code t) (well_formed.homes t) o m a (is_table-named a (accessed_table o.1.kind) e)

  apart_ops : (o d : NumberedOp) → Mem o (w.code t) → Mem d (w.code t) → ((x : ℕ) → is_var x (defined_variable d.1.kind) ≡ true → op_uses x o.1 ≡ false) → w.block t d < w.block t o → ApartOps t (w.vars t) o d
  apart_ops o d mo md unused lt (RowOf a) = (λ e. unlike _ (λ f. tables e f), λ e. unlike _ (λ f. tables f e))
    where
      tables : is_table a.0 (accessed_table o.1.kind) ≡ true → is_table a.0 (accessed_table d.1.kind) ≡ true → ⊥
      tables e f = let h : w.home a.0 ≡ w.block t o = home_of o mo a.0 e in let k : w.home a.0 ≡ w.block t d = home_of d md a.0 f in omega arith
  apart_ops o d mo md unused lt (VarOf u x) = (λ e. unlike _ (left (and_right (u == t) _ e)), λ e. unlike _ (right (and_right (u == t) _ e)))
    where
      twice : is_var x (defined_variable o.1.kind) ≡ true → is_var x (defined_variable d.1.kind) ≡ true → ⊥
      twice e f = let same : w.block t o ≡ w.block t d = well_formed.once t (w.block t o) (w.block t d) x (defined_by o mo x e) (defined_by d md x f) in omega arith

      left : is_var x (defined_variable o.1.kind) ≡ true → (u == t && (op_uses x d.1 || is_var x (defined_variable d.1.kind))) ≡ true → ⊥
      left e f = ⊎_elim
          (λ v. ⊎_elim (λ (same : w.block t o ≡ w.block t d). omega arith) (λ edge. let l : w.block t o < w.block t d = well_formed.up (w.block t o) (w.block t d) edge in omega arith)
          (well_formed.flows t (w.block t o) (w.block t d) x (defined_by o mo x e) (used_by d md x v)))
          (λ v. twice e v)
          (or_cases (op_uses x d.1) (is_var x (defined_variable d.1.kind)) (and_right (u == t) _ f))

      right : is_var x (defined_variable d.1.kind) ≡ true → (u == t && (op_uses x o.1 || is_var x (defined_variable o.1.kind))) ≡ true → ⊥
      right e f = ⊎_elim (λ v. true≢false (sym v ∙ unused x e)) (λ v. twice v e)
          (or_cases (op_uses x o.1) (is_var x (defined_variable o.1.kind)) (and_right (u == t) _ f))

  sorts : (os : List NumberedOp) → ((o : NumberedOp) → Mem o os → Mem o (w.code t)) → Ordered os → Sorts t (w.vars t) (w.block t) os
  sorts [] inside ordered = tt
  sorts (o ∷ os) inside ordered = (
    each_mem (λ d. w.block t d < w.block t o → ApartOps t (w.vars t) o d) os (λ d m lt. apart_ops o d (inside o (inl refl)) (inside d (inr m)) (mem_each _ os ordered.0 d m) lt),
    sorts os (λ d m. inside d (inr m)) ordered.1,
  )

  blocks-runs : (bs : List ℕ) (s : Present) → partial w every (blocks_of w t bs) s ≡ block_runs t (w.vars t) (w.block t) bs (w.code t) s
  unfolding partial block_runs apply steps
  blocks-runs [] s = refl
  blocks-runs (b ∷ bs) s = go (part (w.block t) b (w.code t)) refl (blocks-runs bs)
    where
      Rest : Type 0
      Rest = (s : Present) → partial w every (blocks_of w t bs) s ≡ block_runs t (w.vars t) (w.block t) bs (w.code t) s

      go : (os : List NumberedOp) → part (w.block t) b (w.code t) ≡ os → Rest
          → partial w every (cond (has_ops os) (record { txn = t; block = b } ∷ blocks_of w t bs) (blocks_of w t bs)) s ≡ block_runs t (w.vars t) (w.block t) bs (w.code t) (steps t (w.vars t) os s)
      go [] e rest = rest s
      go (o ∷ os) e rest =
          ap (λ z. partial w every (blocks_of w t bs) z) (ap (λ k. run_ops t (w.vars t) k s) e ∙ sym (steps_are_run t (w.vars t) (o ∷ os) s))
          ∙ rest (steps t (w.vars t) (o ∷ os) s)

  pub one_txn : (bs : List ℕ) (s : Present) → Rises bs → Each (λ o. Mem (w.block t o) bs) (w.code t) → partial w every (blocks_of w t bs) s ≡ run_ops t (w.vars t) (w.code t) s
  one_txn bs s rises inside = blocks-runs bs s ∙ blocks_are_steps t (w.vars t) (w.block t) bs (w.code t) s rises inside (sorts (w.code t) (λ o m. m) (well_formed.ordered t)) ∙ steps_are_run t (w.vars t) (w.code t) s
