-- The cells that operations change are those that their access modifies.
use Rattle.std.proofs.Common.{◌≡◌, ℕ, Bool, true, false, cond, ◌&&◌, List, [], ◌∷◌, Option, Some, None, Result, Ok, Err, refl, sym, ap, ◌∙◌, true≢false, inl, inr, ⊎_elim}
use Rattle.std.specs.Prelude.{is_ok}
use Rattle.std.specs.FinMap.{get}
use Rattle.pac_value.specs.declared.values.Ty.{Ty}
use Rattle.pac_value.specs.Expressions.{Values}
use Rattle.pac_value.specs.State.{Cell}
use Rattle.pac_value.proofs.CellLemmas.{tied_same}
use Rattle.pac_ops.specs.declared.reason.Reason.{Reason}
use Rattle.pac_ops.specs.declared.program.FlatOp.{FlatOp}
use Rattle.pac_ops.specs.Uses.{defined_variable, modifies}
use Rattle.pac_ops.specs.Operations.{State, done}
use Rattle.pac_ops.specs.Flat.{all_hold, default_of, done_or_default}
use Rattle.pac_ops.specs.Defaults.{trapped_type}
use Rattle.pac_ops.specs.Effects.{NumberedOp, flat_cell, is_var, defined_in}
use Rattle.pac_ops.proofs.DefinedLemmas.{undefined_op}
use Rattle.pac_ops.proofs.StateLemmas.{get-given}
use Rattle.pac_base.specs.Members.{Mem}
use Rattle.pac_base.proofs.TestLemmas.{or_cases, unlike, any_mem}
use Rattle.pac_plan.specs.Pieces.{access_of, covers_write, InputsAre}
use Rattle.pac_plan.proofs.AccessLemmas.{covered}
use Rattle.pac_piece.specs.Frames.{defaulted, done_or_defaulted, after_op, cell_changed, is_cell, change_row}
use Rattle.pac_piece.specs.PieceLaws.{WritesWithinAccess}

-- what an operation doesn't define stays
pub keeps : (op : FlatOp) (s : State) (y : ℕ) → is_var y (defined_variable op.kind) ≡ false → get (after_op op s).env y ≡ get s.env y
keeps op s y e = go (all_hold s.env op.conds) refl (done op.kind s) refl
  where
    other : (x : Option ℕ) (ty : Ty) → is_var y x ≡ false → get (defaulted x ty s).env y ≡ get s.env y
    other None ty f = refl
    other (Some x) ty f = get-given (Some (x, default_of ty)) s.env y ∙ ap (λ b. cond b (Some (default_of ty)) (get s.env y)) f

    go : (b : Bool) → all_hold s.env op.conds ≡ b → (r : Result State Reason) → done op.kind s ≡ r → get (cond b (done_or_defaulted op.kind s r) s).env y ≡ get s.env y
    go false h r d = refl
    go true h (Err reason) d = other (defined_variable op.kind) (trapped_type op.kind) e
    go true h (Ok t) d =
        ap (λ (z : State). get z.env y) (sym (ap (λ b. cond b (done_or_default [] op.kind s (done op.kind s)) s) h ∙ ap (done_or_default [] op.kind s) d))
        ∙ undefined_op [] op s y e

pub changed_at : (op : FlatOp) (s : State) (a : Cell) → is_cell a (cell_changed op s) ≡ true → (modifies op.kind ≡ true) × (flat_cell op s.env ≡ Some a)
changed_at op s a h = go (modifies op.kind) (is_ok (done op.kind s)) (flat_cell op s.env) refl refl h
  where
    go : (m k : Bool) (c : Option Cell) → modifies op.kind ≡ m → flat_cell op s.env ≡ c → is_cell a (cond (m && k) c None) ≡ true → (modifies op.kind ≡ true) × (flat_cell op s.env ≡ Some a)
    go true true (Some c) m at t = (m, at ∙ ap (λ x. Some x) (sym (tied_same a c t)))
    go true true None m at t = cc
    go true false c m at t = cc
    go false k c m at t = cc

module _ (os : List NumberedOp) (env : Values) where
  rest_within : (rest : List NumberedOp) (s : State) → ((o : NumberedOp) → Mem o rest → Mem o os) → InputsAre os env s.env → (a : Cell) → change_row rest s a ≡ true → covers_write (access_of os env) a ≡ true
  rest_within [] s among inputs a h = cc
  rest_within (o ∷ rest) s among inputs a h = ⊎_elim
      (λ here. let at = changed_at o.1 s a here in (covered os env s.env inputs o (among o (inl refl)) a at.1).1 at.0)
      (λ later. rest_within rest (after_op o.1 s) (λ d m. among d (inr m)) (λ x used out. keeps o.1 s x (none x out) ∙ inputs x used out) a later)
      (or_cases (is_cell a (cell_changed o.1 s)) (change_row rest (after_op o.1 s) a) h)
    where
      none : (x : ℕ) → defined_in os x ≡ false → is_var x (defined_variable o.1.kind) ≡ false
      none x out = unlike _ (λ t. true≢false (sym (any_mem (λ (d : NumberedOp). is_var x (defined_variable d.1.kind)) o os (among o (inl refl)) t) ∙ out))

pub writes_within_access : WritesWithinAccess
writes_within_access os env s inputs a h = rest_within os env os s (λ o m. m) inputs a h
