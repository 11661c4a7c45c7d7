-- Operations over the tables themselves: from what each made of them to what all of them mean.
use Rattle.std.proofs.Common.{◌≡◌, ℕ, ◌+◌, ◌≤◌, true, false, cond, List, [], ◌∷◌, ◌++◌, length, take, take_all, Option, Some, None, Ok, Err, refl, sym, ap, ap₂, ◌∙◌, subst, inl, inr}
use Rattle.std.specs.Prelude.{IfSome}
use Rattle.pac_value.specs.declared.values.Value.{Value}
use Rattle.pac_value.specs.declared.expr.Expr.{Expr}
use Rattle.pac_value.specs.declared.expr.Trap.{Trap}
use Rattle.pac_value.specs.Expressions.{Values, value, ◌>>=◌}
use Rattle.pac_value.specs.State.{Cell, Tables, with_row}
use Rattle.pac_ops.specs.declared.reason.Reason.{Reason}
use Rattle.pac_ops.specs.declared.transaction.Change.{Change}
use Rattle.pac_ops.specs.declared.transaction.Change.TheVariants.{Put as PutRow, Delete as DeleteRow}
use Rattle.pac_ops.specs.Reasons.{or_abort, reason_of}
use Rattle.pac_ops.specs.Notes.{note_at, first_note, least}
use Rattle.pac_ops.specs.Transactions.{with_change}
use Rattle.pac_ops.specs.Uses.{defined_variable}
use Rattle.pac_ops.specs.Operations.{State, Gives, touched, with_effect, done}
use Rattle.pac_ops.specs.Flat.{all_hold, flat_reason, reason_in}
use Rattle.pac_ops.specs.Defaults.{trapped_type}
use Rattle.pac_ops.specs.declared.program.OpKind.{OpKind}
use Rattle.pac_ops.specs.Effects.{NumberedOp, cell_in, record_op}
use Rattle.pac_ops.proofs.EffectLemmas.{cell-table}
use Rattle.pac_ops.proofs.StateLemmas.{least_none, least-assoc, first-append}
use Rattle.pac_piece.specs.declared.ground.Ground.{Ground}
use Rattle.pac_piece.specs.Frames.{defaulted, done_or_defaulted, after_op, after_ops, notes_after}
use Rattle.pac_piece.specs.InPlace.{IsLeft, KeepsGround, RunsHere, Stands, StepsHere, StopsHere, state_here, tables_seen}
use Rattle.pac_piece.specs.Records.{record_cell, record_row}
use Rattle.pac_piece.specs.Sources.{HasTable}
use Rattle.pac_piece.specs.Steps.{GivesValueOf}
use Rattle.pac_piece.proofs.RunLemmas.{record_after, record_silent}

module _ {R : Type 0} (held : R → Tables) (txn : ℕ) (o : NumberedOp) (old new : Ground R) where
  abbrev s : State
  s = state_here held old

  -- it isn't executed
  pub skipped_here : all_hold old.frame.env o.1.conds ≡ false → state_here held new ≡ s → new.frame.note ≡ old.frame.note → StepsHere held txn o old new
  skipped_here hold state note = record {
    state = state ∙ sym (ap (λ b. cond b (done_or_defaulted o.1.kind s (done o.1.kind s)) s) hold);
    note = note ∙ sym (least_none old.frame.note) ∙ sym (ap (λ r. least old.frame.note (first_note (note_at txn o.0 r))) (ap (λ b. cond b (reason_in (done o.1.kind s)) None) hold));
  }

  -- it does what it means
  pub done_here : all_hold old.frame.env o.1.conds ≡ true → done o.1.kind s ≡ Ok (state_here held new) → new.frame.note ≡ old.frame.note → StepsHere held txn o old new
  done_here hold is_done note = record {
    state = sym (ap (λ b. cond b (done_or_defaulted o.1.kind s (done o.1.kind s)) s) hold ∙ ap (done_or_defaulted o.1.kind s) is_done);
    note = note ∙ sym (least_none old.frame.note) ∙ sym (ap (λ r. least old.frame.note (first_note (note_at txn o.0 r))) (ap (λ b. cond b (reason_in (done o.1.kind s)) None) hold ∙ ap reason_in is_done));
  }

  -- it aborts
  pub aborted_here : (reason : Reason) → all_hold old.frame.env o.1.conds ≡ true → done o.1.kind s ≡ Err reason
      → state_here held new ≡ defaulted (defined_variable o.1.kind) (trapped_type o.1.kind) s
      → new.frame.note ≡ least old.frame.note (Some (record { txn = txn; op = o.0; reason = reason })) → StepsHere held txn o old new
  aborted_here reason hold fails state note = record {
    state = state ∙ sym (ap (λ b. cond b (done_or_defaulted o.1.kind s (done o.1.kind s)) s) hold ∙ ap (done_or_defaulted o.1.kind s) fails);
    note = note ∙ sym (ap (λ r. least old.frame.note (first_note (note_at txn o.0 r))) (ap (λ b. cond b (reason_in (done o.1.kind s)) None) hold ∙ ap reason_in fails));
  }

  -- it gives a variable the value of an expression
  pub valued_here : (var : ℕ) (e : Expr) (v : Value) → GivesValueOf o.1.kind var e → all_hold old.frame.env o.1.conds ≡ true → value e old.frame.env ≡ Ok v
      → state_here held new ≡ with_effect None (Gives var v) s → new.frame.note ≡ old.frame.note → StepsHere held txn o old new
  valued_here var e v kind hold is state note = done_here hold (has kind ∙ sym (ap (λ (t : State). Ok t) state)) note
    where
      has : GivesValueOf o.1.kind var e → done o.1.kind s ≡ Ok (with_effect None (Gives var v) s)
      has (inl same) = ap (λ k. done k s) same ∙ ap (λ r. (or_abort r >>= λ w. Ok (Gives var w)) >>= λ d. Ok (with_effect None d s)) is
      has (inr same) = ap (λ k. done k s) same ∙ ap (λ r. (or_abort r >>= λ w. Ok (Gives var w)) >>= λ d. Ok (with_effect None d s)) is

  -- or the expression traps
  pub trapped_here : (var : ℕ) (e : Expr) (trap : Trap) → GivesValueOf o.1.kind var e → value e old.frame.env ≡ Err trap → done o.1.kind s ≡ Err (reason_of trap)
  trapped_here var e trap (inl same) is = ap (λ k. done k s) same ∙ ap (λ r. (or_abort r >>= λ w. Ok (Gives var w)) >>= λ d. Ok (with_effect None d s)) is
  trapped_here var e trap (inr same) is = ap (λ k. done k s) same ∙ ap (λ r. (or_abort r >>= λ w. Ok (Gives var w)) >>= λ d. Ok (with_effect None d s)) is

-- ---- one after another

after-last : (os : List NumberedOp) (o : NumberedOp) (s : State) → after_ops (os ++ o ∷ []) s ≡ after_op o.1 (after_ops os s)
after-last [] o s = refl
after-last (p ∷ os) o s = after-last os o (after_op p.1 s)

first-last : (txn : ℕ) (os : List NumberedOp) (o : NumberedOp) (s : State)
    → first_note (notes_after txn (os ++ o ∷ []) s) ≡ least (first_note (notes_after txn os s)) (first_note (note_at txn o.0 (flat_reason o.1 (after_ops os s))))
first-last txn [] o s = first-append (note_at txn o.0 (flat_reason o.1 s)) [] ∙ least_none (first_note (note_at txn o.0 (flat_reason o.1 s)))
first-last txn (p ∷ os) o s =
    first-append (note_at txn p.0 (flat_reason p.1 s)) (notes_after txn (os ++ o ∷ []) (after_op p.1 s))
    ∙ ap (least (first_note (note_at txn p.0 (flat_reason p.1 s)))) (first-last txn os o (after_op p.1 s))
    ∙ least-assoc (first_note (note_at txn p.0 (flat_reason p.1 s))) (first_note (notes_after txn os (after_op p.1 s))) (first_note (note_at txn o.0 (flat_reason o.1 (after_ops os (after_op p.1 s)))))
    ∙ sym (ap (λ n. least n (first_note (note_at txn o.0 (flat_reason o.1 (after_ops os (after_op p.1 s)))))) (first-append (note_at txn p.0 (flat_reason p.1 s)) (notes_after txn os (after_op p.1 s))))

same_change : (t : Tables) (change : Change) → with_row t (record_cell change) (record_row change) ≡ with_change t change
same_change t (PutRow table key row) = refl
same_change t (DeleteRow table key) = refl

module _ {R : Type 0} (held : R → Tables) (txn : ℕ) where
  pub none_here : (old : Ground R) → RunsHere held txn [] old old
  none_here old = record { state = refl; note = sym (least_none old.frame.note) }

  -- one more was executed
  pub more_here : (os : List NumberedOp) (i : ℕ) (o : NumberedOp) (old mid new : Ground R) → take (i + 1) os ≡ take i os ++ o ∷ [] → RunsHere held txn (take i os) old mid → StepsHere held txn o mid new → RunsHere held txn (take (i + 1) os) old new
  more_here os i o old mid new taken runs step = subst (λ (ps : List NumberedOp). RunsHere held txn ps old new) (sym taken) (record {
    state = step.state ∙ ap (after_op o.1) runs.state ∙ sym (after-last (take i os) o (state_here held old));
    note = step.note ∙ ap₂ (λ n t. least n (first_note (note_at txn o.0 (flat_reason o.1 t)))) runs.note runs.state
        ∙ sym (least-assoc old.frame.note (first_note (notes_after txn (take i os) (state_here held old))) (first_note (note_at txn o.0 (flat_reason o.1 (after_ops (take i os) (state_here held old))))))
        ∙ sym (ap (least old.frame.note) (first-last txn (take i os) o (state_here held old)));
  })

  -- all were
  pub all_here : (os : List NumberedOp) (i : ℕ) (old new : Ground R) → length os ≤ i → RunsHere held txn (take i os) old new → RunsHere held txn os old new
  all_here os i old new past = subst (λ (ps : List NumberedOp). RunsHere held txn ps old new) (take_all i os past)

  -- the values after those that were executed, where the next one gave none
  pub stops_here : (os : List NumberedOp) (i : ℕ) (old mid new : Ground R) → RunsHere held txn (take i os) old mid → new.frame.env ≡ mid.frame.env → StopsHere held os old new
  stops_here os i old mid new runs same = record { count = i; values = same ∙ ap (λ (t : State). t.env) runs.state }

  -- a record as an operation
  pub recorded_here : (n : ℕ) (change : Change) (old new : Ground R) → IsLeft held (record_cell change) (record_row change) old new → new.frame.env ≡ old.frame.env → new.frame.note ≡ old.frame.note
      → StepsHere held txn (n, record_op change) old new
  recorded_here n change old new left env note = record {
    state = (λ i. record { env = env i; tables = left i }) ∙ ap (λ (t : Tables). record { env = old.frame.env; tables = t }) (same_change (tables_seen held old) change) ∙ sym (record_after change (state_here held old));
    note = note ∙ sym (least_none old.frame.note) ∙ sym (ap (λ r. least old.frame.note (first_note (note_at txn n r))) (record_silent change (state_here held old)));
  }

-- ---- what was kept

module _ {R : Type 0} (held : R → Tables) (tables : R → ℕ) where
  pub keeps_none : (ground : Ground R) → Stands held tables ground → KeepsGround held tables ground ground
  keeps_none ground stands = record { count = refl; before = refl; stands = stands }

  pub keeps_more : (old mid new : Ground R) → KeepsGround held tables old mid → KeepsGround held tables mid new → KeepsGround held tables old new
  keeps_more old mid new one more = record { count = more.count ∙ one.count; before = more.before ∙ one.before; stands = more.stands }

-- the cell that an operation touches is in a table that is there
pub cell_there : (There : ℕ → Type 0) (kind : OpKind) (env : Values) (cell : Option Cell) → touched kind env ≡ Ok cell → HasTable There kind → IfSome cell (λ a. There a.0)
cell_there There kind env None touch there = tt
cell_there There kind env (Some a) touch there = there a.0 (cell-table (record { conds = []; kind = kind }) env a (ap cell_in touch))
