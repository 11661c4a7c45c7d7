-- Work on copies: what a piece holds, what it made of that, and what stands once that is put back.
use Rattle.std.specs.Prelude.{◌≡◌, ℕ, Bool, true, false, List, Option, Some, None}
use Rattle.std.specs.FinMap.{get, insert, remove}
use Rattle.pac_value.specs.declared.values.Value.{Value}
use Rattle.pac_value.specs.Expressions.{Values}
use Rattle.pac_value.specs.State.{Cell, RowValues}
use Rattle.pac_ops.specs.declared.piece.PieceId.{PieceId}
use Rattle.pac_ops.specs.Notes.{first_note, least}
use Rattle.pac_ops.specs.Operations.{State}
use Rattle.pac_ops.specs.Effects.{numbered_meaning, numbered_notes, defined_in, used_in}
use Rattle.pac_plan.specs.Pieces.{Present, of_txn, World, ops, apply, partial, pieces, access, covers, HasInputs, Location, RowOf, at_location, touches, writes}

-- the work has the state's rows of the access, its inputs, and its values of the variables that the piece defines
pub record IsWork (w : World) (env : ℕ → Values) (p : PieceId) (s : Present) (work : State) : Type 0 where
  pub rows : (a : Cell) → covers (access w env p) a ≡ true → get work.tables a ≡ get s.tables a
  pub inputs : (x : ℕ) → used_in (ops w p) x ≡ true → defined_in (ops w p) x ≡ false → get work.env x ≡ get (s.envs p.txn) x
  pub fresh : (x : ℕ) → defined_in (ops w p) x ≡ true → get work.env x ≡ get (s.envs p.txn) x

-- the state of the work once the operations of the piece have run on it
abbrev pub worked : World → PieceId → State → State
worked w p work = numbered_meaning (w.vars p.txn) (ops w p) work

-- the rows that the piece wrote, and the variables that it gave, by look-up
pub record IsOutcome (w : World) (env : ℕ → Values) (p : PieceId) (work : State) (rows : Cell → Option (Option RowValues)) (outs : ℕ → Option Value) : Type 0 where
  pub written : (q : Cell) (row : Option RowValues) → rows q ≡ Some row → (writes w env p (RowOf q) ≡ true) × (get (worked w p work).tables q ≡ row)
  pub unwritten : (q : Cell) → rows q ≡ None → get (worked w p work).tables q ≡ get work.tables q
  pub given : (x : ℕ) (v : Value) → outs x ≡ Some v → (defined_in (ops w p) x ≡ true) × (get (worked w p work).env x ≡ Some v)
  pub ungiven : (x : ℕ) → outs x ≡ None → get (worked w p work).env x ≡ get work.env x

-- what was made, or what stood before where nothing was made
abbrev pub put_over : {A : Type 0} → Option A → A → A
put_over None old = old
put_over (Some new) old = new

-- the value that was given, or the one before where none was
abbrev pub given_over : Option Value → Option Value → Option Value
given_over None old = old
given_over (Some v) old = Some v

-- what was made stands in the state
pub record IsPut (w : World) (p : PieceId) (work : State) (rows : Cell → Option (Option RowValues)) (outs : ℕ → Option Value) (s s' : Present) : Type 0 where
  pub tables : (q : Cell) → get s'.tables q ≡ put_over (rows q) (get s.tables q)
  pub own : (x : ℕ) → get (s'.envs p.txn) x ≡ given_over (outs x) (get (s.envs p.txn) x)
  pub others : (u x : ℕ) → (u ≡ p.txn → ⊥) → get (s'.envs u) x ≡ get (s.envs u) x
  pub note : s'.note ≡ least s.note (first_note (numbered_notes (w.vars p.txn) p.txn (ops w p) work))

-- work on copies, put back, is `apply`
abbrev pub WorkIsApply : World → Type 0
WorkIsApply w = (env : ℕ → Values) (p : PieceId) (s s' : Present) (work : State) (rows : Cell → Option (Option RowValues)) (outs : ℕ → Option Value)
    → HasInputs w env p s → IsWork w env p s work → IsOutcome w env p work rows outs → IsPut w p work rows outs s s' → s' ≡ apply w p s

-- a piece changes nothing but what it writes; and what it makes of what it touches, and its notes, depend on what it touches alone: on its inputs
-- and the rows of its access
abbrev pub WithinAccess : World → Type 0
WithinAccess w = (env : ℕ → Values) (p : PieceId) (s : Present) → HasInputs w env p s
    → ((c : Location) → writes w env p c ≡ false → at_location (apply w p s) c ≡ at_location s c)
    × ((s' : Present) → ((c : Location) → touches w env p c ≡ true → at_location s c ≡ at_location s' c)
    → ((c : Location) → touches w env p c ≡ true → at_location (apply w p s) c ≡ at_location (apply w p s') c)
    × (numbered_notes (w.vars p.txn) p.txn (ops w p) (of_txn p.txn s) ≡ numbered_notes (w.vars p.txn) p.txn (ops w p) (of_txn p.txn s')))

-- a piece that isn't in F has given nothing
abbrev pub Fresh : World → List ℕ → List ℕ → Type 0
Fresh w ts bs = (s : Present) (F : PieceId → Bool) (p : PieceId) → F p ≡ false
    → (x : ℕ) → defined_in (ops w p) x ≡ true → get ((partial w F (pieces w ts bs) s).envs p.txn) x ≡ get (s.envs p.txn) x

-- a variable has this value, or none
abbrev pub with_value : Values → ℕ → Option Value → Values
with_value env x None = remove env x
with_value env x (Some v) = insert env x v
