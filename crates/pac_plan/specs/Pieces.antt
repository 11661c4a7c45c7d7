-- Pieces: what transactions do in blocks, over a world in which each number has some code; what a piece touches, which
-- piece comes before which, and replay that takes some pieces alone.
use Rattle.std.specs.Prelude.{◌≡◌, ℕ, Bool, true, false, if◌then◌else◌, ◌&&◌, ◌||◌, not, List, [], ◌∷◌, ◌++◌, ◌==◌, nat_lt, Option, Some, None}
use Rattle.std.specs.List.{list_any}
use Rattle.std.specs.Ordering.{eq_by_cmp}
use Rattle.std.specs.FinMap.{get}
use Rattle.pac_value.specs.declared.values.Ty.{Ty}
use Rattle.pac_value.specs.declared.values.Value.{Value}
use Rattle.pac_value.specs.declared.expr.Expr.{Expr}
use Rattle.pac_value.specs.declared.expr.Expr.TheOpen.{Expr-F, Lit, Var, Bin, Not}
use Rattle.pac_value.specs.declared.expr.Expr.TheFolds.{fold-Expr}
use Rattle.pac_value.specs.Expressions.{Values}
use Rattle.pac_value.specs.State.{Cell, cell_cmp, RowValues, Tables}
use Rattle.pac_ops.specs.declared.note.Note.{Note}
use Rattle.pac_ops.specs.declared.piece.PieceId.{PieceId}
use Rattle.pac_ops.specs.declared.program.FlatOp.{FlatOp}
use Rattle.pac_plan.specs.declared.access.Touch.{Touch}
use Rattle.pac_plan.specs.declared.access.Access.{Access}
use Rattle.pac_plan.specs.declared.access.Access.TheVariants.{Keys, Whole}
use Rattle.pac_ops.specs.Notes.{first_note, least}
use Rattle.pac_ops.specs.Uses.{modifies}
use Rattle.pac_ops.specs.Operations.{State, touched}
use Rattle.pac_ops.specs.Flat.{is_as_asked}
use Rattle.pac_ops.specs.Effects.{target_of, cell_in, NumberedOp, numbered_meaning, numbered_notes, defined_in, used_in}

-- ---- the state of a replay

-- the tables, the variables of each transaction, and the least note
pub record Present : Type 0 where
  pub tables : Tables
  pub envs : ℕ → Values
  pub note : Option Note

-- what a transaction sees of it
abbrev pub of_txn : ℕ → Present → State
of_txn t s = record { env = s.envs t; tables = s.tables }

-- a transaction has these values of variables from now on
abbrev pub with_env : ℕ → Values → (ℕ → Values) → ℕ → Values
with_env t env envs u = if u == t then env else envs u

-- a transaction left this state, and notes
abbrev pub left_by : ℕ → State → List Note → Present → Present
left_by t s notes before = record { tables = s.tables; envs = with_env t s.env before.envs; note = least before.note (first_note notes) }

-- a transaction runs operations
abbrev pub run_ops : ℕ → List Ty → List NumberedOp → Present → Present
run_ops t vars os s = left_by t (numbered_meaning vars os (of_txn t s)) (numbered_notes vars t os (of_txn t s)) s

-- ---- the operations of a piece

-- the operations of a block
abbrev pub part : (NumberedOp → ℕ) → ℕ → List NumberedOp → List NumberedOp
part block b [] = []
part block b (o ∷ os) = if block o == b then o ∷ part block b os else part block b os

-- no variable of the expression passes the test
abbrev pub avoid_step : (ℕ → Bool) → Expr-F Bool → Bool
avoid_step f (Lit v) = true
avoid_step f (Var x) = not (f x)
avoid_step f (Bin op l r) = l && r
avoid_step f (Not e) = e

-- no variable that passes the test is used in the expression
abbrev pub avoids : (ℕ → Bool) → Expr → Bool
avoids f = fold-Expr Bool (avoid_step f)

-- a key is bounded where its variables come from elsewhere
abbrev pub is_bounded : List NumberedOp → Option (ℕ × Expr) → Bool
is_bounded os None = true
is_bounded os (Some n) = avoids (defined_in os) n.1

-- each condition on a variable from elsewhere holds
abbrev pub may_pass : List NumberedOp → Values → List (ℕ × Bool) → Bool
may_pass os env [] = true
may_pass os env (c ∷ cs) = (defined_in os c.0 || is_as_asked c.1 (get env c.0)) && may_pass os env cs

-- the cell that an operation names, unless its key traps
abbrev pub op_cell : FlatOp → Values → Option Cell
op_cell op env = cell_in (touched op.kind env)

-- ---- accesses

-- the cell that a touch names
abbrev pub named_cell : Touch → Cell
named_cell touch = (touch.table, touch.key)

-- the touch of a cell
abbrev pub touch_at : Cell → Bool → Touch
touch_at cell is_write = record { table = cell.0; key = cell.1; is_write = is_write }

-- one more touch, where there is a cell
abbrev pub touch : Option Cell → Bool → List Touch → List Touch
touch None w rest = rest
touch (Some a) w rest = touch_at a w ∷ rest

-- the touches of the operations that may run
abbrev pub touches_of : List NumberedOp → Values → List NumberedOp → List Touch
touches_of os env [] = []
touches_of os env (o ∷ more) = if may_pass os env o.1.conds then touch (op_cell o.1 env) (modifies o.1.kind) (touches_of os env more) else touches_of os env more

-- an operation may run, and its key is not bounded
abbrev pub is_loose : List NumberedOp → Values → NumberedOp → Bool
is_loose os env o = may_pass os env o.1.conds && not (is_bounded os (target_of o.1.kind))

-- the access of operations, over the values that come from elsewhere
abbrev pub access_of : List NumberedOp → Values → Access
access_of os env = if list_any (is_loose os env) os then Whole else Keys (touches_of os env os)

-- two accesses conflict: one of them is whole, or both name a row that one of them modifies
abbrev pub conflicts : Access → Access → Bool
conflicts Whole y = true
conflicts (Keys l) Whole = true
conflicts (Keys l) (Keys m) = list_any (λ e. list_any (λ d. eq_by_cmp cell_cmp (named_cell e) (named_cell d) && (e.is_write || d.is_write)) m) l

-- the access names the row at a cell
abbrev pub covers : Access → Cell → Bool
covers Whole a = true
covers (Keys l) a = list_any (λ e. eq_by_cmp cell_cmp (named_cell e) a) l

-- the access modifies the row at a cell
abbrev pub covers_write : Access → Cell → Bool
covers_write Whole a = true
covers_write (Keys l) a = list_any (λ e. e.is_write && eq_by_cmp cell_cmp (named_cell e) a) l

-- ---- worlds

-- what the transactions run, by number, and the types of their variables; the block of each operation; the home of each
-- table; the edges between blocks; the batch of each transaction
pub record World : Type 0 where
  pub code : ℕ → List NumberedOp
  pub vars : ℕ → List Ty
  pub block : ℕ → NumberedOp → ℕ
  pub home : ℕ → ℕ
  pub edge : ℕ → ℕ → Bool
  pub batch : ℕ → ℕ

-- the operations of a piece
abbrev pub ops : World → PieceId → List NumberedOp
ops w p = part (w.block p.txn) p.block (w.code p.txn)

-- the state after the operations of a piece
unfoldable pub apply : World → PieceId → Present → Present
apply w p s = run_ops p.txn (w.vars p.txn) (ops w p) s

-- the access of a piece, over the values that its transaction ends with
abbrev pub access : World → (ℕ → Values) → PieceId → Access
access w env p = access_of (ops w p) (env p.txn)

-- p comes before q
abbrev pub precedes : World → (ℕ → Values) → PieceId → PieceId → Bool
precedes w env p q =
    (w.batch p.txn == w.batch q.txn && w.edge p.block q.block)
    || ((p.block == q.block && nat_lt (w.batch p.txn) (w.batch q.txn))
    || (p.block == q.block && w.batch p.txn == w.batch q.txn && nat_lt p.txn q.txn && conflicts (access w env p) (access w env q)))

-- what q can't do without: p of its own transaction, from which a flow leads, and p of its block, earlier and in conflict
abbrev pub needs : World → (ℕ → Values) → PieceId → PieceId → Bool
needs w env p q =
    (p.txn == q.txn && w.edge p.block q.block)
    || (p.block == q.block && nat_lt p.txn q.txn && conflicts (access w env p) (access w env q))

-- the variables that operations use and don't define have these values
abbrev pub InputsAre : List NumberedOp → Values → Values → Type 0
InputsAre os wanted env = (x : ℕ) → used_in os x ≡ true → defined_in os x ≡ false → get env x ≡ get wanted x

-- the inputs of a piece have the values that its transaction ends with
abbrev pub HasInputs : World → (ℕ → Values) → PieceId → Present → Type 0
HasInputs w env p s = InputsAre (ops w p) (env p.txn) (s.envs p.txn)

-- a piece exists where it has an operation
abbrev pub has_ops : List NumberedOp → Bool
has_ops [] = false
has_ops (o ∷ os) = true

-- the piece has an operation
abbrev pub piece_exists : World → PieceId → Bool
piece_exists w p = has_ops (ops w p)

-- the pieces of one transaction, block by block
abbrev pub blocks_of : World → ℕ → List ℕ → List PieceId
blocks_of w t [] = []
blocks_of w t (b ∷ bs) = if piece_exists w (record { txn = t; block = b }) then record { txn = t; block = b } ∷ blocks_of w t bs else blocks_of w t bs

-- the pieces that exist, transaction by transaction, block by block
abbrev pub pieces : World → List ℕ → List ℕ → List PieceId
pieces w [] bs = []
pieces w (t ∷ ts) bs = blocks_of w t bs ++ pieces w ts bs

-- the state after the pieces that F picks, one after another
unfoldable pub partial : World → (PieceId → Bool) → List PieceId → Present → Present
partial w F [] s = s
partial w F (p ∷ ps) s = partial w F ps (if F p then apply w p s else s)

-- the state after all operations of the transactions in order
unfoldable pub replayed_in : World → List ℕ → Present → Present
replayed_in w [] s = s
replayed_in w (t ∷ ts) s = replayed_in w ts (run_ops t (w.vars t) (w.code t) s)

-- the two are one piece
abbrev pub is_piece : PieceId → PieceId → Bool
is_piece p q = p.txn == q.txn && p.block == q.block

-- the pieces that F picks, and p
abbrev pub adds : (PieceId → Bool) → PieceId → PieceId → Bool
adds F p q = is_piece p q || F q

-- each piece is picked
abbrev pub every : PieceId → Bool
every p = true

-- ---- what is read and written one by one

-- of all transactions
pub data Location : Type 0 where
  RowOf : Cell → Location
  VarOf : (txn var : ℕ) → Location

-- what stands at a location
abbrev pub at_location : Present → Location → Option RowValues × Option Value
at_location s (RowOf a) = (get s.tables a, None)
at_location s (VarOf t x) = (None, get (s.envs t) x)

-- what a piece may touch: the rows that its access names, in tables whose home is its block, and the variables that it uses or
-- defines
abbrev pub touches : World → (ℕ → Values) → PieceId → Location → Bool
touches w env p (RowOf a) = p.block == w.home a.0 && covers (access w env p) a
touches w env p (VarOf t x) = t == p.txn && (used_in (ops w p) x || defined_in (ops w p) x)

-- what a piece may change: the rows that its access modifies, in tables whose home is its block, and the variables that it
-- defines
abbrev pub writes : World → (ℕ → Values) → PieceId → Location → Bool
writes w env p (RowOf a) = p.block == w.home a.0 && covers_write (access w env p) a
writes w env p (VarOf t x) = t == p.txn && defined_in (ops w p) x
