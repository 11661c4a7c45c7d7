-- No transaction of the test aborts: of at most 100,000 none brings a value near the limits of an int. After k puts each amount of an account
-- is within k times 1,000, and each other value within k times 300,000,001.
use Rattle.std.proofs.Common.{◌≡◌, ◌≤◌, ◌<◌, ℕ, zero, suc, ◌+◌, ◌*◌, ◌%◌, ◌/◌, ◌^◌, ℤ, pos, negsuc, neg_ℤ, ◌+ℤ◌, ◌-ℤ◌, ◌≤ℤ◌, Bool, true, false, cond, not, List, [], ◌∷◌, map, Option, Some, None, Result, Ok, Err, ⊎_elim, w64, SFits, refl, sym, ap, subst, ◌∙◌, arith}
use Rattle.std.specs.Prelude.{int_div, nat_eq, nat_le, slice_get, unwrap_or, if◌then◌else◌}
use Rattle.std.specs.FinMap.{empty, get, insert, get-empty, get-insert}
use Rattle.std.specs.Ordering.{eq_by_cmp, int_eq, is_gt, int_cmp}
use Rattle.std.specs.Cmp.{nat_cmp_total}
use Rattle.std.proofs.lemmas.Bool.Decides.{leb_tells}
use Rattle.std.proofs.lemmas.Int.{ints}
use Rattle.pac_value.specs.declared.values.Key.{Key}
use Rattle.pac_value.specs.declared.values.Key.TheVariants.{Int as IntKey}
use Rattle.pac_value.specs.declared.values.Value.{Value}
use Rattle.pac_value.specs.declared.values.Value.TheVariants.{Int, Bool as Truth}
use Rattle.pac_value.specs.declared.expr.BinOp.{BinOp}
use Rattle.pac_value.specs.declared.expr.BinOp.TheVariants.{Add, Sub, Div, Ne, Gt}
use Rattle.pac_value.specs.declared.expr.Expr.{Expr, Lit, Var, Bin}
use Rattle.pac_value.specs.declared.expr.Trap.{Trap}
use Rattle.pac_value.specs.Expressions.{Values, applied, checked, decides, joined, value, value_step, ◌>>=◌}
use Rattle.pac_value.specs.State.{Cell, cell_cmp, RowValues, Tables}
use Rattle.pac_value.specs.Values.{as_key}
use Rattle.pac_value.proofs.ByForms.{fold-Lit, fold-Var, fold-Bin}
use Rattle.pac_value.proofs.CellLemmas.{cells_total, tied_same}
use Rattle.pac_value.proofs.RemainderLemmas.{checked-fits}
use Rattle.pac_ops.specs.declared.note.Note.{Note}
use Rattle.pac_ops.specs.declared.program.OpKind.{OpKind}
use Rattle.pac_ops.specs.declared.program.OpKind.TheVariants as kind
use Rattle.pac_ops.specs.Operations.{Leaves, State, column_or, define, done, effect, opening, row_at, with_effect, write}
use Rattle.pac_ops.specs.Reasons.{or_abort}
use Rattle.pac_tokens.proofs.Spelled.{some_is}
use Rattle.pac_types.specs.declared.procedure.Proc.{Proc}
use Rattle.pac_types.specs.declared.statement.Stmt.{Stmt, Read, Put, If}
use Rattle.pac_types.specs.declared.statement.Stmt.TheFolds.{fold-Stmt}
use Rattle.pac_types.specs.Execution.{called_at, in_txn, serial, txn_meaning}
use Rattle.pac_types.specs.Meaning.{Abort, at_operation, branch, called, meaning, runs, step_count}
use Rattle.pac_types.specs.Unrolled.{Branch, End, Op, UnrolledSteps, Unrolling, unroll_conditional, unroll_one, unroll_step, unrolled, unrolling}
use Rattle.pac_types.proofs.StmtForms.{at-Read, at-Put, at-If}
use Rattle.pac_types.specs.Typing.{CatalogueState}
use Rattle.pac_script.specs.BankText.{bank_text}
use Rattle.pac_flat.proofs.OneAcceptance.{one_catalogue}
use Rattle.pac_script.specs.Stress.{deposit, family, mixed, number, stress_txn, transfer}
use Rattle.pac_stress.specs.BankCatalogue.{bank_catalogue, deposit_proc, transfer_proc}
use Rattle.pac_stress.specs.Stressed.{AbortsStress, stress_outcome}
use Rattle.pac_stress.specs.StressBatches.{stress_txns}
use Rattle.pac_stress.proofs.BankTyping.{bank-has, is-written, written}

-- ---- small numbers

-- from -m to m
abbrev Within : ℕ → ℤ → Type 0
Within m z = (neg_ℤ (pos m) ≤ℤ z) × (z ≤ℤ pos m)

fits_small : (z : ℤ) (m : ℕ) → Within m z → m < 2 ^ 63 → SFits w64 z
fits_small (pos n) m h small = record { sfits = omega (arith, ints, h.1, small) }
fits_small (negsuc n) m h small = record { sfits = omega (arith, ints, h.0, small) }

checked_small : (z : ℤ) (m : ℕ) → Within m z → m < 2 ^ 63 → checked z ≡ Ok (Int z)
checked_small z m h small = checked-fits z (fits_small z m h small)

fiftieth : (z : ℤ) (m : ℕ) → Within m z → Within m (int_div z (pos 50))
fiftieth (pos n) m h = (omega (arith, ints, h.1), omega (arith, ints, h.1))
fiftieth (negsuc n) m h = (omega (arith, ints, h.0), omega (arith, ints, h.0))

-- ---- values of expressions

module _ (env : Values) where
  of_var : (y : ℕ) (v : Value) → get env y ≡ Some v → value (Var y) env ≡ Ok v
  of_var y v h = fold-Var (Result Value Trap) (value_step env) y ∙ ap (λ (o : Option Value). Ok (unwrap_or o (Truth false))) h

  of_lit : (v : Value) → value (Lit v) env ≡ Ok v
  of_lit v = fold-Lit (Result Value Trap) (value_step env) v

  of_bin : (op : BinOp) (l r : Expr) (a b c : Value) → value l env ≡ Ok a → value r env ≡ Ok b → decides op a ≡ false → applied op a b ≡ Ok c → value (Bin op l r) env ≡ Ok c
  of_bin op l r a b c left right open_ is =
      fold-Bin (Result Value Trap) (value_step env) op l r
      ∙ (λ i. left i >>= λ x. joined op x (right i))
      ∙ ap (λ (d : Bool). if d then Ok a else applied op a b) open_ ∙ is

-- ---- tables whose values are small

-- how large a value of a table may be after so many puts
abbrev most : ℕ → ℕ → ℕ
most k t = if nat_eq t 1 then k * 1000 else k * 300000001

abbrev IsSmallRow : ℕ → RowValues → Type 0
IsSmallRow m row = (z : ℤ) × (row ≡ Int z ∷ []) × Within m z

abbrev AreSmall : ℕ → Tables → Type 0
AreSmall k tables = (cell : Cell) (row : RowValues) → get tables cell ≡ Some row → IsSmallRow (most k cell.0) row

none_small : AreSmall 0 empty
none_small cell row h = let no : None ≡ Some row = sym (get-empty cell_cmp cell) ∙ h in absurd cc

more_within : (k t : ℕ) (z : ℤ) → Within (most k t) z → Within (most (k + 1) t) z
more_within k t z = go (nat_eq t 1)
  where
    go : (b : Bool) → Within (if b then k * 1000 else k * 300000001) z → Within (if b then (k + 1) * 1000 else (k + 1) * 300000001) z
    go true h = (omega (arith, ints, h.0), omega (arith, ints, h.1))
    go false h = (omega (arith, ints, h.0), omega (arith, ints, h.1))

more_small : (k : ℕ) (tables : Tables) → AreSmall k tables → AreSmall (k + 1) tables
more_small k tables small cell row h = let r = small cell row h in (r.0, r.1, more_within k cell.0 r.0 r.2)

put_small : (k : ℕ) (tables : Tables) (t : ℕ) (key : Key) (z : ℤ) → AreSmall k tables → Within (most (k + 1) t) z → AreSmall (k + 1) (insert tables (t, key) (Int z ∷ []))
put_small k tables t key z small h cell row found = go (eq_by_cmp cell_cmp cell (t, key)) refl (sym (get-insert cells_total tables (t, key) (Int z ∷ []) cell) ∙ found)
  where
    go : (same : Bool) → eq_by_cmp cell_cmp cell (t, key) ≡ same → cond same (Some (Int z ∷ [])) (get tables cell) ≡ Some row → IsSmallRow (most (k + 1) cell.0) row
    go true is e = (z, sym (some_is (Int z ∷ []) row e), subst (λ (c : Cell). Within (most (k + 1) c.0) z) (sym (tied_same cell (t, key) is)) h)
    go false is e = more_small k tables small cell row e

column_small : (m : ℕ) (o : Option RowValues) → ((row : RowValues) → o ≡ Some row → IsSmallRow m row) → (z : ℤ) × (column_or o 0 (number 0) ≡ Int z) × Within m z
column_small m None h = (pos 0, refl, (omega (arith, ints), omega (arith, ints)))
column_small m (Some row) h = let r = h row refl in (r.0, ap (λ (vs : RowValues). unwrap_or (slice_get vs 0) (number 0)) r.1, r.2)

-- ---- steps that end

-- the steps end in a state with this property
record EndsIn (P : State → Type 0) (steps : UnrolledSteps) (n : ℕ) (s : State) : Type 0 where
  end : State
  is : runs steps n s ≡ Ok end
  has : P end

after_op : (P : State → Type 0) (kind : OpKind) (rest : UnrolledSteps) (n : ℕ) (s mid : State) → done kind s ≡ Ok mid → EndsIn P rest (n + 1) mid → EndsIn P (Op kind rest) n s
after_op P kind rest n s mid is ends = record {
  end = ends.end;
  is = (λ i. at_operation n (is i) >>= λ t. runs rest (n + 1) t) ∙ ends.is;
  has = ends.has;
}

at_end : (P : State → Type 0) (n : ℕ) (s : State) → P s → EndsIn P End n s
at_end P n s h = record { end = s; is = refl; has = h }

after_branch : (P Q : State → Type 0) (x : ℕ) (e : Expr) (first second rest : UnrolledSteps) (n : ℕ) (s : State) (b : Bool) → value e s.env ≡ Ok (Truth b)
    → ((m : ℕ) → EndsIn Q first m (define x (Truth b) s)) → ((m : ℕ) → EndsIn Q second m (define x (Truth b) s)) → ((t : State) → Q t → (m : ℕ) → EndsIn P rest m t) → EndsIn P (Branch x e first second rest) n s
after_branch P Q x e first second rest n s b is in_first in_second later = go b is in_first in_second
  where
    with_block : (b : Bool) → value e s.env ≡ Ok (Truth b) → (t : State) → branch (Truth b) (runs first (n + 1)) (runs second (n + 1 + step_count first)) (define x (Truth b) s) ≡ Ok t → Q t → EndsIn P (Branch x e first second rest) n s
    with_block b is t block h =
        let ends = later t h (n + 1 + step_count first + step_count second) in
        record {
          end = ends.end;
          is = (λ i. at_operation n (or_abort (is i)) >>= λ v. branch v (runs first (n + 1)) (runs second (n + 1 + step_count first)) (define x v s) >>= λ u. runs rest (n + 1 + step_count first + step_count second) u)
              ∙ ap (λ r. r >>= λ u. runs rest (n + 1 + step_count first + step_count second) u) block ∙ ends.is;
          has = ends.has;
        }

    go : (b : Bool) → value e s.env ≡ Ok (Truth b) → ((m : ℕ) → EndsIn Q first m (define x (Truth b) s)) → ((m : ℕ) → EndsIn Q second m (define x (Truth b) s)) → EndsIn P (Branch x e first second rest) n s
    go true is in_first in_second = let f = in_first (n + 1) in with_block true is f.end f.is f.has
    go false is in_first in_second = let f = in_second (n + 1 + step_count first) in with_block false is f.end f.is f.has

is_read : (x t y : ℕ) (s : State) (key z : ℤ) → get s.env y ≡ Some (Int key) → column_or (get s.tables (t, IntKey key)) 0 (number 0) ≡ Int z → done (kind.Read x t (Var y) 0 (number 0)) s ≡ Ok (define x (Int z) s)
is_read x t y s key z here is =
    (λ i. or_abort (of_var s.env y (Int key) here i >>= λ v. Ok (Some (t, as_key v))) >>= λ cell. effect (kind.Read x t (Var y) 0 (number 0)) s.env (row_at s.tables cell) >>= λ f. Ok (with_effect cell f s))
    ∙ ap (λ (v : Value). Ok (define x v s)) is

is_put : (t y : ℕ) (e : Expr) (s : State) (key w : ℤ) → get s.env y ≡ Some (Int key) → value e s.env ≡ Ok (Int w) → done (kind.Put t (Var y) (e ∷ [])) s ≡ Ok (write (t, IntKey key) (Some (Int w ∷ [])) s)
is_put t y e s key w here is =
    (λ i. or_abort (of_var s.env y (Int key) here i >>= λ v. Ok (Some (t, as_key v))) >>= λ cell. (or_abort (is i >>= λ v. Ok (v ∷ [])) >>= λ vs. Ok (Leaves (Some vs))) >>= λ f. Ok (with_effect cell f s))

-- a value is read at a key, and another is put there
after_both : (P : State → Type 0) (k t x y : ℕ) (e : Expr) (rest : UnrolledSteps) (n : ℕ) (s : State) (key : ℤ) → get s.env y ≡ Some (Int key) → ((v : ℤ) → get (insert s.env x (Int v)) y ≡ Some (Int key)) → AreSmall k s.tables
    → ((v : ℤ) → Within (most k t) v → (w : ℤ) × (value e (insert s.env x (Int v)) ≡ Ok (Int w)) × Within (most (k + 1) t) w)
    → ((v w : ℤ) → Within (most k t) v → AreSmall (k + 1) (insert s.tables (t, IntKey key) (Int w ∷ [])) → (m : ℕ) → EndsIn P rest m (record { env = insert s.env x (Int v); tables = insert s.tables (t, IntKey key) (Int w ∷ []) }))
    → EndsIn P (Op (kind.Read x t (Var y) 0 (number 0)) (Op (kind.Put t (Var y) (e ∷ [])) rest)) n s
after_both P k t x y e rest n s key here still small gives later =
    let old = column_small (most k t) (get s.tables (t, IntKey key)) (λ row found. small (t, IntKey key) row found) in
    let new = gives old.0 old.2 in
    let mid : State = define x (Int old.0) s in
    let end : State = write (t, IntKey key) (Some (Int new.0 ∷ [])) mid in
    after_op P (kind.Read x t (Var y) 0 (number 0)) (Op (kind.Put t (Var y) (e ∷ [])) rest) n s mid (is_read x t y s key old.0 here old.1)
    (after_op P (kind.Put t (Var y) (e ∷ [])) rest (n + 1) mid end (is_put t y e mid key new.0 (still old.0) new.1) (later old.0 new.0 old.2 (put_small k s.tables t (IntKey key) new.0 small new.2) (n + 1 + 1)))

-- ---- what the statements are

unroll_read : (x t : ℕ) (k : Expr) (c : ℕ) (d : Value) → unrolling (Read x t k c d) ≡ unroll_one (kind.Read x t k c d)
unroll_read x t k c d = at-Read Unrolling unroll_step (Read x t k c d) x t k c d refl

unroll_put : (t : ℕ) (k : Expr) (es : List Expr) → unrolling (Put t k es) ≡ unroll_one (kind.Put t k es)
unroll_put t k es = at-Put Unrolling unroll_step (Put t k es) t k es refl

unroll_if : (x : ℕ) (e : Expr) (first second : List Stmt) → unrolling (If x e first second) ≡ unroll_conditional x e (map unrolling first) (map unrolling second)
unroll_if x e first second = at-If Unrolling unroll_step (If x e first second) x e first second refl

abbrev read_step : ℕ → ℕ → ℕ → UnrolledSteps → UnrolledSteps
read_step x t y rest = Op (kind.Read x t (Var y) 0 (number 0)) rest

abbrev put_step : ℕ → ℕ → Expr → UnrolledSteps → UnrolledSteps
put_step t y e rest = Op (kind.Put t (Var y) (e ∷ [])) rest

abbrev both_steps : ℕ → ℕ → ℕ → Expr → UnrolledSteps → UnrolledSteps
both_steps x t y e rest = read_step x t y (put_step t y e rest)

abbrev transfer_block : UnrolledSteps
transfer_block = both_steps 4 1 0 (Bin Sub (Var 4) (Var 1)) (both_steps 5 1 2 (Bin Add (Var 5) (Var 1)) (both_steps 6 2 0 (Bin Add (Var 6) (Lit (number 1))) End))

abbrev transfer_steps : UnrolledSteps
transfer_steps = read_step 2 0 0 (Branch 3 (Bin Ne (Var 2) (Lit (number 0))) transfer_block End End)

abbrev saving_block : UnrolledSteps
saving_block = both_steps 5 2 0 (Bin Add (Var 5) (Bin Div (Var 3) (Lit (number 50)))) End

abbrev stats_steps : UnrolledSteps
stats_steps = both_steps 6 3 2 (Bin Add (Var 6) (Lit (number 1))) End

abbrev deposit_steps : UnrolledSteps
deposit_steps = both_steps 3 1 0 (Bin Add (Var 3) (Var 1)) (Branch 4 (Bin Gt (Bin Add (Var 3) (Var 1)) (Lit (number 10000))) saving_block End stats_steps)

transfer_is : unrolled transfer_proc ≡ transfer_steps
transfer_is = simp (unroll_read, unroll_put, unroll_if, fold-Var, fold-Bin, fold-Lit)

deposit_is : unrolled deposit_proc ≡ deposit_steps
deposit_is = simp (unroll_read, unroll_put, unroll_if, fold-Var, fold-Bin, fold-Lit)

-- ---- the sums

-- an int more or less by at most a thousand
sum_small : (env : Values) (l r : Expr) (k a : ℕ) (v : ℤ) → value l env ≡ Ok (Int v) → value r env ≡ Ok (number a) → a ≤ 1000 → k < 300000 → Within (k * 1000) v
    → (w : ℤ) × (value (Bin Add l r) env ≡ Ok (Int w)) × Within ((k + 1) * 1000) w
sum_small env l r k a v left right few low h =
    let within : Within ((k + 1) * 1000) (v +ℤ pos a) = (omega (arith, ints, h.0), omega (arith, ints, h.1, few)) in
    (v +ℤ pos a, of_bin env Add l r (Int v) (number a) (Int (v +ℤ pos a)) left right refl (checked_small (v +ℤ pos a) ((k + 1) * 1000) within (omega (arith, low))), within)

less_small : (env : Values) (l r : Expr) (k a : ℕ) (v : ℤ) → value l env ≡ Ok (Int v) → value r env ≡ Ok (number a) → a ≤ 1000 → k < 300000 → Within (k * 1000) v
    → (w : ℤ) × (value (Bin Sub l r) env ≡ Ok (Int w)) × Within ((k + 1) * 1000) w
less_small env l r k a v left right few low h =
    let within : Within ((k + 1) * 1000) (v -ℤ pos a) = (omega (arith, ints, h.0, few), omega (arith, ints, h.1)) in
    (v -ℤ pos a, of_bin env Sub l r (Int v) (number a) (Int (v -ℤ pos a)) left right refl (checked_small (v -ℤ pos a) ((k + 1) * 1000) within (omega (arith, low))), within)

-- an int more by one that is within 300,000,000
raised_small : (env : Values) (l r : Expr) (k : ℕ) (v u : ℤ) → value l env ≡ Ok (Int v) → value r env ≡ Ok (Int u) → Within 300000000 u → k < 300000 → Within (k * 300000001) v
    → (w : ℤ) × (value (Bin Add l r) env ≡ Ok (Int w)) × Within ((k + 1) * 300000001) w
raised_small env l r k v u left right few low h =
    let within : Within ((k + 1) * 300000001) (v +ℤ u) = (omega (arith, ints, h.0, few.0), omega (arith, ints, h.1, few.1)) in
    (v +ℤ u, of_bin env Add l r (Int v) (Int u) (Int (v +ℤ u)) left right refl (checked_small (v +ℤ u) ((k + 1) * 300000001) within (omega (arith, low))), within)

one_within : Within 300000000 (pos 1)
one_within = (omega (arith, ints), omega (arith, ints))

-- ---- the procedures end

abbrev SmallAt : ℕ → State → Type 0
SmallAt k s = AreSmall k s.tables

module _ (src amount : ℕ) (few : amount ≤ 1000) where
  -- an account is raised or lowered, and then another
  transfer_block_ends : (k n : ℕ) (s : State) (d : ℤ) → k + 3 ≤ 300000 → get s.env 0 ≡ Some (number src) → get s.env 1 ≡ Some (number amount) → get s.env 2 ≡ Some (Int d) → AreSmall k s.tables → EndsIn (SmallAt (k + 1 + 1 + 1)) transfer_block n s
  transfer_block_ends k n s d low h0 h1 h2 small =
      after_both P k 1 4 0 (Bin Sub (Var 4) (Var 1)) _ n s (pos src) h0 (λ v. get-insert nat_cmp_total s.env 4 (Int v) 0 ∙ h0) small
      (λ v h. less_small (insert s.env 4 (Int v)) (Var 4) (Var 1) k amount v
      (of_var (insert s.env 4 (Int v)) 4 (Int v) (get-insert nat_cmp_total s.env 4 (Int v) 4)) (of_var (insert s.env 4 (Int v)) 1 (number amount) (get-insert nat_cmp_total s.env 4 (Int v) 1 ∙ h1)) few (omega (arith, low)) h)
      (λ v4 w4 in4 small4 m4.
      let env4 : Values = insert s.env 4 (Int v4) in
      let at4 : State = record { env = env4; tables = insert s.tables (1, IntKey (pos src)) (Int w4 ∷ []) } in
      let g0 : get env4 0 ≡ Some (number src) = get-insert nat_cmp_total s.env 4 (Int v4) 0 ∙ h0 in
      let g1 : get env4 1 ≡ Some (number amount) = get-insert nat_cmp_total s.env 4 (Int v4) 1 ∙ h1 in
      let g2 : get env4 2 ≡ Some (Int d) = get-insert nat_cmp_total s.env 4 (Int v4) 2 ∙ h2 in
      after_both P (k + 1) 1 5 2 (Bin Add (Var 5) (Var 1)) _ m4 at4 d g2 (λ v. get-insert nat_cmp_total env4 5 (Int v) 2 ∙ g2) small4
      (λ v h. sum_small (insert env4 5 (Int v)) (Var 5) (Var 1) (k + 1) amount v
      (of_var (insert env4 5 (Int v)) 5 (Int v) (get-insert nat_cmp_total env4 5 (Int v) 5)) (of_var (insert env4 5 (Int v)) 1 (number amount) (get-insert nat_cmp_total env4 5 (Int v) 1 ∙ g1)) few (omega (arith, low)) h)
      (λ v5 w5 in5 small5 m5.
      let env5 : Values = insert env4 5 (Int v5) in
      let at5 : State = record { env = env5; tables = insert at4.tables (1, IntKey d) (Int w5 ∷ []) } in
      let f0 : get env5 0 ≡ Some (number src) = get-insert nat_cmp_total env4 5 (Int v5) 0 ∙ g0 in
      after_both P (k + 1 + 1) 2 6 0 (Bin Add (Var 6) (Lit (number 1))) End m5 at5 (pos src) f0 (λ v. get-insert nat_cmp_total env5 6 (Int v) 0 ∙ f0) small5
      (λ v h. raised_small (insert env5 6 (Int v)) (Var 6) (Lit (number 1)) (k + 1 + 1) v (pos 1)
      (of_var (insert env5 6 (Int v)) 6 (Int v) (get-insert nat_cmp_total env5 6 (Int v) 6)) (of_lit (insert env5 6 (Int v)) (number 1)) one_within (omega (arith, low)) h)
      (λ v6 w6 in6 small6 m6. at_end P m6 _ small6)))
    where
      P : State → Type 0
      P = SmallAt (k + 1 + 1 + 1)

  transfer_ends : (k : ℕ) (tables : Tables) → k + 3 ≤ 300000 → AreSmall k tables → EndsIn (SmallAt (k + 1 + 1 + 1)) transfer_steps 0 (opening (number src ∷ number amount ∷ []) tables)
  transfer_ends k tables low small =
      let s : State = opening (number src ∷ number amount ∷ []) tables in
      let h0 : get s.env 0 ≡ Some (number src) = get-insert nat_cmp_total (insert empty 0 (number src)) 1 (number amount) 0 ∙ get-insert nat_cmp_total empty 0 (number src) 0 in
      let h1 : get s.env 1 ≡ Some (number amount) = get-insert nat_cmp_total (insert empty 0 (number src)) 1 (number amount) 1 in
      let old = column_small (most k 0) (get tables (0, IntKey (pos src))) (λ row found. small (0, IntKey (pos src)) row found) in
      let mid : State = define 2 (Int old.0) s in
      let g0 : get mid.env 0 ≡ Some (number src) = get-insert nat_cmp_total s.env 2 (Int old.0) 0 ∙ h0 in
      let g1 : get mid.env 1 ≡ Some (number amount) = get-insert nat_cmp_total s.env 2 (Int old.0) 1 ∙ h1 in
      let g2 : get mid.env 2 ≡ Some (Int old.0) = get-insert nat_cmp_total s.env 2 (Int old.0) 2 in
      let b : Bool = not (int_eq old.0 (pos 0)) in
      let test : value (Bin Ne (Var 2) (Lit (number 0))) mid.env ≡ Ok (Truth b) =
      of_bin mid.env Ne (Var 2) (Lit (number 0)) (Int old.0) (number 0) (Truth b) (of_var mid.env 2 (Int old.0) g2) (of_lit mid.env (number 0)) refl refl in
      after_op P (kind.Read 2 0 (Var 0) 0 (number 0)) (Branch 3 (Bin Ne (Var 2) (Lit (number 0))) transfer_block End End) 0 s mid (is_read 2 0 0 s (pos src) old.0 h0 old.1)
      (after_branch P P 3 (Bin Ne (Var 2) (Lit (number 0))) transfer_block End End 1 mid b test
      (λ m. transfer_block_ends k m (define 3 (Truth b) mid) old.0 low (get-insert nat_cmp_total mid.env 3 (Truth b) 0 ∙ g0) (get-insert nat_cmp_total mid.env 3 (Truth b) 1 ∙ g1) (get-insert nat_cmp_total mid.env 3 (Truth b) 2 ∙ g2) small)
      (λ m. at_end P m _ (more_small (k + 1 + 1) tables (more_small (k + 1) tables (more_small k tables small))))
      (λ t h m. at_end P m t h))
    where
      P : State → Type 0
      P = SmallAt (k + 1 + 1 + 1)

  module _ (nation : ℕ) where
    deposit_ends : (k : ℕ) (tables : Tables) → k + 3 ≤ 300000 → AreSmall k tables → EndsIn (SmallAt (k + 1 + 1 + 1)) deposit_steps 0 (opening (number src ∷ number amount ∷ number nation ∷ []) tables)
    deposit_ends k tables low small =
        let none0 : Values = insert empty 0 (number src) in
        let none1 : Values = insert none0 1 (number amount) in
        let s : State = opening (number src ∷ number amount ∷ number nation ∷ []) tables in
        let h0 : get s.env 0 ≡ Some (number src) = get-insert nat_cmp_total none1 2 (number nation) 0 ∙ get-insert nat_cmp_total none0 1 (number amount) 0 ∙ get-insert nat_cmp_total empty 0 (number src) 0 in
        let h1 : get s.env 1 ≡ Some (number amount) = get-insert nat_cmp_total none1 2 (number nation) 1 ∙ get-insert nat_cmp_total none0 1 (number amount) 1 in
        let h2 : get s.env 2 ≡ Some (number nation) = get-insert nat_cmp_total none1 2 (number nation) 2 in
        after_both P k 1 3 0 (Bin Add (Var 3) (Var 1)) (Branch 4 test_of saving_block End stats_steps) 0 s (pos src) h0 (λ v. get-insert nat_cmp_total s.env 3 (Int v) 0 ∙ h0) small
        (λ v h. sum_small (insert s.env 3 (Int v)) (Var 3) (Var 1) k amount v
        (of_var (insert s.env 3 (Int v)) 3 (Int v) (get-insert nat_cmp_total s.env 3 (Int v) 3)) (of_var (insert s.env 3 (Int v)) 1 (number amount) (get-insert nat_cmp_total s.env 3 (Int v) 1 ∙ h1)) few (omega (arith, low)) h)
        (λ v3 w3 in3 small3 m3.
        let env3 : Values = insert s.env 3 (Int v3) in
        let at3 : State = record { env = env3; tables = insert tables (1, IntKey (pos src)) (Int w3 ∷ []) } in
        let g0 : get env3 0 ≡ Some (number src) = get-insert nat_cmp_total s.env 3 (Int v3) 0 ∙ h0 in
        let g1 : get env3 1 ≡ Some (number amount) = get-insert nat_cmp_total s.env 3 (Int v3) 1 ∙ h1 in
        let g2 : get env3 2 ≡ Some (number nation) = get-insert nat_cmp_total s.env 3 (Int v3) 2 ∙ h2 in
        let g3 : get env3 3 ≡ Some (Int v3) = get-insert nat_cmp_total s.env 3 (Int v3) 3 in
        let sum = sum_small env3 (Var 3) (Var 1) k amount v3 (of_var env3 3 (Int v3) g3) (of_var env3 1 (number amount) g1) few (omega (arith, low)) in3 in
        let b : Bool = is_gt (int_cmp sum.0 (pos 10000)) in
        let test : value test_of env3 ≡ Ok (Truth b) = of_bin env3 Gt (Bin Add (Var 3) (Var 1)) (Lit (number 10000)) (Int sum.0) (number 10000) (Truth b) sum.1 (of_lit env3 (number 10000)) refl refl in
        let env4 : Values = insert env3 4 (Truth b) in
        let f0 : get env4 0 ≡ Some (number src) = get-insert nat_cmp_total env3 4 (Truth b) 0 ∙ g0 in
        let f2 : get env4 2 ≡ Some (number nation) = get-insert nat_cmp_total env3 4 (Truth b) 2 ∙ g2 in
        let f3 : get env4 3 ≡ Some (Int v3) = get-insert nat_cmp_total env3 4 (Truth b) 3 ∙ g3 in
        let part : Within (k * 1000) (int_div v3 (pos 50)) = fiftieth v3 (k * 1000) in3 in
        let part_within : Within 300000000 (int_div v3 (pos 50)) = (omega (arith, ints, part.0, low), omega (arith, ints, part.1, low)) in
        after_branch P Q 4 test_of saving_block End stats_steps m3 at3 b test
        (λ m. after_both Q (k + 1) 2 5 0 (Bin Add (Var 5) (Bin Div (Var 3) (Lit (number 50)))) End m (define 4 (Truth b) at3) (pos src) f0 (λ v. get-insert nat_cmp_total env4 5 (Int v) 0 ∙ f0) small3
        (λ v h.
        let env5 : Values = insert env4 5 (Int v) in
        let quotient_is : value (Bin Div (Var 3) (Lit (number 50))) env5 ≡ Ok (Int (int_div v3 (pos 50))) =
        of_bin env5 Div (Var 3) (Lit (number 50)) (Int v3) (number 50) (Int (int_div v3 (pos 50))) (of_var env5 3 (Int v3) (get-insert nat_cmp_total env4 5 (Int v) 3 ∙ f3)) (of_lit env5 (number 50)) refl
        (checked_small (int_div v3 (pos 50)) (k * 1000) part (omega (arith, low))) in
        raised_small env5 (Var 5) (Bin Div (Var 3) (Lit (number 50))) (k + 1) v (int_div v3 (pos 50)) (of_var env5 5 (Int v) (get-insert nat_cmp_total env4 5 (Int v) 5)) quotient_is part_within (omega (arith, low)) h)
        (λ v5 w5 in5 small5 m5. at_end Q m5 _ (small5, get-insert nat_cmp_total env4 5 (Int v5) 2 ∙ f2)))
        (λ m. at_end Q m _ (more_small (k + 1) at3.tables small3, f2))
        (λ t q m. after_both P (k + 1 + 1) 3 6 2 (Bin Add (Var 6) (Lit (number 1))) End m t (pos nation) q.1 (λ v. get-insert nat_cmp_total t.env 6 (Int v) 2 ∙ q.1) q.0
        (λ v h. raised_small (insert t.env 6 (Int v)) (Var 6) (Lit (number 1)) (k + 1 + 1) v (pos 1)
        (of_var (insert t.env 6 (Int v)) 6 (Int v) (get-insert nat_cmp_total t.env 6 (Int v) 6)) (of_lit (insert t.env 6 (Int v)) (number 1)) one_within (omega (arith, low)) h)
        (λ v6 w6 in6 small6 m6. at_end P m6 _ small6)))
      where
        P : State → Type 0
        P = SmallAt (k + 1 + 1 + 1)

        Q : State → Type 0
        Q t = AreSmall (k + 1 + 1) t.tables × (get t.env 2 ≡ Some (number nation))

        test_of : Expr
        test_of = Bin Gt (Bin Add (Var 3) (Var 1)) (Lit (number 10000))

-- ---- the transactions end

call_ends : (proc : Proc) (steps : UnrolledSteps) (k : ℕ) (args : List Value) (tables : Tables) → unrolled proc ≡ steps → EndsIn (SmallAt k) steps 0 (opening args tables) → (after : Tables) × (called proc args tables ≡ Ok after) × AreSmall k after
call_ends proc steps k args tables is ends =
    let ran : meaning proc (opening args tables) ≡ Ok ends.end = ap (λ (u : UnrolledSteps). runs u 0 (opening args tables)) is ∙ ends.is in
    (ends.end.tables, ap (λ r. r >>= λ (s : State). Ok s.tables) ran, ends.has)

txn_ends : (i k : ℕ) (tables : Tables) → k + 3 ≤ 300000 → AreSmall k tables → (after : Tables) × (txn_meaning written.procs (stress_txn i) tables ≡ Ok after) × AreSmall (k + 1 + 1 + 1) after
txn_ends i k tables low small = go (nat_eq (i % 8) 0) (nat_le (i % 8) 3)
  where
    m : ℕ
    m = mixed i

    small_put : Within (most (k + 1) 0) (pos (1 + m / 97 % 97))
    small_put = (omega (arith, ints), omega (arith, ints))

    go : (last early : Bool) → (after : Tables) × (txn_meaning written.procs (if last then family (mixed i) else (if early then transfer (mixed i) else deposit (mixed i))) tables ≡ Ok after) × AreSmall (k + 1 + 1 + 1) after
    go true early =
        let after = insert tables (0, IntKey (pos (1 + m % 97))) (number (1 + m / 97 % 97) ∷ []) in
        (after, refl, more_small (k + 1 + 1) after (more_small (k + 1) after (put_small k tables 0 (IntKey (pos (1 + m % 97))) (pos (1 + m / 97 % 97)) small small_put)))
    go false true = call_ends transfer_proc transfer_steps (k + 1 + 1 + 1) (number (1 + m % 97) ∷ number (1 + m / 97 % 1000) ∷ []) tables transfer_is (transfer_ends (1 + m % 97) (1 + m / 97 % 1000) (omega arith) k tables low small)
    go false false = call_ends deposit_proc deposit_steps (k + 1 + 1 + 1) (number (1 + m % 97) ∷ number (1 + m / 97 % 1000) ∷ number (m / 97 / 1000 % 7) ∷ []) tables deposit_is
        (deposit_ends (1 + m % 97) (1 + m / 97 % 1000) (omega arith) (m / 97 / 1000 % 7) k tables low small)

all_end : (count first k : ℕ) (tables : Tables) → k + 3 * count ≤ 300000 → AreSmall k tables → (after : Tables) × (serial written.procs first (stress_txns first count) tables ≡ Ok after)
all_end zero first k tables low small = (tables, refl)
all_end (suc count) first k tables low small =
    let one = txn_ends first k tables (omega (arith, low)) small in
    let rest = all_end count (first + 1) (k + 1 + 1 + 1) one.0 (omega (arith, low)) one.2 in
    (rest.0, ap (λ r. in_txn first r >>= λ (u : Tables). serial written.procs (first + 1) (stress_txns (first + 1) count) u) one.1 ∙ rest.1)

-- each transaction of the test ends
all-commit : (count : ℕ) → count ≤ 100000 → (after : Tables) × (serial written.procs 1 (stress_txns 1 count) empty ≡ Ok after)
all-commit count few = all_end count 1 0 empty (omega (arith, few)) none_small

no_abort : (a : Tables) (note : Note) → ◌≡◌ {A = Result Tables Note} (Ok a) (Err note) → ⊥
no_abort a note is = absurd cc

-- so none of them aborts, over the one catalogue of the bank's text
pub never-aborts : (count : ℕ) (note : Note) → count ≤ 100000 → AbortsStress count note → ⊥
never-aborts count note few (catalogue, is, aborts) =
    let same : bank_catalogue ≡ catalogue = one_catalogue bank_text bank_catalogue catalogue bank-has is in
    let end = all-commit count few in
    no_abort end.0 note (sym (ap (λ (c : CatalogueState). stress_outcome c count) is-written ∙ end.1) ∙ ap (λ (c : CatalogueState). stress_outcome c count) same ∙ aborts)

-- where one aborts there are more
pub more-than-few : (count : ℕ) (note : Note) → AbortsStress count note → 100000 < count
more-than-few count note aborts = ⊎_elim (λ few. absurd (never-aborts count note few.1 aborts)) (λ more. more.1) (leb_tells count 100000)
