-- The turns of a loop run one after another.
use Rattle.std.proofs.Common.{◌≡◌, ◌≤◌, ℕ, suc, ◌+◌, ◌*◌, ◌==◌, ◌||◌, ℤ, pos, ◌+ℤ◌, ◌-ℤ◌, ◌<ℤ◌, ◌≤ℤ◌, Bool, true, false, List, ◌++◌, map, Some, None, Result, Ok, Err, IsSome, refl, sym, ap, ◌∙◌, arith}
use Rattle.std.specs.Prelude.{if◌then◌else◌}
use Rattle.std.specs.FinMap.{contains_key}
use Rattle.std.proofs.lemmas.Int.{ints}
use Rattle.pac_value.specs.declared.values.Ty.{Ty}
use Rattle.pac_value.specs.declared.values.Ty.TheVariants.{Int as IntTy}
use Rattle.pac_value.specs.declared.values.Value.TheVariants.{Int}
use Rattle.pac_value.specs.Expressions.{Values, types_of, ◌>>=◌}
use Rattle.pac_value.specs.Scopes.{Scope, with_var}
use Rattle.pac_value.specs.State.{Cell}
use Rattle.pac_ops.specs.Operations.{State, define}
use Rattle.pac_types.specs.declared.statement.Stmt.{Stmt}
use Rattle.pac_types.specs.declared.table.Table.{Table}
use Rattle.pac_types.specs.Meaning.{Abort}
use Rattle.pac_types.specs.Unrolled.{natural, turns, turn_numbers}
use Rattle.pac_types.specs.WellFormed.{without, any_defines, check, scope_after_all}
use Rattle.pac_types.proofs.ScopeLemmas.{Within}
use Rattle.pac_types.proofs.TurnLemmas.{turns-more, numbers-more, turns-parts, before-next}
use Rattle.pac_types.proofs.WellFormedLemmas.{scope_after_all-within}
use Rattle.pac_serial.specs.declared.operation.Halt.{Halt}
use Rattle.pac_serial.specs.declared.operation.Halt.TheVariants.{Abort as AbortAt, NoMemory}
use Rattle.pac_serial.specs.Outcomes.{RunsFrom, IsHaltWithin, moved, KeepsTypes}
use Rattle.pac_serial.specs.TextMeaning.{code, code_count, run_turns, turn_cells, text_meaning, text_cells}
use Rattle.pac_serial.specs.Writes.{is_among, if_well}
use Rattle.pac_serial.specs.WriteSets.{Changes, ChangesAt}
use Rattle.pac_serial.proofs.WritesLemmas.{writes-next}
use Rattle.pac_serial.proofs.ExecLemmas.{some-within}

-- where a turn begins, what was visible before the loop has its type, but for what the block defines
pub turn-well_formed : (tables : List Table) (body : List Stmt) (x : ℕ) (old now begun : Values)
    → IsSome (scope_after_all tables body (with_var (without (any_defines (map (check tables) body)) (types_of old)) x IntTy))
    → KeepsTypes (λ y. y == x || any_defines (map (check tables) body) y) old now → types_of begun ≡ with_var (types_of now) x IntTy → IsSome (scope_after_all tables body (types_of begun))
turn-well_formed tables body x old now begun well_formed keeps is =
    some-within (scope_after_all tables body scope) (scope_after_all tables body (types_of begun)) (scope_after_all-within tables body scope (types_of begun) within) well_formed
  where
    some : ℕ → Bool
    some = any_defines (map (check tables) body)

    scope : Scope
    scope = with_var (without (any_defines (map (check tables) body)) (types_of old)) x IntTy

    go : (y : ℕ) (ty : Ty) (a b : Bool) → (a || b ≡ false → types_of now y ≡ types_of old y) → (if a then Some IntTy else (if b then None else types_of old y)) ≡ Some ty → (if a then Some IntTy else types_of now y) ≡ Some ty
    go y ty true b kept h = h
    go y ty false true kept h = absurd cc
    go y ty false false kept h = kept refl ∙ h

    within : Within scope (types_of begun)
    within y ty h = ap (λ (f : Scope). f y) is ∙ go y ty (y == x) (any_defines (map (check tables) body) y) (keeps y) h

module _ (x : ℕ) (body : List Stmt) (from n to : ℤ) (low : from ≤ℤ n) (below : n <ℤ to) where
  -- how many operations are before the turn
  abbrev before : ℕ
  before = natural (n -ℤ from) * code_count body

  run-more : (m : ℕ) (s : State) → run_turns x (map code body) (turn_numbers n to) m s ≡ (text_meaning body m (define x (Int n) s) >>= λ t. run_turns x (map code body) (turn_numbers (n +ℤ pos 1) to) (m + code_count body) t)
  run-more m s = ap (λ is. run_turns x (map code body) is m s) (numbers-more n to below)

  pub turn-runs : (m : ℕ) (s begun t : State) → begun ≡ define x (Int n) s → text_meaning body (m + before) begun ≡ Ok t
      → run_turns x (map code body) (turn_numbers (n +ℤ pos 1) to) (m + natural ((n +ℤ pos 1) -ℤ from) * code_count body) t ≡ run_turns x (map code body) (turn_numbers n to) (m + before) s
  turn-runs m s begun t is h =
      let all : m + natural ((n +ℤ pos 1) -ℤ from) * code_count body ≡ m + before + code_count body = ap (λ k. m + k * code_count body) (before-next from n low) ∙ times (natural (n -ℤ from)) (code_count body) in
      ap (λ k. run_turns x (map code body) (turn_numbers (n +ℤ pos 1) to) k t) all
      ∙ sym (ap (λ (r : Result State Abort). r >>= λ u. run_turns x (map code body) (turn_numbers (n +ℤ pos 1) to) (m + before + code_count body) u) (ap (text_meaning body (m + before)) (sym is) ∙ h))
      ∙ sym (run-more (m + before) s)
    where
      times : (k c : ℕ) → m + suc k * c ≡ m + k * c + c
      times k c = omega arith

  pub turn-aborts : (m : ℕ) (s begun : State) (abort : Abort) → begun ≡ define x (Int n) s → text_meaning body (m + before) begun ≡ Err abort → run_turns x (map code body) (turn_numbers n to) (m + before) s ≡ Err abort
  turn-aborts m s begun abort is h =
      run-more (m + before) s ∙ ap (λ (r : Result State Abort). r >>= λ u. run_turns x (map code body) (turn_numbers (n +ℤ pos 1) to) (m + before + code_count body) u) (ap (text_meaning body (m + before)) (sym is) ∙ h)

  cells-more : (m : ℕ) (s : State) → turn_cells x (map code body) (turn_numbers n to) m s ≡ if_well (λ t. text_cells body m (define x (Int n) s) ++ turn_cells x (map code body) (turn_numbers (n +ℤ pos 1) to) (m + code_count body) t) (text_meaning body m (define x (Int n) s))
  cells-more m s = ap (λ is. turn_cells x (map code body) is m s) (numbers-more n to below)

  -- the cells of the turn and of those after it
  pub turn-writes : (m : ℕ) (s begun t : State) (mid new : Changes) → begun ≡ define x (Int n) s → text_meaning body (m + before) begun ≡ Ok t → ChangesAt (text_cells body (m + before) begun) mid new → (q : Cell)
      → (is_among q (turn_cells x (map code body) (turn_numbers (n +ℤ pos 1) to) (m + natural ((n +ℤ pos 1) -ℤ from) * code_count body) t) || contains_key new q)
      ≡ (is_among q (turn_cells x (map code body) (turn_numbers n to) (m + before) s) || contains_key mid q)
  turn-writes m s begun t mid new is h writes q =
      let all : m + natural ((n +ℤ pos 1) -ℤ from) * code_count body ≡ m + before + code_count body = ap (λ k. m + k * code_count body) (before-next from n low) ∙ times (natural (n -ℤ from)) (code_count body) in
      ap (λ k. is_among q (turn_cells x (map code body) (turn_numbers (n +ℤ pos 1) to) k t) || contains_key new q) all
      ∙ writes-next q (text_cells body (m + before) begun) (turn_cells x (map code body) (turn_numbers (n +ℤ pos 1) to) (m + before + code_count body) t) mid new writes
      ∙ ap (λ (z : State). is_among q (text_cells body (m + before) z ++ turn_cells x (map code body) (turn_numbers (n +ℤ pos 1) to) (m + before + code_count body) t) || contains_key mid q) is
      ∙ sym (ap (λ (r : Result State Abort). is_among q (if_well (λ u. text_cells body (m + before) (define x (Int n) s) ++ turn_cells x (map code body) (turn_numbers (n +ℤ pos 1) to) (m + before + code_count body) u) r) || contains_key mid q) (ap (text_meaning body (m + before)) (sym is) ∙ h))
      ∙ sym (ap (λ (cs : List Cell). is_among q cs || contains_key mid q) (cells-more (m + before) s))
    where
      times : (k c : ℕ) → m + suc k * c ≡ m + k * c + c
      times k c = omega arith

  -- the operations of the turn are among all
  pub turn-within : before + code_count body ≤ turns from to * code_count body
  turn-within = go (natural (n -ℤ from)) (turns (n +ℤ pos 1) to) (turns from to) (code_count body) (sym (turns-parts from n to low (omega (arith, ints, below))) ∙ ap (λ k. natural (n -ℤ from) + k) (turns-more n to below))
    where
      go : (a b all c : ℕ) → all ≡ a + suc b → a * c + c ≤ all * c
      go a b all c is = let long : all * c ≡ a * c + c + b * c = ap (λ k. k * c) is ∙ times a b c in omega (arith, long)
        where
          times : (a b c : ℕ) → (a + suc b) * c ≡ a * c + c + b * c
          times a b c = omega arith

pub up-one : (from n : ℤ) → from ≤ℤ n → from ≤ℤ (n +ℤ pos 1)
up-one from n h = omega (arith, ints, h)

-- a turn keeps what neither the loop nor its block defines
pub turn-keeps : (x : ℕ) (some : ℕ → Bool) (old now begun new : Values) → KeepsTypes (λ y. y == x || some y) old now → types_of begun ≡ with_var (types_of now) x IntTy → KeepsTypes some begun new → KeepsTypes (λ y. y == x || some y) old new
turn-keeps x some old now begun new before is after y h = go (y == x) (some y) refl refl h
  where
    go : (a b : Bool) → (y == x) ≡ a → some y ≡ b → (a || b) ≡ false → types_of new y ≡ types_of old y
    go true b e d h = absurd cc
    go false true e d h = absurd cc
    go false false e d h = after y d ∙ ap (λ (f : Scope). f y) is ∙ ap (λ a. if a then Some IntTy else types_of now y) e ∙ before y (ap (λ a. a || some y) e ∙ d)

-- ---- halts

abbrev pub Failed : Halt → Result (Unit {0}) Halt
Failed halt = Err halt

pub within-more : (n m : ℕ) (halt : Halt) → n ≤ m → IsHaltWithin n halt → IsHaltWithin m halt
within-more n m (AbortAt op reason) le h = omega (arith, h, le)
within-more n m NoMemory le h = tt

pub moved-within : (n m b : ℕ) (halt : Halt) → b + n ≤ m → IsHaltWithin n halt → IsHaltWithin m (moved b halt)
moved-within n m b (AbortAt op reason) le h = omega (arith, h, le)
moved-within n m b NoMemory le h = tt

pub moved-runs : (halt : Halt) (n b : ℕ) (m all : Result State Abort) (now end : State) → RunsFrom (n + b) (Failed halt) m now → ((abort : Abort) → m ≡ Err abort → all ≡ Err abort) → RunsFrom n (Failed (moved b halt)) all end
moved-runs (AbortAt op reason) n b m all now end h on = let same : n + b + op ≡ n + (b + op) = omega arith in on (n + b + op, reason) h ∙ ap (λ k. Err (k, reason)) same
moved-runs NoMemory n b m all now end h on = tt
