-- A session goes on: what requests come to is what the first of them come to, and then the others. What they commit is
-- counted by their states, and serial execution of it ends with their tables.
use Rattle.std.proofs.Common.{◌≡◌, ℕ, ◌+◌, List, [], ◌∷◌, ◌++◌, length, Option, Some, None, Result, Ok, Err, refl, sym, ap, ◌∙◌, arith, append_assoc, length-append}
use Rattle.pac_value.specs.Expressions.{◌>>=◌}
use Rattle.pac_value.specs.State.{Tables}
use Rattle.pac_ops.specs.declared.note.Note.{Note}
use Rattle.pac_ops.specs.declared.transaction.Txn.{Txn}
use Rattle.pac_types.specs.declared.procedure.Proc.{Proc}
use Rattle.pac_types.specs.Meaning.{Abort}
use Rattle.pac_types.specs.Execution.{first_over, in_txn, serial, txn_meaning}
use Rattle.pac_types.proofs.ExecutionLemmas.{serial-parts}
use Rattle.pac_serial.specs.declared.execute.ExecError.{ExecError}
use Rattle.pac_serial.specs.Outcomes.{limited, unless_over}
use Rattle.pac_request.specs.declared.request.Request.{Request}
use Rattle.pac_request.specs.declared.request.Reply.{Reply}
use Rattle.pac_session.specs.Session.{Rules, SessionState, txn_outcome, txn_of, commits_asked, commits, after_asked, state_after, answer, ends, replies, committed}

pub ends-append : (rules : Rules) (state : SessionState) (xs ys : List Request) → ends rules state (xs ++ ys) ≡ ends rules (ends rules state xs) ys
ends-append rules state [] ys = refl
ends-append rules state (x ∷ xs) ys = ends-append rules (state_after rules state x) xs ys

pub replies-append : (rules : Rules) (state : SessionState) (xs ys : List Request) → replies rules state (xs ++ ys) ≡ replies rules state xs ++ replies rules (ends rules state xs) ys
replies-append rules state [] ys = refl
replies-append rules state (x ∷ xs) ys =
    ap (λ (l : List Reply). answer rules state x ++ l) (replies-append rules (state_after rules state x) xs ys)
    ∙ sym (append_assoc (answer rules state x) (replies rules (state_after rules state x) xs) (replies rules (ends rules (state_after rules state x) xs) ys))

pub committed-append : (rules : Rules) (state : SessionState) (xs ys : List Request) → committed rules state (xs ++ ys) ≡ committed rules state xs ++ committed rules (ends rules state xs) ys
committed-append rules state [] ys = refl
committed-append rules state (x ∷ xs) ys =
    ap (λ (l : List Txn). commits rules state x ++ l) (committed-append rules (state_after rules state x) xs ys)
    ∙ sym (append_assoc (commits rules state x) (committed rules (state_after rules state x) xs) (committed rules (ends rules (state_after rules state x) xs) ys))

-- ---- one request

asked-number : (rules : Rules) (state : SessionState) (asked : Option Txn) → (after_asked rules state asked).number ≡ state.number + length (commits_asked rules state asked)
asked-number rules state None = omega arith
asked-number rules state (Some txn) = go (txn_outcome rules state.tables txn) refl where
  go : (r : Result Tables ExecError) → txn_outcome rules state.tables txn ≡ r → (after_asked rules state (Some txn)).number ≡ state.number + length (commits_asked rules state (Some txn))
  go (Ok tables) is = rw is (omega arith)
  go (Err refusal) is = rw is (omega arith)

-- a request counts what it commits
pub after-number : (rules : Rules) (state : SessionState) (asked : Request) → (state_after rules state asked).number ≡ state.number + length (commits rules state asked)
after-number rules state asked = asked-number rules state (txn_of asked)

-- a transaction that is committed leaves the tables that it means
unlimited : (limit number : ℕ) (meant : Result Tables Abort) (new : Tables) → limited (Some limit) number meant ≡ Ok new → meant ≡ Ok new
unlimited limit number (Err abort) new is = absurd (cc is)
unlimited limit number (Ok tables) new is = go (first_over limit number tables) is where
  go : (over : Option (ℕ × ℕ)) → unless_over over tables ≡ Ok new → ◌≡◌ {A = Result Tables Abort} (Ok tables) (Ok new)
  go None same = let t : tables ≡ new = cc same in ap (λ (x : Tables). Ok x) t
  go (Some found) same = absurd (cc same)

asked-serial : (rules : Rules) (state : SessionState) (asked : Option Txn) → serial rules.catalogue.procs (state.number + 1) (commits_asked rules state asked) state.tables ≡ Ok (after_asked rules state asked).tables
asked-serial rules state None = refl
asked-serial rules state (Some txn) = go (txn_outcome rules state.tables txn) refl where
  go : (r : Result Tables ExecError) → txn_outcome rules state.tables txn ≡ r → serial rules.catalogue.procs (state.number + 1) (commits_asked rules state (Some txn)) state.tables ≡ Ok (after_asked rules state (Some txn)).tables
  go (Ok tables) is =
      let meant : txn_meaning rules.catalogue.procs txn state.tables ≡ Ok tables = unlimited rules.limit (length rules.catalogue.tables) (txn_meaning rules.catalogue.procs txn state.tables) tables is in
      rw is (ap (λ (r : Result Tables Abort). in_txn (state.number + 1) r >>= λ t. serial rules.catalogue.procs (state.number + 1 + 1) [] t) meant)
  go (Err refusal) is = rw is refl

-- serial execution of what a request commits leaves the tables of the state after it
pub after-serial : (rules : Rules) (state : SessionState) (asked : Request) → serial rules.catalogue.procs (state.number + 1) (commits rules state asked) state.tables ≡ Ok (state_after rules state asked).tables
after-serial rules state asked = asked-serial rules state (txn_of asked)

-- ---- requests in order

pub ends-number : (rules : Rules) (state : SessionState) (xs : List Request) → (ends rules state xs).number ≡ state.number + length (committed rules state xs)
ends-number rules state [] = omega arith
ends-number rules state (x ∷ xs) =
    let rest = ends-number rules (state_after rules state x) xs in
    omega (arith, rest, after-number rules state x, length-append (commits rules state x) (committed rules (state_after rules state x) xs))

-- serial execution of one list and then of another
pub serial-then : (procs : List Proc) (n : ℕ) (xs ys : List Txn) (t u v : Tables) (m : ℕ) → serial procs n xs t ≡ Ok u → n + length xs ≡ m → serial procs m ys u ≡ Ok v → serial procs n (xs ++ ys) t ≡ Ok v
serial-then procs n xs ys t u v m first counted second =
    serial-parts procs n xs ys t
    ∙ ap (λ (r : Result Tables Note). r >>= λ w. serial procs (n + length xs) ys w) first
    ∙ ap (λ (k : ℕ). serial procs k ys u) counted ∙ second

pub committed-serial : (rules : Rules) (state : SessionState) (xs : List Request) → serial rules.catalogue.procs (state.number + 1) (committed rules state xs) state.tables ≡ Ok (ends rules state xs).tables
committed-serial rules state [] = refl
committed-serial rules state (x ∷ xs) =
    serial-then rules.catalogue.procs (state.number + 1) (commits rules state x) (committed rules (state_after rules state x) xs) state.tables (state_after rules state x).tables (ends rules (state_after rules state x) xs).tables
    ((state_after rules state x).number + 1) (after-serial rules state x) (omega (arith, after-number rules state x)) (committed-serial rules (state_after rules state x) xs)
