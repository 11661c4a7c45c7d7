-- What an engine keeps, from one move to the next.
use Rattle.std.proofs.Common.{◌≡◌, ◌∙◌, ℕ, ◌+◌, ◌<◌, ◌≤◌, List, [], ◌∷◌, ◌++◌, length, Option, Some, None, Result, Ok, Err, sym, ap, arith, length-append}
use Rattle.std.specs.List.{AllByRecursion}
use Rattle.pac_value.specs.State.{Tables}
use Rattle.pac_ops.specs.declared.transaction.Txn.{Txn}
use Rattle.pac_serial.specs.declared.execute.ExecError.{ExecError}
use Rattle.pac_serial.specs.declared.execute.ExecError.TheVariants.{Abort, Full, NoMemory}
use Rattle.pac_request.specs.declared.request.Request.{Request}
use Rattle.pac_request.specs.declared.request.Request.TheVariants as request
use Rattle.pac_request.specs.declared.request.Reply.{Reply}
use Rattle.pac_request.specs.declared.request.Reply.TheVariants as reply
use Rattle.pac_log.specs.declared.limits.TheConstants.{MAX_BASE}
use Rattle.pac_check.specs.declared.info.SlotInfo.{SlotInfo}
use Rattle.pac_check.specs.declared.info.SlotName.TheVariants.{A}
use Rattle.pac_check.specs.SlotStates.{saved_txns}
use Rattle.pac_store.specs.Stands.{reach_of}
use Rattle.pac_session.specs.Session.{SessionState, answer, after_asked, commits_asked, committed_by, reply_by, txn_of, txn_outcome}
use Rattle.pac_session.specs.Open.{Open, rules_of, state_now, with_asked, with_run}
use Rattle.pac_engine.specs.declared.parts.EngineParts.{EngineParts}
use Rattle.pac_engine.specs.Closing.{IsKept}
use Rattle.pac_engine.specs.Moves.{AreHeld, IsHeldBy, IsWorking}
use Rattle.pac_engine.specs.Standing.{durable_of, saved_of}

-- ---- a request whose transaction is executed

some_same : (x y : Txn) → ◌≡◌ {A = Option Txn} (Some x) (Some y) → x ≡ y
some_same x y e = cc

-- the reply to a request that asks for a transaction
answer-txn : (asked : Request) (now : Open) (txn : Txn) → txn_of asked ≡ Some txn → answer (rules_of now) (state_now now) asked ≡ reply_by (state_now now) (txn_outcome (rules_of now) now.tables txn)
answer-txn (request.Call call) now txn is = ap (λ (x : Txn). reply_by (state_now now) (txn_outcome (rules_of now) now.tables x)) (some_same _ txn is)
answer-txn (request.AdHoc records) now txn is = ap (λ (x : Txn). reply_by (state_now now) (txn_outcome (rules_of now) now.tables x)) (some_same _ txn is)
answer-txn request.Flush now txn is = absurd (cc is)
answer-txn (request.Show table key) now txn is = absurd (cc is)
answer-txn request.Save now txn is = absurd (cc is)
answer-txn request.Stop now txn is = absurd (cc is)
answer-txn (request.Refused fault) now txn is = absurd (cc is)

-- a session with other tables, transactions and replies
abbrev pub with_parts : Open → Tables → List Txn → List Reply → Open
with_parts now tables txns held = record now { tables = tables; txns = txns; held = held }

pub run-asked : (asked : Request) (now : Open) (txn : Txn) → txn_of asked ≡ Some txn → with_run txn now ≡ with_asked asked now
run-asked asked now txn is =
    ap (λ (l : List Reply). with_parts now (after_asked (rules_of now) (state_now now) (Some txn)).tables (now.txns ++ commits_asked (rules_of now) (state_now now) (Some txn)) (now.held ++ l)) (sym (answer-txn asked now txn is))
    ∙ ap (λ (o : Option Txn). with_parts now (after_asked (rules_of now) (state_now now) o).tables (now.txns ++ commits_asked (rules_of now) (state_now now) o) (now.held ++ answer (rules_of now) (state_now now) asked)) (sym is)

-- ---- replies that are held

pub held-append : (number : ℕ) (xs ys : List Reply) → AllByRecursion (IsHeldBy number) xs → AllByRecursion (IsHeldBy number) ys → AllByRecursion (IsHeldBy number) (xs ++ ys)
held-append number [] ys first second = second
held-append number (x ∷ xs) ys first second = (first.0, held-append number xs ys first.1 second)

held-later : (n m : ℕ) → n ≤ m → (x : Reply) → IsHeldBy n x → IsHeldBy m x
held-later n m le (reply.Committed txn) is = let within : txn ≤ n = is in omega (arith, le, within)
held-later n m le (reply.Aborted op reason) is = tt
held-later n m le (reply.AbortedFull table) is = tt
held-later n m le (reply.Shown table key row) is = tt
held-later n m le (reply.Refused fault) is = tt
held-later n m le (reply.Saved txns) is = absurd is

pub all-held-later : (n m : ℕ) → n ≤ m → (xs : List Reply) → AllByRecursion (IsHeldBy n) xs → AllByRecursion (IsHeldBy m) xs
all-held-later n m le [] all = tt
all-held-later n m le (x ∷ xs) all = (held-later n m le x all.0, all-held-later n m le xs all.1)

held-kept : (e : EngineParts) (n : ℕ) → n ≤ durable_of e → (x : Reply) → IsHeldBy n x → IsKept e x
held-kept e n le (reply.Committed txn) is = let within : txn ≤ n = is in omega (arith, le, within)
held-kept e n le (reply.Aborted op reason) is = tt
held-kept e n le (reply.AbortedFull table) is = tt
held-kept e n le (reply.Shown table key row) is = tt
held-kept e n le (reply.Refused fault) is = tt
held-kept e n le (reply.Saved txns) is = absurd is

-- once their transactions are durable, held replies may be given out
pub all-held-kept : (e : EngineParts) (n : ℕ) → n ≤ durable_of e → (xs : List Reply) → AllByRecursion (IsHeldBy n) xs → AllByRecursion (IsKept e) xs
all-held-kept e n le [] all = tt
all-held-kept e n le (x ∷ xs) all = (held-kept e n le x all.0, all-held-kept e n le xs all.1)

pub kept-and-saved : (e : EngineParts) (n : ℕ) (xs : List Reply) → (n ≤ MAX_BASE → n < saved_of e) → AllByRecursion (IsKept e) xs → AllByRecursion (IsKept e) (xs ++ reply.Saved n ∷ [])
kept-and-saved e n [] le all = (le, tt)
kept-and-saved e n (x ∷ xs) le all = (all.0, kept-and-saved e n xs le all.1)

-- ---- a transaction is executed

ran-held : (now : Open) (txn : Txn) (r : Result Tables ExecError) → AreHeld now → AllByRecursion (IsHeldBy (now.before + length (now.txns ++ committed_by txn r))) (now.held ++ reply_by (state_now now) r)
ran-held now txn r all = held-append (now.before + length (now.txns ++ committed_by txn r)) now.held (reply_by (state_now now) r)
    (all-held-later (now.before + length now.txns) (now.before + length (now.txns ++ committed_by txn r)) (omega (arith, length-append now.txns (committed_by txn r))) now.held all) (go r)
  where
    go : (s : Result Tables ExecError) → AllByRecursion (IsHeldBy (now.before + length (now.txns ++ committed_by txn s))) (reply_by (state_now now) s)
    go (Ok tables) = (omega (arith, length-append now.txns (txn ∷ [])), tt)
    go (Err (Abort op reason)) = (tt, tt)
    go (Err (Full table)) = (tt, tt)
    go (Err NoMemory) = tt

ran-fewer : (txn : Txn) (state : SessionState) (r : Result Tables ExecError) → length (committed_by txn r) ≤ length (reply_by state r)
ran-fewer txn state (Ok tables) = omega arith
ran-fewer txn state (Err refusal) = omega arith

pub one-reply : (state : SessionState) (r : Result Tables ExecError) → length (reply_by state r) ≤ 1
one-reply state (Ok tables) = omega arith
one-reply state (Err (Abort op reason)) = omega arith
one-reply state (Err (Full table)) = omega arith
one-reply state (Err NoMemory) = omega arith

-- the engine with another session
abbrev pub with_session : Open → EngineParts → EngineParts
with_session now engine = record engine { session = now }

pub working-run : (e : EngineParts) (txn : Txn) → IsWorking e → IsWorking (with_session (with_run txn e.session) e)
working-run e txn is =
    let outcome = txn_outcome (rules_of e.session) e.session.tables txn in
    record {
      waits = is.waits;
      works = is.works;
      same = is.same;
      counted = is.counted;
      some = is.some;
      fewer = omega (arith, is.fewer, ran-fewer txn (state_now e.session) outcome, length-append e.session.txns (committed_by txn outcome), length-append e.session.held (reply_by (state_now e.session) outcome));
      held = ran-held e.session txn outcome is.held;
      limit = is.limit;
      saved = is.saved;
    }

-- ---- a checkpoint is saved

pub reach_within : (newest : Option SlotInfo) (number : ℕ) → saved_txns newest ≤ number → reach_of newest ≤ number + 1
reach_within None number within = omega arith
reach_within (Some info) number within = omega (arith, within)
