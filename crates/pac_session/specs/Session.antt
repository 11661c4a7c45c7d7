-- What requests come to, one after another: the replies, the transactions that are committed, and the tables.
use Rattle.std.specs.Prelude.{ℕ, ◌+◌, List, [], ◌∷◌, ◌++◌, length, Option, Some, None, Result, Ok, Err}
use Rattle.std.specs.FinMap as map
use Rattle.pac_value.specs.State.{Tables}
use Rattle.pac_ops.specs.declared.transaction.Txn.{Txn}
use Rattle.pac_ops.specs.declared.transaction.Txn.TheVariants.{Call, AdHoc}
use Rattle.pac_types.specs.Execution.{txn_meaning}
use Rattle.pac_types.specs.Typing.{CatalogueState}
use Rattle.pac_serial.specs.declared.execute.ExecError.{ExecError}
use Rattle.pac_serial.specs.declared.execute.ExecError.TheVariants.{Abort, Full, NoMemory}
use Rattle.pac_serial.specs.Outcomes.{limited}
use Rattle.pac_request.specs.declared.request.Request.{Request}
use Rattle.pac_request.specs.declared.request.Request.TheVariants as request
use Rattle.pac_request.specs.declared.request.Reply.{Reply}
use Rattle.pac_request.specs.declared.request.Reply.TheVariants.{Committed, Aborted, AbortedFull, Shown, Refused, Saved}

-- what a session goes by: the catalogue, how many rows each table may have, and how many replies a group holds
pub record Rules : Type 0 where
  pub catalogue : CatalogueState
  pub limit : ℕ
  pub most : ℕ

-- the tables now, and how many transactions were committed
pub record SessionState : Type 0 where
  pub tables : Tables
  pub number : ℕ

-- ---- one transaction

-- the tables that a transaction leaves; or why it is aborted, by itself or else for the first table that would have more
-- rows than the limit
abbrev pub txn_outcome : Rules → Tables → Txn → Result Tables ExecError
txn_outcome rules tables txn = limited (Some rules.limit) (length rules.catalogue.tables) (txn_meaning rules.catalogue.procs txn tables)

-- where it leaves tables it is committed, and has the next number
abbrev pub committed_by : Txn → Result Tables ExecError → List Txn
committed_by txn (Ok tables) = txn ∷ []
committed_by txn (Err refusal) = []

-- the state after a transaction with this outcome
abbrev pub state_by : SessionState → Result Tables ExecError → SessionState
state_by state (Ok tables) = record { tables = tables; number = state.number + 1 }
state_by state (Err refusal) = state

-- the reply to a transaction with this outcome; none where there was no memory
abbrev pub reply_by : SessionState → Result Tables ExecError → List Reply
reply_by state (Ok tables) = Committed (state.number + 1) ∷ []
reply_by state (Err (Abort op reason)) = Aborted op reason ∷ []
reply_by state (Err (Full table)) = AbortedFull table ∷ []
reply_by state (Err NoMemory) = []

-- ---- one request

-- the transaction that a request asks for, if any
abbrev pub txn_of : Request → Option Txn
txn_of (request.Call call) = Some (Call call)
txn_of (request.AdHoc records) = Some (AdHoc records)
txn_of request.Flush = None
txn_of (request.Show table key) = None
txn_of request.Save = None
txn_of request.Stop = None
txn_of (request.Refused fault) = None

-- the transaction that is committed, if any
abbrev pub commits_asked : Rules → SessionState → Option Txn → List Txn
commits_asked rules state None = []
commits_asked rules state (Some txn) = committed_by txn (txn_outcome rules state.tables txn)

-- the same of a request
abbrev pub commits : Rules → SessionState → Request → List Txn
commits rules state asked = commits_asked rules state (txn_of asked)

-- the state after a request
abbrev pub after_asked : Rules → SessionState → Option Txn → SessionState
after_asked rules state None = state
after_asked rules state (Some txn) = state_by state (txn_outcome rules state.tables txn)

-- the same of a request
abbrev pub state_after : Rules → SessionState → Request → SessionState
state_after rules state asked = after_asked rules state (txn_of asked)

-- the reply to a request, if any
abbrev pub answer : Rules → SessionState → Request → List Reply
answer rules state (request.Call call) = reply_by state (txn_outcome rules state.tables (Call call))
answer rules state (request.AdHoc records) = reply_by state (txn_outcome rules state.tables (AdHoc records))
answer rules state request.Flush = []
answer rules state (request.Show table key) = Shown table key (map.get state.tables (table, key)) ∷ []
answer rules state request.Save = Saved state.number ∷ []
answer rules state request.Stop = []
answer rules state (request.Refused fault) = Refused fault ∷ []

-- ---- requests in order

-- the state with which requests end
abbrev pub ends : Rules → SessionState → List Request → SessionState
ends rules state [] = state
ends rules state (asked ∷ more) = ends rules (state_after rules state asked) more

-- the replies to requests
abbrev pub replies : Rules → SessionState → List Request → List Reply
replies rules state [] = []
replies rules state (asked ∷ more) = answer rules state asked ++ replies rules (state_after rules state asked) more

-- the transactions that requests commit
abbrev pub committed : Rules → SessionState → List Request → List Txn
committed rules state [] = []
committed rules state (asked ∷ more) = commits rules state asked ++ committed rules (state_after rules state asked) more

-- ---- a session

-- the requests up to the first stop; what stands after it is not looked at
abbrev pub up_to_stop : List Request → List Request
up_to_stop [] = []
up_to_stop (request.Call call ∷ more) = request.Call call ∷ up_to_stop more
up_to_stop (request.AdHoc records ∷ more) = request.AdHoc records ∷ up_to_stop more
up_to_stop (request.Flush ∷ more) = request.Flush ∷ up_to_stop more
up_to_stop (request.Show table key ∷ more) = request.Show table key ∷ up_to_stop more
up_to_stop (request.Save ∷ more) = request.Save ∷ up_to_stop more
up_to_stop (request.Stop ∷ more) = request.Stop ∷ []
up_to_stop (request.Refused fault ∷ more) = request.Refused fault ∷ up_to_stop more

-- what requests come to, up to the first stop
pub record Transcript : Type 0 where
  pub replies : List Reply
  pub committed : List Txn
  pub state : SessionState

-- what requests come to, from a state on
abbrev pub session : Rules → SessionState → List Request → Transcript
session rules start requests = record {
  replies = replies rules start (up_to_stop requests);
  committed = committed rules start (up_to_stop requests);
  state = ends rules start (up_to_stop requests);
}
