-- What a session holds between requests: the tables, and the open group.
use Rattle.std.specs.Prelude.{◌≡◌, ◌≤◌, ◌+◌, ◌^◌, ℕ, false, List, [], ◌++◌, length, Some, None, refl}
use Rattle.std.specs.List.{All}
use Rattle.std.specs.Coded.{Coded, code_by, coded×, coded_ℕ, coded_list}
use Rattle.pac_value.specs.State.{Tables, tables_code}
use Rattle.pac_ops.specs.declared.limits.TheConstants.{MAX_TXNS}
use Rattle.pac_ops.specs.declared.transaction.Txn.{Txn}
use Rattle.pac_ops.specs.contracts.transaction.Txn as txn_type
use Rattle.pac_types.specs.contracts.catalogue.Catalogue as catalogue_type
use Rattle.pac_types.specs.Execution.{first_over}
use Rattle.pac_types.specs.OperationLimits.{HasFewOperations}
use Rattle.pac_types.specs.Fits.{FitsCatalogue, TxnFits}
use Rattle.pac_types.specs.Typing.{CatalogueState}
use Rattle.pac_entry.specs.declared.limits.TheConstants.{MAX_BODY_LEN}
use Rattle.pac_script.specs.Batches.{body_len}
use Rattle.pac_request.specs.declared.request.Request.{Request}
use Rattle.pac_request.specs.declared.request.Reply.{Reply}
use Rattle.pac_request.specs.contracts.request.Reply as reply_type
use Rattle.pac_session.specs.Groups.{has_save}
use Rattle.pac_session.specs.Session.{Rules, SessionState, txn_outcome, commits_asked, after_asked, reply_by, commits, state_after, answer, ends, replies, committed}

-- a session: what it goes by, the tables now, how many transactions were committed before the open group, and the group's
-- transactions and replies
pub record Open : Type 0 where
  pub catalogue : CatalogueState
  pub limit : ℕ
  pub most : ℕ
  pub tables : Tables
  pub before : ℕ
  pub txns : List Txn
  pub held : List Reply

-- how open sessions are told apart
abbrev pub open_code : Coded Open
open_code = code_by (CatalogueState × (ℕ × (ℕ × (Tables × (ℕ × (List Txn × List Reply))))))
    (coded× catalogue_type.the_row.coded (coded× coded_ℕ (coded× coded_ℕ (coded× tables_code (coded× coded_ℕ (coded× (coded_list txn_type.the_row.coded) (coded_list reply_type.the_row.coded)))))))
    (λ o. (o.catalogue, (o.limit, (o.most, (o.tables, (o.before, (o.txns, o.held)))))))
    (λ p. record { catalogue = p.0; limit = p.1.0; most = p.1.1.0; tables = p.1.1.1.0; before = p.1.1.1.1.0; txns = p.1.1.1.1.1.0; held = p.1.1.1.1.1.1 })
    (λ o. refl)

-- what the session goes by
abbrev pub rules_of : Open → Rules
rules_of now = record { catalogue = now.catalogue; limit = now.limit; most = now.most }

-- the state that the next request meets
abbrev pub state_now : Open → SessionState
state_now now = record { tables = now.tables; number = now.before + length now.txns }

-- a request goes after those of the group: its transaction, where that is committed, and its reply
abbrev pub with_asked : Request → Open → Open
with_asked asked now = record now {
  tables = (state_after (rules_of now) (state_now now) asked).tables;
  txns = now.txns ++ commits (rules_of now) (state_now now) asked;
  held = now.held ++ answer (rules_of now) (state_now now) asked;
}

-- the same of a transaction
abbrev pub with_run : Txn → Open → Open
with_run txn now = record now {
  tables = (after_asked (rules_of now) (state_now now) (Some txn)).tables;
  txns = now.txns ++ commits_asked (rules_of now) (state_now now) (Some txn);
  held = now.held ++ reply_by (state_now now) (txn_outcome (rules_of now) now.tables txn);
}

-- the group is closed, and another one begins
abbrev pub with_closed : Open → Open
with_closed now = record now { before = now.before + length now.txns; txns = []; held = [] }

-- The session is within a group: it holds the replies of these requests, which began at this state, and their
-- transactions. No save is among them, since that closes its group.
pub record IsInGroup (start : SessionState) (group : List Request) (now : Open) : Type 0 where
  pub answers : now.held ≡ replies (rules_of now) start group
  pub body : now.txns ≡ committed (rules_of now) start group
  pub here : ends (rules_of now) start group ≡ state_now now
  pub begun : start.number ≡ now.before
  pub unsaved : has_save group ≡ false

-- ---- what every session keeps

-- The catalogue is within the limits on operations; the rows fit it and stand within the limit; the transactions of the group fit the catalogue and a body, whose
-- length is kept; there are no fewer replies than transactions and no more than a group may hold, at most 1,024; and the
-- number before the group has a bound.
pub record IsWellFormed (now : Open) (count len : ℕ) : Type 0 where
  pub operations : HasFewOperations now.catalogue.procs
  pub rows : FitsCatalogue now.catalogue count now.tables
  pub within : first_over now.limit (length now.catalogue.tables) now.tables ≡ None
  pub fit : All (TxnFits now.catalogue) now.txns
  pub counted : len ≡ body_len now.txns
  pub short : len ≤ MAX_BODY_LEN
  pub fewer : length now.txns ≤ length now.held
  pub few : length now.held ≤ now.most
  pub most : now.most ≤ MAX_TXNS
  pub numbers : now.before ≤ 2 ^ 63 + 2 ^ 62 + MAX_TXNS
