-- The batches of a script: between flushes, the longest prefixes of the transactions that fit.
use Rattle.std.specs.Prelude.{◌≡◌, ◌+◌, ℕ, Bool, false, true, ◌&&◌, nat_le, List, [], ◌∷◌, ◌++◌, length, sum_by, Option, Some, None}
use Rattle.std.specs.List.{AllZip, flat_map}
use Rattle.pac_ops.specs.declared.batch.Batch.{Batch}
use Rattle.pac_ops.specs.declared.limits.TheConstants.{MAX_TXNS}
use Rattle.pac_ops.specs.declared.transaction.Txn.{Txn}
use Rattle.pac_ops.specs.declared.transaction.Txn.TheVariants.{Call, AdHoc}
use Rattle.pac_entry.specs.Entries.{txn_bytes}
use Rattle.pac_entry.specs.declared.limits.TheConstants.{MAX_BODY_LEN}
use Rattle.pac_request.specs.declared.request.Request.{Request}
use Rattle.pac_request.specs.declared.request.Request.TheVariants as request
use Rattle.pac_script.specs.declared.step.ScriptStep.{ScriptStep}
use Rattle.pac_script.specs.declared.step.ScriptStep.TheVariants.{Add, Flush}

-- ---- what lines are to the batches

-- a call and ad hoc records are transactions; a flush ends a batch; nothing else is for scripts
abbrev pub step_of : Request → Option ScriptStep
step_of (request.Call call) = Some (Add (Call call))
step_of (request.AdHoc records) = Some (Add (AdHoc records))
step_of request.Flush = Some Flush
step_of _ = None

-- a step before others, if there is one
abbrev pub step_in : Option ScriptStep → List ScriptStep → List ScriptStep
step_in None rest = rest
step_in (Some step) rest = step ∷ rest

-- what a line asks, before others
abbrev pub asked_in : Option Request → List ScriptStep → List ScriptStep
asked_in None rest = rest
asked_in (Some asked) rest = step_in (step_of asked) rest

-- what lines ask, one after another, without those that ask nothing
abbrev pub steps : List (Option Request) → List ScriptStep
steps [] = []
steps (asked ∷ more) = asked_in asked (steps more)

-- ---- what stands between flushes

-- the transactions before the first flush
abbrev pub first_run : List ScriptStep → List Txn
first_run [] = []
first_run (Add txn ∷ more) = txn ∷ first_run more
first_run (Flush ∷ more) = []

-- those after each of the flushes, up to the next
abbrev pub other_runs : List ScriptStep → List (List Txn)
other_runs [] = []
other_runs (Add txn ∷ more) = other_runs more
other_runs (Flush ∷ more) = first_run more ∷ other_runs more

-- the transactions between flushes
abbrev pub flush_runs : List ScriptStep → List (List Txn)
flush_runs all = first_run all ∷ other_runs all

-- ---- batches

-- how many bytes the body of a batch has: two numbers, and an entry for each transaction
abbrev pub body_len : List Txn → ℕ
body_len txns = 8 + sum_by (λ txn. length (txn_bytes txn)) txns

-- transactions that one batch can hold: at most 1,024, in a body of at most 4,194,304 bytes
abbrev pub fits : List Txn → Bool
fits txns = nat_le (length txns) MAX_TXNS && nat_le (body_len txns) MAX_BODY_LEN

-- a batch ends: nothing is left, or the next transaction doesn't fit in
abbrev pub Ends : List Txn → List Txn → Type 0
Ends held [] = Unit {0}
Ends held (next ∷ more) = fits (held ++ (next ∷ [])) ≡ false

-- a batch isn't empty
abbrev pub HasSome : List Txn → Type 0
HasSome [] = ⊥
HasSome (txn ∷ more) = Unit {0}

-- the parts of transactions, each the longest prefix of what is left that fits
abbrev pub AreLongest : List Txn → List (List Txn) → Type 0
AreLongest txns [] = txns ≡ []
AreLongest txns (part ∷ parts) = (rest : List Txn) × (txns ≡ part ++ rest) × HasSome part × (fits part ≡ true) × Ends part rest × AreLongest rest parts

-- parts as batches, whose transactions are numbered one after another, from this number on
abbrev pub as_batches : ℕ → List (List Txn) → List Batch
as_batches first [] = []
as_batches first (part ∷ parts) = record { first = first; txns = part } ∷ as_batches (first + length part) parts

-- the batches of a script's steps: those of each run, one run after another, numbered from 1 on
pub record AreCutInto (all : List ScriptStep) (made : List Batch) : Type 0 where
  pub parts : List (List (List Txn))
  pub each : AllZip AreLongest (flush_runs all) parts
  pub are : as_batches 1 (flat_map (λ run. run) parts) ≡ made
