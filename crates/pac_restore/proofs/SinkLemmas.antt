-- Batches are executed one after another as they are taken.
use Rattle.std.proofs.Common.{◌≡◌, ◌∙◌, ℕ, ◌+◌, List, [], ◌∷◌, ◌++◌, length, Option, Result, Ok, Err, refl, sym, ap, arith}
use Rattle.std.proofs.lemmas.List.{append-nil, length-append}
use Rattle.pac_value.specs.State.{Tables}
use Rattle.pac_ops.specs.declared.batch.Batch.{Batch}
use Rattle.pac_ops.specs.declared.note.Note.{Note}
use Rattle.pac_ops.specs.declared.transaction.Txn.{Txn}
use Rattle.pac_outside.specs.Disk.{DiskHistory}
use Rattle.pac_types.specs.declared.procedure.Proc.{Proc}
use Rattle.pac_types.proofs.ExecutionLemmas.{serial-parts}
use Rattle.pac_log.specs.declared.position.NextGate.{NextGate}
use Rattle.pac_log.specs.Logs.{all_txns}
use Rattle.pac_log.proofs.LogLemmas.{all_txns-append}
use Rattle.pac_check.specs.declared.info.SlotInfo.{SlotInfo}
use Rattle.pac_restore.specs.Batches.{txns_by_batch, txns_in, RunOn}
use Rattle.pac_restore.specs.Outcomes.{then_serial}
use Rattle.pac_restore.specs.Reads.{IsReadFrom}
use Rattle.pac_restore.proofs.BatchLemmas.{txns-push}

-- batches that run on, the last of which has the number after the others
runs-split : (n : ℕ) (bs : List Batch) (b : Batch) → RunOn n (bs ++ b ∷ []) → RunOn n bs × (b.first ≡ n + 1 + length (txns_in bs))
runs-split n [] b runs = (tt, omega (arith, runs.0))
runs-split n (x ∷ bs) b runs =
    let rest = runs-split (n + length x.txns) bs b runs.1 in
    ((runs.0, rest.0), omega (arith, rest.1, length-append x.txns (txns_in bs)))

in-push : (bs : List Batch) (b : Batch) → txns_in (bs ++ b ∷ []) ≡ txns_in bs ++ b.txns
in-push bs b = ap all_txns (txns-push bs b) ∙ all_txns-append (txns_by_batch bs) (b.txns ∷ []) ∙ ap (λ (l : List Txn). txns_in bs ++ l) (append-nil b.txns)

pub nothing-taken : (procs : List Proc) (out : Result Tables Note) (before : ℕ) → out ≡ then_serial procs (before + 1) [] out
nothing-taken procs (Ok tables) before = refl
nothing-taken procs (Err note) before = refl

pub taken-more : (procs : List Proc) (out mid next : Result Tables Note) (bs : List Batch) (b : Batch) → ((before : ℕ) → RunOn before bs → mid ≡ then_serial procs (before + 1) (txns_in bs) out) → next ≡ then_serial procs b.first b.txns mid
    → (before : ℕ) → RunOn before (bs ++ b ∷ []) → next ≡ then_serial procs (before + 1) (txns_in (bs ++ b ∷ [])) out
taken-more procs out mid next bs b so_far does before runs =
    let split = runs-split before bs b runs in
    does ∙ ap (λ (r : Result Tables Note). then_serial procs b.first b.txns r) (so_far before split.0)
    ∙ ap (λ (n : ℕ). then_serial procs n b.txns (then_serial procs (before + 1) (txns_in bs) out)) split.1 ∙ both out
    ∙ ap (λ (l : List Txn). then_serial procs (before + 1) l out) (sym (in-push bs b))
  where
    both : (out : Result Tables Note) → then_serial procs (before + 1 + length (txns_in bs)) b.txns (then_serial procs (before + 1) (txns_in bs) out) ≡ then_serial procs (before + 1) (txns_in bs ++ b.txns) out
    both (Ok tables) = sym (serial-parts procs (before + 1) (txns_in bs) b.txns tables)
    both (Err note) = refl

-- what is said of the batches that were taken, by what a sink says of them
pub read-as : (known : Option DiskHistory) (newest : Option SlotInfo) (old new : NextGate) (took said : List Batch → Type 0) → ((batches : List Batch) → took batches → said batches) → IsReadFrom known newest old new took → IsReadFrom known newest old new said
read-as known newest old new took said step read = record {
  gate = read.gate;
  before = read.before;
  after = read.after;
  first = read.first;
  rest = read.rest;
  there = read.there;
  start = read.start;
  taken = step read.after read.taken;
  reads = read.reads;
}
