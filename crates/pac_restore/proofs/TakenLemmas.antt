-- Batches are read and taken.
use Rattle.std.proofs.Common.{◌≡◌, Option, Some, None, List, [], ◌∷◌, ◌++◌, Ok, sym, subst}
use Rattle.std.specs.List.{All, AllByRecursion}
use Rattle.std.proofs.lemmas.List.Elements.{recursion_from_All}
use Rattle.pac_ops.specs.declared.batch.Batch.{Batch}
use Rattle.pac_ops.specs.declared.transaction.Txn.{Txn}
use Rattle.pac_outside.specs.Disk.{DiskHistory, IfKnown}
use Rattle.pac_types.specs.Fits.{TxnFits}
use Rattle.pac_log.specs.declared.header.Header.{Header}
use Rattle.pac_log.specs.declared.position.NextGate.{NextGate}
use Rattle.pac_log.specs.Reading.{IsNextBatch}
use Rattle.pac_restore.specs.Reads.{AreRead, IsHandedOn, ReadsFurther}
use Rattle.pac_restore.proofs.ReadLemmas.{ReportsNext, on-end, on-more, on-none, read-more, read-none}

-- batches were read up to the gate, and taken
pub record Takes (known : Option DiskHistory) (old mid : NextGate) (took : List Batch → Type 0) : Type 0 where
  pub batches : List Batch
  pub read : AreRead old mid batches
  pub taken : took batches
  pub reads : (header : Header) (before : List (List Txn)) → IfKnown (λ h. ReadsFurther header before old mid batches h.now.seen) known

pub takes-none : (known : Option DiskHistory) (gate : NextGate) (took : List Batch → Type 0) → took [] → Takes known gate gate took
takes-none known gate took begins = record { batches = []; read = read-none gate; taken = begins; reads = λ header before. on-none header before gate known }

pub takes-more : (known : Option DiskHistory) (old mid new : NextGate) (took grown : List Batch → Type 0) (batch : Batch) → Takes known old mid took → ((taken : List Batch) → took taken → grown (taken ++ batch ∷ [])) → IsNextBatch mid new batch → All (TxnFits mid.catalogue) batch.txns
    → ReportsNext mid new (Ok (Some batch)) known → Takes known old new grown
takes-more known old mid new took grown batch so_far step next fits knows = record {
  batches = so_far.batches ++ batch ∷ [];
  read = read-more old mid new so_far.batches batch so_far.read next fits;
  taken = step so_far.batches so_far.taken;
  reads = λ header before. on-more header before old mid new so_far.batches batch known (so_far.reads header before) knows;
}

pub taken-all : (known : Option DiskHistory) (old mid new : NextGate) (took : List Batch → Type 0) → Takes known old mid took → new ≡ mid → ReportsNext mid new (Ok None) known → IsHandedOn known old new took
taken-all known old mid new took so_far end knows = record {
  batches = so_far.batches;
  read = subst (λ (g : NextGate). AreRead old g so_far.batches) (sym end) so_far.read;
  taken = so_far.taken;
  reads = λ header before. on-end header before old mid new so_far.batches known so_far.read.catalogue end (so_far.reads header before) knows;
}

-- the transactions of a batch that was read
pub fits-old : (old mid : NextGate) (bs : List Batch) (batch : Batch) → AreRead old mid bs → All (TxnFits mid.catalogue) batch.txns → AllByRecursion (TxnFits old.catalogue) batch.txns
fits-old old mid bs batch read fits = subst (λ c. AllByRecursion (TxnFits c) batch.txns) read.catalogue (recursion_from_All (TxnFits mid.catalogue) batch.txns fits)
