-- What a load gives, of a store that was opened and a segment that was read.
use Rattle.std.proofs.Common.{◌≡◌, ◌∙◌, ℕ, ◌+◌, ◌-◌, List, [], ◌++◌, length, drop, Option, Some, None, refl, sym, ap, subst, arith}
use Rattle.std.proofs.lemmas.List.{drop_at}
use Rattle.pac_ops.specs.declared.batch.Batch.{Batch}
use Rattle.pac_ops.specs.declared.transaction.Txn.{Txn}
use Rattle.pac_outside.specs.Disk.{DiskHistory, IfKnown}
use Rattle.pac_types.specs.Typing.{CatalogueState}
use Rattle.pac_log.specs.declared.header.Header.{Header}
use Rattle.pac_log.specs.declared.position.NextGate.{NextGate}
use Rattle.pac_log.specs.Logs.{base_of, HoldsLog, all_txns}
use Rattle.pac_log.specs.Places.{IsAfter}
use Rattle.pac_log.specs.Reading.{StandsAfter}
use Rattle.pac_log.proofs.LogLemmas.{all_txns-append}
use Rattle.pac_check.specs.declared.info.SlotInfo.{SlotInfo}
use Rattle.pac_check.specs.SlotStates.{saved_txns}
use Rattle.pac_store.specs.Stored.{IsPlaced}
use Rattle.pac_restore.specs.Batches.{txns_by_batch, txns_in, FitBatches, RunOn}
use Rattle.pac_restore.specs.Loading.{HoldsLogUpTo}
use Rattle.pac_restore.specs.Reads.{HoldsTo, IsAtNewest, IsReadFrom}

-- ---- on whatever device

module _ (known : Option DiskHistory) (newest : Option SlotInfo) (old new : NextGate) (took : List Batch → Type 0) (read : IsReadFrom known newest old new took) (begins : newest ≡ None → base_of old.header ≡ 0) (first : old.txns ≡ base_of old.header) where
  pub header-stays : new.header ≡ old.header
  header-stays = read.rest.headed ∙ read.first.headed

  pub catalogue-stays : new.catalogue ≡ old.catalogue
  catalogue-stays = read.rest.catalogue ∙ read.first.catalogue

  -- the gate has the newest slot's number
  pub number-there : read.gate.txns ≡ saved_txns newest
  number-there = go newest refl read.there
    where
      go : (n : Option SlotInfo) → newest ≡ n → IsAtNewest n read.gate → read.gate.txns ≡ saved_txns n
      go None is there =
          let none : length (txns_in read.before) ≡ 0 = ap (λ (l : List Batch). length (txns_in l)) (read.start is) in
          omega (arith, read.first.counted, none, first, begins is)
      go (Some info) is there = there.1

  pub fits-after : FitBatches old.catalogue read.after
  fits-after = subst (λ (c : CatalogueState). FitBatches c read.after) read.first.catalogue read.rest.fit

  pub runs-after : RunOn (saved_txns newest) read.after
  runs-after = subst (λ (n : ℕ). RunOn n read.after) number-there read.rest.runs

  pub total-after : new.txns ≡ saved_txns newest + length (txns_in read.after)
  total-after = omega (arith, read.rest.counted, number-there)

  -- ---- on an image that holds the segment

  abbrev Batches : List (List Txn)
  Batches = txns_by_batch read.before ++ txns_by_batch read.after

  -- the newest slot is at a gate
  pub placed-there : IsAfter old.header (txns_by_batch read.before) read.gate → IsPlaced old.header Batches newest
  placed-there there = go newest refl read.there
    where
      go : (n : Option SlotInfo) → newest ≡ n → IsAtNewest n read.gate → IsPlaced old.header Batches n
      go None is at = begins is
      go (Some info) is at = record { before = txns_by_batch read.before; after = txns_by_batch read.after; split = refl; there = sym at.0 ∙ there.place; counted = sym at.1 ∙ there.txns }

  -- what was taken are the transactions with greater numbers
  pub txns-taken : IsAfter old.header (txns_by_batch read.before) read.gate → txns_in read.after ≡ drop (saved_txns newest - base_of old.header) (all_txns Batches)
  txns-taken there =
      let many : saved_txns newest - base_of old.header ≡ length (txns_in read.before) = omega (arith, there.txns, number-there) in
      sym (ap (λ (l : List Txn). drop (saved_txns newest - base_of old.header) l) (all_txns-append (txns_by_batch read.before) (txns_by_batch read.after)) ∙ drop_at (txns_in read.before) (txns_in read.after) (saved_txns newest - base_of old.header) (sym many))

-- the reader stands after all that the segment holds
pub up-to : (newest : Option SlotInfo) (old new : NextGate) (took : List Batch → Type 0) (known : Option DiskHistory) (read : IsReadFrom known newest old new took) → IfKnown (λ h. StandsAfter old.header [] old h.now.seen) known → IfKnown (λ h. HoldsLogUpTo new h.now.seen) known
up-to newest old new took known read stands = go known (read.reads old.header) stands
  where
    headed : new.header ≡ old.header
    headed = read.rest.headed ∙ read.first.headed

    same : new.catalogue ≡ old.catalogue
    same = read.rest.catalogue ∙ read.first.catalogue

    all : List (List Txn)
    all = txns_by_batch read.before ++ txns_by_batch read.after

    go : (known : Option DiskHistory) → IfKnown (λ h. StandsAfter old.header [] old h.now.seen → IsAfter old.header (txns_by_batch read.before) read.gate × HoldsTo old.header old.catalogue (txns_by_batch read.before ++ txns_by_batch read.after) new h.now.seen) known
        → IfKnown (λ h. StandsAfter old.header [] old h.now.seen) known → IfKnown (λ h. HoldsLogUpTo new h.now.seen) known
    go None reads stands = tt
    go (Some h) reads stands = record {
      batches = txns_by_batch read.before ++ txns_by_batch read.after;
      log = subst (λ (x : Header). HoldsLog x new.catalogue (txns_by_batch read.before ++ txns_by_batch read.after) h.now.seen) (sym headed) (subst (λ (c : CatalogueState). HoldsLog old.header c (txns_by_batch read.before ++ txns_by_batch read.after) h.now.seen) (sym same) (reads stands).1.0);
      end = subst (λ (x : Header). IsAfter x (txns_by_batch read.before ++ txns_by_batch read.after) new) (sym headed) (reads stands).1.1;
    }
