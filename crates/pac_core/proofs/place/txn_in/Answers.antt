-- By the batches that begin at or before the number.
use Rattle.std.proofs.Common.{◌-◌, ◌<◌, ◌≤◌, leb, List, length, get_or, subst, rules}
use Rattle.std.proofs.lemmas.List.Sorted.{IsPartitionPoint-from_clause, IsPartitionedBy-leb}
use Rattle.pac_ops.specs.declared.transaction.Txn.{Txn}
use Rattle.pac_core.specs.declared.loaded.LoadedBatch.{LoadedBatch}
use Rattle.pac_core.proofs.TxnPlaces.{in_last, last_begins, none_before, past_last, rise}
use Rattle.pac_core.proofs.place.txn_in.Goals as goal

pub returns-then-after-eq0-clause-none : goal.returns-then-after-eq0-clause-none
returns-then-after-eq0-clause-none c =
    let batches = c.args.batches.now in
    let t = c.args.txn in
    let n = c.partition_point-after.result in
    let point = IsPartitionPoint-from_clause (λ (l : LoadedBatch). leb l.batch.first t) batches n c.partition_point-after.ensures.partitioned (IsPartitionedBy-leb (λ (l : LoadedBatch). l.batch.first) batches t (rise batches c.requires)) (λ a r f called. search rules) in
    none_before batches c.requires t n c.partition_point-after.ensures.bound point c.if-after-eq0.true

pub overflow_sub-index : goal.overflow_sub-index
overflow_sub-index c =
    let batches = c.args.batches.now in
    let t = c.args.txn in
    let n = c.partition_point-after.result in
    let point = IsPartitionPoint-from_clause (λ (l : LoadedBatch). leb l.batch.first t) batches n c.partition_point-after.ensures.partitioned (IsPartitionedBy-leb (λ (l : LoadedBatch). l.batch.first) batches t (rise batches c.requires)) (λ a r f called. search rules) in
    last_begins batches c.requires t n c.partition_point-after.ensures.bound point (λ e. c.if-after-eq0.false e) c.index-batches-after.result

pub returns-then-index-items-clause-found : goal.returns-then-index-items-clause-found
returns-then-index-items-clause-found c =
    let batches = c.args.batches.now in
    let t = c.args.txn in
    let n = c.partition_point-after.result in
    let point = IsPartitionPoint-from_clause (λ (l : LoadedBatch). leb l.batch.first t) batches n c.partition_point-after.ensures.partitioned (IsPartitionedBy-leb (λ (l : LoadedBatch). l.batch.first) batches t (rise batches c.requires)) (λ a r f called. search rules) in
    in_last batches c.requires t n c.partition_point-after.ensures.bound point (λ e. c.if-after-eq0.false e) c.index-batches-after.result
    (subst (λ (l : List Txn). t - (get_or batches (n - 1) c.index-batches-after.result).batch.first < length l) c.items.ensures.value c.if-index-items.true)

pub returns-else-index-items-clause-none : goal.returns-else-index-items-clause-none
returns-else-index-items-clause-none c =
    let batches = c.args.batches.now in
    let t = c.args.txn in
    let n = c.partition_point-after.result in
    let point = IsPartitionPoint-from_clause (λ (l : LoadedBatch). leb l.batch.first t) batches n c.partition_point-after.ensures.partitioned (IsPartitionedBy-leb (λ (l : LoadedBatch). l.batch.first) batches t (rise batches c.requires)) (λ a r f called. search rules) in
    past_last batches c.requires t n c.partition_point-after.ensures.bound point (λ e. c.if-after-eq0.false e) c.index-batches-after.result
    (subst (λ (l : List Txn). length l ≤ t - (get_or batches (n - 1) c.index-batches-after.result).batch.first) c.items.ensures.value c.if-index-items.false)
