-- A segment is read from gate to gate.
use Rattle.std.proofs.Common.{◌≡◌, ◌∙◌, ⊎_elim, ℕ, ◌≤◌, ◌+◌, Bool, true, false, List, [], ◌∷◌, ◌++◌, length, Option, Some, None, Result, Ok, Err, refl, sym, ap, subst, arith, append_assoc}
use Rattle.std.specs.List.{All, AllByRecursion}
use Rattle.std.proofs.lemmas.List.{append-nil}
use Rattle.std.proofs.lemmas.List.Elements.{recursion_from_All}
use Rattle.pac_ops.specs.declared.batch.Batch.{Batch}
use Rattle.pac_ops.specs.declared.transaction.Txn.{Txn}
use Rattle.pac_outside.specs.Disk.{DiskHistory, IfKnown}
use Rattle.pac_types.specs.Fits.{TxnFits}
use Rattle.pac_types.specs.Typing.{CatalogueState}
use Rattle.pac_log.specs.declared.header.Header.{Header}
use Rattle.pac_log.specs.declared.damage.DamageKind.{DamageKind}
use Rattle.pac_log.specs.declared.errors.LogError.{LogError}
use Rattle.pac_log.specs.declared.errors.LogError.TheVariants as error
use Rattle.pac_log.specs.declared.position.NextGate.{NextGate}
use Rattle.pac_log.specs.Logs.{log_prefix, number_after, HasGate, HoldsLog}
use Rattle.pac_log.specs.Places.{IsAfter}
use Rattle.pac_log.specs.Reading.{IsDamaged, IsNextBatch, StandsAfter, ReportsOfImage}
use Rattle.pac_check.specs.declared.info.SlotInfo.{SlotInfo}
use Rattle.pac_restore.specs.Batches.{txns_by_batch}
use Rattle.pac_restore.specs.Reads.{AreRead, HoldsTo, IsAtNewest, IsDamagedAfter, IsSought, NoneIs, ReadsFurther}
use Rattle.pac_restore.proofs.BatchLemmas.{all-push, count-push, run-push, split-push, txns-push}

-- ---- on whatever device

pub read-none : (gate : NextGate) → AreRead gate gate []
read-none gate = record { catalogue = refl; headed = refl; runs = tt; fit = tt; counted = omega arith }

pub read-more : (old mid new : NextGate) (bs : List Batch) (batch : Batch) → AreRead old mid bs → IsNextBatch mid new batch → All (TxnFits mid.catalogue) batch.txns → AreRead old new (bs ++ batch ∷ [])
read-more old mid new bs batch read next fits = record {
  catalogue = ap (λ (g : NextGate). g.catalogue) next.gate ∙ read.catalogue;
  headed = ap (λ (g : NextGate). g.header) next.gate ∙ read.headed;
  runs = run-push old.txns bs batch read.runs (next.first ∙ ap (λ (n : ℕ). n + 1) read.counted);
  fit = all-push (λ (b : Batch). AllByRecursion (TxnFits old.catalogue) b.txns) bs batch read.fit
      (subst (λ (c : CatalogueState). AllByRecursion (TxnFits c) batch.txns) read.catalogue (recursion_from_All (TxnFits mid.catalogue) batch.txns fits));
  counted = omega (arith, read.counted, ap (λ (g : NextGate). g.txns) next.gate, count-push bs batch);
}

-- each batch has a transaction
pub more-txns : (old new : NextGate) (batch : Batch) → IsNextBatch old new batch → old.txns + 1 ≤ new.txns
more-txns old new batch next = omega (arith, ap (λ (g : NextGate). g.txns) next.gate, next.body.count.0)

-- ---- where the device's history is known

abbrev pub ReportsNext : NextGate → NextGate → Result (Option Batch) LogError → Option DiskHistory → Type 0
ReportsNext old new result known = (header : Header) (batches : List (List Txn)) → IfKnown (λ h. StandsAfter header batches old h.now.seen → ReportsOfImage header batches old new h.now.seen result) known

module _ (header : Header) (before : List (List Txn)) where
  pub on-none : (gate : NextGate) (known : Option DiskHistory) → IfKnown (λ h. ReadsFurther header before gate gate [] h.now.seen) known
  on-none gate None = tt
  on-none gate (Some h) = λ stands. subst (λ (l : List (List Txn)). StandsAfter header l gate h.now.seen) (sym (append-nil before)) stands

  pub on-more : (old mid new : NextGate) (bs : List Batch) (batch : Batch) (known : Option DiskHistory) → IfKnown (λ h. ReadsFurther header before old mid bs h.now.seen) known → ReportsNext mid new (Ok (Some batch)) known
      → IfKnown (λ h. ReadsFurther header before old new (bs ++ batch ∷ []) h.now.seen) known
  on-more old mid new bs batch None so_far knows = tt
  on-more old mid new bs batch (Some h) so_far knows = λ stands.
      let grown : (before ++ txns_by_batch bs) ++ batch.txns ∷ [] ≡ before ++ txns_by_batch (bs ++ batch ∷ []) = append_assoc before (txns_by_batch bs) (batch.txns ∷ []) ∙ ap (λ (l : List (List Txn)). before ++ l) (sym (txns-push bs batch)) in
      subst (λ (l : List (List Txn)). StandsAfter header l new h.now.seen) grown (knows header (before ++ txns_by_batch bs) (so_far stands))

  pub on-end : (old mid new : NextGate) (bs : List Batch) (known : Option DiskHistory) → mid.catalogue ≡ old.catalogue → new ≡ mid → IfKnown (λ h. ReadsFurther header before old mid bs h.now.seen) known → ReportsNext mid new (Ok None) known
      → IfKnown (λ h. StandsAfter header before old h.now.seen → HoldsTo header old.catalogue (before ++ txns_by_batch bs) new h.now.seen) known
  on-end old mid new bs None same end so_far knows = tt
  on-end old mid new bs (Some h) same end so_far knows = λ stands. (
    subst (λ (c : CatalogueState). HoldsLog header c (before ++ txns_by_batch bs) h.now.seen) same (knows header (before ++ txns_by_batch bs) (so_far stands)),
    subst (λ (g : NextGate). IsAfter header (before ++ txns_by_batch bs) g) (sym end) (so_far stands).after,
  )

  pub on-damage : (old mid new : NextGate) (bs : List Batch) (at : ℕ) (kind : DamageKind) (known : Option DiskHistory) → mid.catalogue ≡ old.catalogue → IfKnown (λ h. ReadsFurther header before old mid bs h.now.seen) known
      → ReportsNext mid new (Err (error.Damaged at kind)) known → IfKnown (λ h. StandsAfter header before old h.now.seen → IsDamagedAfter header old.catalogue at kind h.now.seen) known
  on-damage old mid new bs at kind None same so_far knows = tt
  on-damage old mid new bs at kind (Some h) same so_far knows = λ stands.
      (before ++ txns_by_batch bs, subst (λ (c : CatalogueState). IsDamaged header c (before ++ txns_by_batch bs) (record { at = at; kind = kind }) h.now.seen) same (knows header (before ++ txns_by_batch bs) (so_far stands)))

-- ---- the gate that the newest slot names

-- batches were read up to the gate, and no gate before it is the one that the newest slot names
pub record Seeks (known : Option DiskHistory) (newest : Option SlotInfo) (old mid : NextGate) : Type 0 where
  pub batches : List Batch
  pub read : AreRead old mid batches
  pub reads : (header : Header) (before : List (List Txn)) → IfKnown (λ h. ReadsFurther header before old mid batches h.now.seen) known
  pub start : newest ≡ None → batches ≡ []
  pub none : (info : SlotInfo) → newest ≡ Some info → (header : Header) → IfKnown (λ h. StandsAfter header [] old h.now.seen → NoneIs info header (txns_by_batch batches)) known

pub seeks-none : (known : Option DiskHistory) (newest : Option SlotInfo) (gate : NextGate) → Seeks known newest gate gate
seeks-none known newest gate = record { batches = []; read = read-none gate; reads = λ header before. on-none header before gate known; start = λ e. refl; none = λ info is header. nothing info header known }
  where
    no-split : (before after : List (List Txn)) (txns : List Txn) → [] ≡ before ++ (txns ∷ after) → ⊥
    no-split [] after txns e = cc
    no-split (b ∷ before) after txns e = cc

    nothing : (info : SlotInfo) (header : Header) (known : Option DiskHistory) → IfKnown (λ h. StandsAfter header [] gate h.now.seen → NoneIs info header []) known
    nothing info header None = tt
    nothing info header (Some h) = λ stands before after txns split place number. no-split before after txns split

pub seeks-more : (known : Option DiskHistory) (newest : Option SlotInfo) (old mid new : NextGate) (batch : Batch) → Seeks known newest old mid → (IsAtNewest newest mid → ⊥) → IsNextBatch mid new batch → All (TxnFits mid.catalogue) batch.txns → ReportsNext mid new (Ok (Some batch)) known
    → Seeks known newest old new
seeks-more known newest old mid new batch so_far differs next fits knows = record {
  batches = so_far.batches ++ batch ∷ [];
  read = read-more old mid new so_far.batches batch so_far.read next fits;
  reads = λ header before. on-more header before old mid new so_far.batches batch known (so_far.reads header before) knows;
  start = λ e. absurd (differs (subst (λ (n : Option SlotInfo). IsAtNewest n mid) (sym e) tt));
  none = λ info is header. step info is header known (so_far.none info is header) (so_far.reads header []);
}
  where
    step : (info : SlotInfo) → newest ≡ Some info → (header : Header) (known : Option DiskHistory) → IfKnown (λ h. StandsAfter header [] old h.now.seen → NoneIs info header (txns_by_batch so_far.batches)) known
        → IfKnown (λ h. ReadsFurther header [] old mid so_far.batches h.now.seen) known → IfKnown (λ h. StandsAfter header [] old h.now.seen → NoneIs info header (txns_by_batch (so_far.batches ++ batch ∷ []))) known
    step info is header None none reads = tt
    step info is header (Some h) none reads = λ stands before after txns split place number.
        let here = (reads stands).after in
        ⊎_elim
        (λ last. differs (subst (λ (n : Option SlotInfo). IsAtNewest n mid) (sym is) (
          here.place ∙ sym (place ∙ ap (λ (l : List (List Txn)). length (log_prefix header l)) last),
          here.txns ∙ sym (number ∙ ap (λ (l : List (List Txn)). number_after header l) last),
        )))
        (λ rest. none stands before rest.0 txns rest.1 place number)
        (split-push (txns_by_batch so_far.batches) before after batch.txns txns (sym (txns-push so_far.batches batch) ∙ split))

-- at the end none is
pub sought-none : (known : Option DiskHistory) (newest : Option SlotInfo) (old mid new : NextGate) → Seeks known newest old mid → (IsAtNewest newest mid → ⊥) → new ≡ mid → ReportsNext mid new (Ok None) known → IsSought known newest old new false
sought-none known newest old mid new so_far differs end knows = go newest refl differs
  where
    no-true : false ≡ true → ⊥
    no-true e = cc

    misses : (info : SlotInfo) (header : Header) (known : Option DiskHistory) → (IsAtNewest (Some info) mid → ⊥) → IfKnown (λ h. StandsAfter header [] old h.now.seen → NoneIs info header (txns_by_batch so_far.batches)) known
        → IfKnown (λ h. StandsAfter header [] old h.now.seen → HoldsTo header old.catalogue (txns_by_batch so_far.batches) new h.now.seen) known
        → IfKnown (λ h. StandsAfter header [] old h.now.seen → HoldsLog header old.catalogue (txns_by_batch so_far.batches) h.now.seen × (HasGate header (txns_by_batch so_far.batches) info.place info.txns → ⊥)) known
    misses info header None differs none holds = tt
    misses info header (Some h) differs none holds = λ stands. ((holds stands).0, λ gate. at gate (none stands) (subst (λ (g : NextGate). IsAfter header (txns_by_batch so_far.batches) g) end (holds stands).1) gate.after refl)
      where
        at : (gate : HasGate header (txns_by_batch so_far.batches) info.place info.txns) → NoneIs info header (txns_by_batch so_far.batches) → IsAfter header (txns_by_batch so_far.batches) mid → (after : List (List Txn)) → gate.after ≡ after → ⊥
        at gate none here [] is =
            let all : txns_by_batch so_far.batches ≡ gate.before = gate.split ∙ ap (λ (l : List (List Txn)). gate.before ++ l) is ∙ append-nil gate.before in
            differs (
              here.place ∙ ap (λ (l : List (List Txn)). length (log_prefix header l)) all ∙ sym gate.there,
              here.txns ∙ ap (λ (l : List (List Txn)). number_after header l) all ∙ sym gate.counted,
            )
        at gate none here (txns ∷ after) is = none gate.before after txns (gate.split ∙ ap (λ (l : List (List Txn)). gate.before ++ l) is) gate.there gate.counted

    go : (n : Option SlotInfo) → newest ≡ n → (IsAtNewest n mid → ⊥) → IsSought known newest old new false
    go None is differs = absurd (differs tt)
    go (Some info) is differs = record {
      batches = so_far.batches;
      read = subst (λ (g : NextGate). AreRead old g so_far.batches) (sym end) so_far.read;
      there = λ e. absurd (no-true e);
      start = so_far.start;
      reads = λ header before. subst (λ (g : NextGate). IfKnown (λ h. ReadsFurther header before old g so_far.batches h.now.seen) known) (sym end) (so_far.reads header before);
      missed = λ e. (info, is, λ header. misses info header known differs (so_far.none info is header) (on-end header [] old mid new so_far.batches known so_far.read.catalogue end (so_far.reads header []) knows));
    }

-- here it is
pub sought-here : (known : Option DiskHistory) (newest : Option SlotInfo) (old mid : NextGate) → Seeks known newest old mid → IsAtNewest newest mid → IsSought known newest old mid true
sought-here known newest old mid so_far here = record {
  batches = so_far.batches;
  read = so_far.read;
  there = λ e. here;
  start = so_far.start;
  reads = so_far.reads;
  missed = λ e. absurd (no-false e);
}
  where
    no-false : true ≡ false → ⊥
    no-false e = cc

-- a test that isn't passed
pub not-passed : (is : Bool) {P : Type 0} → (P → is ≡ true) → is ≡ false → P → ⊥
not-passed true same e p = absurd cc
not-passed false same e p = let no : false ≡ true = same p in absurd cc
