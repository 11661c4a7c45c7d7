-- Windows of a segment that are executed one after another.
use Rattle.std.proofs.Common.{◌≡◌, ◌∙◌, ℕ, ◌+◌, List, [], ◌∷◌, ◌++◌, length, Option, Some, None, Result, Ok, Err, refl, sym, ap, subst, arith, append_assoc}
use Rattle.std.specs.List.{AllByRecursion}
use Rattle.std.specs.Prelude.{IfErr, IfOk}
use Rattle.std.proofs.lemmas.List.{length-append, map-append}
use Rattle.pac_value.specs.Expressions.{◌>>=◌}
use Rattle.pac_value.specs.State.{Tables}
use Rattle.pac_ops.specs.declared.batch.Batch.{Batch}
use Rattle.pac_ops.specs.declared.note.Note.{Note}
use Rattle.pac_ops.specs.declared.transaction.Txn.{Txn}
use Rattle.pac_outside.specs.Disk.{DiskHistory, IfKnown}
use Rattle.pac_types.specs.declared.procedure.Proc.{Proc}
use Rattle.pac_types.specs.Execution.{serial}
use Rattle.pac_types.specs.Typing.{CatalogueState}
use Rattle.pac_types.proofs.ExecutionLemmas.{serial-parts}
use Rattle.pac_log.specs.declared.header.Header.{Header}
use Rattle.pac_log.specs.declared.damage.DamageKind.{DamageKind}
use Rattle.pac_log.specs.declared.position.NextGate.{NextGate}
use Rattle.pac_log.specs.Logs.{all_txns}
use Rattle.pac_log.specs.Reading.{StandsAfter}
use Rattle.pac_log.proofs.LogLemmas.{all_txns-append}
use Rattle.pac_restore.specs.declared.execution.Execution.{Execution}
use Rattle.pac_restore.specs.Batches.{txns_by_batch, txns_in, FitBatches, RunOn}
use Rattle.pac_restore.specs.Outcomes.{outcome_of, HasExecuted}
use Rattle.pac_restore.specs.Reads.{AreRead, HoldsTo, IsDamagedAfter, IsHandedOn, ReadsFurther}
use Rattle.pac_restore.proofs.TakenLemmas.{Takes}
use Rattle.pac_recover.specs.FedLogs.{AreFurther, AreLast, IsDamagedThere}

-- ---- batches after batches

by-append : (xs ys : List Batch) → txns_by_batch (xs ++ ys) ≡ txns_by_batch xs ++ txns_by_batch ys
by-append xs ys = map-append (λ (b : Batch). b.txns) xs ys

in-append : (xs ys : List Batch) → txns_in (xs ++ ys) ≡ txns_in xs ++ txns_in ys
in-append xs ys = ap all_txns (by-append xs ys) ∙ all_txns-append (txns_by_batch xs) (txns_by_batch ys)

all-append : {A : Type 0} (P : A → Type 0) (xs ys : List A) → AllByRecursion P xs → AllByRecursion P ys → AllByRecursion P (xs ++ ys)
all-append P [] ys some more = more
all-append P (x ∷ xs) ys some more = (some.0, all-append P xs ys some.1 more)

run-append : (n : ℕ) (xs ys : List Batch) → RunOn n xs → RunOn (n + length (txns_in xs)) ys → RunOn n (xs ++ ys)
run-append n [] ys runs more = let same : n + 0 ≡ n = omega arith in subst (λ (k : ℕ). RunOn k ys) same more
run-append n (x ∷ xs) ys runs more =
    let same : n + length (x.txns ++ txns_in xs) ≡ n + length x.txns + length (txns_in xs) = omega (arith, length-append x.txns (txns_in xs)) in
    (runs.0, run-append (n + length x.txns) xs ys runs.1 (subst (λ (k : ℕ). RunOn k ys) same more))

read-append : (old mid new : NextGate) (xs ys : List Batch) → AreRead old mid xs → AreRead mid new ys → AreRead old new (xs ++ ys)
read-append old mid new xs ys first rest = record {
  catalogue = rest.catalogue ∙ first.catalogue;
  headed = rest.headed ∙ first.headed;
  runs = run-append old.txns xs ys first.runs (subst (λ (n : ℕ). RunOn n ys) first.counted rest.runs);
  fit = all-append _ xs ys first.fit (subst (λ (c : CatalogueState). FitBatches c ys) first.catalogue rest.fit);
  counted = omega (arith, first.counted, rest.counted, ap (λ (l : List Txn). length l) (in-append xs ys), length-append (txns_in xs) (txns_in ys));
}

joined : (before : List (List Txn)) (xs ys : List Batch) → (before ++ txns_by_batch xs) ++ txns_by_batch ys ≡ before ++ txns_by_batch (xs ++ ys)
joined before xs ys = append_assoc before (txns_by_batch xs) (txns_by_batch ys) ∙ ap (λ (l : List (List Txn)). before ++ l) (sym (by-append xs ys))

-- ---- what stands there

further-append : (header : Header) (before : List (List Txn)) (old mid new : NextGate) (xs ys : List Batch) (known : Option DiskHistory) → IfKnown (λ h. ReadsFurther header before old mid xs h.now.seen) known → IfKnown (λ h. ReadsFurther header (before ++ txns_by_batch xs) mid new ys h.now.seen) known
    → IfKnown (λ h. ReadsFurther header before old new (xs ++ ys) h.now.seen) known
further-append header before old mid new xs ys None first rest = tt
further-append header before old mid new xs ys (Some h) first rest = λ stands. subst (λ (l : List (List Txn)). StandsAfter header l new h.now.seen) (joined before xs ys) (rest (first stands))

holds-append : (header : Header) (before : List (List Txn)) (old mid new : NextGate) (xs ys : List Batch) (known : Option DiskHistory) → mid.catalogue ≡ old.catalogue → IfKnown (λ h. ReadsFurther header before old mid xs h.now.seen) known
    → IfKnown (λ h. StandsAfter header (before ++ txns_by_batch xs) mid h.now.seen → HoldsTo header mid.catalogue ((before ++ txns_by_batch xs) ++ txns_by_batch ys) new h.now.seen) known
    → IfKnown (λ h. StandsAfter header before old h.now.seen → HoldsTo header old.catalogue (before ++ txns_by_batch (xs ++ ys)) new h.now.seen) known
holds-append header before old mid new xs ys None same first rest = tt
holds-append header before old mid new xs ys (Some h) same first rest = λ stands.
    subst (λ (l : List (List Txn)). HoldsTo header old.catalogue l new h.now.seen) (joined before xs ys)
    (subst (λ (c : CatalogueState). HoldsTo header c ((before ++ txns_by_batch xs) ++ txns_by_batch ys) new h.now.seen) same (rest (first stands)))

damage-append : (header : Header) (before : List (List Txn)) (old mid : NextGate) (xs : List Batch) (at : ℕ) (kind : DamageKind) (known : Option DiskHistory) → mid.catalogue ≡ old.catalogue → IfKnown (λ h. ReadsFurther header before old mid xs h.now.seen) known
    → IfKnown (λ h. StandsAfter header (before ++ txns_by_batch xs) mid h.now.seen → IsDamagedAfter header mid.catalogue at kind h.now.seen) known
    → IfKnown (λ h. StandsAfter header before old h.now.seen → IsDamagedAfter header old.catalogue at kind h.now.seen) known
damage-append header before old mid xs at kind None same first rest = tt
damage-append header before old mid xs at kind (Some h) same first rest = λ stands. subst (λ (c : CatalogueState). IsDamagedAfter header c at kind h.now.seen) same (rest (first stands))

-- ---- windows after windows

module _ (known now : Option DiskHistory) (same : now ≡ known) (old mid new : NextGate) (took : List Batch → Type 0) (so_far : Takes known old mid took) where
  -- one window more
  pub takes-window : (grown : List Batch → Type 0) (window : List Batch) → AreRead mid new window → AreFurther now mid new window → ((taken : List Batch) → AreRead old mid taken → took taken → grown (taken ++ window)) → Takes known old new grown
  takes-window grown window read further step = record {
    batches = so_far.batches ++ window;
    read = read-append old mid new so_far.batches window so_far.read read;
    taken = step so_far.batches so_far.read so_far.taken;
    reads = λ header before. further-append header before old mid new so_far.batches window known (so_far.reads header before) (subst (λ (k : Option DiskHistory). AreFurther k mid new window) same further header (before ++ txns_by_batch so_far.batches));
  }

  -- and no more
  pub takes-all : (rest grown : List Batch → Type 0) → IsHandedOn now mid new rest → ((taken more : List Batch) → AreRead old mid taken → took taken → rest more → grown (taken ++ more)) → IsHandedOn known old new grown
  takes-all rest grown handed step =
      let last : IsHandedOn known mid new rest = subst (λ (k : Option DiskHistory). IsHandedOn k mid new rest) same handed in
      record {
        batches = so_far.batches ++ last.batches;
        read = read-append old mid new so_far.batches last.batches so_far.read last.read;
        taken = step so_far.batches last.batches so_far.read so_far.taken last.taken;
        reads = λ header before. holds-append header before old mid new so_far.batches last.batches known so_far.read.catalogue (so_far.reads header before) (last.reads header (before ++ txns_by_batch so_far.batches));
      }

  pub takes-damage : (at : ℕ) (kind : DamageKind) → IsDamagedThere now mid at kind → IsDamagedThere known old at kind
  takes-damage at kind damaged = λ header before.
      damage-append header before old mid so_far.batches at kind known so_far.read.catalogue (so_far.reads header before)
      (subst (λ (k : Option DiskHistory). IsDamagedThere k mid at kind) same damaged header (before ++ txns_by_batch so_far.batches))

-- a window that ends a segment
pub last-handed : (known : Option DiskHistory) (old new : NextGate) (took : List Batch → Type 0) (window : List Batch) → AreRead old new window → took window → AreLast known old new window → IsHandedOn known old new took
last-handed known old new took window read taken last = record { batches = window; read = read; taken = taken; reads = last }

-- ---- what they are executed to

module _ (procs : List Proc) (base : Tables) (old mid : NextGate) (xs ys : List Batch) (read : AreRead old mid xs) where
  parts : serial procs (old.txns + 1) (txns_in (xs ++ ys)) base ≡ (serial procs (old.txns + 1) (txns_in xs) base >>= λ u. serial procs (mid.txns + 1) (txns_in ys) u)
  parts =
      let number : old.txns + 1 + length (txns_in xs) ≡ mid.txns + 1 = omega (arith, read.counted) in
      ap (λ (l : List Txn). serial procs (old.txns + 1) l base) (in-append xs ys) ∙ serial-parts procs (old.txns + 1) (txns_in xs) (txns_in ys) base
      ∙ ap (λ (n : ℕ). serial procs (old.txns + 1) (txns_in xs) base >>= λ u. serial procs n (txns_in ys) u) number

  pub ends-more : (held : Tables) (outcome : Result Tables Note) → Ok held ≡ serial procs (old.txns + 1) (txns_in xs) base → outcome ≡ serial procs (mid.txns + 1) (txns_in ys) held → outcome ≡ serial procs (old.txns + 1) (txns_in (xs ++ ys)) base
  ends-more held outcome first rest = rest ∙ ap (λ (r : Result Tables Note). r >>= λ u. serial procs (mid.txns + 1) (txns_in ys) u) first ∙ sym parts

  pub ends-abort : (note : Note) → Err note ≡ serial procs (old.txns + 1) (txns_in xs) base → Err note ≡ serial procs (old.txns + 1) (txns_in (xs ++ ys)) base
  ends-abort note first = ap (λ (r : Result Tables Note). r >>= λ u. serial procs (mid.txns + 1) (txns_in ys) u) first ∙ sym parts

-- batches that run on are numbered in one way
one-number : (procs : List Proc) (base : Tables) (m n : ℕ) (bs : List Batch) → RunOn m bs → RunOn n bs → serial procs (m + 1) (txns_in bs) base ≡ serial procs (n + 1) (txns_in bs) base
one-number procs base m n [] first other = refl
one-number procs base m n (b ∷ bs) first other = let same : m + 1 ≡ n + 1 = sym first.0 ∙ other.0 in ap (λ (k : ℕ). serial procs k (txns_in (b ∷ bs)) base) same

pub has-executed : {T : Type 0} (catalogue : CatalogueState) (base : Tables) (executed : Execution T) (known : Option DiskHistory) (old new : NextGate)
    → IsHandedOn known old new (λ batches. outcome_of executed ≡ serial catalogue.procs (old.txns + 1) (txns_in batches) base) → IsHandedOn known old new (HasExecuted catalogue base executed)
has-executed catalogue base executed known old new handed = record {
  batches = handed.batches;
  read = handed.read;
  taken = λ before runs. handed.taken ∙ one-number catalogue.procs base old.txns before handed.batches handed.read.runs runs;
  reads = handed.reads;
}

-- ---- what holds of an answer

pub ok-both : {A E : Type 0} {P Q R : A → Type 0} (result : Result A E) → IfOk result P → IfOk result Q → ((x : A) → P x → Q x → R x) → IfOk result R
ok-both (Ok x) p q step = step x p q
ok-both (Err e) p q step = tt

pub ok-then : {A E : Type 0} {P Q : A → Type 0} (result : Result A E) → IfOk result P → ((x : A) → P x → Q x) → IfOk result Q
ok-then (Ok x) p step = step x p
ok-then (Err e) p step = tt

pub err-then : {A E : Type 0} {P Q : E → Type 0} (result : Result A E) → IfErr result P → ((e : E) → P e → Q e) → IfErr result Q
err-then (Ok x) p step = tt
err-then (Err e) p step = step e p
