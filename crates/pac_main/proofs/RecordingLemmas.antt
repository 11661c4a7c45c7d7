-- The lists of batches one after another, and how `replay --images` writes them.
use Rattle.std.proofs.Common.{◌≡◌, ◌∙◌, ◌<◌, ◌+◌, ℕ, zero, suc, List, [], ◌∷◌, ◌++◌, length, take, drop, get_or, Result, Ok, Err, refl, sym, ap, subst, append_assoc, append-nil, arith}
use Rattle.std.specs.FinMap.{empty}
use Rattle.std.proofs.lemmas.List.{length-append, take_more, take-append-drop, drop_more}
use Rattle.std.proofs.lemmas.List.Concat.{flat_map-append}
use Rattle.pac_value.specs.Expressions.{◌>>=◌}
use Rattle.pac_value.specs.State.{Tables}
use Rattle.pac_ops.specs.declared.batch.Batch.{Batch}
use Rattle.pac_ops.specs.declared.note.Note.{Note}
use Rattle.pac_ops.specs.declared.transaction.Change.{Change}
use Rattle.pac_ops.specs.declared.transaction.Txn.{Txn}
use Rattle.pac_types.specs.declared.procedure.Proc.{Proc}
use Rattle.pac_types.specs.declared.table.Table.{Table}
use Rattle.pac_types.specs.Execution.{txn_meaning, in_txn, serial}
use Rattle.pac_types.specs.Meaning.{Abort}
use Rattle.pac_types.proofs.ExecutionLemmas.{serial-parts}
use Rattle.pac_restore.specs.Batches.{RunOn, txns_in}
use Rattle.pac_serial.specs.Writes.{after_images, if_well}
use Rattle.pac_tuple.specs.AfterImages.{all_after_images}
use Rattle.pac_tuple.specs.Images.{images_bytes}
use Rattle.pac_main.specs.Record.{AreListsOf, lists_bytes}

-- ---- parts of a list of transactions

pub after-parts : (procs : List Proc) (n : ℕ) (xs ys : List Txn) (t u : Tables) → serial procs n xs t ≡ Ok u → all_after_images procs (xs ++ ys) t ≡ all_after_images procs xs t ++ all_after_images procs ys u
after-parts procs n [] ys t u h = ap (all_after_images procs ys) (same t u h)
  where
    same : (a b : Tables) → ◌≡◌ {A = Result Tables Note} (Ok a) (Ok b) → a ≡ b
    same a b e = cc
after-parts procs n (x ∷ xs) ys t u h = go (txn_meaning procs x t) (λ w e. after-parts procs (n + 1) xs ys w u e) h
  where
    go : (r : Result Tables Abort) → ((w : Tables) → serial procs (n + 1) xs w ≡ Ok u → all_after_images procs (xs ++ ys) w ≡ all_after_images procs xs w ++ all_after_images procs ys u) → (in_txn n r >>= λ w. serial procs (n + 1) xs w) ≡ Ok u
        → if_well (λ w. after_images procs x t w ∷ all_after_images procs (xs ++ ys) w) r ≡ if_well (λ w. after_images procs x t w ∷ all_after_images procs xs w) r ++ all_after_images procs ys u
    go (Ok w) rest e = ap (λ (ls : List (List Change)). after_images procs x t w ∷ ls) (rest w e)
    go (Err a) rest e = absurd cc

pub ok-parts : (procs : List Proc) (n : ℕ) (xs ys : List Txn) (t u : Tables) → serial procs n xs t ≡ Ok u → serial procs n (xs ++ ys) t ≡ serial procs (n + length xs) ys u
ok-parts procs n xs ys t u h = serial-parts procs n xs ys t ∙ ap (λ (r : Result Tables Note). r >>= λ w. serial procs (n + length xs) ys w) h

pub err-parts : (procs : List Proc) (n : ℕ) (xs ys : List Txn) (t : Tables) (note : Note) → serial procs n xs t ≡ Err note → serial procs n (xs ++ ys) t ≡ Err note
err-parts procs n xs ys t note h = serial-parts procs n xs ys t ∙ ap (λ (r : Result Tables Note). r >>= λ w. serial procs (n + length xs) ys w) h

-- ---- batches

txns-append : (xs ys : List Batch) → txns_in (xs ++ ys) ≡ txns_in xs ++ txns_in ys
txns-append [] ys = refl
txns-append (x ∷ xs) ys = ap (λ (ts : List Txn). x.txns ++ ts) (txns-append xs ys) ∙ sym (append_assoc x.txns (txns_in xs) (txns_in ys))

txns-push : (xs : List Batch) (b : Batch) → txns_in (xs ++ b ∷ []) ≡ txns_in xs ++ b.txns
txns-push xs b = txns-append xs (b ∷ []) ∙ ap (λ (ts : List Txn). txns_in xs ++ ts) (append-nil b.txns)

first-at : (n i : ℕ) (batches : List Batch) (b : Batch) → i < length batches → RunOn n batches → (get_or batches i b).first ≡ n + length (txns_in (take i batches)) + 1
first-at n i [] b h runs = absurd (omega (arith, h))
first-at n zero (x ∷ batches) b h runs = omega (arith, runs.0)
first-at n (suc i) (x ∷ batches) b h runs =
    let rest = first-at (n + length x.txns) i batches b (omega (arith, h)) runs.1 in
    omega (arith, rest, length-append x.txns (txns_in (take i batches)))

are-append : (tables : List Table) (xs ys : List (List Change)) → AreListsOf tables xs → AreListsOf tables ys → AreListsOf tables (xs ++ ys)
are-append tables [] ys h k = k
are-append tables (x ∷ xs) ys h k = (h.0, are-append tables xs ys h.1 k)

-- the first batches gave these tables, and their lists are written
pub record RecordedSoFar (procs : List Proc) (tables : List Table) (batches : List Batch) (i : ℕ) (rows : Tables) (old new : List ℕ) : Type 0 where
  pub ends : serial procs 1 (txns_in (take i batches)) empty ≡ Ok rows
  pub bytes : new ≡ old ++ lists_bytes (all_after_images procs (txns_in (take i batches)) empty)
  pub lists : AreListsOf tables (all_after_images procs (txns_in (take i batches)) empty)

module _ (procs : List Proc) (tables : List Table) (batches : List Batch) (i : ℕ) (batch : Batch) (inside : i < length batches) (is : batch ≡ get_or batches i batch) (runs : RunOn 0 batches) where
  -- the number of the batch's first transaction
  number : batch.first ≡ 1 + length (txns_in (take i batches))
  number = let first = first-at 0 i batches batch inside runs in let same = ap (λ (b : Batch). b.first) is in omega (arith, first, same)

  taken : txns_in (take (i + 1) batches) ≡ txns_in (take i batches) ++ batch.txns
  taken = ap txns_in (take_more batches i batch inside ∙ ap (λ (b : Batch). take i batches ++ b ∷ []) (sym is)) ∙ txns-push (take i batches) batch

  all : txns_in batches ≡ txns_in (take i batches) ++ (batch.txns ++ txns_in (drop (i + 1) batches))
  all = ap txns_in (sym (take-append-drop i batches) ∙ ap (λ (bs : List Batch). take i batches ++ bs) (drop_more batches i batch inside ∙ ap (λ (b : Batch). b ∷ drop (i + 1) batches) (sym is)))
      ∙ txns-append (take i batches) (batch ∷ drop (i + 1) batches)

  pub recorded-more : (rows after : Tables) (old out new : List ℕ) → RecordedSoFar procs tables batches i rows old out → serial procs batch.first batch.txns rows ≡ Ok after
      → new ≡ out ++ lists_bytes (all_after_images procs batch.txns rows) → AreListsOf tables (all_after_images procs batch.txns rows) → RecordedSoFar procs tables batches (i + 1) after old new
  recorded-more rows after old out new so_far ends grew are =
      let before = txns_in (take i batches) in
      let lists : all_after_images procs (txns_in (take (i + 1) batches)) empty ≡ all_after_images procs before empty ++ all_after_images procs batch.txns rows =
      ap (λ (ts : List Txn). all_after_images procs ts empty) taken ∙ after-parts procs 1 before batch.txns empty rows so_far.ends in
      record {
        ends = ap (λ (ts : List Txn). serial procs 1 ts empty) taken ∙ ok-parts procs 1 before batch.txns empty rows so_far.ends ∙ ap (λ (n : ℕ). serial procs n batch.txns rows) (sym number) ∙ ends;
        bytes = grew ∙ ap (λ (b : List ℕ). b ++ lists_bytes (all_after_images procs batch.txns rows)) so_far.bytes
            ∙ append_assoc old (lists_bytes (all_after_images procs before empty)) (lists_bytes (all_after_images procs batch.txns rows))
            ∙ ap (λ (b : List ℕ). old ++ b) (sym (flat_map-append images_bytes (all_after_images procs before empty) (all_after_images procs batch.txns rows)) ∙ ap lists_bytes (sym lists));
        lists = subst (λ (ls : List (List Change)). AreListsOf tables ls) (sym lists) (are-append tables (all_after_images procs before empty) (all_after_images procs batch.txns rows) so_far.lists are);
      }

  pub recording-aborts : (rows : Tables) (old out : List ℕ) (note : Note) → RecordedSoFar procs tables batches i rows old out → serial procs batch.first batch.txns rows ≡ Err note → serial procs 1 (txns_in batches) empty ≡ Err note
  recording-aborts rows old out note so_far aborts =
      let before = txns_in (take i batches) in
      ap (λ (ts : List Txn). serial procs 1 ts empty) all ∙ ok-parts procs 1 before (batch.txns ++ txns_in (drop (i + 1) batches)) empty rows so_far.ends
      ∙ ap (λ (n : ℕ). serial procs n (batch.txns ++ txns_in (drop (i + 1) batches)) rows) (sym number)
      ∙ err-parts procs batch.first batch.txns (txns_in (drop (i + 1) batches)) rows note aborts
