-- Lists of after-images, while transactions are executed one after another.
use Rattle.std.proofs.Common.{◌≡◌, ◌<◌, ℕ, ◌+◌, ◌-◌, drop, take, ◌&&◌, Bool, true, false, T, List, [], ◌∷◌, ◌++◌, map, length, Option, Some, None, Result, Ok, Err, IsTrue, refl, sym, ap, subst, ◌∙◌, append_assoc, append-nil, arith}
use Rattle.std.specs.Prelude.{slice_get, IsSomeAnd}
use Rattle.std.specs.Ordering.{is_lt}
use Rattle.std.specs.List.{All, AllByRecursion}
use Rattle.std.specs.FinMap.{get, entries, is_sorted, entries_sorted}
use Rattle.std.specs.FinMap.Entries.{below_all}
use Rattle.std.proofs.lemmas.List.{length-map}
use Rattle.std.proofs.lemmas.List.Elements.{All-from_recursion, All-get_or, All-tail, All-nil, All-cons}
use Rattle.std.proofs.lemmas.Option.{slice_get_within}
use Rattle.pac_value.specs.State.{Cell, cell_cmp, RowValues, Tables}
use Rattle.pac_value.specs.Expressions.{◌>>=◌}
use Rattle.pac_ops.specs.declared.note.Note.{Note}
use Rattle.pac_ops.specs.declared.reason.Reason.{Reason}
use Rattle.pac_ops.specs.declared.transaction.Change.{Change}
use Rattle.pac_ops.specs.declared.transaction.Change.TheVariants.{Put, Delete}
use Rattle.pac_ops.specs.declared.transaction.Txn.{Txn}
use Rattle.pac_ops.specs.Shapes.{ChangeFits, RecordsFit}
use Rattle.pac_ops.specs.Transactions.{with_changes}
use Rattle.pac_types.specs.declared.procedure.Proc.{Proc}
use Rattle.pac_types.specs.declared.table.Table.{Table}
use Rattle.pac_types.specs.Execution.{txn_meaning, in_txn, serial}
use Rattle.pac_types.specs.Fits.{shape}
use Rattle.pac_types.specs.Meaning.{Abort}
use Rattle.pac_serial.specs.declared.execute.ExecError.{ExecError}
use Rattle.pac_serial.specs.declared.execute.ExecError.TheVariants.{Abort as AbortAt}
use Rattle.pac_serial.specs.Outcomes.{Executes, limited}
use Rattle.pac_serial.specs.Writes.{if_well, image_cell, cells_written, cell_set, shown, image_in, after_images}
use Rattle.pac_tuple.specs.AfterImages.{all_after_images}
use Rattle.pac_tuple.specs.Images.{is_cell_above, AscendAfter}
use Rattle.pac_tuple.specs.Laying.{tables_laid, AreLaidWithin}
use Rattle.pac_tuple.proofs.AfterLemmas.{laid_after}

-- ---- images at ascending cells

cell-shown : (c : Cell) (row : Option RowValues) → image_cell (shown c row) ≡ c
cell-shown c None = refl
cell-shown c (Some row) = refl

both : (a b : Bool) → T (a && b) → T a × T b
both true b h = (tt, h)
both false b h = absurd h

so : (b : Bool) → T b → IsTrue b
so true h = refl
so false h = absurd h

-- the first cell is above the last one
abbrev IsAbove : Option Cell → List (Cell × Unit {0}) → Type 0
IsAbove last [] = Unit {0}
IsAbove last (e ∷ es) = IsTrue (is_cell_above last e.0)

above-next : (k : Cell) (es : List (Cell × Unit {0})) → T (below_all cell_cmp k es) → IsAbove (Some k) es
above-next k [] h = tt
above-next k (e ∷ es) h = so (is_lt (cell_cmp k e.0)) (both (is_lt (cell_cmp k e.0)) (below_all cell_cmp k es) h).0

ascend : (after : Tables) (last : Option Cell) (es : List (Cell × Unit {0})) → T (is_sorted cell_cmp es) → IsAbove last es → AscendAfter last (map (image_in after) (map (λ e. e.0) es))
ascend after last [] sorted above = tt
ascend after last (e ∷ es) sorted above =
    let parts = both (below_all cell_cmp e.0 es) (is_sorted cell_cmp es) sorted in (
      subst (λ (c : Cell). IsTrue (is_cell_above last c)) (sym (cell-shown e.0 (get after e.0))) above,
      subst (λ (c : Cell). AscendAfter (Some c) (map (image_in after) (map (λ e. e.0) es))) (sym (cell-shown e.0 (get after e.0))) (ascend after (Some e.0) es parts.1 (above-next e.0 es parts.0)),
    )

above-none : (es : List (Cell × Unit {0})) → IsAbove None es
above-none [] = tt
above-none (e ∷ es) = refl

-- the after-images of a transaction ascend
pub images_ascend : (procs : List Proc) (txn : Txn) (before after : Tables) (images : List Change) → images ≡ after_images procs txn before after → AscendAfter None images
images_ascend procs txn before after images is =
    let cells = cell_set (cells_written procs txn before) in
    subst (λ (cs : List Change). AscendAfter None cs) (sym is) (ascend after None (entries cells) (entries_sorted cells) (above-none (entries cells)))

-- ---- one transaction more

module _ (procs : List Proc) (txn : Txn) (txns : List Txn) (before : Tables) (lists : List (List Change)) where
  pub lists-more : (after : Tables) (images : List Change) → txn_meaning procs txn before ≡ Ok after → images ≡ after_images procs txn before after
      → (lists ++ images ∷ []) ++ all_after_images procs txns after ≡ lists ++ all_after_images procs (txn ∷ txns) before
  lists-more after images means is =
      append_assoc lists (images ∷ []) (all_after_images procs txns after)
      ∙ ap (λ (cs : List Change). lists ++ (cs ∷ all_after_images procs txns after)) is
      ∙ sym (ap (λ (r : Result Tables Abort). lists ++ if_well (λ t. after_images procs txn before t ∷ all_after_images procs txns t) r) means)

  -- one that aborts lists nothing
  pub lists-end : (abort : Abort) → txn_meaning procs txn before ≡ Err abort → lists ≡ lists ++ all_after_images procs (txn ∷ txns) before
  lists-end abort means = sym (ap (λ (r : Result Tables Abort). lists ++ if_well (λ t. after_images procs txn before t ∷ all_after_images procs txns t) r) means ∙ append-nil lists)

laid-append : (t : Tables) (lists : List (List Change)) (images : List Change) → tables_laid t (lists ++ images ∷ []) ≡ with_changes (tables_laid t lists) images
laid-append t [] images = refl
laid-append t (cs ∷ lists) images = laid-append (with_changes t cs) lists images

pub laid-more : (procs : List Proc) (txn : Txn) (old before after : Tables) (lists : List (List Change)) (images : List Change) → tables_laid old lists ≡ before → txn_meaning procs txn before ≡ Ok after → images ≡ after_images procs txn before after
    → tables_laid old (lists ++ images ∷ []) ≡ after
laid-more procs txn old before after lists images laid means is =
    laid-append old lists images ∙ ap (λ (t : Tables). with_changes t images) laid ∙ ap (with_changes before) is ∙ laid_after procs txn before after means

-- ---- a transaction that aborts

-- what an execution without a limit says of it
pub aborts : (A : Type 0) (n : ℕ) (m : Result Tables Abort) (old new : Tables) (error : ExecError) (op : ℕ) (reason : Reason) → error ≡ AbortAt op reason → Executes {A = A} (limited None n m) old new (Err error) → (m ≡ Err (op, reason)) × (new ≡ old)
aborts A n m old new error op reason is h = go m (subst (λ (e : ExecError). Executes {A = A} (limited None n m) old new (Failed e)) is h)
  where
    Failed : ExecError → Result A ExecError
    Failed e = Err e

    go : (m : Result Tables Abort) → (limited None n m ≡ Err (AbortAt op reason)) × (new ≡ old) → (m ≡ Err (op, reason)) × (new ≡ old)
    go (Ok t) (e, same) = let no_way : ⊥ = cc in absurd no_way
    go (Err abort) (e, same) =
        let at : abort.0 ≡ op = cc in
        let why : abort.1 ≡ reason = cc in
        ((λ k. Err (at k, why k)), same)

-- it stops serial execution, and the tables are those that the transactions before it gave
pub abort-stops : (procs : List Proc) (first i : ℕ) (txns : List Txn) (txn : Txn) (rest : List Txn) (old before new : Tables) (op : ℕ) (reason : Reason) (note : Note) → note.txn ≡ first + i → note.op ≡ op → note.reason ≡ reason
    → drop i txns ≡ txn ∷ rest → txn_meaning procs txn before ≡ Err (op, reason) → new ≡ before → serial procs (first + i) (drop i txns) before ≡ serial procs first txns old → serial procs first (take i txns) old ≡ Ok before
    → (serial procs first txns old ≡ Err note) × (serial procs first (take (note.txn - first) txns) old ≡ Ok new)
abort-stops procs first i txns txn rest old before new op reason note at_txn at_op why next means same so_far done =
    let back : note.txn - first ≡ i = omega (arith, at_txn) in (
      sym so_far ∙ ap (λ (xs : List Txn). serial procs (first + i) xs before) next
          ∙ ap (λ (r : Result Tables Abort). in_txn (first + i) r >>= λ t. serial procs (first + i + 1) rest t) means
          ∙ (λ k. Err (record { txn = sym at_txn k; op = sym at_op k; reason = sym why k })),
      ap (λ j. serial procs first (take j txns) old) back ∙ done ∙ ap (λ (t : Tables). Ok t) (sym same),
    )

-- ---- the tables that they name

there : {A : Type 0} (P : A → Type 0) (xs : List A) (i : ℕ) → IsSomeAnd (slice_get xs i) P → i < length xs
there {A} P xs i h = go (slice_get xs i) refl h
  where
    go : (o : Option A) → slice_get xs i ≡ o → IsSomeAnd o P → i < length xs
    go None e h = absurd h
    go (Some x) e h = slice_get_within xs i x e

change-within : (tables : List Table) (c : Change) → ChangeFits (map shape tables) c → (image_cell c).0 < length tables
change-within tables (Put table key row) fits = let lt = there _ (map shape tables) table fits in omega (arith, lt, length-map tables shape)
change-within tables (Delete table key) fits = let lt = there _ (map shape tables) table fits in omega (arith, lt, length-map tables shape)

changes-within : (tables : List Table) (cs : List Change) → RecordsFit (map shape tables) cs → AllByRecursion (λ (c : Change). (image_cell c).0 < length tables) cs
changes-within tables [] fit = tt
changes-within tables (c ∷ cs) fit = (change-within tables c fit.0, changes-within tables cs fit.1)

-- lists that fit the tables are in them
pub lists-within : (tables : List Table) (n : ℕ) (lists : List (List Change)) → n ≡ length tables → All (RecordsFit (map shape tables)) lists → AreLaidWithin n lists
lists-within tables n lists count fit = subst (λ k. AreLaidWithin k lists) (sym count) (go lists fit)
  where
    Within : List Change → Type 0
    Within images = All (λ (c : Change). (image_cell c).0 < length tables) images

    go : (lists : List (List Change)) → All (RecordsFit (map shape tables)) lists → All Within lists
    go [] fit = All-nil Within
    go (images ∷ lists) fit =
        All-cons Within images lists (All-from_recursion (λ (c : Change). (image_cell c).0 < length tables) images (changes-within tables images (All-get_or (RecordsFit (map shape tables)) (images ∷ lists) 0 images (omega arith) fit)))
        (go lists (All-tail (RecordsFit (map shape tables)) images lists fit))
