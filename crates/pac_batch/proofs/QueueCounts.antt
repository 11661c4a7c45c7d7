-- There are at most as many entries as touches and accesses together.
use Rattle.std.proofs.Common.{◌≡◌, ◌≤◌, ℕ, suc, ◌+◌, Bool, true, false, List, [], ◌∷◌, length, refl, sym, ap, ap₂, ◌∙◌, arith, length-append}
use Rattle.std.specs.Prelude.{if◌then◌else◌}
use Rattle.std.proofs.lemmas.List.{length-map}
use Rattle.std.proofs.lemmas.List.Sums.{sum_by-cons}
use Rattle.pac_plan.specs.declared.access.Access.{Access}
use Rattle.pac_plan.specs.declared.access.Access.TheVariants.{Keys, Whole}
use Rattle.pac_batch.specs.Queues.{queued_touch, queued_touches, block_from, rows_from, any_whole, queued_all}
use Rattle.pac_batch.specs.NextLists.{touches_in, count_touches}

count_rows_at : (i : ℕ) (x : Access) → length (queued_touches i x) ≡ touches_in x
count_rows_at i Whole = refl
count_rows_at i (Keys touches) = length-map touches (queued_touch i)

count_block : (i : ℕ) (xs : List Access) → length (block_from i xs) ≡ length xs
count_block i [] = refl
count_block i (x ∷ xs) = ap suc (count_block (i + 1) xs)

count_rows : (i : ℕ) (xs : List Access) → length (rows_from i xs) ≡ count_touches xs
count_rows i [] = refl
count_rows i (x ∷ xs) = length-append (queued_touches i x) (rows_from (i + 1) xs) ∙ ap₂ (λ m n. m + n) (count_rows_at i x) (count_rows (i + 1) xs) ∙ sym (sum_by-cons touches_in x xs)

count_queue : (b : Bool) (xs : List Access) → length (if b then block_from 0 xs else []) ≤ length xs
count_queue true xs = let block = count_block 0 xs in omega (arith, block)
count_queue false xs = omega arith

pub count_entries : (xs : List Access) → length (queued_all xs) ≤ count_touches xs + length xs
count_entries xs =
    let block = count_queue (any_whole xs) xs in
    let rows = count_rows 0 xs in
    let both = length-append (if any_whole xs then block_from 0 xs else []) (rows_from 0 xs) in
    omega (arith, block, rows, both)
