-- Sorted entries of queues are in order: those of one queue together, ascending by access, modifications after reads.
use Rattle.std.proofs.Common.{◌≡◌, ℕ, ◌<◌, ◌≤◌, Bool, true, false, List, length, Option, Some, None, refl, sym, ap, ◌∙◌, subst, true≢false, arith}
use Rattle.std.specs.Prelude.{nat_lt}
use Rattle.std.specs.declared.cmp.Ordering.{Ordering}
use Rattle.std.specs.declared.cmp.Ordering.TheVariants.{Less, Equal, Greater}
use Rattle.std.specs.Ordering.{nat_cmp, bool_cmp, is_lt, ordering_then, ordering_reverse}
use Rattle.std.specs.Option.{option_cmp}
use Rattle.std.specs.Cmp.{IsTotalOrder, nat_cmp_total, bool_cmp_total, tied_itself}
use Rattle.std.specs.Cmp.Lexicographic.{options_total}
use Rattle.std.specs.List.Sorted.{IsSorted}
use Rattle.std.proofs.lemmas.Cmp.{on_total, then_total}
use Rattle.std.proofs.lemmas.List.Sorted.{ranks_by, sorted_far}
use borrow.Author.Tests.{ltb-false}
use Rattle.pac_value.specs.State.{Cell, cell_cmp}
use Rattle.pac_value.proofs.CellLemmas.{cells_total, cells_antisymmetric}
use Rattle.pac_batch.specs.declared.queues.Queued.{Queued}
use Rattle.pac_batch.specs.Queues.{entry, queued_block, AreInOrder}

-- ---- queues

abbrev pub row_cmp : Option Cell → Option Cell → Ordering
row_cmp = option_cmp cell_cmp

rows_total : IsTotalOrder row_cmp
rows_total = options_total cells_total

pub tied_rows : (x y : Option Cell) → row_cmp x y ≡ Equal → x ≡ y
tied_rows None None h = refl
tied_rows None (Some b) h = cc
tied_rows (Some a) None h = cc
tied_rows (Some a) (Some b) h = ap Some (cells_antisymmetric a b h)

pub same_rows : (x y : Option Cell) → x ≡ y → row_cmp x y ≡ Equal
same_rows x y e = subst (λ z. row_cmp x z ≡ Equal) e (tied_itself rows_total x)

-- ---- entries

abbrev pub queued_cmp : Queued → Queued → Ordering
queued_cmp a b = ordering_then (row_cmp a.row b.row) (ordering_then (nat_cmp a.index b.index) (bool_cmp a.is_write b.is_write))

queued_total : IsTotalOrder queued_cmp
queued_total = then_total (on_total (λ (q : Queued). q.row) rows_total) (then_total (on_total (λ (q : Queued). q.index) nat_cmp_total) (on_total (λ (q : Queued). q.is_write) bool_cmp_total))

first_of : (o r : Ordering) → is_lt (ordering_then o r) ≡ false → is_lt o ≡ false
first_of Less r h = h
first_of Equal r h = refl
first_of Greater r h = refl

rest_of : (o r : Ordering) → o ≡ Equal → is_lt (ordering_then o r) ≡ false → is_lt r ≡ false
rest_of o r e h = subst (λ x. is_lt (ordering_then x r) ≡ false) e h

-- neither before the other
squeezed : (o r : Ordering) → o ≡ ordering_reverse r → is_lt o ≡ false → is_lt r ≡ false → r ≡ Equal
squeezed o Less e h k = absurd (true≢false k)
squeezed o Equal e h k = refl
squeezed o Greater e h k = absurd (true≢false (ap is_lt (sym e) ∙ h))

number_order : (x y : ℕ) → is_lt (nat_cmp x y) ≡ false → y ≤ x
number_order x y h = go (nat_lt x y) refl
  where
    go : (b : Bool) → nat_lt x y ≡ b → y ≤ x
    go true t = absurd (true≢false (rw t at h))
    go false t = ltb-false x y t

write_order : (x y : Bool) → is_lt (bool_cmp y x) ≡ false → x ≡ true → y ≡ true
write_order x true h w = refl
write_order true false h w = absurd (true≢false h)
write_order false false h w = w

module _ (a b : Queued) (up : is_lt (queued_cmp b a) ≡ false) where
  row_up : is_lt (row_cmp b.row a.row) ≡ false
  row_up = first_of (row_cmp b.row a.row) _ up

  module _ (same : a.row ≡ b.row) where
    behind : is_lt (ordering_then (nat_cmp b.index a.index) (bool_cmp b.is_write a.is_write)) ≡ false
    behind = rest_of (row_cmp b.row a.row) _ (same_rows b.row a.row (sym same)) up

    index_up : a.index ≤ b.index
    index_up = number_order b.index a.index (first_of (nat_cmp b.index a.index) _ behind)

    write_up : a.index ≡ b.index → a.is_write ≡ true → b.is_write ≡ true
    write_up e w = write_order a.is_write b.is_write (rest_of (nat_cmp b.index a.index) _ (subst (λ k. nat_cmp k a.index ≡ Equal) e (tied_itself nat_cmp_total a.index)) behind) w

-- what stands between two of one queue is of that queue
between_rows : (x y z : Option Cell) → is_lt (row_cmp y x) ≡ false → is_lt (row_cmp z y) ≡ false → x ≡ z → x ≡ y
between_rows x y z up upper same = tied_rows x y (squeezed (row_cmp y x) (row_cmp x y) (rows_total.antisymm y x) up (subst (λ w. is_lt (row_cmp w y) ≡ false) (sym same) upper))

module _ (queued : List Queued) (sorted : IsSorted queued_cmp queued) where
  far : (p q : ℕ) → p ≤ q → q < length queued → is_lt (queued_cmp (entry queued q) (entry queued p)) ≡ false
  far p q le within = sorted_far (λ x y. is_lt (queued_cmp x y)) (ranks_by queued_total (λ (q : Queued). q)) queued sorted p q (queued_block 0 false) le within

  pub in_order : AreInOrder queued
  in_order = record {
    together = λ p m q le le' within same. between_rows (entry queued p).row (entry queued m).row (entry queued q).row
        (row_up (entry queued p) (entry queued m) (far p m le (omega arith)))
        (row_up (entry queued m) (entry queued q) (far m q le' within)) same;
    ascend = λ p q le within same. index_up (entry queued p) (entry queued q) (far p q le within) same;
    writes_last = λ p q le within same e w. write_up (entry queued p) (entry queued q) (far p q le within) same e w;
  }
