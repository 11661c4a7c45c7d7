-- A row stays one when a column gets a value that it can hold.
use Rattle.std.proofs.Common.{◌≡◌, ℕ, zero, suc, true, [], ◌∷◌, refl, sym, subst}
use Rattle.std.specs.Prelude.{slice_set}
use Rattle.std.specs.List.{list_all}
use Rattle.std.proofs.Math.ListN.{length-set}
use Rattle.pac_base.proofs.TestLemmas.{and_left, and_right, and_both}
use Rattle.pac_value.specs.declared.values.Value.{Value}
use Rattle.pac_value.specs.Values.{is_stored, IsRow}
use Rattle.pac_value.specs.State.{RowValues}

all-set : (row : RowValues) (i : ℕ) (v : Value) → list_all is_stored row ≡ true → is_stored v ≡ true → list_all is_stored (slice_set row i v) ≡ true
all-set [] i v all one = refl
all-set (x ∷ row) zero v all one = and_both _ _ one (and_right (is_stored x) (list_all is_stored row) all)
all-set (x ∷ row) (suc i) v all one = and_both _ _ (and_left (is_stored x) (list_all is_stored row) all) (all-set row i v (and_right (is_stored x) (list_all is_stored row) all) one)

pub IsRow-set : (row values : RowValues) (i : ℕ) (v : Value) → values ≡ row → IsRow row → is_stored v ≡ true → IsRow (slice_set values i v)
IsRow-set row values i v e is one = subst (λ (r : RowValues). IsRow (slice_set r i v)) (sym e)
    (rw length-set is.0, rw length-set is.1, all-set row i v is.2 one)
