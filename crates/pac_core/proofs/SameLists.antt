-- An item that stands at an offset is what is read there.
use Rattle.std.proofs.Common.{◌≡◌, ℕ, List, get_or, Some, sym, ◌∙◌}
use Rattle.std.specs.Prelude.{slice_get}
use Rattle.std.proofs.lemmas.Option.{same_Some, slice_get-get_or, slice_get_within}

pub item_is : {A : Type 0} (xs : List A) (i : ℕ) (d x : A) → slice_get xs i ≡ Some x → get_or xs i d ≡ x
item_is xs i d x there = same_Some _ _ (sym (slice_get-get_or xs i d (slice_get_within xs i x there)) ∙ there)
