-- A loop that writes the items of a list one after another.
use Rattle.std.proofs.Common.{◌≡◌, ◌∙◌, ℕ, ◌<◌, ◌+◌, List, [], ◌∷◌, ◌++◌, length, take, get_or, sym, ap}
use Rattle.std.specs.List.{flat_map}
use Rattle.std.proofs.lemmas.List.{flat_map_more, take_more}
use Rattle.pac_value.specs.Growth.{Grew}

-- with one more item, what is written are the items so far and that one
pub one_more : {X : Type 0} (spell : X → List ℕ) (prefix old new : List ℕ) (xs : List X) (i : ℕ) (x : X) → i < length xs → x ≡ get_or xs i x → Grew old new (spell x)
    → old ≡ prefix ++ flat_map spell (take i xs) → new ≡ prefix ++ flat_map spell (take (i + 1) xs)
one_more {X} spell prefix old new xs i x lt is grew so_far =
    grew ∙ ap (λ (bytes : List ℕ). bytes ++ spell x) so_far ∙ flat_map_more spell prefix (take i xs) x ∙ ap (λ (ys : List X). prefix ++ flat_map spell ys) (ap (λ (y : X). take i xs ++ y ∷ []) is ∙ sym (take_more xs i x lt))
