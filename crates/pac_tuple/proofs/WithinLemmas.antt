-- What is read is in the catalogue's tables.
use Rattle.std.proofs.Common.{◌≡◌, ◌<◌, ℕ, List, [], ◌∷◌, ◌++◌, map, length, Option, Some, None, refl, arith}
use Rattle.std.specs.Prelude.{slice_get, IsSomeAnd}
use Rattle.std.specs.List.{All, AllByRecursion}
use Rattle.std.proofs.lemmas.List.{length-map}
use Rattle.std.proofs.lemmas.List.Elements.{All-from_recursion, All-push}
use Rattle.std.proofs.lemmas.Option.{slice_get_within}
use Rattle.pac_ops.specs.declared.transaction.Change.{Change}
use Rattle.pac_ops.specs.declared.transaction.Change.TheVariants.{Put, Delete}
use Rattle.pac_types.specs.declared.table.Table.{Table}
use Rattle.pac_types.specs.Fits.{shape}
use Rattle.pac_entry.specs.Entries.{IsRecord}
use Rattle.pac_serial.specs.Writes.{image_cell}
use Rattle.pac_tuple.specs.Images.{AreTxnImagesOf}
use Rattle.pac_tuple.specs.Laying.{AreLaidWithin}

there : {A : Type 0} (P : A → Type 0) (xs : List A) (i : ℕ) → IsSomeAnd (slice_get xs i) P → i < length xs
there {A} P xs i h = go (slice_get xs i) refl h
  where
    go : (o : Option A) → slice_get xs i ≡ o → IsSomeAnd o P → i < length xs
    go None e h = absurd h
    go (Some x) e h = slice_get_within xs i x e

record-within : (tables : List Table) (c : Change) → IsRecord tables c → (image_cell c).0 < length tables
record-within tables (Put table key row) r =
    let lt = there _ (map shape tables) table r.0 in
    let wide : length (map shape tables) ≡ length tables = length-map tables shape in
    omega (arith, lt, wide)
record-within tables (Delete table key) r =
    let lt = there _ (map shape tables) table r.0 in
    let wide : length (map shape tables) ≡ length tables = length-map tables shape in
    omega (arith, lt, wide)

records-within : (tables : List Table) (cs : List Change) → AllByRecursion (IsRecord tables) cs → AllByRecursion (λ (c : Change). (image_cell c).0 < length tables) cs
records-within tables [] h = tt
records-within tables (c ∷ cs) h = (record-within tables c h.0, records-within tables cs h.1)

-- one list more that fits the tables
pub one_list_within : (tables : List Table) (lists : List (List Change)) (images : List Change) → AreTxnImagesOf tables images → AreLaidWithin (length tables) lists → AreLaidWithin (length tables) (lists ++ images ∷ [])
one_list_within tables lists images form within =
    All-push (λ (cs : List Change). All (λ (c : Change). (image_cell c).0 < length tables) cs) lists images within
    (All-from_recursion (λ (c : Change). (image_cell c).0 < length tables) images (records-within tables images form.1))
