-- The map of what is found is looked up by its cells, and gives tables what stays.
use Rattle.std.proofs.Common.{◌≡◌, ◌∙◌, ℕ, ◌<◌, Bool, true, false, ◌&&◌, cond, nat_eq, List, [], ◌∷◌, ◌++◌, Option, Some, None, is_some, refl, sym, ap}
use Rattle.std.specs.List.{All, AllByRecursion}
use Rattle.std.specs.Option.{option_or, unwrap_or}
use Rattle.std.specs.Ordering.{eq_by_cmp, nat_cmp}
use Rattle.std.specs.Cmp.{both_tied, unsigned_ties}
use Rattle.std.specs.Map.{lookup}
use Rattle.std.specs.FinMap.{get, from_entries}
use Rattle.std.proofs.lemmas.List.Elements.{All-from_recursion}
use Rattle.pac_value.specs.contracts.values.KeyPartialEq.TheImpl.{ghosts}
use Rattle.pac_value.specs.Keys.{key_cmp, key_ties}
use Rattle.pac_value.specs.State.{Cell, cell_cmp, RowValues, Tables, with_row}
use Rattle.pac_value.proofs.CellLemmas.{cells_total, get-with_row, same-cell}
use Rattle.pac_value.proofs.MapLemmas.{get-by_test}
use Rattle.pac_tuple.specs.Shares.{LastRows, AreRowsWithin}

-- cells as `==` tells them apart
abbrev pub cell_eq : Cell → Cell → Bool
cell_eq a b = nat_eq a.0 b.0 && (ghosts).eq a.1 b.1

pub cells_tie : (a b : Cell) → cell_eq a b ≡ eq_by_cmp cell_cmp a b
cells_tie a b = both_tied (nat_eq a.0 b.0) ((ghosts).eq a.1 b.1) (nat_cmp a.0 b.0) (key_cmp a.1 b.1) (unsigned_ties a.0 b.0) (key_ties a.1 b.1)

abbrev pub Entries : Type 0
Entries = List (Cell × Option RowValues)

-- what the map has at a cell
pub found-at : (es : Entries) (last : LastRows) (q : Cell) → from_entries es ≡ last → lookup (cell_eq q) es ≡ get last q
found-at es last q is = sym (get-by_test cells_total cell_eq cells_tie es q) ∙ ap (λ (m : LastRows). get m q) is

-- one entry more at the end
lookup-last : (es : Entries) (c : Cell) (row : Option RowValues) (q : Cell) → lookup (cell_eq q) (es ++ (c, row) ∷ []) ≡ option_or (lookup (cell_eq q) es) (cond (cell_eq q c) (Some row) None)
lookup-last [] c row q = refl
lookup-last (e ∷ es) c row q = go (cell_eq q e.0) (lookup-last es c row q)
  where
    go : (b : Bool) → lookup (cell_eq q) (es ++ (c, row) ∷ []) ≡ option_or (lookup (cell_eq q) es) (cond (cell_eq q c) (Some row) None)
        → cond b (Some e.1) (lookup (cell_eq q) (es ++ (c, row) ∷ [])) ≡ option_or (cond b (Some e.1) (lookup (cell_eq q) es)) (cond (cell_eq q c) (Some row) None)
    go true h = refl
    go false h = h

-- the last entry is made
pub one_row_made : (left rest : Entries) (c : Cell) (row : Option RowValues) (t new : Tables) (q : Cell) → left ≡ rest ++ (c, row) ∷ [] → new ≡ with_row t c row
    → unwrap_or (lookup (cell_eq q) rest) (get new q) ≡ unwrap_or (lookup (cell_eq q) left) (get t q)
one_row_made left rest c row t new q is made =
    ap (unwrap_or (lookup (cell_eq q) rest)) (ap (λ (u : Tables). get u q) made ∙ get-with_row t c row q ∙ ap (λ (b : Bool). cond b row (get t q)) (sym (cells_tie q c)))
    ∙ go (lookup (cell_eq q) rest) (cell_eq q c)
    ∙ sym (ap (λ (o : Option (Option RowValues)). unwrap_or o (get t q)) (ap (lookup (cell_eq q)) is ∙ lookup-last rest c row q))
  where
    go : (o : Option (Option RowValues)) (b : Bool) → unwrap_or o (cond b row (get t q)) ≡ unwrap_or (option_or o (cond b (Some row) None)) (get t q)
    go None true = refl
    go None false = refl
    go (Some r) b = refl

-- each entry is in one of the tables
pub entries-within : (tables : ℕ) (es : Entries) (last : LastRows) → from_entries es ≡ last → AreRowsWithin tables last → All (λ (e : Cell × Option RowValues). e.0.0 < tables) es
entries-within tables es last is within = All-from_recursion _ es (each es (λ q h. within q (ap is_some (sym (found-at es last q is)) ∙ h)))
  where
    itself : (c : Cell) → cell_eq c c ≡ true
    itself c = cells_tie c c ∙ same-cell c

    each : (fs : Entries) → ((q : Cell) → is_some (lookup (cell_eq q) fs) ≡ true → q.0 < tables) → AllByRecursion (λ (e : Cell × Option RowValues). e.0.0 < tables) fs
    each [] h = tt
    each (f ∷ fs) h = (h f.0 (ap (λ (b : Bool). is_some (cond b (Some f.1) (lookup (cell_eq f.0) fs))) (itself f.0)), each fs (λ q k. h q (later q (cell_eq q f.0) k)))
      where
        later : (q : Cell) (b : Bool) → is_some (lookup (cell_eq q) fs) ≡ true → is_some (cond b (Some f.1) (lookup (cell_eq q) fs)) ≡ true
        later q true k = refl
        later q false k = k
