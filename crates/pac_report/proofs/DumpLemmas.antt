-- The lines of a table's rows: each row is the one that a look-up of its key finds.
use Rattle.std.proofs.Common.{◌≡◌, ◌++◌, ℕ, List, [], ◌∷◌, length, map, Some, refl, sym, ap, ◌∙◌, append_assoc}
use Rattle.std.specs.Prelude.{codes, flat_map}
use Rattle.std.specs.Fmt.{decimal}
use Rattle.std.specs.FinMap.{get}
use Rattle.pac_value.specs.declared.values.Key.{Key}
use Rattle.pac_value.specs.Literals.{key_text, values_text}
use Rattle.pac_value.specs.State.{RowValues, Tables, keys_of}
use Rattle.pac_report.specs.Dump.{row_text, row_line, table_dump}

abbrev pub line : Key → RowValues → List ℕ
line key row = key_text key ++ codes " (" ++ values_text row ++ codes ")\n"

module _ {A : Type 0} (tables : Tables) (t : ℕ) (k : A → Key) (r : A → RowValues) where
  own-lines : (xs : List A) → map (λ x. Some (r x)) xs ≡ map (λ key. get tables (t, key)) (map k xs) → flat_map (row_line tables t) (map k xs) ≡ flat_map (λ x. line (k x) (r x)) xs
  own-lines [] rows = refl
  own-lines (x ∷ xs) rows =
      let here : Some (r x) ≡ get tables (t, k x) = cc in
      let rest : map (λ y. Some (r y)) xs ≡ map (λ key. get tables (t, key)) (map k xs) = cc in
      (λ i. (key_text (k x) ++ codes " (" ++ row_text (sym here i) ++ codes ")\n") ++ own-lines xs rest i)

  pub lines : (xs : List A) (ks : List Key) → map k xs ≡ ks → map (λ x. Some (r x)) xs ≡ map (λ key. get tables (t, key)) ks → flat_map (row_line tables t) ks ≡ flat_map (λ x. line (k x) (r x)) xs
  lines xs ks keys rows =
      ap (flat_map (row_line tables t)) (sym keys) ∙ own-lines xs (rows ∙ ap (map (λ key. get tables (t, key))) (sym keys))

-- a table's lines after its head, whatever stands before them
pub after-head : (out now name : List ℕ) (n : ℕ) (tables : Tables) (t : ℕ) (written : List ℕ) → now ≡ out ++ (codes "table " ++ name ++ codes " " ++ decimal n ++ codes "\n")
    → n ≡ length (keys_of tables t) → flat_map (row_line tables t) (keys_of tables t) ≡ written → now ++ written ≡ out ++ table_dump tables t name
after-head out now name n tables t written head count body =
    ap (λ es. es ++ written) head ∙ append_assoc out (codes "table " ++ name ++ codes " " ++ decimal n ++ codes "\n") written
    ∙ (λ i. out ++ (codes "table " ++ name ++ codes " " ++ decimal (count i) ++ codes "\n" ++ sym body i))
