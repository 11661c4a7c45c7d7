-- Loops that read rows: what is there, before what reading gives of the rest, is what reading gives.
use Rattle.std.proofs.Common.{◌≡◌, ◌∙◌, ℕ, suc, ◌-◌, ◌+◌, ◌<◌, ◌≤◌, List, [], ◌∷◌, ◌++◌, Option, Some, Result, Ok, Err, refl, sym, ap, arith, append_assoc}
use Rattle.std.proofs.lemmas.List.{append-nil}
use Rattle.pac_base.specs.declared.refusal.Refusal.{Refusal}
use Rattle.pac_base.specs.declared.refusal.Refusal.TheVariants.{Fault, NoMemory}
use Rattle.pac_base.specs.Refusals.{Fails}
use Rattle.pac_value.specs.declared.values.Key.{Key}
use Rattle.pac_value.specs.Expressions.{◌>>=◌}
use Rattle.pac_types.specs.declared.table.Table.{Table}
use Rattle.pac_bytes.specs.Reading.{Rest}
use Rattle.pac_bytes.proofs.Loops.{preceding}
use Rattle.pac_check.specs.declared.damage.SlotFault.{SlotFault}
use Rattle.pac_check.specs.Checkpoints.{KeyedRow}
use Rattle.pac_check.specs.CheckpointReading.{next_row, next_rows}

abbrev Rows : Type 0
Rows = Result (List KeyedRow × Rest) SlotFault

moved : (prefix : List KeyedRow) (row : KeyedRow) (r : Rows) → preceding prefix (r >>= λ rows. Ok (row ∷ rows.0, rows.1)) ≡ preceding (prefix ++ row ∷ []) r
moved prefix row (Ok rows) = ap (λ (xs : List KeyedRow). Ok (xs, rows.1)) (sym (append_assoc prefix (row ∷ []) rows.0))
moved prefix row (Err fault) = refl

-- that many rows of a table, of which i are read
module _ (table : Table) (prefix : List KeyedRow) (count i : ℕ) (before : Option Key) (s : Rest) (total : Rows) (so_far : preceding prefix (next_rows table (count - i) before s) ≡ total) where
  pub rows-on : (row : KeyedRow) (t : Rest) → i < count → next_row table before s ≡ Ok (row, t) → preceding (prefix ++ row ∷ []) (next_rows table (count - (i + 1)) (Some row.0) t) ≡ total
  unfolding next_rows
  rows-on row t lt is =
      let k : count - i ≡ suc (count - (i + 1)) = omega arith in
      let one : preceding prefix (next_rows table (count - i) before s) ≡ preceding (prefix ++ row ∷ []) (next_rows table (count - (i + 1)) (Some row.0) t) = rw (k, is) (moved prefix row (next_rows table (count - (i + 1)) (Some row.0) t)) in
      sym one ∙ so_far

  pub rows-fail : (refusal : Refusal SlotFault) → i < count → Fails refusal (next_row table before s) → Fails refusal total
  unfolding next_rows
  rows-fail NoMemory lt fails = tt
  rows-fail (Fault fault) lt fails =
      let k : count - i ≡ suc (count - (i + 1)) = omega arith in
      let one : preceding prefix (next_rows table (count - i) before s) ≡ Err fault = rw (k, fails) refl in
      sym so_far ∙ one

  pub rows-done : count ≤ i → total ≡ Ok (prefix, s)
  unfolding next_rows
  rows-done le =
      let k : count - i ≡ 0 = omega arith in
      let one : preceding prefix (next_rows table (count - i) before s) ≡ Ok (prefix, s) = rw k (ap (λ (xs : List KeyedRow). Ok (xs, s)) (append-nil prefix)) in
      sym so_far ∙ one
