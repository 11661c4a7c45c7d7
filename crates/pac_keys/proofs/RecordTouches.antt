-- The access of an ad hoc piece is the touches of its records.
use Rattle.std.proofs.Common.{◌≡◌, ℕ, ◌+◌, ◌==◌, Bool, true, false, cond, not, ◌||◌, List, [], ◌∷◌, map, Some, Result, Ok, refl, ap, ap₂, ◌∙◌}
use Rattle.std.specs.List.{list_any}
use Rattle.pac_value.specs.declared.values.Key.{Key}
use Rattle.pac_value.specs.declared.values.Key.TheVariants.{Int as IntKey, Text as TextKey}
use Rattle.pac_value.specs.declared.values.Value.{Value}
use Rattle.pac_value.specs.declared.expr.Trap.{Trap}
use Rattle.pac_value.specs.Values.{key_value, as_key}
use Rattle.pac_value.specs.Expressions.{Values, value_step, ◌>>=◌}
use Rattle.pac_value.proofs.ByForms.{fold-Lit}
use Rattle.pac_ops.specs.declared.transaction.Change.{Change}
use Rattle.pac_ops.specs.declared.transaction.Change.TheVariants.{Put as PutRow, Delete as DeleteRow}
use Rattle.pac_ops.specs.declared.transaction.Txn.TheVariants.{AdHoc}
use Rattle.pac_ops.specs.Uses.{accessed_table}
use Rattle.pac_ops.specs.Effects.{NumberedOp, numbered_from, record_op, target_of, cell_in, defined_in}
use Rattle.pac_plan.specs.declared.parts.PlanParts.{PlanParts}
use Rattle.pac_plan.specs.declared.access.Access.TheVariants.{Keys, Whole}
use Rattle.pac_plan.specs.Pieces.{part, avoid_step, is_bounded, op_cell, touch, touches_of, is_loose, access_of, has_ops}
use Rattle.pac_plan.specs.Worlds.{home_in, home_or}
use Rattle.pac_plan.specs.PieceFits.{change_table, records_in}
use Rattle.pac_plan.specs.Codes.{piece_ops}
use Rattle.pac_keys.specs.Records.{change_key, change_touch, has_records}

key_again : (key : Key) → as_key (key_value key) ≡ key
key_again (IntKey n) = refl
key_again (TextKey t) = refl

-- the cell of a record
record_cell : (change : Change) (env : Values) → op_cell (record_op change) env ≡ Some (change_table change, change_key change)
record_cell (PutRow table key row) env = ap (λ (r : Result Value Trap). cell_in (r >>= λ v. Ok (Some (table, as_key v)))) (fold-Lit (Result Value Trap) (value_step env) (key_value key)) ∙ ap (λ k. Some (table, k)) (key_again key)
record_cell (DeleteRow table key) env = ap (λ (r : Result Value Trap). cell_in (r >>= λ v. Ok (Some (table, as_key v)))) (fold-Lit (Result Value Trap) (value_step env) (key_value key)) ∙ ap (λ k. Some (table, k)) (key_again key)

-- its key is bounded
record_bounded : (os : List NumberedOp) (change : Change) → is_bounded os (target_of (record_op change).kind) ≡ true
record_bounded os (PutRow table key row) = fold-Lit Bool (avoid_step (defined_in os)) (key_value key)
record_bounded os (DeleteRow table key) = fold-Lit Bool (avoid_step (defined_in os)) (key_value key)

home-record : (parts : PlanParts) (c : Change) → home_or parts (accessed_table (record_op c).kind) ≡ home_in parts (change_table c)
home-record parts (PutRow table key row) = refl
home-record parts (DeleteRow table key) = refl

module _ (parts : PlanParts) (b : ℕ) (os : List NumberedOp) (env : Values) where
  abbrev rest : ℕ → List Change → List NumberedOp
  rest n cs = part (λ o. home_or parts (accessed_table o.1.kind)) b (numbered_from n (map record_op cs))

  one-touch : (n : ℕ) (c : Change) (more : List NumberedOp) → touches_of os env ((n, record_op c) ∷ more) ≡ change_touch c ∷ touches_of os env more
  one-touch n (PutRow table key row) more = ap (λ cell. touch cell true (touches_of os env more)) (record_cell (PutRow table key row) env)
  one-touch n (DeleteRow table key) more = ap (λ cell. touch cell true (touches_of os env more)) (record_cell (DeleteRow table key) env)

  not-loose : (n : ℕ) (c : Change) → is_loose os env (n, record_op c) ≡ false
  not-loose n (PutRow table key row) = ap not (record_bounded os (PutRow table key row))
  not-loose n (DeleteRow table key) = ap not (record_bounded os (DeleteRow table key))

  none-loose : (n : ℕ) (cs : List Change) → list_any (is_loose os env) (rest n cs) ≡ false
  unfolding numbered_from
  none-loose n [] = refl
  none-loose n (c ∷ cs) = go (home_or parts (accessed_table (record_op c).kind) == b) (none-loose (n + 1) cs)
    where
      go : (h : Bool) → list_any (is_loose os env) (rest (n + 1) cs) ≡ false → list_any (is_loose os env) (cond h ((n, record_op c) ∷ rest (n + 1) cs) (rest (n + 1) cs)) ≡ false
      go true k = ap₂ ◌||◌ (not-loose n c) k
      go false k = k

  record-touches : (n : ℕ) (cs : List Change) → touches_of os env (rest n cs) ≡ map change_touch (records_in parts b cs)
  unfolding numbered_from
  record-touches n [] = refl
  record-touches n (c ∷ cs) =
      ap (λ h. touches_of os env (cond (h == b) ((n, record_op c) ∷ rest (n + 1) cs) (rest (n + 1) cs))) (home-record parts c)
      ∙ go (home_in parts (change_table c) == b) (record-touches (n + 1) cs)
    where
      go : (h : Bool) → touches_of os env (rest (n + 1) cs) ≡ map change_touch (records_in parts b cs)
          → touches_of os env (cond h ((n, record_op c) ∷ rest (n + 1) cs) (rest (n + 1) cs)) ≡ map change_touch (cond h (c ∷ records_in parts b cs) (records_in parts b cs))
      go true k = one-touch n c (rest (n + 1) cs) ∙ ap (λ l. change_touch c ∷ l) k
      go false k = k

pub adhoc-access : (parts : PlanParts) (block : ℕ) (records : List Change) (env : Values)
    → access_of (piece_ops parts block (AdHoc records)) env ≡ Keys (map change_touch (records_in parts block records))
adhoc-access parts block records env = ap₂ (λ b touches. cond b Whole (Keys touches))
    (none-loose parts block (rest parts block [] env 0 records) env 0 records)
    (record-touches parts block (rest parts block [] env 0 records) env 0 records)

-- an ad hoc transaction has a piece where it has a record
pub adhoc-exists : (parts : PlanParts) (block : ℕ) (records : List Change) → has_ops (piece_ops parts block (AdHoc records)) ≡ has_records (records_in parts block records)
unfolding numbered_from
adhoc-exists parts block records = go 0 records
  where
    go : (n : ℕ) (cs : List Change) → has_ops (part (λ o. home_or parts (accessed_table o.1.kind)) block (numbered_from n (map record_op cs))) ≡ has_records (records_in parts block cs)
    go n [] = refl
    go n (c ∷ cs) =
        ap (λ h. has_ops (cond (h == block) ((n, record_op c) ∷ part (λ o. home_or parts (accessed_table o.1.kind)) block (numbered_from (n + 1) (map record_op cs))) (part (λ o. home_or parts (accessed_table o.1.kind)) block (numbered_from (n + 1) (map record_op cs))))) (home-record parts c)
        ∙ one (home_in parts (change_table c) == block) (go (n + 1) cs)
      where
        one : (h : Bool) → has_ops (part (λ o. home_or parts (accessed_table o.1.kind)) block (numbered_from (n + 1) (map record_op cs))) ≡ has_records (records_in parts block cs)
            → has_ops (cond h ((n, record_op c) ∷ part (λ o. home_or parts (accessed_table o.1.kind)) block (numbered_from (n + 1) (map record_op cs))) (part (λ o. home_or parts (accessed_table o.1.kind)) block (numbered_from (n + 1) (map record_op cs))))
            ≡ has_records (cond h (c ∷ records_in parts block cs) (records_in parts block cs))
        one true k = refl
        one false k = k
