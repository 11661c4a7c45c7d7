-- The cells that a transaction has changed are those that its operations write.
use Rattle.std.proofs.Common.{◌≡◌, ℕ, ◌+◌, ◌||◌, Bool, true, false, cond, List, [], ◌∷◌, ◌++◌, map, Option, Some, None, is_some, Result, Ok, IsSomeAnd, refl, sym, ap, subst, ◌∙◌, arith}
use Rattle.std.specs.Prelude.{slice_get}
use Rattle.std.specs.Option.{option_map}
use Rattle.std.specs.Ordering.{eq_by_cmp}
use Rattle.std.specs.FinMap.{get, contains_key, insert, empty, get-insert, get-empty}
use Rattle.std.proofs.lemmas.List.Folds.{list_any-append}
use Rattle.std.proofs.lemmas.Option.{slice_get-map}
use Rattle.pac_value.specs.Values.{type_of, key_value}
use Rattle.pac_value.specs.State.{Cell, cell_cmp, RowValues}
use Rattle.pac_value.proofs.CellLemmas.{cells_total, tied_same}
use Rattle.pac_ops.specs.Operations.{State}
use Rattle.pac_ops.specs.declared.shapes.TableTypes.{TableTypes}
use Rattle.pac_ops.specs.Shapes.{KeyFits, RowFits}
use Rattle.pac_types.specs.declared.table.Table.{Table}
use Rattle.pac_types.specs.declared.statement.Stmt.{Stmt}
use Rattle.pac_types.specs.Meaning.{Abort}
use Rattle.pac_types.specs.WellFormed.{key_type}
use Rattle.pac_types.specs.Fits.{shape}
use Rattle.pac_types.proofs.ShapeLemmas.{key-of_fit}
use Rattle.pac_serial.specs.declared.pending.Pending.{Pending}
use Rattle.pac_serial.specs.Writes.{is_among, if_well}
use Rattle.pac_serial.specs.WriteSets.{Changes, ChangesAt}
use Rattle.pac_serial.specs.Transactions.{KeysFit}
use Rattle.pac_serial.specs.TextMeaning.{Code, code, text_cells}

-- one more change
pub changes_at-insert : (old new : Changes) (cell : Cell) (pending : Pending) → new ≡ insert old cell pending → ChangesAt (cell ∷ []) old new
changes_at-insert old new cell pending e q = ap (λ (m : Changes). contains_key m q) e ∙ ap is_some (get-insert cells_total old cell pending q) ∙ go (eq_by_cmp cell_cmp q cell) (get old q)
  where
    go : (b : Bool) (o : Option Pending) → is_some (cond b (Some pending) o) ≡ ((b || false) || is_some o)
    go true o = refl
    go false o = refl

-- no more changes
pub changes_at-none : (old new : Changes) → new ≡ old → ChangesAt [] old new
changes_at-none old new e q = ap (λ (m : Changes). contains_key m q) e

-- what is written later, and what was written before it
pub writes-next : (q : Cell) (cells later : List Cell) (mid new : Changes) → ChangesAt cells mid new → (is_among q later || contains_key new q) ≡ (is_among q (cells ++ later) || contains_key mid q)
writes-next q cells later mid new writes =
    ap (λ b. is_among q later || b) (writes q) ∙ go (is_among q later) (is_among q cells) (contains_key mid q) ∙ ap (λ b. b || contains_key mid q) (sym (list_any-append (eq_by_cmp cell_cmp q) cells later))
  where
    go : (r c m : Bool) → (r || (c || m)) ≡ ((c || r) || m)
    go true true m = refl
    go true false m = refl
    go false true m = refl
    go false false m = refl

-- the cells of a statement and of those after it
pub writes-on : (s : Stmt) (rest : List Stmt) (n m : ℕ) (before after : State) (mid new : Changes) → (code s).run (n + m) before ≡ Ok after → ChangesAt ((code s).cells (n + m) before) mid new → (q : Cell)
    → (is_among q (text_cells rest (n + (m + (code s).count)) after) || contains_key new q) ≡ (is_among q (text_cells (s ∷ rest) (n + m) before) || contains_key mid q)
writes-on s rest n m before after mid new runs writes q =
    let same : n + (m + (code s).count) ≡ n + m + (code s).count = omega arith in
    ap (λ k. is_among q (text_cells rest k after) || contains_key new q) same
    ∙ writes-next q ((code s).cells (n + m) before) (text_cells rest (n + m + (code s).count) after) mid new writes
    ∙ sym (ap (λ (r : Result State Abort). is_among q (if_well (λ t. (code s).cells (n + m) before ++ text_cells rest (n + m + (code s).count) t) r) || contains_key mid q) runs)

-- a statement of a form
pub writes-formed : (s : Stmt) (c : Code) → code s ≡ c → (start : State) (old new : Changes) → ((n : ℕ) → ChangesAt (c.cells n start) old new) → (n : ℕ) → ChangesAt ((code s).cells n start) old new
writes-formed s c is start old new writes = subst (λ (k : Code). (n : ℕ) → ChangesAt (k.cells n start) old new) (sym is) writes

-- ---- keys

-- a key of its table's type
pub key-fits : (tables : List Table) (cell : Cell) → key_type tables cell.0 ≡ Some (type_of (key_value cell.1)) → IsSomeAnd (slice_get (map shape tables) cell.0) (KeyFits cell.1)
key-fits tables cell typed = subst (λ (o : Option TableTypes). IsSomeAnd o (KeyFits cell.1)) (sym (slice_get-map shape tables cell.0)) (go (slice_get tables cell.0) typed)
  where
    go : (o : Option Table) → option_map (λ table. table.key) o ≡ Some (type_of (key_value cell.1)) → IsSomeAnd (option_map shape o) (KeyFits cell.1)
    go None h = absurd cc
    go (Some table) h = cc

pub row_key-fits : (tables : List Table) (cell : Cell) (row : RowValues) → RowFits (map shape tables) cell row → IsSomeAnd (slice_get (map shape tables) cell.0) (KeyFits cell.1)
row_key-fits tables cell row fits = key-fits tables cell (key-of_fit tables cell row fits)

-- one more of them
pub keys_fit-more : (tables : List Table) (old new : Changes) (p : Cell) → IsSomeAnd (slice_get (map shape tables) p.0) (KeyFits p.1) → ChangesAt (p ∷ []) old new → KeysFit tables old → KeysFit tables new
keys_fit-more tables old new p fits writes keys q found = go (eq_by_cmp cell_cmp q p) refl (sym (writes q) ∙ found)
  where
    go : (b : Bool) → eq_by_cmp cell_cmp q p ≡ b → ((b || false) || contains_key old q) ≡ true → IsSomeAnd (slice_get (map shape tables) q.0) (KeyFits q.1)
    go true e h = subst (λ (z : Cell). IsSomeAnd (slice_get (map shape tables) z.0) (KeyFits z.1)) (sym (tied_same q p e)) fits
    go false e h = keys q h

pub keys_fit-none : (tables : List Table) → KeysFit tables empty
keys_fit-none tables q found =
    let none : is_some (get {X = Pending} {R = cell_cmp} empty q) ≡ false = ap is_some (get-empty cell_cmp q) in
    let no_way : ⊥ = cc in
    absurd no_way
