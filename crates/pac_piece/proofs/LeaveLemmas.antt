-- One row that a piece leaves, over the tables themselves.
use Rattle.std.proofs.Common.{◌≡◌, ℕ, ◌<◌, true, false, List, Option, Some, None, Result, Ok, Err, refl, sym, ap, ◌∙◌, subst, ⊎_elim, get_or}
use Rattle.std.specs.Prelude.{IsSome, OnErr, OnOk, is_some, position}
use Rattle.std.specs.Option.{option_map}
use Rattle.std.specs.Ordering.{eq_by_cmp}
use Rattle.std.specs.FinMap.{get, insert}
use Rattle.pac_base.proofs.TestLemmas.{or_cases}
use Rattle.pac_value.specs.State.{Cell, cell_cmp, RowValues, Tables}
use Rattle.pac_value.proofs.CellLemmas.{tied_same}
use Rattle.pac_tables.specs.declared.writes.Write.{Write}
use Rattle.pac_tables.specs.Written.{IsOnce, cell_written, is_written, written}
use Rattle.pac_tables.proofs.WriteLemmas.{remove-absent}
use Rattle.pac_piece.specs.declared.ground.Ground.{Ground}
use Rattle.pac_piece.specs.Changes.{is_at, ChangesCell}
use Rattle.pac_piece.specs.InPlace.{HaveCellRoom, IsLeft, KeepsGround, Stands, tables_seen, tables_before}
use Rattle.pac_piece.proofs.WriteLookups.{first_at, get-none, none_at}
use Rattle.pac_piece.proofs.PlaceLemmas.{seen-put, still}
use Rattle.pac_piece.proofs.TableLemmas.{written_here}

-- a write is at the cell where one is found
pub some_at : (cell : Cell) (ws : List Write) (i : ℕ) (d : Write) → position (is_at cell) ws ≡ Some i → is_written ws cell ≡ true
some_at cell ws i d found =
    let first = first_at cell ws i found in
    ap (is_written ws) (tied_same cell (cell_written (get_or ws i d)) (first.here d)) ∙ written_here ws i d first.inside

pub state_found : (cell : Cell) (ws : List Write) (r : Option ℕ) → position (is_at cell) ws ≡ r → is_some r ≡ true → is_written ws cell ≡ true
state_found cell ws None e t = cc
state_found cell ws (Some i) e t = some_at cell ws i (record { table = cell.0; key = cell.1; row = None }) e

pub none_found : (cell : Cell) (ws : List Write) (r : Option ℕ) → position (is_at cell) ws ≡ r → is_some r ≡ false → is_written ws cell ≡ false
none_found cell ws None e t = none_at cell ws e
none_found cell ws (Some i) e t = cc

pub stands_there : {A B : Type 0} (r : Option A) (f : A → B) (o : Option B) → option_map f r ≡ o → is_some r ≡ true → IsSome o
stands_there None f o e t = cc
stands_there (Some x) f o e t = subst (λ (p : _). IsSome p) e refl

pub absent_there : {A B : Type 0} (r : Option A) (f : A → B) (o : Option B) → option_map f r ≡ o → is_some r ≡ false → o ≡ None
absent_there None f o e t = sym e
absent_there (Some x) f o e t = cc

pub on_err : {A E P Q S : Type 0} (r : Result A E) → (P → Q → S) → OnErr r P → OnErr r Q → OnErr r S
on_err (Ok x) f p q = p
on_err (Err e) f p q = f p q

module _ {R : Type 0} (held : R → Tables) (tables : R → ℕ) (cell : Cell) (old new : Ground R) (stands : Stands held tables old) where
  -- what is to stand at the end is another, at a cell where a row stands
  module _ (row : Option RowValues) (rows : new.rows ≡ old.rows) (olds : new.olds.items ≡ old.olds.items)
      (changes : ChangesCell cell row old.frame.writes.items new.frame.writes.items) (there : cell.0 < tables old.rows) (placed : IsSome (get (held old.rows) cell)) where
    pub ends-left : IsLeft held cell row old new
    ends-left = ap (λ (r : R). written (held r) new.frame.writes.items) rows ∙ changes.tables (held old.rows)

    pub ends-kept : KeepsGround held tables old new
    ends-kept = record {
      count = ap tables rows;
      before = (λ i. written (held (rows i)) (olds i));
      stands = record {
        room = subst (λ (r : R). HaveCellRoom (tables r) (held r) new.olds.items) (sym rows) (subst (HaveCellRoom (tables old.rows) (held old.rows)) (sym olds) stands.room);
        once = changes.once;
        there = λ a e. subst (λ (r : R). a.0 < tables r) (sym rows) (⊎_elim
            (λ same. subst (λ (b : Cell). b.0 < tables old.rows) (sym (tied_same a cell same)) there)
            (λ before. stands.there a before)
            (or_cases (eq_by_cmp cell_cmp a cell) (is_written old.frame.writes.items a) (sym (changes.at a) ∙ e)));
        placed = λ a e. subst (λ (r : R). IsSome (get (held r) a)) (sym rows) (⊎_elim
            (λ same. subst (λ (b : Cell). IsSome (get (held old.rows) b)) (sym (tied_same a cell same)) placed)
            (λ before. stands.placed a before)
            (or_cases (eq_by_cmp cell_cmp a cell) (is_written old.frame.writes.items a) (sym (changes.at a) ∙ e)));
      };
    }

  -- or it found no room, and all is as it was
  pub ends-either : {A E : Type 0} (row : Option RowValues) (rows : new.rows ≡ old.rows) (olds : new.olds.items ≡ old.olds.items) (r : Result A E)
      → OnOk r (ChangesCell cell row old.frame.writes.items new.frame.writes.items) → OnErr r (new.frame.writes.items ≡ old.frame.writes.items)
      → cell.0 < tables old.rows → IsSome (get (held old.rows) cell) → KeepsGround held tables old new
  ends-either row rows olds (Ok x) changes same there placed = ends-kept row rows olds changes there placed
  ends-either row rows olds (Err e) changes same there placed = record {
    count = ap tables rows;
    before = (λ i. written (held (rows i)) (olds i));
    stands = record {
      room = subst (λ (r : R). HaveCellRoom (tables r) (held r) new.olds.items) (sym rows) (subst (HaveCellRoom (tables old.rows) (held old.rows)) (sym olds) stands.room);
      once = subst (λ ws. IsOnce ws) (sym same) stands.once;
      there = λ a e. subst (λ (r : R). a.0 < tables r) (sym rows) (stands.there a (sym (ap (λ ws. is_written ws a) same) ∙ e));
      placed = λ a e. subst (λ (r : R). IsSome (get (held r) a)) (sym rows) (stands.placed a (sym (ap (λ ws. is_written ws a) same) ∙ e));
    };
  }

  -- a row is put where none of these is, or no room was found
  module _ (row : RowValues) (writes : new.frame.writes.items ≡ old.frame.writes.items) (before : tables_before held new ≡ tables_before held old)
      (room : HaveCellRoom (tables old.rows) (held old.rows) old.olds.items → HaveCellRoom (tables new.rows) (held new.rows) new.olds.items) (count : tables new.rows ≡ tables old.rows) where
    pub put-left : held new.rows ≡ insert (held old.rows) cell row → is_written old.frame.writes.items cell ≡ false → IsLeft held cell (Some row) old new
    put-left put none = (λ i. written (put i) (writes i)) ∙ seen-put (held old.rows) cell (Some row) old.frame.writes.items none

    put-stands : ((a : Cell) → IsSome (get (held old.rows) a) → IsSome (get (held new.rows) a)) → KeepsGround held tables old new
    put-stands still = record {
      count = count;
      before = before;
      stands = record {
        room = room stands.room;
        once = subst (λ ws. IsOnce ws) (sym writes) stands.once;
        there = λ a e. subst (λ n. a.0 < n) (sym count) (stands.there a (sym (ap (λ ws. is_written ws a) writes) ∙ e));
        placed = λ a e. still a (stands.placed a (sym (ap (λ ws. is_written ws a) writes) ∙ e));
      };
    }

    pub put-kept : held new.rows ≡ insert (held old.rows) cell row → KeepsGround held tables old new
    put-kept put = put-stands (λ a some. subst (λ (t : Tables). IsSome (get t a)) (sym put) (still (held old.rows) cell row a some))

    pub refused-kept : held new.rows ≡ held old.rows → KeepsGround held tables old new
    refused-kept same = put-stands (λ a some. subst (λ (t : Tables). IsSome (get t a)) (sym same) some)

    pub put-either : {A E : Type 0} (r : Result A E) → OnOk r (held new.rows ≡ insert (held old.rows) cell row) → OnErr r (held new.rows ≡ held old.rows) → KeepsGround held tables old new
    put-either (Ok x) put same = put-kept put
    put-either (Err e) put same = refused-kept same

-- no row stands at the cell, and none is left
pub none-left : {R : Type 0} (held : R → Tables) (cell : Cell) (ground : Ground R) → is_written ground.frame.writes.items cell ≡ false → get (held ground.rows) cell ≡ None → IsLeft held cell None ground ground
none-left held cell ground none absent = sym (remove-absent (tables_seen held ground) cell (get-none (held ground.rows) cell ground.frame.writes.items none ∙ absent))
