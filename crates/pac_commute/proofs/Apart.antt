-- The cells that the access of keys of a piece covers are of tables whose home is its block, and two pieces of which neither
-- needs the other have accesses that don't conflict.
use Rattle.std.proofs.Common.{◌≡◌, ℕ, ◌<◌, nat_lt, Bool, true, false, cond, ◌&&◌, ◌||◌, ◌==◌, List, [], ◌∷◌, refl, sym, ap, ◌∙◌, subst, true≢false, Option, Some, None, ◌⊎◌, inl, inr, ⊎_elim, arith}
use Rattle.std.specs.List.{list_any}
use Rattle.std.specs.Ordering.{eq_by_cmp}
use Rattle.std.proofs.lemmas.Bool.Decides.{Decides-ltb}
use Rattle.pac_value.specs.Expressions.{Values}
use Rattle.pac_value.specs.State.{Cell, cell_cmp}
use Rattle.pac_value.proofs.CellLemmas.{same-cell, tied_same}
use Rattle.pac_ops.specs.declared.piece.PieceId.{PieceId}
use Rattle.pac_ops.specs.declared.program.FlatOp.{FlatOp}
use Rattle.pac_ops.specs.Uses.{accessed_table, modifies}
use Rattle.pac_base.specs.Members.{Mem}
use Rattle.pac_ops.specs.Effects.{cell_in, NumberedOp}
use Rattle.pac_plan.specs.declared.access.Touch.{Touch}
use Rattle.pac_plan.specs.declared.access.Access.{Access}
use Rattle.pac_plan.specs.declared.access.Access.TheVariants.{Keys, Whole}
use Rattle.pac_plan.specs.Pieces.{named_cell, World, ops, access, touch, touches_of, is_loose, may_pass, op_cell, conflicts, covers, needs}
use Rattle.pac_plan.specs.WorldOrder.{WellFormed}
use Rattle.pac_base.proofs.TestLemmas.{equal_number, and_left, and_right, and_both, or_left, or_right, any_mem, any_gives, mem_each, unlike}
use Rattle.pac_ops.proofs.EffectLemmas.{touched-named, accessed-named, named-table}
use Rattle.pac_plan.proofs.PartLemmas.{part-mem}

-- each touch is at the cell of an operation
pub touch_from : (os : List NumberedOp) (env : Values) (more : List NumberedOp) (e : Touch) → Mem e (touches_of os env more) → (o : NumberedOp) × Mem o more × (op_cell o.1 env ≡ Some (named_cell e))
touch_from os env [] e m = absurd m
touch_from os env (o ∷ more) e m = go (may_pass os env o.1.conds) (op_cell o.1 env) refl m (touch_from os env more e)
  where
    go : (b : Bool) (c : Option Cell) → op_cell o.1 env ≡ c → Mem e (cond b (touch c (modifies o.1.kind) (touches_of os env more)) (touches_of os env more))
        → (Mem e (touches_of os env more) → (d : NumberedOp) × Mem d more × (op_cell d.1 env ≡ Some (named_cell e))) → (d : NumberedOp) × Mem d (o ∷ more) × (op_cell d.1 env ≡ Some (named_cell e))
    go true None at m rest = let r = rest m in (r.0, inr r.1, r.2)
    go true (Some a) at (inl same) rest = (o, inl refl, at ∙ ap (λ (x : Touch). Some (named_cell x)) (sym same))
    go true (Some a) at (inr m) rest = let r = rest m in (r.0, inr r.1, r.2)
    go false c at m rest = let r = rest m in (r.0, inr r.1, r.2)

cell_table : (op : FlatOp) (env : Values) (a : Cell) → op_cell op env ≡ Some a → accessed_table op.kind ≡ Some a.0
cell_table op env a e = accessed-named op.kind ∙ named-table _ env a (sym (ap cell_in (touched-named op.kind env)) ∙ e)

cell_turned : (a b : Cell) → eq_by_cmp cell_cmp a b ≡ true → eq_by_cmp cell_cmp b a ≡ true
cell_turned a b e = subst (λ c. eq_by_cmp cell_cmp c a ≡ true) (tied_same a b e) (same-cell a)

or_turned : (a b : Bool) → (a || b) ≡ true → (b || a) ≡ true
or_turned true b e = or_right b true refl
or_turned false b e = or_left b false e

-- conflict is the same both ways
pub conflicts_turned : (x y : Access) → conflicts x y ≡ true → conflicts y x ≡ true
conflicts_turned Whole Whole c = refl
conflicts_turned Whole (Keys m) c = refl
conflicts_turned (Keys l) Whole c = refl
conflicts_turned (Keys l) (Keys m) c =
    let d = any_gives (λ (e : Touch). list_any (λ (d : Touch). eq_by_cmp cell_cmp (named_cell e) (named_cell d) && (e.is_write || d.is_write)) m) l c in
    let x = any_gives (λ (x : Touch). eq_by_cmp cell_cmp (named_cell d.0) (named_cell x) && (d.0.is_write || x.is_write)) m d.2 in
    any_mem (λ (e : Touch). list_any (λ (d : Touch). eq_by_cmp cell_cmp (named_cell e) (named_cell d) && (e.is_write || d.is_write)) l) x.0 m x.1
    (any_mem (λ (y : Touch). eq_by_cmp cell_cmp (named_cell x.0) (named_cell y) && (x.0.is_write || y.is_write)) d.0 l d.1
    (and_both _ _ (cell_turned (named_cell d.0) (named_cell x.0) (and_left _ (d.0.is_write || x.0.is_write) x.2)) (or_turned d.0.is_write x.0.is_write (and_right (eq_by_cmp cell_cmp (named_cell d.0) (named_cell x.0)) _ x.2))))

module _ (w : World) (well_formed : WellFormed w) (env : ℕ → Values) where
  touch_home : (p : PieceId) (e : Touch) → Mem e (touches_of (ops w p) (env p.txn) (ops w p)) → p.block ≡ w.home (named_cell e).0
  touch_home p e m =
      let r = touch_from (ops w p) (env p.txn) (ops w p) e m in
      let in_part = part-mem (w.block p.txn) p.block (w.code p.txn) r.0 r.1 in
      sym in_part.1 ∙ sym (mem_each _ (w.code p.txn) (well_formed.homes p.txn) r.0 in_part.0 (named_cell e).0 (cell_table r.0.1 (env p.txn) (named_cell e) r.2))

  pub covered_home : (p : PieceId) → (access w env p ≡ Whole → ⊥) → (a : Cell) → covers (access w env p) a ≡ true → (p.block == w.home a.0) ≡ true
  covered_home p keys a c = go (list_any (is_loose (ops w p) (env p.txn)) (ops w p)) refl c
    where
      go : (b : Bool) → list_any (is_loose (ops w p) (env p.txn)) (ops w p) ≡ b → covers (cond b Whole (Keys (touches_of (ops w p) (env p.txn) (ops w p)))) a ≡ true → (p.block == w.home a.0) ≡ true
      go true e c = absurd (keys (ap (λ b. cond b Whole (Keys (touches_of (ops w p) (env p.txn) (ops w p)))) e))
      go false e c =
          let r = any_gives (λ (e : Touch). eq_by_cmp cell_cmp (named_cell e) a) (touches_of (ops w p) (env p.txn) (ops w p)) c in
          equal_number _ _ (touch_home p r.0 r.1 ∙ ap (λ (c : Cell). w.home c.0) (tied_same (named_cell r.0) a r.2))

  -- accesses of keys that conflict are of pieces of one block
  pub conflict_block : (p q : PieceId) → (access w env p ≡ Whole → ⊥) → (access w env q ≡ Whole → ⊥) → conflicts (access w env p) (access w env q) ≡ true → p.block ≡ q.block
  conflict_block p q kp kq c = go (list_any (is_loose (ops w p) (env p.txn)) (ops w p)) refl (list_any (is_loose (ops w q) (env q.txn)) (ops w q)) refl c
    where
      go : (b : Bool) → list_any (is_loose (ops w p) (env p.txn)) (ops w p) ≡ b → (c : Bool) → list_any (is_loose (ops w q) (env q.txn)) (ops w q) ≡ c
          → conflicts (cond b Whole (Keys (touches_of (ops w p) (env p.txn) (ops w p)))) (cond c Whole (Keys (touches_of (ops w q) (env q.txn) (ops w q)))) ≡ true → p.block ≡ q.block
      go true e c f h = absurd (kp (ap (λ b. cond b Whole (Keys (touches_of (ops w p) (env p.txn) (ops w p)))) e))
      go false e true f h = absurd (kq (ap (λ b. cond b Whole (Keys (touches_of (ops w q) (env q.txn) (ops w q)))) f))
      go false e false f h =
          let d = any_gives (λ (e : Touch). list_any (λ (d : Touch). eq_by_cmp cell_cmp (named_cell e) (named_cell d) && (e.is_write || d.is_write)) (touches_of (ops w q) (env q.txn) (ops w q))) (touches_of (ops w p) (env p.txn) (ops w p)) h in
          let x = any_gives (λ (x : Touch). eq_by_cmp cell_cmp (named_cell d.0) (named_cell x) && (d.0.is_write || x.is_write)) (touches_of (ops w q) (env q.txn) (ops w q)) d.2 in
          touch_home p d.0 d.1 ∙ ap (λ (c : Cell). w.home c.0) (tied_same (named_cell d.0) (named_cell x.0) (and_left _ (d.0.is_write || x.0.is_write) x.2)) ∙ sym (touch_home q x.0 x.1)

  -- of two pieces of one block with accesses that conflict the later one needs the earlier one
  needed_later : (p q : PieceId) → p.block ≡ q.block → p.txn < q.txn → conflicts (access w env p) (access w env q) ≡ true → needs w env p q ≡ true
  needed_later p q same lt c = or_right (p.txn == q.txn && w.edge p.block q.block) _
      (and_both (p.block == q.block && nat_lt p.txn q.txn) _ (and_both (p.block == q.block) _ (equal_number _ _ same) ((Decides-ltb _ _).1 lt)) c)

  pub apart_by_needs : (p q : PieceId) → (access w env p ≡ Whole → ⊥) → (access w env q ≡ Whole → ⊥) → (p ≡ q → ⊥)
      → needs w env p q ≡ false → needs w env q p ≡ false → conflicts (access w env p) (access w env q) ≡ false
  apart_by_needs p q kp kq differ pq qp = unlike _ (λ c. let same : p.block ≡ q.block = conflict_block p q kp kq c in
      ⊎_elim (λ l. true≢false (sym (needed_later p q same l c) ∙ pq))
      (λ r. ⊎_elim (λ e. differ (λ i. record { txn = e i; block = same i })) (λ g. true≢false (sym (needed_later q p (sym same) g (conflicts_turned (access w env p) (access w env q) c)) ∙ qp)) r)
      (three p.txn q.txn))
    where
      three : (a b : ℕ) → (a < b) ⊎ ((a ≡ b) ⊎ (b < a))
      three a b = grind arith
