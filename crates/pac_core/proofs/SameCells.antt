-- Two lists of the cells of an access are one; and the cells are of tables of the plan.
use Rattle.std.proofs.Common.{◌≡◌, ◌⊎◌, ℕ, zero, suc, Bool, true, false, cond, List, [], ◌∷◌, Option, None, Some, refl, sym, ap, ap₂, subst, ◌∙◌, inl, inr, arith}
use Rattle.std.specs.Prelude.{AllPairs, Contains}
use Rattle.std.specs.declared.cmp.Ordering.TheVariants.{Less, Equal}
use Rattle.std.specs.Ordering.{eq_by_cmp, ordering_reverse}
use Rattle.std.specs.List.{list_any}
use Rattle.std.specs.Cmp.{tied_itself}
use Rattle.pac_base.specs.Members.{Each, Mem}
use Rattle.pac_base.proofs.TestLemmas.{any_gives, each_mem, mem_each}
use Rattle.pac_value.specs.Expressions.{Values}
use Rattle.pac_value.specs.State.{Cell, cell_cmp}
use Rattle.pac_value.proofs.CellLemmas.{cells_total, tied_same}
use Rattle.pac_ops.specs.declared.program.FlatOp.{FlatOp}
use Rattle.pac_ops.specs.Uses.{accessed_table, modifies}
use Rattle.pac_ops.specs.Effects.{NumberedOp, cell_in}
use Rattle.pac_ops.proofs.EffectLemmas.{accessed-named, named-table, touched-named}
use Rattle.pac_plan.specs.declared.access.Access.{Access}
use Rattle.pac_plan.specs.declared.access.Access.TheVariants.{Keys, Whole}
use Rattle.pac_plan.specs.declared.access.Touch.{Touch}
use Rattle.pac_plan.specs.Pieces.{access_of, covers, is_loose, may_pass, named_cell, op_cell, touch, touches_of}
use Rattle.pac_piece.specs.Sources.{HasTable, HaveTables}
use Rattle.pac_core.specs.Cells.{AreCellsOf}

-- ---- members

pub contains_mem : {A : Type 0} (xs : List A) (a : A) → Contains xs a → Mem a xs
contains_mem [] a (k, lt, e) = absurd (omega (arith, lt))
contains_mem (x ∷ xs) a (zero, lt, e) = inl (sym e)
contains_mem (x ∷ xs) a (suc k, lt, e) = inr (contains_mem xs a (k, omega (arith, lt), e))

pub mem_contains : {A : Type 0} (xs : List A) (a : A) → Mem a xs → Contains xs a
mem_contains [] a m = absurd m
mem_contains (x ∷ xs) a (inl e) = (0, omega arith, sym e)
mem_contains (x ∷ xs) a (inr m) = let r = mem_contains xs a m in let lt = r.1 in (suc r.0, omega (arith, lt), r.2)

-- ---- ascending

abbrev LessCell : Cell → Cell → Type 0
LessCell a b = cell_cmp a b ≡ Less

not_less : (a : Cell) → LessCell a a → ⊥
not_less a e = let tie = tied_itself cells_total a in let wrong : Less ≡ Equal = sym e ∙ tie in cc

not_both : (a b : Cell) → LessCell a b → LessCell b a → ⊥
not_both a b e f = let wrong : Less ≡ ordering_reverse Less = sym e ∙ cells_total.antisymm a b ∙ ap ordering_reverse f in cc

abbrev Up : List Cell → Type 0
Up [] = Unit {0}
Up (a ∷ cs) = Each (LessCell a) cs × Up cs

all_up : (cs : List Cell) → AllPairs (λ a b. cell_cmp a b ≡ Less) cs → Up cs
all_up [] pairs = tt
all_up (a ∷ cs) pairs = (each_mem (LessCell a) cs first, all_up cs (λ i j d lt within. pairs (suc i) (suc j) d (omega (arith, lt)) (omega (arith, within))))
  where
    first : (b : Cell) → Mem b cs → LessCell a b
    first b m =
        let c = mem_contains cs b m in
        let lt = c.1 in
        subst (LessCell a) c.2 (pairs 0 (suc c.0) b (omega arith) (omega (arith, lt)))

same_up : (cs bs : List Cell) → Up cs → Up bs → ((a : Cell) → Mem a cs → Mem a bs) → ((a : Cell) → Mem a bs → Mem a cs) → cs ≡ bs
same_up [] [] ua ub there back = refl
same_up [] (b ∷ bs) ua ub there back = absurd (back b (inl refl))
same_up (a ∷ cs) [] ua ub there back = absurd (there a (inl refl))
same_up (a ∷ cs) (b ∷ bs) ua ub there back = ap₂ (λ x xs. x ∷ xs) head (same_up cs bs ua.1 ub.1 in_bs in_cs)
  where
    head : a ≡ b
    head = go (there a (inl refl)) (back b (inl refl))
      where
        go : (a ≡ b) ⊎ Mem a bs → (b ≡ a) ⊎ Mem b cs → a ≡ b
        go (inl e) back = e
        go (inr m) (inl e) = sym e
        go (inr m) (inr k) = absurd (not_both a b (mem_each (LessCell a) cs ua.0 b k) (mem_each (LessCell b) bs ub.0 a m))

    in_bs : (c : Cell) → Mem c cs → Mem c bs
    in_bs c m = go (there c (inr m))
      where
        go : (c ≡ b) ⊎ Mem c bs → Mem c bs
        go (inl e) = absurd (not_less a (subst (LessCell a) (e ∙ sym head) (mem_each (LessCell a) cs ua.0 c m)))
        go (inr k) = k

    in_cs : (c : Cell) → Mem c bs → Mem c cs
    in_cs c m = go (back c (inr m))
      where
        go : (c ≡ a) ⊎ Mem c cs → Mem c cs
        go (inl e) = absurd (not_less b (subst (LessCell b) (e ∙ head) (mem_each (LessCell b) bs ub.0 c m)))
        go (inr k) = k

-- an access has one list of cells
pub same_cells : (access : Access) (one other : List Cell) → AreCellsOf access one → AreCellsOf access other → one ≡ other
same_cells access one other first second = same_up one other (all_up one first.ascending) (all_up other second.ascending)
    (λ a m. contains_mem other a ((second.each a).1 ((first.each a).0 (mem_contains one a m))))
    (λ a m. contains_mem one a ((first.each a).1 ((second.each a).0 (mem_contains other a m))))

-- ---- tables

touch_from : (os : List NumberedOp) (env : Values) (more : List NumberedOp) (e : Touch) → Mem e (touches_of os env more) → (o : NumberedOp) × Mem o more × (op_cell o.1 env ≡ Some (named_cell e))
touch_from os env [] e m = absurd m
touch_from os env (o ∷ more) e m = go (may_pass os env o.1.conds) (op_cell o.1 env) refl m (touch_from os env more e)
  where
    go : (b : Bool) (c : Option Cell) → op_cell o.1 env ≡ c → Mem e (cond b (touch c (modifies o.1.kind) (touches_of os env more)) (touches_of os env more))
        → (Mem e (touches_of os env more) → (d : NumberedOp) × Mem d more × (op_cell d.1 env ≡ Some (named_cell e))) → (d : NumberedOp) × Mem d (o ∷ more) × (op_cell d.1 env ≡ Some (named_cell e))
    go true None at m rest = let r = rest m in (r.0, inr r.1, r.2)
    go true (Some a) at (inl same) rest = (o, inl refl, at ∙ ap (λ (x : Touch). Some (named_cell x)) (sym same))
    go true (Some a) at (inr m) rest = let r = rest m in (r.0, inr r.1, r.2)
    go false c at m rest = let r = rest m in (r.0, inr r.1, r.2)

cell_table : (op : FlatOp) (env : Values) (a : Cell) → op_cell op env ≡ Some a → accessed_table op.kind ≡ Some a.0
cell_table op env a e = accessed-named op.kind ∙ named-table _ env a (sym (ap cell_in (touched-named op.kind env)) ∙ e)

-- a cell that the access of operations covers, where that is of keys, is of a table that they access
pub covered_there : (There : ℕ → Type 0) (os : List NumberedOp) (env : Values) → HaveTables There os → (access_of os env ≡ Whole → ⊥) → (a : Cell) → covers (access_of os env) a ≡ true → There a.0
covered_there There os env tables keys a c = go (list_any (is_loose os env) os) refl c
  where
    go : (b : Bool) → list_any (is_loose os env) os ≡ b → covers (cond b Whole (Keys (touches_of os env os))) a ≡ true → There a.0
    go true e c = absurd (keys (ap (λ b. cond b Whole (Keys (touches_of os env os))) e))
    go false e c =
        let t = any_gives (λ (t : Touch). eq_by_cmp cell_cmp (named_cell t) a) (touches_of os env os) c in
        let o = touch_from os env os t.0 t.1 in
        mem_each (λ (o : NumberedOp). HasTable There o.1.kind) os tables o.0 o.1 a.0 (cell_table o.0.1 env a (o.2 ∙ ap (λ (c : Cell). Some c) (tied_same (named_cell t.0) a t.2)))
