-- The world of a plan is well-formed.
use Rattle.std.proofs.Common.{◌≡◌, ℕ, zero, suc, ◌+◌, ◌-◌, ◌<◌, ◌≤◌, Bool, true, false, cond, ◌&&◌, ◌||◌, ◌==◌, List, [], ◌∷◌, map, length, refl, sym, ap, ◌∙◌, subst, true≢false, Option, Some, None, ◌⊎◌, inl, inr, ⊎_elim, arith, nat_lt}
use Rattle.std.specs.Prelude.{slice_get, slice_index_or, nat_le}
use Rattle.std.specs.List.{range_with_len}
use Rattle.std.proofs.lemmas.Option.{slice_get_within}
use Rattle.std.proofs.lemmas.Bool.Decides.{nat_tests}
use Rattle.pac_value.specs.declared.values.Value.{Value}
use Rattle.pac_value.specs.declared.expr.Expr.{Lit}
use Rattle.pac_value.specs.Values.{key_value}
use Rattle.pac_value.proofs.ByForms.{fold-Lit}
use Rattle.pac_ops.specs.declared.batch.Batch.{Batch}
use Rattle.pac_ops.specs.declared.program.FlatOp.{FlatOp}
use Rattle.pac_ops.specs.declared.program.Program.{Program}
use Rattle.pac_ops.specs.declared.shapes.TableTypes.{TableTypes}
use Rattle.pac_ops.specs.declared.transaction.Change.{Change}
use Rattle.pac_ops.specs.declared.transaction.Change.TheVariants.{Put as PutRow, Delete as DeleteRow}
use Rattle.pac_ops.specs.declared.transaction.Txn.{Txn}
use Rattle.pac_ops.specs.declared.transaction.Txn.TheVariants.{Call as ACall, AdHoc}
use Rattle.pac_ops.specs.Shapes.{KeyFits, ColumnsFit, ChangeFits, RecordsFit}
use Rattle.pac_ops.specs.Uses.{use_step, exprs_use, op_uses, defined_variable, accessed_table, Defines}
use Rattle.pac_ops.specs.Dependencies.{Uses}
use Rattle.pac_base.proofs.ItemLemmas.{there, item}
use Rattle.pac_plan.specs.declared.parts.PlanParts.{PlanParts}
use Rattle.pac_plan.specs.Nodes.{Operation, VirtualWrite}
use Rattle.pac_plan.specs.Analysis.{IsPlan, block_in, HasBlockEdge}
use Rattle.pac_plan.specs.WellFormed.{KeepsOrder}
use Rattle.pac_plan.proofs.OrderLemmas.{order_kept}
use Rattle.pac_base.specs.Members.{Each, Mem, Rises}
use Rattle.pac_ops.specs.Effects.{NumberedOp, numbered_from, record_op, is_var, defined_in, used_in}
use Rattle.pac_plan.specs.Pieces.{part}
use Rattle.pac_plan.specs.WorldOrder.{WellFormed, Ordered, FitsBlocks}
use Rattle.pac_plan.specs.Worlds.{has_edge, home_in, ops_of, txn_code, home_or, txn_block, txn_at, world, numbers, blocks_in, RecordsInTables, batch_of}
use Rattle.pac_base.proofs.TestLemmas.{eq_self, same_number, equal_number, and_left, and_right, and_both, unlike, not_false, any_mem, any_gives, each_mem, mem_each}
use Rattle.pac_plan.proofs.PartLemmas.{part-mem}
use Rattle.pac_ops.proofs.RecordLemmas.{number_at}
use Rattle.pac_ops.proofs.DefinedLemmas.{var-named}

-- ---- lists

mem-index : {A : Type 0} (xs : List A) (x : A) → Mem x xs → (k : ℕ) × (k < length xs) × ((d : A) → slice_index_or xs k d ≡ x)
mem-index [] x m = absurd m
mem-index (y ∷ ys) x (inl e) = (0, omega arith, λ d. sym e)
mem-index (y ∷ ys) x (inr m) = let r = mem-index ys x m in (suc r.0, (let lt : r.0 < length ys = r.1 in omega (arith, lt)), r.2)

index-mem : {A : Type 0} (xs : List A) (k : ℕ) (d : A) → k < length xs → Mem (slice_index_or xs k d) xs
index-mem [] k d lt = absurd (omega (arith, lt))
index-mem (x ∷ xs) zero d lt = inl refl
index-mem (x ∷ xs) (suc k) d lt = inr (index-mem xs k d (omega (arith, lt)))

pub edge-has : (parts : PlanParts) (b c : ℕ) → HasBlockEdge parts b c → has_edge parts b c ≡ true
edge-has parts b c (k, lt, is) = any_mem (λ (e : ℕ × ℕ). e.0 == b && e.1 == c) (b, c) parts.edges (subst (λ p. Mem p parts.edges) is (index-mem parts.edges k (b, c) lt)) (and_both (b == b) (c == c) (eq_self b) (eq_self c))

pub has-edge : (parts : PlanParts) (b c : ℕ) → has_edge parts b c ≡ true → HasBlockEdge parts b c
has-edge parts b c e = go (any_gives (λ (e : ℕ × ℕ). e.0 == b && e.1 == c) parts.edges e)
  where
    go : (p : ℕ × ℕ) × Mem p parts.edges × ((p.0 == b && p.1 == c) ≡ true) → HasBlockEdge parts b c
    go (p, m, h) =
        let same : p ≡ (b, c) = λ i. (same_number p.0 b (and_left (p.0 == b) (p.1 == c) h) i, same_number p.1 c (and_right (p.0 == b) (p.1 == c) h) i) in
        let k = mem-index parts.edges (b, c) (subst (λ q. Mem q parts.edges) same m) in
        (k.0, k.1, k.2 (b, c))

-- ---- the code of one transaction

-- what a world's soundness asks of the code of one transaction
record WellFormedCode (parts : PlanParts) (block : NumberedOp → ℕ) (os : List NumberedOp) : Type 0 where
  once : (b b' x : ℕ) → defined_in (part block b os) x ≡ true → defined_in (part block b' os) x ≡ true → b ≡ b'
  flows : (b b' x : ℕ) → defined_in (part block b os) x ≡ true → used_in (part block b' os) x ≡ true → (b ≡ b') ⊎ (has_edge parts b b' ≡ true)
  homes : Each (λ (o : NumberedOp). (a : ℕ) → accessed_table o.1.kind ≡ Some a → home_in parts a ≡ block o) os
  ordered : Ordered os

pub definer : (block : NumberedOp → ℕ) (os : List NumberedOp) (b x : ℕ) → defined_in (part block b os) x ≡ true → (o : NumberedOp) × Mem o os × (block o ≡ b) × (defined_variable o.1.kind ≡ Some x)
definer block os b x e =
    let r = any_gives (λ (o : NumberedOp). is_var x (defined_variable o.1.kind)) (part block b os) e in
    let k = part-mem block b os r.0 r.1 in (r.0, k.0, k.1, var-named x (defined_variable r.0.1.kind) r.2)

user : (block : NumberedOp → ℕ) (os : List NumberedOp) (b x : ℕ) → used_in (part block b os) x ≡ true → (o : NumberedOp) × Mem o os × (block o ≡ b) × (op_uses x o.1 ≡ true)
user block os b x e =
    let r = any_gives (λ (o : NumberedOp). op_uses x o.1) (part block b os) e in
    let k = part-mem block b os r.0 r.1 in (r.0, k.0, k.1, r.2)

-- operations in the order of their numbers
ordered_from : (n : ℕ) (ops : List FlatOp) → ((o d : NumberedOp) → Mem o (numbered_from n ops) → Mem d (numbered_from n ops) → (x : ℕ) → defined_variable d.1.kind ≡ Some x → op_uses x o.1 ≡ true → d.0 < o.0) → Ordered (numbered_from n ops)
unfolding numbered_from
ordered_from n [] before = tt
ordered_from n (op ∷ ops) before = (
  each_mem _ (numbered_from (n + 1) ops) (λ d m x e. unlike (op_uses x op) (λ u.
      let back : d.0 < n = before (n, op) d (inl refl) (inr m) x (var-named x (defined_variable d.1.kind) e) u in
      let at = number_at (n + 1) ops d m in
      let same : d.0 ≡ n + 1 + at.0 = at.1 in
      omega arith)),
  ordered_from (n + 1) ops (λ o d mo md. before o d (inr mo) (inr md)),
)

module _ (parts : PlanParts) (keeps : KeepsOrder parts) where
  module _ (p : ℕ) (program : _) (at : slice_get parts.programs p ≡ Some program) where
    pub stands : (o : NumberedOp) → Mem o (numbered_from 0 program.ops) → slice_get program.ops o.0 ≡ Some o.1
    stands o m = let r = number_at 0 program.ops o m in ap (slice_get program.ops) (let same : o.0 ≡ 0 + r.0 = r.1 in let e : o.0 ≡ r.0 = omega (arith, same) in e) ∙ r.2

    defines : (o : NumberedOp) (x : ℕ) → Mem o (numbered_from 0 program.ops) → defined_variable o.1.kind ≡ Some x → Defines program.ops o.0 x
    defines o x m e = there program.ops o.0 o.1 (λ (op : FlatOp). defined_variable op.kind ≡ Some x) (stands o m) e

    uses : (o : NumberedOp) (x : ℕ) → Mem o (numbered_from 0 program.ops) → op_uses x o.1 ≡ true → Uses program.ops o.0 x
    uses o x m e = there program.ops o.0 o.1 (λ (op : FlatOp). op_uses x op ≡ true) (stands o m) e

    well_formed_call : WellFormedCode parts (λ o. block_in parts (Operation p o.0)) (numbered_from 0 program.ops)
    well_formed_call = record { once = once; flows = flows; homes = homes; ordered = ordered_from 0 program.ops (λ o d mo md x e u. (keeps.flows p d.0 o.0 x program at (defines d x md e) (uses o x mo u)).0) }
      where
        once : (b b' x : ℕ) → defined_in (part (λ o. block_in parts (Operation p o.0)) b (numbered_from 0 program.ops)) x ≡ true → defined_in (part (λ o. block_in parts (Operation p o.0)) b' (numbered_from 0 program.ops)) x ≡ true → b ≡ b'
        once b b' x e f =
            let i = definer (λ o. block_in parts (Operation p o.0)) (numbered_from 0 program.ops) b x e in
            let j = definer (λ o. block_in parts (Operation p o.0)) (numbered_from 0 program.ops) b' x f in
            sym i.2 ∙ ap (λ n. block_in parts (Operation p n)) (keeps.once p i.0.0 j.0.0 x program at (defines i.0 x i.1 i.3) (defines j.0 x j.1 j.3)) ∙ j.2

        flows : (b b' x : ℕ) → defined_in (part (λ o. block_in parts (Operation p o.0)) b (numbered_from 0 program.ops)) x ≡ true → used_in (part (λ o. block_in parts (Operation p o.0)) b' (numbered_from 0 program.ops)) x ≡ true → (b ≡ b') ⊎ (has_edge parts b b' ≡ true)
        flows b b' x e f =
            let i = definer (λ o. block_in parts (Operation p o.0)) (numbered_from 0 program.ops) b x e in
            let j = user (λ o. block_in parts (Operation p o.0)) (numbered_from 0 program.ops) b' x f in
            ⊎_elim (λ s. inl (sym i.2 ∙ s ∙ j.2))
            (λ edge. inr (ap (λ c. has_edge parts c b') (sym i.2) ∙ ap (has_edge parts (block_in parts (Operation p i.0.0))) (sym j.2) ∙ edge-has parts _ _ edge))
            (keeps.flows p i.0.0 j.0.0 x program at (defines i.0 x i.1 i.3) (uses j.0 x j.1 j.3)).1

        homes : Each (λ (o : NumberedOp). (a : ℕ) → accessed_table o.1.kind ≡ Some a → home_in parts a ≡ block_in parts (Operation p o.0)) (numbered_from 0 program.ops)
        homes = each_mem _ (numbered_from 0 program.ops) (λ o m a e. sym (keeps.homes p o.0 a program at (there program.ops o.0 o.1 (λ (op : FlatOp). accessed_table op.kind ≡ Some a) (stands o m) e)))

    call_blocks : Each (λ (o : NumberedOp). block_in parts (Operation p o.0) < parts.blocks) (numbered_from 0 program.ops)
    call_blocks = each_mem _ (numbered_from 0 program.ops) (λ o m. keeps.below p o.0 program at (slice_get_within program.ops o.0 o.1 (stands o m)))

  nothing_well_formed : (block : NumberedOp → ℕ) → WellFormedCode parts block []
  nothing_well_formed block = record { once = λ b b' x e f. absurd (true≢false (sym e)); flows = λ b b' x e f. absurd (true≢false (sym e)); homes = tt; ordered = tt }

  -- ---- records

  none_used : (x : ℕ) (row : List Value) → exprs_use x (map Lit row) ≡ false
  none_used x [] = refl
  none_used x (v ∷ row) = ap (λ b. b || exprs_use x (map Lit row)) (fold-Lit Bool (use_step x) v) ∙ none_used x row

  pub record_uses : (c : Change) (x : ℕ) → op_uses x (record_op c) ≡ false
  record_uses (PutRow table key row) x = ap (λ b. b || exprs_use x (map Lit row)) (fold-Lit Bool (use_step x) (key_value key)) ∙ none_used x row
  record_uses (DeleteRow table key) x = fold-Lit Bool (use_step x) (key_value key)

  record_defines : (c : Change) → defined_variable (record_op c).kind ≡ None
  record_defines (PutRow table key row) = refl
  record_defines (DeleteRow table key) = refl

  undefined : (n : ℕ) (cs : List Change) (o : NumberedOp) → Mem o (numbered_from n (map record_op cs)) → defined_variable o.1.kind ≡ None
  unfolding numbered_from
  undefined n [] o m = absurd m
  undefined n (c ∷ cs) o (inl e) = ap (λ (z : NumberedOp). defined_variable z.1.kind) e ∙ record_defines c
  undefined n (c ∷ cs) o (inr m) = undefined (n + 1) cs o m

  no_definer : {A : Type 0} (block : NumberedOp → ℕ) (cs : List Change) (b x : ℕ) → defined_in (part block b (numbered_from 0 (map record_op cs))) x ≡ true → A
  no_definer block cs b x e =
      let i = definer block (numbered_from 0 (map record_op cs)) b x e in
      let both : None ≡ Some x = sym (undefined 0 cs i.0 i.1) ∙ i.3 in absurd cc

  record_home : (cs : List NumberedOp) → Each (λ (o : NumberedOp). (a : ℕ) → accessed_table o.1.kind ≡ Some a → home_in parts a ≡ home_or parts (accessed_table o.1.kind)) cs
  record_home cs = each_mem _ cs (λ o m a e. ap (home_or parts) (sym e))

  well_formed_records : (cs : List Change) → WellFormedCode parts (λ o. home_or parts (accessed_table o.1.kind)) (numbered_from 0 (map record_op cs))
  well_formed_records cs = record {
    once = λ b b' x e f. no_definer (λ o. home_or parts (accessed_table o.1.kind)) cs b x e;
    flows = λ b b' x e f. no_definer (λ o. home_or parts (accessed_table o.1.kind)) cs b x e;
    homes = record_home (numbered_from 0 (map record_op cs));
    ordered = ordered_from 0 (map record_op cs) (λ o d mo md x e u. let both : None ≡ Some x = sym (undefined 0 cs d md) ∙ e in absurd cc);
  }

  -- ---- the world

  well_formed_code : (txn : Option Txn) → WellFormedCode parts (txn_block parts txn) (txn_code parts txn)
  unfolding numbered_from
  well_formed_code None = nothing_well_formed _
  well_formed_code (Some (ACall call)) = go (slice_get parts.programs call.proc) refl
    where
      go : (o : _) → slice_get parts.programs call.proc ≡ o → WellFormedCode parts (λ o. block_in parts (Operation call.proc o.0)) (numbered_from 0 (ops_of o))
      go None e = nothing_well_formed _
      go (Some program) e = well_formed_call call.proc program e
  well_formed_code (Some (AdHoc records)) = well_formed_records records

  pub well_formed_world : (first : ℕ) (batch : ℕ → ℕ) → ((t u : ℕ) → t < u → batch t ≤ batch u) → (txns : List Txn) → WellFormed (world parts first batch txns)
  well_formed_world first batch rises txns = record {
    once = λ t. (well_formed_code (txn_at first txns t)).once;
    flows = λ t. (well_formed_code (txn_at first txns t)).flows;
    up = λ b c e. keeps.up b c (has-edge parts b c e);
    homes = λ t. (well_formed_code (txn_at first txns t)).homes;
    ordered = λ t. (well_formed_code (txn_at first txns t)).ordered;
    batches = rises;
  }

-- ---- blocks and numbers of transactions

pub rises-range : (n k : ℕ) → Rises (range_with_len n k)
rises-range n zero = tt
rises-range n (suc k) = (above (n + 1) k (omega arith), rises-range (n + 1) k)
  where
    above : (m k : ℕ) → n < m → Each (λ c. n < c) (range_with_len m k)
    above m zero lt = tt
    above m (suc k) lt = (lt, above (m + 1) k (omega (arith, lt)))

mem-range : (n k b : ℕ) → n ≤ b → b < n + k → Mem b (range_with_len n k)
mem-range n zero b le lt = absurd (omega (arith, le, lt))
mem-range n (suc k) b le lt = go (b == n) refl (mem-range (n + 1) k b)
  where
    go : (c : Bool) → (b == n) ≡ c → (n + 1 ≤ b → b < n + 1 + k → Mem b (range_with_len (n + 1) k)) → (b ≡ n) ⊎ Mem b (range_with_len (n + 1) k)
    go true e rest = inl (same_number b n e)
    go false e rest =
        let differ : b ≡ n → ⊥ = λ h. not_false (b == n) e (equal_number b n h) in
        let more : n + 1 ≤ b = grind (arith, le, differ) in
        inr (rest more (omega (arith, lt)))

fits-home : (parts : PlanParts) → IsPlan parts → (t : ℕ) → t < length parts.tables → home_in parts t < parts.blocks
fits-home parts is t lt = is.analysis.groups.below (VirtualWrite t) lt

change_home : (parts : PlanParts) → IsPlan parts → (c : Change) → ChangeFits parts.tables c → home_or parts (accessed_table (record_op c).kind) < parts.blocks
change_home parts is (PutRow table key row) fits = fits-home parts is table (let r = item parts.tables table (λ (types : TableTypes). KeyFits key types × ColumnsFit row types) fits in slice_get_within parts.tables table r.0 r.1)
change_home parts is (DeleteRow table key) fits = fits-home parts is table (let r = item parts.tables table (KeyFits key) fits in slice_get_within parts.tables table r.0 r.1)

records_home : (parts : PlanParts) → IsPlan parts → (n : ℕ) (cs : List Change) → RecordsFit parts.tables cs → Each (λ (o : NumberedOp). Mem (home_or parts (accessed_table o.1.kind)) (blocks_in parts)) (numbered_from n (map record_op cs))
unfolding numbered_from
records_home parts is n [] fits = tt
records_home parts is n (c ∷ cs) fits = (mem-range 0 parts.blocks _ (omega arith) (let lt : home_or parts (accessed_table (record_op c).kind) < parts.blocks = change_home parts is c fits.0 in omega (arith, lt)), records_home parts is (n + 1) cs fits.1)

txn_fits : (parts : PlanParts) → IsPlan parts → (txn : Option Txn) → ((x : Txn) → txn ≡ Some x → RecordsInTables parts x) → Each (λ (o : NumberedOp). Mem (txn_block parts txn o) (blocks_in parts)) (txn_code parts txn)
unfolding numbered_from
txn_fits parts is None fits = tt
txn_fits parts is (Some (ACall call)) fits = go (slice_get parts.programs call.proc) refl
  where
    go : (o : Option Program) → slice_get parts.programs call.proc ≡ o → Each (λ (o : NumberedOp). Mem (block_in parts (Operation call.proc o.0)) (blocks_in parts)) (numbered_from 0 (ops_of o))
    go None e = tt
    go (Some program) e = each_mem _ (numbered_from 0 program.ops) (λ o m. mem-range 0 parts.blocks _ (omega arith)
        (let lt : block_in parts (Operation call.proc o.0) < parts.blocks = mem_each _ (numbered_from 0 program.ops) (call_blocks parts (order_kept parts is) call.proc program e) o m in omega (arith, lt)))
txn_fits parts is (Some (AdHoc records)) fits = records_home parts is 0 records (fits (AdHoc records) refl)

at-some : (first : ℕ) (txns : List Txn) (t : ℕ) (x : Txn) → txn_at first txns t ≡ Some x → (i : ℕ) × (slice_get txns i ≡ Some x)
at-some first txns t x e = go (nat_lt t first) e
  where
    go : (b : Bool) → cond b None (slice_get txns (t - first)) ≡ Some x → (i : ℕ) × (slice_get txns i ≡ Some x)
    go true h = absurd cc
    go false h = (t - first, h)

pub fits_blocks : (parts : PlanParts) → IsPlan parts → (first : ℕ) (batch : ℕ → ℕ) (txns : List Txn)
    → ((i : ℕ) (x : Txn) → slice_get txns i ≡ Some x → RecordsInTables parts x) → FitsBlocks (world parts first batch txns) (numbers first txns) (blocks_in parts)
fits_blocks parts is first batch txns fits t m = txn_fits parts is (txn_at first txns t) (λ x e. let r = at-some first txns t x e in fits r.0 x r.1)

-- batches begin at or before later transactions too
pub batches_rise : (batches : List Batch) (t u : ℕ) → t < u → batch_of batches t ≤ batch_of batches u
batches_rise [] t u lt = omega arith
batches_rise (b ∷ bs) t u lt = sum_le (bit (nat_le b.first t) (nat_le b.first u) (λ e. later e)) (batches_rise bs t u lt)
  where
    bit : (a c : Bool) → (a ≡ true → c ≡ true) → cond a 1 0 ≤ cond c 1 0
    bit true true h = omega arith
    bit true false h = absurd (true≢false (sym (h refl)))
    bit false true h = omega arith
    bit false false h = omega arith

    later : nat_le b.first t ≡ true → nat_le b.first u ≡ true
    later e = grind (arith, nat_tests)

    sum_le : {k l m n : ℕ} → k ≤ l → m ≤ n → k + m ≤ l + n
    sum_le p q = omega (arith, p, q)
