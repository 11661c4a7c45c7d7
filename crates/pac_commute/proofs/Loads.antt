-- What loading more transactions changes.
use Rattle.std.proofs.Common.{◌≡◌, ℕ, zero, suc, ◌+◌, ◌-◌, ◌<◌, ◌≤◌, ◌==◌, nat_lt, ◌&&◌, ◌||◌, Bool, true, false, cond, List, [], ◌∷◌, ◌++◌, length, refl, sym, ap, ◌∙◌, subst, Option, None, inl, inr, ⊎_elim, ◌⊎◌, arith}
use Rattle.std.specs.Prelude.{slice_get, nat_le}
use Rattle.std.specs.List.{range_with_len}
use Rattle.std.specs.FinMap.{empty}
use Rattle.std.proofs.lemmas.Bool.Decides.{nat_tests, Decides-eqb, Decides-ltb}
use Rattle.std.proofs.lemmas.List.{length-append}
use Rattle.pac_value.specs.declared.values.Ty.{Ty}
use Rattle.pac_value.specs.Expressions.{Values}
use Rattle.pac_value.specs.State.{Tables}
use Rattle.pac_ops.specs.declared.batch.Batch.{Batch}
use Rattle.pac_ops.specs.declared.piece.PieceId.{PieceId}
use Rattle.pac_ops.specs.declared.transaction.Txn.{Txn}
use Rattle.pac_ops.specs.Operations.{with_values}
use Rattle.pac_plan.specs.declared.parts.PlanParts.{PlanParts}
use Rattle.pac_base.specs.Members.{Mem}
use Rattle.pac_ops.specs.Effects.{NumberedOp, numbered_meaning, numbered_notes}
use Rattle.pac_plan.specs.declared.access.Access.{Access}
use Rattle.pac_plan.specs.Pieces.{Present, of_txn, with_env, left_by, run_ops, part, World, ops, apply, access, access_of, conflicts, precedes, has_ops, blocks_of, pieces, partial, replayed_in}
use Rattle.pac_commute.specs.Exchange.{env_after}
use Rattle.pac_plan.specs.Worlds.{has_edge, batch_of, txn_code, txn_vars, txn_block, txn_args, txn_at, world, initial, numbers, blocks_in}
use Rattle.pac_commute.specs.PlanLaws.{txns_of, NumbersRunOn}
use Rattle.pac_commute.specs.Loads.{Job, pieces_of, world_of, end_values, next_in_job, loaded, and_batch, LoadsKeep}
use Rattle.pac_base.proofs.TestLemmas.{same_number, and_left, and_right, or_cases, unlike}
use Rattle.pac_plan.proofs.WorldLemmas.{batches_rise}
use Rattle.pac_commute.proofs.BatchLemmas.{txns-more, batch-more, get-first}
use Rattle.pac_commute.proofs.Theorem.{partial-append}
use Rattle.pac_commute.proofs.Replays.{later_stays}

below_true : (t n : ℕ) → t < n → nat_lt t n ≡ true
below_true t n lt = grind (arith, nat_tests)

-- ---- one transaction, with others after it

module _ (n : ℕ) (envs : ℕ → Values) where
  sees_same : (t : ℕ) (s : Present) → t < n → of_txn t (loaded n envs s) ≡ of_txn t s
  sees_same t s lt = λ i. record { env = cond (below_true t n lt i) (s.envs t) (envs t); tables = s.tables }

  env_on : (t : ℕ) (env : Values) (old : ℕ → Values) → t < n → ◌≡◌ {A = ℕ → Values} (with_env t env (λ u. cond (nat_lt u n) (old u) (envs u))) (λ u. cond (nat_lt u n) (with_env t env old u) (envs u))
  env_on t env old lt = λ i u. go u (u == t) refl i
    where
      go : (u : ℕ) (b : Bool) → (u == t) ≡ b → cond b env (cond (nat_lt u n) (old u) (envs u)) ≡ cond (nat_lt u n) (cond b env (old u)) (envs u)
      go u true e = let same : u ≡ t = same_number u t e in ap (λ c. cond c env (envs u)) (sym (below_true u n (omega (arith, lt, same))))
      go u false e = refl

  run_on : (t : ℕ) (vars : List Ty) (os : List NumberedOp) (s : Present) → t < n → run_ops t vars os (loaded n envs s) ≡ loaded n envs (run_ops t vars os s)
  run_on t vars os s lt =
      (λ i. left_by t (numbered_meaning vars os (sees_same t s lt i)) (numbered_notes vars t os (sees_same t s lt i)) (loaded n envs s))
      ∙ (λ i. record { tables = (run_ops t vars os s).tables; envs = env_on t (numbered_meaning vars os (of_txn t s)).env s.envs lt i; note = (run_ops t vars os s).note })

  partial_on : (w : World) (F : PieceId → Bool) (ps : List PieceId) (s : Present) → ((p : PieceId) → Mem p ps → p.txn < n) → partial w F ps (loaded n envs s) ≡ loaded n envs (partial w F ps s)
  unfolding partial apply
  partial_on w F [] s lower = refl
  partial_on w F (p ∷ ps) s lower = ap (λ z. partial w F ps z) (go (F p)) ∙ partial_on w F ps (cond (F p) (apply w p s) s) (λ q m. lower q (inr m))
    where
      go : (b : Bool) → cond b (apply w p (loaded n envs s)) (loaded n envs s) ≡ loaded n envs (cond b (apply w p s) s)
      go true = run_on p.txn (w.vars p.txn) (ops w p) s (lower p (inl refl))
      go false = refl

  replayed_on : (w : World) (m k : ℕ) (s : Present) → m + k ≤ n → replayed_in w (range_with_len m k) (loaded n envs s) ≡ loaded n envs (replayed_in w (range_with_len m k) s)
  unfolding replayed_in
  replayed_on w m zero s le = refl
  replayed_on w m (suc k) s le =
      ap (λ z. replayed_in w (range_with_len (m + 1) k) z) (run_on m (w.vars m) (w.code m) s (omega (arith, le)))
      ∙ replayed_on w (m + 1) k (run_ops m (w.vars m) (w.code m) s) (omega (arith, le))

-- ---- lists

range-append : (m j k : ℕ) → range_with_len m (j + k) ≡ range_with_len m j ++ range_with_len (m + j) k
range-append m zero k = let a : 0 + k ≡ k = omega arith in let b : m ≡ m + 0 = omega arith in ap (range_with_len m) a ∙ ap (λ x. range_with_len x k) b
range-append m (suc j) k =
    let a : suc j + k ≡ suc (j + k) = omega arith in let b : m + 1 + j ≡ m + suc j = omega arith in
    ap (range_with_len m) a ∙ ap (λ xs. m ∷ xs) (range-append (m + 1) j k) ∙ ap (λ x. m ∷ (range_with_len (m + 1) j ++ range_with_len x k)) b

numbers-append : (first : ℕ) (txns more : List Txn) → numbers first (txns ++ more) ≡ numbers first txns ++ range_with_len (first + length txns) (length more)
numbers-append first txns more = ap (range_with_len first) (length-append txns more) ∙ range-append first (length txns) (length more)

assoc : (xs ys zs : List PieceId) → (xs ++ ys) ++ zs ≡ xs ++ (ys ++ zs)
assoc [] ys zs = refl
assoc (x ∷ xs) ys zs = ap (λ l. x ∷ l) (assoc xs ys zs)

pieces-append : (w : World) (ts more bs : List ℕ) → pieces w (ts ++ more) bs ≡ pieces w ts bs ++ pieces w more bs
pieces-append w [] more bs = refl
pieces-append w (t ∷ ts) more bs = ap (λ ps. blocks_of w t bs ++ ps) (pieces-append w ts more bs) ∙ sym (assoc (blocks_of w t bs) (pieces w ts bs) (pieces w more bs))

replayed-append : (w : World) (ts more : List ℕ) (s : Present) → replayed_in w (ts ++ more) s ≡ replayed_in w more (replayed_in w ts s)
unfolding replayed_in
replayed-append w [] more s = refl
replayed-append w (t ∷ ts) more s = replayed-append w ts more (run_ops t (w.vars t) (w.code t) s)

none_picked : (w : World) (F : PieceId → Bool) (ps : List PieceId) (s : Present) → ((p : PieceId) → Mem p ps → F p ≡ false) → partial w F ps s ≡ s
unfolding partial
none_picked w F [] s out = refl
none_picked w F (p ∷ ps) s out = ap (λ b. partial w F ps (cond b (apply w p s) s)) (out p (inl refl)) ∙ none_picked w F ps s (λ q m. out q (inr m))

mem-append : {A : Type 0} (x : A) (xs ys : List A) → Mem x (xs ++ ys) → Mem x xs ⊎ Mem x ys
mem-append x [] ys m = inr m
mem-append x (y ∷ xs) ys (inl e) = inl (inl e)
mem-append x (y ∷ xs) ys (inr m) = ⊎_elim (λ k. inl (inr k)) (λ k. inr k) (mem-append x xs ys m)

mem-left : {A : Type 0} (x : A) (xs ys : List A) → Mem x xs → Mem x (xs ++ ys)
mem-left x [] ys m = absurd m
mem-left x (y ∷ xs) ys (inl e) = inl e
mem-left x (y ∷ xs) ys (inr m) = inr (mem-left x xs ys m)

pub txn_of_block : (w : World) (p : PieceId) (t : ℕ) (bs : List ℕ) → Mem p (blocks_of w t bs) → p.txn ≡ t
txn_of_block w p t [] m = absurd m
txn_of_block w p t (b ∷ bs) m = go (has_ops (ops w (record { txn = t; block = b }))) m (txn_of_block w p t bs)
  where
    go : (c : Bool) → Mem p (cond c (record { txn = t; block = b } ∷ blocks_of w t bs) (blocks_of w t bs)) → (Mem p (blocks_of w t bs) → p.txn ≡ t) → p.txn ≡ t
    go true (inl e) rest = ap (λ (x : PieceId). x.txn) e
    go true (inr m) rest = rest m
    go false m rest = rest m

pub txn_of : (w : World) (p : PieceId) (ts bs : List ℕ) → Mem p (pieces w ts bs) → Mem p.txn ts
txn_of w p [] bs m = absurd m
txn_of w p (t ∷ ts) bs m = ⊎_elim (λ k. inl (txn_of_block w p t bs k)) (λ k. inr (txn_of w p ts bs k)) (mem-append p (blocks_of w t bs) (pieces w ts bs) m)

pub in-range : (n k t : ℕ) → Mem t (range_with_len n k) → (n ≤ t) × (t < n + k)
in-range n zero t m = absurd m
in-range n (suc k) t (inl e) = (omega (arith, e), omega (arith, e))
in-range n (suc k) t (inr m) = let r = in-range (n + 1) k t m in ((let a : n + 1 ≤ t = r.0 in omega (arith, a)), (let b : t < n + 1 + k = r.1 in omega (arith, b)))

-- ---- two worlds that agree

module _ (w w' : World) where
  Agree : ℕ → Type 0
  Agree t = (w.code t ≡ w'.code t) × (w.vars t ≡ w'.vars t) × ((o : NumberedOp) → w.block t o ≡ w'.block t o)

  ops_agree : (p : PieceId) → Agree p.txn → ops w p ≡ ops w' p
  unfolding Agree
  ops_agree p same = λ i. part (λ o. same.2 o i) p.block (same.0 i)

  run_agrees : (p : PieceId) (s : Present) → Agree p.txn → apply w p s ≡ apply w' p s
  unfolding apply Agree
  run_agrees p s same = λ i. run_ops p.txn (same.1 i) (part (λ o. same.2 o i) p.block (same.0 i)) s

  partial_agrees : (F : PieceId → Bool) (ps : List PieceId) (s : Present) → ((p : PieceId) → Mem p ps → Agree p.txn) → partial w F ps s ≡ partial w' F ps s
  unfolding partial
  partial_agrees F [] s same = refl
  partial_agrees F (p ∷ ps) s same = partial_agrees F ps (cond (F p) (apply w p s) s) (λ q m. same q (inr m)) ∙ ap (λ z. partial w' F ps (cond (F p) z s)) (run_agrees p s (same p (inl refl)))

  blocks_agree : (t : ℕ) (bs : List ℕ) → Agree t → blocks_of w t bs ≡ blocks_of w' t bs
  unfolding Agree
  blocks_agree t [] same = refl
  blocks_agree t (b ∷ bs) same = λ i. cond (has_ops (part (λ o. same.2 o i) b (same.0 i))) (record { txn = t; block = b } ∷ blocks_agree t bs same i) (blocks_agree t bs same i)

  pieces_agree : (ts bs : List ℕ) → ((t : ℕ) → Mem t ts → Agree t) → pieces w ts bs ≡ pieces w' ts bs
  pieces_agree [] bs same = refl
  pieces_agree (t ∷ ts) bs same = λ i. blocks_agree t bs (same t (inl refl)) i ++ pieces_agree ts bs (λ u m. same u (inr m)) i

  replayed_agrees : (ts : List ℕ) (s : Present) → ((t : ℕ) → Mem t ts → Agree t) → replayed_in w ts s ≡ replayed_in w' ts s
  unfolding replayed_in Agree
  replayed_agrees [] s same = refl
  replayed_agrees (t ∷ ts) s same =
      replayed_agrees ts (run_ops t (w.vars t) (w.code t) s) (λ u m. same u (inr m))
      ∙ (λ i. replayed_in w' ts (run_ops t ((same t (inl refl)).1 i) ((same t (inl refl)).0 i) s))

-- ---- loading

old_txn : (first : ℕ) (txns more : List Txn) (t : ℕ) → t < first + length txns → txn_at first txns t ≡ txn_at first (txns ++ more) t
old_txn first txns more t lt = go (nat_lt t first) refl
  where
    go : (b : Bool) → nat_lt t first ≡ b → ◌≡◌ {A = Option Txn} (cond b None (slice_get txns (t - first))) (cond b None (slice_get (txns ++ more) (t - first)))
    go true e = refl
    go false e = let le : first ≤ t = grind (arith, nat_tests) in sym (get-first txns more (t - first) (omega (arith, le, lt)))

module _ (parts : PlanParts) (first : ℕ) (batch batch' : ℕ → ℕ) (txns more : List Txn) (tables : Tables) where
  abbrev w : World
  w = world parts first batch txns

  abbrev w' : World
  w' = world parts first batch' (txns ++ more)

  abbrev n : ℕ
  n = first + length txns

  abbrev later : ℕ → Values
  later = (initial first (txns ++ more) tables).envs

  agree : (t : ℕ) → t < n → Agree w w' t
  unfolding Agree
  agree t lt = (ap (txn_code parts) (old_txn first txns more t lt), ap (txn_vars parts) (old_txn first txns more t lt), λ o. ap (λ x. txn_block parts x o) (old_txn first txns more t lt))

  starts : initial first (txns ++ more) tables ≡ loaded n later (initial first txns tables)
  starts = λ i. record { tables = tables; envs = λ t. go t (nat_lt t n) refl i; note = None }
    where
      go : (t : ℕ) (b : Bool) → nat_lt t n ≡ b → with_values 0 (txn_args (txn_at first (txns ++ more) t)) empty ≡ cond b (with_values 0 (txn_args (txn_at first txns t)) empty) (later t)
      go t true e = ap (λ x. with_values 0 (txn_args x) empty) (sym (old_txn first txns more t (grind (arith, nat_tests))))
      go t false e = refl

  in_old : (t : ℕ) → Mem t (numbers first txns) → t < n
  in_old t m = (in-range first (length txns) t m).1

  state : (F : PieceId → Bool) → ((p : PieceId) → n ≤ p.txn → F p ≡ false)
      → partial w' F (pieces w' (numbers first (txns ++ more)) (blocks_in parts)) (initial first (txns ++ more) tables) ≡ loaded n later (partial w F (pieces w (numbers first txns) (blocks_in parts)) (initial first txns tables))
  state F out =
      ap (λ ts. partial w' F (pieces w' ts (blocks_in parts)) (initial first (txns ++ more) tables)) (numbers-append first txns more)
      ∙ ap (λ ps. partial w' F ps (initial first (txns ++ more) tables)) (pieces-append w' (numbers first txns) (range_with_len n (length more)) (blocks_in parts))
      ∙ partial-append w' F (pieces w' (numbers first txns) (blocks_in parts)) (pieces w' (range_with_len n (length more)) (blocks_in parts)) (initial first (txns ++ more) tables)
      ∙ none_picked w' F (pieces w' (range_with_len n (length more)) (blocks_in parts)) _ (λ p m. out p (in-range n (length more) p.txn (txn_of w' p (range_with_len n (length more)) (blocks_in parts) m)).0)
      ∙ ap (λ ps. partial w' F ps (initial first (txns ++ more) tables)) (sym (pieces_agree w w' (numbers first txns) (blocks_in parts) (λ t m. agree t (in_old t m))))
      ∙ sym (partial_agrees w w' F (pieces w (numbers first txns) (blocks_in parts)) (initial first (txns ++ more) tables) (λ p m. agree p.txn (in_old p.txn (txn_of w p (numbers first txns) (blocks_in parts) m))))
      ∙ ap (λ z. partial w F (pieces w (numbers first txns) (blocks_in parts)) z) starts
      ∙ partial_on n later w F (pieces w (numbers first txns) (blocks_in parts)) (initial first txns tables) (λ p m. in_old p.txn (txn_of w p (numbers first txns) (blocks_in parts) m))

  envs : (t : ℕ) → t < n → env_after w' (numbers first (txns ++ more)) (initial first (txns ++ more) tables) t ≡ env_after w (numbers first txns) (initial first txns tables) t
  envs t lt =
      ap (λ ts. env_after w' ts (initial first (txns ++ more) tables) t) (numbers-append first txns more)
      ∙ ap (λ (z : Present). z.envs t) (replayed-append w' (numbers first txns) (range_with_len n (length more)) (initial first (txns ++ more) tables))
      ∙ later_stays parts w' n (length more) (replayed_in w' (numbers first txns) (initial first (txns ++ more) tables)) t lt
      ∙ ap (λ (z : Present). z.envs t) (sym (replayed_agrees w w' (numbers first txns) (initial first (txns ++ more) tables) (λ u m. agree u (in_old u m))))
      ∙ ap (λ (z : Present). z.envs t) (ap (λ z. replayed_in w (numbers first txns) z) starts ∙ replayed_on n later w first (length txns) (initial first txns tables) (omega arith))
      ∙ ap (λ b. cond b ((replayed_in w (numbers first txns) (initial first txns tables)).envs t) (later t)) (below_true t n lt)

  vars : (t : ℕ) → t < n → w'.vars t ≡ w.vars t
  unfolding Agree
  vars t lt = sym (agree t lt).1

  operations : (p : PieceId) → p.txn < n → ops w' p ≡ ops w p
  operations p lt = sym (ops_agree w w' p (agree p.txn lt))

  accesses : (p : PieceId) → p.txn < n
      → access w' (env_after w' (numbers first (txns ++ more)) (initial first (txns ++ more) tables)) p ≡ access w (env_after w (numbers first txns) (initial first txns tables)) p
  accesses p lt = λ i. access_of (operations p lt i) (envs p.txn lt i)

  -- the pieces of the old transactions are the old pieces
  split : pieces w' (numbers first (txns ++ more)) (blocks_in parts) ≡ pieces w (numbers first txns) (blocks_in parts) ++ pieces w' (range_with_len n (length more)) (blocks_in parts)
  split =
      ap (λ ts. pieces w' ts (blocks_in parts)) (numbers-append first txns more)
      ∙ pieces-append w' (numbers first txns) (range_with_len n (length more)) (blocks_in parts)
      ∙ ap (λ ps. ps ++ pieces w' (range_with_len n (length more)) (blocks_in parts)) (sym (pieces_agree w w' (numbers first txns) (blocks_in parts) (λ t m. agree t (in_old t m))))

  there : (p : PieceId) → Mem p (pieces w (numbers first txns) (blocks_in parts)) → (p.txn < n) × Mem p (pieces w' (numbers first (txns ++ more)) (blocks_in parts))
  there p m = (in_old p.txn (txn_of w p (numbers first txns) (blocks_in parts) m), subst (Mem p) (sym split) (mem-left p _ _ m))

  old : (p : PieceId) → Mem p (pieces w' (numbers first (txns ++ more)) (blocks_in parts)) → p.txn < n → Mem p (pieces w (numbers first txns) (blocks_in parts))
  old p m lt = ⊎_elim (λ k. k) (λ k. absurd (let le : n ≤ p.txn = (in-range n (length more) p.txn (txn_of w' p (range_with_len n (length more)) (blocks_in parts) k)).0 in omega (arith, lt, le)))
      (mem-append p (pieces w (numbers first txns) (blocks_in parts)) _ (subst (Mem p) split m))

-- what is as it was for a longer list of transactions
record Facts (parts : PlanParts) (first : ℕ) (batch batch' : ℕ → ℕ) (txns all : List Txn) (tables : Tables) : Type 0 where
  state : (F : PieceId → Bool) → ((p : PieceId) → first + length txns ≤ p.txn → F p ≡ false)
      → partial (world parts first batch' all) F (pieces (world parts first batch' all) (numbers first all) (blocks_in parts)) (initial first all tables)
      ≡ loaded (first + length txns) (initial first all tables).envs (partial (world parts first batch txns) F (pieces (world parts first batch txns) (numbers first txns) (blocks_in parts)) (initial first txns tables))
  envs : (t : ℕ) → t < first + length txns
      → env_after (world parts first batch' all) (numbers first all) (initial first all tables) t ≡ env_after (world parts first batch txns) (numbers first txns) (initial first txns tables) t
  vars : (t : ℕ) → t < first + length txns → (world parts first batch' all).vars t ≡ (world parts first batch txns).vars t
  operations : (p : PieceId) → p.txn < first + length txns → ops (world parts first batch' all) p ≡ ops (world parts first batch txns) p
  accesses : (p : PieceId) → p.txn < first + length txns
      → access (world parts first batch' all) (env_after (world parts first batch' all) (numbers first all) (initial first all tables)) p
      ≡ access (world parts first batch txns) (env_after (world parts first batch txns) (numbers first txns) (initial first txns tables)) p
  there : (p : PieceId) → Mem p (pieces (world parts first batch txns) (numbers first txns) (blocks_in parts)) → (p.txn < first + length txns) × Mem p (pieces (world parts first batch' all) (numbers first all) (blocks_in parts))
  old : (p : PieceId) → Mem p (pieces (world parts first batch' all) (numbers first all) (blocks_in parts)) → p.txn < first + length txns → Mem p (pieces (world parts first batch txns) (numbers first txns) (blocks_in parts))

facts : (parts : PlanParts) (first : ℕ) (batch batch' : ℕ → ℕ) (txns more : List Txn) (tables : Tables) → Facts parts first batch batch' txns (txns ++ more) tables
facts parts first batch batch' txns more tables = record {
  state = state parts first batch batch' txns more tables;
  envs = envs parts first batch batch' txns more tables;
  vars = vars parts first batch batch' txns more tables;
  operations = operations parts first batch batch' txns more tables;
  accesses = accesses parts first batch batch' txns more tables;
  there = there parts first batch batch' txns more tables;
  old = old parts first batch batch' txns more tables;
}

-- ---- one more batch

module _ (job : Job) (batches : List Batch) (batch : Batch) (run : NumbersRunOn job.first batches) (next : batch.first ≡ next_in_job job batches) where
  all_facts : Facts job.parts job.first (batch_of batches) (batch_of (and_batch batches batch)) (txns_of batches) (txns_of (and_batch batches batch)) job.tables
  all_facts = subst (λ all. Facts job.parts job.first (batch_of batches) (batch_of (and_batch batches batch)) (txns_of batches) all job.tables) (sym (txns-more batches batch))
      (facts job.parts job.first (batch_of batches) (batch_of (and_batch batches batch)) (txns_of batches) batch.txns job.tables)

  -- the batch of an old transaction, and of a new one
  pub old_batch : (t : ℕ) → t < next_in_job job batches → batch_of (and_batch batches batch) t ≡ batch_of batches t
  old_batch t lt =
      batch-more batches batch t ∙ ap (λ b. batch_of batches t + cond b 1 0) (let below : t < batch.first = omega (arith, lt, next) in not_begun batch.first t below) ∙ none (batch_of batches t)
    where
      not_begun : (a t : ℕ) → t < a → nat_le a t ≡ false
      not_begun a t lt = grind (arith, nat_tests)

      none : (k : ℕ) → k + 0 ≡ k
      none k = omega arith

  new_batch : (t : ℕ) → next_in_job job batches ≤ t → batch_of (and_batch batches batch) t ≡ batch_of batches t + 1
  new_batch t le =
      batch-more batches batch t ∙ ap (λ b. batch_of batches t + cond b 1 0) (let from : batch.first ≤ t = omega (arith, le, next) in begun batch.first t from)
    where
      begun : (a t : ℕ) → a ≤ t → nat_le a t ≡ true
      begun a t le = grind (arith, nat_tests)

  precedence : (p q : PieceId) → p.txn < next_in_job job batches → q.txn < next_in_job job batches
      → precedes (world_of job (and_batch batches batch)) (end_values job (and_batch batches batch)) p q ≡ precedes (world_of job batches) (end_values job batches) p q
  precedence p q lp lq = λ i. test (old_batch p.txn lp i) (old_batch q.txn lq i) (all_facts.accesses p lp i) (all_facts.accesses q lq i)
    where
      test : ℕ → ℕ → Access → Access → Bool
      test b c x y =
          (b == c && has_edge job.parts p.block q.block)
          || ((p.block == q.block && nat_lt b c)
          || (p.block == q.block && b == c && nat_lt p.txn q.txn && conflicts x y))

  later_piece : (p q : PieceId) → next_in_job job batches ≤ p.txn → q.txn < next_in_job job batches
      → precedes (world_of job (and_batch batches batch)) (end_values job (and_batch batches batch)) p q ≡ false
  later_piece p q le lt = unlike _ (λ e. ⊎_elim first (λ r. ⊎_elim second third (or_cases b2 b3 r)) (or_cases b1 (b2 || b3) e))
    where
      above : batch_of (and_batch batches batch) q.txn < batch_of (and_batch batches batch) p.txn
      above =
          let new : batch_of (and_batch batches batch) p.txn ≡ batch_of batches p.txn + 1 = new_batch p.txn le in
          let same : batch_of (and_batch batches batch) q.txn ≡ batch_of batches q.txn = old_batch q.txn lt in
          let rise : batch_of batches q.txn ≤ batch_of batches p.txn = batches_rise batches q.txn p.txn (omega (arith, le, lt)) in
          omega (arith, new, same, rise)

      b1 : Bool
      b1 = batch_of (and_batch batches batch) p.txn == batch_of (and_batch batches batch) q.txn && has_edge job.parts p.block q.block

      b2 : Bool
      b2 = p.block == q.block && nat_lt (batch_of (and_batch batches batch) p.txn) (batch_of (and_batch batches batch) q.txn)

      b3 : Bool
      b3 = p.block == q.block && batch_of (and_batch batches batch) p.txn == batch_of (and_batch batches batch) q.txn && nat_lt p.txn q.txn
          && conflicts (access (world_of job (and_batch batches batch)) (end_values job (and_batch batches batch)) p) (access (world_of job (and_batch batches batch)) (end_values job (and_batch batches batch)) q)

      differ : batch_of (and_batch batches batch) p.txn ≡ batch_of (and_batch batches batch) q.txn → ⊥
      differ e = let a : batch_of (and_batch batches batch) q.txn < batch_of (and_batch batches batch) p.txn = above in omega (arith, a, e)

      first : b1 ≡ true → ⊥
      first h = differ ((Decides-eqb _ _).0 (and_left (batch_of (and_batch batches batch) p.txn == batch_of (and_batch batches batch) q.txn) _ h))

      second : b2 ≡ true → ⊥
      second h =
          let a : batch_of (and_batch batches batch) q.txn < batch_of (and_batch batches batch) p.txn = above in
          let l : batch_of (and_batch batches batch) p.txn < batch_of (and_batch batches batch) q.txn = (Decides-ltb _ _).0 (and_right (p.block == q.block) _ h) in
          omega (arith, a, l)

      third : b3 ≡ true → ⊥
      third h =
          let two : (p.block == q.block && batch_of (and_batch batches batch) p.txn == batch_of (and_batch batches batch) q.txn) ≡ true
          = and_left _ (nat_lt p.txn q.txn) (and_left _ (conflicts (access (world_of job (and_batch batches batch)) (end_values job (and_batch batches batch)) p) (access (world_of job (and_batch batches batch)) (end_values job (and_batch batches batch)) q)) h) in
          differ ((Decides-eqb _ _).0 (and_right (p.block == q.block) _ two))

-- the pieces of more batches are the old ones and those of the new transactions
pub pieces_more : (job : Job) (batches : List Batch) (batch : Batch)
    → pieces_of job (and_batch batches batch) ≡ pieces_of job batches ++ pieces (world_of job (and_batch batches batch)) (range_with_len (next_in_job job batches) (length batch.txns)) (blocks_in job.parts)
pieces_more job batches batch = subst
    (λ all. pieces (world job.parts job.first (batch_of (and_batch batches batch)) all) (numbers job.first all) (blocks_in job.parts)
    ≡ pieces_of job batches ++ pieces (world job.parts job.first (batch_of (and_batch batches batch)) all) (range_with_len (next_in_job job batches) (length batch.txns)) (blocks_in job.parts))
    (sym (txns-more batches batch))
    (split job.parts job.first (batch_of batches) (batch_of (and_batch batches batch)) (txns_of batches) batch.txns job.tables)

pub loads_keep : LoadsKeep
loads_keep job batches batch run next = let all = all_facts job batches batch run next in record {
  state = all.state;
  envs = all.envs;
  vars = all.vars;
  operations = all.operations;
  accesses = all.accesses;
  precedence = precedence job batches batch run next;
  later = later_piece job batches batch run next;
  there = all.there;
  old = all.old;
}
