-- Inside one transaction the pieces in the order of blocks give what the transaction means.
use Rattle.std.proofs.Common.{◌≡◌, ℕ, zero, suc, List, ◌+◌, ◌-◌, ◌<◌, ◌≤◌, nat_lt, Bool, true, false, cond, refl, sym, ap, ◌∙◌, subst, length, Some, None, inl, inr, arith}
use Rattle.std.specs.Prelude.{slice_get}
use Rattle.std.specs.List.{range_with_len}
use Rattle.std.specs.FinMap.{empty}
use Rattle.std.proofs.lemmas.Bool.Decides.{nat_tests}
use Rattle.std.proofs.lemmas.Option.{slice_get_within}
use Rattle.pac_ops.specs.declared.transaction.Txn.{Txn}
use Rattle.pac_ops.specs.Notes.{first_note, least}
use Rattle.pac_ops.specs.Operations.{State, with_values}
use Rattle.pac_ops.specs.Transactions.{txn_state, txn_notes}
use Rattle.pac_base.specs.Members.{Mem}
use Rattle.pac_ops.specs.Effects.{numbered_meaning, numbered_notes}
use Rattle.pac_plan.specs.Pieces.{of_txn, run_ops, blocks_of, partial, every}
use Rattle.pac_plan.specs.Worlds.{txn_code, txn_vars, txn_args, txn_at, batch_of, blocks_in}
use Rattle.pac_commute.specs.PlanLaws.{OfPlan, BlocksInOrder, BlocksGiveTxn, IsTxnEnd, planned, txns_of}
use Rattle.pac_plan.proofs.WorldLemmas.{fits_blocks, rises-range}
use Rattle.pac_base.proofs.TestLemmas.{eq_self}
use Rattle.pac_commute.proofs.Laws.{written_env}
use Rattle.pac_commute.proofs.Law.{other_stays}
use Rattle.pac_commute.proofs.Order.{one_txn}
use Rattle.pac_commute.proofs.PlanFacts.{well_formed_plan}
use Rattle.pac_commute.proofs.Replays.{one_state, one_notes}

pub blocks_in_order : OfPlan BlocksInOrder
blocks_in_order parts is first batches run_on fits t m s =
    one_txn (planned parts first batches) (well_formed_plan parts is first batches) t (blocks_in parts) s
    (rises-range 0 parts.blocks) (fits_blocks parts is first (batch_of batches) (txns_of batches) fits t m)

mem-range : (n k i : ℕ) → i < k → Mem (n + i) (range_with_len n k)
mem-range n zero i lt = absurd (omega (arith, lt))
mem-range n (suc k) zero lt = inl (omega arith)
mem-range n (suc k) (suc i) lt = let moved : n + 1 + i ≡ n + suc i = omega arith in inr (subst (λ x. Mem x (range_with_len (n + 1) k)) moved (mem-range (n + 1) k i (omega (arith, lt))))

-- a number with a transaction is one of the numbers
number_there : (first : ℕ) (txns : List Txn) (t : ℕ) (txn : Txn) → txn_at first txns t ≡ Some txn → Mem t (range_with_len first (length txns))
number_there first txns t txn e = go (nat_lt t first) refl e
  where
    go : (b : Bool) → nat_lt t first ≡ b → cond b None (slice_get txns (t - first)) ≡ Some txn → Mem t (range_with_len first (length txns))
    go true lt h = absurd cc
    go false lt h =
        let le : first ≤ t = grind (arith, nat_tests) in
        let same : first + (t - first) ≡ t = omega (arith, le) in
        subst (λ x. Mem x (range_with_len first (length txns))) same (mem-range first (length txns) (t - first) (slice_get_within txns (t - first) txn h))

pub blocks_give_txn : BlocksGiveTxn
blocks_give_txn parts is first batches run_on fits t txn at before args = subst (IsTxnEnd parts t txn before) (sym in_order) (record {
  tables = ap (λ (z : State). z.tables) state;
  own = written_env t t (numbered_meaning ((planned parts first batches).vars t) ((planned parts first batches).code t) (of_txn t before)).env before.envs (eq_self t) ∙ ap (λ (z : State). z.env) state;
  others = λ u differ. other_stays t ((planned parts first batches).vars t) ((planned parts first batches).code t) before u differ;
  note = ap (λ ns. least before.note (first_note ns)) notes;
})
  where
    in_order : partial (planned parts first batches) every (blocks_of (planned parts first batches) t (blocks_in parts)) before ≡ run_ops t ((planned parts first batches).vars t) ((planned parts first batches).code t) before
    in_order = blocks_in_order parts is first batches run_on fits t (number_there first (txns_of batches) t txn at) before

    env : before.envs t ≡ with_values 0 (txn_args (Some txn)) empty
    env = args ∙ ap (λ o. with_values 0 (txn_args o) empty) at

    state : numbered_meaning ((planned parts first batches).vars t) ((planned parts first batches).code t) (of_txn t before) ≡ txn_state parts.programs txn before.tables
    state = (λ i. numbered_meaning (txn_vars parts (at i)) (txn_code parts (at i)) (record { env = env i; tables = before.tables })) ∙ one_state parts txn before.tables

    notes : numbered_notes ((planned parts first batches).vars t) t ((planned parts first batches).code t) (of_txn t before) ≡ txn_notes parts.programs t txn before.tables
    notes = (λ i. numbered_notes (txn_vars parts (at i)) t (txn_code parts (at i)) (record { env = env i; tables = before.tables })) ∙ one_notes parts t txn before.tables
