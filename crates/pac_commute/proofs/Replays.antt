-- The whole replay in the world of a plan is the replay of its transactions.
use Rattle.std.proofs.Common.{◌≡◌, ℕ, zero, suc, ◌+◌, ◌-◌, ◌<◌, false, cond, List, [], ◌∷◌, length, refl, sym, ap, ◌∙◌, Option, Some, None, arith, nat_lt}
use Rattle.std.specs.Prelude.{slice_get}
use Rattle.std.specs.List.{range_with_len}
use Rattle.std.proofs.lemmas.Bool.Decides.{nat_tests}
use Rattle.std.proofs.lemmas.Option.{same_Some}
use Rattle.std.specs.FinMap.{empty}
use Rattle.pac_value.specs.Expressions.{Values}
use Rattle.pac_value.specs.State.{Tables}
use Rattle.pac_ops.specs.declared.program.Program.{Program}
use Rattle.pac_ops.specs.declared.transaction.Txn.{Txn}
use Rattle.pac_ops.specs.declared.transaction.Txn.TheVariants.{Call as ACall, AdHoc}
use Rattle.pac_ops.specs.Notes.{first_note, least}
use Rattle.pac_ops.specs.Operations.{State, opening, with_values}
use Rattle.pac_ops.specs.Transactions.{call_state, call_notes, txn_state, txn_notes, replayed}
use Rattle.pac_plan.specs.declared.parts.PlanParts.{PlanParts}
use Rattle.pac_ops.specs.Effects.{numbered_from, numbered_meaning, numbered_notes}
use Rattle.pac_plan.specs.Pieces.{Present, of_txn, run_ops, World, replayed_in}
use Rattle.pac_plan.specs.Worlds.{txn_code, txn_vars, txn_args, txn_at, world, initial, IsWholeReplay, ops_of, types_in}
use Rattle.pac_base.proofs.TestLemmas.{eq_self}
use Rattle.pac_ops.proofs.StateLemmas.{least_none, least-assoc, first-append}
use Rattle.pac_commute.proofs.Laws.{written_env}
use Rattle.pac_commute.proofs.Law.{other_stays}
use Rattle.pac_ops.proofs.RecordLemmas.{whole_meaning, whole_notes, records_meaning, records_notes}

module _ (parts : PlanParts) where
  abbrev pub opens : Txn → Tables → State
  opens txn tables = record { env = with_values 0 (txn_args (Some txn)) empty; tables = tables }

  -- one transaction
  pub one_state : (txn : Txn) (tables : Tables) → numbered_meaning (txn_vars parts (Some txn)) (txn_code parts (Some txn)) (opens txn tables) ≡ txn_state parts.programs txn tables
  unfolding numbered_meaning numbered_from
  one_state (ACall call) tables = go (slice_get parts.programs call.proc)
    where
      go : (o : Option Program) → numbered_meaning (types_in o) (numbered_from 0 (ops_of o)) (opening call.args tables) ≡ call_state o call.args tables
      go None = refl
      go (Some program) = whole_meaning program.vars 0 program.ops (opening call.args tables)
  one_state (AdHoc records) tables = records_meaning [] 0 records (record { env = empty; tables = tables })

  pub one_notes : (t : ℕ) (txn : Txn) (tables : Tables) → numbered_notes (txn_vars parts (Some txn)) t (txn_code parts (Some txn)) (opens txn tables) ≡ txn_notes parts.programs t txn tables
  unfolding numbered_notes numbered_from
  one_notes t (ACall call) tables = go (slice_get parts.programs call.proc)
    where
      go : (o : Option Program) → numbered_notes (types_in o) t (numbered_from 0 (ops_of o)) (opening call.args tables) ≡ call_notes o t call.args tables
      go None = refl
      go (Some program) = whole_notes program.vars t 0 program.ops (opening call.args tables)
  one_notes t (AdHoc records) tables = records_notes [] t 0 records (record { env = empty; tables = tables })

  module _ (w : World) where
    -- from number n on the world has these transactions
    Has : ℕ → List Txn → Type 0
    Has n txns = (i : ℕ) (x : Txn) → slice_get txns i ≡ Some x → (w.code (n + i) ≡ txn_code parts (Some x)) × (w.vars (n + i) ≡ txn_vars parts (Some x))

    -- and they have their arguments
    Opens : ℕ → List Txn → Present → Type 0
    Opens n txns s = (i : ℕ) (x : Txn) → slice_get txns i ≡ Some x → s.envs (n + i) ≡ with_values 0 (txn_args (Some x)) empty

    pub later_stays : (n k : ℕ) (s : Present) (t : ℕ) → t < n → (replayed_in w (range_with_len n k) s).envs t ≡ s.envs t
    unfolding replayed_in
    later_stays n zero s t lt = refl
    later_stays n (suc k) s t lt =
        later_stays (n + 1) k (run_ops n (w.vars n) (w.code n) s) t (omega (arith, lt))
        ∙ other_stays n (w.vars n) (w.code n) s t (λ e. omega (arith, lt, e))

    record Agrees (n : ℕ) (txns : List Txn) (s : Present) : Type 0 where
      tables_are : (replayed_in w (range_with_len n (length txns)) s).tables ≡ (replayed parts.programs n txns s.tables).tables
      note_is : (replayed_in w (range_with_len n (length txns)) s).note ≡ least s.note (first_note (replayed parts.programs n txns s.tables).notes)
      envs_are : (i : ℕ) (env : Values) → slice_get (replayed parts.programs n txns s.tables).envs i ≡ Some env → (replayed_in w (range_with_len n (length txns)) s).envs (n + i) ≡ env

    pub moved : (n i : ℕ) → n + 1 + i ≡ n + suc i
    moved n i = omega arith

    pub at_start : (n : ℕ) → n ≡ n + 0
    at_start n = omega arith

    agrees : (txns : List Txn) (n : ℕ) (s : Present) → Has n txns → Opens n txns s → Agrees n txns s
    unfolding replayed_in Has Opens
    agrees [] n s has opens = record { tables_are = refl; note_is = sym (least_none s.note); envs_are = λ i env e. absurd cc }
    agrees (x ∷ xs) n s has initial = from (agrees xs (n + 1) mid has_rest opens_rest)
      where
        mid : Present
        mid = run_ops n (w.vars n) (w.code n) s

        code : w.code n ≡ txn_code parts (Some x)
        code = ap w.code (at_start n) ∙ (has 0 x refl).0

        vars : w.vars n ≡ txn_vars parts (Some x)
        vars = ap w.vars (at_start n) ∙ (has 0 x refl).1

        env : s.envs n ≡ with_values 0 (txn_args (Some x)) empty
        env = ap s.envs (at_start n) ∙ initial 0 x refl

        state : numbered_meaning (w.vars n) (w.code n) (of_txn n s) ≡ txn_state parts.programs x s.tables
        state = (λ i. numbered_meaning (vars i) (code i) (record { env = env i; tables = s.tables })) ∙ one_state x s.tables

        notes : numbered_notes (w.vars n) n (w.code n) (of_txn n s) ≡ txn_notes parts.programs n x s.tables
        notes = (λ i. numbered_notes (vars i) n (code i) (record { env = env i; tables = s.tables })) ∙ one_notes n x s.tables

        has_rest : (i : ℕ) (y : Txn) → slice_get xs i ≡ Some y → (w.code (n + 1 + i) ≡ txn_code parts (Some y)) × (w.vars (n + 1 + i) ≡ txn_vars parts (Some y))
        has_rest i y e = let h = has (suc i) y e in (ap w.code (moved n i) ∙ h.0, ap w.vars (moved n i) ∙ h.1)

        opens_rest : (i : ℕ) (y : Txn) → slice_get xs i ≡ Some y → mid.envs (n + 1 + i) ≡ with_values 0 (txn_args (Some y)) empty
        opens_rest i y e = other_stays n (w.vars n) (w.code n) s (n + 1 + i) (λ h. omega (arith, h)) ∙ ap s.envs (moved n i) ∙ initial (suc i) y e

        from : Agrees (n + 1) xs mid → Agrees n (x ∷ xs) s
        from rest = record {
          tables_are = rest.tables_are ∙ ap (λ (z : State). (replayed parts.programs (n + 1) xs z.tables).tables) state;
          note_is = rest.note_is
              ∙ (λ i. least (least s.note (first_note (notes i))) (first_note (replayed parts.programs (n + 1) xs (state i).tables).notes))
              ∙ sym (least-assoc s.note (first_note (txn_notes parts.programs n x s.tables)) (first_note (replayed parts.programs (n + 1) xs (txn_state parts.programs x s.tables).tables).notes))
              ∙ ap (least s.note) (sym (first-append (txn_notes parts.programs n x s.tables) (replayed parts.programs (n + 1) xs (txn_state parts.programs x s.tables).tables).notes));
          envs_are = envs;
        }
          where
            envs : (i : ℕ) (env : Values) → slice_get ((txn_state parts.programs x s.tables).env ∷ (replayed parts.programs (n + 1) xs (txn_state parts.programs x s.tables).tables).envs) i ≡ Some env
                → (replayed_in w (range_with_len (n + 1) (length xs)) mid).envs (n + i) ≡ env
            envs zero env e =
                ap (replayed_in w (range_with_len (n + 1) (length xs)) mid).envs (sym (at_start n))
                ∙ later_stays (n + 1) (length xs) mid n (omega arith)
                ∙ written_env n n _ s.envs (eq_self n) ∙ ap (λ (z : State). z.env) state ∙ same_Some _ env e
            envs (suc i) env e =
                ap (replayed_in w (range_with_len (n + 1) (length xs)) mid).envs (sym (moved n i))
                ∙ rest.envs_are i env (ap (λ (z : State). slice_get (replayed parts.programs (n + 1) xs z.tables).envs i) state ∙ e)

  pub at_number : (first : ℕ) (txns : List Txn) (i : ℕ) (x : Txn) → slice_get txns i ≡ Some x → txn_at first txns (first + i) ≡ Some x
  at_number first txns i x e =
      let not_below : nat_lt (first + i) first ≡ false = grind (arith, nat_tests) in
      let back : first + i - first ≡ i = omega arith in
      ap (λ b. cond b None (slice_get txns (first + i - first))) not_below ∙ ap (slice_get txns) back ∙ e

  pub is_replay : (first : ℕ) (batch : ℕ → ℕ) (txns : List Txn) (tables : Tables) → IsWholeReplay parts first batch txns tables
  unfolding Has Opens
  is_replay first batch txns tables =
      let all : Agrees (world parts first batch txns) first txns (initial first txns tables) = agrees (world parts first batch txns) txns first (initial first txns tables)
      (λ i x e. (ap (txn_code parts) (at_number first txns i x e), ap (txn_vars parts) (at_number first txns i x e)))
      (λ i x e. ap (λ o. with_values 0 (txn_args o) empty) (at_number first txns i x e)) in
      record { tables_are = all.tables_are; note_is = all.note_is; envs_are = all.envs_are }
