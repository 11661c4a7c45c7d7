-- Replays of flat forms are serial executions: of one procedure, and of transactions one after another.
use Rattle.std.proofs.Common.{◌≡◌, ℕ, ◌+◌, List, [], ◌∷◌, ◌++◌, length, map, Option, Some, None, Result, Ok, Err, refl, sym, ap, subst, ◌∙◌}
use Rattle.std.specs.Prelude.{slice_get}
use Rattle.std.specs.List.{AllZip}
use Rattle.std.specs.Option.{option_map}
use Rattle.std.proofs.lemmas.Option.{slice_get-map}
use Rattle.pac_value.specs.declared.values.Value.{Value}
use Rattle.pac_value.specs.Expressions.{◌>>=◌}
use Rattle.pac_value.specs.State.{Tables}
use Rattle.pac_ops.specs.declared.note.Note.{Note}
use Rattle.pac_ops.specs.declared.program.Program.{Program}
use Rattle.pac_ops.specs.declared.transaction.Txn.{Txn}
use Rattle.pac_ops.specs.declared.transaction.Txn.TheVariants.{Call as ACall, AdHoc}
use Rattle.pac_ops.specs.Flat.{flat_meaning, notes_of}
use Rattle.pac_ops.specs.Notes.{first_note}
use Rattle.pac_ops.specs.Operations.{State, opening}
use Rattle.pac_ops.specs.Transactions.{call_state, call_notes, txn_state, txn_notes, Replayed, after_txn, replayed}
use Rattle.pac_types.specs.declared.procedure.Proc.{Proc}
use Rattle.pac_types.specs.Meaning.{Abort, meaning}
use Rattle.pac_types.specs.Execution.{called_at, txn_meaning, in_txn, serial}
use Rattle.pac_types.specs.Unrolled.{all_after, unrolling, beginning, unrolled}
use Rattle.pac_flat.specs.Agreement.{Agrees, MeansTheSame, AllAgree, ReplaysTheSame}
use Rattle.pac_flat.specs.FlatForm.{flat_form, program_of}
use Rattle.pac_flat.proofs.NumberedLemmas.{numbered-unrolled}
use Rattle.pac_flat.proofs.MeetsLemmas.{BeginWith, Meets, meets}
use Rattle.pac_flat.proofs.NoteLemmas.{Rises, first-rises, rises-notes, rises-replayed}

-- notes that begin with one and rise have it as the first
first-begins : (txn : ℕ) (abort : Abort) (notes : List Note) → BeginWith [] txn abort notes → Rises notes → first_note notes ≡ Some (record { txn = txn; op = abort.0; reason = abort.1 })
first-begins txn abort notes begins rises =
    ap first_note begins.1 ∙ first-rises (record { txn = txn; op = abort.0; reason = abort.1 }) begins.0 (subst Rises begins.1 rises)

-- the program of a procedure, called
meets-called : (proc : Proc) (txn : ℕ) (args : List Value) (tables : Tables) → Meets (program_of proc).vars txn 0 (flat_form proc) (opening args tables) (meaning proc (opening args tables))
meets-called proc txn args tables =
    meets (program_of proc).vars txn (unrolled proc) [] (length proc.params) (all_after (map unrolling proc.body) (beginning proc)).next 0 (opening args tables) (numbered-unrolled proc) tt refl

answers-meets : (program : Program) (txn : ℕ) (s : State) (m : Result State Abort) → Meets program.vars txn 0 program.ops s m → Agrees (in_txn txn m) (flat_meaning program.vars program.ops s) (notes_of program.vars txn 0 program.ops s)
answers-meets program txn s (Ok t) h = h
answers-meets program txn s (Err abort) h = first-begins txn abort (notes_of program.vars txn 0 program.ops s) h (rises-notes program.vars txn 0 program.ops s)

-- the program of a procedure means what that means
pub means_the_same : (proc : Proc) → MeansTheSame proc (program_of proc)
means_the_same proc = record { called = λ txn args tables. answers-meets (program_of proc) txn (opening args tables) (meaning proc (opening args tables)) (meets-called proc txn args tables) }

pub all_mean_the_same : (procs : List Proc) → AllZip MeansTheSame procs (map program_of procs)
all_mean_the_same [] = tt
all_mean_the_same (proc ∷ procs) = (means_the_same proc, all_mean_the_same procs)

-- ---- transactions

-- a transaction ends with the tables that are meant and leaves no note, or its first note reports the abort
abbrev MeetsTables : ℕ → Result Tables Abort → State → List Note → Type 0
MeetsTables txn (Ok tables) s notes = (s.tables ≡ tables) × (notes ≡ [])
MeetsTables txn (Err abort) s notes = BeginWith [] txn abort notes

-- what is replayed ends with the tables that are meant and leaves no note, or its notes begin with that of the stop
abbrev MeetsAll : Result Tables Note → Replayed → Type 0
MeetsAll (Ok tables) all = (all.tables ≡ tables) × (all.notes ≡ [])
MeetsAll (Err note) all = (rest : List Note) × (all.notes ≡ note ∷ rest)

tables-meet : (program : Program) (txn : ℕ) (s : State) (m : Result State Abort) → Meets program.vars txn 0 program.ops s m
    → MeetsTables txn (m >>= λ t. Ok t.tables) (flat_meaning program.vars program.ops s) (notes_of program.vars txn 0 program.ops s)
tables-meet program txn s (Ok t) h = (ap (λ (z : State). z.tables) h.0, h.1)
tables-meet program txn s (Err abort) h = h

module _ (procs : List Proc) where
  meets_call : (txn n : ℕ) (args : List Value) (tables : Tables)
      → MeetsTables txn (called_at (slice_get procs n) args tables) (call_state (slice_get (map program_of procs) n) args tables) (call_notes (slice_get (map program_of procs) n) txn args tables)
  meets_call txn n args tables = subst (λ (o : Option Program). MeetsTables txn (called_at (slice_get procs n) args tables) (call_state o args tables) (call_notes o txn args tables))
      (sym (slice_get-map program_of procs n)) (go (slice_get procs n) refl)
    where
      go : (o : Option Proc) → slice_get procs n ≡ o → MeetsTables txn (called_at o args tables) (call_state (option_map program_of o) args tables) (call_notes (option_map program_of o) txn args tables)
      go None is = (refl, refl)
      go (Some proc) is = tables-meet (program_of proc) txn (opening args tables) (meaning proc (opening args tables)) (meets-called proc txn args tables)

  meets_txn : (n : ℕ) (txn : Txn) (tables : Tables) → MeetsTables n (txn_meaning procs txn tables) (txn_state (map program_of procs) txn tables) (txn_notes (map program_of procs) n txn tables)
  meets_txn n (ACall call) tables = meets_call n call.proc call.args tables
  meets_txn n (AdHoc records) tables = (refl, refl)

  -- one transaction, and then the others
  meets_more : (first : ℕ) (txns : List Txn) (m : Result Tables Abort) (s : State) (notes : List Note) → MeetsTables first m s notes
      → ((tables : Tables) → MeetsAll (serial procs (first + 1) txns tables) (replayed (map program_of procs) (first + 1) txns tables))
      → MeetsAll (in_txn first m >>= λ t. serial procs (first + 1) txns t) (after_txn s notes (replayed (map program_of procs) (first + 1) txns s.tables))
  meets_more first txns (Ok tables) s notes h rest =
      subst (λ (p : Tables × List Note). MeetsAll (serial procs (first + 1) txns tables) (after_txn s p.1 (replayed (map program_of procs) (first + 1) txns p.0))) (λ i. (sym h.0 i, sym h.1 i))
      (go (serial procs (first + 1) txns tables) (replayed (map program_of procs) (first + 1) txns tables) (rest tables))
    where
      go : (r : Result Tables Note) (all : Replayed) → MeetsAll r all → MeetsAll r (after_txn s [] all)
      go (Ok t) all k = k
      go (Err note) all k = k
  meets_more first txns (Err abort) s notes h rest =
      (h.0 ++ (replayed (map program_of procs) (first + 1) txns s.tables).notes, ap (λ l. l ++ (replayed (map program_of procs) (first + 1) txns s.tables).notes) h.1)

  meets_all : (txns : List Txn) (first : ℕ) (tables : Tables) → MeetsAll (serial procs first txns tables) (replayed (map program_of procs) first txns tables)
  meets_all [] first tables = (refl, refl)
  meets_all (txn ∷ txns) first tables = meets_more first txns (txn_meaning procs txn tables) (txn_state (map program_of procs) txn tables) (txn_notes (map program_of procs) first txn tables)
      (meets_txn first txn tables) (meets_all txns (first + 1))

  answers-all : (r : Result Tables Note) (all : Replayed) → MeetsAll r all → Rises all.notes → AllAgree r all
  answers-all (Ok tables) all h rises = h
  answers-all (Err note) all h rises = ap first_note h.1 ∙ first-rises note h.0 (subst Rises h.1 rises)

  -- replays of the programs of procedures are serial executions of these
  pub replays_the_same : ReplaysTheSame procs (map program_of procs)
  replays_the_same = record {
    executed = λ first txns tables. answers-all (serial procs first txns tables) (replayed (map program_of procs) first txns tables)
        (meets_all txns first tables) (rises-replayed (map program_of procs) txns first tables);
  }
