-- One more transaction after others.
use Rattle.std.proofs.Common.{◌≡◌, ℕ, ◌+◌, ◌<◌, List, [], ◌∷◌, ◌++◌, length, get_or, take, None, Result, Ok, Err, refl, sym, ap, ◌∙◌, arith}
use Rattle.std.proofs.lemmas.List.{take_more}
use Rattle.pac_value.specs.Expressions.{◌>>=◌}
use Rattle.pac_value.specs.State.{Tables}
use Rattle.pac_ops.specs.declared.note.Note.{Note}
use Rattle.pac_ops.specs.declared.transaction.Txn.{Txn}
use Rattle.pac_types.specs.declared.procedure.Proc.{Proc}
use Rattle.pac_types.specs.Meaning.{Abort}
use Rattle.pac_types.specs.Execution.{txn_meaning, in_txn, serial}
use Rattle.pac_types.proofs.ExecutionLemmas.{serial-parts}
use Rattle.pac_serial.specs.Outcomes.{limited}

-- without a limit a transaction gives what it means
pub unlimited : (n : ℕ) (m : Result Tables Abort) (t : Tables) → limited None n m ≡ Ok t → m ≡ Ok t
unlimited n (Ok u) t h = cc
unlimited n (Err abort) t h = cc

same : {A E : Type 0} (r : Result A E) → (r >>= λ x. Ok x) ≡ r
same (Ok x) = refl
same (Err e) = refl

pub goes-on : (procs : List Proc) (first i : ℕ) (txn : Txn) (txns : List Txn) (before after : Tables) → txn_meaning procs txn before ≡ Ok after
    → serial procs (first + (i + 1)) txns after ≡ serial procs (first + i) (txn ∷ txns) before
goes-on procs first i txn txns before after h =
    let next : first + (i + 1) ≡ first + i + 1 = omega arith in
    ap (λ n. serial procs n txns after) next ∙ sym (ap (λ (r : Result Tables Abort). in_txn (first + i) r >>= λ t. serial procs (first + i + 1) txns t) h)

serial-append : (procs : List Proc) (n : ℕ) (xs : List Txn) (x : Txn) (t u v : Tables) → serial procs n xs t ≡ Ok u → txn_meaning procs x u ≡ Ok v → serial procs n (xs ++ x ∷ []) t ≡ Ok v
serial-append procs n xs x t u v done h =
    serial-parts procs n xs (x ∷ []) t
    ∙ ap (λ (r : Result Tables Note). r >>= λ w. serial procs (n + length xs) (x ∷ []) w) done
    ∙ same (in_txn (n + length xs) (txn_meaning procs x u))
    ∙ ap (in_txn (n + length xs)) h

pub done-more : (procs : List Proc) (first : ℕ) (txns : List Txn) (i : ℕ) (txn : Txn) (t u v : Tables) → i < length txns → txn ≡ get_or txns i txn
    → serial procs first (take i txns) t ≡ Ok u → txn_meaning procs txn u ≡ Ok v → serial procs first (take (i + 1) txns) t ≡ Ok v
done-more procs first txns i txn t u v inside is done h =
    ap (λ (xs : List Txn). serial procs first xs t) (take_more txns i txn inside ∙ ap (λ x. take i txns ++ x ∷ []) (sym is))
    ∙ serial-append procs first (take i txns) txn t u v done h
