-- Serial execution of transactions, part by part.
use Rattle.std.proofs.Common.{◌≡◌, ℕ, ◌+◌, List, [], ◌∷◌, ◌++◌, length, Result, Ok, Err, refl, ap, ◌∙◌, arith}
use Rattle.pac_value.specs.Expressions.{◌>>=◌}
use Rattle.pac_value.specs.State.{Tables}
use Rattle.pac_ops.specs.declared.note.Note.{Note}
use Rattle.pac_ops.specs.declared.transaction.Txn.{Txn}
use Rattle.pac_types.specs.declared.procedure.Proc.{Proc}
use Rattle.pac_types.specs.Execution.{txn_meaning, in_txn, serial}

-- where the first part ends, the second goes on
pub serial-parts : (procs : List Proc) (n : ℕ) (xs ys : List Txn) (t : Tables) → serial procs n (xs ++ ys) t ≡ (serial procs n xs t >>= λ u. serial procs (n + length xs) ys u)
serial-parts procs n [] ys t = let same : n ≡ n + 0 = omega arith in ap (λ k. serial procs k ys t) same
serial-parts procs n (x ∷ xs) ys t = go (in_txn n (txn_meaning procs x t)) (λ w. serial-parts procs (n + 1) xs ys w)
  where
    go : (r : Result Tables Note) → ((w : Tables) → serial procs (n + 1) (xs ++ ys) w ≡ (serial procs (n + 1) xs w >>= λ u. serial procs (n + 1 + length xs) ys u))
        → (r >>= λ w. serial procs (n + 1) (xs ++ ys) w) ≡ ((r >>= λ w. serial procs (n + 1) xs w) >>= λ u. serial procs (n + length (x ∷ xs)) ys u)
    go (Ok w) rest = let same : n + 1 + length xs ≡ n + length (x ∷ xs) = omega arith in rest w ∙ ap (λ k. serial procs (n + 1) xs w >>= λ u. serial procs k ys u) same
    go (Err note) rest = refl
