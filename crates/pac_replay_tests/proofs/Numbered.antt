-- Pieces of transactions that are numbered are different.
use Rattle.std.proofs.Common.{◌≡◌, ℕ, ◌+◌, ◌<◌, ◌≤◌, false, List, length, get_or, take, arith}
use Rattle.std.proofs.lemmas.Bool.Decides.{nat_tests}
use Rattle.std.proofs.lemmas.List.{get_or-take, length-take-le}
use Rattle.pac_ops.specs.declared.piece.PieceId.{PieceId}
use Rattle.pac_plan.specs.Pieces.{is_piece}
use Rattle.pac_sched.specs.Schedules.{AreDifferent}

differ : (p q : PieceId) → p.txn < q.txn → is_piece p q ≡ false
differ p q h = grind (arith, nat_tests)

pub numbered : (pieces : List PieceId) → ((k : ℕ) (d : PieceId) → k < length pieces → (get_or pieces k d).txn ≡ k + 1) → AreDifferent pieces
numbered pieces each i j d lt inside = differ (get_or pieces i d) (get_or pieces j d) (omega (arith, each i d (omega arith), each j d inside))

pub first_numbered : (pieces : List PieceId) (n : ℕ) → n ≤ length pieces → ((k : ℕ) (d : PieceId) → k < length pieces → (get_or pieces k d).txn ≡ k + 1) → AreDifferent (take n pieces)
first_numbered pieces n le each = numbered (take n pieces) (λ k d lt. let in' : k < n = omega (arith, lt, length-take-le n pieces le) in rw (get_or-take n pieces k d in') (each k d (omega arith)))
