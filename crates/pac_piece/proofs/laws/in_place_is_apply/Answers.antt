-- What code leaves in place is what the piece means.
use Rattle.pac_plan.specs.Pieces.{of_txn, with_env}
use Rattle.pac_ops.specs.Notes.{least}
use Rattle.pac_piece.proofs.MeaningLemmas.{code_means_piece}
use Rattle.pac_piece.proofs.laws.in_place_is_apply.Goals as goal

pub returns : goal.returns
returns c = λ parts is txn fits count number block s.
    let h = code_means_piece parts is txn fits block number (of_txn number s) in
    (λ i. record { tables = (h.0 i).tables; envs = with_env number (h.0 i).env s.envs; note = least s.note (h.1 i) })
