-- Own work is work in the sense of the laws of pieces.
use Rattle.std.proofs.Common.{◌≡◌, ◌-◌, Bool, true, false, cond, List, Option, None, Some, ap, ◌∙◌}
use Rattle.std.specs.Prelude.{slice_get}
use Rattle.std.specs.FinMap.{empty, get}
use Rattle.pac_value.specs.State.{Cell}
use Rattle.pac_ops.specs.declared.transaction.Txn.{Txn}
use Rattle.pac_plan.specs.Codes.{TxnFitsPlan}
use Rattle.pac_plan.specs.Pieces.{covers}
use Rattle.pac_plan.specs.Worlds.{txn_at}
use Rattle.pac_tables.specs.declared.writes.Write.{Write}
use Rattle.pac_tables.specs.Written.{written}
use Rattle.pac_piece.specs.declared.work.Work.{Work}
use Rattle.pac_commute.specs.Machine.{IsOutBy}
use Rattle.pac_commute.specs.PlanLaws.{txns_of}
use Rattle.pac_core.specs.Calls.{IsOwn}
use Rattle.pac_core.specs.Events.{IsSound, OwnIsWork}
use Rattle.pac_core.specs.Replay.{Replay, machine_of, present_of}
use Rattle.pac_core.specs.Takes.{access_now}
use Rattle.pac_core.proofs.Copies.{copied_in}
use Rattle.pac_core.proofs.Marks.{fits_plan}
use Rattle.pac_core.proofs.PieceValue.{is_work}
use Rattle.pac_core.proofs.SameCells.{contains_mem}

module _ (r : Replay) (sound : IsSound r) (work : Work) (own : IsOwn r work) where
  is_out : IsOutBy r.job (machine_of r) work.piece
  is_out = sound.machine.outs work.piece own.0

  fits : TxnFitsPlan r.job.parts own.1.txn
  fits = fits_plan r.job.parts own.1.txn (sound.machine.fit (work.piece.txn - r.job.first) own.1.txn (found _ own.1.there))
    where
      found : (b : Bool) → cond b None (slice_get (txns_of r.batches) (work.piece.txn - r.job.first)) ≡ Some own.1.txn → slice_get (txns_of r.batches) (work.piece.txn - r.job.first) ≡ Some own.1.txn
      found true e = let wrong : None ≡ Some own.1.txn = e in absurd cc
      found false e = e

  rows_alike : (a : Cell) → covers (access_now r work.piece) a ≡ true → get (written empty work.rows) a ≡ get (present_of r).tables a
  rows_alike a c = ap (λ (rows : List Write). get (written empty rows) a) own.1.over.rows ∙ copied_in (present_of r).tables own.1.cells a (contains_mem own.1.cells a ((own.1.named.each a).1 c))

pub own_is_work : (r : Replay) → IsSound r → OwnIsWork r
own_is_work r sound work own = is_work r.job sound.is_plan (machine_of r) sound.machine work.piece (is_out r sound work own).needed (is_out r sound work own).unfinished
    own.1.txn own.1.there (fits r sound work own) work.env own.1.over.inputs (written empty work.rows) (rows_alike r sound work own)
