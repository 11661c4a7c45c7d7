-- A replay, as contracts see it: what is replayed, what is loaded, and which pieces are out and finished; and what it does.
use Rattle.std.specs.Prelude.{ℕ, Bool, true, false, ◌&&◌, not, List, [], filter, length, refl}
use Rattle.std.specs.Coded.{Coded, code_by, coded×, coded_ℕ, coded_bool, coded_list}
use Rattle.pac_value.specs.State.{Tables, tables_code}
use Rattle.pac_ops.specs.declared.batch.Batch.{Batch}
use Rattle.pac_ops.specs.contracts.batch.Batch as batch_type
use Rattle.pac_ops.specs.declared.piece.PieceId.{PieceId}
use Rattle.pac_ops.specs.contracts.piece.PieceId as piece_type
use Rattle.pac_plan.specs.declared.parts.PlanParts.{PlanParts}
use Rattle.pac_plan.specs.contracts.parts.PlanParts as plan_type
use Rattle.pac_plan.specs.Pieces.{Present, partial, is_piece, adds}
use Rattle.pac_commute.specs.Loads.{Job, world_of, pieces_of, begin, and_batch}
use Rattle.pac_commute.specs.Machine.{Machine, among}

-- what is replayed, the batches that are loaded, whether no more may come, and which of their pieces are out and which finished,
-- each in the order of transactions and blocks
pub record Replay : Type 0 where
  pub job : Job
  pub batches : List Batch
  pub is_closed : Bool
  pub out : List PieceId
  pub finished : List PieceId

-- how replays are told apart
abbrev pub replay_code : Coded Replay
replay_code = code_by ((PlanParts × (ℕ × Tables)) × (List Batch × (Bool × (List PieceId × List PieceId))))
    (coded× (coded× plan_type.the_row.coded (coded× coded_ℕ tables_code)) (coded× (coded_list batch_type.the_row.coded) (coded× coded_bool (coded× (coded_list piece_type.the_row.coded) (coded_list piece_type.the_row.coded)))))
    (λ r. ((r.job.parts, (r.job.first, r.job.tables)), (r.batches, (r.is_closed, (r.out, r.finished)))))
    (λ p. record { job = record { parts = p.0.0; first = p.0.1.0; tables = p.0.1.1 }; batches = p.1.0; is_closed = p.1.1.0; out = p.1.1.1.0; finished = p.1.1.1.1 })
    (λ r. refl)

-- nothing is loaded
abbrev pub opening_replay : Job → Replay
opening_replay job = record { job = job; batches = []; is_closed = false; out = []; finished = [] }

-- the pieces of what is loaded
abbrev pub loaded_pieces : Replay → List PieceId
loaded_pieces r = pieces_of r.job r.batches

-- the tables, values and note that stand: those of the finished pieces, in commit order
abbrev pub present_of : Replay → Present
present_of r = partial (world_of r.job r.batches) (among r.finished) (loaded_pieces r) (begin r.job r.batches)

-- the machine of which this is a state
abbrev pub machine_of : Replay → Machine
machine_of r = record { batches = r.batches; out = among r.out; finished = among r.finished; now = present_of r }

-- how many of its pieces are not finished
abbrev pub left : Replay → ℕ
left r = length (filter (λ p. not (among r.finished p)) (loaded_pieces r))

-- ---- what each call makes of it

-- one more batch is loaded
abbrev pub with_batch_loaded : Replay → Batch → Replay
with_batch_loaded r batch = record r { batches = and_batch r.batches batch }

-- no more may come
abbrev pub closed : Replay → Replay
closed r = record r { is_closed = true }

-- a piece is out
abbrev pub with_out : Replay → PieceId → Replay
with_out r p = record r { out = filter (adds (among r.out) p) (loaded_pieces r) }

-- a piece is out no more
abbrev pub without_out : Replay → PieceId → Replay
without_out r p = record r { out = filter (λ q. among r.out q && not (is_piece p q)) (loaded_pieces r) }

-- no piece is out any more
abbrev pub with_none_out : Replay → Replay
with_none_out r = record r { out = [] }

-- what there is to do: no more may come, and no piece was taken
abbrev pub with_none_taken : Replay → Replay
with_none_taken r = record r { is_closed = true; out = []; finished = [] }

-- a piece is finished, and out no more
abbrev pub with_finished : Replay → PieceId → Replay
with_finished r p = record (without_out r p) { finished = filter (adds (among r.finished) p) (loaded_pieces r) }
