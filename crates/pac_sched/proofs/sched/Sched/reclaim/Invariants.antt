-- The pieces so far were put back, and the others are as they were.
use Rattle.std.proofs.Common.{◌≡◌, ℕ, ◌<◌, ◌≤◌, length, get_or}
use Rattle.pac_sched.specs.declared.state.PieceState.{PieceState}
use Rattle.pac_sched.specs.Schedules.{put_back}
use Rattle.pac_sched.proofs.sched.Sched.reclaim.Given as goal

abbrev pub invariant-loop-i : goal.invariant-loop-i
invariant-loop-i l = record {
  pieces : l.self.pieces ≡ l.fn.self.pieces;
  pairs : l.self.pairs ≡ l.fn.self.pairs;
  len : length l.self.states ≡ length l.fn.self.states;
  end : l.i-end ≡ length l.fn.self.states;
  done : (k : ℕ) (d : PieceState) → k < l.i → k < length l.fn.self.states → get_or l.self.states k d ≡ put_back (get_or l.fn.self.states k d);
  left : (k : ℕ) (d : PieceState) → l.i ≤ k → get_or l.self.states k d ≡ get_or l.fn.self.states k d;
}
