-- No ready piece is of a set before the offset, and the replay is what it was.
use Rattle.std.proofs.Common.{◌≡◌, ◌-◌, length}
use Rattle.pac_commute.specs.Loads.{Job}
use Rattle.pac_core.specs.Links.{KeepsProgress, ReadyFrom, replay_so_far}
use Rattle.pac_core.proofs.progress.Progress.look_for_ready.Given as goal

abbrev pub invariant-loop-at : goal.invariant-loop-at
invariant-loop-at l = record {
  keeps : (job : Job) → KeepsProgress job l.fn.self → KeepsProgress job l.self;
  same : (job : Job) → KeepsProgress job l.fn.self → replay_so_far job l.self ≡ replay_so_far job l.fn.self;
  from : (job : Job) → KeepsProgress job l.fn.self → ReadyFrom job l.fn.self l.fn.self.recent → ReadyFrom job l.self l.from;
  count : l.count ≡ length l.self.sets.sets;
  recent : l.self.recent ≡ l.fn.self.recent;
}

abbrev pub decreases-loop-at : goal.decreases-loop-at
decreases-loop-at l = l.count - l.from
