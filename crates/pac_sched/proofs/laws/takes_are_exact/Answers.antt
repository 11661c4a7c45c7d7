-- The first ready piece is found in the order of opening, if there is one.
use Rattle.pac_sched.proofs.PickLemmas.{ready_by_pairs, picks_first, not_ready_exactly, done_exactly}
use Rattle.pac_sched.proofs.laws.takes_are_exact.Goals as goal

pub returns : goal.returns
returns c = record { pairs = ready_by_pairs; first = picks_first; not_ready = not_ready_exactly; done = done_exactly }
