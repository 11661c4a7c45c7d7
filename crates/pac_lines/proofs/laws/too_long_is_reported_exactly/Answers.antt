use Rattle.pac_lines.proofs.LimitLemmas.{reported_exactly}
use Rattle.pac_lines.proofs.laws.too_long_is_reported_exactly.Goals as goal

pub returns : goal.returns
returns c = reported_exactly
