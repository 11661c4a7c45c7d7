-- What is read is one thing, and the rows of each table make the tables.
use Rattle.std.proofs.Common.{length, ap, arith}
use Rattle.pac_check.specs.Checkpoints.{Checkpoint}
use Rattle.pac_check.specs.Saved.{checkpoint_of}
use Rattle.pac_check.proofs.OnceLemmas.{one-checkpoint, one-state}
use Rattle.pac_check.proofs.law.slots_are_clear.Goals as goal

pub returns-clause-once : goal.returns-clause-once
returns-clause-once k = λ image c d first second. one-checkpoint k.args.cat.now.tables (omega (arith, k.tables-tables.ensures.few)) image c d first second

pub returns-clause-one_state : goal.returns-clause-one_state
returns-clause-one_state k = λ image c d s t fits_s fits_t first second.
    let tables = k.args.cat.now.tables in
    let same = one-checkpoint tables (omega (arith, k.tables-tables.ensures.few)) image (checkpoint_of (length tables) c s) (checkpoint_of (length tables) d t) first second in
    (ap (λ (x : Checkpoint). x.head) same, one-state tables s t fits_s fits_t (ap (λ (x : Checkpoint). x.tables) same))
