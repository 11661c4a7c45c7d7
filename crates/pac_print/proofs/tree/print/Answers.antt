-- What is written is the canonical text: it reads as the tree again, and is that of each tree that is the same but for
-- offsets.
use Rattle.std.proofs.Common.{sym, ◌∙◌}
use Rattle.pac_print.proofs.ReadsBack.{written_reads, written_again}
use Rattle.pac_print.proofs.SameText.{same_text, all_written}
use Rattle.pac_print.proofs.tree.print.Goals as goal

pub returns-clause-reads : goal.returns-clause-reads
returns-clause-reads c =
    written_reads c.loop-proc.out.items c.args.tree.now
    (all_written c.loop-proc.out.items c.loop-proc.proc-index c.as_slice-proc-items.result.now c.args.tree.now c.loop-proc-test.false c.loop-proc.invariant)

pub returns-clause-again : goal.returns-clause-again
returns-clause-again c = λ other.
    written_again c.loop-proc.out.items c.args.tree.now other
    (all_written c.loop-proc.out.items c.loop-proc.proc-index c.as_slice-proc-items.result.now c.args.tree.now c.loop-proc-test.false c.loop-proc.invariant)

pub returns-clause-offsets : goal.returns-clause-offsets
returns-clause-offsets c = λ other same.
    all_written c.loop-proc.out.items c.loop-proc.proc-index c.as_slice-proc-items.result.now c.args.tree.now c.loop-proc-test.false c.loop-proc.invariant
    ∙ sym (same_text other c.args.tree.now same)
