-- The entries and the gate fill the bytes that are counted for them.
use Rattle.std.proofs.Common.{arith}
use Rattle.pac_log.proofs.FillingLemmas.{counted_answers}
use Rattle.pac_log.proofs.link.counted_at.Goals as goal

pub returns : goal.returns
returns c = counted_answers c.args.cat.now c.args.count c.args.at c.in_ok-len.len c.in_ok-len.first c.args.bytes.now c.in_ok-len.ensures c.if-len-gt-MAX_ENTRIES_LEN.false c.entries_and_gate_at.result (omega (arith, c.if-bytes-first.false)) c.entries_and_gate_at.ensures.end c.entries_and_gate_at.ensures.exact
