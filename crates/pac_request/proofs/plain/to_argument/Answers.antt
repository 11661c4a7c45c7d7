use Rattle.pac_request.proofs.PlainLemmas.{next_taken}
use Rattle.pac_request.proofs.plain.to_argument.Goals as goal

pub returns-else-is_first : goal.returns-else-is_first
returns-else-is_first c = next_taken c.args.is_first c.args.bytes.now c.after_gap.result.now c.after_byte.result c.if-is_first.false c.after_gap.ensures c.after_byte.ensures
