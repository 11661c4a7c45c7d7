use Rattle.pac_run.proofs.PlainLemmas.{signed_no_feed}
use Rattle.pac_run.proofs.text.plain_int.Goals as goal

pub returns : goal.returns
returns c = signed_no_feed c.args.number c.ranges.number.sfits
