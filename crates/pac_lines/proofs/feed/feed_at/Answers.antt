-- The first place that the search finds is the first whose byte is a line feed.
use Rattle.pac_lines.proofs.FeedLemmas.{first_feed}
use Rattle.pac_lines.proofs.feed.feed_at.Goals as goal

pub returns-clause-offset : goal.returns-clause-offset
returns-clause-offset c = first_feed c.args.bytes.now c.memchr.result c.memchr.ensures
