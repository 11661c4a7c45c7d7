use Rattle.pac_syntax.proofs.Top.{top_reads, top_only, top_fault}
use Rattle.pac_syntax.proofs.parse.catalogue.parse_tokens.Goals as goal

pub returns-clause-reads : goal.returns-clause-reads
returns-clause-reads c = top_reads c.whole.result _ _ c.whole.ensures

pub returns-clause-only : goal.returns-clause-only
returns-clause-only c = top_only c.whole.result _ _ c.whole.ensures

pub returns-clause-fault : goal.returns-clause-fault
returns-clause-fault c = top_fault c.whole.result _ _ c.whole.ensures
