-- A later segment on the same device has a greater base.
use Rattle.pac_store.proofs.SegmentLemmas.{changes, follows-on, grows, possible}
use Rattle.pac_store.proofs.laws.a_segment_is_known.Goals as goal

pub returns-clause-possible : goal.returns-clause-possible
returns-clause-possible k = possible

pub returns-clause-changes : goal.returns-clause-changes
returns-clause-changes k = changes

pub returns-clause-grows : goal.returns-clause-grows
returns-clause-grows k = grows

pub returns-clause-follows : goal.returns-clause-follows
returns-clause-follows k = follows-on
