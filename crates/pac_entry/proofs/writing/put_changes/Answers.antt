-- Each step writes one record.
use Rattle.std.proofs.lemmas.List.Elements.{All-more}
use Rattle.pac_entry.specs.Entries.{change_bytes, ChangeHasBytes}
use Rattle.pac_entry.proofs.WrittenLemmas.{one_more}
use Rattle.pac_entry.proofs.writing.put_changes.Goals as goal

pub loop-change-preserved : goal.loop-change-preserved
loop-change-preserved c = record {
  bytes = one_more change_bytes _ _ _ c.args.changes.now c.loop-change.change-index c.change-item.result c.loop-change-test.true c.change-item.is c.in_ok-put_change.ensures.bytes c.loop-change.invariant.bytes;
  form = All-more ChangeHasBytes c.args.changes.now c.loop-change.change-index c.change-item.result c.loop-change-test.true c.loop-change.invariant.form (rw (← c.change-item.is) c.in_ok-put_change.ensures.form);
}
