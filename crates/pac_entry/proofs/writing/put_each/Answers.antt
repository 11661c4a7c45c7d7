-- Each step writes one value.
use Rattle.std.proofs.lemmas.List.Elements.{All-more}
use Rattle.pac_bytes.specs.Values.{HasBytes, value_bytes}
use Rattle.pac_entry.proofs.WrittenLemmas.{one_more}
use Rattle.pac_entry.proofs.writing.put_each.Goals as goal

pub loop-value-preserved : goal.loop-value-preserved
loop-value-preserved c = record {
  bytes = one_more value_bytes _ _ _ c.args.values.now c.loop-value.value-index c.value-item.result c.loop-value-test.true c.value-item.is c.in_ok-put_value.ensures.bytes c.loop-value.invariant.bytes;
  form = All-more HasBytes c.args.values.now c.loop-value.value-index c.value-item.result c.loop-value-test.true c.loop-value.invariant.form (rw (← c.value-item.is) c.in_ok-put_value.ensures.form);
}
