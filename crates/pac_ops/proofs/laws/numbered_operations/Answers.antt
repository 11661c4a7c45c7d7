use Rattle.pac_ops.proofs.RecordLemmas.{whole_meaning, whole_notes, records_meaning, records_notes}
use Rattle.pac_ops.proofs.StateLemmas.{least-swap, least-assoc, first-append}
use Rattle.pac_ops.proofs.DefaultLemmas.{defaults_by_kind}
use Rattle.pac_ops.proofs.laws.numbered_operations.Goals as goal

pub returns : goal.returns
returns c = record {
  whole = λ vars txn n ops s. (whole_meaning vars n ops s, whole_notes vars txn n ops s);
  records = λ vars txn n records s. (records_meaning vars n records s, records_notes vars txn n records s);
  notes = (least-swap, least-assoc, first-append);
  defaults = defaults_by_kind;
}
