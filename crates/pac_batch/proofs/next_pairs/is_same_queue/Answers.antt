-- Queues that tie are one.
use Rattle.std.proofs.Common.{ap, ◌∙◌, sym}
use Rattle.std.specs.Ordering.{is_eq}
use Rattle.std.specs.Cmp.{Equal-is}
use Rattle.pac_batch.proofs.QueueOrder.{tied_rows, same_rows}
use Rattle.pac_batch.proofs.next_pairs.is_same_queue.Goals as goal

pub returns : goal.returns
returns c = (
  (λ t. tied_rows _ _ (sym c.cmp.ensures ∙ (Equal-is c.cmp.result).0 (sym c.is_eq.ensures ∙ t))),
  (λ e. c.is_eq.ensures ∙ ap is_eq (c.cmp.ensures ∙ same_rows _ _ e)),
)
