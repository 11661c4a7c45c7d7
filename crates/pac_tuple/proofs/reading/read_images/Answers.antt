-- The list that is added is in the tables.
use Rattle.std.proofs.Common.{List, length, sym, subst}
use Rattle.pac_ops.specs.declared.transaction.Change.{Change}
use Rattle.pac_tuple.specs.Laying.{AreLaidWithin}
use Rattle.pac_tuple.proofs.WithinLemmas.{one_list_within}
use Rattle.pac_tuple.proofs.reading.read_images.Goals as goal

pub returns-clause-within : goal.returns-clause-within
returns-clause-within c = λ within.
    subst (λ (lists : List (List Change)). AreLaidWithin (length c.args.cat.now.tables) lists) (sym c.in_ok-push.ensures.ok)
    (one_list_within c.args.cat.now.tables c.args.images.now c.in_ok-list.list c.in_ok-list.ensures.found.form within)
