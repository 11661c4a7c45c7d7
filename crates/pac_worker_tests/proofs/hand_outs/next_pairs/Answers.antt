-- Next pairs stand once each, and are of pieces that there are.
use Rattle.std.specs.Prelude.{slice_index_or}
use Rattle.std.proofs.lemmas.List.Elements.{Contains-get_or}
use Rattle.pac_worker_tests.proofs.PairsOnce.{stand_once}
use Rattle.pac_worker_tests.proofs.hand_outs.next_pairs.Goals as goal

pub returns-clause-within : goal.returns-clause-within
returns-clause-within c = λ k d inside.
    let preds = c.in_ok-preds.preds in
    let pair = slice_index_or preds k d in
    ((c.in_ok-preds.ensures.next.each pair.0 pair.1).0 (Contains-get_or preds k d inside)).0

pub returns-clause-once : goal.returns-clause-once
returns-clause-once c = stand_once c.in_ok-preds.preds c.in_ok-preds.ensures.next.ascending
