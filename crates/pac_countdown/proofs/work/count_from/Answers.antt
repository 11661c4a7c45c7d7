-- Each pair of the piece is counted once.
use Rattle.std.proofs.Common.{◌≡◌, ◌+◌, ◌++◌, get_or, take, sym, ap, ◌∙◌, subst, refl, true, false, arith}
use Rattle.pac_countdown.specs.Lists.{times_in, pair_times}
use Rattle.pac_countdown.specs.Counted.{agenda_pairs}
use Rattle.pac_countdown.specs.Steps.{after_count}
use Rattle.pac_countdown.specs.HandOut.{CountsFrom}
use Rattle.pac_countdown.specs.declared.worker.Worker.{Worker}
use Rattle.pac_countdown.proofs.Sums.{times_append}
use Rattle.pac_countdown.proofs.Hands.{paired_there, from_new, counts_on}
use Rattle.pac_countdown.proofs.work.count_from.Goals as goal
use Rattle.pac_countdown.proofs.work.count_from.Goals.{then-count+in_ok-push, else-count}

pub count-requires-clause-pair : goal.count-requires-clause-pair
count-requires-clause-pair c = paired_there (agenda_pairs c.args.countdown.now.agenda) c.args.laters.now c.args.from c.loop-to.to-index c.requires.laters c.loop-to-test.true

pub count-requires-clause-handed : goal.count-requires-clause-handed
count-requires-clause-handed c =
    let inv = c.loop-to.invariant in
    let from = c.args.from in
    let grows = inv.grows in
    let a = times_append from c.args.worker.now.pieces.items grows.0 in
    let has = c.requires.from in
    let is : times_in from c.loop-to.worker.pass.deeds.handed ≡ times_in from (c.args.worker.now.pieces.items ++ grows.0) = ap (times_in from) (inv.held.handed ∙ grows.1) in omega arith

pub count-requires-clause-new : goal.count-requires-clause-new
count-requires-clause-new c =
    let to = get_or c.args.laters.now c.loop-to.to-index 0 in
    ap (pair_times (c.args.from, get_or c.args.laters.now c.loop-to.to-index 0)) c.loop-to.invariant.counted
    ∙ from_new (agenda_pairs c.args.countdown.now.agenda) c.args.worker.now.pass.deeds.counted c.args.laters.now c.args.from c.loop-to.to-index c.pairs_differ.ensures c.requires.new c.requires.laters c.loop-to-test.true

pub loop-to-preserved : goal.loop-to-preserved
loop-to-preserved c =
    let countdown = c.args.countdown.now in
    let start = c.args.worker.now in
    let laters = c.args.laters.now in
    let from = c.args.from in
    let k = c.loop-to.to-index in
    let to = get_or laters k 0 in
    let before = c.loop-to.worker in
    let inv = c.loop-to.invariant in
    let inside = c.loop-to-test.true in
    let few = (c.pairs_are_below.ensures (from, to) (paired_there (agenda_pairs countdown.agenda) laters from k c.requires.laters inside)).1 in
    let on : Worker → Type 0 = λ worker. CountsFrom countdown start worker (take (k + 1) laters) from in
    elim c.if-count.branch [
      | then-count+in_ok-push w ↦
          subst on (sym w.worker-is) (counts_on countdown start before record { pass = c.count.new.pass; pieces = w.push.new.self } laters k from true inv inside few
          c.count.ensures.of.0 c.count.ensures.fresh (c.count.ensures.did ∙ ap (after_count before.pass.deeds from to) w.if-count.true) w.in_ok-push.ensures.items)
      | else-count w ↦
          subst on (sym w.worker-is) (counts_on countdown start before record { pass = c.count.new.pass; pieces = before.pieces } laters k from false inv inside few
          c.count.ensures.of.0 c.count.ensures.fresh (c.count.ensures.did ∙ ap (after_count before.pass.deeds from to) w.if-count.false) refl)
    ]
