-- One worker more has its share.
use Rattle.std.proofs.Common.{◌≡◌, ℕ, ◌+◌, ◌-◌, ◌/◌, ◌<◌, ◌≤◌, ◌∙◌, List, length, drop, All, ap, subst, sym, div-one, div-le_self, arith}
use Rattle.std.proofs.lemmas.List.Elements.{All-push}
use Rattle.pac_countdown.specs.Lists.{times_in}
use Rattle.pac_countdown.specs.Steps.{lent_deeds}
use Rattle.pac_countdown.specs.HandOut.{IsUnworked}
use Rattle.pac_countdown.specs.declared.deeds.Deeds.{Deeds}
use Rattle.pac_countdown.specs.declared.worker.Worker.{Worker}
use Rattle.pac_countdown.proofs.Outs.{part_differ, part_there, part_distinct, dealt, makes_new}
use Rattle.pac_countdown.proofs.workers.deal.Goals as goal

pub split-lent-requires-clause-differ : goal.split-lent-requires-clause-differ
split-lent-requires-clause-differ c = part_differ c.args.ready.now c.deref.result.now _ c.loop-worker.at c.requires.differ.differ (c.deref.ensures.value ∙ c.in_ok-pieces.ensures)

pub split-lent-requires-clause-handed : goal.split-lent-requires-clause-handed
split-lent-requires-clause-handed c = λ p h.
    let is = ap (λ (v : Deeds). v.handed) c.loop-worker.invariant.did in
    subst (λ (l : List ℕ). 0 < times_in p l) (sym is) (part_there (drop c.loop-worker.at c.args.ready.now) c.deref.result.now _ (c.deref.ensures.value ∙ c.in_ok-pieces.ensures) p h)

last_part : (at len n m : ℕ) → at ≤ len → n ≡ 1 → at + (len - at) / n ≡ len
last_part at len n m h e = let a : (len - at) / n ≡ (len - at) / 1 = ap (λ (k : ℕ). (len - at) / k) e in let b = div-one (len - at) in omega arith

pub loop-worker-preserved : goal.loop-worker-preserved
loop-worker-preserved c =
    let at = c.loop-worker.at in
    let ready = c.args.ready.now in
    let inv = c.loop-worker.invariant in
    let inside = inv.inside in
    let test = c.loop-worker-test.true in
    let len = inv.len in
    let pushed = c.in_ok-push.ensures in
    let pushed_len = pushed.len in
    let most = div-le_self (length ready - at) (c.args.workers - c.loop-worker.worker) in
    let cut = c.deref.ensures.value ∙ c.in_ok-pieces.ensures in
    let worker : Worker = record { pass = c.split-lent.result; pieces = c.in_ok-pieces.pieces } in
    let items = c.deref.ensures.value in record {
      of = c.split-lent.ensures.of.0;
      did = dealt c.loop-worker.pass.deeds c.split-lent.new.pass.deeds c.args.countdown.now.agenda.pieces at ((length ready - at) / (c.args.workers - c.loop-worker.worker)) c.loop-worker.worker ready c.deref.result.now
          c.requires.differ inv.did c.split-lent.ensures.did cut;
      inside = omega arith;
      all = λ e. last_part at (length ready) (c.args.workers - c.loop-worker.worker) 0 inside (omega arith);
      len = omega arith;
      crew = subst (All (IsUnworked c.args.countdown.now)) (sym pushed.items)
          (All-push (IsUnworked c.args.countdown.now) c.loop-worker.crew.items worker inv.crew
          (makes_new c.args.countdown.now worker c.split-lent.ensures.of_new (c.split-lent.ensures.made ∙ ap lent_deeds items)
          (part_distinct c.args.countdown.now.agenda.pieces ready c.in_ok-pieces.pieces.items _ at c.requires.differ (sym items ∙ cut))));
    }
