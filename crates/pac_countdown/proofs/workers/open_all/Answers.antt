-- One piece more is opened.
use Rattle.std.proofs.Common.{◌≡◌, ◌∙◌, length, ap, true, false, arith}
use Rattle.pac_countdown.specs.Steps.{after_open}
use Rattle.pac_countdown.specs.declared.deeds.Deeds.{Deeds}
use Rattle.pac_countdown.proofs.Outs.{length_below, opened_on, distinct_on}
use Rattle.pac_countdown.proofs.workers.open_all.Goals as goal
use Rattle.pac_countdown.proofs.workers.open_all.Goals.{then-open_next+in_ok-push, else-open_next}

pub open_next-requires-clause-more : goal.open_next-requires-clause-more
open_next-requires-clause-more c =
    let n = c.loop-piece.piece in
    let len : length c.loop-piece.pass.deeds.opened ≡ n = ap (λ (v : Deeds). length v.opened) c.loop-piece.invariant.did ∙ length_below n in
    let all = c.requires.pieces in omega arith

pub loop-piece-preserved : goal.loop-piece-preserved
loop-piece-preserved c =
    let n = c.loop-piece.piece in
    let before = c.loop-piece.pass.deeds in
    let after = c.open_next.new.pass.deeds in
    let xs = c.loop-piece.ready.items in
    let inv = c.loop-piece.invariant in
    elim c.if-open_next.branch [
      | then-open_next+in_ok-push w ↦
          let items = ap (λ (v : _). v.items) w.ready-is ∙ w.in_ok-push.ensures.items in record {
            of = c.open_next.ensures.of.0;
            did = opened_on before after n xs c.if-open_next.ready.items true inv.did (c.open_next.ensures.did ∙ ap (after_open before (length before.opened)) w.if-open_next.true) items;
            ready = distinct_on n xs c.if-open_next.ready.items true inv.ready items;
          }
      | else-open_next w ↦
          let items = ap (λ (v : _). v.items) w.ready-is in record {
            of = c.open_next.ensures.of.0;
            did = opened_on before after n xs c.if-open_next.ready.items false inv.did (c.open_next.ensures.did ∙ ap (after_open before (length before.opened)) w.if-open_next.false) items;
            ready = distinct_on n xs c.if-open_next.ready.items false inv.ready items;
          }
    ]
