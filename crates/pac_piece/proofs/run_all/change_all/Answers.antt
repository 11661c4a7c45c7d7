-- One record more is executed.
use Rattle.std.proofs.Common.{◌≡◌, ◌<◌, ◌+◌, List, [], ◌∷◌, length, map, drop, sym, ap, ◌∙◌, subst, arith}
use Rattle.std.specs.FinMap.{empty}
use Rattle.std.proofs.lemmas.List.{drop_more, drop_all}
use Rattle.pac_ops.specs.declared.transaction.Change.{Change}
use Rattle.pac_ops.specs.Effects.{numbered_from, record_op}
use Rattle.pac_piece.specs.Frames.{RunsOn, state_seen}
use Rattle.pac_piece.proofs.RunLemmas.{starts, goes_on, ends, record_steps}
use Rattle.pac_piece.proofs.run_all.change_all.Goals as goal

pub loop-change-init : goal.loop-change-init
loop-change-init g c = λ base txn. starts g.K.Outs.Adds base txn (numbered_from 0 (map record_op c.args.records.now)) c.args.frame.now c.requires

pub change_one-requires : goal.change_one-requires
change_one-requires g c = (c.loop-change.invariant empty 0).once

pub loop-change-preserved : goal.loop-change-preserved
unfolding numbered_from
loop-change-preserved g c = λ base txn.
    let records = c.args.records.now in
    let i = c.loop-change.change-index in
    let change = c.change-item.result in
    let inside : i < length records = c.loop-change-test.true in
    let rest : drop i records ≡ change ∷ drop (i + 1) records = drop_more records i change inside ∙ ap (λ (x : Change). x ∷ drop (i + 1) records) (sym c.change-item.is) in
    let on = subst (λ (cs : List Change). RunsOn g.K.Outs.Adds base txn (numbered_from 0 (map record_op records)) (state_seen base c.args.frame.now) c.args.frame.now.outs (numbered_from i (map record_op cs)) c.loop-change.frame) rest (c.loop-change.invariant base txn) in
    goes_on g.K.Outs.Adds base txn (numbered_from 0 (map record_op records)) (state_seen base c.args.frame.now) c.args.frame.now.outs (i, record_op change) (numbered_from (i + 1) (map record_op (drop (i + 1) records))) c.loop-change.frame c.change_one.new.frame on
    (record_steps g.K.Outs.Adds base txn i change c.loop-change.frame c.change_one.new.frame c.in_ok-change_one.ensures)

pub returns : goal.returns
unfolding numbered_from
returns g c = λ base txn.
    let records = c.args.records.now in
    let i = c.loop-change.change-index in
    let none : drop i records ≡ [] = drop_all i records (omega arith) in
    ends g.K.Outs.Adds base txn (numbered_from 0 (map record_op records)) (state_seen base c.args.frame.now) c.args.frame.now.outs c.loop-change.frame
    (subst (λ (cs : List Change). RunsOn g.K.Outs.Adds base txn (numbered_from 0 (map record_op records)) (state_seen base c.args.frame.now) c.args.frame.now.outs (numbered_from i (map record_op cs)) c.loop-change.frame) none (c.loop-change.invariant base txn))
