-- One record more is made, or none where it finds no memory.
use Rattle.std.proofs.Common.{◌≡◌, ◌<◌, ◌+◌, List, [], ◌∷◌, map, drop, refl, sym, ap, ◌∙◌, subst, arith}
use Rattle.std.proofs.lemmas.List.{drop_more, drop_all}
use Rattle.pac_ops.specs.declared.transaction.Change.{Change}
use Rattle.pac_ops.specs.Effects.{numbered_from, record_op}
use Rattle.pac_ops.specs.Notes.{first_note, least}
use Rattle.pac_ops.proofs.StateLemmas.{least_none}
use Rattle.pac_piece.specs.Frames.{after_ops}
use Rattle.pac_piece.specs.InPlace.{state_here}
use Rattle.pac_piece.specs.Sources.{HaveTables}
use Rattle.pac_piece.proofs.HereLemmas.{keeps_more, keeps_none, recorded_here}
use Rattle.pac_piece.proofs.MeaningLemmas.{records_silent}
use Rattle.pac_piece.proofs.run_here.make_changes.Goals as goal

pub loop-change-init : goal.loop-change-init
loop-change-init g c = record { keeps = keeps_none g.R.Rows.held g.R.Rows.tables c.args.ground.now c.requires.stands; there = c.requires.there; state = refl; note = refl; values = refl }

pub make_change-requires : goal.make_change-requires
unfolding numbered_from
make_change-requires g c =
    let records = c.args.records.now in
    let i = c.loop-change.change-index in
    let change = c.change-item.result in
    let rest : drop i records ≡ change ∷ drop (i + 1) records = drop_more records i change c.loop-change-test.true ∙ ap (λ (x : Change). x ∷ drop (i + 1) records) (sym c.change-item.is) in
    record {
      there = (subst (λ (cs : List Change). HaveTables (λ t. t < g.R.Rows.tables c.loop-change.ground.rows) (numbered_from i (map record_op cs))) rest c.loop-change.invariant.there).0;
      stands = c.loop-change.invariant.keeps.stands;
    }

pub loop-change-preserved : goal.loop-change-preserved
unfolding numbered_from
loop-change-preserved g c =
    let held = g.R.Rows.held in
    let tables = g.R.Rows.tables in
    let records = c.args.records.now in
    let i = c.loop-change.change-index in
    let change = c.change-item.result in
    let rest : drop i records ≡ change ∷ drop (i + 1) records = drop_more records i change c.loop-change-test.true ∙ ap (λ (x : Change). x ∷ drop (i + 1) records) (sym c.change-item.is) in
    let made = c.in_ok-make_change.ensures in
    let step = recorded_here held 0 i change c.loop-change.ground c.make_change.new.ground made.ok made.values made.note in
    record {
      keeps = keeps_more held tables c.args.ground.now c.loop-change.ground c.make_change.new.ground c.loop-change.invariant.keeps made.keeps;
      there = subst (λ n. HaveTables (λ t. t < n) (numbered_from (i + 1) (map record_op (drop (i + 1) records)))) (sym made.keeps.count)
          (subst (λ (cs : List Change). HaveTables (λ t. t < tables c.loop-change.ground.rows) (numbered_from i (map record_op cs))) rest c.loop-change.invariant.there).1;
      state = ap (after_ops (numbered_from (i + 1) (map record_op (drop (i + 1) records)))) step.state
          ∙ sym (ap (λ (cs : List Change). after_ops (numbered_from i (map record_op cs)) (state_here held c.loop-change.ground)) rest)
          ∙ c.loop-change.invariant.state;
      note = made.note ∙ c.loop-change.invariant.note;
      values = made.values ∙ c.loop-change.invariant.values;
    }

pub returns-clause-ok : goal.returns-clause-ok
unfolding numbered_from
returns-clause-ok g c = λ txn.
    let held = g.R.Rows.held in
    let records = c.args.records.now in
    let i = c.loop-change.change-index in
    let old = c.args.ground.now in
    let none : drop i records ≡ [] = drop_all i records (omega arith) in
    record {
      state = sym (ap (λ (cs : List Change). after_ops (numbered_from i (map record_op cs)) (state_here held c.loop-change.ground)) none) ∙ c.loop-change.invariant.state;
      note = c.loop-change.invariant.note ∙ sym (least_none old.frame.note) ∙ sym (ap (λ ns. least old.frame.note (first_note ns)) (records_silent txn 0 records (state_here held old)));
    }
