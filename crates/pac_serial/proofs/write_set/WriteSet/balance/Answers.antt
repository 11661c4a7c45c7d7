-- One more change, and all changes.
use Rattle.std.proofs.Common.{take, get_or, sym, ap, ◌∙◌, arith}
use Rattle.std.proofs.lemmas.List.{take_more, take_all}
use Rattle.std.specs.FinMap as map
use Rattle.std.specs.FinMap.{entries-from_sorted}
use Rattle.pac_value.specs.State.{cell_cmp}
use Rattle.pac_serial.specs.WriteSets.{gains, loses, gained, lost}
use Rattle.pac_serial.proofs.BalanceLemmas.{gained-more, lost-more}
use Rattle.pac_serial.proofs.write_set.WriteSet.balance.Goals as goal

pub loop-change-preserved : goal.loop-change-preserved
loop-change-preserved g c =
    let all = c.deref-change-items.result.now in
    let at = c.loop-change.change-index in
    let next = take_more all at c.change-item.result (omega arith) in
    let more = ap (gained (g.R.Rows.held c.args.rows.now) c.args.table) next ∙ gained-more (g.R.Rows.held c.args.rows.now) c.args.table (take at all) (get_or all at c.change-item.result) in
    let less = ap (lost (g.R.Rows.held c.args.rows.now) c.args.table) next ∙ lost-more (g.R.Rows.held c.args.rows.now) c.args.table (take at all) (get_or all at c.change-item.result) in
    let gain = c.gain-gained.ensures.value ∙ ap (gains (g.R.Rows.held c.args.rows.now) c.args.table) c.change-item.is in
    let loss = c.loss-lost.ensures.value ∙ ap (loses (g.R.Rows.held c.args.rows.now) c.args.table) c.change-item.is in
    record {
      gained = omega (arith, more, gain, c.loop-change.invariant.gained);
      lost = omega (arith, less, loss, c.loop-change.invariant.lost);
      few_gained = omega (arith, c.gain-gained.ensures.few, c.loop-change.invariant.few_gained);
      few_lost = omega (arith, c.loss-lost.ensures.few, c.loop-change.invariant.few_lost);
    }

pub returns-clause-gained : goal.returns-clause-gained
returns-clause-gained g c =
    c.loop-change.invariant.gained
    ∙ ap (gained (g.R.Rows.held c.args.rows.now) c.args.table) (take_all c.loop-change.change-index c.deref-change-items.result.now c.loop-change-test.false ∙ c.deref-change-items.ensures.value
    ∙ sym (entries-from_sorted cell_cmp c.self.inside.changes.items c.self.invariant) ∙ ap map.entries c.self.view_is)

pub returns-clause-lost : goal.returns-clause-lost
returns-clause-lost g c =
    c.loop-change.invariant.lost
    ∙ ap (lost (g.R.Rows.held c.args.rows.now) c.args.table) (take_all c.loop-change.change-index c.deref-change-items.result.now c.loop-change-test.false ∙ c.deref-change-items.ensures.value
    ∙ sym (entries-from_sorted cell_cmp c.self.inside.changes.items c.self.invariant) ∙ ap map.entries c.self.view_is)
