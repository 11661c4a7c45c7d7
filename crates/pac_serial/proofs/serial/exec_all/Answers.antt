-- One more transaction is done.
use Rattle.std.proofs.Common.{◌≡◌, ◌∷◌, ◌+◌, ◌<◌, length, drop, List, ap, sym, subst, ◌∙◌}
use Rattle.std.specs.Prelude.{slice_index_or}
use Rattle.std.specs.List.{AllByRecursion}
use Rattle.std.proofs.lemmas.List.{drop_more}
use Rattle.pac_ops.specs.declared.transaction.Txn.{Txn}
use Rattle.pac_types.specs.Execution.{serial}
use Rattle.pac_types.specs.Fits.{TxnFits}
use Rattle.pac_serial.proofs.SerialLemmas.{unlimited, goes-on, done-more}
use Rattle.pac_serial.proofs.serial.exec_all.Goals as goal

pub loop-i-preserved : goal.loop-i-preserved
loop-i-preserved g c =
    let i = c.loop-i.i in
    let cat = c.args.cat.now in
    let first = c.args.batch.now.first in
    let txns = c.args.batch.now.txns in
    let txn = c.txn-item.result in
    let before = g.R.Rows.held c.loop-i.rows in
    let after = g.R.Rows.held c.exec_txn.new.rows in
    let inside : i < length txns = subst (λ (xs : List Txn). i < length xs) c.items-txn-items.ensures.value c.loop-i-test.true in
    let is : txn ≡ slice_index_or txns i txn = c.txn-item.is ∙ ap (λ (xs : List Txn). slice_index_or xs i txn) c.items-txn-items.ensures.value in
    let rest : drop i txns ≡ txn ∷ drop (i + 1) txns = drop_more txns i txn inside ∙ ap (λ x. x ∷ drop (i + 1) txns) (sym is) in
    let fit : AllByRecursion (TxnFits cat) (txn ∷ drop (i + 1) txns) = subst (λ (xs : List Txn). AllByRecursion (TxnFits cat) xs) rest c.loop-i.invariant.fit in
    let means = unlimited (g.R.Rows.tables c.loop-i.rows) _ after c.in-Ok.ensures.does in
    record {
      fit = fit.1;
      rows = c.in-Ok.ensures.fits;
      tables = c.in-Ok.ensures.tables ∙ c.loop-i.invariant.tables;
      so_far = goes-on cat.procs first i txn (drop (i + 1) txns) before after means ∙ sym (ap (λ xs. serial cat.procs (first + i) xs before) rest) ∙ c.loop-i.invariant.so_far;
      done = done-more cat.procs first txns i txn (g.R.Rows.held c.args.rows.now) before after inside is c.loop-i.invariant.done means;
    }
