-- One more transaction is executed and listed; or one aborts, and lists nothing.
use Rattle.std.proofs.Common.{◌≡◌, [], ◌∷◌, ◌++◌, ◌+◌, ◌<◌, ◌≤◌, length, map, drop, List, Err, refl, ap, sym, subst, ◌∙◌, arith}
use Rattle.std.specs.Prelude.{slice_index_or}
use Rattle.std.specs.List.{All, AllByRecursion}
use Rattle.std.proofs.lemmas.List.{drop_more}
use Rattle.std.proofs.lemmas.List.Elements.{All-push}
use Rattle.pac_ops.specs.declared.transaction.Change.{Change}
use Rattle.pac_ops.specs.declared.transaction.Txn.{Txn}
use Rattle.pac_ops.specs.Shapes.{RecordsFit}
use Rattle.pac_types.specs.Execution.{serial}
use Rattle.pac_types.specs.Fits.{shape, TxnFits}
use Rattle.pac_serial.proofs.SerialLemmas.{unlimited, goes-on, done-more}
use Rattle.pac_tuple.specs.declared.images.TheConstants.{MAX_IMAGES}
use Rattle.pac_tuple.specs.AfterImages.{all_after_images}
use Rattle.pac_tuple.specs.Laying.{tables_laid, AreLaidWithin}
use Rattle.pac_tuple.proofs.RecordLemmas.{images_ascend, lists-more, lists-end, laid-more, lists-within, aborts, abort-stops}
use Rattle.pac_tuple.proofs.recording.images_of.Goals as goal

pub loop-i-preserved : goal.loop-i-preserved
loop-i-preserved g c =
    let i = c.loop-i.i in
    let cat = c.args.cat.now in
    let first = c.args.batch.now.first in
    let txns = c.args.batch.now.txns in
    let txn = c.index-txns-i.result in
    let old = g.R.Rows.held c.args.rows.now in
    let before = g.R.Rows.held c.loop-i.rows in
    let after = g.R.Rows.held c.exec_listed.new.rows in
    let lists = c.loop-i.images.items in
    let list = c.in-Ok.list.items in
    let inside : i < length txns = subst (λ (xs : List Txn). i < length xs) c.items-txns.ensures.value c.loop-i-test.true in
    let is : txn ≡ slice_index_or txns i txn = c.index-txns-i.is ∙ ap (λ (xs : List Txn). slice_index_or xs i txn) c.items-txns.ensures.value in
    let rest : drop i txns ≡ txn ∷ drop (i + 1) txns = drop_more txns i txn inside ∙ ap (λ x. x ∷ drop (i + 1) txns) (sym is) in
    let fit : AllByRecursion (TxnFits cat) (txn ∷ drop (i + 1) txns) = subst (λ (xs : List Txn). AllByRecursion (TxnFits cat) xs) rest c.loop-i.invariant.fit in
    let means = unlimited (g.R.Rows.tables c.loop-i.rows) _ after c.in-Ok.ensures.does in
    let pushed : c.push_reserved.new.self.items ≡ lists ++ list ∷ [] = c.push_reserved.ensures.items ∙ ap (λ (x : List Change). lists ++ x ∷ []) c.of.ensures in
    record {
      fit = fit.1;
      rows = c.in-Ok.ensures.fits;
      tables = c.in-Ok.ensures.tables ∙ c.loop-i.invariant.tables;
      so_far = goes-on cat.procs first i txn (drop (i + 1) txns) before after means ∙ sym (ap (λ xs. serial cat.procs (first + i) xs before) rest) ∙ c.loop-i.invariant.so_far;
      done = done-more cat.procs first txns i txn old before after inside is c.loop-i.invariant.done means;
      len = omega (arith, c.push_reserved.ensures.len, c.loop-i.invariant.len);
      room = omega (arith, c.push_reserved.ensures.capacity, c.loop-i.invariant.room);
      images = ap (λ (ls : List (List Change)). ls ++ all_after_images cat.procs (drop (i + 1) txns) after) pushed
          ∙ lists-more cat.procs txn (drop (i + 1) txns) before lists after list means c.in-Ok.ensures.listed
          ∙ sym (ap (λ xs. lists ++ all_after_images cat.procs xs before) rest) ∙ c.loop-i.invariant.images;
      laid = ap (tables_laid old) pushed ∙ laid-more cat.procs txn old before after lists list c.loop-i.invariant.laid means c.in-Ok.ensures.listed;
      records = subst (λ (ls : List (List Change)). All (RecordsFit (map shape cat.tables)) ls) (sym pushed) (All-push (RecordsFit (map shape cat.tables)) lists list c.loop-i.invariant.records c.in-Ok.ensures.records);
    }

pub of-requires : goal.of-requires
of-requires g c =
    let few : length c.in-Ok.list.items ≤ MAX_IMAGES = omega (arith, c.in-Ok.ensures.few) in (
      few,
      images_ascend c.args.cat.now.procs c.index-txns-i.result (g.R.Rows.held c.loop-i.rows) (g.R.Rows.held c.exec_listed.new.rows) c.in-Ok.list.items c.in-Ok.ensures.listed,
    )

pub returns-in-Err-Abort-clause-does : goal.returns-in-Err-Abort-clause-does
returns-in-Err-Abort-clause-does g c =
    let i = c.loop-i.i in
    let cat = c.args.cat.now in
    let txns = c.args.batch.now.txns in
    let txn = c.index-txns-i.result in
    let before = g.R.Rows.held c.loop-i.rows in
    let lists = c.loop-i.images.items in
    let inside : i < length txns = subst (λ (xs : List Txn). i < length xs) c.items-txns.ensures.value c.loop-i-test.true in
    let is : txn ≡ slice_index_or txns i txn = c.index-txns-i.is ∙ ap (λ (xs : List Txn). slice_index_or xs i txn) c.items-txns.ensures.value in
    let rest : drop i txns ≡ txn ∷ drop (i + 1) txns = drop_more txns i txn inside ∙ ap (λ x. x ∷ drop (i + 1) txns) (sym is) in
    let ends = aborts (Unit {0}) (g.R.Rows.tables c.loop-i.rows) _ before (g.R.Rows.held c.exec_listed.new.rows) c.in-Err-Abort.field-0 c.in-Err-Abort.op c.in-Err-Abort.reason c.in-Err-Abort.field-0-is c.in-Err-Abort.ensures.does in
    let stops = abort-stops cat.procs c.args.batch.now.first i txns txn (drop (i + 1) txns) (g.R.Rows.held c.args.rows.now) before (g.R.Rows.held c.exec_listed.new.rows) c.in-Err-Abort.op c.in-Err-Abort.reason (record { txn = c.args.batch.now.first + i; op = c.in-Err-Abort.op; reason = c.in-Err-Abort.reason }) refl refl refl rest ends.0 ends.1 c.loop-i.invariant.so_far c.loop-i.invariant.done in
    (stops.0 ∙ (λ k. Err (record { txn = c.args.batch.now.first + i; op = sym c.in-Err-Abort.op-is k; reason = sym c.in-Err-Abort.reason-is k })), stops.1)

pub returns-in-Err-Abort-clause-images : goal.returns-in-Err-Abort-clause-images
returns-in-Err-Abort-clause-images g c =
    let i = c.loop-i.i in
    let cat = c.args.cat.now in
    let txns = c.args.batch.now.txns in
    let txn = c.index-txns-i.result in
    let before = g.R.Rows.held c.loop-i.rows in
    let lists = c.loop-i.images.items in
    let inside : i < length txns = subst (λ (xs : List Txn). i < length xs) c.items-txns.ensures.value c.loop-i-test.true in
    let is : txn ≡ slice_index_or txns i txn = c.index-txns-i.is ∙ ap (λ (xs : List Txn). slice_index_or xs i txn) c.items-txns.ensures.value in
    let rest : drop i txns ≡ txn ∷ drop (i + 1) txns = drop_more txns i txn inside ∙ ap (λ x. x ∷ drop (i + 1) txns) (sym is) in
    let ends = aborts (Unit {0}) (g.R.Rows.tables c.loop-i.rows) _ before (g.R.Rows.held c.exec_listed.new.rows) c.in-Err-Abort.field-0 c.in-Err-Abort.op c.in-Err-Abort.reason c.in-Err-Abort.field-0-is c.in-Err-Abort.ensures.does in
    c.listed-images.ensures ∙ lists-end cat.procs txn (drop (i + 1) txns) before lists (c.in-Err-Abort.op, c.in-Err-Abort.reason) ends.0
    ∙ sym (ap (λ xs. lists ++ all_after_images cat.procs xs before) rest) ∙ c.loop-i.invariant.images

pub returns-in-Err-Abort-clause-within : goal.returns-in-Err-Abort-clause-within
returns-in-Err-Abort-clause-within g c =
    let n = g.R.Rows.tables c.exec_listed.new.rows in
    subst (λ (ls : List (List Change)). AreLaidWithin n ls) (sym c.listed-images.ensures) (lists-within c.args.cat.now.tables n c.loop-i.images.items c.exec_listed.ensures.fits.count c.loop-i.invariant.records)

pub returns-clause-within : goal.returns-clause-within
returns-clause-within g c =
    let n = g.R.Rows.tables c.loop-i.rows in
    subst (λ (ls : List (List Change)). AreLaidWithin n ls) (sym c.listed.ensures) (lists-within c.args.cat.now.tables n c.loop-i.images.items c.loop-i.invariant.rows.count c.loop-i.invariant.records)
