-- One transaction more.
use Rattle.std.proofs.Common.{◌+◌, [], ◌∷◌, ◌++◌, drop, map, Some, sym, ap, ◌∙◌}
use Rattle.std.specs.FinMap.{empty}
use Rattle.std.proofs.lemmas.List.{append-nil, append_assoc, drop_all, drop_more}
use Rattle.pac_value.specs.Expressions.{Values}
use Rattle.pac_ops.specs.Operations.{with_values}
use Rattle.pac_ops.specs.declared.transaction.Txn.{Txn}
use Rattle.pac_plan.specs.Worlds.{txn_args}
use Rattle.pac_core.proofs.loading.begun.Goals as goal

abbrev begins : Txn → Values
begins txn = with_values 0 (txn_args (Some txn)) empty

pub loop-txn-init : goal.loop-txn-init
loop-txn-init c = record { all = ap (λ l. l ++ map begins c.args.txns.now) c.in_ok-kept.ensures.items }

pub loop-txn-preserved : goal.loop-txn-preserved
loop-txn-preserved c =
    let txns = c.args.txns.now in
    let i = c.loop-txn.txn-index in
    let x = c.txn-item.result in
    let kept = c.loop-txn.kept.items in
    let rest = map begins (drop (i + 1) txns) in
    record {
      all =
          ap (λ l. l ++ rest) c.in_ok-push.ensures.items
          ∙ append_assoc kept (c.in_ok-first_values.field-0 ∷ []) rest
          ∙ ap (λ v. kept ++ (v ∷ rest)) (c.in_ok-first_values.ensures ∙ ap begins c.txn-item.is)
          ∙ ap (λ l. kept ++ map begins l) (sym (drop_more txns i x c.loop-txn-test.true))
          ∙ c.loop-txn.invariant.all;
    }

pub returns : goal.returns
returns c =
    let kept = c.loop-txn.kept.items in
    sym c.loop-txn.invariant.all ∙ ap (λ l. kept ++ map begins l) (drop_all c.loop-txn.txn-index c.args.txns.now c.loop-txn-test.false) ∙ append-nil kept
