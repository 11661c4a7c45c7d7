-- The transaction, and what is kept of it, stand at its number.
use Rattle.std.proofs.Common.{◌≡◌, ℕ, ◌-◌, Some, None, Ok, Err, Result, length, get_or, cond, not, refl, sym, ap, ◌∙◌, subst, arith}
use Rattle.std.specs.Prelude.{IfOk, slice_get, unwrap_or}
use Rattle.std.specs.FinMap.{empty, get}
use Rattle.std.proofs.lemmas.Option.{slice_get_read}
use Rattle.pac_base.specs.declared.no_memory.NoMemory.{NoMemory}
use Rattle.pac_base.proofs.TestLemmas.{and_both}
use Rattle.pac_value.specs.Expressions.{Values}
use Rattle.pac_ops.specs.declared.transaction.Txn.{Txn}
use Rattle.pac_ops.specs.Effects.{used_in}
use Rattle.pac_plan.specs.declared.access.Access.{Access}
use Rattle.pac_plan.specs.declared.parts.PlanParts.{PlanParts}
use Rattle.pac_plan.specs.Pieces.{InputsAre, access_of, part}
use Rattle.pac_plan.specs.Worlds.{txn_block, txn_code}
use Rattle.pac_plan.specs.Codes.{HasTxnInputs, piece_ops}
use Rattle.pac_core.specs.Inputs.{FindsInputs}
use Rattle.pac_core.specs.Moves.{access_over}
use Rattle.pac_core.specs.declared.loaded.LoadedBatch.{LoadedBatch}
use Rattle.pac_core.proofs.AccessInputs.{access_same}
use Rattle.pac_core.proofs.opening.access_of.Goals as goal

found_inputs : (parts : PlanParts) (block : ℕ) (txn : Txn) (kept env : Values) → FindsInputs parts block txn kept env → InputsAre (piece_ops parts block txn) kept env
found_inputs parts block txn kept env finds x u d = finds x ∙ ap (λ b. cond b (get kept x) None) (and_both (used_in (piece_ops parts block txn) x) _ u (ap not d))

over_is : (parts : PlanParts) (loaded : LoadedBatch) (block t : ℕ) (txn : Txn) (kept env : Values) → slice_get loaded.batch.txns (t - loaded.batch.first) ≡ Some txn → slice_get loaded.kept.items (t - loaded.batch.first) ≡ Some kept
    → FindsInputs parts block txn kept env → access_of (piece_ops parts block txn) env ≡ access_over parts loaded block t
over_is parts loaded block t txn kept env at_txn at_kept finds =
    access_same (piece_ops parts block txn) kept env (found_inputs parts block txn kept env finds)
    ∙ sym (ap (λ o. access_of (part (txn_block parts o) block (txn_code parts o)) (unwrap_or (slice_get loaded.kept.items (t - loaded.batch.first)) empty)) at_txn
    ∙ ap (λ o. access_of (piece_ops parts block txn) (unwrap_or o empty)) at_kept)

ok_over : (r : Result Access NoMemory) (x y : Access) → x ≡ y → IfOk r (λ a. a ≡ x) → IfOk r (λ a. a ≡ y)
ok_over (Ok a) x y same e = e ∙ same
ok_over (Err f) x y same e = tt

pub access-requires-clause-inputs : goal.access-requires-clause-inputs
access-requires-clause-inputs c =
    let i = c.args.txn - c.args.loaded.now.batch.first in
    let least = c.requires.first in let last = c.requires.last in let all = c.requires.inputs.all in
    let at_txn = slice_get_read c.args.loaded.now.batch.txns (length c.args.loaded.now.batch.txns) i c.index-items-i.result refl (omega (arith, least, last)) (c.index-items-i.is ∙ ap (λ xs. get_or xs i c.index-items-i.result) c.items.ensures.value) in
    let at_kept = slice_get_read c.args.loaded.now.kept.items (length c.args.loaded.now.kept.items) i c.index.result.now refl (omega (arith, least, last, all)) c.index.ensures in
    subst (λ (parts : PlanParts). HasTxnInputs parts c.args.block c.index-items-i.result c.find.new.env) (sym c.get.ensures)
    (c.requires.inputs.each i c.index-items-i.result c.index.result.now c.find.new.env at_txn at_kept c.in_ok-find.ensures)

pub returns : goal.returns
returns c =
    let i = c.args.txn - c.args.loaded.now.batch.first in
    let least = c.requires.first in let last = c.requires.last in let all = c.requires.inputs.all in
    let at_txn = slice_get_read c.args.loaded.now.batch.txns (length c.args.loaded.now.batch.txns) i c.index-items-i.result refl (omega (arith, least, last)) (c.index-items-i.is ∙ ap (λ xs. get_or xs i c.index-items-i.result) c.items.ensures.value) in
    let at_kept = slice_get_read c.args.loaded.now.kept.items (length c.args.loaded.now.kept.items) i c.index.result.now refl (omega (arith, least, last, all)) c.index.ensures in
    ok_over c.access.result _ _
    (ap (λ (parts : PlanParts). access_of (piece_ops parts c.args.block c.index-items-i.result) c.find.new.env) c.get.ensures
    ∙ over_is c.args.plan.now c.args.loaded.now c.args.block c.args.txn c.index-items-i.result c.index.result.now c.find.new.env at_txn at_kept c.in_ok-find.ensures)
    c.access.ensures
