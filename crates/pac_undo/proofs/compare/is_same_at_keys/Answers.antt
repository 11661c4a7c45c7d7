-- One more key, or the first at which they differ.
use Rattle.std.proofs.Common.{◌≡◌, arith}
use Rattle.std.specs.FinMap.{get}
use Rattle.pac_value.specs.declared.values.Key.{Key}
use Rattle.pac_tables.specs.Written.{written}
use Rattle.pac_undo.proofs.SameLemmas.{holds-here, holds-more}
use Rattle.pac_undo.proofs.compare.is_same_at_keys.Goals as goal

pub returns-then-not-is_same_at : goal.returns-then-not-is_same_at
returns-then-not-is_same_at g c = (
  λ h. absurd cc,
  λ all.
      let P : Key → Type 0 = λ key. get (g.R.Rows.held c.args.other.now) (c.args.table, key) ≡ get (written (g.R.Rows.held c.args.rows.now) c.args.before.now) (c.args.table, key) in
      let is = c.is_same_at.ensures.1 (holds-here (λ e. e.0.now) P c.args.listed.now c.loop-key.key-index c.loop-key-item.result (omega arith) c.loop-key-item.is all) in
      absurd cc,
)

pub loop-key-preserved : goal.loop-key-preserved
loop-key-preserved g c =
    let P : Key → Type 0 = λ key. get (g.R.Rows.held c.args.other.now) (c.args.table, key) ≡ get (written (g.R.Rows.held c.args.rows.now) c.args.before.now) (c.args.table, key) in
    holds-more (λ e. e.0.now) P c.args.listed.now c.loop-key.key-index c.loop-key-item.result (omega arith) c.loop-key-item.is c.loop-key.invariant (c.is_same_at.ensures.0 c.if-not-is_same_at.false)
