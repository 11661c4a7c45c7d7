-- Each entry is copied as it is.
use Rattle.std.proofs.Common.{ap, sym, ◌∙◌}
use Rattle.std.specs.FinMap as map
use Rattle.pac_value.specs.declared.values.Key.{Key}
use Rattle.pac_value.specs.State.{RowValues}
use Rattle.pac_tables.proofs.CopyLemmas.{preceding, preceding-none, preceding-last, preceding-all}
use Rattle.pac_tables.proofs.hashed.HashedTableExact.copy.Goals as goal

pub loop-key-init : goal.loop-key-init
loop-key-init c =
    ap (λ m. preceding c.iter-left.result m) c.new-copy.ensures
    ∙ ap (λ es. preceding es map.empty) c.iter-left.ensures.rest
    ∙ preceding-all c.self.inside.rows.entries
    ∙ c.self.view_is

pub loop-key-preserved : goal.loop-key-preserved
loop-key-preserved c =
    let e : Key × RowValues = (c.in-Some.key.now, c.in-Some.row.now) in
    ap (preceding c.next_back.new.self) (c.in_ok-put.ensures ∙ ap (λ (r : RowValues). map.insert c.loop-key.copy e.0 r) c.in_ok-copy.ensures)
    ∙ sym (preceding-last c.next_back.new.self e c.loop-key.copy)
    ∙ sym (ap (λ es. preceding es c.loop-key.copy) c.in-Some.ensures.steps)
    ∙ c.loop-key.invariant

pub returns : goal.returns
returns c =
    sym (preceding-none c.loop-key.copy)
    ∙ sym (ap (λ es. preceding es c.loop-key.copy) c.in_default.ensures.steps.0)
    ∙ c.loop-key.invariant
