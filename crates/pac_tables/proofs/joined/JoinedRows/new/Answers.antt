-- Tables with no rows have none together.
use Rattle.std.proofs.Common.{◌+◌, ◌++◌, [], ◌∷◌, map, length, ap, ◌∙◌}
use Rattle.std.proofs.lemmas.List.{length_push, map-append}
use Rattle.pac_tables.specs.Joined.{OneTable, joined_tables}
use Rattle.pac_tables.proofs.JoinedLemmas.{joined_tables-none, joined_tables-push}
use Rattle.pac_tables.proofs.joined.JoinedRows.new.Goals as goal

pub loop-init : goal.loop-init
loop-init g c = (ap length c.in_ok-all.ensures.items, ap (λ ts. joined_tables (map g.T.TableRows.rows ts)) c.in_ok-all.ensures.items ∙ joined_tables-none)

pub loop-preserved : goal.loop-preserved
loop-preserved g c =
    let rows = map g.T.TableRows.rows c.loop.all.items in
    let pushed = ap (map g.T.TableRows.rows) c.in_ok-push.ensures.items ∙ map-append g.T.TableRows.rows c.loop.all.items (c.new.result ∷ []) ∙ ap (λ (m : OneTable). rows ++ m ∷ []) c.new.ensures in
    (ap length c.in_ok-push.ensures.items ∙ length_push c.loop.all.items c.new.result ∙ ap (λ n. n + 1) c.loop.invariant.0, ap joined_tables pushed ∙ joined_tables-push rows ∙ c.loop.invariant.1)
