-- Its parts are those of the analysis of one table.
use Rattle.std.proofs.Common.{rules, ◌≡◌, List, [], ◌∷◌, sym, ap, subst, ◌∙◌}
use Rattle.pac_value.specs.declared.values.Ty.{Ty}
use Rattle.pac_value.specs.declared.values.Ty.TheVariants.{Int}
use Rattle.pac_plan.specs.Analysis.{IsPlan}
use Rattle.pac_worker_tests.proofs.OneTable.{is_plan, one_table, types}
use Rattle.pac_worker_tests.proofs.executions.one_table.Goals as goal

pub new-requires-4 : goal.new-requires-4
new-requires-4 c =
    let programs : c.listed.result ≡ [] = search rules in
    let block_of : c.listed-2.result ≡ [] = search rules in
    let edges : c.listed-3.result ≡ [] = search rules in
    let columns : c.listed-columns.result ≡ Int ∷ [] = c.listed-columns.ensures ∙ c.in_ok-vec.ensures.items in
    let tables : c.listed-tables.result ≡ types ∷ [] = c.listed-tables.ensures ∙ c.in_ok-vec-2.ensures.items ∙ ap (λ (l : List Ty). (record { key = Int; columns = l }) ∷ []) columns in
    let homes : c.listed-homes.result ≡ 0 ∷ [] = c.listed-homes.ensures ∙ c.in_ok-vec-3.ensures.items in
    let all : record { programs = c.listed.result; tables = c.listed-tables.result; block_of = c.listed-2.result; homes = c.listed-homes.result; blocks = 1; edges = c.listed-3.result } ≡ one_table =
    λ k. record { programs = programs k; tables = tables k; block_of = block_of k; homes = homes k; blocks = 1; edges = edges k } in
    subst IsPlan (sym all) is_plan
