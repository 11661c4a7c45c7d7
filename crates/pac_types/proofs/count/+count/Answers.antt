-- A loop is counted as its turns and its block are.
use Rattle.std.proofs.Common.{◌≡◌, ◌*◌, ap, sym, ◌∙◌, List, ℕ, FitsSigned, w64, rules}
use Rattle.std.proofs.lemmas.Int.{to_z-of_z}
use Rattle.pac_types.specs.declared.statement.Stmt.{Stmt}
use Rattle.pac_types.specs.Unrolled.{turns}
use Rattle.pac_types.specs.Meaning.{count_step, operations}
use Rattle.pac_types.specs.OperationLimits.{told}
use Rattle.pac_types.proofs.StmtForms.{at-For}
use Rattle.pac_types.proofs.ToldLemmas.{told-product}
use Rattle.pac_types.proofs.count.+count.Goals as goal

pub count_one-returns-in-For : goal.count_one-returns-in-For
count_one-returns-in-For t c =
    let from = c.in-For.from in
    let to = c.in-For.to in
    let fits_from : FitsSigned w64 from = search rules in
    let fits_to : FitsSigned w64 to = search rules in
    let many : c.count_turns.result ≡ told (turns from to) = c.count_turns.ensures ∙ (λ i. told (turns (to_z-of_z w64 from fits_from i) (to_z-of_z w64 to fits_to i))) in
    let block : c.count_operations-in-For.result ≡ told (operations c.in-For.body) = c.count_operations-in-For.ensures ∙ ap (λ (ss : List Stmt). told (operations ss)) c.as_slice-in-For.ensures in
    c.product.ensures ∙ (λ i. told (many i * block i)) ∙ told-product (turns from to) (operations c.in-For.body)
    ∙ ap told (sym (at-For ℕ count_step c.args.stmt.now c.in-For.var from to c.in-For.body c.in-For.is))
