-- The procedure's blocks are there, and among them the operation's.
use Rattle.std.proofs.Common.{◌≡◌, [], get_or, length, sym, ap, ◌∙◌, subst, arith}
use Rattle.std.proofs.lemmas.Option.{get_or_from_slice_get}
use Rattle.pac_plan.specs.Analysis.{IsPlan}
use Rattle.pac_plan.proofs.BlockLemmas.{row_there}
use Rattle.pac_plan.proofs.plan.Plan.block_of.Goals as goal

pub bounds-as_slice-from-2 : goal.bounds-as_slice-from-2
bounds-as_slice-from-2 c = let parts = c.args.self.now in
    let is : IsPlan parts = subst (λ p. IsPlan p) c.self.view_is c.self.invariant in
    let row = row_there parts is.analysis c.args.proc c.args.op c.requires in
    let now : c.as_slice.result.now ≡ parts.block_of = c.as_slice.ensures ∙ ap (λ p. p.block_of) c.self.view_is in
    let here : c.as_slice-2.result.now ≡ row.0 = c.as_slice-2.ensures ∙ (c.index-as_slice-from.is ∙ ap (λ xs. get_or xs c.from.result c.index-as_slice-from.result) now
    ∙ (ap (λ k. get_or parts.block_of k c.index-as_slice-from.result) c.from.ensures ∙ get_or_from_slice_get parts.block_of c.args.proc row.0 c.index-as_slice-from.result row.1)) in
    omega (arith, row.2, ap length here, c.from-2.ensures)

pub returns : goal.returns
returns c = let parts = c.args.self.now in
    let is : IsPlan parts = subst (λ p. IsPlan p) c.self.view_is c.self.invariant in
    let row = row_there parts is.analysis c.args.proc c.args.op c.requires in
    let now : c.as_slice.result.now ≡ parts.block_of = c.as_slice.ensures ∙ ap (λ p. p.block_of) c.self.view_is in
    let here : c.as_slice-2.result.now ≡ row.0 = c.as_slice-2.ensures ∙ (c.index-as_slice-from.is ∙ ap (λ xs. get_or xs c.from.result c.index-as_slice-from.result) now
    ∙ (ap (λ k. get_or parts.block_of k c.index-as_slice-from.result) c.from.ensures ∙ get_or_from_slice_get parts.block_of c.args.proc row.0 c.index-as_slice-from.result row.1)) in
    ap (λ xs. get_or xs c.from-2.result 0) here ∙ (ap (λ k. get_or row.0 k 0) c.from-2.ensures ∙ ap (λ xs. get_or xs c.args.op 0) (sym (get_or_from_slice_get parts.block_of c.args.proc row.0 [] row.1)))
