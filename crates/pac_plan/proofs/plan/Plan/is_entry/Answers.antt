-- The edge that was found leads to the block.
use Rattle.std.proofs.Common.{◌≡◌, ◌<◌, ℕ, List, length, get_or, ap, ◌∙◌, subst}
use Rattle.std.specs.Prelude.{Contains}
use Rattle.std.proofs.lemmas.List.{get_or_default}
use Rattle.pac_plan.proofs.plan.Plan.is_entry.Goals as goal

edge_there : (edges : List (ℕ × ℕ)) (i block : ℕ) → i < length edges → (get_or edges i (0, 0)).1 ≡ block → Contains edges ((get_or edges i (0, 0)).0, block)
edge_there edges i block within e =
    let edge = get_or edges i (0, 0) in
    (i, within, get_or_default edges i (edge.0, block) (0, 0) within ∙ ap (λ b. (edge.0, b)) e)

pub returns-then-edge-block : goal.returns-then-edge-block
returns-then-edge-block c =
    let edges = c.as_slice-edge-items.result.now in
    let found = edge_there edges c.loop-edge.edge-index c.args.block c.loop-edge-test.true c.if-edge-block.true in
    let is = c.as_slice-edge-items.ensures ∙ ap (λ parts. parts.edges) c.self.view_is in
    let there = subst (λ (es : List (ℕ × ℕ)). Contains es ((get_or edges c.loop-edge.edge-index (0, 0)).0, c.args.block)) is found in (
      (λ t. cc),
      (λ none. absurd (none _ there)),
    )
