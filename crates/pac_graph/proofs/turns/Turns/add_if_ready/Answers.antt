-- A ready class waits at its rank.
use Rattle.std.proofs.Common.{◌≡◌, get_or, refl, subst, inl, inr, arith, ◌∙◌}
use Rattle.std.proofs.lemmas.Grind.{get_or_default_zero}
use Rattle.pac_graph.specs.Turns.{Waits}
use Rattle.pac_graph.proofs.turns.Turns.add_if_ready.Goals as goal

pub returns-in_ok-add-clause-only : goal.returns-in_ok-add-clause-only
returns-in_ok-add-clause-only c = let ranks = c.args.graph.now.ranks.items in
    let is : c.index.result.now ≡ get_or ranks c.args.class 0 = c.index.ensures ∙ get_or_default_zero ranks c.args.class c.index.result.now (omega (arith, c.requires.class, c.requires.ranks)) in
    λ r k w. elim ((c.in_ok-add.ensures r k).0 w) [
      | inl (er, ek) ↦ inr (er ∙ is, ek, c.is_ready.ensures.ready.0 c.if-is_ready.true)
      | inr (ne, old) ↦ inl old
    ]

pub returns-in_ok-add-clause-kept : goal.returns-in_ok-add-clause-kept
returns-in_ok-add-clause-kept c = let ranks = c.args.graph.now.ranks.items in
    let is : c.index.result.now ≡ get_or ranks c.args.class 0 = c.index.ensures ∙ get_or_default_zero ranks c.args.class c.index.result.now (omega (arith, c.requires.class, c.requires.ranks)) in
    λ r k ne w. (c.in_ok-add.ensures r k).1 (inr ((λ e. ne (e ∙ is)), w))

pub returns-in_ok-add-clause-added : goal.returns-in_ok-add-clause-added
returns-in_ok-add-clause-added c = let ranks = c.args.graph.now.ranks.items in
    let is : c.index.result.now ≡ get_or ranks c.args.class 0 = c.index.ensures ∙ get_or_default_zero ranks c.args.class c.index.result.now (omega (arith, c.requires.class, c.requires.ranks)) in
    λ _. subst (λ r. Waits c.add.new.self r c.args.class) is ((c.in_ok-add.ensures c.index.result.now c.args.class).1 (inl (refl, refl)))
