-- The search before its first visit, and between visits.
use Rattle.std.proofs.Common.{◌≡◌, ℕ, ◌*◌, ◌<◌, ◌≤◌, List, [], length, replicate, refl, sym, ap, ◌∙◌, inl, inr, arith}
use Rattle.std.proofs.lemmas.Bool.{cases_lt}
use Rattle.std.proofs.lemmas.List.{get_or-replicate, length-replicate}
use Rattle.std.proofs.Math.ListN.{get_or-eq_default}
use Rattle.pac_graph.specs.declared.search.Mark.{Mark}
use Rattle.pac_graph.specs.declared.search.Mark.TheVariants.{Fresh, Open, Done}
use Rattle.pac_graph.specs.Search.{mark_of, changes_left, IsSearch, IsSeenFrom, IsVisited}
use Rattle.pac_graph.proofs.MarkLemmas.{fresh_not_done, fresh_not_open, changes_fresh}

-- nothing is visited yet
pub begun : (edge : ℕ → ℕ → Type 0) (nodes : ℕ) (marks : List Mark) (stack : List ℕ) → nodes ≤ 4160 → marks ≡ replicate nodes Fresh → stack ≡ [] → IsSearch edge nodes marks stack 0
begun edge nodes marks stack few em es = record {
  few = few;
  size = ap length em ∙ length-replicate nodes Fresh;
  within = λ p lt. absurd (none p lt);
  opened = λ p lt. absurd (none p lt);
  on_stack = λ u p is. absurd (fresh_not_open (sym (fresh u) ∙ is));
  down = λ i j le lt. absurd (none j lt);
  below = λ u c is. absurd (fresh_not_done (sym (fresh u) ∙ is));
  falls = λ u v c is e. absurd (fresh_not_done (sym (fresh u) ∙ is));
  same = λ u v c is e. absurd (fresh_not_done (sym (fresh u) ∙ is));
  used = λ c lt. absurd (omega (arith, lt));
  room = (let e : length stack ≡ 0 = ap length es in omega (arith, all_changes, e));
}
  where
    none : (p : ℕ) → p < length stack → ⊥
    none p lt = let e : length stack ≡ 0 = ap length es in omega (arith, lt, e)

    fresh : (u : ℕ) → mark_of marks u ≡ Fresh
    fresh u = ap (λ ms. mark_of ms u) em ∙ elim (cases_lt u nodes) [
      | inl lt ↦ get_or-replicate nodes u Fresh Fresh lt
      | inr ge ↦ get_or-eq_default (replicate nodes Fresh) Fresh (let e : length (replicate nodes Fresh) ≡ nodes = length-replicate nodes Fresh in omega (arith, e, ge))
    ]

    all_changes : changes_left marks ≡ nodes * 2
    all_changes = ap changes_left em ∙ changes_fresh nodes

module _ (edge : ℕ → ℕ → Type 0) (nodes : ℕ) where
  no_open : (marks : List Mark) (stack : List ℕ) (count : ℕ) → IsSearch edge nodes marks stack count → length stack ≡ 0 → (u : ℕ) (m : Mark) → mark_of marks u ≡ m → (m ≡ Fresh → ⊥) → (c : ℕ) × (mark_of marks u ≡ Done c)
  no_open marks stack count s empty u Fresh is not_fresh = absurd (not_fresh refl)
  no_open marks stack count s empty u (Open p) is not_fresh = let r = s.on_stack u p is in absurd (omega (arith, r.0, empty))
  no_open marks stack count s empty u (Done c) is not_fresh = (c, is)

  -- a node that is not fresh is done, where nothing is on the stack
  pub is_done : (marks : List Mark) (stack : List ℕ) (count : ℕ) → IsSearch edge nodes marks stack count → length stack ≡ 0 → (u : ℕ) → (mark_of marks u ≡ Fresh → ⊥) → (c : ℕ) × (mark_of marks u ≡ Done c)
  is_done marks stack count s empty u not_fresh = no_open marks stack count s empty u (mark_of marks u) refl not_fresh

  -- a visit with nothing on the stack before leaves nothing on it
  pub emptied : (marks_before : List Mark) (stack_before : List ℕ) (marks : List Mark) (stack : List ℕ) (count node low : ℕ) → length stack_before ≡ 0 → IsVisited edge nodes marks_before stack_before marks stack count node low → (length stack ≡ 0) × ((c : ℕ) × (mark_of marks node ≡ Done c))
  emptied marks_before stack_before marks stack count node low empty v = (no_stack, is_done marks stack count v.search no_stack node (seen v.seen))
    where
      no_stack : length stack ≡ 0
      no_stack = elim (cases_lt 0 (length stack)) [
        | inl lt ↦ absurd (omega (arith, (v.back 0 (omega (arith, empty)) lt).0, empty))
        | inr ge ↦ omega (arith, ge)
      ]

      seen : IsSeenFrom marks low node → mark_of marks node ≡ Fresh → ⊥
      seen (inl (c, is)) e = cc
      seen (inr (p, is, ge)) e = cc
