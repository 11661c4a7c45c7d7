-- A fresh node is visited, and the others are done.
use Rattle.std.proofs.Common.{◌≡◌, ℕ, ◌+◌, ◌<◌, List, length, arith, subst, inl, inr, ◌∙◌}
use Rattle.std.proofs.lemmas.Bool.{cases_lt}
use Rattle.std.proofs.lemmas.List.{get_or_default}
use Rattle.pac_graph.specs.declared.search.Mark.{Mark}
use Rattle.pac_graph.specs.declared.search.Mark.TheVariants.{Fresh, Done}
use Rattle.pac_graph.specs.Graph.{HasEdge}
use Rattle.pac_graph.specs.Search.{mark_of}
use Rattle.pac_graph.proofs.SearchLemmas.{is_done, emptied}
use Rattle.pac_graph.proofs.search.Search.run.Goals as goal
use Rattle.pac_graph.proofs.search.Search.run.Goals.{in-Fresh+in_ok-visit, in_default}

-- one node more is done
one_more : (marks : List Mark) (i : ℕ) → ((u : ℕ) → u < i → (c : ℕ) × (mark_of marks u ≡ Done c)) → ((c : ℕ) × (mark_of marks i ≡ Done c)) → (u : ℕ) → u < i + 1 → (c : ℕ) × (mark_of marks u ≡ Done c)
one_more marks i below here u lt = elim (cases_lt u i) [ inl old ↦ below u old | inr new ↦ (let same : i ≡ u = omega arith in subst (λ k. (c : ℕ) × (mark_of marks k ≡ Done c)) same here) ]

pub loop-node-preserved : goal.loop-node-preserved
loop-node-preserved c = let g = c.args.graph.now in
    let l = c.loop-node in
    let old = l.search in
    elim c.match-index.branch [
      | in-Fresh+in_ok-visit w ↦ (let v = w.in_ok-visit.ensures in
          let new = w.visit.new.self in
          let r = emptied (HasEdge g) g.nodes old.marks.items old.stack.items new.marks.items new.stack.items new.count l.node w.in_ok-visit.field-0 l.invariant.empty v in
          rw w.search-is (record { search = v.search; empty = r.0; done = one_more new.marks.items l.node (λ u lt. (let d = l.invariant.done u lt in (d.0, v.kept u d.0 d.1))) r.1 }))
      | in_default w ↦ (let in_marks : l.node < length old.marks.items = omega (arith, l.invariant.search.size, c.loop-node-test.true, c.nodes-node-end.ensures) in
          rw w.search-is (record { search = l.invariant.search; empty = l.invariant.empty; done = one_more old.marks.items l.node l.invariant.done (is_done (HasEdge g) g.nodes old.marks.items old.stack.items old.count l.invariant.search l.invariant.empty l.node (λ e. w.in_default.not-Fresh (c.index.ensures ∙ (get_or_default old.marks.items l.node c.index.result.now Fresh in_marks ∙ e)))) }))
    ]

pub returns : goal.returns
returns c = let l = c.loop-node in
    record { search = l.invariant.search; done = λ u lt. l.invariant.done u (omega (arith, lt, c.loop-node-test.false, c.nodes-node-end.ensures)) }
