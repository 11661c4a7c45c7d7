-- The steps of a visit: a node is put on the stack, and its edges are looked at one after another.
use Rattle.std.proofs.Common.{◌≡◌, ℕ, ◌+◌, ◌<◌, ◌≤◌, List, [], ◌∷◌, ◌++◌, length, get_or, set, min, sym, ap, ◌∙◌, subst, inl, inr, arith, length-append}
use Rattle.std.proofs.lemmas.Bool.{cases_eq, cases_lt}
use Rattle.std.proofs.lemmas.List.{get_or_append_left, length-set}
use Rattle.std.proofs.Math.Seq.{get_or-append_seam}
use Rattle.pac_graph.specs.declared.search.Mark.{Mark}
use Rattle.pac_graph.specs.declared.search.Mark.TheVariants.{Fresh, Open, Done}
use Rattle.pac_graph.specs.Graph.{Reach, Here}
use Rattle.pac_graph.specs.Search.{mark_of, changes_of, changes_left, IsSearch, IsSeenFrom, IsVisited}
use Rattle.pac_graph.proofs.GraphLemmas.{along, one_edge}
use Rattle.pac_graph.proofs.MarkLemmas.{open_not_done, same_offset, mark_set, mark_kept, changes_set}

-- a visit of `node`, whose edges to nodes below `at` are dealt with
pub record IsVisit (edge : ℕ → ℕ → Type 0) (nodes : ℕ) (marks_before : List Mark) (stack_before : List ℕ) (marks : List Mark) (stack : List ℕ) (count : ℕ) (node low at : ℕ) : Type 0 where
  pub search : IsSearch edge nodes marks stack count
  pub longer : length stack_before < length stack
  pub here : get_or stack (length stack_before) 0 ≡ node
  pub prefix : (p : ℕ) → p < length stack_before → get_or stack p 0 ≡ get_or stack_before p 0
  pub kept : (u c : ℕ) → mark_of marks_before u ≡ Done c → mark_of marks u ≡ Done c
  pub in_low : low ≤ length stack_before
  pub reached : Reach edge node (get_or stack low 0)
  pub back : (p : ℕ) → length stack_before ≤ p → p < length stack → Reach edge (get_or stack p 0) node
  pub closed : (p v : ℕ) → length stack_before < p → p < length stack → edge (get_or stack p 0) v → IsSeenFrom marks low v
  pub row : (v : ℕ) → v < at → edge node v → IsSeenFrom marks low v
  pub less : changes_left marks < changes_left marks_before

pub weaker : (marks : List Mark) (low lower u : ℕ) → lower ≤ low → IsSeenFrom marks low u → IsSeenFrom marks lower u
weaker marks low lower u le (inl d) = inl d
weaker marks low lower u le (inr (p, is, ge)) = inr (p, is, omega arith)

module _ (edge : ℕ → ℕ → Type 0) (nodes : ℕ) where
  -- the node is put on the stack
  pub entered : (marks : List Mark) (stack : List ℕ) (count node : ℕ) → IsSearch edge nodes marks stack count → mark_of marks node ≡ Fresh → node < nodes → ((p : ℕ) → p < length stack → Reach edge (get_or stack p 0) node) → IsVisit edge nodes marks stack (set marks node (Open (length stack))) (stack ++ node ∷ []) count node (length stack) 0
  entered marks stack count node s fresh in_nodes linked = record {
    search = record {
      few = s.few;
      size = length-set marks node (Open (length stack)) ∙ s.size;
      within = λ p lt. elim (cases_lt p n) [
        | inl old ↦ subst (λ x. x < nodes) (sym (below p old)) (s.within p old)
        | inr new ↦ subst (λ x. x < nodes) (sym (top p lt new)) in_nodes
      ];
      opened = λ p lt. elim (cases_lt p n) [
        | inl old ↦ subst (λ x. mark_of after x ≡ Open p) (sym (below p old)) (stays (get_or stack p 0) (Open p) (s.opened p old) (λ e. cc))
        | inr new ↦ subst (λ x. mark_of after x ≡ Open p) (sym (top p lt new)) (this ∙ ap Open (omega (arith, size, lt)))
      ];
      on_stack = λ u p e. elim (cases_eq u node) [
        | inl same ↦ (let q : n ≡ p = same_offset n p (sym this ∙ (ap (mark_of after) (sym same) ∙ e)) in (omega (arith, size), subst (λ k. get_or stack' k 0 ≡ u) q (last ∙ sym same)))
        | inr ne ↦ (let r = s.on_stack u p (sym (mark_kept marks node u (Open n) ne) ∙ e) in (omega (arith, size, r.0), below p r.0 ∙ r.1))
      ];
      down = λ i j le lt. elim (cases_lt j n) [
        | inl old ↦ (let old_i : i < n = omega arith in subst (λ x. Reach edge x (get_or stack' j 0)) (sym (below i old_i)) (subst (λ x. Reach edge (get_or stack i 0) x) (sym (below j old)) (s.down i j le old)))
        | inr new ↦ subst (λ x. Reach edge (get_or stack' i 0) x) (sym (top j lt new)) (to_node i (omega (arith, size)))
      ];
      below = λ u c e. s.below u c (was u c e);
      falls = λ u v c e uv. (let r = s.falls u v c (was u c e) uv in (r.0, stays v (Done r.0) r.1 (λ x. cc), r.2));
      same = λ u v c eu ev. s.same u v c (was u c eu) (was v c ev);
      used = λ c lt. (let r = s.used c lt in (r.0, stays r.0 (Done c) r.1 (λ x. cc)));
      room = omega (arith, s.room, lighter, size);
    };
    longer = omega (arith, size);
    here = last;
    prefix = below;
    kept = λ u c e. stays u (Done c) e (λ x. cc);
    in_low = omega arith;
    reached = subst (λ x. Reach edge node x) (sym last) (Here node);
    back = λ p ge lt. to_node p lt;
    closed = λ p v gt lt. absurd (omega (arith, size, gt, lt));
    row = λ v lt. absurd (omega (arith, lt));
    less = omega (arith, lighter);
  }
    where
      n : ℕ
      n = length stack

      after : List Mark
      after = set marks node (Open n)

      stack' : List ℕ
      stack' = stack ++ node ∷ []

      size : length stack' ≡ n + 1
      size = omega (arith, length-append stack (node ∷ []))

      below : (p : ℕ) → p < n → get_or stack' p 0 ≡ get_or stack p 0
      below p lt = get_or_append_left stack (node ∷ []) 0 p lt

      last : get_or stack' n 0 ≡ node
      last = get_or-append_seam stack node [] 0

      top : (p : ℕ) → p < length stack' → n ≤ p → get_or stack' p 0 ≡ node
      top p lt ge = let e : n ≡ p = omega (arith, size) in subst (λ k. get_or stack' k 0 ≡ node) e last

      in_marks : node < length marks
      in_marks = omega (arith, s.size, in_nodes)

      this : mark_of after node ≡ Open n
      this = mark_set marks node (Open n) in_marks

      stays : (u : ℕ) (m : Mark) → mark_of marks u ≡ m → (m ≡ Fresh → ⊥) → mark_of after u ≡ m
      stays u m e not_fresh = elim (cases_eq u node) [
        | inl same ↦ absurd (not_fresh (sym e ∙ (ap (mark_of marks) same ∙ fresh)))
        | inr ne ↦ mark_kept marks node u (Open n) ne ∙ e
      ]

      was : (u c : ℕ) → mark_of after u ≡ Done c → mark_of marks u ≡ Done c
      was u c e = elim (cases_eq u node) [
        | inl same ↦ absurd (open_not_done (sym this ∙ (ap (mark_of after) (sym same) ∙ e)))
        | inr ne ↦ sym (mark_kept marks node u (Open n) ne) ∙ e
      ]

      to_node : (p : ℕ) → p < length stack' → Reach edge (get_or stack' p 0) node
      to_node p lt = elim (cases_lt p n) [
        | inl old ↦ subst (λ x. Reach edge x node) (sym (below p old)) (linked p old)
        | inr new ↦ subst (λ x. Reach edge x node) (sym (top p lt new)) (Here node)
      ]

      lighter : changes_left after + 1 ≡ changes_left marks
      lighter = let e : changes_left after + changes_of (mark_of marks node) ≡ changes_left marks + 1 = changes_set marks node (Open n) in_marks in omega (arith, e, ap changes_of fresh)

  module _ (marks_before : List Mark) (stack_before : List ℕ) (marks : List Mark) (stack : List ℕ) (count node low at : ℕ) (visit : IsVisit edge nodes marks_before stack_before marks stack count node low at) where
    abbrev pub start : ℕ
    start = length stack_before

    s : IsSearch edge nodes marks stack count
    s = visit.search

    -- each node on the stack reaches the one that is visited
    pub to_here : (p : ℕ) → p < length stack → Reach edge (get_or stack p 0) node
    to_here p lt = elim (cases_lt p start) [
      | inl old ↦ subst (λ x. Reach edge (get_or stack p 0) x) visit.here (s.down p start (omega arith) (visit.longer))
      | inr new ↦ visit.back p new lt
    ]

    -- it leads to a node on the stack
    pub met_open : (to there : ℕ) → edge node to → ((v : ℕ) → at ≤ v → v < to → edge node v → ⊥) → mark_of marks to ≡ Open there → IsVisit edge nodes marks_before stack_before marks stack count node (min low there) (to + 1)
    met_open to there e none is = record {
      search = s;
      longer = visit.longer;
      here = visit.here;
      prefix = visit.prefix;
      kept = visit.kept;
      back = visit.back;
      less = visit.less;
      in_low = omega (arith, visit.in_low);
      reached = elim (cases_lt there low) [
        | inl lower ↦ (let m : there ≡ min low there = omega arith in subst (λ k. Reach edge node (get_or stack k 0)) m (subst (λ x. Reach edge node x) (sym (s.on_stack to there is).1) (one_edge node to e)))
        | inr not_lower ↦ (let m : low ≡ min low there = omega arith in subst (λ k. Reach edge node (get_or stack k 0)) m visit.reached)
      ];
      closed = λ p v gt lt pv. weaker marks low (min low there) v (omega arith) (visit.closed p v gt lt pv);
      row = λ v lt nv. elim (cases_lt v at) [
        | inl old ↦ weaker marks low (min low there) v (omega arith) (visit.row v old nv)
        | inr new ↦ elim (cases_lt v to) [
          | inl between ↦ absurd (none v new between nv)
          | inr ge ↦ (let same : to ≡ v = omega arith in subst (λ x. IsSeenFrom marks (min low there) x) same (inr (there, is, omega arith)))
        ]
      ];
    }

    -- it leads to a fresh node, which was visited
    pub descended : (to lower : ℕ) (marks' : List Mark) (stack' : List ℕ) (count' : ℕ) → edge node to → ((v : ℕ) → at ≤ v → v < to → edge node v → ⊥) → IsVisited edge nodes marks stack marks' stack' count' to lower → IsVisit edge nodes marks_before stack_before marks' stack' count' node (min low lower) (to + 1)
    descended to lower marks' stack' count' e none v' = record {
      search = v'.search;
      longer = omega (arith, visit.longer, v'.longer);
      here = v'.prefix start visit.longer ∙ visit.here;
      prefix = λ p lt. v'.prefix p (omega (arith, visit.longer, lt)) ∙ visit.prefix p lt;
      kept = λ u c is. v'.kept u c (visit.kept u c is);
      in_low = omega (arith, visit.in_low);
      reached = elim (cases_lt lower low) [
        | inl is_lower ↦ (let m : lower ≡ min low lower = omega arith in subst (λ k. Reach edge node (get_or stack' k 0)) m (along (one_edge node to e) (v'.reached (omega (arith, visit.in_low, visit.longer)))))
        | inr not_lower ↦ (let m : low ≡ min low lower = omega arith in subst (λ k. Reach edge node (get_or stack' k 0)) m (subst (λ x. Reach edge node x) (sym (v'.prefix low (omega (arith, visit.in_low, visit.longer)))) visit.reached))
      ];
      back = λ p ge lt. elim (cases_lt p (length stack)) [
        | inl old ↦ subst (λ x. Reach edge x node) (sym (v'.prefix p old)) (visit.back p ge old)
        | inr new ↦ (let r = v'.back p new lt in along r.1 (subst (λ x. Reach edge x node) (sym (v'.prefix lower r.0)) (to_here lower r.0)))
      ];
      closed = λ p v gt lt pv. elim (cases_lt p (length stack)) [
        | inl old ↦ still v (visit.closed p v gt old (subst (λ x. edge x v) (v'.prefix p old) pv))
        | inr new ↦ weaker marks' lower (min low lower) v (omega arith) (v'.closed p v new lt pv)
      ];
      row = λ v lt nv. elim (cases_lt v at) [
        | inl old ↦ still v (visit.row v old nv)
        | inr new ↦ elim (cases_lt v to) [
          | inl between ↦ absurd (none v new between nv)
          | inr ge ↦ (let same : to ≡ v = omega arith in subst (λ x. IsSeenFrom marks' (min low lower) x) same (weaker marks' lower (min low lower) to (omega arith) v'.seen))
        ]
      ];
      less = omega (arith, visit.less, v'.less);
    }
      where
        still : (u : ℕ) → IsSeenFrom marks low u → IsSeenFrom marks' (min low lower) u
        still u (inl (c, is)) = inl (c, v'.kept u c is)
        still u (inr (p, is, ge)) = let r = s.on_stack u p is in inr (p, subst (λ x. mark_of marks' x ≡ Open p) (v'.prefix p r.0 ∙ r.1) (v'.search.opened p (omega (arith, r.0, v'.longer))), omega arith)
