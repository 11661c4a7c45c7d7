-- The end of a visit: its nodes stay on the stack, or they are a class and leave it.
use Rattle.std.proofs.Common.{◌≡◌, ◌⊎◌, ℕ, ◌+◌, ◌<◌, ◌≤◌, List, length, get_or, set, take, min, sym, ap, ◌∙◌, subst, inl, inr, arith}
use Rattle.std.proofs.lemmas.Bool.{cases_eq, cases_lt}
use Rattle.std.proofs.lemmas.List.{get_or-take, length-take}
use Rattle.pac_graph.specs.declared.search.Mark.{Mark}
use Rattle.pac_graph.specs.declared.search.Mark.TheVariants.{Open, Done}
use Rattle.pac_graph.specs.Graph.{Reach}
use Rattle.pac_graph.specs.Search.{mark_of, changes_left, IsSearch, IsSeenFrom, IsVisited, GaveClass}
use Rattle.pac_graph.proofs.GraphLemmas.{along}
use Rattle.pac_graph.proofs.MarkLemmas.{open_not_done, same_offset, same_class, mark_set, mark_kept}
use Rattle.pac_graph.proofs.VisitLemmas.{IsVisit, to_here}

module _ (edge : ℕ → ℕ → Type 0) (nodes : ℕ) (marks_before : List Mark) (stack_before : List ℕ) (marks : List Mark) (stack : List ℕ) (count node low at : ℕ) (visit : IsVisit edge nodes marks_before stack_before marks stack count node low at) where
  abbrev start : ℕ
  start = length stack_before

  s : IsSearch edge nodes marks stack count
  s = visit.search

  here : (p : ℕ) → p < length stack → Reach edge (get_or stack p 0) node
  here p lt = to_here edge nodes marks_before stack_before marks stack count node low at visit p lt

  module _ (none : (v : ℕ) → at ≤ v → edge node v → ⊥) where
    -- all that the nodes of the visit lead to is seen
    all_seen : (p v : ℕ) → start ≤ p → p < length stack → edge (get_or stack p 0) v → IsSeenFrom marks low v
    all_seen p v ge lt pv = elim (cases_lt start p) [
      | inl above ↦ visit.closed p v above lt pv
      | inr not_above ↦ (let same : p ≡ start = omega arith in let nv : edge node v = subst (λ x. edge x v) (subst (λ k. get_or stack k 0 ≡ node) (sym same) visit.here) pv in elim (cases_lt v at) [
        | inl old ↦ visit.row v old nv
        | inr new ↦ absurd (none v new nv)
      ])
    ]

    -- the visit ends below its start: its nodes stay on the stack
    pub left : low < start → IsVisited edge nodes marks_before stack_before marks stack count node low
    left lower = record {
      search = s;
      longer = omega (arith, visit.longer);
      prefix = visit.prefix;
      kept = visit.kept;
      seen = inr (start, subst (λ x. mark_of marks x ≡ Open start) visit.here (s.opened start visit.longer), visit.in_low);
      in_low = visit.in_low;
      reached = λ lt. visit.reached;
      back = λ p ge lt. (lower, along (visit.back p ge lt) visit.reached);
      closed = all_seen;
      less = visit.less;
    }

    -- it ends at its start: its nodes are a class
    pub popped : (marks' : List Mark) (stack' : List ℕ) (count' : ℕ) → low ≡ start → GaveClass marks marks' stack start (length stack) count → stack' ≡ take start stack → count' ≡ count + 1 → length marks' ≡ length marks → changes_left marks' + length stack ≤ changes_left marks + start → IsVisited edge nodes marks_before stack_before marks' stack' count' node low
    popped marks' stack' count' is_start each es ec size lighter = record {
      search = record {
        few = s.few;
        size = size ∙ s.size;
        within = λ p lt. subst (λ x. x < nodes) (sym (at_offset p (before p lt))) (s.within p (omega (arith, before p lt, visit.longer)));
        opened = λ p lt. subst (λ x. mark_of marks' x ≡ Open p) (sym (at_offset p (before p lt))) (open_stays (get_or stack p 0) p (s.opened p (omega (arith, before p lt, visit.longer))) (before p lt));
        on_stack = λ u p is. was_open u p is;
        down = λ i j le lt. subst (λ x. Reach edge x (get_or stack' j 0)) (sym (at_offset i (omega (arith, le, before j lt)))) (subst (λ x. Reach edge (get_or stack i 0) x) (sym (at_offset j (before j lt))) (s.down i j le (omega (arith, before j lt, visit.longer))));
        below = λ u c is. elim (was_done u c is) [ inl (p, ge, lt, eu, ed) ↦ omega (arith, ed, ec) | inr old ↦ omega (arith, s.below u c old, ec) ];
        falls = λ u v c is uv. elim (was_done u c is) [
          | inl (p, ge, lt, eu, ed) ↦ seen_done v c ed (all_seen p v ge lt (subst (λ x. edge x v) (sym eu) uv))
          | inr old ↦ (let r = s.falls u v c old uv in (r.0, done_stays v r.0 r.1, r.2))
        ];
        same = λ u v c iu iv. elim (was_done u c iu) [
          | inl (p, ge, lt, eu, ed) ↦ elim (was_done v c iv) [
            | inl (q, ge', lt', ev, ed') ↦ subst (λ x. Reach edge x v) eu (subst (λ x. Reach edge (get_or stack p 0) x) ev (along (here p lt) (subst (λ x. Reach edge x (get_or stack q 0)) visit.here (s.down start q ge' lt'))))
            | inr old ↦ absurd (omega (arith, s.below v c old, ed))
          ]
          | inr old ↦ elim (was_done v c iv) [
            | inl (q, ge', lt', ev, ed') ↦ absurd (omega (arith, s.below u c old, ed'))
            | inr old' ↦ s.same u v c old old'
          ]
        ];
        used = λ c lt. elim (cases_lt c count) [
          | inl old ↦ (let r = s.used c old in (r.0, done_stays r.0 c r.1))
          | inr new ↦ (let e : count ≡ c = omega (arith, ec, lt) in (node, subst (λ k. mark_of marks' node ≡ Done k) e node_done))
        ];
        room = omega (arith, s.room, lighter, ec, visit.longer, length_after);
      };
      longer = omega (arith, length_after);
      prefix = λ p lt. at_offset p lt ∙ visit.prefix p lt;
      kept = λ u c is. done_stays u c (visit.kept u c is);
      seen = inl (count, node_done);
      in_low = visit.in_low;
      reached = λ lt. absurd (omega (arith, lt, is_start));
      back = λ p ge lt. absurd (omega (arith, ge, lt, length_after));
      closed = λ p v ge lt. absurd (omega (arith, ge, lt, length_after));
      less = omega (arith, visit.less, lighter, visit.longer);
    }
      where
        length_after : length stack' ≡ start
        length_after = ap length es ∙ (let e : length (take start stack) ≡ min start (length stack) = length-take start stack in omega (arith, e, visit.longer))

        before : (p : ℕ) → p < length stack' → p < start
        before p lt = omega (arith, lt, length_after)

        at_offset : (p : ℕ) → p < start → get_or stack' p 0 ≡ get_or stack p 0
        at_offset p lt = ap (λ xs. get_or xs p 0) es ∙ get_or-take start stack p 0 lt

        -- a node that was closed was open, at a position from the start on
        was_at : (u p : ℕ) → start ≤ p → p < length stack → get_or stack p 0 ≡ u → mark_of marks u ≡ Open p
        was_at u p ge lt e = subst (λ x. mark_of marks x ≡ Open p) e (s.opened p lt)

        done_stays : (u c : ℕ) → mark_of marks u ≡ Done c → mark_of marks' u ≡ Done c
        done_stays u c is = elim (each u) [
          | inl (p, ge, lt, eu, ed) ↦ absurd (open_not_done (sym (was_at u p ge lt eu) ∙ is))
          | inr (e, untouched) ↦ e ∙ is
        ]

        open_stays : (u p : ℕ) → mark_of marks u ≡ Open p → p < start → mark_of marks' u ≡ Open p
        open_stays u p is lt = elim (each u) [
          | inl (q, ge, lq, eu, ed) ↦ absurd (omega (arith, same_offset q p (sym (was_at u q ge lq eu) ∙ is), ge, lt))
          | inr (e, untouched) ↦ e ∙ is
        ]

        new_done : (u p : ℕ) → start ≤ p → p < length stack → get_or stack p 0 ≡ u → mark_of marks' u ≡ Done count
        new_done u p ge lt e = elim (each u) [ inl (q, geq, lq, eu, ed) ↦ ed | inr (same, untouched) ↦ absurd (untouched p ge lt e) ]

        node_done : mark_of marks' node ≡ Done count
        node_done = new_done node start (omega arith) visit.longer visit.here

        was_open : (u p : ℕ) → mark_of marks' u ≡ Open p → (p < length stack') × (get_or stack' p 0 ≡ u)
        was_open u p is = elim (each u) [
          | inl (q, ge, lq, eu, ed) ↦ absurd (open_not_done (sym is ∙ ed))
          | inr (e, untouched) ↦ (let r = s.on_stack u p (sym e ∙ is) in elim (cases_lt p start) [
            | inl lt ↦ (omega (arith, lt, length_after), at_offset p lt ∙ r.1)
            | inr ge ↦ absurd (untouched p ge r.0 r.1)
          ])
        ]

        was_done : (u c : ℕ) → mark_of marks' u ≡ Done c → ((p : ℕ) × (start ≤ p) × (p < length stack) × (get_or stack p 0 ≡ u) × (count ≡ c)) ⊎ (mark_of marks u ≡ Done c)
        was_done u c is = elim (each u) [
          | inl (p, ge, lt, eu, ed) ↦ inl (p, ge, lt, eu, same_class count c (sym ed ∙ is))
          | inr (e, untouched) ↦ inr (sym e ∙ is)
        ]

        seen_done : (v c : ℕ) → count ≡ c → IsSeenFrom marks low v → (d : ℕ) × (mark_of marks' v ≡ Done d) × (d ≤ c)
        seen_done v c e (inl (d, is)) = (d, done_stays v d is, omega (arith, s.below v d is, e))
        seen_done v c e (inr (p, is, ge)) = let r = s.on_stack v p is in (count, new_done v p (omega (arith, ge, is_start)) r.0 r.1, omega (arith, e))

-- one node more is closed
pub close_one : (marks_before marks : List Mark) (stack : List ℕ) (from to class : ℕ) → GaveClass marks_before marks stack from to class → from ≤ to → get_or stack to 0 < length marks → GaveClass marks_before (set marks (get_or stack to 0) (Done class)) stack from (to + 1) class
close_one marks_before marks stack from to class each le in_marks u = elim (cases_eq u node) [
  | inl same ↦ inl (to, le, omega arith, sym same, subst (λ x. mark_of after x ≡ Done class) (sym same) (mark_set marks node (Done class) in_marks))
  | inr ne ↦ elim (each u) [
    | inl (p, ge, lt, eu, ed) ↦ inl (p, ge, omega arith, eu, mark_kept marks node u (Done class) ne ∙ ed)
    | inr (e, untouched) ↦ inr (
      mark_kept marks node u (Done class) ne ∙ e,
      λ p ge lt eu. elim (cases_lt p to) [
        | inl old ↦ untouched p ge old eu
        | inr new ↦ (let same : p ≡ to = omega arith in ne (sym eu ∙ ap (λ k. get_or stack k 0) same))
      ],
    )
  ]
]
  where
    node : ℕ
    node = get_or stack to 0

    after : List Mark
    after = set marks node (Done class)
