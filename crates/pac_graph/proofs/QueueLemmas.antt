-- The queue: which classes wait before and after a class is added, is taken out, and has had its turn.
use Rattle.std.proofs.Common.{◌≡◌, ◌⊎◌, ◌↔◌, ℕ, ◌+◌, ◌<◌, ◌≤◌, List, get_or, set, sym, ap, ◌∙◌, subst, inl, inr, arith}
use Rattle.std.proofs.lemmas.Bool.{cases_eq}
use Rattle.pac_graph.specs.Graph.{Graph, HasEdge}
use Rattle.pac_graph.specs.Numbering.{IsClassReady}
use Rattle.pac_graph.specs.Turns.{AreTurns, IsQueue, IsRankedGraph}
use Rattle.pac_graph.proofs.GraphLemmas.{edge_or_none, leads_from}
use Rattle.pac_graph.proofs.TurnLemmas.{open_class, this, others, still, in_time}

-- one class, if it is ready, is no more missing
pub one_added : (waits waits' : ℕ → ℕ → Type 0) (ready missing missing' : ℕ → Type 0) (count : ℕ) (ranks : List ℕ) (class : ℕ)
    → class < count → ((c d : ℕ) → c < count → d < count → get_or ranks c 0 ≡ get_or ranks d 0 → c ≡ d)
    → ((r c : ℕ) → waits' r c → waits r c ⊎ ((r ≡ get_or ranks class 0) × (c ≡ class) × ready class))
    → ((r c : ℕ) → (r ≡ get_or ranks class 0 → ⊥) → waits r c → waits' r c)
    → (ready class → waits' (get_or ranks class 0) class)
    → ((c : ℕ) → c < count → ready c → missing c → (c ≡ class → ⊥) → missing' c)
    → IsQueue waits ready missing count ranks → IsQueue waits' ready missing' count ranks
one_added waits waits' ready missing missing' count ranks class lt apart new kept added less q = record {
  only = λ r c w. elim (new r c w) [
    | inl old ↦ q.only r c old
    | inr (er, ec, is) ↦ (omega (arith, lt, ec), er ∙ ap (λ k. get_or ranks k 0) (sym ec), subst (λ k. ready k) (sym ec) is)
  ];
  all = λ c lc is. elim (cases_eq c class) [
    | inl same ↦ inl (subst (λ k. waits' (get_or ranks k 0) k) (sym same) (added (subst (λ k. ready k) same is)))
    | inr ne ↦ elim (q.all c lc is) [ inl old ↦ inl (kept (get_or ranks c 0) c (λ e. ne (apart c class lc lt e)) old) | inr miss ↦ inr (less c lc is miss ne) ]
  ];
}

-- the same queue, where the numbers and the turn are the same
pub same_turns : (edge : ℕ → ℕ → Type 0) (waits : ℕ → ℕ → Type 0) (missing : ℕ → Type 0) (count : ℕ) (ranks numbers numbers' : List ℕ) (turn turn' : ℕ) → numbers' ≡ numbers → turn' ≡ turn → IsQueue waits (IsClassReady edge numbers turn) missing count ranks → IsQueue waits (IsClassReady edge numbers' turn') missing count ranks
same_turns edge waits missing count ranks numbers numbers' turn turn' en et q = subst (λ ns. IsQueue waits (IsClassReady edge ns turn') missing count ranks) (sym en) (subst (λ t. IsQueue waits (IsClassReady edge numbers t) missing count ranks) (sym et) q)

module _ (g : Graph) (before : ℕ → ℕ → Type 0) (numbers passed : List ℕ) (turn : ℕ) (ranks : List ℕ) (ordered : IsRankedGraph (HasEdge g) g.nodes ranks) (t : AreTurns (HasEdge g) before g.nodes numbers passed turn) (waits : ℕ → ℕ → Type 0) (q : IsQueue waits (IsClassReady (HasEdge g) numbers turn) (λ _. ⊥) g.nodes ranks) where
  all_wait : (c : ℕ) → c < g.nodes → IsClassReady (HasEdge g) numbers turn c → waits (get_or ranks c 0) c
  all_wait c lt is = elim (q.all c lt is) [ inl old ↦ old | inr miss ↦ absurd miss ]

  -- where no class waits, none is ready
  pub none_ready : ((r c : ℕ) → waits r c → ⊥) → (c : ℕ) → c < g.nodes → IsClassReady (HasEdge g) numbers turn c → ⊥
  none_ready none c lt is = none (get_or ranks c 0) c (all_wait c lt is)

  module _ (rank class : ℕ) (had : waits rank class) where
    -- a class that waits with no rank below its own is the least that is ready
    pub least_ready : ((r c : ℕ) → waits r c → rank ≤ r) → (o : ℕ) → o < g.nodes → IsClassReady (HasEdge g) numbers turn o → get_or ranks class 0 ≤ get_or ranks o 0
    least_ready least o lt is = let a : rank ≤ get_or ranks o 0 = least (get_or ranks o 0) o (all_wait o lt is) in omega (arith, a, (q.only rank class had).1)

    lt : class < g.nodes
    lt = (q.only rank class had).0

    ready : IsClassReady (HasEdge g) numbers turn class
    ready = (q.only rank class had).2

    abbrev after : List ℕ
    after = set numbers class turn

    given_turn : get_or after class 0 ≡ turn
    given_turn = this (HasEdge g) before g.nodes numbers passed turn t class lt ready

    as_before : (c : ℕ) → (c ≡ class → ⊥) → get_or after c 0 ≡ get_or numbers c 0
    as_before c ne = others (HasEdge g) before g.nodes numbers passed turn t class lt ready c ne

    early : turn < g.nodes
    early = in_time (HasEdge g) before g.nodes numbers passed turn t class lt ready

    -- a class that is ready now was ready before, unless an edge leads to it from the one that had its turn
    was_ready : (c : ℕ) → c < g.nodes → (c ≡ class → ⊥) → (HasEdge g class c → ⊥) → IsClassReady (HasEdge g) after (turn + 1) c → IsClassReady (HasEdge g) numbers turn c
    was_ready c lc ne none r = (
      omega (arith, r.0, as_before c ne),
      λ o e. elim (cases_eq o class) [
        | inl same ↦ absurd (none (subst (λ k. HasEdge g k c) same e))
        | inr apart ↦ elim (t.numbered o (leads_from g o c e)) [
          | inl has ↦ has
          | inr no_number ↦ absurd (let h : get_or after o 0 < turn + 1 = r.1 o e in omega (arith, h, as_before o apart, no_number, early))
        ]
      ],
    )

    -- a class that was ready is ready still
    is_still : (c : ℕ) → c < g.nodes → (c ≡ class → ⊥) → IsClassReady (HasEdge g) numbers turn c → IsClassReady (HasEdge g) after (turn + 1) c
    is_still c lc ne r = (omega (arith, open_class (HasEdge g) before g.nodes numbers passed turn t c lc r.0, as_before c ne, early), λ o e. (let h : get_or after o 0 < turn = (still (HasEdge g) before g.nodes numbers passed turn t class lt ready turn o (omega arith)).0 (r.1 o e) in omega (arith, h)))

    not_now : (c : ℕ) → IsClassReady (HasEdge g) after (turn + 1) c → c ≡ class → ⊥
    not_now c r e = let a : get_or after c 0 ≡ turn = ap (λ k. get_or after k 0) e ∙ given_turn in omega (arith, r.0, a)

    -- the class is out, and had its turn: of the ready ones only those to which its edges lead may be missing
    pub turn_over : (waits' : ℕ → ℕ → Type 0) → ((r c : ℕ) → waits' r c ↔ ((r ≡ rank → ⊥) × waits r c)) → IsQueue waits' (IsClassReady (HasEdge g) after (turn + 1)) (HasEdge g class) g.nodes ranks
    turn_over waits' left = record {
      only = λ r c w. (let old = (left r c).0 w in
          let is = q.only r c old.1 in
          (is.0, is.1, is_still c is.0 (λ e. old.0 (is.1 ∙ (ap (λ k. get_or ranks k 0) e ∙ sym (q.only rank class had).1))) is.2));
      all = λ c lc r. elim (edge_or_none g class c) [
        | inl edge ↦ inr edge
        | inr none ↦ inl (let ne = not_now c r in (left (get_or ranks c 0) c).1 ((λ e. ne (ordered.apart c class lc lt (e ∙ (q.only rank class had).1))), all_wait c lc (was_ready c lc ne none r)))
      ];
    }
