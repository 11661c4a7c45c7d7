-- Where there is no cycle, some class is ready or all had their turns: a way back from predecessor to predecessor would pass more
-- classes than there are.
use Rattle.std.proofs.Common.{◌≡◌, ℕ, zero, suc, ◌+◌, ◌<◌, ◌≤◌, true, false, eqb, ◌||◌, List, [], ◌∷◌, length, get_or, refl, sym, ◌∙◌, subst, inl, inr, arith}
use Rattle.std.proofs.lemmas.Bool.{cases_Bool, cases_eq, cases_lt}
use Rattle.std.proofs.lemmas.Map.Keys.{IsDistinct-cons}
use Rattle.std.proofs.lemmas.Map.Steps.{length-le_from_distinct_below}
use Rattle.std.specs.List.{IsDistinct, AllByRecursion, list_any}
use Rattle.pac_graph.specs.Graph.{Graph, HasEdge, Reach, Here, Onward}
use Rattle.pac_graph.specs.Numbering.{IsClassReady}
use Rattle.pac_graph.proofs.GraphLemmas.{edge_or_none, leads_from}

is_same : (a b : ℕ) → eqb a b ≡ true → a ≡ b
is_same a b e = grind (arith)

-- a number that is not found is none of the list
none_of : (o : ℕ) (ys : List ℕ) → list_any (eqb o) ys ≡ false → AllByRecursion (λ y. eqb o y ≡ false) ys
none_of o [] h = tt
none_of o (y ∷ ys) h = elim (cases_Bool (eqb o y)) [
  | inl t ↦ absurd (let never : true ≡ false = subst (λ b. (b || list_any (eqb o) ys) ≡ false) t h in cc)
  | inr f ↦ (f, none_of o ys (subst (λ b. (b || list_any (eqb o) ys) ≡ false) f h))
]

empty_distinct : IsDistinct eqb []
unfolding IsDistinct
empty_distinct = tt

module _ (g : Graph) (acyclic : (a b : ℕ) → HasEdge g a b → Reach (HasEdge g) b a → ⊥) (numbers : List ℕ) (turn : ℕ) (none : (c : ℕ) → c < g.nodes → IsClassReady (HasEdge g) numbers turn c → ⊥) where
  -- a class that had no turn yet
  abbrev IsWaiting : ℕ → Type 0
  IsWaiting c = (c < g.nodes) × (turn ≤ get_or numbers c 0)

  -- it has a predecessor that had none either; those from k on are looked at
  look : (c : ℕ) → IsWaiting c → (k : ℕ) → ((o : ℕ) → k ≤ o → HasEdge g o c → get_or numbers o 0 < turn) → (o : ℕ) × HasEdge g o c × IsWaiting o
  look c waits zero had = absurd (none c waits.0 (waits.1, λ o e. had o (omega arith) e))
  look c waits (suc k) had = elim (edge_or_none g k c) [
    | inr no_edge ↦ look c waits k (λ o le e. elim (cases_eq o k) [ inl same ↦ absurd (no_edge (subst (λ x. HasEdge g x c) same e)) | inr ne ↦ had o (omega (arith, le, ne)) e ])
    | inl edge ↦ elim (cases_lt (get_or numbers k 0) turn) [
      | inl early ↦ look c waits k (λ o le e. elim (cases_eq o k) [ inl same ↦ subst (λ x. get_or numbers x 0 < turn) (sym same) early | inr ne ↦ had o (omega (arith, le, ne)) e ])
      | inr late ↦ (k, edge, (leads_from g k c edge, late))
    ]
  ]

  predecessor : (c : ℕ) → IsWaiting c → (o : ℕ) × HasEdge g o c × IsWaiting o
  predecessor c waits = look c waits g.nodes (λ o le e. absurd (let lt : o < g.nodes = leads_from g o c e in omega (arith, le, lt)))

  -- the way back has come to o; each of the classes passed is reached from it by an edge and more
  abbrev IsWay : ℕ → List ℕ → Type 0
  IsWay o passed = IsWaiting o × IsDistinct eqb passed × ((q : ℕ) → list_any (eqb q) passed ≡ true → (q < g.nodes) × ((x : ℕ) × HasEdge g o x × Reach (HasEdge g) x q))

  -- it goes on, and meets no class that it passed: that were a cycle
  step : (n o : ℕ) (passed : List ℕ) → length passed ≡ n → IsWay o passed → (p : ℕ) × (more : List ℕ) × (length more ≡ n + 1) × IsWay p more
  step n o passed size (waits, distinct, each) = (p, o ∷ passed, omega (arith, size), (before.2, IsDistinct-cons eqb o passed (none_of o passed fresh) distinct, found))
    where
      before : (p : ℕ) × HasEdge g p o × IsWaiting p
      before = predecessor o waits

      p : ℕ
      p = before.0

      fresh : list_any (eqb o) passed ≡ false
      fresh = elim (cases_Bool (list_any (eqb o) passed)) [
        | inl t ↦ absurd (let r = each o t in acyclic o r.1.0 r.1.1 r.1.2)
        | inr f ↦ f
      ]

      found : (q : ℕ) → list_any (eqb q) (o ∷ passed) ≡ true → (q < g.nodes) × ((x : ℕ) × HasEdge g p x × Reach (HasEdge g) x q)
      found q h = elim (cases_Bool (eqb q o)) [
        | inl t ↦ (let same : o ≡ q = sym (is_same q o t) in (subst (λ x. x < g.nodes) same waits.0, (o, before.1, subst (λ x. Reach (HasEdge g) o x) same (Here o))))
        | inr f ↦ (let r = each q (subst (λ b. (b || list_any (eqb q) passed) ≡ true) f h) in (r.0, (o, before.1, Onward o r.1.0 q r.1.1 r.1.2)))
      ]

  way : (c : ℕ) → IsWaiting c → (n : ℕ) → (o : ℕ) × (passed : List ℕ) × (length passed ≡ n) × IsWay o passed
  way c waits zero = (c, [], refl, (waits, empty_distinct, λ q h. absurd (let never : false ≡ true = h in cc)))
  way c waits (suc n) = let w = way c waits n in
      let s = step n w.0 w.1 w.2 w.3 in
      (s.0, s.1, s.2 ∙ omega arith, s.3)

  pub all_had_turns : (c : ℕ) → c < g.nodes → get_or numbers c 0 < turn
  all_had_turns c lt = elim (cases_lt (get_or numbers c 0) turn) [
    | inl had ↦ had
    | inr late ↦ (let w = way c (lt, late) (g.nodes + 1) in
        let few : length w.1 ≤ g.nodes = length-le_from_distinct_below w.1 g.nodes w.3.1 (λ q h. (w.3.2 q h).0) in
        absurd (omega (arith, few, w.2)))
  ]
