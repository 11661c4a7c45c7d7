-- What follows from a numbering: no two classes have one number, and there is one numbering.
use Rattle.std.proofs.Common.{◌≡◌, ◌↔◌, ℕ, zero, suc, ◌<◌, List, get_or, sym, ap, ◌∙◌, subst, inl, inr, arith}
use Rattle.std.proofs.lemmas.Bool.{cases_eq, cases_lt}
use Rattle.std.proofs.lemmas.List.{ext_get_or}
use Rattle.pac_graph.specs.Graph.{Graph}
use Rattle.pac_graph.specs.Classes.{class_count, AreClasses}
use Rattle.pac_graph.specs.Numbering.{IsClassEdge, HasLesserNode, IsClassReady, IsNumbering}
use Rattle.pac_graph.proofs.CondensedLemmas.{class_within}

-- of two classes not each has a node below all of the other's
not_both : (classes order : List ℕ) (c d : ℕ) → HasLesserNode classes order c d → HasLesserNode classes order d c → ⊥
not_both classes order c d (u, lu, eu, below) (v, lv, ev, above) = omega (arith, below v lv ev, above u lu eu)

module _ (g : Graph) (classes : List ℕ) (order : List ℕ) where
  -- two classes with one turn are one: each would be before the other
  pub same_turn : (numbers : List ℕ) → IsNumbering g classes order numbers → (c d : ℕ) → c < class_count classes → d < class_count classes → get_or numbers c 0 ≡ get_or numbers d 0 → c ≡ d
  same_turn numbers t c d lc ld same = elim (cases_eq c d) [
    | inl e ↦ e
    | inr ne ↦ absurd (not_both classes order c d
        (t.least c d lc ld (λ e. ne (sym e)) (subst (λ n. IsClassReady (IsClassEdge g classes) numbers n d) (sym same) (t.ready d ld)))
        (t.least d c ld lc ne (subst (λ n. IsClassReady (IsClassEdge g classes) numbers n c) same (t.ready c lc))))
  ]

module _ (g : Graph) (classes : List ℕ) (are : AreClasses g classes) where
  -- the classes that had a turn by the one numbering had one by the other
  abbrev Agree : List ℕ → List ℕ → ℕ → Type 0
  Agree a b n = (c : ℕ) → c < class_count classes → (get_or a c 0 < n) ↔ (get_or b c 0 < n)

  -- a class that is ready by one numbering is by the other
  ready_too : (a b : List ℕ) (n c : ℕ) → Agree a b n → c < class_count classes → IsClassReady (IsClassEdge g classes) a n c → IsClassReady (IsClassEdge g classes) b n c
  ready_too a b n c same lt r = (
    elim (cases_lt (get_or b c 0) n) [ inl has ↦ absurd (let h : get_or a c 0 < n = (same c lt).1 has in omega (arith, h, r.0)) | inr ge ↦ ge ],
    λ o e. (same o (class_within g classes are o c e).0).0 (r.1 o e),
  )

  module _ (order : List ℕ) where
    one_turn : (a b : List ℕ) → IsNumbering g classes order a → IsNumbering g classes order b → (n : ℕ) → Agree a b n → Agree b a n → (c : ℕ) → c < class_count classes → get_or a c 0 < suc n → get_or b c 0 < suc n
    one_turn a b ta tb n same back c lt has = elim (cases_lt (get_or a c 0) n) [ inl before ↦ (let h : get_or b c 0 < n = (same c lt).0 before in omega (arith, h)) | inr now ↦ here (omega (arith, has, now)) ]
      where
        here : get_or a c 0 ≡ n → get_or b c 0 < suc n
        here is = (let d = tb.each n (omega (arith, is, ta.below c lt)) in elim (cases_eq c d.0) [
          | inl eq ↦ (let h : get_or b c 0 ≡ n = ap (λ k. get_or b k 0) eq ∙ d.2 in omega (arith, h))
          | inr ne ↦ absurd (not_both classes order c d.0
              (ta.least c d.0 lt d.1 (λ e. ne (sym e)) (subst (λ k. IsClassReady (IsClassEdge g classes) a k d.0) (sym is) (ready_too b a n d.0 back d.1 (subst (λ k. IsClassReady (IsClassEdge g classes) b k d.0) d.2 (tb.ready d.0 d.1)))))
              (tb.least d.0 c d.1 lt ne (subst (λ k. IsClassReady (IsClassEdge g classes) b k c) (sym d.2) (ready_too a b n c same lt (subst (λ k. IsClassReady (IsClassEdge g classes) a k c) is (ta.ready c lt))))))
        ])

    agree : (a b : List ℕ) → IsNumbering g classes order a → IsNumbering g classes order b → (n : ℕ) → Agree a b n × Agree b a n
    agree a b ta tb zero = ((λ c lt. ((λ h. absurd (omega (arith, h))), (λ h. absurd (omega (arith, h))))), (λ c lt. ((λ h. absurd (omega (arith, h))), (λ h. absurd (omega (arith, h))))))
    agree a b ta tb (suc n) = step (agree a b ta tb n)
      where
        step : Agree a b n × Agree b a n → Agree a b (suc n) × Agree b a (suc n)
        step (x, y) = ((λ c lt. (one_turn a b ta tb n x y c lt, one_turn b a tb ta n y x c lt)), (λ c lt. (one_turn b a tb ta n y x c lt, one_turn a b ta tb n x y c lt)))

    one_only : (a b : List ℕ) → IsNumbering g classes order a → IsNumbering g classes order b → (c : ℕ) → c < class_count classes → get_or a c 0 ≡ get_or b c 0
    one_only a b ta tb c lt =
        let x : get_or b c 0 < suc (get_or a c 0) = ((agree a b ta tb (suc (get_or a c 0))).0 c lt).0 (omega arith) in
        let y : get_or a c 0 < suc (get_or b c 0) = ((agree a b ta tb (suc (get_or b c 0))).1 c lt).0 (omega arith) in
        omega (arith, x, y)

    pub same_numbers : (a b : List ℕ) → IsNumbering g classes order a → IsNumbering g classes order b → a ≡ b
    same_numbers a b ta tb = ext_get_or 0 a b (ta.size ∙ sym tb.size) (λ c lt. one_only a b ta tb c (omega (arith, lt, ta.size)))
