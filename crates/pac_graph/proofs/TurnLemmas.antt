-- The turns: they begin with no number, each turn gives one, and in the end they are a numbering.
use Rattle.std.proofs.Common.{◌≡◌, ◌↔◌, ℕ, suc, ◌+◌, ◌*◌, ◌<◌, ◌≤◌, ◌==◌, if◌then◌else◌, List, [], ◌∷◌, length, get_or, set, replicate, refl, sym, ap, ◌∙◌, subst, inl, inr, arith}
use Rattle.std.proofs.lemmas.Bool.{cases_eq, cases_lt}
use Rattle.std.proofs.lemmas.List.{get_or-replicate, length-set, length-replicate, get_or-set_other, get_or-set_same}
use Rattle.std.proofs.lemmas.List.Sums.{sum_by-set, sum_by-cons}
use Rattle.std.proofs.lemmas.List.Folds.{sum_by-replicate}
use Rattle.std.specs.List.{sum_by}
use Rattle.pac_graph.specs.Numbering.{IsClassReady, IsInTurn}
use Rattle.pac_graph.specs.Turns.{unnumbered, AreTurns}

-- 1 for a class with no number
abbrev is_unnumbered : ℕ → ℕ → ℕ
is_unnumbered count number = if number == count then 1 else 0

is_numbered : (count number : ℕ) → (number ≡ count → ⊥) → is_unnumbered count number ≡ 0
is_numbered count number ne = grind (arith)

not_numbered : (count : ℕ) → is_unnumbered count count ≡ 1
not_numbered count = grind (arith)

unnumbered_set : (count : ℕ) (numbers : List ℕ) (class turn : ℕ) → class < length numbers → get_or numbers class 0 ≡ count → turn < count → unnumbered count (set numbers class turn) + 1 ≡ unnumbered count numbers
unfolding unnumbered
unnumbered_set count numbers class turn lt is few =
    let e : sum_by (is_unnumbered count) (set numbers class turn) + is_unnumbered count (get_or numbers class 0) ≡ sum_by (is_unnumbered count) numbers + is_unnumbered count turn = sum_by-set (is_unnumbered count) numbers class turn 0 lt in
    let one : is_unnumbered count (get_or numbers class 0) ≡ 1 = ap (is_unnumbered count) is ∙ not_numbered count in
    let none : is_unnumbered count turn ≡ 0 = is_numbered count turn (λ x. omega (arith, x, few)) in omega (arith, e, one, none)

none_unnumbered : (count : ℕ) (numbers : List ℕ) → ((c : ℕ) → c < length numbers → get_or numbers c 0 ≡ count → ⊥) → unnumbered count numbers ≡ 0
unfolding unnumbered
none_unnumbered count [] all = refl
none_unnumbered count (x ∷ xs) all =
    let e : sum_by (is_unnumbered count) (x ∷ xs) ≡ is_unnumbered count x + sum_by (is_unnumbered count) xs = sum_by-cons (is_unnumbered count) x xs in
    let here : is_unnumbered count x ≡ 0 = is_numbered count x (all 0 (omega arith)) in
    let rest : sum_by (is_unnumbered count) xs ≡ 0 = none_unnumbered count xs (λ c lt. all (suc c) (omega (arith, lt))) in omega (arith, e, here, rest)

all_unnumbered : (count n : ℕ) → unnumbered count (replicate n count) ≡ n
unfolding unnumbered
all_unnumbered count n = let e : sum_by (is_unnumbered count) (replicate n count) ≡ n * is_unnumbered count count = sum_by-replicate (is_unnumbered count) n count in
    let f : n * is_unnumbered count count ≡ n * 1 = ap (λ k. n * k) (not_numbered count) in omega (arith, e, f)

-- no class has a number yet
pub started : (edge before : ℕ → ℕ → Type 0) (count : ℕ) (numbers passed : List ℕ) → count ≤ 4160 → numbers ≡ replicate count count → passed ≡ replicate count 0 → AreTurns edge before count numbers passed 0
started edge before count numbers passed few en ep = record {
  size = ap length en ∙ length-replicate count count;
  passed_size = ap length ep ∙ length-replicate count 0;
  room = omega (arith, ap (unnumbered count) en, all_unnumbered count count);
  few = few;
  numbered = λ c lt. inr (ap (λ ns. get_or ns c 0) en ∙ get_or-replicate count c count 0 lt);
  each = λ t lt. absurd (omega (arith, lt));
  ready = λ c lt has. absurd (omega (arith, has));
  least = λ c o lt has. absurd (omega (arith, has));
  seen = λ c o lt below. absurd (let e : get_or passed c 0 ≡ 0 = ap (λ ns. get_or ns c 0) ep ∙ get_or-replicate count c 0 0 lt in omega (arith, below, e));
}

module _ (edge before : ℕ → ℕ → Type 0) (count : ℕ) (numbers passed : List ℕ) (turn : ℕ) (t : AreTurns edge before count numbers passed turn) where
  -- a class that had no turn before this one has no number
  pub open_class : (class : ℕ) → class < count → turn ≤ get_or numbers class 0 → get_or numbers class 0 ≡ count
  open_class class lt ge = elim (t.numbered class lt) [ inl has ↦ absurd (omega (arith, has, ge)) | inr none ↦ none ]

  -- all had their turns
  pub finished : ((c : ℕ) → c < count → get_or numbers c 0 < turn) → IsInTurn edge before count numbers
  finished all = record {
    size = t.size;
    below = λ c lt. omega (arith, all c lt, t.room);
    each = λ n lt. t.each n (omega (arith, lt, full));
    ready = λ c lt. t.ready c lt (all c lt);
    least = λ c o lc lo ne. t.least c o lc (all c lc) lo ne;
  }
    where
      full : turn ≡ count
      full = let e : unnumbered count numbers ≡ 0 = none_unnumbered count numbers (λ c lt is. (let has : get_or numbers c 0 < turn = all c (omega (arith, lt, t.size)) in omega (arith, has, is, t.room))) in omega (arith, e, t.room)

  module _ (class : ℕ) (lt : class < count) (is_ready : IsClassReady edge numbers turn class) where
    abbrev pub after : List ℕ
    after = set numbers class turn

    no_number : get_or numbers class 0 ≡ count
    no_number = open_class class lt is_ready.0

    in_numbers : class < length numbers
    in_numbers = omega (arith, lt, t.size)

    pub this : get_or after class 0 ≡ turn
    this = get_or-set_same numbers class turn 0 in_numbers

    pub others : (c : ℕ) → (c ≡ class → ⊥) → get_or after c 0 ≡ get_or numbers c 0
    others c ne = get_or-set_other numbers class c turn 0 ne

    -- the turn is one of the classes' number
    some_left : (numbers : List ℕ) → class < length numbers → get_or numbers class 0 ≡ count → unnumbered count numbers ≡ 0 → ⊥
    unfolding unnumbered
    some_left numbers within is none = let e : sum_by (is_unnumbered count) (set numbers class (count + 1)) + is_unnumbered count (get_or numbers class 0) ≡ sum_by (is_unnumbered count) numbers + is_unnumbered count (count + 1) = sum_by-set (is_unnumbered count) numbers class (count + 1) 0 within in
        let one : is_unnumbered count (get_or numbers class 0) ≡ 1 = ap (is_unnumbered count) is ∙ not_numbered count in
        let no_more : is_unnumbered count (count + 1) ≡ 0 = is_numbered count (count + 1) (λ x. omega (arith, x)) in omega (arith, e, one, no_more, none)

    pub in_time : turn < count
    in_time = elim (cases_lt turn count) [ inl early ↦ early | inr late ↦ absurd (some_left numbers in_numbers no_number (omega (arith, late, t.room))) ]

    pub small : turn < 4160
    small = omega (arith, in_time, t.few)

    -- what had a turn before some turn, before and after
    pub still : (n c : ℕ) → n ≤ turn → (get_or numbers c 0 < n) ↔ (get_or after c 0 < n)
    still n c le = elim (cases_eq c class) [
      | inl same ↦ (let a : get_or after c 0 ≡ turn = ap (λ k. get_or after k 0) same ∙ this in let b : get_or numbers c 0 ≡ count = ap (λ k. get_or numbers k 0) same ∙ no_number in ((λ h. absurd (omega (arith, h, b, le, in_time))), (λ h. absurd (omega (arith, h, a, le)))))
      | inr ne ↦ (let e : get_or after c 0 ≡ get_or numbers c 0 = others c ne in ((λ h. omega (arith, h, e)), (λ h. omega (arith, h, e))))
    ]

    ready_before : (n c : ℕ) → n ≤ turn → IsClassReady edge after n c → IsClassReady edge numbers n c
    ready_before n c le r = (elim (cases_lt (get_or numbers c 0) n) [ inl has ↦ absurd (let h : get_or after c 0 < n = (still n c le).0 has in omega (arith, h, r.0)) | inr ge ↦ ge ], λ o e. (still n o le).1 (r.1 o e))

    ready_after : (n c : ℕ) → n ≤ turn → IsClassReady edge numbers n c → IsClassReady edge after n c
    ready_after n c le r = (elim (cases_lt (get_or after c 0) n) [ inl has ↦ absurd (let h : get_or numbers c 0 < n = (still n c le).1 has in omega (arith, h, r.0)) | inr ge ↦ ge ], λ o e. (still n o le).0 (r.1 o e))

    one_less : unnumbered count after + 1 ≡ unnumbered count numbers
    one_less = unnumbered_set count numbers class turn in_numbers no_number in_time

    earlier : (c : ℕ) → c < count → get_or after c 0 < turn + 1 → (c ≡ class → ⊥) → get_or numbers c 0 < turn
    earlier c lc has ne = elim (t.numbered c lc) [ inl old ↦ old | inr none ↦ absurd (let e : get_or after c 0 ≡ get_or numbers c 0 = others c ne in omega (arith, e, none, has, in_time)) ]

    -- the class gets its number
    pub given : ((o : ℕ) → o < count → (o ≡ class → ⊥) → IsClassReady edge numbers turn o → before class o) → AreTurns edge before count after passed (turn + 1)
    given is_least = record {
      size = length-set numbers class turn ∙ t.size;
      passed_size = t.passed_size;
      room = omega (arith, t.room, one_less);
      few = t.few;
      numbered = λ c lc. elim (cases_eq c class) [
        | inl same ↦ inl (let a : get_or after c 0 ≡ turn = ap (λ k. get_or after k 0) same ∙ this in omega (arith, a))
        | inr ne ↦ elim (t.numbered c lc) [
          | inl has ↦ inl (let h : get_or after c 0 < turn = (still turn c (omega arith)).0 has in omega (arith, h))
          | inr none ↦ inr (others c ne ∙ none)
        ]
      ];
      each = λ n ln. elim (cases_lt n turn) [
        | inl old ↦ (let r = t.each n old in (r.0, r.1, others r.0 (λ e. (let x : get_or numbers r.0 0 ≡ count = ap (λ k. get_or numbers k 0) e ∙ no_number in omega (arith, x, r.2, old, in_time))) ∙ r.2))
        | inr new ↦ (let e : turn ≡ n = omega (arith, ln, new) in (class, lt, this ∙ e))
      ];
      ready = λ c lc has. elim (cases_eq c class) [
        | inl same ↦ (let a : turn ≡ get_or after c 0 = sym (ap (λ k. get_or after k 0) same ∙ this) in subst (λ n. IsClassReady edge after n c) a (subst (λ k. IsClassReady edge after turn k) (sym same) (ready_after turn class (omega arith) is_ready)))
        | inr ne ↦ (let e : get_or numbers c 0 ≡ get_or after c 0 = sym (others c ne) in let old : get_or numbers c 0 < turn = earlier c lc has ne in subst (λ n. IsClassReady edge after n c) e (ready_after (get_or numbers c 0) c (omega (arith, old)) (t.ready c lc old)))
      ];
      least = λ c o lc has lo nco r. elim (cases_eq c class) [
        | inl same ↦ (let a : get_or after c 0 ≡ turn = ap (λ k. get_or after k 0) same ∙ this in subst (λ k. before k o) (sym same) (is_least o lo (λ e. nco (e ∙ sym same)) (ready_before turn o (omega arith) (subst (λ n. IsClassReady edge after n o) a r))))
        | inr ne ↦ (let e : get_or after c 0 ≡ get_or numbers c 0 = others c ne in let old : get_or numbers c 0 < turn = earlier c lc has ne in t.least c o lc old lo nco (ready_before (get_or numbers c 0) o (omega (arith, old)) (subst (λ n. IsClassReady edge after n o) e r)))
      ];
      seen = λ c o lc lo e. (let h : get_or after o 0 < turn = (still turn o (omega arith)).0 (t.seen c o lc lo e) in omega (arith, h));
    }
