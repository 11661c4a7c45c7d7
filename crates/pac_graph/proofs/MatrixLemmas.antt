-- Bits of a matrix as bits of its words, and the graph that a matrix stands for: its edges are its bits.
use Rattle.std.proofs.Common.{◌≡◌, ◌≢◌, ◌⊎◌, ◌↔◌, ℕ, ◌+◌, ◌*◌, ◌/◌, ◌%◌, ◌^◌, ◌<◌, ◌≤◌, ◌==◌, Bool, false, IsTrue, List, [], length, get_or, set, sym, ap, ◌∙◌, subst, inl, inr, arith, get_or-set_other, get_or-set_same, w64, bit_or, mul_comm, replicate, ◌-◌}
use Rattle.std.proofs.lemmas.Nat.Bits.{bit_at_set_same, bit_at_set_other, bit_at_above, bit_at-zero, bit_at-trailing_zeros}
use Rattle.std.proofs.lemmas.List.{get_or-replicate}
use Rattle.std.proofs.lemmas.List.FromFn.{get_or-map-range_with_len}
use Rattle.std.proofs.lemmas.Bool.{cases_eq, cases_lt}
use Rattle.std.proofs.lemmas.Nat.{pow_pos, pow-add, shr_le, mul-add-lt, div-mul-add, mod-mul-add}
use Rattle.std.proofs.lemmas.Grind.{get_or_default_zero}
use Rattle.std.proofs.Math.Nat.{div-lt_iff_lt-mul, div-div-eq-div-mul}
use Rattle.std.specs.Int.{bit_at, trailing_zeros}
use Rattle.pac_graph.specs.declared.matrix.Matrix.{Matrix}
use Rattle.pac_graph.specs.Graph.{HasEdge}
use Rattle.pac_graph.specs.Matrix.{bit_of, HasBit, row_of, rows_of, graph_of}

-- the word of a bit, where a row has that many words
abbrev pub offset : ℕ → ℕ → ℕ → ℕ
offset width a b = a * width + b / 64

-- a bit of the first n rows, which is set
abbrev pub IsBit : ℕ → ℕ → List ℕ → ℕ → ℕ → Type 0
IsBit n width words a b = (a < n) × (b < n) × (bit_of width words a b ≡ 1)

-- a column has a word in its row
in_row : (n width b : ℕ) → n ≤ 64 * width → b < n → b / 64 < width
in_row n width b wide inb = omega arith

-- a row's word is one of all
pub offset_in : (n width a b : ℕ) → n ≤ 64 * width → a < n → b < n → offset width a b < n * width
offset_in n width a b wide ina inb = subst (λ m. offset width a b < m) (mul_comm width n) (mul-add-lt a width (b / 64) n ina (in_row n width b wide inb))

-- it is that of one row and one word in a row
same_row : (n width a b c d : ℕ) → n ≤ 64 * width → b < n → d < n → offset width a b ≡ offset width c d → (a ≡ c) × (b / 64 ≡ d / 64)
same_row n width a b c d wide inb ind e = (sym (div-mul-add a width (b / 64) left) ∙ (ap (λ x. x / width) e ∙ div-mul-add c width (d / 64) right), sym (mod-mul-add a width (b / 64) left) ∙ (ap (λ x. x % width) e ∙ mod-mul-add c width (d / 64) right))
  where
    left : b / 64 < width
    left = in_row n width b wide inb

    right : d / 64 < width
    right = in_row n width d wide ind

same_column : (b d : ℕ) → b / 64 ≡ d / 64 → b % 64 ≡ d % 64 → b ≡ d
same_column b d e f = omega arith

-- no bit of words that are all 0 is set
pub no_bit : (n width m a b : ℕ) → n ≤ 64 * width → m ≡ n * width → IsBit n width (replicate m 0) a b → ⊥
no_bit n width m a b wide e (ina, inb, bit) = absurd (clear (subst (λ z. bit_at z (b % 64) ≡ 1) (get_or-replicate m (offset width a b) 0 0 (omega (arith, offset_in n width a b wide ina inb))) bit))
  where
    clear : bit_at 0 (b % 64) ≡ 1 → ⊥
    clear h = omega (arith, h, bit_at-zero (b % 64))

-- a word that gets a bit: one bit more is set
pub set_bit : (n width : ℕ) (words : List ℕ) (from to x y : ℕ) → n ≤ 64 * width → length words ≡ n * width → from < n → to < n → x ≡ get_or words (offset width from to) x → y ≡ bit_or x (1 * 2 ^ (to % 64) % 2 ^ 64) → (a b : ℕ) → IsBit n width (set words (offset width from to) y) a b ↔ (IsBit n width words a b ⊎ ((a ≡ from) × (b ≡ to)))
set_bit n width words from to x y wide len inf int ex0 ey a b = (go, back)
  where
    i : ℕ
    i = offset width from to

    at : ℕ
    at = to % 64

    small : at < 64
    small = omega arith

    in_words : i < length words
    in_words = omega (arith, offset_in n width from to wide inf int)

    ex : x ≡ get_or words i 0
    ex = ex0 ∙ get_or_default_zero words i x in_words

    now : get_or (set words i y) i 0 ≡ y
    now = get_or-set_same words i y 0 in_words

    same : bit_at y at ≡ 1
    same = subst (λ z. bit_at z at ≡ 1) (sym ey) (bit_at_set_same w64 x at small)

    other : (j : ℕ) → j ≢ at → bit_at y j ≡ bit_at (get_or words i 0) j
    other j ne = subst (λ z. bit_at z j ≡ bit_at (get_or words i 0) j) (sym ey) (bit_at_set_other w64 x at small j ne ∙ ap (λ z. bit_at z j) ex)

    -- a bit of the word that was written
    written : offset width a b ≡ i → (bit_of width (set words i y) a b ≡ 1) ↔ (bit_at y (b % 64) ≡ 1)
    written e = let is : bit_of width (set words i y) a b ≡ bit_at y (b % 64) = ap (λ k. bit_at (get_or (set words i y) k 0) (b % 64)) e ∙ ap (λ z. bit_at z (b % 64)) now in
        ((λ h. sym is ∙ h), (λ h. is ∙ h))

    go : IsBit n width (set words i y) a b → IsBit n width words a b ⊎ ((a ≡ from) × (b ≡ to))
    go (ina, inb, bit) = elim (cases_eq (offset width a b) i) [
      | inr ne ↦ inl (ina, inb, subst (λ z. bit_at z (b % 64) ≡ 1) (get_or-set_other words i (offset width a b) y 0 ne) bit)
      | inl e ↦ elim (cases_eq (b % 64) at) [
        | inl f ↦ (let r = same_row n width a b from to wide inb int e in inr (r.0, same_column b to r.1 f))
        | inr ne ↦ inl (ina, inb, ap (λ k. bit_at (get_or words k 0) (b % 64)) e ∙ (sym (other (b % 64) ne) ∙ (written e).0 bit))
      ]
    ]

    kept : IsBit n width words a b → IsBit n width (set words i y) a b
    kept (ina, inb, bit) = elim (cases_eq (offset width a b) i) [
      | inr ne ↦ (ina, inb, subst (λ z. bit_at z (b % 64) ≡ 1) (sym (get_or-set_other words i (offset width a b) y 0 ne)) bit)
      | inl e ↦ (
        ina,
        inb,
        (written e).1 (elim (cases_eq (b % 64) at) [
          | inl f ↦ subst (λ k. bit_at y k ≡ 1) (sym f) same
          | inr ne ↦ other (b % 64) ne ∙ (ap (λ k. bit_at (get_or words k 0) (b % 64)) (sym e) ∙ bit)
        ]),
      )
    ]

    back : IsBit n width words a b ⊎ ((a ≡ from) × (b ≡ to)) → IsBit n width (set words i y) a b
    back (inl h) = kept h
    back (inr (ea, eb)) =
        let e : offset width a b ≡ i = ap (λ x. x * width + b / 64) ea ∙ ap (λ x. from * width + x / 64) eb in
        let f : to % 64 ≡ b % 64 = omega (arith, eb) in
        (omega arith, omega arith, (written e).1 (subst (λ k. bit_at y k ≡ 1) f same))

-- a bit of a shifted word
shifted : (w s k : ℕ) → bit_at (w / 2 ^ s) k ≡ bit_at w (s + k)
shifted w s k = ap (λ x. x % 2) (div-div-eq-div-mul w (2 ^ s) (2 ^ k) ∙ ap (λ d. w / d) (sym (pow-add 2 s k)))

-- a word that is 0 from a position on has no bit there
pub none_from : (w s : ℕ) → w / 2 ^ s ≡ 0 → (j : ℕ) → s ≤ j → bit_at w j ≡ 0
none_from w s none j le = bit_at_above w s j small le
  where
    small : w < 2 ^ s
    small = let lt : w < 1 * 2 ^ s = (div-lt_iff_lt-mul {k = 2 ^ s} {x = w} {y = 1} (pow_pos s)).0 (omega (arith, none)) in omega arith

-- the lowest bit from a position on, by that of the shifted word
pub lowest_bit : (w s : ℕ) → w < 2 ^ 64 → (w / 2 ^ s ≡ 0 → ⊥) → (s + trailing_zeros w64 (w / 2 ^ s) < 64) × (bit_at w (s + trailing_zeros w64 (w / 2 ^ s)) ≡ 1) × ((j : ℕ) → s ≤ j → j < s + trailing_zeros w64 (w / 2 ^ s) → bit_at w j ≡ 0)
lowest_bit w s fits some = (within, one, clear)
  where
    z : ℕ
    z = trailing_zeros w64 (w / 2 ^ s)

    lowest : (z < 64) × (bit_at (w / 2 ^ s) z ≡ 1) × ((i : ℕ) → i < z → bit_at (w / 2 ^ s) i ≡ 0)
    lowest = bit_at-trailing_zeros w64 (w / 2 ^ s) (omega (arith, some)) (omega (arith, shr_le w s, fits))

    one : bit_at w (s + z) ≡ 1
    one = sym (shifted w s z) ∙ lowest.1

    within : s + z < 64
    within = elim (cases_lt (s + z) 64) [
      | inl lt ↦ lt
      | inr ge ↦ absurd (omega (arith, one, bit_at_above w 64 (s + z) fits ge))
    ]

    clear : (j : ℕ) → s ≤ j → j < s + z → bit_at w j ≡ 0
    clear j ge lt = let e : s + (j - s) ≡ j = omega arith in ap (λ k. bit_at w k) (sym e) ∙ (sym (shifted w s (j - s)) ∙ lowest.2 (j - s) (omega arith))

-- a bit of the row, in the word of another
pub row_bit : (n width : ℕ) (words : List ℕ) (from to b w : ℕ) → n ≤ 64 * width → length words ≡ n * width → from < n → to < n → w ≡ get_or words (offset width from to) w → b / 64 ≡ to / 64 → bit_of width words from b ≡ bit_at w (b % 64)
row_bit n width words from to b w wide len hf ht ew row = ap (λ k. bit_at (get_or words (from * width + k) 0) (b % 64)) row ∙ ap (λ x. bit_at x (b % 64)) (sym (ew ∙ get_or_default_zero words (offset width from to) w (omega (arith, offset_in n width from to wide hf ht))))

-- no bit of the row is set before a position in the word of `to`, if none was before `to` and none is in the word
pub clear_until : (n width : ℕ) (words : List ℕ) (from at to w p : ℕ) → n ≤ 64 * width → length words ≡ n * width → from < n → to < n → w ≡ get_or words (offset width from to) w → p ≤ 64 → ((j : ℕ) → to % 64 ≤ j → j < p → bit_at w j ≡ 0) → ((b : ℕ) → at ≤ b → b < to → IsBit n width words from b → ⊥) → (b : ℕ) → at ≤ b → b < 64 * (to / 64) + p → IsBit n width words from b → ⊥
clear_until n width words from at to w p wide len hf ht ew in_word clear before b ge lt h = elim (cases_lt b to) [
  | inl early ↦ before b ge early h
  | inr late ↦ (let e : bit_of width words from b ≡ bit_at w (b % 64) = row_bit n width words from to b w wide len hf ht ew (omega (arith, late, lt, in_word)) in
      let none : bit_at w (b % 64) ≡ 0 = clear (b % 64) (omega (arith, late, lt, in_word)) (omega (arith, late, lt, in_word)) in
      omega (arith, h.2, e, none))
]

-- a bit of the word of `to` is one of the row
pub set_in_row : (n width : ℕ) (words : List ℕ) (from to w p : ℕ) → n ≤ 64 * width → length words ≡ n * width → from < n → to < n → w ≡ get_or words (offset width from to) w → p < 64 → bit_at w p ≡ 1 → 64 * (to / 64) + p < n → IsBit n width words from (64 * (to / 64) + p)
set_in_row n width words from to w p wide len hf ht ew in_word one lt =
    let column : (64 * (to / 64) + p) % 64 ≡ p = omega (arith, in_word) in
    (hf, lt, row_bit n width words from to (64 * (to / 64) + p) w wide len hf ht ew (omega (arith, in_word)) ∙ (ap (λ k. bit_at w k) column ∙ one))

-- what the graph of some words says of a pair of nodes
looked_up : (n width : ℕ) (words : List ℕ) (a b : ℕ) → a < n → b < n → get_or (get_or (rows_of n width words) a []) b false ≡ (bit_of width words a b == 1)
looked_up n width words a b ina inb =
    ap (λ (row : List Bool). get_or row b false) (get_or-map-range_with_len (λ x. row_of n width words x) 0 n a a [] ina (omega arith))
    ∙ get_or-map-range_with_len (λ x. bit_of width words a x == 1) 0 n b b false inb (omega arith)

is_one : (x : ℕ) → IsTrue (x == 1) ↔ (x ≡ 1)
is_one x = grind (arith)

-- an edge is a bit that is set
pub edge_is_bit : (m : Matrix) (a b : ℕ) → HasEdge (graph_of m) a b ↔ HasBit m a b
unfolding HasEdge HasBit
edge_is_bit m a b = ((λ (ina, inb, e). (ina, inb, (is_one (bit_of m.width m.words.items a b)).0 (subst IsTrue (looked_up m.nodes m.width m.words.items a b ina inb) e))), (λ (ina, inb, e). (ina, inb, subst IsTrue (sym (looked_up m.nodes m.width m.words.items a b ina inb)) ((is_one (bit_of m.width m.words.items a b)).1 e))))
