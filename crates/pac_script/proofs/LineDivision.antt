-- The first line of a text, and those after it.
use Rattle.std.proofs.Common.{◌≡◌, ◌+◌, ◌<◌, ◌≤◌, ℕ, suc, Bool, true, false, cond, not, List, [], ◌∷◌, take, drop, length, Option, Some, None, eqb, ltb, refl, ap, arith}
use Rattle.std.specs.List.{position_or_len, position}
use Rattle.std.proofs.lemmas.Bool.{ltb-true, ltb-false}
use Rattle.pac_script.specs.Lines.{lines, with_first}

-- where the first line ends
abbrev pub end : List ℕ → ℕ
end text = position_or_len (λ b. eqb b 10) text

pub lines-feed : (text : List ℕ) → end text < length text → lines text ≡ take (end text) text ∷ lines (drop (end text + 1) text)
lines-feed [] h = absurd (omega arith)
lines-feed (b ∷ bs) h = by (eqb b 10) (lines-feed bs) h
  where
    by : (e : Bool) → (end bs < length bs → lines bs ≡ take (end bs) bs ∷ lines (drop (end bs + 1) bs)) → cond (not e) (1 + end bs) 0 < suc (length bs)
        → cond e ([] ∷ lines bs) (with_first b (lines bs)) ≡ take (cond (not e) (1 + end bs) 0) (b ∷ bs) ∷ lines (drop (cond (not e) (1 + end bs) 0 + 1) (b ∷ bs))
    by true more h = refl
    by false more h =
        let inner : end bs < length bs = omega arith in
        let one : 1 + end bs ≡ suc (end bs) = omega arith in
        let two : 1 + end bs + 1 ≡ suc (end bs + 1) = omega arith in
        rw (two, one) (ap (with_first b) (more inner))

pub lines-end : (text : List ℕ) → length text ≤ end text → lines text ≡ text ∷ []
lines-end [] h = refl
lines-end (b ∷ bs) h = by (eqb b 10) (lines-end bs) h
  where
    by : (e : Bool) → (length bs ≤ end bs → lines bs ≡ bs ∷ []) → suc (length bs) ≤ cond (not e) (1 + end bs) 0 → cond e ([] ∷ lines bs) (with_first b (lines bs)) ≡ (b ∷ bs) ∷ []
    by true more h = absurd (omega arith)
    by false more h = ap (with_first b) (more (omega arith))

offset_is : (a b : ℕ) → ◌≡◌ {A = Option ℕ} (Some a) (Some b) → a ≡ b
offset_is a b e = cc

-- what a search says that finds a line feed
pub found : (bs : List ℕ) (n : ℕ) → Some n ≡ position (λ b. eqb b 10) bs → (n ≡ end bs) × (end bs < length bs)
found bs n e = by (ltb (end bs) (length bs)) refl e
  where
    by : (t : Bool) → ltb (end bs) (length bs) ≡ t → ◌≡◌ {A = Option ℕ} (Some n) (cond t (Some (end bs)) None) → (n ≡ end bs) × (end bs < length bs)
    by true is e = (offset_is n (end bs) e, ltb-true _ _ is)
    by false is e = absurd cc

-- what a search says that finds none
pub none_found : (bs : List ℕ) → None ≡ position (λ b. eqb b 10) bs → length bs ≤ end bs
none_found bs e = by (ltb (end bs) (length bs)) refl e
  where
    by : (t : Bool) → ltb (end bs) (length bs) ≡ t → ◌≡◌ {A = Option ℕ} None (cond t (Some (end bs)) None) → length bs ≤ end bs
    by true is e = absurd cc
    by false is e = ltb-false _ _ is

pub lines-none : (text : List ℕ) → None ≡ position (λ b. eqb b 10) text → lines text ≡ text ∷ []
lines-none text e = lines-end text (none_found text e)

pub lines-some : (text : List ℕ) (at : ℕ) → Some at ≡ position (λ b. eqb b 10) text → lines text ≡ take at text ∷ lines (drop (at + 1) text)
lines-some text at e =
    let p = found text at e in
    let same : at ≡ end text = p.0 in
    rw same (lines-feed text p.1)
