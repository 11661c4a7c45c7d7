-- From the begin of a line up to the next line feed, no other line begins.
use Rattle.std.proofs.Common.{◌≡◌, ◌+◌, ◌-◌, ◌<◌, ◌≤◌, ◌&&◌, ℕ, zero, suc, Bool, true, false, cond, not, List, [], ◌∷◌, drop, length, Some, None, eqb, ltb, refl, ◌∙◌, arith}
use Rattle.std.specs.List.{position}
use Rattle.std.proofs.lemmas.Bool.{ltb-true, ltb-false}
use Rattle.pac_script.specs.Lines.{begins_line, begins_with_mark, is_mark_at, HasNoMark}
use Rattle.pac_script.proofs.LineDivision.{end, found, none_found}

-- after the bytes before the first line feed no line begins
pub inside : (bs : List ℕ) (k : ℕ) → k < end bs → begins_line bs (suc k) ≡ false
inside [] k h = absurd (omega arith)
inside (b ∷ bs) zero h = by (eqb b 10) h
  where
    by : (e : Bool) → 0 < cond (not e) (1 + end bs) 0 → e ≡ false
    by true h = absurd (omega arith)
    by false h = refl
inside (b ∷ bs) (suc k) h = inside bs k (by (eqb b 10) h)
  where
    by : (e : Bool) → suc k < cond (not e) (1 + end bs) 0 → k < end bs
    by true h = absurd (omega arith)
    by false h = omega arith

-- after the first line feed one begins
pub after_feed : (bs : List ℕ) → end bs < length bs → begins_line bs (suc (end bs)) ≡ true
after_feed [] h = absurd (omega arith)
after_feed (b ∷ bs) h = by (eqb b 10) refl (after_feed bs) h
  where
    by : (e : Bool) → eqb b 10 ≡ e → (end bs < length bs → begins_line bs (suc (end bs)) ≡ true) → cond (not e) (1 + end bs) 0 < suc (length bs)
        → begins_line (b ∷ bs) (suc (cond (not e) (1 + end bs) 0)) ≡ true
    by true is more h = is
    by false is more h =
        let one : 1 + end bs ≡ suc (end bs) = omega arith in
        rw one (more (omega arith))

-- offsets in the rest of a text
pub in_rest : (text : List ℕ) (at k : ℕ) → begins_line text (suc (at + k)) ≡ begins_line (drop at text) (suc k)
in_rest text zero k =
    let same : 0 + k ≡ k = omega arith in
    rw same refl
in_rest [] (suc at) k = refl
in_rest (b ∷ bs) (suc at) k =
    let same : suc at + k ≡ suc (at + k) = omega arith in
    rw same (in_rest bs at k)

-- in bytes without a line feed no second line begins
pub all_inside : (bs : List ℕ) → length bs ≤ end bs → (k : ℕ) → begins_line bs (suc k) ≡ false
all_inside [] h k = refl
all_inside (b ∷ bs) h zero = by (eqb b 10) h
  where
    by : (e : Bool) → suc (length bs) ≤ cond (not e) (1 + end bs) 0 → e ≡ false
    by true h = absurd (omega arith)
    by false h = refl
all_inside (b ∷ bs) h (suc k) = all_inside bs (by (eqb b 10) h) k
  where
    by : (e : Bool) → suc (length bs) ≤ cond (not e) (1 + end bs) 0 → length bs ≤ end bs
    by true h = absurd (omega arith)
    by false h = omega arith

neither : (a b : Bool) → b ≡ false → (a && b) ≡ false
neither true b is = is
neither false b is = refl

-- no mark stands at this offset, nor before it
abbrev pub IsUnmarked : List ℕ → ℕ → Type 0
IsUnmarked text at = (begins_with_mark (drop at text) ≡ false) × ((j : ℕ) → j < at → is_mark_at text j ≡ false)

-- nor where no line begins after it
beyond : (text : List ℕ) (at j : ℕ) → IsUnmarked text at → (at < j → begins_line text j ≡ false) → is_mark_at text j ≡ false
beyond text at j un later = by (ltb j at) refl (ltb at j) refl
  where
    by : (a : Bool) → ltb j at ≡ a → (b : Bool) → ltb at j ≡ b → is_mark_at text j ≡ false
    by true is b other = un.1 j (ltb-true _ _ is)
    by false is true other = rw (later (ltb-true _ _ other)) refl
    by false is false other =
        let same : j ≡ at = omega (arith, ltb-false _ _ is, ltb-false _ _ other) in
        let here : begins_with_mark (drop j text) ≡ false = rw same un.0 in
        neither (begins_line text j) (begins_with_mark (drop j text)) here

later_line : (text : List ℕ) (at j : ℕ) → at < j → begins_line (drop at text) (suc (j - (at + 1))) ≡ false → begins_line text j ≡ false
later_line text at j h none =
    let same : j ≡ suc (at + (j - (at + 1))) = omega arith in
    rw same (in_rest text at (j - (at + 1)) ∙ none)

pub none_left : (text : List ℕ) (at : ℕ) → IsUnmarked text at → None ≡ position (λ b. eqb b 10) (drop at text) → HasNoMark text
none_left text at un none j =
    beyond text at j un (λ h. later_line text at j h (all_inside (drop at text) (none_found (drop at text) none) (j - (at + 1))))

pub next_unmarked : (text : List ℕ) (at n : ℕ) → IsUnmarked text at → Some n ≡ position (λ b. eqb b 10) (drop at text) → (j : ℕ) → j < at + (n + 1) → is_mark_at text j ≡ false
next_unmarked text at n un some j below =
    beyond text at j un (λ h. later_line text at j h (inside (drop at text) (j - (at + 1)) (omega (arith, (found (drop at text) n some).0))))

pub next_begins : (text : List ℕ) (at n : ℕ) → Some n ≡ position (λ b. eqb b 10) (drop at text) → begins_line text (at + (n + 1)) ≡ true
next_begins text at n some =
    let is : n ≡ end (drop at text) = (found (drop at text) n some).0 in
    let same : at + (n + 1) ≡ suc (at + n) = omega arith in
    rw (same, is) (in_rest text at (end (drop at text)) ∙ after_feed (drop at text) (found (drop at text) n some).1)
