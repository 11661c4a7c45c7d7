-- The first byte that is a line feed stands where a test of one byte after another finds it.
use Rattle.std.proofs.Common.{◌≡◌, ◌+◌, ◌<◌, ℕ, zero, suc, Bool, true, false, cond, List, [], ◌∷◌, length, Option, Some, None, eqb, ltb, refl, arith}
use Rattle.std.specs.Prelude.{slice_index}
use Rattle.std.specs.List.{position_or_len, position}
use Rattle.std.proofs.lemmas.Bool.{ltb-true, ltb-false}
use Rattle.memchr.specs.Find.{IsFirstByte, is_byte}

abbrev end : List ℕ → ℕ
end text = position_or_len (λ b. eqb b 10) text

not_true : (b : Bool) → ¬ (b ≡ true) → b ≡ false
not_true true never = absurd (never refl)
not_true false never = refl

end-first : (text : List ℕ) (k : ℕ) → k < length text → ((j : ℕ) → j < k → ¬ (eqb (slice_index text j) 10 ≡ true)) → eqb (slice_index text k) 10 ≡ true → end text ≡ k
end-first [] k within before here = absurd (omega arith)
end-first (b ∷ bs) zero within before here = rw here refl
end-first (b ∷ bs) (suc k) within before here =
    let more : 1 + k ≡ suc k = omega arith in
    rw (not_true _ (before zero (omega arith)), end-first bs k (omega arith) (λ j h. before (suc j) (omega arith)) here) more

end-none : (text : List ℕ) → ((j : ℕ) → j < length text → ¬ (eqb (slice_index text j) 10 ≡ true)) → end text ≡ length text
end-none [] nowhere = refl
end-none (b ∷ bs) nowhere =
    let more : 1 + length bs ≡ suc (length bs) = omega arith in
    rw (not_true _ (nowhere zero (omega arith)), end-none bs (λ j h. nowhere (suc j) (omega arith))) more

found_at : (e n k : ℕ) → e ≡ k → k < n → ◌≡◌ {A = Option ℕ} (Some k) (cond (ltb e n) (Some e) None)
found_at e n k same within = by (ltb e n) refl
  where
    by : (t : Bool) → ltb e n ≡ t → ◌≡◌ {A = Option ℕ} (Some k) (cond t (Some e) None)
    by true is = rw same refl
    by false is = absurd (omega (arith, ltb-false _ _ is, same, within))

not_found : (e n : ℕ) → e ≡ n → ◌≡◌ {A = Option ℕ} None (cond (ltb e n) (Some e) None)
not_found e n same = by (ltb e n) refl
  where
    by : (t : Bool) → ltb e n ≡ t → ◌≡◌ {A = Option ℕ} None (cond t (Some e) None)
    by true is = absurd (omega (arith, ltb-true _ _ is, same))
    by false is = refl

pub first_feed : (text : List ℕ) (found : Option ℕ) → IsFirstByte (is_byte 10) text found → found ≡ position (λ b. eqb b 10) text
first_feed text None nowhere = not_found (end text) (length text) (end-none text (λ j h. nowhere j (omega arith) h))
first_feed text (Some k) first = found_at (end text) (length text) k (end-first text k first.0.high (λ j h. first.0.before j (omega arith) h) first.1) first.0.high
