-- Lists of codecs, one after another, are codecs.
use Rattle.std.proofs.Common.{◌≡◌, ◌∙◌, ℕ, zero, suc, ◌+◌, List, [], ◌∷◌, ◌++◌, length, Result, Ok, refl, sym, ap, subst, append_assoc, arith}
use Rattle.std.specs.List.{flat_map, AllZip, AllByRecursion}
use Rattle.std.proofs.lemmas.List.{length-append}
use Rattle.std.proofs.lemmas.List.Concat.{flat_map-cons}
use Rattle.pac_value.specs.Expressions.{◌>>=◌}
use Rattle.pac_bytes.specs.Reading.{Rest, times, along}
use Rattle.pac_bytes.specs.Readers.{IsAtStart}
use Rattle.pac_bytes.proofs.Results.{bind_ok, bind_of_ok, ok_same}
use Rattle.pac_bytes.proofs.Bytes.{IsBytes-after}
use Rattle.pac_bytes.proofs.Codec.{IsCodec, ended, same}

-- the list with one more at the start, and what is left
abbrev with_first : {A F : Type 0} → A → List A × Rest → Result (List A × Rest) F
with_first x xs = Ok (x ∷ xs.0, xs.1)

-- after one, the others
abbrev then_others : {A F : Type 0} → (Rest → Result (List A × Rest) F) → A × Rest → Result (List A × Rest) F
then_others read x = read x.1 >>= with_first x.0

-- One, and then others: a list that isn't empty, of a form that says so.
cons_codec : {A F : Type 0} (one_form : A → Type 0) (others_form : List A → Type 0) (spell : A → List ℕ) (read_one : Rest → Result (A × Rest) F) (read_others : Rest → Result (List A × Rest) F)
    → IsCodec one_form spell read_one → IsCodec others_form (λ xs. flat_map spell xs) read_others
    → (form : List A → Type 0) → ((x : A) (xs : List A) → form (x ∷ xs) → one_form x × others_form xs) → ((x : A) (xs : List A) → one_form x × others_form xs → form (x ∷ xs)) → (form [] → ⊥)
    → IsCodec form (λ xs. flat_map spell xs) (λ s. read_one s >>= then_others read_others)
cons_codec {A} {F} one_form others_form spell read_one read_others one others form parts joined some = record {
  again = λ xs at more fits. again_of xs at more fits;
  found = λ s xs t are e.
      let steps = bind_ok (read_one s) (then_others read_others) (xs, t) e in
      let more = bind_ok (read_others steps.0.1) (with_first steps.0.0) (xs, t) steps.2 in
      let prefix = one.found s steps.0.0 steps.0.1 are steps.1 in
      let back = others.found steps.0.1 more.0.0 more.0.1 (IsBytes-after (spell steps.0.0) steps.0.1.bytes s.bytes prefix.bytes are) more.1 in
      let both : (steps.0.0 ∷ more.0.0, more.0.1) ≡ (xs, t) = ok_same {F = F} (steps.0.0 ∷ more.0.0, more.0.1) (xs, t) more.2 in
      subst (λ (p : List A × Rest). IsAtStart form (λ ys. flat_map spell ys) s p.0 p.1) both (record {
        bytes = prefix.bytes ∙ ap (λ (x : List ℕ). spell steps.0.0 ++ x) back.bytes ∙ sym (append_assoc (spell steps.0.0) (flat_map spell more.0.0) more.0.1.bytes) ∙ ap (λ (x : List ℕ). x ++ more.0.1.bytes) (sym (flat_map-cons spell steps.0.0 more.0.0));
        offset = omega (arith, length-append (spell steps.0.0) (flat_map spell more.0.0), ap (λ (x : List ℕ). length x) (flat_map-cons spell steps.0.0 more.0.0), prefix.offset, back.offset);
        form = joined steps.0.0 more.0.0 (prefix.form, back.form);
      });
}
  where
    again_of : (xs : List A) (at : ℕ) (more : List ℕ) → form xs → (read_one (record { at = at; bytes = flat_map spell xs ++ more }) >>= then_others read_others) ≡ Ok (xs, record { at = at + length (flat_map spell xs); bytes = more })
    again_of [] at more fits = absurd (some fits)
    again_of (x ∷ xs) at more fits =
        let p = parts x xs fits in
        let words : flat_map spell (x ∷ xs) ++ more ≡ spell x ++ (flat_map spell xs ++ more) = ap (λ (y : List ℕ). y ++ more) (flat_map-cons spell x xs) ∙ append_assoc (spell x) (flat_map spell xs) more in
        let offset : at + length (spell x) + length (flat_map spell xs) ≡ at + length (flat_map spell (x ∷ xs)) = omega (arith, length-append (spell x) (flat_map spell xs), ap (λ (y : List ℕ). length y) (flat_map-cons spell x xs)) in
        ap (λ (b : List ℕ). read_one (record { at = at; bytes = b }) >>= then_others read_others) words
        ∙ bind_of_ok _ _ (then_others read_others) _ (one.again x at (flat_map spell xs ++ more) p.0)
        (bind_of_ok _ _ (with_first x) _ (others.again xs (at + length (spell x)) more p.1)
        (ap (λ (n : ℕ). Ok (x ∷ xs, record { at = n; bytes = more })) offset))

-- the empty list, of a form that no other has
nil_codec : {A F : Type 0} (form : List A → Type 0) (spell : A → List ℕ) → form [] → ((x : A) (xs : List A) → form (x ∷ xs) → ⊥) → IsCodec {A = List A} {F = F} form (λ xs. flat_map spell xs) (λ s. Ok ([], s))
nil_codec {A} {F} form spell nothing some = same _ _ _ _ _ to (λ xs e. subst form (sym e) nothing) words (ended [])
  where
    to : (xs : List A) → form xs → xs ≡ []
    to [] fits = refl
    to (x ∷ xs) fits = absurd (some x xs fits)

    words : (xs : List A) → form xs → [] ≡ flat_map spell xs
    words [] fits = refl
    words (x ∷ xs) fits = absurd (some x xs fits)

-- one for each key, of the form that the key says
pub along_codec : {A F K : Type 0} (form : K → A → Type 0) (spell : A → List ℕ) (read : K → Rest → Result (A × Rest) F) → ((k : K) → IsCodec (form k) spell (read k))
    → (ks : List K) → IsCodec (λ xs. AllZip form ks xs) (λ xs. flat_map spell xs) (along read ks)
unfolding along
along_codec form spell read each [] = nil_codec _ spell tt (λ x xs h. h)
along_codec form spell read each (k ∷ ks) = cons_codec (form k) (λ xs. AllZip form ks xs) spell (read k) (along read ks) (each k) (along_codec form spell read each ks) _ (λ x xs h. h) (λ x xs h. h) (λ h. h)

abbrev AreMany : {A : Type 0} → (A → Type 0) → ℕ → List A → Type 0
AreMany form zero [] = Unit {0}
AreMany form zero (x ∷ xs) = ⊥
AreMany form (suc n) [] = ⊥
AreMany form (suc n) (x ∷ xs) = form x × AreMany form n xs

-- that many, each of this form
abbrev AllOf : {A : Type 0} → (A → Type 0) → ℕ → List A → Type 0
AllOf form n xs = AllByRecursion form xs × (length xs ≡ n)

are_many : {A : Type 0} (form : A → Type 0) (n : ℕ) (xs : List A) → AllOf form n xs → AreMany form n xs
are_many form zero [] h = tt
are_many form zero (x ∷ xs) h = absurd (omega (arith, h.1))
are_many form (suc n) [] h = absurd (omega (arith, h.1))
are_many form (suc n) (x ∷ xs) h = (h.0.0, are_many form n xs (h.0.1, omega (arith, h.1)))

all_of_many : {A : Type 0} (form : A → Type 0) (n : ℕ) (xs : List A) → AreMany form n xs → AllOf form n xs
all_of_many form zero [] h = (tt, refl)
all_of_many form zero (x ∷ xs) h = absurd h
all_of_many form (suc n) [] h = absurd h
all_of_many form (suc n) (x ∷ xs) h = let others = all_of_many form n xs h.1 in ((h.0, others.0), omega (arith, others.1))

many_codec : {A F : Type 0} (form : A → Type 0) (spell : A → List ℕ) (read : Rest → Result (A × Rest) F) → IsCodec form spell read
    → (n : ℕ) → IsCodec (AreMany form n) (λ xs. flat_map spell xs) (times read n)
unfolding times
many_codec form spell read one zero = nil_codec _ spell tt (λ x xs h. h)
many_codec form spell read one (suc n) = cons_codec form (AreMany form n) spell read (times read n) one (many_codec form spell read one n) _ (λ x xs h. h) (λ x xs h. h) (λ h. h)

pub times_codec : {A F : Type 0} (form : A → Type 0) (spell : A → List ℕ) (read : Rest → Result (A × Rest) F) → IsCodec form spell read
    → (n : ℕ) → IsCodec (λ xs. AllByRecursion form xs × (length xs ≡ n)) (λ xs. flat_map spell xs) (times read n)
times_codec form spell read one n = same _ _ _ _ (times read n) (are_many form n) (all_of_many form n) (λ xs h. refl) (many_codec form spell read one n)
