-- What a codec is, and how codecs are made of smaller ones.
--
-- A codec is a form of bytes whose spelling and reading fit: what is spelled is read, whatever follows, and what is read
-- was spelled. Each form of the crates above is one by the lemmas here and in Numbers, Lists and Filling: `seq` for a part
-- and what follows it, `either` for a test, `never` for a fault, `ended` for the end, `reported_again` for faults that are reported
-- otherwise, and `same` for a form and a spelling in other words.
use Rattle.std.proofs.Common.{◌≡◌, ◌∙◌, ℕ, ◌+◌, Bool, true, false, cond, List, [], ◌++◌, length, Result, Ok, Err, refl, sym, ap, subst, append_assoc, arith, add-zero}
use Rattle.std.proofs.lemmas.List.{length-append}
use Rattle.pac_value.specs.Expressions.{◌>>=◌}
use Rattle.pac_bytes.specs.Reading.{Rest, reported_as}
use Rattle.pac_bytes.specs.Readers.{IsAtStart}
use Rattle.pac_bytes.proofs.Results.{bind_ok, reported_as_ok, ok_same}
use Rattle.pac_bytes.proofs.Bytes.{IsBytes, IsBytes-after}

-- the spelling of what has the form, and a reading of it
pub record IsCodec {A F : Type 0} (has_form : A → Type 0) (spell : A → List ℕ) (read : Rest → Result (A × Rest) F) : Type 0 where
  -- what is spelled is read, whatever follows
  pub again : (meant : A) (at : ℕ) (more : List ℕ) → has_form meant → read (record { at = at; bytes = spell meant ++ more }) ≡ Ok (meant, record { at = at + length (spell meant); bytes = more })
  -- what is read was spelled
  pub found : (s : Rest) (meant : A) (t : Rest) → IsBytes s.bytes → read s ≡ Ok (meant, t) → IsAtStart has_form spell s meant t

-- Nothing more is read: what is meant is c.
pub ended : {C F : Type 0} (c : C) → IsCodec {A = C} {F = F} (λ x. x ≡ c) (λ x. []) (λ s. Ok (c, s))
ended {C} {F} c = record {
  again = λ x at more e. rw (e, add-zero) refl;
  found = λ s x t are e.
      let both : (c, s) ≡ (x, t) = ok_same {F = F} (c, s) (x, t) e in
      let rest : s ≡ t = ap (λ (p : C × Rest). p.1) both in
      record {
        bytes = ap (λ (r : Rest). r.bytes) rest;
        offset = sym (ap (λ (r : Rest). r.at) rest) ∙ sym (add-zero s.at);
        form = sym (ap (λ (p : C × Rest). p.0) both);
      };
}

-- A part, and what follows it. That may depend on the part and on its offset, and it knows which part it is of: both speak
-- of the whole, and the second has only to spell what the first leaves.
pub seq : {A C F : Type 0} (part : C → A) (part_form : A → Type 0) (part_spell : A → List ℕ) (part_read : Rest → Result (A × Rest) F) (form : C → Type 0) (spell : C → List ℕ) (read : ℕ → A → Rest → Result (C × Rest) F)
    → IsCodec part_form part_spell part_read → ((at : ℕ) (a : A) → part_form a → IsCodec (λ c. form c × (part c ≡ a)) spell (read at a))
    → IsCodec (λ c. form c × part_form (part c)) (λ c. part_spell (part c) ++ spell c) (λ s. part_read s >>= λ a. read s.at a.0 a.1)
seq {A} {C} {F} part part_form part_spell part_read form spell read prefix others = record {
  again = λ x at more fits.
      let one = prefix.again (part x) at (spell x ++ more) fits.1 in
      let other = (others at (part x) fits.1).again x (at + length (part_spell (part x))) more (fits.0, refl) in
      let offset : at + length (part_spell (part x)) + length (spell x) ≡ at + length (part_spell (part x) ++ spell x) = omega (arith, length-append (part_spell (part x)) (spell x)) in
      ap (λ (b : List ℕ). part_read (record { at = at; bytes = b }) >>= λ a. read at a.0 a.1) (append_assoc (part_spell (part x)) (spell x) more)
      ∙ (rw one (other ∙ ap (λ (n : ℕ). Ok (x, record { at = n; bytes = more })) offset));
  found = λ s x t are e.
      let steps = bind_ok (part_read s) (λ a. read s.at a.0 a.1) (x, t) e in
      let one = prefix.found s steps.0.0 steps.0.1 are steps.1 in
      let other = (others s.at steps.0.0 one.form).found steps.0.1 x t (IsBytes-after (part_spell steps.0.0) steps.0.1.bytes s.bytes one.bytes are) steps.2 in
      let is : part x ≡ steps.0.0 = other.form.1 in
      let lengths : length (part_spell (part x)) ≡ length (part_spell steps.0.0) = ap (λ (a : A). length (part_spell a)) is in
      record {
        bytes = one.bytes ∙ ap (λ (r : List ℕ). part_spell steps.0.0 ++ r) other.bytes ∙ sym (append_assoc (part_spell steps.0.0) (spell x) t.bytes) ∙ ap (λ (a : A). (part_spell a ++ spell x) ++ t.bytes) (sym is);
        offset = omega (arith, length-append (part_spell (part x)) (spell x), lengths, one.offset, other.offset);
        form = (other.form.0, subst part_form (sym is) one.form);
      };
}

-- a test, whose answer each of the two knows
pub either : {C F : Type 0} (form : C → Type 0) (spell : C → List ℕ) (test : Bool) (one other : Rest → Result (C × Rest) F)
    → (test ≡ true → IsCodec form spell one) → (test ≡ false → IsCodec form spell other) → IsCodec form spell (λ s. cond test (one s) (other s))
either form spell true one other if_true if_false = if_true refl
either form spell false one other if_true if_false = if_false refl

-- a fault, where nothing has the form
pub never : {C F : Type 0} (form : C → Type 0) (spell : C → List ℕ) (fault : Rest → F) → ((x : C) → form x → ⊥) → IsCodec {A = C} {F = F} form spell (λ s. Err (fault s))
never form spell fault none = record { again = λ x at more fits. absurd (none x fits); found = λ s x t are e. absurd cc }

-- the same form and the same spelling in other words
pub same : {C F : Type 0} (old new : C → Type 0) (old_spell new_spell : C → List ℕ) (read : Rest → Result (C × Rest) F)
    → ((x : C) → new x → old x) → ((x : C) → old x → new x) → ((x : C) → new x → old_spell x ≡ new_spell x) → IsCodec old old_spell read → IsCodec new new_spell read
same {C} {F} old new old_spell new_spell read to_old to_new words codec = record {
  again = λ x at more fits.
      subst (λ (w : List ℕ). read (record { at = at; bytes = w ++ more }) ≡ Ok (x, record { at = at + length w; bytes = more })) (words x fits) (codec.again x at more (to_old x fits));
  found = λ s x t are e.
      let is = codec.found s x t are e in
      let w : old_spell x ≡ new_spell x = words x (to_new x is.form) in
      record { bytes = is.bytes ∙ ap (λ (a : List ℕ). a ++ t.bytes) w; offset = is.offset ∙ ap (λ (a : List ℕ). s.at + length a) w; form = to_new x is.form };
}

-- the same with each fault reported otherwise
pub reported_again : {C F G : Type 0} (form : C → Type 0) (spell : C → List ℕ) (read : Rest → Result (C × Rest) F) (report : F → G) → IsCodec form spell read → IsCodec form spell (λ s. reported_as report (read s))
reported_again form spell read report codec = record {
  again = λ x at more fits. rw (codec.again x at more fits) refl;
  found = λ s x t are e. codec.found s x t are (reported_as_ok report (read s) (x, t) e);
}
