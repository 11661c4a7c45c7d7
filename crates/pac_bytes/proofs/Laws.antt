-- The clauses `found` and `again` of a function that answers what the reading of a codec gives, and of one that may find no
-- memory besides.
use Rattle.std.proofs.Common.{◌≡◌, ◌∙◌, ℕ, ◌+◌, List, length, Result, Ok, Err, refl, sym, ap, ap₂}
use Rattle.pac_base.specs.declared.refusal.Refusal.{Refusal}
use Rattle.pac_base.specs.declared.refusal.Refusal.TheVariants.{Fault, NoMemory}
use Rattle.pac_base.specs.Refusals.{Only}
use Rattle.pac_bytes.specs.Reading.{Rest, from}
use Rattle.pac_bytes.specs.Readers.{Answers, AnswersUnlessMemory, Finds, FindsSpelled, FindsSpelledUnlessMemory}
use Rattle.pac_bytes.proofs.Results.{ok_same}
use Rattle.pac_bytes.proofs.Bytes.{IsBytes, IsBytes-drop}
use Rattle.pac_bytes.proofs.Codec.{IsCodec}

pub codec_finds : {A F : Type 0} {has_form : A → Type 0} {spell : A → List ℕ} {read : Rest → Result (A × Rest) F} → IsCodec has_form spell read
    → (bytes : List ℕ) (at : ℕ) (result : Result (A × ℕ) F) → IsBytes bytes → Answers bytes result (read (from bytes at)) → Finds has_form spell bytes at result
codec_finds codec bytes at (Ok p) are exact = codec.found (from bytes at) p.0 (from bytes p.1) (IsBytes-drop at bytes are) exact
codec_finds codec bytes at (Err fault) are exact = tt

pub codec_finds_spelled : {A F : Type 0} {has_form : A → Type 0} {spell : A → List ℕ} {read : Rest → Result (A × Rest) F} → IsCodec has_form spell read
    → (bytes : List ℕ) (at : ℕ) (result : Result (A × ℕ) F) → Answers bytes result (read (from bytes at)) → FindsSpelled has_form spell bytes at result
codec_finds_spelled {A} {F} {has_form} {spell} {read} codec bytes at result exact meant more form is = by result exact
  where
    is_read : read (from bytes at) ≡ Ok (meant, record { at = at + length (spell meant); bytes = more })
    is_read = ap (λ (b : List ℕ). read (record { at = at; bytes = b })) is ∙ codec.again meant at more form

    by : (r : Result (A × ℕ) F) → Answers bytes r (read (from bytes at)) → r ≡ Ok (meant, at + length (spell meant))
    by (Ok p) e =
        let both = ok_same {F = F} (p.0, from bytes p.1) (meant, record { at = at + length (spell meant); bytes = more }) (sym e ∙ is_read) in
        let one : p.0 ≡ meant = ap (λ (q : A × Rest). q.0) both in
        let offset : p.1 ≡ at + length (spell meant) = ap (λ (q : A × Rest). q.1.at) both in
        let pair : ◌≡◌ {A = A × ℕ} (p.0, p.1) (meant, at + length (spell meant)) = ap₂ (λ (a : A) (n : ℕ). (a, n)) one offset in
        ap (λ (q : A × ℕ). Ok q) pair
    by (Err fault) e = absurd (no_fault (sym e ∙ is_read))
      where
        no_fault : ◌≡◌ {A = Result (A × Rest) F} (Err fault) (Ok (meant, record { at = at + length (spell meant); bytes = more })) → ⊥
        no_fault h = cc

pub codec_finds_unless_memory : {A F : Type 0} {has_form : A → Type 0} {spell : A → List ℕ} {read : Rest → Result (A × Rest) F} → IsCodec has_form spell read
    → (bytes : List ℕ) (at : ℕ) (result : Result (A × ℕ) (Refusal F)) → IsBytes bytes → AnswersUnlessMemory bytes result (read (from bytes at)) → Finds has_form spell bytes at result
codec_finds_unless_memory codec bytes at (Ok p) are exact = codec.found (from bytes at) p.0 (from bytes p.1) (IsBytes-drop at bytes are) exact
codec_finds_unless_memory codec bytes at (Err refusal) are exact = tt

pub codec_finds_spelled_unless_memory : {A F : Type 0} {has_form : A → Type 0} {spell : A → List ℕ} {read : Rest → Result (A × Rest) F} → IsCodec has_form spell read
    → (bytes : List ℕ) (at : ℕ) (result : Result (A × ℕ) (Refusal F)) → AnswersUnlessMemory bytes result (read (from bytes at)) → FindsSpelledUnlessMemory has_form spell bytes at result
codec_finds_spelled_unless_memory {A} {F} {has_form} {spell} {read} codec bytes at result exact meant more form is = by result exact
  where
    is_read : read (from bytes at) ≡ Ok (meant, record { at = at + length (spell meant); bytes = more })
    is_read = ap (λ (b : List ℕ). read (record { at = at; bytes = b })) is ∙ codec.again meant at more form

    no_fault : (fault : F) (q : A × Rest) → ◌≡◌ {A = Result (A × Rest) F} (Err fault) (Ok q) → ⊥
    no_fault fault q h = cc

    by : (r : Result (A × ℕ) (Refusal F)) → AnswersUnlessMemory bytes r (read (from bytes at)) → Only r (meant, at + length (spell meant))
    by (Ok p) e =
        let both = ok_same {F = F} (p.0, from bytes p.1) (meant, record { at = at + length (spell meant); bytes = more }) (sym e ∙ is_read) in
        let one : p.0 ≡ meant = ap (λ (q : A × Rest). q.0) both in
        let offset : p.1 ≡ at + length (spell meant) = ap (λ (q : A × Rest). q.1.at) both in
        ap₂ (λ (a : A) (n : ℕ). (a, n)) one offset
    by (Err NoMemory) e = refl
    by (Err (Fault fault)) e = absurd (no_fault fault _ (sym e ∙ is_read))
