-- What a function returns that reads bytes from an offset on: what it found, and the offset after it.
use Rattle.std.specs.Prelude.{◌≡◌, ◌+◌, ℕ, List, ◌++◌, length, drop, Result, Ok, Err, IfOk}
use Rattle.pac_base.specs.declared.refusal.Refusal.{Refusal}
use Rattle.pac_base.specs.Refusals.{Reports, Only}
use Rattle.pac_bytes.specs.Reading.{Rest, from}

-- it returned what reading gives, or the fault
abbrev pub Answers : {A F : Type 0} → List ℕ → Result (A × ℕ) F → Result (A × Rest) F → Type 0
Answers bytes (Ok found) read = read ≡ Ok (found.0, from bytes found.1)
Answers bytes (Err fault) read = read ≡ Err fault

-- the same, unless there was no memory
abbrev pub AnswersUnlessMemory : {A F : Type 0} → List ℕ → Result (A × ℕ) (Refusal F) → Result (A × Rest) F → Type 0
AnswersUnlessMemory bytes result read = Reports (λ found. (found.0, from bytes found.1)) result read

-- the bytes at the start of s spell what is meant, which has this form, and t is what is left after them
pub record IsAtStart {A : Type 0} (has_form : A → Type 0) (spell : A → List ℕ) (s : Rest) (meant : A) (t : Rest) : Type 0 where
  pub bytes : s.bytes ≡ spell meant ++ t.bytes
  pub offset : t.at ≡ s.at + length (spell meant)
  pub form : has_form meant

-- what it found in these bytes from this offset on is spelled there
abbrev pub Finds : {A F : Type 0} → (A → Type 0) → (A → List ℕ) → List ℕ → ℕ → Result (A × ℕ) F → Type 0
Finds has_form spell bytes at result = IfOk result (λ found. IsAtStart has_form spell (from bytes at) found.0 (from bytes found.1))

-- what is spelled in these bytes from this offset on, whatever follows, is what it found
abbrev pub FindsSpelled : {A F : Type 0} → (A → Type 0) → (A → List ℕ) → List ℕ → ℕ → Result (A × ℕ) F → Type 0
FindsSpelled {A} has_form spell bytes at result = (meant : A) (more : List ℕ)
    → has_form meant → drop at bytes ≡ spell meant ++ more → result ≡ Ok (meant, at + length (spell meant))

-- the same, unless there was no memory
abbrev pub FindsSpelledUnlessMemory : {A F : Type 0} → (A → Type 0) → (A → List ℕ) → List ℕ → ℕ → Result (A × ℕ) (Refusal F) → Type 0
FindsSpelledUnlessMemory {A} has_form spell bytes at result = (meant : A) (more : List ℕ)
    → has_form meant → drop at bytes ≡ spell meant ++ more → Only result (meant, at + length (spell meant))
