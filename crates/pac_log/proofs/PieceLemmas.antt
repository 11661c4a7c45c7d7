-- The pieces that are read from a gate on stand one after another in the image, and are all that is looked at.
use Rattle.std.proofs.Common.{◌≡◌, ◌∙◌, ℕ, ◌+◌, ◌-◌, ◌<◌, ◌≤◌, Bool, true, false, leb, List, ◌++◌, length, take, drop, min, Option, Some, None, refl, sym, ap, ap₂, arith}
use Rattle.std.proofs.lemmas.Bool.{leb-true, leb-false}
use Rattle.std.proofs.lemmas.List.{length-drop, take_all, drop-drop, take-append-drop}
use Rattle.pac_types.specs.Typing.{CatalogueState}
use Rattle.pac_outside.specs.Disk.{DiskHistory, IfKnown}
use Rattle.pac_outside.proofs.ReadLemmas.{take_more}
use Rattle.pac_log.specs.Looked.{IsLookedAt}
use Rattle.pac_log.specs.Reading.{after_gate}

-- no more than there are
take_least : (l n : ℕ) (xs : List ℕ) → length xs ≡ l → take (min l n) xs ≡ take n xs
take_least l n xs e = by (leb l n) refl
  where
    by : (b : Bool) → leb l n ≡ b → take (min l n) xs ≡ take n xs
    by true h = let le : l ≤ n = leb-true _ _ h in ap (λ (k : ℕ). take k xs) (omega arith) ∙ take_all l xs (omega arith) ∙ sym (take_all n xs (omega arith))
    by false h = let less : n < l = leb-false _ _ h in ap (λ (k : ℕ). take k xs) (omega arith)

looked : (piece all : List ℕ) (n : ℕ) → piece ≡ take n all → ((catalogue : CatalogueState) → after_gate catalogue (take n all) ≡ after_gate catalogue all) → IsLookedAt piece all
looked piece all n is alike = record {
  rest = drop n all;
  split = sym (take-append-drop n all) ∙ ap (λ (l : List ℕ). l ++ drop n all) (sym is);
  alike = λ catalogue. ap (λ (l : List ℕ). after_gate catalogue l) is ∙ alike catalogue;
}

-- what is looked at after the two numbers, by these
abbrev pub IsReach : List ℕ → ℕ → Type 0
IsReach prefix reach = (catalogue : CatalogueState) (all : List ℕ) → prefix ≡ take 9 all → after_gate catalogue (take (9 + reach) all) ≡ after_gate catalogue all

module _ (known : Option DiskHistory) (place len : ℕ) (prefix : List ℕ) (long : IfKnown (λ old. len ≡ length old.now.seen) known) (there : IfKnown (λ old. prefix ≡ take (min (len - place) 9) (drop place old.now.seen)) known) where
  -- the gate and the two numbers are all
  pub looked_prefix : IsReach prefix 0 → IfKnown (λ old. IsLookedAt prefix (drop place old.now.seen)) known
  looked_prefix enough = by known long there
    where
      by : (t : Option DiskHistory) → IfKnown (λ old. len ≡ length old.now.seen) t → IfKnown (λ old. prefix ≡ take (min (len - place) 9) (drop place old.now.seen)) t → IfKnown (λ old. IsLookedAt prefix (drop place old.now.seen)) t
      by None l f = tt
      by (Some old) l f =
          let all = drop place old.now.seen in
          let is : prefix ≡ take 9 all = f ∙ take_least (len - place) 9 all (omega (arith, l, length-drop place old.now.seen)) in
          looked prefix all 9 is (λ catalogue. enough catalogue all is)

  -- more stands after them
  pub looked_more : (reach : ℕ) (bytes : List ℕ) → IsReach prefix reach → IfKnown (λ old. bytes ≡ prefix ++ take (min (len - place - 9) reach) (drop (place + 9) old.now.seen)) known → IfKnown (λ old. IsLookedAt bytes (drop place old.now.seen)) known
  looked_more reach bytes enough more = by known long there more
    where
      by : (t : Option DiskHistory) → IfKnown (λ old. len ≡ length old.now.seen) t → IfKnown (λ old. prefix ≡ take (min (len - place) 9) (drop place old.now.seen)) t
          → IfKnown (λ old. bytes ≡ prefix ++ take (min (len - place - 9) reach) (drop (place + 9) old.now.seen)) t → IfKnown (λ old. IsLookedAt bytes (drop place old.now.seen)) t
      by None l f m = tt
      by (Some old) l f m =
          let all = drop place old.now.seen in
          let is : prefix ≡ take 9 all = f ∙ take_least (len - place) 9 all (omega (arith, l, length-drop place old.now.seen)) in
          let after : drop (place + 9) old.now.seen ≡ drop 9 all = sym (drop-drop 9 place old.now.seen) in
          let rest : take (min (len - place - 9) reach) (drop (place + 9) old.now.seen) ≡ take reach (drop 9 all)
          = ap (λ (l : List ℕ). take (min (len - place - 9) reach) l) after ∙ take_least (len - place - 9) reach (drop 9 all) (omega (arith, l, length-drop place old.now.seen, length-drop 9 all)) in
          looked bytes all (9 + reach) (m ∙ ap₂ (λ (a b : List ℕ). a ++ b) is rest ∙ take_more 9 reach all) (λ catalogue. enough catalogue all is)
