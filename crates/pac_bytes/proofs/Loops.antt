-- A loop that reads one after another: what it has, before what reading gives of the rest, is what reading gives.
use Rattle.std.proofs.Common.{◌≡◌, ◌∙◌, ℕ, suc, ◌-◌, ◌+◌, ◌<◌, ◌≤◌, List, [], ◌∷◌, ◌++◌, length, drop, get_or, Result, Ok, Err, refl, sym, ap, append_assoc, arith, add-one, drop-cons}
use Rattle.std.proofs.lemmas.List.{append-nil}
use Rattle.pac_base.specs.declared.refusal.Refusal.{Refusal}
use Rattle.pac_base.specs.declared.refusal.Refusal.TheVariants.{Fault, NoMemory}
use Rattle.pac_base.specs.Refusals.{Fails}
use Rattle.pac_value.specs.Expressions.{◌>>=◌}
use Rattle.pac_bytes.specs.Reading.{Rest, times, along}

abbrev joined_prefix : {A F : Type 0} → List A → List A × Rest → Result (List A × Rest) F
joined_prefix prefix xs = Ok (prefix ++ xs.0, xs.1)

-- these before what reading gives
abbrev pub preceding : {A F : Type 0} → List A → Result (List A × Rest) F → Result (List A × Rest) F
preceding prefix r = r >>= joined_prefix prefix

moved_prefix : {A F : Type 0} (prefix : List A) (x : A) (r : Result (List A × Rest) F) → preceding prefix (r >>= λ xs. Ok (x ∷ xs.0, xs.1)) ≡ preceding (prefix ++ x ∷ []) r
moved_prefix {A} prefix x (Ok xs) = ap (λ (ys : List A). Ok (ys, xs.1)) (sym (append_assoc prefix (x ∷ []) xs.0))
moved_prefix prefix x (Err fault) = refl

-- that many, of which i are read
module _ {A F : Type 0} (read : Rest → Result (A × Rest) F) where
  pub times-on : (prefix : List A) (count i : ℕ) (s t : Rest) (x : A) (total : Result (List A × Rest) F) → i < count → read s ≡ Ok (x, t)
      → preceding prefix (times read (count - i) s) ≡ total → preceding (prefix ++ x ∷ []) (times read (count - (i + 1)) t) ≡ total
  unfolding times
  times-on prefix count i s t x total lt h so_far =
      let k : count - i ≡ suc (count - (i + 1)) = omega arith in
      let one : preceding prefix (times read (count - i) s) ≡ preceding (prefix ++ x ∷ []) (times read (count - (i + 1)) t) = rw (k, h) (moved_prefix prefix x (times read (count - (i + 1)) t)) in
      sym one ∙ so_far

  pub times-fails : (refusal : Refusal F) (prefix : List A) (count i : ℕ) (s : Rest) (total : Result (List A × Rest) F) → i < count → Fails refusal (read s)
      → preceding prefix (times read (count - i) s) ≡ total → Fails refusal total
  unfolding times
  times-fails NoMemory prefix count i s total lt h so_far = tt
  times-fails (Fault fault) prefix count i s total lt h so_far =
      let k : count - i ≡ suc (count - (i + 1)) = omega arith in
      let one : preceding prefix (times read (count - i) s) ≡ Err fault = rw (k, h) refl in
      sym so_far ∙ one

  pub times-done : (prefix : List A) (count i : ℕ) (s : Rest) (total : Result (List A × Rest) F) → count ≤ i → preceding prefix (times read (count - i) s) ≡ total → total ≡ Ok (prefix, s)
  unfolding times
  times-done prefix count i s total le so_far =
      let k : count - i ≡ 0 = omega arith in
      let one : preceding prefix (times read (count - i) s) ≡ Ok (prefix, s) = rw k (ap (λ (xs : List A). Ok (xs, s)) (append-nil prefix)) in
      sym so_far ∙ one

-- one for each key, of which i are read
module _ {A F K : Type 0} (read : K → Rest → Result (A × Rest) F) where
  pub along-on : (prefix : List A) (keys : List K) (i : ℕ) (k : K) (s t : Rest) (x : A) (total : Result (List A × Rest) F) → drop i keys ≡ k ∷ drop (i + 1) keys → read k s ≡ Ok (x, t)
      → preceding prefix (along read (drop i keys) s) ≡ total → preceding (prefix ++ x ∷ []) (along read (drop (i + 1) keys) t) ≡ total
  unfolding along
  along-on prefix keys i k s t x total is h so_far =
      let one : preceding prefix (along read (drop i keys) s) ≡ preceding (prefix ++ x ∷ []) (along read (drop (i + 1) keys) t) = rw (is, h) (moved_prefix prefix x (along read (drop (i + 1) keys) t)) in
      sym one ∙ so_far

  pub along-fails : (refusal : Refusal F) (prefix : List A) (keys : List K) (i : ℕ) (k : K) (s : Rest) (total : Result (List A × Rest) F) → drop i keys ≡ k ∷ drop (i + 1) keys → Fails refusal (read k s)
      → preceding prefix (along read (drop i keys) s) ≡ total → Fails refusal total
  unfolding along
  along-fails NoMemory prefix keys i k s total is h so_far = tt
  along-fails (Fault fault) prefix keys i k s total is h so_far =
      let one : preceding prefix (along read (drop i keys) s) ≡ Err fault = rw (is, h) refl in
      sym so_far ∙ one

  pub along-done : (prefix : List A) (keys : List K) (i : ℕ) (s : Rest) (total : Result (List A × Rest) F) → drop i keys ≡ [] → preceding prefix (along read (drop i keys) s) ≡ total → total ≡ Ok (prefix, s)
  unfolding along
  along-done prefix keys i s total is so_far =
      let one : preceding prefix (along read (drop i keys) s) ≡ Ok (prefix, s) = rw is (ap (λ (xs : List A). Ok (xs, s)) (append-nil prefix)) in
      sym so_far ∙ one

-- the key that is next
pub next_key : {K : Type 0} (keys : List K) (i : ℕ) (default : K) → i < length keys → drop i keys ≡ get_or keys i default ∷ drop (i + 1) keys
next_key keys i default lt = rw (add-one, drop-cons keys i default) refl
