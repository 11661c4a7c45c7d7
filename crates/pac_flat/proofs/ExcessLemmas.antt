-- Where operations are too many, and where they are not.
use Rattle.std.proofs.Common.{◌≡◌, ◌⊎◌, inl, inr, ℕ, ◌+◌, ◌<◌, ◌≤◌, Bool, true, false, cond, List, length, take, get_or, Option, Some, None, refl, sym, ap, subst, ◌∙◌, arith}
use Rattle.std.specs.Prelude.{slice_get, nat_lt}
use Rattle.std.specs.Option.{option_and_then}
use Rattle.std.proofs.lemmas.Bool.{cases_order}
use Rattle.std.proofs.lemmas.Bool.Decides.{nat_tests}
use Rattle.std.proofs.lemmas.Option.{slice_get-get_or, slice_get_within}
use Rattle.std.proofs.lemmas.List.Sums.{sum_by-take-le}
use Rattle.pac_ops.specs.declared.limits.TheConstants.{MAX_OPS, MAX_ALL_OPS}
use Rattle.pac_types.specs.declared.procedure.Proc.{Proc}
use Rattle.pac_types.specs.Meaning.{operations}
use Rattle.pac_types.specs.OperationLimits.{all_operations, HasFewOperations, told, excess, excess_at, IsFirstExcess}

less : (a b : ℕ) → a < b → nat_lt a b ≡ true
less a b h = grind (arith, nat_tests)

not_less : (a b : ℕ) → b ≤ a → nat_lt a b ≡ false
not_less a b h = grind (arith, nat_tests)

excess-own : (own up_to : ℕ) → MAX_OPS < own → excess own up_to ≡ Some (told own)
excess-own own up_to h = ap (λ b. cond b (Some (told own)) (cond (nat_lt MAX_ALL_OPS up_to) (Some (told up_to)) None)) (less MAX_OPS own h)

excess-sum : (own up_to : ℕ) → own ≤ MAX_OPS → MAX_ALL_OPS < up_to → excess own up_to ≡ Some (told up_to)
excess-sum own up_to few h = ap (λ b. cond b (Some (told own)) (cond (nat_lt MAX_ALL_OPS up_to) (Some (told up_to)) None)) (not_less MAX_OPS own few) ∙ ap (λ b. cond b (Some (told up_to)) None) (less MAX_ALL_OPS up_to h)

excess-none : (own up_to : ℕ) → own ≤ MAX_OPS → up_to ≤ MAX_ALL_OPS → excess own up_to ≡ None
excess-none own up_to few h = ap (λ b. cond b (Some (told own)) (cond (nat_lt MAX_ALL_OPS up_to) (Some (told up_to)) None)) (not_less MAX_OPS own few) ∙ ap (λ b. cond b (Some (told up_to)) None) (not_less MAX_ALL_OPS up_to h)

none-few : (own up_to : ℕ) → excess own up_to ≡ None → own ≤ MAX_OPS
none-few own up_to h = go (nat_lt MAX_OPS own) refl
  where
    go : (b : Bool) → nat_lt MAX_OPS own ≡ b → own ≤ MAX_OPS
    go true e = let wrong : Some (told own) ≡ None = ap (λ c. cond c (Some (told own)) (cond (nat_lt MAX_ALL_OPS up_to) (Some (told up_to)) None)) (sym e) ∙ h in absurd cc
    go false e = grind (arith, nat_tests)

module _ (procs : List Proc) (n : ℕ) (proc : Proc) (within : n < length procs) (is : get_or procs n proc ≡ proc) where
  found : slice_get procs n ≡ Some proc
  found = slice_get-get_or procs n proc within ∙ ap Some is

  at_proc : excess_at procs n ≡ excess (operations proc.body) (all_operations (take (n + 1) procs))
  at_proc = ap (option_and_then (λ (p : Proc). excess (operations p.body) (all_operations (take (n + 1) procs)))) found

  pub own-excess : MAX_OPS < operations proc.body → excess_at procs n ≡ Some (told (operations proc.body))
  own-excess h = at_proc ∙ excess-own (operations proc.body) (all_operations (take (n + 1) procs)) h

  pub sum-excess : (sum : ℕ) → sum ≡ all_operations (take (n + 1) procs) → operations proc.body ≤ MAX_OPS → MAX_ALL_OPS < sum → excess_at procs n ≡ Some (told sum)
  sum-excess sum same few h = at_proc ∙ ap (excess (operations proc.body)) (sym same) ∙ excess-sum (operations proc.body) sum few h

  pub no-excess : (sum : ℕ) → sum ≡ all_operations (take (n + 1) procs) → operations proc.body ≤ MAX_OPS → sum ≤ MAX_ALL_OPS → excess_at procs n ≡ None
  no-excess sum same few h = at_proc ∙ ap (excess (operations proc.body)) (sym same) ∙ excess-none (operations proc.body) sum few h

  few-at : excess_at procs n ≡ None → operations proc.body ≤ MAX_OPS
  few-at h = none-few (operations proc.body) (all_operations (take (n + 1) procs)) (sym at_proc ∙ h)

-- where there is no excess, the procedures are within the limits
pub within_limits : (procs : List Proc) → ((n : ℕ) → n < length procs → excess_at procs n ≡ None) → all_operations procs ≤ MAX_ALL_OPS → HasFewOperations procs
within_limits procs none all = record { each = λ n proc within. few-at procs n (get_or procs n proc) within (again n proc within) (none n within); all = all }
  where
    again : (n : ℕ) (proc : Proc) → n < length procs → get_or procs n (get_or procs n proc) ≡ get_or procs n proc
    again n proc within = let a : Some (get_or procs n (get_or procs n proc)) ≡ Some (get_or procs n proc) = sym (slice_get-get_or procs n (get_or procs n proc) within) ∙ slice_get-get_or procs n proc within in cc

-- within the limits there is none
pub within-none : (procs : List Proc) (n count : ℕ) → HasFewOperations procs → excess_at procs n ≡ Some count → ⊥
within-none procs n count within h = go (slice_get procs n) refl
  where
    go : (o : Option Proc) → slice_get procs n ≡ o → ⊥
    go None e = let wrong : None ≡ Some count = ap (option_and_then (λ (p : Proc). excess (operations p.body) (all_operations (take (n + 1) procs)))) (sym e) ∙ h in cc
    go (Some proc) e =
        let inside : n < length procs = slice_get_within procs n proc e in
        let is : get_or procs n proc ≡ proc = let both : Some (get_or procs n proc) ≡ Some proc = sym (slice_get-get_or procs n proc inside) ∙ e in cc in
        let few : operations proc.body ≤ MAX_OPS = subst (λ (p : Proc). operations p.body ≤ MAX_OPS) is (within.each n proc inside) in
        let none : excess_at procs n ≡ None = no-excess procs n proc inside is (all_operations (take (n + 1) procs)) refl few (omega (arith, sum_by-take-le (λ (p : Proc). operations p.body) procs (n + 1), within.all)) in
        let wrong : None ≡ Some count = sym none ∙ h in
        cc

-- where there is an excess, there is a procedure
pub excess_within : (procs : List Proc) (n count : ℕ) → excess_at procs n ≡ Some count → n < length procs
excess_within procs n count h = go (slice_get procs n) refl
  where
    go : (o : Option Proc) → slice_get procs n ≡ o → n < length procs
    go None e = let wrong : None ≡ Some count = ap (option_and_then (λ (p : Proc). excess (operations p.body) (all_operations (take (n + 1) procs)))) (sym e) ∙ h in absurd cc
    go (Some proc) e = slice_get_within procs n proc e

not_earlier : (procs : List Proc) (m n a b : ℕ) → IsFirstExcess procs m a → IsFirstExcess procs n b → m < n → ⊥
not_earlier procs m n a b h k less = let wrong : Some a ≡ None = sym h.here ∙ k.before m less in cc

-- procedures have one first excess
pub first_once : (procs : List Proc) (m n a b : ℕ) → IsFirstExcess procs m a → IsFirstExcess procs n b → m ≡ n
first_once procs m n a b h k = by_order (cases_order m n)
  where
    by_order : (m ≡ n) ⊎ ((m < n) ⊎ (n < m)) → m ≡ n
    by_order (inl same) = same
    by_order (inr (inl less)) = absurd (not_earlier procs m n a b h k less)
    by_order (inr (inr more)) = absurd (not_earlier procs n m b a k h more)
