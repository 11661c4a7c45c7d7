-- Marks: what a read gives and a write changes, and how many changes are left.
use Rattle.std.proofs.Common.{◌≡◌, ℕ, ◌+◌, ◌*◌, ◌<◌, List, [], ◌∷◌, ◌++◌, length, get_or, set, replicate, sym, ap, ◌∙◌, subst, inl, inr, arith, get_or-set_other, get_or-set_same}
use Rattle.std.proofs.lemmas.Bool.{cases_eq, cases_lt}
use Rattle.std.proofs.lemmas.List.{get_or_default, get_or_append_left}
use Rattle.std.proofs.Math.ListN.{get_or-eq_default}
use Rattle.std.proofs.Math.Seq.{get_or-append_seam}
use Rattle.std.proofs.lemmas.List.Sums.{sum_by-set}
use Rattle.std.proofs.lemmas.List.Folds.{sum_by-replicate}
use Rattle.pac_graph.specs.declared.search.Mark.{Mark}
use Rattle.pac_graph.specs.declared.search.Mark.TheVariants.{Fresh, Open, Done}
use Rattle.pac_graph.specs.Search.{mark_of, changes_of, changes_left}

pub open_not_done : {a b : ℕ} → Open a ≡ Done b → ⊥
open_not_done e = cc

pub fresh_not_done : {a : ℕ} → Fresh ≡ Done a → ⊥
fresh_not_done e = cc

pub fresh_not_open : {p : ℕ} → Fresh ≡ Open p → ⊥
fresh_not_open e = cc

pub same_offset : (a b : ℕ) → Open a ≡ Open b → a ≡ b
same_offset a b e = cc

pub same_class : (a b : ℕ) → Done a ≡ Done b → a ≡ b
same_class a b e = cc

pub mark_set : (marks : List Mark) (u : ℕ) (m : Mark) → u < length marks → mark_of (set marks u m) u ≡ m
mark_set marks u m lt = get_or-set_same marks u m Fresh lt

pub mark_kept : (marks : List Mark) (u v : ℕ) (m : Mark) → (v ≡ u → ⊥) → mark_of (set marks u m) v ≡ mark_of marks v
mark_kept marks u v m ne = get_or-set_other marks u v m Fresh ne

pub changes_set : (marks : List Mark) (u : ℕ) (m : Mark) → u < length marks → changes_left (set marks u m) + changes_of (mark_of marks u) ≡ changes_left marks + changes_of m
unfolding changes_left
changes_set marks u m lt = sum_by-set changes_of marks u m Fresh lt

pub changes_fresh : (n : ℕ) → changes_left (replicate n Fresh) ≡ n * 2
unfolding changes_left
changes_fresh n = sum_by-replicate changes_of n Fresh

-- what a read of the marks gives
pub mark_read : (marks : List Mark) (u : ℕ) (found m : Mark) → found ≡ get_or marks u found → found ≡ m → u < length marks → mark_of marks u ≡ m
mark_read marks u found m e is lt = get_or_default marks u Fresh found lt ∙ (sym e ∙ is)

-- a node with a class is one of those that have marks
pub done_within : (marks : List Mark) (u c : ℕ) → mark_of marks u ≡ Done c → u < length marks
done_within marks u c is = elim (cases_lt u (length marks)) [
  | inl lt ↦ lt
  | inr ge ↦ (let e : mark_of marks u ≡ Fresh = get_or-eq_default marks Fresh (omega (arith, ge)) in absurd (fresh_not_done (sym e ∙ is)))
]

-- one node more has its number
pub more_numbers : (marks : List Mark) (numbers : List ℕ) (i class : ℕ) → length numbers ≡ i → mark_of marks i ≡ Done class
    → ((u c : ℕ) → u < i → mark_of marks u ≡ Done c → get_or numbers u 0 ≡ c)
    → (u c : ℕ) → u < i + 1 → mark_of marks u ≡ Done c → get_or (numbers ++ class ∷ []) u 0 ≡ c
more_numbers marks numbers i class len here below u c lt is = elim (cases_eq u i) [
  | inl same ↦ subst (λ k. get_or (numbers ++ class ∷ []) k 0 ≡ c) (len ∙ sym same) (get_or-append_seam numbers class [] 0 ∙ same_class class c (sym here ∙ (ap (mark_of marks) (sym same) ∙ is)))
  | inr ne ↦ get_or_append_left numbers (class ∷ []) 0 u (omega arith) ∙ below u c (omega arith) is
]
