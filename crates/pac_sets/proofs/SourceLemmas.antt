-- The blocks that lead to each block, as edges are added one by one.
use Rattle.std.proofs.Common.{◌≡◌, ◌⊎◌, ◌<◌, ◌+◌, ℕ, List, [], ◌∷◌, ◌++◌, length, get_or, Some, refl, sym, ap, subst, ◌∙◌, arith, inl, inr}
use Rattle.std.specs.Prelude.{slice_get, Contains}
use Rattle.std.proofs.Common.{set, ◌≤◌}
use Rattle.std.proofs.lemmas.Option.{slice_get_within, get_or_from_slice_get, slice_get-get_or, slice_get_read}
use Rattle.std.specs.Global.{Global}
use Rattle.std.specs.Prelude.{Vec}
use Rattle.std.proofs.lemmas.Bool.{cases_eq}
use Rattle.std.proofs.lemmas.List.{length-set, get_or-set_same, get_or-set_other}
use Rattle.std.proofs.lemmas.List.Elements.{Contains-push, Contains-push_cases, Contains-append_left}
use Rattle.pac_sets.specs.Sets.{AreSources, AreAllSources, AddsSource}

-- one edge more, to the block
pub own_source : (edges : List (ℕ × ℕ)) (edge : ℕ × ℕ) (sources : List ℕ) → AreSources edges edge.1 sources → AreSources (edges ++ edge ∷ []) edge.1 (sources ++ edge.0 ∷ [])
own_source edges edge sources are from = (there, back)
  where
    there : Contains (sources ++ edge.0 ∷ []) from → Contains (edges ++ edge ∷ []) (from, edge.1)
    there h = go (Contains-push_cases sources edge.0 from h)
      where
        go : Contains sources from ⊎ (edge.0 ≡ from) → Contains (edges ++ edge ∷ []) (from, edge.1)
        go (inl old) = Contains-append_left edges (edge ∷ []) (from, edge.1) ((are from).0 old)
        go (inr same) = subst (λ (n : ℕ). Contains (edges ++ edge ∷ []) (n, edge.1)) same (Contains-push edges edge)

    back : Contains (edges ++ edge ∷ []) (from, edge.1) → Contains (sources ++ edge.0 ∷ []) from
    back h = go (Contains-push_cases edges edge (from, edge.1) h)
      where
        go : Contains edges (from, edge.1) ⊎ (edge ≡ (from, edge.1)) → Contains (sources ++ edge.0 ∷ []) from
        go (inl old) = Contains-append_left sources (edge.0 ∷ []) from ((are from).1 old)
        go (inr same) = subst (λ (n : ℕ). Contains (sources ++ edge.0 ∷ []) n) (ap (λ (e : ℕ × ℕ). e.0) same) (Contains-push sources edge.0)

-- one edge more, to another block
pub other_source : (edges : List (ℕ × ℕ)) (edge : ℕ × ℕ) (block : ℕ) (sources : List ℕ) → (block ≡ edge.1 → ⊥) → AreSources edges block sources → AreSources (edges ++ edge ∷ []) block sources
other_source edges edge block sources other are from = (λ h. Contains-append_left edges (edge ∷ []) (from, block) ((are from).0 h), back)
  where
    back : Contains (edges ++ edge ∷ []) (from, block) → Contains sources from
    back h = go (Contains-push_cases edges edge (from, block) h)
      where
        go : Contains edges (from, block) ⊎ (edge ≡ (from, block)) → Contains sources from
        go (inl old) = (are from).1 old
        go (inr same) = absurd (other (sym (ap (λ (e : ℕ × ℕ). e.1) same)))

-- all of them
pub one_source : (edges : List (ℕ × ℕ)) (edge : ℕ × ℕ) (blocks : ℕ) (old new : List (Vec ℕ Global)) → AddsSource edge old new → AreAllSources edges blocks old → AreAllSources (edges ++ edge ∷ []) blocks new
one_source edges edge blocks old new adds are = record { all = adds.all ∙ are.all; each = each }
  where
    each : (block : ℕ) (list : Vec ℕ Global) → slice_get new block ≡ Some list → AreSources (edges ++ edge ∷ []) block list.items
    each block list there = go (cases_eq block edge.1)
      where
        go : (block ≡ edge.1) ⊎ (block ≡ edge.1 → ⊥) → AreSources (edges ++ edge ∷ []) block list.items
        go (inl same) =
            let was = adds.own list (ap (λ (b : ℕ). slice_get new b) (sym same) ∙ there) in
            subst (λ (b : ℕ). AreSources (edges ++ edge ∷ []) b list.items) (sym same)
            (subst (λ (items : List ℕ). AreSources (edges ++ edge ∷ []) edge.1 items) (sym was.2) (own_source edges edge was.0.items (are.each edge.1 was.0 was.1)))
        go (inr other) = other_source edges edge block list.items other (are.each block list (adds.others block list other there))

-- a block's list with one more
pub source_added : (edge : ℕ × ℕ) (old : List (Vec ℕ Global)) (to : ℕ) (was list : Vec ℕ Global) → to ≡ edge.1 → to < length old → was ≡ get_or old to was → list.items ≡ was.items ++ edge.0 ∷ [] → AddsSource edge old (set old to list)
source_added edge old to was list of within read items = record { all = length-set old to list; own = own; others = others }
  where
    own : (l : Vec ℕ Global) → slice_get (set old to list) edge.1 ≡ Some l → (w : Vec ℕ Global) × (slice_get old edge.1 ≡ Some w) × (l.items ≡ w.items ++ edge.0 ∷ [])
    own l there =
        let is : l ≡ list = sym (get_or_from_slice_get (set old to list) edge.1 l l there) ∙ ap (λ (n : ℕ). get_or (set old to list) n l) (sym of) ∙ get_or-set_same old to list l within in
        let stood : slice_get old edge.1 ≡ Some was = slice_get_read old (length old) edge.1 was refl (subst (λ (n : ℕ). n < length old) of within) (read ∙ ap (λ (n : ℕ). get_or old n was) of) in
        (was, stood, ap (λ (v : Vec ℕ Global). v.items) is ∙ items)

    others : (block : ℕ) (l : Vec ℕ Global) → (block ≡ edge.1 → ⊥) → slice_get (set old to list) block ≡ Some l → slice_get old block ≡ Some l
    others block l other there =
        let inside : block < length old = subst (λ (n : ℕ). block < n) (length-set old to list) (slice_get_within (set old to list) block l there) in
        let is : get_or old block l ≡ l = sym (get_or-set_other old to block list l (λ same. other (same ∙ of))) ∙ get_or_from_slice_get (set old to list) block l l there in
        slice_get-get_or old block l inside ∙ ap Some is

-- an edge to no block
pub source_outside : (edge : ℕ × ℕ) (old : List (Vec ℕ Global)) (to : ℕ) → to ≡ edge.1 → length old ≤ to → AddsSource edge old old
source_outside edge old to of past = record {
  all = refl;
  own = λ l there. let lt : edge.1 < length old = slice_get_within old edge.1 l there in absurd (omega arith);
  others = λ block l other there. there;
}
