-- The blocks of one procedure more.
use Rattle.std.proofs.Common.{◌≡◌, ℕ, ◌+◌, ◌<◌, List, [], ◌∷◌, ◌++◌, map, take, length, get_or, Some, sym, ap, ◌∙◌, subst, inl, inr, arith}
use Rattle.std.specs.Prelude.{slice_get, IsSomeAnd}
use Rattle.std.proofs.lemmas.Bool.{cases_eq}
use Rattle.std.proofs.lemmas.List.{get_or_append_left, map-append, map_more}
use Rattle.std.proofs.lemmas.Option.{slice_get_within, get_or_from_slice_get}
use Rattle.std.proofs.Math.Seq.{get_or-append_seam}
use Rattle.pac_ops.specs.declared.program.Program.{Program}
use Rattle.pac_base.proofs.ItemLemmas.{so}
use Rattle.pac_global.specs.Drawing.{first_of}

module _ (programs : List Program) (numbers : List ℕ) (blocks : List (List ℕ)) (row : List ℕ) (n : ℕ) (program : Program) (at : slice_get programs n ≡ Some program) (full : length row ≡ length program.ops) where
  pub each_more : map (λ (r : List ℕ). length r) blocks ≡ map (λ (q : Program). length q.ops) (take n programs) → map (λ (r : List ℕ). length r) (blocks ++ row ∷ []) ≡ map (λ (q : Program). length q.ops) (take (n + 1) programs)
  each_more each =
      let same : length row ≡ length (get_or programs n program).ops = full ∙ ap (λ (q : Program). length q.ops) (sym (get_or_from_slice_get programs n program program at)) in
      map-append (λ (r : List ℕ). length r) blocks (row ∷ [])
      ∙ (ap (λ xs. xs ++ length row ∷ []) each
      ∙ (ap (λ k. map (λ (q : Program). length q.ops) (take n programs) ++ k ∷ []) same
      ∙ sym (map_more (λ (q : Program). length q.ops) programs n program (slice_get_within programs n program at))))

  pub is_more : length blocks ≡ n → ((i : ℕ) → i < length program.ops → get_or row i 0 ≡ get_or numbers (first_of programs n + i) 0)
      → ((p i : ℕ) → p < n → IsSomeAnd (slice_get programs p) (λ (q : Program). i < length q.ops) → get_or (get_or blocks p []) i 0 ≡ get_or numbers (first_of programs p + i) 0)
      → (p i : ℕ) → p < n + 1 → IsSomeAnd (slice_get programs p) (λ (q : Program). i < length q.ops) → get_or (get_or (blocks ++ row ∷ []) p []) i 0 ≡ get_or numbers (first_of programs p + i) 0
  is_more size last is p i lt there = elim (cases_eq p n) [
    | inr ne ↦ (let within : p < length blocks = omega (arith, size, lt, ne) in ap (λ r. get_or r i 0) (get_or_append_left blocks (row ∷ []) [] p within) ∙ is p i (omega (arith, lt, ne)) there)
    | inl e ↦ (let here : get_or (blocks ++ row ∷ []) p [] ≡ row = ap (λ k. get_or (blocks ++ row ∷ []) k []) (e ∙ sym size) ∙ get_or-append_seam blocks row [] [] in
        let within : i < length program.ops = so programs n program (λ (q : Program). i < length q.ops) at (subst (λ k. IsSomeAnd (slice_get programs k) (λ (q : Program). i < length q.ops)) e there) in
        ap (λ r. get_or r i 0) here ∙ (last i within ∙ ap (λ k. get_or numbers (first_of programs k + i) 0) (sym e)))
  ]
