-- The pieces of a set stand by their transactions, ascending, so that a piece stands at one position alone.
use Rattle.std.proofs.Common.{◌≡◌, ◌⊎◌, ℕ, zero, suc, ◌<◌, Bool, true, false, cond, List, [], ◌∷◌, ◌++◌, map, length, get_or, Some, None, sym, ap, ◌∙◌, subst, inl, inr, arith}
use Rattle.std.specs.Prelude.{slice_get, filter, position}
use Rattle.std.proofs.lemmas.Option.{same_Some, slice_get-get_or, slice_get_within}
use Rattle.pac_base.specs.Members.{Rises}
use Rattle.pac_base.proofs.TestLemmas.{eq_self, and_both, mem_each, or_left, each_mem}
use Rattle.pac_ops.specs.declared.piece.PieceId.{PieceId}
use Rattle.pac_ops.specs.declared.transaction.Txn.{Txn}
use Rattle.pac_plan.specs.declared.parts.PlanParts.{PlanParts}
use Rattle.pac_plan.specs.Pieces.{is_piece}
use Rattle.pac_plan.proofs.WorldLemmas.{rises-range}
use Rattle.pac_batch.specs.Sets.{has_piece, set_of}
use Rattle.pac_plan.specs.Worlds.{txn_at}
use Rattle.pac_sched.specs.Orders.{IsAscending, piece_before}
use Rattle.pac_sched.proofs.PlaceLemmas.{lt_true, stands_once}
use Rattle.pac_core.specs.Links.{piece_in}
use Rattle.pac_core.proofs.Lists.{at_mem, at_map, filter_of, map_at}

rises_filter : (f : ℕ → Bool) (xs : List ℕ) → Rises xs → Rises (filter f xs)
rises_filter f [] r = tt
rises_filter f (x ∷ xs) r = go (f x) (rises_filter f xs r.1)
  where
    go : (b : Bool) → Rises (filter f xs) → Rises (cond b (x ∷ filter f xs) (filter f xs))
    go true rest = (each_mem (λ y. x < y) (filter f xs) (λ y m. mem_each (λ y. x < y) xs r.0 y (filter_of f xs y m).0), rest)
    go false rest = rest

pub set_rises : (parts : PlanParts) (first : ℕ) (txns : List Txn) (block : ℕ) → Rises (set_of parts first txns block).txns
set_rises parts first txns block = rises_filter (λ t. has_piece parts block (txn_at first txns t)) _ (rises-range first (length txns))

-- the last of numbers that rise do
pub rises_end : (before rest : List ℕ) → Rises (before ++ rest) → Rises rest
rises_end [] rest r = r
rises_end (x ∷ xs) rest r = rises_end xs rest r.1

-- numbers that rise stand in their order
pub rises_at : (xs : List ℕ) → Rises xs → (i j a b : ℕ) → slice_get xs i ≡ Some a → slice_get xs j ≡ Some b → i < j → a < b
rises_at [] r i j a b ei ej lt = let wrong : None ≡ Some a = ei in absurd cc
rises_at (x ∷ xs) r i zero a b ei ej lt = absurd (omega (arith, lt))
rises_at (x ∷ xs) r zero (suc j) a b ei ej lt = subst (λ y. y < b) (same_Some x a ei) (mem_each (λ y. x < y) xs r.0 b (at_mem xs j b ej))
rises_at (x ∷ xs) r (suc i) (suc j) a b ei ej lt = rises_at xs r.1 i j a b ei ej (omega (arith, lt))

pub order_of : (xs : List ℕ) → Rises xs → (i j a b : ℕ) → slice_get xs i ≡ Some a → slice_get xs j ≡ Some b → a < b → i < j
order_of xs r i j a b ei ej lt = go (three i j)
  where
    three : (i j : ℕ) → (i < j) ⊎ ((i ≡ j) ⊎ (j < i))
    three i j = grind arith

    go : (i < j) ⊎ ((i ≡ j) ⊎ (j < i)) → i < j
    go (inl l) = l
    go (inr (inl e)) = let same : a ≡ b = same_Some a b (sym ei ∙ ap (slice_get xs) e ∙ ej) in absurd (omega (arith, lt, same))
    go (inr (inr g)) = let less = rises_at xs r j i b a ej ei g in absurd (omega (arith, lt, less))

module _ (block : ℕ) (txns : List ℕ) (rises : Rises txns) where
  abbrev pieces : List PieceId
  pieces = map (piece_in block) txns

  pub ascending : IsAscending pieces
  ascending i j d lt within = go (slice_get-get_or pieces i d (omega (arith, lt, within))) (slice_get-get_or pieces j d within)
    where
      go : slice_get pieces i ≡ Some (get_or pieces i d) → slice_get pieces j ≡ Some (get_or pieces j d) → piece_before (get_or pieces i d) (get_or pieces j d) ≡ true
      go ei ej =
          let a = map_at (piece_in block) txns i (get_or pieces i d) ei in
          let b = map_at (piece_in block) txns j (get_or pieces j d) ej in
          let less : a.0 < b.0 = rises_at txns rises i j a.0 b.0 a.1 b.1 lt in
          let before : piece_before (piece_in block a.0) (piece_in block b.0) ≡ true = or_left _ _ (lt_true a.0 b.0 less) in
          ap (λ (x : PieceId). piece_before x (get_or pieces j d)) (sym a.2) ∙ ap (λ (x : PieceId). piece_before (piece_in block a.0) x) (sym b.2) ∙ before

  -- the piece of a transaction stands where that does
  pub position_in : (i t : ℕ) → slice_get txns i ≡ Some t → position (is_piece (piece_in block t)) pieces ≡ Some i
  position_in i t e =
      let there : slice_get pieces i ≡ Some (piece_in block t) = at_map (piece_in block) txns i t e in
      let within : i < length pieces = slice_get_within pieces i (piece_in block t) there in
      stands_once pieces ascending (piece_in block t) i within (piece_in block t)
      (ap (is_piece (piece_in block t)) (same_Some _ _ (sym (slice_get-get_or pieces i (piece_in block t) within) ∙ there)) ∙ and_both _ _ (eq_self t) (eq_self block))
