-- Where no piece is out, the next one is finished at once: one less is left, and none is out.
use Rattle.std.proofs.Common.{◌≡◌, ℕ, ◌+◌, ◌<◌, Bool, true, false, cond, not, ◌&&◌, ◌||◌, List, [], ◌∷◌, length, Some, refl, sym, ap, ◌∙◌, inl, inr, arith}
use Rattle.std.specs.Prelude.{filter}
use Rattle.pac_base.specs.Members.{Mem}
use Rattle.pac_base.proofs.TestLemmas.{or_right}
use Rattle.pac_ops.specs.declared.piece.PieceId.{PieceId}
use Rattle.pac_plan.specs.Pieces.{adds, is_piece}
use Rattle.pac_plan.specs.Worlds.{blocks_in}
use Rattle.pac_plan.proofs.WorldLemmas.{rises-range}
use Rattle.pac_undo.specs.Undo.{Undoable}
use Rattle.pac_commute.specs.Machine.{among, ends_at, world_at}
use Rattle.pac_commute.specs.PlanLaws.{numbers_of, txns_of}
use Rattle.pac_commute.proofs.PlanFacts.{well_formed_plan}
use Rattle.pac_commute.proofs.Ready as ready
use Rattle.pac_commute.proofs.Steps.{piece_self}
use Rattle.pac_commute.proofs.Theorem.{in_order}
use Rattle.pac_core.specs.declared.progress.Progress.{Progress}
use Rattle.pac_core.specs.Calls.{HasReadyPiece, IsDrained}
use Rattle.pac_core.specs.Links.{IsCore, core_of}
use Rattle.pac_core.specs.Replay.{Replay, left, loaded_pieces, machine_of, with_finished}
use Rattle.pac_core.specs.Takes.{IsNextPiece}
use Rattle.pac_core.proofs.Lists.{filter_alike}
use Rattle.pac_core.proofs.LoadedMore.{filter_none}
use Rattle.pac_core.proofs.Marks.{among_filter}
use Rattle.pac_core.proofs.OneLess.{one_less}

-- one that fails a test
one_fails : (test : PieceId → Bool) (L : List PieceId) → 0 < length (filter (λ q. not (test q)) L) → (q : PieceId) × Mem q L × (test q ≡ false)
one_fails test [] lt = absurd (omega (arith, lt))
one_fails test (p ∷ ps) lt = go (test p) refl lt (one_fails test ps)
  where
    go : (b : Bool) → test p ≡ b → 0 < length (cond (not b) (p ∷ filter (λ q. not (test q)) ps) (filter (λ q. not (test q)) ps))
        → (0 < length (filter (λ q. not (test q)) ps) → (q : PieceId) × Mem q ps × (test q ≡ false)) → (q : PieceId) × Mem q (p ∷ ps) × (test q ≡ false)
    go false e lt rest = (p, inl refl, e)
    go true e lt rest = let r = rest lt in (r.0, inr r.1, r.2)

-- one is ready while any is left
pub has_ready : (p : Progress) (u : Undoable) → IsCore p u → HasReadyPiece (core_of p u)
has_ready p u core none some next =
    let r = core_of p u in
    let q = one_fails (among r.finished) (loaded_pieces r) some in
    let found = ready.some_ready (world_at r.job (machine_of r)) (well_formed_plan r.job.parts core.progress.is_plan r.job.first r.batches) (ends_at r.job (machine_of r)) (loaded_pieces r) (among r.out) (among r.finished)
    (λ x. ap (λ l. among l x) none) q.0 q.1 q.2 in
    next found.0 found.1

-- one less is left once a loaded piece is finished that wasn't
pub left_less : (r : Replay) (p : PieceId) → Mem p (loaded_pieces r) → among r.finished p ≡ false → left (with_finished r p) + 1 ≡ left r
left_less r p loaded unfinished =
    ap (λ l. length l + 1) (filter_alike (λ q. not (among (with_finished r p).finished q)) (λ q. not (among (p ∷ r.finished) q)) (loaded_pieces r) (λ q mem. ap not (among_filter (adds (among r.finished) p) (loaded_pieces r) q mem)))
    ∙ one_less p (λ q. not (among r.finished q)) (λ q. not (among (p ∷ r.finished) q)) (ap not unfinished) (ap (λ b. not (b || among r.finished p)) (piece_self p))
    (λ q differ. ap (λ b. not (b || among r.finished q)) (sym differ))
    (loaded_pieces r) (in_order (world_at r.job (machine_of r)) (numbers_of r.job.first r.batches) (blocks_in r.job.parts) (rises-range r.job.first (length (txns_of r.batches))) (rises-range 0 r.job.parts.blocks)) loaded

module _ (r : Replay) (p : PieceId) (next : IsNextPiece r (Some p)) where
  -- one less is left
  pub left_after : left (with_finished r p) + 1 ≡ left r
  left_after = left_less r p next.0.0 next.0.2

  module _ (none : r.out ≡ []) (loaded : (q : PieceId) → among r.finished q ≡ true → Mem q (loaded_pieces r)) where
    -- none is out then
    none_ran : filter (λ q. among r.out q && not (is_piece p q)) (loaded_pieces r) ≡ []
    none_ran = filter_none (λ q. among r.out q && not (is_piece p q)) (loaded_pieces r) (λ q mem. ap (λ l. among l q && not (is_piece p q)) none)

    pub drained_ran : IsDrained r (with_finished r p)
    drained_ran = record {
      job = refl;
      batches = refl;
      closed = refl;
      none = none_ran;
      kept = λ q e. among_filter (adds (among r.finished) p) (loaded_pieces r) q (loaded q e) ∙ or_right (is_piece p q) (among r.finished q) e;
    }

pub drained_then : (a b c : Replay) → IsDrained a b → IsDrained b c → IsDrained a c
drained_then a b c one other = record { job = other.job ∙ one.job; batches = other.batches ∙ one.batches; closed = other.closed ∙ one.closed; none = other.none; kept = λ q e. other.kept q (one.kept q e) }

pub some_left : (n : ℕ) → (n ≡ 0 → ⊥) → 0 < n
some_left n some = grind (arith, some)
