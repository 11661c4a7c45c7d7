-- The pairs that are kept are at most twice the touches of the loaded pieces and twice their number.
use Rattle.std.proofs.Common.{◌≡◌, ◌⊎◌, ℕ, suc, ◌+◌, ◌*◌, ◌<◌, ◌≤◌, ◌-◌, List, [], ◌∷◌, ◌++◌, map, length, Option, Some, None, refl, sym, ap, subst, ◌∙◌, inl, inr, arith}
use Rattle.std.specs.Prelude.{slice_get, sum_by}
use Rattle.std.specs.declared.cmp.Ordering.TheVariants.{Less, Equal}
use Rattle.std.specs.Cmp.{tied_itself}
use Rattle.std.proofs.lemmas.List.Sums.{sum_by-append, sum_by-cons}
use Rattle.pac_base.specs.Members.{Each, Mem, Rises}
use Rattle.pac_base.proofs.TestLemmas.{mem_each}
use Rattle.pac_ops.specs.declared.piece.PieceId.{PieceId}
use Rattle.pac_plan.specs.declared.access.Access.{Access}
use Rattle.pac_batch.specs.NextLists.{count_touches, touches_in}
use Rattle.pac_sets.specs.declared.set_id.SetId.{SetId}
use Rattle.pac_sets.specs.SetOrder.{set_cmp}
use Rattle.pac_sets.specs.Sets.{Kept}
use Rattle.pac_sets.proofs.OrderLemmas.{sets_total}
use Rattle.pac_sets.proofs.SetLemmas.{less_there}
use Rattle.pac_commute.specs.Loads.{Job}
use Rattle.pac_commute.specs.Machine.{access_at}
use Rattle.pac_core.specs.declared.progress.Progress.{Progress}
use Rattle.pac_core.specs.declared.stage.OpenSet.{OpenSet}
use Rattle.pac_core.specs.declared.stage.SetStage.{SetStage}
use Rattle.pac_core.specs.declared.stage.SetStage.TheVariants.{Waiting, Open}
use Rattle.pac_core.specs.Calls.{touches_loaded}
use Rattle.pac_core.specs.Links.{IsOpened, KeepsProgress, batches_of, piece_in, replay_so_far, set_of_piece}
use Rattle.pac_core.specs.Moves.{pairs_kept, pairs_of}
use Rattle.pac_core.specs.Replay.{Replay, loaded_pieces, machine_of}
use Rattle.pac_core.proofs.Lists.{mem_either, mem_first, mem_second}
use Rattle.pac_core.proofs.Ready.{SetAt, own_piece, rises, set_at, stands_set, txns}
use Rattle.pac_core.proofs.SetFacts.{batch_at}

-- ---- sums over pieces

kept_cons : (x : Kept SetStage) (xs : List (Kept SetStage)) → pairs_kept (x ∷ xs) ≡ pairs_of x.1 + pairs_kept xs
kept_cons x xs = sum_by-cons (λ (set : Kept SetStage). pairs_of set.1) x xs

-- no piece stands there twice
abbrev NoTwice : List PieceId → Type 0
NoTwice [] = Unit {0}
NoTwice (p ∷ ps) = (Mem p ps → ⊥) × NoTwice ps

parted : (x : PieceId) (L : List PieceId) → Mem x L → (before : List PieceId) × (after : List PieceId) × (L ≡ before ++ x ∷ after)
parted x [] m = absurd m
parted x (y ∷ ys) (inl e) = ([], ys, ap (λ z. z ∷ ys) (sym e))
parted x (y ∷ ys) (inr m) = let r = parted x ys m in (y ∷ r.0, r.1, ap (λ l. y ∷ l) r.2)

module _ (f : PieceId → ℕ) where
  -- some of the pieces have no greater sum than all
  sum_inside : (xs L : List PieceId) → NoTwice xs → ((x : PieceId) → Mem x xs → Mem x L) → sum_by f xs ≤ sum_by f L
  sum_inside [] L once inside = omega arith
  sum_inside (x ∷ xs) L once inside = go (parted x L (inside x (inl refl))) (λ K there. sum_inside xs K once.1 there)
    where
      go : (before : List PieceId) × (after : List PieceId) × (L ≡ before ++ x ∷ after) → ((K : List PieceId) → ((y : PieceId) → Mem y xs → Mem y K) → sum_by f xs ≤ sum_by f K) → sum_by f (x ∷ xs) ≤ sum_by f L
      go (before, after, is) more =
          let rest : sum_by f xs ≤ sum_by f (before ++ after) = more (before ++ after) (λ y m. other y m (mem_either y before (x ∷ after) (subst (Mem y) is (inside y (inr m))))) in
          let own : sum_by f (x ∷ xs) ≡ f x + sum_by f xs = sum_by-cons f x xs in
          let tail : sum_by f (x ∷ after) ≡ f x + sum_by f after = sum_by-cons f x after in
          let whole : sum_by f L ≡ sum_by f before + sum_by f (x ∷ after) = ap (sum_by f) is ∙ sum_by-append f before (x ∷ after) in
          let less : sum_by f (before ++ after) ≡ sum_by f before + sum_by f after = sum_by-append f before after in
          omega (arith, own, tail, rest, whole, less)
        where
          other : (y : PieceId) → Mem y xs → Mem y before ⊎ Mem y (x ∷ after) → Mem y (before ++ after)
          other y m (inl first) = mem_first y before after first
          other y m (inr (inl same)) = absurd (once.0 (subst (λ z. Mem z xs) same m))
          other y m (inr (inr second)) = mem_second y before after second

no_twice_more : (xs ys : List PieceId) → NoTwice xs → NoTwice ys → ((q : PieceId) → Mem q xs → Mem q ys → ⊥) → NoTwice (xs ++ ys)
no_twice_more [] ys once other apart = other
no_twice_more (x ∷ xs) ys once other apart = (
  λ m. go (mem_either x xs ys m),
  no_twice_more xs ys once.1 other (λ q m n. apart q (inr m) n),
)
  where
    go : Mem x xs ⊎ Mem x ys → ⊥
    go (inl m) = once.0 m
    go (inr m) = apart x (inl refl) m

mapped : (block : ℕ) (ts : List ℕ) (q : PieceId) → Mem q (map (piece_in block) ts) → (t : ℕ) × Mem t ts × (q ≡ piece_in block t)
mapped block [] q m = absurd m
mapped block (t ∷ ts) q (inl e) = (t, inl refl, e)
mapped block (t ∷ ts) q (inr m) = let r = mapped block ts q m in (r.0, inr r.1, r.2)

-- pieces of ascending transactions
no_twice_map : (block : ℕ) (ts : List ℕ) → Rises ts → NoTwice (map (piece_in block) ts)
no_twice_map block [] up = tt
no_twice_map block (t ∷ ts) up = (
  λ m.
      let r = mapped block ts (piece_in block t) m in
      let same : t ≡ r.0 = ap (λ (p : PieceId). p.txn) r.2 in
      let less : t < r.0 = mem_each (λ c. t < c) ts up.0 r.0 r.1 in
      omega (arith, same, less),
  no_twice_map block ts up.1,
)

module _ (job : Job) (p : Progress) (keeps : KeepsProgress job p) where
  abbrev r : Replay
  r = replay_so_far job p

  abbrev access : PieceId → Access
  access q = access_at job (machine_of r) q

  -- what one piece may add
  abbrev weight : PieceId → ℕ
  weight q = 2 * touches_in (access q) + 2

  weighed : (ps : List PieceId) → sum_by weight ps ≡ 2 * count_touches (map access ps) + 2 * length (map access ps)
  weighed [] = omega arith
  weighed (q ∷ qs) =
      let e = weighed qs in
      let own : sum_by weight (q ∷ qs) ≡ weight q + sum_by weight qs = sum_by-cons weight q qs in
      let touches : count_touches (access q ∷ map access qs) ≡ touches_in (access q) + count_touches (map access qs) = sum_by-cons touches_in (access q) (map access qs) in
      omega (arith, e, own, touches)

  abbrev touched : PieceId → ℕ
  touched q = touches_in (access q)

  all_weighed : (ps : List PieceId) → sum_by weight ps ≡ 2 * sum_by touched ps + 2 * length ps
  all_weighed [] = omega arith
  all_weighed (q ∷ qs) =
      let e = all_weighed qs in
      let own : sum_by weight (q ∷ qs) ≡ weight q + sum_by weight qs = sum_by-cons weight q qs in
      let touches : sum_by touched (q ∷ qs) ≡ touches_in (access q) + sum_by touched qs = sum_by-cons touched q qs in
      omega (arith, e, own, touches)

  -- the pieces of a set that is open
  pieces_open : Option SetStage → List PieceId
  pieces_open None = []
  pieces_open (Some (Waiting rest)) = []
  pieces_open (Some (Open opening)) = opening.sched.pieces

  all_open : List (Kept SetStage) → List PieceId
  all_open [] = []
  all_open (x ∷ xs) = pieces_open x.1 ++ all_open xs

  module _ (at : ℕ) (id : SetId) (opening : OpenSet) (there : slice_get p.sets.sets at ≡ Some (id, Some (Open opening))) where
    set : SetAt job p keeps at id (Some (Open opening))
    set = set_at job p keeps at id (Some (Open opening)) there

    ts : List ℕ
    ts = txns job p keeps at id (Some (Open opening)) set

    opened : IsOpened r p.sets.sets id ts opening
    unfolding set ts
    opened = (keeps.stages at id (Open opening) set.batch set.there set.batch_there).2

    few : length opening.sched.pairs ≤ sum_by weight opening.sched.pieces
    few = let most = opened.pairs.1 in let same = weighed opening.sched.pieces in omega (arith, most, same)

    once : NoTwice opening.sched.pieces
    unfolding ts
    once = subst NoTwice (sym opened.pieces) (no_twice_map id.block ts (rises job p keeps at id (Some (Open opening)) set))

    its_own : (q : PieceId) → Mem q opening.sched.pieces → (set_of_piece (batches_of p) q ≡ id) × Mem q (loaded_pieces r)
    unfolding ts
    its_own q mem = go (mapped id.block ts q (subst (Mem q) opened.pieces mem))
      where
        go : (t : ℕ) × Mem t ts × (q ≡ piece_in id.block t) → (set_of_piece (batches_of p) q ≡ id) × Mem q (loaded_pieces r)
        go (t, m, is) = subst (λ x. (set_of_piece (batches_of p) x ≡ id) × Mem x (loaded_pieces r)) (sym is) (
          ap (λ (k : ℕ). record { batch = k - 1; block = id.block }) (batch_at job.parts job.first (batches_of p) keeps.machine.run_on t id.batch (t - set.batch.first) (stands_set job p keeps at id (Some (Open opening)) set t m))
              ∙ ap (λ (k : ℕ). record { batch = k; block = id.block }) (let e : id.batch + 1 - 1 ≡ id.batch = omega arith in e),
          own_piece job p keeps at id (Some (Open opening)) set t m,
        )

  -- what is open from an offset on
  record OpenFrom (sets : List (Kept SetStage)) : Type 0 where
    once_each : NoTwice (all_open sets)
    bound : pairs_kept sets ≤ sum_by weight (all_open sets)
    inside : (q : PieceId) → Mem q (all_open sets) → Mem q (loaded_pieces r)
    of_set : (q : PieceId) → Mem q (all_open sets) → (i : ℕ) × (x : Kept SetStage) × (slice_get sets i ≡ Some x) × (set_of_piece (batches_of p) q ≡ x.0)

  StandsFrom : ℕ → List (Kept SetStage) → Type 0
  StandsFrom from sets = (i : ℕ) (x : Kept SetStage) → slice_get sets i ≡ Some x → slice_get p.sets.sets (from + i) ≡ Some x

  skipped : (x : Kept SetStage) (xs : List (Kept SetStage)) → pairs_of x.1 ≡ 0 → pieces_open x.1 ≡ [] → OpenFrom xs → OpenFrom (x ∷ xs)
  unfolding all_open
  skipped x xs none empty rest =
      let same : all_open (x ∷ xs) ≡ all_open xs = ap (λ l. l ++ all_open xs) empty in
      record {
        once_each = subst NoTwice (sym same) rest.once_each;
        bound = (let b = rest.bound in let w : sum_by weight (all_open (x ∷ xs)) ≡ sum_by weight (all_open xs) = ap (sum_by weight) same in let k = kept_cons x xs in omega (arith, b, none, w, k));
        inside = λ q m. rest.inside q (subst (Mem q) same m);
        of_set = λ q m. let s = rest.of_set q (subst (Mem q) same m) in (suc s.0, s.1, s.2, s.3);
      }

  open_from : (from : ℕ) (sets : List (Kept SetStage)) → StandsFrom from sets → OpenFrom sets
  unfolding all_open StandsFrom pieces_open
  open_from from [] stands = record { once_each = tt; bound = omega arith; inside = λ q m. absurd m; of_set = λ q m. absurd m }
  open_from from ((id, None) ∷ xs) stands = skipped (id, None) xs refl refl (open_from (from + 1) xs (λ i x e. subst (λ n. slice_get p.sets.sets n ≡ Some x) (let n : from + suc i ≡ from + 1 + i = omega arith in n) (stands (suc i) x e)))
  open_from from ((id, Some (Waiting rest)) ∷ xs) stands = skipped (id, Some (Waiting rest)) xs refl refl (open_from (from + 1) xs (λ i x e. subst (λ n. slice_get p.sets.sets n ≡ Some x) (let n : from + suc i ≡ from + 1 + i = omega arith in n) (stands (suc i) x e)))
  open_from from ((id, Some (Open opening)) ∷ xs) stands = go (open_from (from + 1) xs (λ i x e. subst (λ n. slice_get p.sets.sets n ≡ Some x) (let n : from + suc i ≡ from + 1 + i = omega arith in n) (stands (suc i) x e)))
    where
      here : slice_get p.sets.sets from ≡ Some (id, Some (Open opening))
      here = subst (λ n. slice_get p.sets.sets n ≡ Some (id, Some (Open opening))) (let n : from + 0 ≡ from = omega arith in n) (stands 0 (id, Some (Open opening)) refl)

      go : OpenFrom xs → OpenFrom ((id, Some (Open opening)) ∷ xs)
      go rest = record {
        once_each = no_twice_more opening.sched.pieces (all_open xs) (once from id opening here) rest.once_each apart;
        bound = (let b = rest.bound in let f = few from id opening here in let w = sum_by-append weight opening.sched.pieces (all_open xs) in let k = kept_cons (id, Some (Open opening)) xs in omega (arith, b, f, w, k));
        inside = λ q m. in_either q (mem_either q opening.sched.pieces (all_open xs) m);
        of_set = λ q m. set_either q (mem_either q opening.sched.pieces (all_open xs) m);
      }
        where
          apart : (q : PieceId) → Mem q opening.sched.pieces → Mem q (all_open xs) → ⊥
          apart q m n =
              let s = rest.of_set q n in
              let same : id ≡ s.1.0 = sym (its_own from id opening here q m).0 ∙ s.3 in
              let less : set_cmp id s.1.0 ≡ Less = less_there p.sets.sets keeps.ascend from (from + suc s.0) (id, Some (Open opening)) s.1 here (stands (suc s.0) s.1 s.2) (omega arith) in
              let wrong : Less ≡ Equal = sym less ∙ ap (set_cmp id) (sym same) ∙ tied_itself sets_total id in
              cc

          in_either : (q : PieceId) → Mem q opening.sched.pieces ⊎ Mem q (all_open xs) → Mem q (loaded_pieces r)
          in_either q (inl m) = (its_own from id opening here q m).1
          in_either q (inr m) = rest.inside q m

          set_either : (q : PieceId) → Mem q opening.sched.pieces ⊎ Mem q (all_open xs) → (i : ℕ) × (x : Kept SetStage) × (slice_get ((id, Some (Open opening)) ∷ xs) i ≡ Some x) × (set_of_piece (batches_of p) q ≡ x.0)
          set_either q (inl m) = (0, (id, Some (Open opening)), refl, (its_own from id opening here q m).0)
          set_either q (inr m) = let s = rest.of_set q m in (suc s.0, s.1, s.2, s.3)

  pub few_pairs : pairs_kept p.sets.sets ≤ 2 * touches_loaded r + 2 * length (loaded_pieces r)
  unfolding StandsFrom
  few_pairs =
      let all = open_from 0 p.sets.sets (λ i x e. subst (λ n. slice_get p.sets.sets n ≡ Some x) (let n : i ≡ 0 + i = omega arith in n) e) in
      let bound = all.bound in
      let inside = sum_inside weight (all_open p.sets.sets) (loaded_pieces r) all.once_each all.inside in
      let sum = all_weighed (loaded_pieces r) in
      omega (arith, bound, inside, sum)
