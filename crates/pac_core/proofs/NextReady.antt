-- Sets are looked at in their order, each opened where it may be: the first piece that the schedule of one has ready is the next.
use Rattle.std.proofs.Common.{◌≡◌, ◌⊎◌, ℕ, ◌+◌, ◌-◌, ◌<◌, ◌≤◌, ◌==◌, nat_lt, Bool, true, false, ◌&&◌, ◌||◌, List, map, Option, Some, None, refl, sym, ap, subst, ◌∙◌, true≢false, inl, inr, arith}
use Rattle.std.specs.Prelude.{slice_get}
use Rattle.std.specs.declared.cmp.Ordering.{Ordering}
use Rattle.std.specs.declared.cmp.Ordering.TheVariants.{Less, Equal, Greater}
use Rattle.std.specs.Ordering.{nat_cmp, ordering_then}
use Rattle.std.proofs.lemmas.Bool.Decides.{nat_tests}
use Rattle.std.proofs.lemmas.Cmp.{ranked}
use Rattle.std.proofs.lemmas.Option.{same_Some, slice_get-get_or}
use Rattle.pac_base.specs.Members.{Mem}
use Rattle.pac_base.proofs.TestLemmas.{same_number, unlike}
use Rattle.pac_ops.specs.declared.piece.PieceId.{PieceId}
use Rattle.pac_plan.specs.declared.parts.PlanParts.{PlanParts}
use Rattle.pac_plan.specs.Worlds.{batch_of}
use Rattle.pac_sched.specs.declared.state.Pick.{Pick}
use Rattle.pac_sched.specs.declared.state.Pick.TheVariants.{Piece, NotReady, Done}
use Rattle.pac_sched.specs.Schedules.{all_finished, is_finished, pick, piece_is_ready, position_of}
use Rattle.pac_sched.proofs.PickLemmas.{done_exactly, not_ready_exactly, picks_first, stands}
use Rattle.pac_sets.specs.declared.set_id.SetId.{SetId}
use Rattle.pac_sets.specs.SetOrder.{set_cmp}
use Rattle.pac_sets.specs.Sets.{IsFirstOpen, IsOpenSet, Kept}
use Rattle.pac_sets.proofs.SetLemmas.{less_there}
use Rattle.pac_commute.specs.HandOut.{comes_before}
use Rattle.pac_commute.specs.Loads.{Job}
use Rattle.pac_commute.specs.Machine.{IsReadyAt, Machine, among, world_at}
use Rattle.pac_core.specs.declared.progress.Progress.{Progress}
use Rattle.pac_core.specs.declared.stage.SetStage.{SetStage}
use Rattle.pac_core.specs.declared.stage.SetStage.TheVariants.{Open}
use Rattle.pac_core.specs.Links.{KeepsProgress, ReadyFrom, batches_of, mark, piece_in, replay_so_far, set_ids, set_of_piece}
use Rattle.pac_core.specs.Moves.{HasNoneReady, StandsOpen}
use Rattle.pac_core.specs.Replay.{Replay, machine_of}
use Rattle.pac_core.specs.Takes.{IsNextPiece}
use Rattle.pac_core.proofs.Ascending.{rises_at}
use Rattle.pac_core.proofs.KeptAt.{equal_or_not}
use Rattle.pac_core.proofs.Lists.{at_map, at_mem, map_at, mem_at}
use Rattle.pac_core.proofs.Marks.{Placed, finished_is, placed, set_is}
use Rattle.pac_core.proofs.Ready.{SetAt, all_txns, any_mark, any_piece, open_of, placed_here, position_is, ready_there, rises, set_at, stands_set, there_ready, txns, unfinished_here}
use Rattle.pac_core.proofs.SetFacts.{batch_at}

-- ---- numbers

not_less : (a b : ℕ) → b ≤ a → nat_lt a b ≡ false
not_less a b le = grind (arith, nat_tests)

not_equal : (a b : ℕ) → (a ≡ b → ⊥) → (a == b) ≡ false
not_equal a b differ = unlike (a == b) (λ h. differ (same_number a b h))

-- one of a later batch, or of the batch and a later block, or of both and no earlier, doesn't come before
not_before : (k j b c t u : ℕ) → (k < j) ⊎ (((k ≡ j) × (b < c)) ⊎ ((k ≡ j) × (b ≡ c) × (t ≤ u))) → (nat_lt j k || (j == k && (nat_lt c b || (c == b && nat_lt u t)))) ≡ false
not_before k j b c t u (inl lt) = both (nat_lt j k) (j == k) _ (not_less j k (omega (arith, lt))) (not_equal j k (λ e. omega (arith, lt, e)))
  where
    both : (x y z : Bool) → x ≡ false → y ≡ false → (x || (y && z)) ≡ false
    both true y z e f = e
    both false true z e f = absurd (true≢false f)
    both false false z e f = refl
not_before k j b c t u (inr (inl (e, lt))) = both (nat_lt j k) (j == k) (nat_lt c b) (c == b) _ (not_less j k (omega (arith, e))) (not_less c b (omega (arith, lt))) (not_equal c b (λ f. omega (arith, lt, f)))
  where
    both : (x y z v w : Bool) → x ≡ false → z ≡ false → v ≡ false → (x || (y && (z || (v && w)))) ≡ false
    both true y z v w e f g = e
    both false true true v w e f g = f
    both false true false true w e f g = absurd (true≢false g)
    both false true false false w e f g = refl
    both false false z v w e f g = refl
not_before k j b c t u (inr (inr (e, f, le))) = both (nat_lt j k) (j == k) (nat_lt c b) (c == b) (nat_lt u t) (not_less j k (omega (arith, e))) (not_less c b (omega (arith, f))) (not_less u t le)
  where
    both : (x y z v w : Bool) → x ≡ false → z ≡ false → w ≡ false → (x || (y && (z || (v && w)))) ≡ false
    both true y z v w e f g = e
    both false true true v w e f g = f
    both false true false true w e f g = g
    both false true false false w e f g = refl
    both false false z v w e f g = refl

-- a set that is less is of an earlier batch, or of the batch and an earlier block
pub set_less : (a b : SetId) → set_cmp a b ≡ Less → (a.batch < b.batch) ⊎ ((a.batch ≡ b.batch) × (a.block < b.block))
set_less a b h = go (nat_cmp a.batch b.batch) (nat_cmp a.block b.block) refl refl h
  where
    go : (o r : Ordering) → o ≡ nat_cmp a.batch b.batch → r ≡ nat_cmp a.block b.block → ordering_then o r ≡ Less → (a.batch < b.batch) ⊎ ((a.batch ≡ b.batch) × (a.block < b.block))
    go Less r e f h = inl (ranked a.batch b.batch Less e)
    go Equal Less e f h = inr (ranked a.batch b.batch Equal e, ranked a.block b.block Less f)
    go Equal Equal e f h = cc
    go Equal Greater e f h = cc
    go Greater r e f h = cc

pub three : (i j : ℕ) → (i < j) ⊎ ((i ≡ j) ⊎ (j < i))
three i j = grind arith

-- ---- what is looked at

module _ (job : Job) (p : Progress) (keeps : KeepsProgress job p) where
  abbrev r : Replay
  r = replay_so_far job p

  abbrev m : Machine
  m = machine_of r

  -- a piece stands where its set does
  abbrev pub placed_at : (q : PieceId) → Placed job p keeps q → (j : ℕ) (kept : Option SetStage) → slice_get p.sets.sets j ≡ Some (set_of_piece (batches_of p) q, kept) → Placed job p keeps q
  placed_at q place j kept there = record {
    k = place.k;
    i = place.i;
    stands = place.stands;
    txn = place.txn;
    txn_is = place.txn_is;
    inside = place.inside;
    in_set = place.in_set;
    at = j;
    kept = kept;
    there = there ∙ ap (λ (s : SetId). Some (s, kept)) (set_is job p keeps q place);
  }

  -- the set of a ready piece is open
  pub is_open : (q : PieceId) (j : ℕ) (kept : Option SetStage) → IsReadyAt job m q → slice_get p.sets.sets j ≡ Some (set_of_piece (batches_of p) q, kept) → IsOpenSet p.sets.edges p.sets.sets j
  is_open q j kept ready there =
      subst (λ (edges : List (ℕ × ℕ)). IsOpenSet edges p.sets.sets j) (ap (λ (parts : PlanParts). parts.edges) keeps.parts ∙ sym keeps.edges)
      (open_of job p keeps q (placed_at q (placed job p keeps q ready.0) j kept there) ready)

  -- at the end none is ready
  pub none_left : (from : ℕ) → ReadyFrom job p from → IsFirstOpen p.sets.edges p.sets.sets from None → IsNextPiece r None
  none_left from ready_from none q ready =
      let place = placed job p keeps q ready.0 in
      let there : slice_get p.sets.sets place.at ≡ Some (set_of_piece (batches_of p) q, place.kept) = place.there ∙ ap (λ (s : SetId). Some (s, place.kept)) (sym (set_is job p keeps q place)) in
      none place.at (ready_from q place.at place.kept ready there) (is_open q place.at place.kept ready there)

  -- no ready piece is of a set before the first open one
  pub from_open : (from at : ℕ) → ReadyFrom job p from → IsFirstOpen p.sets.edges p.sets.sets from (Some at) → ReadyFrom job p at
  from_open from at ready_from first q j kept ready there = go (three j at)
    where
      go : (j < at) ⊎ ((j ≡ at) ⊎ (at < j)) → at ≤ j
      go (inl lt) = absurd (first.2 j (ready_from q j kept ready there) lt (is_open q j kept ready there))
      go (inr (inl e)) = omega (arith, e)
      go (inr (inr gt)) = omega (arith, gt)

  -- a piece that isn't finished in the replay isn't by what is kept of its set
  unfinished : (at : ℕ) (id : SetId) (kept : Option SetStage) (set : SetAt job p keeps at id kept) (t : ℕ) → Mem t (all_txns job p keeps at id kept set) → among r.finished (piece_in id.block t) ≡ false
      → is_finished (mark kept (piece_in id.block t)) ≡ false
  unfinished at id kept set t here e =
      sym (finished_is job p keeps (piece_in id.block t) (any_piece job p keeps at id kept set t here) ∙ ap is_finished (any_mark job p keeps at id kept set t here)) ∙ e

  -- of the pieces that are left of a set one comes before all others, where no set before it has a ready piece, and it has no ready one of a lesser transaction
  pub comes_first : (at : ℕ) (id : SetId) (stage : SetStage) (set : SetAt job p keeps at id (Some stage)) (t : ℕ) → Mem t (txns job p keeps at id (Some stage) set) → ReadyFrom job p at
      → ((q : PieceId) → IsReadyAt job m q → piece_in id.block q.txn ≡ q → Mem q.txn (txns job p keeps at id (Some stage) set) → t ≤ q.txn)
      → (q : PieceId) → IsReadyAt job m q → comes_before (world_at job m) q (piece_in id.block t) ≡ false
  comes_first at id stage set t mem ready_from least q q_ready =
      ap (λ (k : ℕ). nat_lt k (batch_of (batches_of p) t) || (k == batch_of (batches_of p) t && (nat_lt q.block id.block || (q.block == id.block && nat_lt q.txn t)))) q_batch
      ∙ ap (λ (k : ℕ). nat_lt (place.k + 1) k || (place.k + 1 == k && (nat_lt q.block id.block || (q.block == id.block && nat_lt q.txn t)))) own_batch
      ∙ not_before (id.batch + 1) (place.k + 1) id.block q.block t q.txn (cases (three place.at at))
    where
      place : Placed job p keeps q
      place = placed job p keeps q q_ready.0

      there : slice_get p.sets.sets place.at ≡ Some (set_of_piece (batches_of p) q, place.kept)
      there = place.there ∙ ap (λ (s : SetId). Some (s, place.kept)) (sym (set_is job p keeps q place))

      q_batch : batch_of (batches_of p) q.txn ≡ place.k + 1
      q_batch = batch_at job.parts job.first (batches_of p) keeps.machine.run_on q.txn place.k place.i place.stands

      own_batch : batch_of (batches_of p) t ≡ id.batch + 1
      own_batch = batch_at job.parts job.first (batches_of p) keeps.machine.run_on t id.batch (t - set.batch.first) (stands_set job p keeps at id (Some stage) set t mem)

      cases : (place.at < at) ⊎ ((place.at ≡ at) ⊎ (at < place.at)) → (id.batch + 1 < place.k + 1) ⊎ (((id.batch + 1 ≡ place.k + 1) × (id.block < q.block)) ⊎ ((id.batch + 1 ≡ place.k + 1) × (id.block ≡ q.block) × (t ≤ q.txn)))
      cases (inl lt) = let le = ready_from q place.at place.kept q_ready there in absurd (omega (arith, le, lt))
      cases (inr (inr gt)) = later (set_less id (record { batch = place.k; block = q.block }) (less_there p.sets.sets keeps.ascend at place.at _ _ set.there place.there gt))
        where
          later : (id.batch < place.k) ⊎ ((id.batch ≡ place.k) × (id.block < q.block)) → (id.batch + 1 < place.k + 1) ⊎ (((id.batch + 1 ≡ place.k + 1) × (id.block < q.block)) ⊎ ((id.batch + 1 ≡ place.k + 1) × (id.block ≡ q.block) × (t ≤ q.txn)))
          later (inl lt) = inl (omega (arith, lt))
          later (inr (e, lt)) = inr (inl (omega (arith, e), lt))
      cases (inr (inl e)) =
          let here : id ≡ record { batch = place.k; block = q.block } = ap (λ (x : Kept SetStage). x.0) (same_Some _ _ (sym set.there ∙ ap (slice_get p.sets.sets) (sym e) ∙ place.there)) in
          let batch : id.batch ≡ place.k = ap (λ (s : SetId). s.batch) here in
          let block : id.block ≡ q.block = ap (λ (s : SetId). s.block) here in
          let own : piece_in id.block q.txn ≡ q = λ k. record { txn = q.txn; block = block k } in
          let in_all = placed_here job p keeps q place at id (Some stage) set batch block in
          let left = unfinished_here job p keeps at id (Some stage) set q.txn in_all (unfinished at id (Some stage) set q.txn in_all (ap (among r.finished) own ∙ q_ready.2)) in
          inr (inr (omega (arith, batch), block, least q q_ready own left))

  module _ (at : ℕ) (opened : StandsOpen p at) where
    abbrev set : SetAt job p keeps at opened.set (Some (Open opened.opening))
    set = set_at job p keeps at opened.set (Some (Open opened.opening)) opened.there

    abbrev ts : List ℕ
    ts = txns job p keeps at opened.set (Some (Open opened.opening)) set

    -- where a ready piece of the open set stands in it
    ready_here : (q : PieceId) (kept : Option SetStage) → IsReadyAt job m q → slice_get p.sets.sets at ≡ Some (set_of_piece (batches_of p) q, kept)
        → (i : ℕ) × (slice_get ts i ≡ Some q.txn) × (piece_in opened.set.block q.txn ≡ q) × (piece_is_ready opened.opening.sched q ≡ true)
    ready_here q kept ready there =
        let place = placed job p keeps q ready.0 in
        let same : opened.set ≡ set_of_piece (batches_of p) q = ap (λ (x : Kept SetStage). x.0) (same_Some _ _ (sym opened.there ∙ there)) in
        let id : opened.set ≡ record { batch = place.k; block = q.block } = same ∙ set_is job p keeps q place in
        let block : opened.set.block ≡ q.block = ap (λ (s : SetId). s.block) id in
        let own : piece_in opened.set.block q.txn ≡ q = λ k. record { txn = q.txn; block = block k } in
        let here = placed_here job p keeps q place at opened.set (Some (Open opened.opening)) set (ap (λ (s : SetId). s.batch) id) block in
        let i = mem_at ts q.txn (unfinished_here job p keeps at opened.set (Some (Open opened.opening)) set q.txn here (unfinished at opened.set (Some (Open opened.opening)) set q.txn here (ap (among r.finished) own ∙ ready.2))) in (
          i.0,
          i.1,
          own,
          ap (piece_is_ready opened.opening.sched) (sym own)
              ∙ there_ready job p keeps at opened.set opened.opening set i.0 q.txn i.1 (subst (IsReadyAt job m) (sym own) ready),
        )

    -- where it has none, none is of it
    pub from_next : ReadyFrom job p at → HasNoneReady p at → ReadyFrom job p (at + 1)
    from_next ready_from none q j kept ready there = go (equal_or_not j at)
      where
        go : (j ≡ at) ⊎ (j ≡ at → ⊥) → at + 1 ≤ j
        go (inr differ) = let le = ready_from q j kept ready there in omega (arith, le, differ)
        go (inl e) =
            let here = ready_here q kept ready (ap (slice_get p.sets.sets) (sym e) ∙ there) in
            absurd (picks (pick opened.opening.sched) refl here.3)
          where
            left : all_finished opened.opening.sched ≡ false
            left = (keeps.stages at opened.set (Open opened.opening) set.batch set.there set.batch_there).2.left

            picks : (x : Pick) → pick opened.opening.sched ≡ x → piece_is_ready opened.opening.sched q ≡ true → ⊥
            picks (Piece piece) is h = none opened.set opened.opening opened.there piece is
            picks NotReady is h = true≢false (sym h ∙ ((not_ready_exactly opened.opening.sched).0 is).0 q)
            picks Done is h = true≢false (sym ((done_exactly opened.opening.sched).0 is) ∙ left)

    -- its first ready piece comes next
    pub next_here : ReadyFrom job p at → (piece : PieceId) → pick opened.opening.sched ≡ Piece piece → IsNextPiece r (Some piece)
    next_here ready_from piece picked = (ready, first)
      where
        is_ready : piece_is_ready opened.opening.sched piece ≡ true
        is_ready = (picks_first opened.opening.sched piece picked).0

        pieces : opened.opening.sched.pieces ≡ map (piece_in opened.set.block) ts
        pieces = (keeps.stages at opened.set (Open opened.opening) set.batch set.there set.batch_there).2.pieces

        -- it stands among the pieces of the set
        stands_in : (i : ℕ) × (position_of opened.opening.sched piece ≡ Some i)
        stands_in = go (position_of opened.opening.sched piece) refl
          where
            go : (o : Option ℕ) → position_of opened.opening.sched piece ≡ o → (i : ℕ) × (position_of opened.opening.sched piece ≡ Some i)
            go (Some i) e = (i, e)
            go None e = absurd (true≢false (sym is_ready ∙ not_ready e))
              where
                not_ready : position_of opened.opening.sched piece ≡ None → piece_is_ready opened.opening.sched piece ≡ false
                not_ready e = grind (arith, e)

        found : (t : ℕ) × (slice_get ts stands_in.0 ≡ Some t) × (piece_in opened.set.block t ≡ piece)
        found =
            let at_i = stands opened.opening.sched piece stands_in.0 stands_in.1 in
            map_at (piece_in opened.set.block) ts stands_in.0 piece
            (ap (λ ps. slice_get ps stands_in.0) (sym pieces) ∙ slice_get-get_or opened.opening.sched.pieces stands_in.0 piece at_i.0 ∙ ap (λ x. Some x) at_i.1)

        ready : IsReadyAt job m piece
        ready = subst (IsReadyAt job m) found.2
            (ready_there job p keeps at opened.set opened.opening set stands_in.0 found.0 found.1 (ap (piece_is_ready opened.opening.sched) found.2 ∙ is_ready))

        first : (q : PieceId) → IsReadyAt job m q → comes_before (world_at job m) q piece ≡ false
        first q q_ready =
            subst (λ (x : PieceId). comes_before (world_at job m) q x ≡ false) found.2
            (comes_first at opened.set (Open opened.opening) set found.0 (at_mem ts stands_in.0 found.0 found.1) ready_from least q q_ready)
          where
            least : (q : PieceId) → IsReadyAt job m q → piece_in opened.set.block q.txn ≡ q → Mem q.txn ts → found.0 ≤ q.txn
            least q q_ready own mem = go (three j.0 stands_in.0)
              where
                j : (k : ℕ) × (slice_get ts k ≡ Some q.txn)
                j = mem_at ts q.txn mem

                is_ready_too : piece_is_ready opened.opening.sched q ≡ true
                is_ready_too = ap (piece_is_ready opened.opening.sched) (sym own) ∙ there_ready job p keeps at opened.set opened.opening set j.0 q.txn j.1 (subst (IsReadyAt job m) (sym own) q_ready)

                position_q : position_of opened.opening.sched q ≡ Some j.0
                position_q = ap (position_of opened.opening.sched) (sym own) ∙ position_is job p keeps at opened.set opened.opening set j.0 q.txn j.1

                go : (j.0 < stands_in.0) ⊎ ((j.0 ≡ stands_in.0) ⊎ (stands_in.0 < j.0)) → found.0 ≤ q.txn
                go (inl lt) = absurd (true≢false (sym is_ready_too ∙ (picks_first opened.opening.sched piece picked).1 q stands_in.0 j.0 stands_in.1 position_q lt))
                go (inr (inl same)) = let t : found.0 ≡ q.txn = same_Some _ _ (sym found.1 ∙ ap (slice_get ts) (sym same) ∙ j.1) in omega (arith, t)
                go (inr (inr gt)) = let lt = rises_at ts (rises job p keeps at opened.set (Some (Open opened.opening)) set) stands_in.0 j.0 found.0 q.txn found.1 j.1 gt in omega (arith, lt)

-- what is looked at stays so where a set is opened
pub from_same : (job : Job) (p new : Progress) (keeps : KeepsProgress job p) (keeps_new : KeepsProgress job new) → replay_so_far job new ≡ replay_so_far job p → (at : ℕ) → ReadyFrom job p at → ReadyFrom job new at
from_same job p new keeps keeps_new same at ready_from q j kept ready there =
    let batches : batches_of new ≡ batches_of p = ap (λ (r : Replay). r.batches) same in
    let ids : map (λ (set : Kept SetStage). set.0) new.sets.sets ≡ map (λ (set : Kept SetStage). set.0) p.sets.sets = keeps_new.sets ∙ ap (set_ids job.parts 0) batches ∙ sym keeps.sets in
    let old = map_at (λ (set : Kept SetStage). set.0) p.sets.sets j (set_of_piece (batches_of new) q)
    (ap (λ l. slice_get l j) (sym ids) ∙ at_map (λ (set : Kept SetStage). set.0) new.sets.sets j (set_of_piece (batches_of new) q, kept) there) in
    ready_from q j old.0.1 (subst (λ (r : Replay). IsReadyAt job (machine_of r) q) same ready)
    (old.1 ∙ ap (λ (s : SetId). Some (s, old.0.1)) (old.2 ∙ ap (λ bs. set_of_piece bs q) batches))

-- it counts for nothing where a piece was taken last
pub seen_keeps : (job : Job) (p : Progress) (at : ℕ) → KeepsProgress job p → KeepsProgress job (record p { recent = at })
seen_keeps job p at keeps = record {
  parts = keeps.parts;
  first = keeps.first;
  edges = keeps.edges;
  blocks = keeps.blocks;
  is_plan = keeps.is_plan;
  fit = keeps.fit;
  machine = keeps.machine;
  order = keeps.order;
  note = keeps.note;
  next = keeps.next;
  unfinished = keeps.unfinished;
  sets = keeps.sets;
  ascend = keeps.ascend;
  stages = keeps.stages;
  values = keeps.values;
}
