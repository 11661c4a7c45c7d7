-- Two pieces change places, and readiness without barriers holds what a piece needs.
use Rattle.std.proofs.Common.{◌≡◌, ℕ, ◌<◌, Bool, true, false, ◌&&◌, ◌||◌, List, refl, sym, ap, ◌∙◌, subst, Option, Some, ◌==◌, ◌⊎◌, inl, inr, ⊎_elim, nat_lt}
use Rattle.std.proofs.lemmas.Bool.Decides.{Decides-ltb}
use Rattle.pac_value.specs.declared.values.Value.{Value}
use Rattle.pac_value.specs.Expressions.{Values}
use Rattle.pac_value.specs.State.{Cell, RowValues}
use Rattle.pac_ops.specs.declared.note.Note.{Note}
use Rattle.pac_ops.specs.declared.piece.PieceId.{PieceId}
use Rattle.pac_ops.specs.Notes.{first_note}
use Rattle.pac_ops.specs.Uses.{op_uses, defined_variable}
use Rattle.pac_ops.specs.Operations.{State}
use Rattle.pac_base.specs.Members.{Each, Mem}
use Rattle.pac_ops.specs.Effects.{flat_cell, NumberedOp, is_var, defined_in, used_in}
use Rattle.pac_plan.specs.Pieces.{Present, of_txn, part, conflicts, World, ops, apply, access, precedes, HasInputs, Location, RowOf, VarOf, at_location, touches, writes}
use Rattle.pac_plan.specs.WorldOrder.{WellFormed}
use Rattle.pac_commute.specs.HandOut.{TwoPieces, FineReady, FineIsEnough}
use Rattle.pac_commute.proofs.Turns as turns
use Rattle.pac_base.proofs.TestLemmas.{or_left, or_right, eq_self, same_number, equal_number, and_left, and_right, and_both, or_cases, unlike, not_false, any_mem, each_mem, mem_each}
use Rattle.pac_ops.proofs.EffectLemmas.{cell-table}
use Rattle.pac_commute.proofs.Present.{same_present}
use Rattle.pac_ops.proofs.StateLemmas.{least-swap}
use Rattle.pac_ops.proofs.FrameLemmas.{Fits, kept_ops, alike_ops, said_alike}
use Rattle.pac_plan.proofs.AccessLemmas.{apart_left, apart_right}
use Rattle.pac_plan.proofs.PartLemmas.{part-mem}
use Rattle.pac_commute.proofs.Laws.{le_split, laws, spots, seen_spot, kept_in, alike_in, says, noted_by}

module _ (w : World) (well_formed : WellFormed w) where
  -- by tables alone, in any state
  wide : PieceId → Location → Bool
  wide p (RowOf a) = p.block == w.home a.0
  wide p (VarOf u x) = u == p.txn && (used_in (ops w p) x || defined_in (ops w p) x)

  wide_writes : PieceId → Location → Bool
  wide_writes p (RowOf a) = p.block == w.home a.0
  wide_writes p (VarOf u x) = u == p.txn && defined_in (ops w p) x

  abbrev Anywhere : PieceId → Present → Type 0
  Anywhere p s = Unit {0}

  abbrev Always : State → Type 0
  Always s = Unit {0}

  wide_fits : (p : PieceId) → Each (λ o. Fits (w.vars p.txn) (spots p.txn (wide p)) (spots p.txn (wide_writes p)) Always o.1) (ops w p)
  unfolding wide wide_writes
  wide_fits p = each_mem _ (ops w p) (λ o m. record {
    reads = λ x u. and_both (p.txn == p.txn) (used_in (ops w p) x || defined_in (ops w p) x) (eq_self p.txn) (or_left (used_in (ops w p) x) (defined_in (ops w p) x) (any_mem (λ (d : NumberedOp). op_uses x d.1) o (ops w p) m u));
    sets = λ x d. and_both (p.txn == p.txn) (defined_in (ops w p) x) (eq_self p.txn) (any_mem (λ (d : NumberedOp). is_var x (defined_variable d.1.kind)) o (ops w p) m (rw d (eq_self x)));
    rows = λ s good a at. (at_home p o m s a at, λ d. at_home p o m s a at);
  })
    where
      at_home : (p : PieceId) (o : NumberedOp) → Mem o (ops w p) → (s : State) (a : Cell) → flat_cell o.1 s.env ≡ Some a → (p.block == w.home a.0) ≡ true
      at_home p o m s a at =
          let in_part : Mem o (w.code p.txn) × (w.block p.txn o ≡ p.block) = part-mem (w.block p.txn) p.block (w.code p.txn) o m in
          equal_number _ _ (sym in_part.1 ∙ sym (mem_each _ (w.code p.txn) (well_formed.homes p.txn) o in_part.0 a.0 (cell-table o.1 s.env a at)))

  wide_laws : turns.Laws Present Location (Option RowValues × Option Value) (Option Note) (List Note) PieceId at_location (λ s. s.note) (apply w) (says w) noted_by wide wide_writes Anywhere
  unfolding apply wide wide_writes
  wide_laws = record {
    same = same_present;
    any_order = λ n a b. least-swap n (first_note a) (first_note b);
    within = within;
    noted = λ p s. refl;
    kept = λ p s good. kept_in p.txn (wide_writes p) s _ (apply w p s).note
        (kept_ops (w.vars p.txn) (spots p.txn (wide p)) (spots p.txn (wide_writes p)) Always (λ s s' g k. tt) (ops w p) (wide_fits p) (of_txn p.txn s) tt);
    good_alike = λ p s s' good alike. tt;
    alike = λ p s s' good alike. alike_in p.txn (wide p) s s' _ _ (apply w p s).note (apply w p s').note
        (alike_ops (w.vars p.txn) (spots p.txn (wide p)) (spots p.txn (wide_writes p)) Always (λ s s' g k. tt) (ops w p) (wide_fits p) (of_txn p.txn s) (of_txn p.txn s') tt (seen_spot p.txn (wide p) s s' alike)) alike;
    said_alike = λ p s s' good alike. said_alike (w.vars p.txn) (spots p.txn (wide p)) (spots p.txn (wide_writes p)) Always (λ s s' g k. tt) p.txn (ops w p) (wide_fits p) (of_txn p.txn s) (of_txn p.txn s') tt (seen_spot p.txn (wide p) s s' alike);
  }
    where
      within : (p : PieceId) (c : Location) → wide_writes p c ≡ true → wide p c ≡ true
      within p (RowOf a) e = e
      within p (VarOf u x) e = and_both _ _ (and_left (u == p.txn) (defined_in (ops w p) x) e) (or_right (used_in (ops w p) x) _ (and_right (u == p.txn) (defined_in (ops w p) x) e))

  WideApart : PieceId → PieceId → Type 0
  WideApart p q = (c : Location) → (wide_writes p c ≡ true → wide q c ≡ false) × (wide_writes q c ≡ true → wide p c ≡ false)

  wide_swap : (p q : PieceId) (s : Present) → WideApart p q → apply w p (apply w q s) ≡ apply w q (apply w p s)
  unfolding WideApart
  wide_swap p q s apart = turns.swap Present Location (Option RowValues × Option Value) (Option Note) (List Note) PieceId at_location (λ s. s.note) (apply w) (says w) noted_by wide wide_writes Anywhere wide_laws p q s tt tt apart

  two_numbers : (x a b : ℕ) → (a ≡ b → ⊥) → (x == a) ≡ true → (x == b) ≡ true → ⊥
  two_numbers x a b differ e f = differ (sym (same_number x a e) ∙ same_number x b f)

  other_blocks : (p q : PieceId) → (p.block ≡ q.block → ⊥) → (a : ℕ) → (p.block == w.home a) ≡ true → (q.block == w.home a) ≡ true → ⊥
  other_blocks p q differ a e f = differ (same_number _ _ e ∙ sym (same_number _ _ f))

  first : (p q : PieceId) → (p.txn ≡ q.txn → ⊥) → (p.block ≡ q.block → ⊥) → WideApart p q
  unfolding WideApart wide wide_writes
  first p q t b (RowOf a) = (λ e. unlike _ (λ f. other_blocks p q b a.0 e f), λ e. unlike _ (λ f. other_blocks p q b a.0 f e))
  first p q t b (VarOf u x) = (
    λ e. unlike _ (λ f. two_numbers u p.txn q.txn t (and_left (u == p.txn) _ e) (and_left (u == q.txn) _ f)),
    λ e. unlike _ (λ f. two_numbers u p.txn q.txn t (and_left (u == p.txn) _ f) (and_left (u == q.txn) _ e)),
  )

  no_flow : (t b b' x : ℕ) → (b ≡ b' → ⊥) → w.edge b b' ≡ false → defined_in (part (w.block t) b (w.code t)) x ≡ true → (used_in (part (w.block t) b' (w.code t)) x || defined_in (part (w.block t) b' (w.code t)) x) ≡ true → ⊥
  no_flow t b b' x differ e d u = ⊎_elim
      (λ v. ⊎_elim differ (λ f. not_false _ e f) (well_formed.flows t b b' x d v))
      (λ v. differ (well_formed.once t b b' x d v))
      (or_cases (used_in (part (w.block t) b' (w.code t)) x) (defined_in (part (w.block t) b' (w.code t)) x) u)

  second : (t b b' : ℕ) → (b ≡ b' → ⊥) → w.edge b b' ≡ false → w.edge b' b ≡ false → WideApart (record { txn = t; block = b }) (record { txn = t; block = b' })
  unfolding WideApart wide wide_writes
  second t b b' differ e e' (RowOf a) = (
    λ h. unlike _ (λ f. differ (same_number _ _ h ∙ sym (same_number _ _ f))),
    λ h. unlike _ (λ f. differ (same_number _ _ f ∙ sym (same_number _ _ h))),
  )
  second t b b' differ e e' (VarOf u x) = (
    λ h. unlike _ (λ f. no_flow t b b' x differ e (and_right (u == t) _ h) (and_right (u == t) _ f)),
    λ h. unlike _ (λ f. no_flow t b' b x (λ g. differ (sym g)) e' (and_right (u == t) _ h) (and_right (u == t) _ f)),
  )

  third : (env : ℕ → Values) (p q : PieceId) → (p.txn ≡ q.txn → ⊥) → conflicts (access w env p) (access w env q) ≡ false
      → (c : Location) → (writes w env p c ≡ true → touches w env q c ≡ false) × (writes w env q c ≡ true → touches w env p c ≡ false)
  third env p q t calm (RowOf a) = (
    λ e. unlike _ (λ f. not_false _ (apart_left (access w env p) (access w env q) calm a (and_right (p.block == w.home a.0) _ e)) (and_right (q.block == w.home a.0) _ f)),
    λ e. unlike _ (λ f. not_false _ (apart_right (access w env p) (access w env q) calm a (and_right (q.block == w.home a.0) _ e)) (and_right (p.block == w.home a.0) _ f)),
  )
  third env p q t calm (VarOf u x) = (
    λ e. unlike _ (λ f. two_numbers u p.txn q.txn t (and_left (u == p.txn) _ e) (and_left (u == q.txn) _ f)),
    λ e. unlike _ (λ f. two_numbers u p.txn q.txn t (and_left (u == p.txn) _ f) (and_left (u == q.txn) _ e)),
  )

  pub two_pieces : TwoPieces w
  two_pieces env s p q (inl h) = wide_swap p q s (first p q h.0 h.1)
  two_pieces env s p q (inr (inl h)) = wide_swap p q s (subst (λ t. WideApart p (record { txn = t; block = q.block })) h.0 (second p.txn p.block q.block h.1 h.2 h.3))
  two_pieces env s p q (inr (inr h)) = turns.swap Present Location (Option RowValues × Option Value) (Option Note) (List Note) PieceId at_location (λ s. s.note) (apply w) (says w) noted_by (touches w env) (writes w env) (HasInputs w env)
      (laws w well_formed env) p q s h.3 h.4 (third env p q h.0 h.2)

  pub fine : (env : ℕ → Values) (L : List PieceId) → FineIsEnough w env L
  fine env L F p m = (λ ready q mq n. ⊎_elim (flow ready q mq) (conflict ready q mq) (or_cases (q.txn == p.txn && w.edge q.block p.block) _ n), λ preds. (early preds, before preds))
    where
      flow : FineReady w env L F p → (q : PieceId) → Mem q L → (q.txn == p.txn && w.edge q.block p.block) ≡ true → F q ≡ true
      flow ready q mq e = ready.0 q mq (same_number _ _ (and_left (q.txn == p.txn) _ e)) (and_right (q.txn == p.txn) _ e)

      conflict : FineReady w env L F p → (q : PieceId) → Mem q L → (q.block == p.block && nat_lt q.txn p.txn && conflicts (access w env q) (access w env p)) ≡ true → F q ≡ true
      conflict ready q mq e = ⊎_elim (λ f. f) (λ h. absurd (not_false _ h.1 (and_right (q.block == p.block && nat_lt q.txn p.txn) _ e)))
          (ready.1 q mq ((Decides-ltb _ _).0 (and_right (q.block == p.block) _ both)) (same_number _ _ (and_left (q.block == p.block) _ both)))
        where
          both : (q.block == p.block && nat_lt q.txn p.txn) ≡ true
          both = and_left (q.block == p.block && nat_lt q.txn p.txn) (conflicts (access w env q) (access w env p)) e

      barrier : (q : PieceId) → w.batch q.txn ≡ w.batch p.txn → w.edge q.block p.block ≡ true → precedes w env q p ≡ true
      barrier q b e = or_left (w.batch q.txn == w.batch p.txn && w.edge q.block p.block) _ (and_both _ _ (equal_number _ _ b) e)

      early : ((q : PieceId) → Mem q L → precedes w env q p ≡ true → F q ≡ true) → (q : PieceId) → Mem q L → q.txn ≡ p.txn → w.edge q.block p.block ≡ true → F q ≡ true
      early preds q mq same e = preds q mq (barrier q (ap w.batch same) e)

      before : ((q : PieceId) → Mem q L → precedes w env q p ≡ true → F q ≡ true) → (q : PieceId) → Mem q L → q.txn < p.txn → q.block ≡ p.block
          → (F q ≡ true) ⊎ (((r : PieceId) → Mem r L → r.txn ≡ q.txn → w.edge r.block q.block ≡ true → F r ≡ true) × (conflicts (access w env q) (access w env p) ≡ false))
      before preds q mq lt same = go (precedes w env q p) refl
        where
          block : (q.block == p.block) ≡ true
          block = equal_number _ _ same

          b1 : Bool
          b1 = w.batch q.txn == w.batch p.txn && w.edge q.block p.block

          b2 : Bool
          b2 = q.block == p.block && nat_lt (w.batch q.txn) (w.batch p.txn)

          b3 : Bool
          b3 = q.block == p.block && w.batch q.txn == w.batch p.txn && nat_lt q.txn p.txn && conflicts (access w env q) (access w env p)

          one_batch : precedes w env q p ≡ false → w.batch q.txn ≡ w.batch p.txn
          one_batch free = ⊎_elim (λ l. absurd (not_false _ free (or_right b1 (b2 || b3) (or_left b2 b3 (and_both _ _ block ((Decides-ltb _ _).1 l)))))) (λ e. e)
              (le_split (w.batch q.txn) (w.batch p.txn) (well_formed.batches q.txn p.txn lt))

          calm : precedes w env q p ≡ false → conflicts (access w env q) (access w env p) ≡ false
          calm free = unlike _ (λ c. not_false _ free (or_right b1 (b2 || b3) (or_right b2 b3
              (and_both (q.block == p.block && w.batch q.txn == w.batch p.txn && nat_lt q.txn p.txn) _
              (and_both (q.block == p.block && w.batch q.txn == w.batch p.txn) _
              (and_both (q.block == p.block) _ block (equal_number _ _ (one_batch free))) ((Decides-ltb _ _).1 lt)) c))))

          go : (b : Bool) → precedes w env q p ≡ b
              → (F q ≡ true) ⊎ (((r : PieceId) → Mem r L → r.txn ≡ q.txn → w.edge r.block q.block ≡ true → F r ≡ true) × (conflicts (access w env q) (access w env p) ≡ false))
          go true e = inl (preds q mq e)
          go false e = inr (λ r mr t edge. preds r mr (barrier r (ap w.batch t ∙ one_batch e) (ap (w.edge r.block) (sym same) ∙ edge)), calm e)
