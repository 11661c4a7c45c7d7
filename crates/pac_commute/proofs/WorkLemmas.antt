-- Work on copies is work in the state.
use Rattle.std.proofs.Common.{◌≡◌, ℕ, ◌==◌, Bool, true, false, cond, ◌||◌, List, [], ◌∷◌, refl, sym, ap, ◌∙◌, subst, true≢false, Option, Some, None, ◌⊎◌, inl, inr}
use Rattle.std.specs.Cmp.{nat_cmp_total, unsigned_ties}
use Rattle.std.specs.FinMap.{get, get-insert, get-remove}
use Rattle.pac_value.specs.declared.values.Value.{Value}
use Rattle.pac_value.specs.Expressions.{Values}
use Rattle.pac_value.specs.State.{Cell, RowValues}
use Rattle.pac_ops.specs.declared.piece.PieceId.{PieceId}
use Rattle.pac_ops.specs.Notes.{first_note, least}
use Rattle.pac_ops.specs.Operations.{State}
use Rattle.pac_plan.specs.Pieces.{Present, of_txn, World, ops, apply, partial, pieces, part, access, covers, HasInputs, Location, RowOf, VarOf, at_location, touches, writes}
use Rattle.pac_ops.specs.Effects.{defined_in, used_in, RowAt, VarAt}
use Rattle.pac_plan.specs.WorldOrder.{WellFormed}
use Rattle.pac_commute.specs.Works.{IsWork, worked, IsOutcome, put_over, given_over, IsPut, WorkIsApply, WithinAccess, Fresh, with_value}
use Rattle.pac_base.proofs.TestLemmas.{eq_self, same_number, equal_number, and_right, and_both, or_cases, unlike, or_right}
use Rattle.pac_commute.proofs.Present.{same_present}
use Rattle.pac_ops.proofs.FrameLemmas.{AlikeOn, alike_ops, said_alike}
use Rattle.pac_commute.proofs.Laws.{spots, laws, fits, good_kept, LocalInputs}
use Rattle.pac_commute.proofs.Law.{other_stays, undefined_stays}
use Rattle.pac_ops.proofs.DefinedLemmas.{undefined_meaning}

module _ (w : World) (well_formed : WellFormed w) where
  pub within_access : WithinAccess w
  within_access env p s good = ((laws w well_formed env).kept p s good, λ s' alike. ((laws w well_formed env).alike p s s' good alike, (laws w well_formed env).said_alike p s s' good alike))

  module _ (env : ℕ → Values) (p : PieceId) (s : Present) (work : State) (good : HasInputs w env p s) (is : IsWork w env p s work) where
    alike : AlikeOn (spots p.txn (touches w env p)) (of_txn p.txn s) work
    alike (RowAt a) e = ap (λ r. (r, None)) (sym (is.rows a (and_right (p.block == w.home a.0) (covers (access w env p) a) e)))
    alike (VarAt x) e = ap (λ v. (None, v)) (sym (go (defined_in (ops w p) x) refl (or_cases (used_in (ops w p) x) (defined_in (ops w p) x) (and_right (p.txn == p.txn) _ e))))
      where
        go : (b : Bool) → defined_in (ops w p) x ≡ b → (used_in (ops w p) x ≡ true) ⊎ (defined_in (ops w p) x ≡ true) → get work.env x ≡ get (s.envs p.txn) x
        go true d h = is.fresh x d
        go false d (inl u) = is.inputs x u d
        go false d (inr d') = absurd (true≢false (sym d' ∙ d))

    after_alike : AlikeOn (spots p.txn (touches w env p)) (worked w p (of_txn p.txn s)) (worked w p work)
    after_alike = alike_ops (w.vars p.txn) (spots p.txn (touches w env p)) (spots p.txn (writes w env p)) (LocalInputs w well_formed env p) (good_kept w well_formed env p) (ops w p) (fits w well_formed env p) (of_txn p.txn s) work good alike

    module _ (s' : Present) (rows : Cell → Option (Option RowValues)) (outs : ℕ → Option Value) (done : IsOutcome w env p work rows outs) (put : IsPut w p work rows outs s s') where
      row_same : (q : Cell) → get s'.tables q ≡ get (worked w p (of_txn p.txn s)).tables q
      unfolding apply
      row_same q = put.tables q ∙ go (rows q) refl
        where
          -- what isn't written stays, whether it could be written or not
          stays : (b : Bool) → writes w env p (RowOf q) ≡ b → rows q ≡ None → get s.tables q ≡ get (worked w p (of_txn p.txn s)).tables q
          stays true e none =
              let touched : touches w env p (RowOf q) ≡ true = (laws w well_formed env).within p (RowOf q) e in
              ap (λ r. r.0) (alike (RowAt q) touched) ∙ sym (done.unwritten q none) ∙ sym (ap (λ r. r.0) (after_alike (RowAt q) touched))
          stays false e none = sym (ap (λ r. r.0) (kept_row e))
            where
              kept_row : writes w env p (RowOf q) ≡ false → at_location (apply w p s) (RowOf q) ≡ at_location s (RowOf q)
              kept_row e = (laws w well_formed env).kept p s good (RowOf q) e

          go : (o : Option (Option RowValues)) → rows q ≡ o → put_over o (get s.tables q) ≡ get (worked w p (of_txn p.txn s)).tables q
          go None e = stays (writes w env p (RowOf q)) refl e
          go (Some row) e =
              let h = done.written q row e in
              sym h.1 ∙ sym (ap (λ r. r.0) (after_alike (RowAt q) ((laws w well_formed env).within p (RowOf q) h.0)))

      value_same : (x : ℕ) → get (s'.envs p.txn) x ≡ get (worked w p (of_txn p.txn s)).env x
      value_same x = put.own x ∙ go (outs x) refl
        where
          own_touched : defined_in (ops w p) x ≡ true → touches w env p (VarOf p.txn x) ≡ true
          own_touched d = and_both (p.txn == p.txn) (used_in (ops w p) x || defined_in (ops w p) x) (eq_self p.txn) (or_right (used_in (ops w p) x) (defined_in (ops w p) x) d)

          stays : (b : Bool) → defined_in (ops w p) x ≡ b → outs x ≡ None → get (s.envs p.txn) x ≡ get (worked w p (of_txn p.txn s)).env x
          stays true d none = sym (is.fresh x d) ∙ sym (done.ungiven x none) ∙ sym (ap (λ r. r.1) (after_alike (VarAt x) (own_touched d)))
          stays false d none = sym (undefined_here d)
            where
              undefined_here : defined_in (ops w p) x ≡ false → get (worked w p (of_txn p.txn s)).env x ≡ get (s.envs p.txn) x
              undefined_here d = undefined_meaning (w.vars p.txn) (ops w p) (of_txn p.txn s) x d

          go : (o : Option Value) → outs x ≡ o → given_over o (get (s.envs p.txn) x) ≡ get (worked w p (of_txn p.txn s)).env x
          go None e = stays (defined_in (ops w p) x) refl e
          go (Some v) e =
              let h = done.given x v e in
              sym h.1 ∙ sym (ap (λ r. r.1) (after_alike (VarAt x) (own_touched h.0)))

      put_is_apply : s' ≡ apply w p s
      unfolding apply
      put_is_apply = same_present s' (apply w p s) offsets notes
        where
          offsets : (c : Location) → at_location s' c ≡ at_location (apply w p s) c
          offsets (RowOf q) = ap (λ r. (r, None)) (row_same q)
          offsets (VarOf u x) = ap (λ v. (None, v)) (go (u == p.txn) refl)
            where
              go : (b : Bool) → (u == p.txn) ≡ b → get (s'.envs u) x ≡ get (cond b (worked w p (of_txn p.txn s)).env (s.envs u)) x
              go true e = ap (λ t. get (s'.envs t) x) (same_number u p.txn e) ∙ value_same x
              go false e = put.others u x (λ same. true≢false (sym (equal_number u p.txn same) ∙ e))

          notes : s'.note ≡ (apply w p s).note
          notes = put.note ∙ ap (λ ns. least s.note (first_note ns))
              (sym (said_alike (w.vars p.txn) (spots p.txn (touches w env p)) (spots p.txn (writes w env p)) (LocalInputs w well_formed env p) (good_kept w well_formed env p) p.txn (ops w p) (fits w well_formed env p) (of_txn p.txn s) work good alike))

  pub work_is_apply : WorkIsApply w
  work_is_apply env p s s' work rows outs good is done put = put_is_apply env p s work good is s' rows outs done put

  -- ---- fresh variables

  others : (p q : PieceId) → ((p.txn ≡ q.txn) × (p.block ≡ q.block) → ⊥) → (s : Present) (x : ℕ) → defined_in (ops w p) x ≡ true → get ((apply w q s).envs p.txn) x ≡ get (s.envs p.txn) x
  unfolding apply
  others p q differ s x d = go (p.txn == q.txn) refl
    where
      go : (b : Bool) → (p.txn == q.txn) ≡ b → get ((apply w q s).envs p.txn) x ≡ get (s.envs p.txn) x
      go true e =
          let same : p.txn ≡ q.txn = same_number p.txn q.txn e in
          subst (λ t. get ((apply w q s).envs t) x ≡ get (s.envs t) x) (sym same)
          (undefined_stays q.txn (w.vars q.txn) (ops w q) s x (unlike _ (λ f. differ (same, well_formed.once q.txn p.block q.block x (ap (λ t. defined_in (part (w.block t) p.block (w.code t)) x) (sym same) ∙ d) f))))
      go false e = ap (λ m. get m x) (other_stays q.txn (w.vars q.txn) (ops w q) s p.txn (λ same. true≢false (sym (equal_number p.txn q.txn same) ∙ e)))

  stays_fresh : (F : PieceId → Bool) (p : PieceId) → F p ≡ false → (ps : List PieceId) (s : Present) (x : ℕ) → defined_in (ops w p) x ≡ true → get ((partial w F ps s).envs p.txn) x ≡ get (s.envs p.txn) x
  unfolding partial
  stays_fresh F p out [] s x d = refl
  stays_fresh F p out (q ∷ qs) s x d = stays_fresh F p out qs (cond (F q) (apply w q s) s) x d ∙ go (F q) refl
    where
      go : (b : Bool) → F q ≡ b → get ((cond b (apply w q s) s).envs p.txn) x ≡ get (s.envs p.txn) x
      go true e = others p q (λ same. true≢false (sym e ∙ ap F (λ i. record { txn = sym same.0 i; block = sym same.1 i }) ∙ out)) s x d
      go false e = refl

  pub fresh_law : (ts bs : List ℕ) → Fresh w ts bs
  fresh_law ts bs s F p out x d = stays_fresh F p out (pieces w ts bs) s x d

-- ---- values that are put in

pub get-with_value : (env : Values) (x : ℕ) (v : Option Value) (y : ℕ) → get (with_value env x v) y ≡ cond (y == x) v (get env y)
get-with_value env x None y = get-remove nat_cmp_total env x y ∙ ap (λ b. cond b None (get env y)) (sym (unsigned_ties y x))
get-with_value env x (Some v) y = get-insert nat_cmp_total env x v y ∙ ap (λ b. cond b (Some v) (get env y)) (sym (unsigned_ties y x))
