-- Pieces are steps with footprints, and pieces of which none needs the other are apart.
use Rattle.std.proofs.Common.{◌≡◌, ℕ, ◌<◌, ◌≤◌, Bool, true, false, cond, ◌&&◌, ◌||◌, List, refl, sym, ap, ◌∙◌, Option, Some, None, ◌==◌, ◌⊎◌, inl, inr, ⊎_elim, arith, nat_lt}
use Rattle.std.proofs.lemmas.Bool.Decides.{Decides-ltb}
use Rattle.std.specs.Ordering.{eq_by_cmp}
use Rattle.std.specs.FinMap.{get}
use Rattle.pac_value.specs.declared.values.Value.{Value}
use Rattle.pac_value.specs.Expressions.{Values}
use Rattle.pac_value.specs.State.{Cell, cell_cmp, RowValues}
use Rattle.pac_ops.specs.declared.note.Note.{Note}
use Rattle.pac_ops.specs.declared.piece.PieceId.{PieceId}
use Rattle.pac_ops.specs.Notes.{first_note, least}
use Rattle.pac_ops.specs.Uses.{op_uses, defined_variable, modifies}
use Rattle.pac_ops.specs.Operations.{State}
use Rattle.pac_base.specs.Members.{Each, Mem}
use Rattle.pac_ops.specs.Effects.{flat_cell, NumberedOp, numbered_notes, is_var, defined_in, used_in, Spot, RowAt, VarAt, seen_in}
use Rattle.pac_plan.specs.declared.access.Touch.{Touch}
use Rattle.pac_plan.specs.declared.access.Access.{Access}
use Rattle.pac_plan.specs.declared.access.Access.TheVariants.{Keys, Whole}
use Rattle.pac_plan.specs.Pieces.{named_cell, Present, of_txn, with_env, part, conflicts, covers, covers_write, World, ops, apply, access, precedes, needs, InputsAre, HasInputs, Location, RowOf, VarOf, at_location, touches, writes}
use Rattle.pac_plan.specs.WorldOrder.{WellFormed}
use Rattle.pac_commute.proofs.Turns as turns
use Rattle.pac_base.proofs.TestLemmas.{or_left, or_right, eq_self, same_number, equal_number, and_left, and_right, and_both, and_false, or_cases, unlike, not_false, any_mem, any_gives, each_mem, mem_each}
use Rattle.pac_ops.proofs.EffectLemmas.{cell-table}
use Rattle.pac_commute.proofs.Present.{same_present}
use Rattle.pac_ops.proofs.StateLemmas.{least-swap}
use Rattle.pac_ops.proofs.FrameLemmas.{AlikeOn, Fits, kept_ops, alike_ops, said_alike}
use Rattle.pac_plan.proofs.AccessLemmas.{covered, apart_left, apart_right}
use Rattle.pac_plan.proofs.PartLemmas.{part-mem}

writes-covers : (x : Access) (a : Cell) → covers_write x a ≡ true → covers x a ≡ true
writes-covers Whole a e = refl
writes-covers (Keys l) a e = go (any_gives _ l e)
  where
    go : (d : Touch) × Mem d l × ((d.is_write && eq_by_cmp cell_cmp (named_cell d) a) ≡ true) → covers (Keys l) a ≡ true
    go (d, m, h) = any_mem (λ (e : Touch). eq_by_cmp cell_cmp (named_cell e) a) d l m (and_right d.is_write (eq_by_cmp cell_cmp (named_cell d) a) h)

pub le_split : (a b : ℕ) → a ≤ b → (a < b) ⊎ (a ≡ b)
le_split a b le = grind arith

-- ---- from one transaction to all

-- what a transaction of this number sees of locations
abbrev pub spots : ℕ → (Location → Bool) → Spot → Bool
spots t f (RowAt a) = f (RowOf a)
spots t f (VarAt x) = f (VarOf t x)

pub seen_spot : (t : ℕ) (f : Location → Bool) (s s' : Present) → ((c : Location) → f c ≡ true → at_location s c ≡ at_location s' c) → AlikeOn (spots t f) (of_txn t s) (of_txn t s')
seen_spot t f s s' alike (RowAt a) e = alike (RowOf a) e
seen_spot t f s s' alike (VarAt x) e = alike (VarOf t x) e

pub written_env : (t u : ℕ) (env : Values) (envs : ℕ → Values) → (u == t) ≡ true → with_env t env envs u ≡ env
written_env t u env envs e = ap (λ b. cond b env (envs u)) e

pub other_env : (t u : ℕ) (env : Values) (envs : ℕ → Values) → (u == t) ≡ false → with_env t env envs u ≡ envs u
other_env t u env envs e = ap (λ b. cond b env (envs u)) e

-- a step of transaction t, given by the state that t has after it
module _ (t : ℕ) (f : Location → Bool) (s : Present) (after : State) (n : Option Note) where
  pub kept_in : ((c : Spot) → spots t f c ≡ false → seen_in after c ≡ seen_in (of_txn t s) c)
      → (c : Location) → f c ≡ false → at_location (record { tables = after.tables; envs = with_env t after.env s.envs; note = n }) c ≡ at_location s c
  kept_in kept (RowOf a) out = kept (RowAt a) out
  kept_in kept (VarOf u x) out = go (u == t) refl
    where
      go : (b : Bool) → (u == t) ≡ b → ◌≡◌ {A = Option RowValues × Option Value} (None, get (cond b after.env (s.envs u)) x) (None, get (s.envs u) x)
      go true e =
          let same : u ≡ t = same_number u t e in
          kept (VarAt x) (ap (λ v. f (VarOf v x)) (sym same) ∙ out) ∙ ap (λ v. (None, get (s.envs v) x)) (sym same)
      go false e = refl

pub alike_in : (t : ℕ) (f : Location → Bool) (s s' : Present) (after after' : State) (n n' : Option Note)
    → AlikeOn (spots t f) after after' → ((c : Location) → f c ≡ true → at_location s c ≡ at_location s' c)
    → (c : Location) → f c ≡ true → at_location (record { tables = after.tables; envs = with_env t after.env s.envs; note = n }) c ≡ at_location (record { tables = after'.tables; envs = with_env t after'.env s'.envs; note = n' }) c
alike_in t f s s' after after' n n' own alike (RowOf a) e = own (RowAt a) e
alike_in t f s s' after after' n n' own alike (VarOf u x) e = go (u == t) refl
  where
    go : (b : Bool) → (u == t) ≡ b → ◌≡◌ {A = Option RowValues × Option Value} (None, get (cond b after.env (s.envs u)) x) (None, get (cond b after'.env (s'.envs u)) x)
    go true h = own (VarAt x) (ap (λ v. f (VarOf v x)) (sym (same_number u t h)) ∙ e)
    go false h = alike (VarOf u x) e

-- ---- pieces

abbrev pub says : World → PieceId → Present → List Note
says w p s = numbered_notes (w.vars p.txn) p.txn (ops w p) (of_txn p.txn s)

abbrev pub noted_by : Option Note → List Note → Option Note
noted_by n notes = least n (first_note notes)

module _ (w : World) (well_formed : WellFormed w) (env : ℕ → Values) where
  abbrev pub LocalInputs : PieceId → State → Type 0
  LocalInputs p s = InputsAre (ops w p) (env p.txn) s.env

  pub fits : (p : PieceId) → Each (λ o. Fits (w.vars p.txn) (spots p.txn (touches w env p)) (spots p.txn (writes w env p)) (LocalInputs p) o.1) (ops w p)
  fits p = each_mem _ (ops w p) (λ o m. record {
    reads = λ x u. and_both (p.txn == p.txn) (used_in (ops w p) x || defined_in (ops w p) x) (eq_self p.txn) (or_left (used_in (ops w p) x) (defined_in (ops w p) x) (any_mem (λ (d : NumberedOp). op_uses x d.1) o (ops w p) m u));
    sets = λ x d. and_both (p.txn == p.txn) (defined_in (ops w p) x) (eq_self p.txn) (any_mem (λ (d : NumberedOp). is_var x (defined_variable d.1.kind)) o (ops w p) m (rw d (eq_self x)));
    rows = λ s good a at. rows p o m s a at (covered (ops w p) (env p.txn) s.env good o m a at);
  })
    where
      at_home : (p : PieceId) (o : NumberedOp) → Mem o (ops w p) → (s : State) (a : Cell) → flat_cell o.1 s.env ≡ Some a → (p.block == w.home a.0) ≡ true
      at_home p o m s a at =
          let in_part : Mem o (w.code p.txn) × (w.block p.txn o ≡ p.block) = part-mem (w.block p.txn) p.block (w.code p.txn) o m in
          equal_number _ _ (sym in_part.1 ∙ sym (mem_each _ (w.code p.txn) (well_formed.homes p.txn) o in_part.0 a.0 (cell-table o.1 s.env a at)))

      rows : (p : PieceId) (o : NumberedOp) → Mem o (ops w p) → (s : State) → (a : Cell) → flat_cell o.1 s.env ≡ Some a
          → (covers (access w env p) a ≡ true) × (modifies o.1.kind ≡ true → covers_write (access w env p) a ≡ true)
          → (touches w env p (RowOf a) ≡ true) × (modifies o.1.kind ≡ true → writes w env p (RowOf a) ≡ true)
      rows p o m s a at c = (and_both _ _ (at_home p o m s a at) c.0, λ d. and_both _ _ (at_home p o m s a at) (c.1 d))

  pub good_kept : (p : PieceId) (s s' : State) → LocalInputs p s → ((c : Spot) → spots p.txn (writes w env p) c ≡ false → seen_in s' c ≡ seen_in s c) → LocalInputs p s'
  good_kept p s s' good kept x u d = ap (λ r. r.1) (kept (VarAt x) (and_false (p.txn == p.txn) _ d)) ∙ good x u d

  pub laws : turns.Laws Present Location (Option RowValues × Option Value) (Option Note) (List Note) PieceId at_location (λ s. s.note) (apply w) (says w) noted_by (touches w env) (writes w env) (HasInputs w env)
  unfolding apply
  laws = record {
    same = same_present;
    any_order = λ n a b. least-swap n (first_note a) (first_note b);
    within = λ p c. within p c;
    noted = λ p s. refl;
    kept = λ p s good. kept_in p.txn (writes w env p) s _ (apply w p s).note
        (kept_ops (w.vars p.txn) (spots p.txn (touches w env p)) (spots p.txn (writes w env p)) (LocalInputs p) (good_kept p) (ops w p) (fits p) (of_txn p.txn s) good);
    good_alike = λ p s s' good alike x u d. sym (ap (λ r. r.1) (alike (VarOf p.txn x) (and_both (p.txn == p.txn) _ (eq_self p.txn) (or_left (used_in (ops w p) x) (defined_in (ops w p) x) u)))) ∙ good x u d;
    alike = λ p s s' good alike. alike_in p.txn (touches w env p) s s' _ _ (apply w p s).note (apply w p s').note
        (alike_ops (w.vars p.txn) (spots p.txn (touches w env p)) (spots p.txn (writes w env p)) (LocalInputs p) (good_kept p) (ops w p) (fits p) (of_txn p.txn s) (of_txn p.txn s') good (seen_spot p.txn (touches w env p) s s' alike))
        alike;
    said_alike = λ p s s' good alike. said_alike (w.vars p.txn) (spots p.txn (touches w env p)) (spots p.txn (writes w env p)) (LocalInputs p) (good_kept p) p.txn (ops w p) (fits p) (of_txn p.txn s) (of_txn p.txn s') good (seen_spot p.txn (touches w env p) s s' alike);
  }
    where
      within : (p : PieceId) (c : Location) → writes w env p c ≡ true → touches w env p c ≡ true
      within p (RowOf a) e = and_both _ _ (and_left (p.block == w.home a.0) (covers_write (access w env p) a) e) (writes-covers (access w env p) a (and_right (p.block == w.home a.0) (covers_write (access w env p) a) e))
      within p (VarOf u x) e = and_both _ _ (and_left (u == p.txn) (defined_in (ops w p) x) e) (or_right (used_in (ops w p) x) (defined_in (ops w p) x) (and_right (u == p.txn) (defined_in (ops w p) x) e))

  -- p comes before q in the order of transactions and blocks
  abbrev pub Lower : PieceId → PieceId → Type 0
  Lower p q = (p.txn < q.txn) ⊎ ((p.txn ≡ q.txn) × (p.block < q.block))

  abbrev pub Apart : PieceId → PieceId → Type 0
  Apart p q = (c : Location) → (writes w env p c ≡ true → touches w env q c ≡ false) × (writes w env q c ≡ true → touches w env p c ≡ false)

  by_edge : (p q : PieceId) → p.txn ≡ q.txn → w.edge p.block q.block ≡ true → needs w env p q ≡ true
  by_edge p q same e = or_left _ _ (and_both _ _ (equal_number _ _ same) e)

  -- of one block, an earlier transaction: the accesses don't conflict
  calm : (p q : PieceId) → p.txn < q.txn → p.block ≡ q.block → needs w env p q ≡ false → conflicts (access w env p) (access w env q) ≡ false
  calm p q earlier same free = unlike _ (λ conflict. not_false _ free (or_right (p.txn == q.txn && w.edge p.block q.block) _
      (and_both (p.block == q.block && nat_lt p.txn q.txn) _ (and_both (p.block == q.block) _ (equal_number _ _ same) ((Decides-ltb _ _).1 earlier)) conflict)))

  one_block : (p q : PieceId) (a : ℕ) → (p.block == w.home a) ≡ true → (q.block == w.home a) ≡ true → p.block ≡ q.block
  one_block p q a e f = same_number _ _ e ∙ sym (same_number _ _ f)

  not_lower : {A : Type 0} (p q : PieceId) → (p.txn ≡ q.txn) × (p.block < q.block) → p.block ≡ q.block → A
  not_lower p q lower same = absurd (omega arith)

  pub apart : (p q : PieceId) → Lower p q → needs w env p q ≡ false → Apart p q
  apart p q lower free (RowOf a) = (λ e. unlike _ (left e), λ e. unlike _ (right e))
    where
      b : Bool
      b = p.block == w.home a.0

      c : Bool
      c = q.block == w.home a.0

      left : (b && covers_write (access w env p) a) ≡ true → (c && covers (access w env q) a) ≡ true → ⊥
      left e f =
          let same : p.block ≡ q.block = one_block p q a.0 (and_left b _ e) (and_left c _ f) in
          ⊎_elim (λ lt. not_false _ (apart_left (access w env p) (access w env q) (calm p q lt same free) a (and_right b _ e)) (and_right c _ f)) (λ l. not_lower p q l same) lower

      right : (c && covers_write (access w env q) a) ≡ true → (b && covers (access w env p) a) ≡ true → ⊥
      right e f =
          let same : p.block ≡ q.block = one_block p q a.0 (and_left b _ f) (and_left c _ e) in
          ⊎_elim (λ lt. not_false _ (apart_right (access w env p) (access w env q) (calm p q lt same free) a (and_right c _ e)) (and_right b _ f)) (λ l. not_lower p q l same) lower
  apart p q lower free (VarOf u x) = (λ e. unlike _ (left lower e), λ e. unlike _ (right lower e))
    where
      b : Bool
      b = u == p.txn

      c : Bool
      c = u == q.txn

      -- what q has, said of p's transaction
      of_p : (f : List NumberedOp → ℕ → Bool) → p.txn ≡ q.txn → f (ops w q) x ≡ true → f (part (w.block p.txn) q.block (w.code p.txn)) x ≡ true
      of_p f same e = ap (λ t. f (part (w.block t) q.block (w.code t)) x) same ∙ e

      one_txn : b ≡ true → c ≡ true → p.txn ≡ q.txn
      one_txn e f = sym (same_number _ _ e) ∙ same_number _ _ f

      twice : (p.txn ≡ q.txn) × (p.block < q.block) → defined_in (ops w p) x ≡ true → defined_in (ops w q) x ≡ true → ⊥
      twice l d d' = not_lower p q l (well_formed.once p.txn p.block q.block x d (of_p defined_in l.0 d'))

      left : Lower p q → (b && defined_in (ops w p) x) ≡ true → (c && (used_in (ops w q) x || defined_in (ops w q) x)) ≡ true → ⊥
      left (inl lt) e f = let same : p.txn ≡ q.txn = one_txn (and_left b _ e) (and_left c _ f) in omega arith
      left (inr l) e f = ⊎_elim
          (λ v. ⊎_elim (λ same. not_lower p q l same) (λ edge. not_false _ free (by_edge p q l.0 edge)) (well_formed.flows p.txn p.block q.block x (and_right b _ e) (of_p used_in l.0 v)))
          (λ d. twice l (and_right b _ e) d)
          (or_cases (used_in (ops w q) x) (defined_in (ops w q) x) (and_right c _ f))

      right : Lower p q → (c && defined_in (ops w q) x) ≡ true → (b && (used_in (ops w p) x || defined_in (ops w p) x)) ≡ true → ⊥
      right (inl lt) e f = let same : p.txn ≡ q.txn = one_txn (and_left b _ f) (and_left c _ e) in omega arith
      right (inr l) e f = ⊎_elim
          (λ v. ⊎_elim (λ same. not_lower p q l (sym same)) (λ edge. down (well_formed.up q.block p.block edge)) (well_formed.flows p.txn q.block p.block x (of_p defined_in l.0 (and_right c _ e)) v))
          (λ d. twice l d (and_right c _ e))
          (or_cases (used_in (ops w p) x) (defined_in (ops w p) x) (and_right b _ f))
        where
          down : q.block < p.block → ⊥
          down lt = let l' : p.block < q.block = l.1 in omega arith

  -- what is needed precedes
  pub precedes_needed : (p q : PieceId) → needs w env p q ≡ true → precedes w env p q ≡ true
  precedes_needed p q e = ⊎_elim by_flow by_conflict (or_cases (p.txn == q.txn && w.edge p.block q.block) (p.block == q.block && nat_lt p.txn q.txn && conflicts (access w env p) (access w env q)) e)
    where
      a1 : Bool
      a1 = w.batch p.txn == w.batch q.txn && w.edge p.block q.block

      a2 : Bool
      a2 = p.block == q.block && nat_lt (w.batch p.txn) (w.batch q.txn)

      a3 : Bool
      a3 = p.block == q.block && w.batch p.txn == w.batch q.txn && nat_lt p.txn q.txn && conflicts (access w env p) (access w env q)

      by_flow : (p.txn == q.txn && w.edge p.block q.block) ≡ true → (a1 || (a2 || a3)) ≡ true
      by_flow h = or_left a1 (a2 || a3) (and_both _ _ (equal_number _ _ (ap w.batch (same_number _ _ (and_left (p.txn == q.txn) _ h)))) (and_right (p.txn == q.txn) _ h))

      by_conflict : (p.block == q.block && nat_lt p.txn q.txn && conflicts (access w env p) (access w env q)) ≡ true → (a1 || (a2 || a3)) ≡ true
      by_conflict h = or_right a1 (a2 || a3) (go (le_split (w.batch p.txn) (w.batch q.txn) (well_formed.batches p.txn q.txn ((Decides-ltb _ _).0 later))))
        where
          both : (p.block == q.block && nat_lt p.txn q.txn) ≡ true
          both = and_left (p.block == q.block && nat_lt p.txn q.txn) (conflicts (access w env p) (access w env q)) h

          block : (p.block == q.block) ≡ true
          block = and_left (p.block == q.block) (nat_lt p.txn q.txn) both

          later : nat_lt p.txn q.txn ≡ true
          later = and_right (p.block == q.block) (nat_lt p.txn q.txn) both

          conflict : conflicts (access w env p) (access w env q) ≡ true
          conflict = and_right (p.block == q.block && nat_lt p.txn q.txn) (conflicts (access w env p) (access w env q)) h

          go : (w.batch p.txn < w.batch q.txn) ⊎ (w.batch p.txn ≡ w.batch q.txn) → (a2 || a3) ≡ true
          go (inl lt) = or_left a2 a3 (and_both _ _ block ((Decides-ltb _ _).1 lt))
          go (inr eq) = or_right a2 a3 (and_both (p.block == q.block && w.batch p.txn == w.batch q.txn && nat_lt p.txn q.txn) _
              (and_both (p.block == q.block && w.batch p.txn == w.batch q.txn) _ (and_both (p.block == q.block) _ block (equal_number _ _ eq)) later) conflict)

  pub turn : (p q : PieceId) → Apart p q → Apart q p
  turn p q a c = ((a c).1, (a c).0)
