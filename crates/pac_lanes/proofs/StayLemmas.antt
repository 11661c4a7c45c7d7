-- A piece whose keys are the value of one expression stays where that value is.
use Rattle.std.proofs.Common.{◌≡◌, ℕ, Bool, true, false, cond, ◌&&◌, ◌||◌, ◌==◌, not, List, [], ◌∷◌, refl, sym, ap, ap₂, ◌∙◌, subst, true≢false, Option, None, Some, Result, Ok, Err, ◌⊎◌, inl, inr, ⊎_elim}
use Rattle.std.specs.List.{list_any, list_all}
use Rattle.std.specs.Ordering.{eq_by_cmp}
use Rattle.std.specs.FinMap.{get}
use Rattle.pac_value.specs.declared.values.Key.{Key}
use Rattle.pac_value.specs.declared.values.Value.{Value}
use Rattle.pac_value.specs.Values.{as_key}
use Rattle.pac_value.specs.declared.expr.Expr.{Expr}
use Rattle.pac_value.specs.declared.expr.Trap.{Trap}
use Rattle.pac_value.specs.Expressions.{Values, value, ◌>>=◌}
use Rattle.pac_value.specs.State.{Cell, cell_cmp}
use Rattle.pac_value.proofs.CellLemmas.{tied_same}
use Rattle.pac_ops.specs.declared.piece.PieceId.{PieceId}
use Rattle.pac_ops.specs.Uses.{conds_use, expr_uses, kind_uses, op_uses, modifies}
use Rattle.pac_ops.specs.Operations.{key_at}
use Rattle.pac_ops.specs.Effects.{NumberedOp, target_of, cell_in, defined_in, used_in}
use Rattle.pac_base.specs.Members.{Each, Mem}
use Rattle.pac_plan.specs.declared.parts.PlanParts.{PlanParts}
use Rattle.pac_plan.specs.Worlds.{has_edge}
use Rattle.pac_plan.specs.declared.access.Touch.{Touch}
use Rattle.pac_plan.specs.declared.access.Access.TheVariants.{Keys, Whole}
use Rattle.pac_plan.specs.Pieces.{Present, World, ops, run_ops, replayed_in, access, access_of, conflicts, covers, avoids, is_bounded, is_loose, may_pass, op_cell, touch, touches_of, named_cell}
use Rattle.pac_commute.specs.Exchange.{env_after}
use Rattle.pac_base.proofs.TestLemmas.{or_left, or_right, or_cases, or_none, eq_self, same_number, equal_number, and_left, and_right, unlike, not_true, any_mem, any_gives, each_mem, mem_each}
use Rattle.pac_ops.proofs.EffectLemmas.{named, touched-named, key_uses, key-kind, value-alike}
use Rattle.pac_plan.proofs.AccessLemmas.{bounded-uses}
use Rattle.pac_commute.proofs.Law.{undefined_stays, other_stays}
use Rattle.pac_lanes.specs.Lanes.{StaysIn}
use Rattle.pac_lanes.specs.Rounds.{StageCut}
use Rattle.pac_lanes.specs.Stays.{WholeStays, KeysAre, OneKeyStays, KeyFromInputs, KeyFromArguments, lane_of, IsOfGroup, StaysInGroup, GroupsAreApart, LanesAreDisjoint, GroupsGiveCut}

pub whole_stays : (w : World) → WholeStays w
whole_stays w env blocks p of_block = (of_block, λ a t. refl)

-- as in pac_commute's Apart, where this is private: each touch is at the cell of an operation
touch_from : (os : List NumberedOp) (env : Values) (more : List NumberedOp) (e : Touch) → Mem e (touches_of os env more) → (o : NumberedOp) × Mem o more × (op_cell o.1 env ≡ Some (named_cell e))
touch_from os env [] e m = absurd m
touch_from os env (o ∷ more) e m = go (may_pass os env o.1.conds) (op_cell o.1 env) refl m (touch_from os env more e)
  where
    go : (b : Bool) (c : Option Cell) → op_cell o.1 env ≡ c → Mem e (cond b (touch c (modifies o.1.kind) (touches_of os env more)) (touches_of os env more))
        → (Mem e (touches_of os env more) → (d : NumberedOp) × Mem d more × (op_cell d.1 env ≡ Some (named_cell e))) → (d : NumberedOp) × Mem d (o ∷ more) × (op_cell d.1 env ≡ Some (named_cell e))
    go true None at m rest = let r = rest m in (r.0, inr r.1, r.2)
    go true (Some a) at (inl same) rest = (o, inl refl, at ∙ ap (λ (x : Touch). Some (named_cell x)) (sym same))
    go true (Some a) at (inr m) rest = let r = rest m in (r.0, inr r.1, r.2)
    go false c at m rest = let r = rest m in (r.0, inr r.1, r.2)

abbrev key_or : Key → Option Cell → Key
key_or d None = d
key_or d (Some a) = a.1

-- the key of a cell that is named so is the value of the expression
named_key : (e : Expr) (n : Option (ℕ × Expr)) (env : Values) (a : Cell) → ((m : ℕ × Expr) → n ≡ Some m → m.1 ≡ e) → cell_in (named n env) ≡ Some a → key_at e env ≡ Ok a.1
named_key e None env a same at = absurd cc
named_key e (Some n) env a same at = ap (λ x. key_at x env) (sym (same n refl)) ∙ go (value n.1 env) at
  where
    go : (r : Result Value Trap) → cell_in (r >>= λ v. Ok (Some (n.0, as_key v))) ≡ Some a → (r >>= λ v. Ok (as_key v)) ≡ Ok a.1
    go (Ok v) h = ap (λ c. Ok (key_or a.1 c)) h
    go (Err trap) h = absurd cc

module _ (os : List NumberedOp) (env : Values) (e : Expr) (are : KeysAre os e) where
  -- no key is loose
  tight : list_any (is_loose os env) os ≡ false
  tight = unlike _ (λ l. go (any_gives (is_loose os env) os l))
    where
      bounded : (n : Option (ℕ × Expr)) → ((m : ℕ × Expr) → n ≡ Some m → m.1 ≡ e) → is_bounded os n ≡ true
      bounded None same = refl
      bounded (Some n) same = ap (avoids (defined_in os)) (same n refl) ∙ are.1

      go : (o : NumberedOp) × Mem o os × ((may_pass os env o.1.conds && not (is_bounded os (target_of o.1.kind))) ≡ true) → ⊥
      go (o, m, l) = true≢false (sym (bounded (target_of o.1.kind) (mem_each _ os are.0 o m)) ∙ not_true _ (and_right (may_pass os env o.1.conds) _ l))

  pub keys_access : access_of os env ≡ Keys (touches_of os env os)
  keys_access = ap (λ b. cond b Whole (Keys (touches_of os env os))) tight

  pub key_of_touch : (t : Touch) → Mem t (touches_of os env os) → key_at e env ≡ Ok (named_cell t).1
  key_of_touch t m = go (touch_from os env os t m)
    where
      go : (o : NumberedOp) × Mem o os × (op_cell o.1 env ≡ Some (named_cell t)) → key_at e env ≡ Ok (named_cell t).1
      go (o, n, at) = named_key e (target_of o.1.kind) env (named_cell t) (mem_each _ os are.0 o n) (sym (ap cell_in (touched-named o.1.kind env)) ∙ at)

  pub key_of_covered : (a : Cell) → covers (access_of os env) a ≡ true → key_at e env ≡ Ok a.1
  key_of_covered a c = go (any_gives (λ (t : Touch). eq_by_cmp cell_cmp (named_cell t) a) (touches_of os env os) (sym (ap (λ x. covers x a) keys_access) ∙ c))
    where
      go : (t : Touch) × Mem t (touches_of os env os) × (eq_by_cmp cell_cmp (named_cell t) a ≡ true) → key_at e env ≡ Ok a.1
      go (t, m, at) = subst (λ (c : Cell). key_at e env ≡ Ok c.1) (tied_same (named_cell t) a at) (key_of_touch t m)

keys_whole : (l : List Touch) → Keys l ≡ Whole → ⊥
keys_whole l e = absurd cc

pub one_key_stays : (w : World) → OneKeyStays w
one_key_stays w env blocks keys p e are of_block inside = (
  (of_block, λ a t. inside a.1 (key_of_covered (ops w p) (env p.txn) e are a (and_right (p.block == w.home a.0) (covers (access w env p) a) t))),
  λ whole. keys_whole _ (sym (keys_access (ops w p) (env p.txn) e are) ∙ whole),
)

pub key_from_inputs : (w : World) → KeyFromInputs w
key_from_inputs w env p e are o n m at s good = ap (λ (r : Result Value Trap). r >>= λ v. Ok (as_key v)) (value-alike e (s.envs p.txn) (env p.txn) (λ x u. good x (used x u) (bounded-uses (ops w p) (Some (n.0, e)) are.1 x u)))
  where
    used : (x : ℕ) → expr_uses x e ≡ true → used_in (ops w p) x ≡ true
    used x u = any_mem (λ (d : NumberedOp). op_uses x d.1) o (ops w p) m
        (or_right (conds_use x o.1.conds) (kind_uses x o.1.kind) (key-kind o.1.kind x (ap (λ k. key_uses k x) at ∙ ap (expr_uses x) (mem_each _ (ops w p) are.0 o m n at) ∙ u)))

-- a variable that no operation of the transaction defines stays
stays_undefined : (w : World) (ts : List ℕ) (s : Present) (t x : ℕ) → defined_in (w.code t) x ≡ false → get ((replayed_in w ts s).envs t) x ≡ get (s.envs t) x
unfolding replayed_in
stays_undefined w [] s t x d = refl
stays_undefined w (u ∷ ts) s t x d = stays_undefined w ts (run_ops u (w.vars u) (w.code u) s) t x d ∙ go (t == u) refl
  where
    go : (b : Bool) → (t == u) ≡ b → get ((run_ops u (w.vars u) (w.code u) s).envs t) x ≡ get (s.envs t) x
    go true e = subst (λ z. get ((run_ops z (w.vars z) (w.code z) s).envs t) x ≡ get (s.envs t) x) (same_number t u e) (undefined_stays t (w.vars t) (w.code t) s x d)
    go false e = ap (λ m. get m x) (other_stays u (w.vars u) (w.code u) s t (λ same. true≢false (sym (equal_number t u same) ∙ e)))

pub key_from_arguments : (w : World) (ts bs : List ℕ) → KeyFromArguments w ts bs
key_from_arguments w ts bs s t e free = ap (λ (r : Result Value Trap). r >>= λ v. Ok (as_key v)) (value-alike e (s.envs t) (env_after w ts s t) (λ x u. sym (stays_undefined w ts s t x (bounded-uses (w.code t) (Some (0, e)) free x u))))

-- ---- the lanes of a cut

module _ (w : World) (env : ℕ → Values) (cut : StageCut) (of_key : ℕ → Key → ℕ) (p : PieceId) where
  abbrev k : ℕ
  k = cut.stage p.block

  abbrev g : ℕ
  g = cut.group (cut.stage p.block) p.txn

  -- the group is all, or the access is of keys of the group
  abbrev pub InGroup : Type 0
  InGroup = (g ≡ 0) ⊎ ((l : List Touch) × (access w env p ≡ Keys l) × Each (λ (t : Touch). of_key k t.key ≡ g) l)

  pub in_group : IsOfGroup w env cut of_key p → InGroup
  in_group (inl all) = inl all
  in_group (inr (inl (e, are, inside))) = inr (
    touches_of (ops w p) (env p.txn) (ops w p),
    keys_access (ops w p) (env p.txn) e are,
    each_mem _ _ (λ t m. inside t.key (key_of_touch (ops w p) (env p.txn) e are t m)),
  )
  in_group (inr (inr known)) = inr known

  pub stays_there : InGroup → StaysIn w env (lane_of cut of_key k g) p
  stays_there (inl all) = (eq_self k, λ a t. or_left (g == 0) (of_key k a.1 == g) (equal_number g 0 all))
  stays_there (inr (l, is, each)) = (eq_self k, λ a t. or_right (g == 0) (of_key k a.1 == g) (go a (any_gives (λ (e : Touch). eq_by_cmp cell_cmp (named_cell e) a) l (sym (ap (λ x. covers x a) is) ∙ and_right (p.block == w.home a.0) (covers (access w env p) a) t))))
    where
      go : (a : Cell) → (e : Touch) × Mem e l × (eq_by_cmp cell_cmp (named_cell e) a ≡ true) → (of_key k a.1 == g) ≡ true
      go a (e, m, at) = equal_number _ _ (subst (λ (c : Cell). of_key k c.1 ≡ g) (tied_same (named_cell e) a at) (mem_each _ l each e m))

pub stays_in_group : (w : World) → StaysInGroup w
stays_in_group w env cut of_key p is = stays_there w env cut of_key p (in_group w env cut of_key p is)

pub groups_are_apart : (w : World) → GroupsAreApart w
groups_are_apart w env cut of_key p q is is' same calm = go (in_group w env cut of_key p is) (in_group w env cut of_key q is')
  where
    k : ℕ
    k = cut.stage p.block

    g : ℕ
    g = cut.group (cut.stage p.block) p.txn

    h : ℕ
    h = cut.group (cut.stage p.block) q.txn

    h_same : h ≡ cut.group (cut.stage q.block) q.txn
    h_same = ap (λ b. cut.group (cut.stage b) q.txn) same

    not_zero : ((g == 0) ≡ false) × ((h == 0 || g == h) ≡ false)
    not_zero = or_none (g == 0) (h == 0 || g == h) calm

    not_same : ((h == 0) ≡ false) × ((g == h) ≡ false)
    not_same = or_none (h == 0) (g == h) not_zero.1

    go : InGroup w env cut of_key p → InGroup w env cut of_key q → conflicts (access w env p) (access w env q) ≡ false
    go (inl all) other = absurd (true≢false (sym (equal_number g 0 all) ∙ not_zero.0))
    go (inr known) (inl all) = absurd (true≢false (sym (equal_number h 0 (h_same ∙ all)) ∙ not_same.0))
    go (inr (l, at_l, each_l)) (inr (m, at_m, each_m)) = unlike _ (λ c. meet (any_gives (λ (e : Touch). list_any (λ (d : Touch). eq_by_cmp cell_cmp (named_cell e) (named_cell d) && (e.is_write || d.is_write)) m) l
        (sym (ap (λ x. conflicts x (access w env q)) at_l ∙ ap (conflicts (Keys l)) at_m) ∙ c)))
      where
        meet : (d : Touch) × Mem d l × (list_any (λ (x : Touch). eq_by_cmp cell_cmp (named_cell d) (named_cell x) && (d.is_write || x.is_write)) m ≡ true) → ⊥
        meet (d, in_l, found) = at_both (any_gives (λ (x : Touch). eq_by_cmp cell_cmp (named_cell d) (named_cell x) && (d.is_write || x.is_write)) m found)
          where
            at_both : (x : Touch) × Mem x m × ((eq_by_cmp cell_cmp (named_cell d) (named_cell x) && (d.is_write || x.is_write)) ≡ true) → ⊥
            at_both (x, in_m, tied) = true≢false (sym (equal_number g h (
                sym (mem_each _ l each_l d in_l)
                ∙ ap (λ b. of_key (cut.stage b) d.key) same
                ∙ ap (λ (c : Cell). of_key (cut.stage q.block) c.1) (tied_same (named_cell d) (named_cell x) (and_left (eq_by_cmp cell_cmp (named_cell d) (named_cell x)) (d.is_write || x.is_write) tied))
                ∙ mem_each _ m each_m x in_m
                ∙ sym h_same)) ∙ not_same.1)

pub lanes_are_disjoint : LanesAreDisjoint
lanes_are_disjoint w cut of_key k g l h calm a on = unlike _ (λ on'.
    let stages : k ≡ l = sym (same_number _ _ (and_left (cut.stage (w.home a.0) == k) _ on)) ∙ same_number _ _ (and_left (cut.stage (w.home a.0) == l) _ on') in
    clash stages (or_none (g == 0) (h == 0 || g == h) (calm stages))
    (or_cases (g == 0) (of_key k a.1 == g) (and_right (cut.stage (w.home a.0) == k) (g == 0 || of_key k a.1 == g) on))
    (or_cases (h == 0) (of_key l a.1 == h) (and_right (cut.stage (w.home a.0) == l) (h == 0 || of_key l a.1 == h) on')))
  where
    clash : k ≡ l → ((g == 0) ≡ false) × ((h == 0 || g == h) ≡ false) → ((g == 0) ≡ true) ⊎ ((of_key k a.1 == g) ≡ true) → ((h == 0) ≡ true) ⊎ ((of_key l a.1 == h) ≡ true) → ⊥
    clash stages tests (inl e) other = true≢false (sym e ∙ tests.0)
    clash stages tests (inr e) (inl f) = true≢false (sym f ∙ (or_none (h == 0) (g == h) tests.1).0)
    clash stages tests (inr e) (inr f) = true≢false (sym (equal_number g h (sym (same_number (of_key k a.1) g e) ∙ ap (λ x. of_key x a.1) stages ∙ same_number (of_key l a.1) h f)) ∙ (or_none (h == 0) (g == h) tests.1).1)

-- ---- a cut

edge_in : (parts : PlanParts) (f : ℕ × ℕ → Bool) → list_all f parts.edges ≡ true → (b c : ℕ) → has_edge parts b c ≡ true → f (b, c) ≡ true
edge_in parts f all b c edge = go parts.edges all edge
  where
    go : (es : List (ℕ × ℕ)) → list_all f es ≡ true → list_any (λ e. e.0 == b && e.1 == c) es ≡ true → f (b, c) ≡ true
    go [] all found = absurd (true≢false (sym found))
    go (e ∷ es) all found = ⊎_elim
        (λ here. ap₂ (λ x y. f (x, y)) (sym (same_number e.0 b (and_left (e.0 == b) (e.1 == c) here))) (sym (same_number e.1 c (and_right (e.0 == b) (e.1 == c) here))) ∙ and_left (f e) (list_all f es) all)
        (λ later. go es (and_right (f e) (list_all f es) all) later)
        (or_cases (e.0 == b && e.1 == c) (list_any (λ e. e.0 == b && e.1 == c) es) found)

pub groups_give_cut : (parts : PlanParts) (w : World) → ((b c : ℕ) → w.edge b c ≡ has_edge parts b c) → (ts bs : List ℕ) → GroupsGiveCut w parts ts bs
groups_give_cut parts w of_plan ts bs env cut of_key clashes kept rounds up of_group all = record {
  rounds = rounds;
  edges = λ b c edge. ⊎_elim (λ e. inl (same_number _ _ e)) (λ e. inr e)
      (or_cases (cut.stage b == cut.stage c) (cut.leads (cut.stage b) (cut.stage c)) (edge_in parts (λ e. cut.stage e.0 == cut.stage e.1 || cut.leads (cut.stage e.0) (cut.stage e.1)) kept b c (sym (of_plan b c) ∙ edge)));
  up = up;
  groups = λ p q mp mq same calm. groups_are_apart w env cut of_key p q (of_group p mp) (of_group q mq) same
      (ap (λ f. f (cut.stage p.block) (cut.group (cut.stage p.block) p.txn) (cut.group (cut.stage p.block) q.txn)) (sym clashes) ∙ calm);
  one_round = λ p q mp mq same round. one p q (cut.stage p.block) round;
}
  where
    one : (p q : PieceId) (k : ℕ) → cut.round p.txn ≡ cut.round q.txn → (cut.group k p.txn ≡ cut.group k q.txn) ⊎ (cut.clash k (cut.group k p.txn) (cut.group k q.txn) ≡ false)
    one p q k round = go (cut.group k p.txn == 0) refl (cut.group k q.txn == 0) refl (cut.group k p.txn == cut.group k q.txn) refl
      where
        go : (a : Bool) → (cut.group k p.txn == 0) ≡ a → (b : Bool) → (cut.group k q.txn == 0) ≡ b → (c : Bool) → (cut.group k p.txn == cut.group k q.txn) ≡ c
            → (cut.group k p.txn ≡ cut.group k q.txn) ⊎ (cut.clash k (cut.group k p.txn) (cut.group k q.txn) ≡ false)
        go a e b f true h = inl (same_number _ _ h)
        go true e b f false h = let z = same_number _ _ e in inl (z ∙ sym (all k p.txn q.txn round z))
        go false e true f false h = let z = same_number _ _ f in inl (all k q.txn p.txn (sym round) z ∙ sym z)
        go false e false f false h = inr (ap (λ fn. fn k (cut.group k p.txn) (cut.group k q.txn)) clashes ∙ ap₃ e f h)
          where
            ap₃ : {a b c : Bool} → a ≡ false → b ≡ false → c ≡ false → (a || (b || c)) ≡ false
            ap₃ e f h = ap₂ ◌||◌ e (ap₂ ◌||◌ f h)
