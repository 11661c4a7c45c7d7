-- The parts of a well-formed program in blocks find what they use.
use Rattle.std.proofs.Common.{◌≡◌, ℕ, suc, ◌+◌, ◌<◌, ◌≤◌, ◌==◌, Bool, true, false, cond, ◌||◌, List, [], ◌∷◌, ◌++◌, map, length, refl, sym, ap, ◌∙◌, subst, true≢false, Some, ◌⊎◌, inl, inr, ⊎_elim, arith}
use Rattle.std.specs.Prelude.{slice_get}
use Rattle.std.specs.FinMap.{get}
use Rattle.std.proofs.lemmas.Option.{same_Some}
use Rattle.pac_value.specs.declared.values.Value.{Value}
use Rattle.pac_value.specs.Values.{type_of}
use Rattle.pac_value.specs.Expressions.{Values}
use Rattle.pac_value.specs.State.{Tables}
use Rattle.pac_ops.specs.declared.program.FlatOp.{FlatOp}
use Rattle.pac_ops.specs.declared.program.Program.{Program}
use Rattle.pac_ops.specs.Shapes.{RowsFit}
use Rattle.pac_ops.specs.Programs.{IsPrefixOf, IsWellFormedProgram, IsDefinedBefore}
use Rattle.pac_ops.specs.Uses.{conds_use, kind_uses, op_uses, defined_variable, Defines}
use Rattle.pac_ops.specs.Operations.{State, opening}
use Rattle.pac_ops.specs.Flat.{is_as_asked, all_hold}
use Rattle.pac_base.proofs.ItemLemmas.{there, item}
use Rattle.pac_plan.specs.declared.parts.PlanParts.{PlanParts}
use Rattle.pac_plan.specs.Nodes.{Operation}
use Rattle.pac_plan.specs.Analysis.{IsPlan, block_in, HasBlockEdge}
use Rattle.pac_plan.proofs.OrderLemmas.{order_kept}
use Rattle.pac_base.specs.Members.{Mem}
use Rattle.pac_ops.specs.Effects.{NumberedOp, numbered_from, numbered_meaning, is_var, defined_in, used_in}
use Rattle.pac_plan.specs.Pieces.{part, may_pass, InputsAre}
use Rattle.pac_ops.specs.StaysFit.{HasTyped, IsFit, StaysFitAt}
use Rattle.pac_plan.specs.PieceFits.{FindsFromElsewhere, InputsAreThere, PiecesStayFit}
use Rattle.pac_base.proofs.TestLemmas.{or_left, or_right, same_number, equal_number, and_left, and_right, and_both, or_cases, any_mem, any_gives, unlike, not_false}
use Rattle.pac_plan.proofs.PartLemmas.{part-mem, part_holds}
use Rattle.pac_ops.proofs.DefinedLemmas.{is_var-same, var-named}
use Rattle.pac_plan.proofs.WorldLemmas.{stands}
use Rattle.pac_ops.proofs.RecordLemmas.{whole_meaning}
use Rattle.pac_ops.proofs.StayLemmas.{Follows, Follow, stay_fit}
use Rattle.pac_ops.proofs.ProgramLemmas.{mem_number, not_used, can, program_fit, program_given, program_param, stays_end}

holds_from : (cs : List (ℕ × Bool)) (env : Values) → ((c : ℕ × Bool) → Mem c cs → is_as_asked c.1 (get env c.0) ≡ true) → all_hold env cs ≡ true
holds_from [] env f = refl
holds_from (c ∷ cs) env f = and_both _ _ (f c (inl refl)) (holds_from cs env (λ d m. f d (inr m)))

each_holds : (cs : List (ℕ × Bool)) (env : Values) (c : ℕ × Bool) → Mem c cs → all_hold env cs ≡ true → is_as_asked c.1 (get env c.0) ≡ true
each_holds [] env c m h = absurd m
each_holds (d ∷ cs) env c (inl e) h = subst (λ (z : ℕ × Bool). is_as_asked z.1 (get env z.0) ≡ true) (sym e) (and_left (is_as_asked d.1 (get env d.0)) (all_hold env cs) h)
each_holds (d ∷ cs) env c (inr m) h = each_holds cs env c m (and_right (is_as_asked d.1 (get env d.0)) (all_hold env cs) h)

cond_used : (cs : List (ℕ × Bool)) (c : ℕ × Bool) → Mem c cs → conds_use c.0 cs ≡ true
cond_used [] c m = absurd m
cond_used (d ∷ cs) c (inl e) = or_left (d.0 == c.0) (conds_use c.0 cs) (equal_number d.0 c.0 (ap (λ (x : ℕ × Bool). x.0) (sym e)))
cond_used (d ∷ cs) c (inr m) = or_right (d.0 == c.0) (conds_use c.0 cs) (cond_used cs c m)

passed : (os : List NumberedOp) (env : Values) (cs : List (ℕ × Bool)) (c : ℕ × Bool) → Mem c cs → may_pass os env cs ≡ true → (defined_in os c.0 || is_as_asked c.1 (get env c.0)) ≡ true
passed os env [] c m e = absurd m
passed os env (d ∷ cs) c (inl same) e = subst (λ (x : ℕ × Bool). (defined_in os x.0 || is_as_asked x.1 (get env x.0)) ≡ true) (sym same) (and_left (defined_in os d.0 || is_as_asked d.1 (get env d.0)) (may_pass os env cs) e)
passed os env (d ∷ cs) c (inr m) e = passed os env cs c m (and_right (defined_in os d.0 || is_as_asked d.1 (get env d.0)) (may_pass os env cs) e)

prefix_mem : {A : Type 0} (prefix items : List A) → IsPrefixOf prefix items → (x : A) → Mem x prefix → Mem x items
prefix_mem prefix items (rest, is) x m = subst (λ xs. Mem x xs) (sym is) (go prefix m)
  where
    go : (ys : List _) → Mem x ys → Mem x (ys ++ rest)
    go [] m = absurd m
    go (y ∷ ys) (inl e) = inl e
    go (y ∷ ys) (inr m) = inr (go ys m)

module _ (parts : PlanParts) (is : IsPlan parts) (p : ℕ) (program : Program) (at : slice_get parts.programs p ≡ Some program)
    (args : List Value) (rows : Tables) (fits : map type_of args ≡ program.params) (rows_fit : RowsFit parts.tables rows) (block : ℕ) where
  well_formed : IsWellFormedProgram parts.tables program
  well_formed = is.programs p program at

  abbrev os : List NumberedOp
  os = part (λ o. block_in parts (Operation p o.0)) block (numbered_from 0 program.ops)

  abbrev end : Values
  end = (numbered_meaning program.vars (numbered_from 0 program.ops) (opening args rows)).env

  inside : (o : NumberedOp) → Mem o os → (slice_get program.ops o.0 ≡ Some o.1) × (block_in parts (Operation p o.0) ≡ block)
  inside o m = let k = part-mem (λ o. block_in parts (Operation p o.0)) block (numbered_from 0 program.ops) o m in (stands parts (order_kept parts is) p program at o k.0, k.1)

  within : (o : NumberedOp) → slice_get program.ops o.0 ≡ Some o.1 → block_in parts (Operation p o.0) ≡ block → Mem o os
  within o there_ same = subst (λ b. Mem o (part (λ o. block_in parts (Operation p o.0)) b (numbered_from 0 program.ops))) same
      (part_holds (λ o. block_in parts (Operation p o.0)) o (numbered_from 0 program.ops) (mem_number 0 program.ops o.0 o.1 there_ o.0 (omega arith)))

  flow : (i j : NumberedOp) (x : ℕ) → slice_get program.ops i.0 ≡ Some i.1 → slice_get program.ops j.0 ≡ Some j.1 → defined_variable i.1.kind ≡ Some x → op_uses x j.1 ≡ true
      → (block_in parts (Operation p i.0) ≡ block_in parts (Operation p j.0)) ⊎ HasBlockEdge parts (block_in parts (Operation p i.0)) (block_in parts (Operation p j.0))
  flow i j x ati atj d u = ((order_kept parts is).flows p i.0 j.0 x program at (there program.ops i.0 i.1 (λ (op : FlatOp). defined_variable op.kind ≡ Some x) ati d) (there program.ops j.0 j.1 (λ (op : FlatOp). op_uses x op ≡ true) atj u)).1

  -- what an operation of the part uses from elsewhere has a value at the end, where its conditions from elsewhere hold there
  from_elsewhere : (o : NumberedOp) → Mem o os → ((c : ℕ × Bool) → Mem c o.1.conds → defined_in os c.0 ≡ false → is_as_asked c.1 (get end c.0) ≡ true)
      → (x : ℕ) → op_uses x o.1 ≡ true → defined_in os x ≡ false → (v : Value) × (get end x ≡ Some v)
  from_elsewhere o m held x u outside = go (well_formed.used o.0 x o.1 (inside o m).0 u)
    where
      go : (x < length program.params) ⊎ IsDefinedBefore program.ops o.0 o.1 x → (v : Value) × (get end x ≡ Some v)
      go (inl lt) = program_param parts.tables program (is.programs p program at) args fits rows x lt
      go (inr (i, lt, found)) = program_given parts.tables program (is.programs p program at) args fits rows i f.0 f.1 (holds_from f.0.conds end each) x f.2.0
        where
          f : (op : FlatOp) × (slice_get program.ops i ≡ Some op) × ((defined_variable op.kind ≡ Some x) × IsPrefixOf op.conds o.1.conds)
          f = item program.ops i (λ (op : FlatOp). (defined_variable op.kind ≡ Some x) × IsPrefixOf op.conds o.1.conds) found

          not_same : block_in parts (Operation p i) ≡ block → ⊥
          not_same e = true≢false (sym (any_mem (λ (d : NumberedOp). is_var x (defined_variable d.1.kind)) (i, f.0) os (within (i, f.0) f.1 e) (is_var-same x (defined_variable f.0.kind) f.2.0)) ∙ outside)

          -- a condition of the definer isn't defined in the part
          ends : (c : ℕ × Bool) → Mem c f.0.conds → defined_in os c.0 ≡ true → ⊥
          ends c mc e =
              let d = any_gives (λ (d : NumberedOp). is_var c.0 (defined_variable d.1.kind)) os e in
              let k = inside d.0 d.1 in
              let o_in = inside o m in
              ⊎_elim (λ b. not_same (sym b ∙ k.1))
              (λ up. ⊎_elim (λ b. not_same (b ∙ o_in.1))
              (λ back.
              let l : block_in parts (Operation p d.0.0) < block_in parts (Operation p i) = (order_kept parts is).up _ _ up in
              let r : block_in parts (Operation p i) < block_in parts (Operation p o.0) = (order_kept parts is).up _ _ back in
              let dd : block_in parts (Operation p d.0.0) ≡ block = k.1 in
              let oo : block_in parts (Operation p o.0) ≡ block = o_in.1 in
              omega arith)
              (flow (i, f.0) o x f.1 o_in.0 f.2.0 u))
              (flow d.0 (i, f.0) c.0 k.0 f.1 (var-named c.0 (defined_variable d.0.1.kind) d.2) (or_left (conds_use c.0 f.0.conds) (kind_uses c.0 f.0.kind) (cond_used f.0.conds c mc)))

          each : (c : ℕ × Bool) → Mem c f.0.conds → is_as_asked c.1 (get end c.0) ≡ true
          each c mc = held c (prefix_mem f.0.conds o.1.conds f.2.1 c mc) (unlike _ (ends c mc))

  end_fit : IsFit parts.tables program.vars (numbered_meaning program.vars (numbered_from 0 program.ops) (opening args rows))
  end_fit = stays_end parts.tables program.vars (numbered_from 0 program.ops) (opening args rows) (program_fit parts.tables program (is.programs p program at) args fits rows rows_fit)

  there_typed : (o : NumberedOp) → Mem o os → may_pass os end o.1.conds ≡ true → (x : ℕ) → op_uses x o.1 ≡ true → defined_in os x ≡ false → HasTyped program.vars end x
  there_typed o m may x u outside =
      let v : (v : Value) × (get end x ≡ Some v) = from_elsewhere o m (λ c mc out. ⊎_elim (λ d. absurd (not_false _ out d)) (λ h. h) (or_cases (defined_in os c.0) (is_as_asked c.1 (get end c.0)) (passed os end o.1.conds c mc may))) x u outside in
      (v.0, v.1, end_fit.types x v.0 v.1)

  module _ (s : State) (fit : IsFit parts.tables program.vars s) (right : InputsAre os end s.env) where
    used_here : (o : NumberedOp) → Mem o os → (x : ℕ) → op_uses x o.1 ≡ true → used_in os x ≡ true
    used_here o m x u = any_mem (λ (d : NumberedOp). op_uses x d.1) o os m u

    abbrev Start : NumberedOp → ℕ → Type 0
    Start o x = Mem o os × (op_uses x o.1 ≡ true) × (defined_in os x ≡ false)

    inputs : (o : NumberedOp) (x : ℕ) → Start o x → (env : Values) → ((y : ℕ) → defined_in os y ≡ false → get env y ≡ get s.env y) → all_hold env o.1.conds ≡ true → (v : Value) × (get env x ≡ Some v)
    inputs o x (m, u, outside) env elsewhere held =
        let v : (v : Value) × (get end x ≡ Some v) = from_elsewhere o m
        (λ c mc out. ap (is_as_asked c.1) (sym (elsewhere c.0 out ∙ right c.0 (used_here o m c.0 (or_left (conds_use c.0 o.1.conds) (kind_uses c.0 o.1.kind) (cond_used o.1.conds c mc))) out)) ∙ each_holds o.1.conds env c mc held)
        x u outside in
        (v.0, elsewhere x outside ∙ right x (used_here o m x u) outside ∙ v.1)

    -- before number n stand exactly the part's operations of lower numbers
    record StandsIn (n : ℕ) (before : List NumberedOp) : Type 0 where
      holds : (i : ℕ) (op : FlatOp) → slice_get program.ops i ≡ Some op → block_in parts (Operation p i) ≡ block → i < n → Mem (i, op) before
      only : (i : NumberedOp) → Mem i before → (slice_get program.ops i.0 ≡ Some i.1) × (i.0 < n)

    later_n : (n : ℕ) (before : List NumberedOp) → (block_in parts (Operation p n) ≡ block → ⊥) → StandsIn n before → StandsIn (n + 1) before
    later_n n before other stands = record {
      holds = λ i op at same lt. stands.holds i op at same (let differ : i ≡ n → ⊥ = λ h. other (ap (λ k. block_in parts (Operation p k)) (sym h) ∙ same) in grind (arith, lt, differ));
      only = λ i m. let s = stands.only i m in (s.0, (let lt : i.0 < n = s.1 in omega (arith, lt)));
    }

    one_more : (n : ℕ) (op : FlatOp) (before : List NumberedOp) → slice_get program.ops n ≡ Some op → StandsIn n before → StandsIn (n + 1) ((n, op) ∷ before)
    one_more n op before here stands = record { holds = held; only = own }
      where
        held : (i : ℕ) (o : FlatOp) → slice_get program.ops i ≡ Some o → block_in parts (Operation p i) ≡ block → i < n + 1 → Mem (i, o) ((n, op) ∷ before)
        held i o e same lt = go (i == n) refl
          where
            go : (b : Bool) → (i == n) ≡ b → (◌≡◌ {A = NumberedOp} (i, o) (n, op)) ⊎ Mem (i, o) before
            go true t = let is : i ≡ n = same_number i n t in inl (λ j. (is j, same_Some o op (sym e ∙ ap (slice_get program.ops) is ∙ here) j))
            go false t = inr (stands.holds i o e same (let differ : i ≡ n → ⊥ = λ h. not_false (i == n) t (equal_number i n h) in grind (arith, lt, differ)))

        own : (i : NumberedOp) → Mem i ((n, op) ∷ before) → (slice_get program.ops i.0 ≡ Some i.1) × (i.0 < n + 1)
        own i (inl e) = (subst (λ (z : NumberedOp). slice_get program.ops z.0 ≡ Some z.1) (sym e) here, (let same : i.0 ≡ n = ap (λ (z : NumberedOp). z.0) e in omega (arith, same)))
        own i (inr m) = let s = stands.only i m in (s.0, (let lt : i.0 < n = s.1 in omega (arith, lt)))

    abbrev FollowIn : List NumberedOp → List NumberedOp → Type 0
    FollowIn = Follow parts.tables program.vars os Start s.env inputs

    follows_in : (n : ℕ) (op : FlatOp) (before : List NumberedOp) → slice_get program.ops n ≡ Some op → block_in parts (Operation p n) ≡ block → StandsIn n before → Follows parts.tables program.vars os Start s.env inputs before (n, op)
    follows_in n op before here same stands = record {
      can = can parts.tables program (is.programs p program at) n op here;
      uses = λ x u. source x u (defined_in os x) refl;
      own = λ x d. not_used parts.tables program (is.programs p program at) n n x op op here d here (omega arith);
      later = λ x d i m. let s = stands.only i m in not_used parts.tables program (is.programs p program at) n i.0 x op i.1 here d s.0 (let lt : i.0 < n = s.1 in omega (arith, lt));
      listed = λ x d. any_mem (λ (o : NumberedOp). is_var x (defined_variable o.1.kind)) (n, op) os (within (n, op) here same) (is_var-same x (defined_variable op.kind) d);
    }
      where
        source : (x : ℕ) → op_uses x op ≡ true → (b : Bool) → defined_in os x ≡ b → Start (n, op) x ⊎ ((i : NumberedOp) × Mem i before × (defined_variable i.1.kind ≡ Some x) × IsPrefixOf i.1.conds op.conds)
        source x u false e = inl (within (n, op) here same, u, e)
        source x u true e = inr (go (well_formed.used n x op here u))
          where
            d : (o : NumberedOp) × Mem o os × (is_var x (defined_variable o.1.kind) ≡ true)
            d = any_gives (λ (o : NumberedOp). is_var x (defined_variable o.1.kind)) os e

            defines : Defines program.ops d.0.0 x
            defines = there program.ops d.0.0 d.0.1 (λ (o : FlatOp). defined_variable o.kind ≡ Some x) (inside d.0 d.1).0 (var-named x (defined_variable d.0.1.kind) d.2)

            go : (x < length program.params) ⊎ IsDefinedBefore program.ops n op x → (i : NumberedOp) × Mem i before × (defined_variable i.1.kind ≡ Some x) × IsPrefixOf i.1.conds op.conds
            go (inl lt) = absurd (let after : length program.params ≤ x = well_formed.after d.0.0 x defines in omega (arith, lt, after))
            go (inr (i, lt, found)) =
                let f = item program.ops i (λ (o : FlatOp). (defined_variable o.kind ≡ Some x) × IsPrefixOf o.conds op.conds) found in
                let one : i ≡ d.0.0 = well_formed.once i d.0.0 x (there program.ops i f.0 (λ (o : FlatOp). defined_variable o.kind ≡ Some x) f.1 f.2.0) defines in
                ((i, f.0), stands.holds i f.0 f.1 (ap (λ k. block_in parts (Operation p k)) one ∙ (inside d.0 d.1).1) lt, f.2.0, f.2.1)

    follow_part : (rest : List FlatOp) (n : ℕ) (before : List NumberedOp) → ((k : ℕ) (op : FlatOp) → slice_get rest k ≡ Some op → slice_get program.ops (n + k) ≡ Some op) → StandsIn n before
        → FollowIn before (part (λ o. block_in parts (Operation p o.0)) block (numbered_from n rest))
    unfolding numbered_from
    follow_part [] n before at stands = tt
    follow_part (op ∷ rest) n before at stands = go (block_in parts (Operation p n) == block) refl (follow_part rest (n + 1))
      where
        here : slice_get program.ops n ≡ Some op
        here = let zero_ : n ≡ n + 0 = omega arith in ap (slice_get program.ops) zero_ ∙ at 0 op refl

        moved : (k : ℕ) (o : FlatOp) → slice_get rest k ≡ Some o → slice_get program.ops (n + 1 + k) ≡ Some o
        moved k o e = let same : n + 1 + k ≡ n + suc k = omega arith in ap (slice_get program.ops) same ∙ at (suc k) o e

        Rest : Type 0
        Rest = (before : List NumberedOp) → ((k : ℕ) (op : FlatOp) → slice_get rest k ≡ Some op → slice_get program.ops (n + 1 + k) ≡ Some op) → StandsIn (n + 1) before
            → FollowIn before (part (λ o. block_in parts (Operation p o.0)) block (numbered_from (n + 1) rest))

        go : (b : Bool) → (block_in parts (Operation p n) == block) ≡ b → Rest
            → FollowIn before (cond b ((n, op) ∷ part (λ o. block_in parts (Operation p o.0)) block (numbered_from (n + 1) rest)) (part (λ o. block_in parts (Operation p o.0)) block (numbered_from (n + 1) rest)))
        go true e more = (follows_in n op before here (same_number _ _ e) stands, more ((n, op) ∷ before) moved (one_more n op before here stands))
        go false e more = more before moved (later_n n before (λ h. not_false _ e (equal_number _ _ h)) stands)

    part_fit : StaysFitAt parts.tables program.vars os s
    part_fit = stay_fit parts.tables program.vars os Start s.env inputs [] os s
        (follow_part program.ops 0 [] (λ k op e. let same : 0 + k ≡ k = omega arith in ap (slice_get program.ops) same ∙ e) (record { holds = λ i op e same lt. absurd (omega (arith, lt)); only = λ i m. absurd m }))
        fit (λ i m held x d. absurd m) (λ y out. refl)

pub inputs_there : InputsAreThere
inputs_there parts is p program at args rows fits rows_fit block =
    subst (λ (env : Values). FindsFromElsewhere program.vars (part (λ o. block_in parts (Operation p o.0)) block (numbered_from 0 program.ops)) env)
    (ap (λ (z : State). z.env) (whole_meaning program.vars 0 program.ops (opening args rows)))
    (there_typed parts is p program at args rows fits rows_fit block)

pub pieces_stay_fit : PiecesStayFit
pieces_stay_fit parts is p program at args rows fits rows_fit block s fit right =
    part_fit parts is p program at args rows fits rows_fit block s fit
    (subst (λ (env : Values). InputsAre (part (λ o. block_in parts (Operation p o.0)) block (numbered_from 0 program.ops)) env s.env)
    (sym (ap (λ (z : State). z.env) (whole_meaning program.vars 0 program.ops (opening args rows)))) right)
