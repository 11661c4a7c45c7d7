-- One variable after another.
use Rattle.std.proofs.Common.{◌≡◌, ℕ, ◌+◌, List, ◌∷◌, [], ◌++◌, get_or, take, T, vec_len, vec_capacity, sym, ap, ◌∙◌, subst, arith}
use Rattle.std.specs.Prelude.{Vec}
use Rattle.std.specs.Global.{Global}
use Rattle.std.specs.Ordering.{nat_cmp}
use Rattle.std.specs.FinMap.{from_sorted, is_sorted}
use Rattle.std.proofs.lemmas.List.{take_all, take_more}
use Rattle.pac_value.specs.declared.values.Value.{Value}
use Rattle.pac_value.specs.Expressions.{Values}
use Rattle.pac_core.specs.Values.{GivesTo}
use Rattle.pac_core.proofs.ValueSteps.{given_so_far, none_given, one_given}
use Rattle.pac_core.proofs.kept_values.put_all.Goals as goal
use Rattle.pac_core.proofs.kept_values.put_all.Goals.{in-Some, in_default}

abbrev Entries : Type 0
Entries = Vec (ℕ × Value) Global

pub loop-var-init : goal.loop-var-init
loop-var-init c = record { sorted = c.requires.sorted; gives = given_so_far c.args.given.now (from_sorted c.args.values.now.items); room = (let room = c.requires.room in omega (arith, room)) }

pub put-requires-clause-room : goal.put-requires-clause-room
put-requires-clause-room c =
    let room = c.loop-var.invariant.room in
    let lt = c.loop-var-test.true in
    omega (arith, room, lt)

pub loop-var-preserved : goal.loop-var-preserved
loop-var-preserved c =
    let vars = c.args.vars.now in
    let i = c.loop-var.var-index in
    let x = get_or vars i 0 in
    let first = from_sorted {R = nat_cmp} c.args.values.now.items in
    let room = c.loop-var.invariant.room in
    let lt = c.loop-var-test.true in
    let next : take (i + 1) vars ≡ take i vars ++ x ∷ [] = take_more vars i 0 c.loop-var-test.true in
    elim c.match-get.branch [
      | in-Some w ↦
          let len = w.put.ensures.len in
          let more = w.put.ensures.capacity in
          let same_len = ap (λ (v : Entries). vec_len v) w.values-is in
          let same_capacity = ap (λ (v : Entries). vec_capacity v) w.values-is in
          record {
            sorted = subst (λ (v : Entries). T (is_sorted nat_cmp v.items)) (sym w.values-is) w.put.ensures.sorted;
            gives = subst (λ (l : List ℕ). GivesTo l c.args.given.now first (from_sorted c.match-get.values.items)) (sym next)
                (subst (λ (env : Values). GivesTo (take i vars ++ x ∷ []) c.args.given.now first env) (sym (ap (λ (v : Entries). from_sorted {R = nat_cmp} v.items) w.values-is ∙ w.put.ensures.value))
                (one_given (take i vars) c.args.given.now first (from_sorted c.loop-var.values.items) x c.loop-var.invariant.gives w.in-Some.value (sym c.get.ensures ∙ w.in-Some.is)));
            room = omega (arith, room, len, more, same_len, same_capacity);
          }
      | in_default w ↦
          let same_len = ap (λ (v : Entries). vec_len v) w.values-is in
          let same_capacity = ap (λ (v : Entries). vec_capacity v) w.values-is in
          record {
            sorted = subst (λ (v : Entries). T (is_sorted nat_cmp v.items)) (sym w.values-is) c.loop-var.invariant.sorted;
            gives = subst (λ (l : List ℕ). GivesTo l c.args.given.now first (from_sorted c.match-get.values.items)) (sym next)
                (subst (λ (env : Values). GivesTo (take i vars ++ x ∷ []) c.args.given.now first env) (sym (ap (λ (v : Entries). from_sorted {R = nat_cmp} v.items) w.values-is))
                (none_given (take i vars) c.args.given.now first (from_sorted c.loop-var.values.items) x c.loop-var.invariant.gives (sym c.get.ensures ∙ w.in_default.is)));
            room = omega (arith, room, same_len, same_capacity);
          }
    ]

pub returns-clause-gives : goal.returns-clause-gives
returns-clause-gives c =
    subst (λ (l : List ℕ). GivesTo l c.args.given.now (from_sorted c.args.values.now.items) (from_sorted c.loop-var.values.items))
    (take_all c.loop-var.var-index c.args.vars.now c.loop-var-test.false) c.loop-var.invariant.gives
