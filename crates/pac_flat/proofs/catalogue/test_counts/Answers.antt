-- The sum grows by each procedure's own count.
use Rattle.std.proofs.Common.{◌≡◌, ◌≤◌, ◌<◌, ◌+◌, List, take, get_or, below_more, Some, None, sym, subst, ap, ◌∙◌, arith, take_all}
use Rattle.std.proofs.lemmas.List.Sums.{sum_by_more}
use Rattle.pac_types.specs.declared.procedure.Proc.{Proc}
use Rattle.pac_types.specs.Meaning.{operations}
use Rattle.pac_types.specs.OperationLimits.{all_operations, told, excess_at, IsFirstExcess}
use Rattle.pac_types.specs.declared.statement.Stmt.{Stmt}
use Rattle.pac_ops.specs.declared.limits.TheConstants.{MAX_OPS}
use Rattle.pac_types.proofs.ToldLemmas.{told-small, told-most, told-exact}
use Rattle.pac_flat.specs.declared.catalogue.TooManyOps.{TooManyOps}
use Rattle.pac_flat.proofs.ExcessLemmas.{own-excess, sum-excess, no-excess, within_limits}
use Rattle.pac_flat.proofs.catalogue.test_counts.Goals as goal
use Rattle.pac_flat.proofs.catalogue.test_counts.Goals.{After-count_operations-own}

-- the count is told as that of the procedure
own : (c : After-count_operations-own) → c.count_operations-own.result ≡ told (operations c.index-procs-number.result.body)
own c = c.count_operations-own.ensures ∙ ap (λ (ss : List Stmt). told (operations ss)) c.as_slice.ensures ∙ ap (λ (p : Proc). told (operations p.body)) (sym c.index-procs-number.is)

-- where it is few, it is exact, and the sum with it is that of those so far
few : (c : After-count_operations-own) → c.count_operations-own.result ≤ MAX_OPS → operations c.index-procs-number.result.body ≡ c.count_operations-own.result
few c le = sym (told-exact (operations c.index-procs-number.result.body) (omega (arith, own c, le))) ∙ sym (own c)

sum : (c : After-count_operations-own) → c.count_operations-own.result ≤ MAX_OPS → c.loop-number.up_to + c.count_operations-own.result ≡ all_operations (take (c.loop-number.number + 1) c.args.procs.now)
sum c le =
    let more : all_operations (take (c.loop-number.number + 1) c.args.procs.now) ≡ all_operations (take c.loop-number.number c.args.procs.now) + operations (get_or c.args.procs.now c.loop-number.number c.index-procs-number.result).body
    = sum_by_more (λ (p : Proc). operations p.body) c.args.procs.now c.loop-number.number c.index-procs-number.result c.loop-number-test.true in
    let here : operations (get_or c.args.procs.now c.loop-number.number c.index-procs-number.result).body ≡ c.count_operations-own.result = ap (λ (p : Proc). operations p.body) (sym c.index-procs-number.is) ∙ few c le in
    omega (arith, more, here, c.loop-number.invariant.sum)

pub returns-then-own-gt-MAX_OPS : goal.returns-then-own-gt-MAX_OPS
returns-then-own-gt-MAX_OPS c =
    let at = (goal.at.returns-then-own-gt-MAX_OPS c).After-count_operations-own in
    let proc = c.index-procs-number.result in
    let many : MAX_OPS < operations proc.body = omega (arith, own at, told-most (operations proc.body), c.if-own-gt-MAX_OPS.true) in
    subst (λ (fault : TooManyOps). IsFirstExcess c.args.procs.now fault.proc fault.count) (sym c.too_many.ensures) (record {
      here = own-excess c.args.procs.now c.loop-number.number proc c.loop-number-test.true (sym c.index-procs-number.is) many ∙ ap Some (sym (own at));
      before = c.loop-number.invariant.before;
    })

pub returns-then-up_to-gt-MAX_ALL_OPS : goal.returns-then-up_to-gt-MAX_ALL_OPS
returns-then-up_to-gt-MAX_ALL_OPS c =
    let at = (goal.at.returns-then-up_to-gt-MAX_ALL_OPS c).After-count_operations-own in
    let proc = c.index-procs-number.result in
    let le : c.count_operations-own.result ≤ MAX_OPS = c.if-own-gt-MAX_OPS.false in
    let up_to = c.loop-number.up_to + c.count_operations-own.result in
    subst (λ (fault : TooManyOps). IsFirstExcess c.args.procs.now fault.proc fault.count) (sym c.too_many-then-up_to-gt-MAX_ALL_OPS.ensures) (record {
      here = sum-excess c.args.procs.now c.loop-number.number proc c.loop-number-test.true (sym c.index-procs-number.is) up_to (sum at le) (omega (arith, few at le, le)) c.if-up_to-gt-MAX_ALL_OPS.true
          ∙ ap Some (told-small up_to (omega (arith, c.loop-number.invariant.few, le)));
      before = c.loop-number.invariant.before;
    })

pub loop-number-preserved : goal.loop-number-preserved
loop-number-preserved c =
    let at = (goal.at.loop-number-preserved c).After-count_operations-own in
    let proc = c.index-procs-number.result in
    let le : c.count_operations-own.result ≤ MAX_OPS = c.if-own-gt-MAX_OPS.false in
    record {
      sum = sum at le;
      few = c.if-up_to-gt-MAX_ALL_OPS.false;
      before = below_more (λ n. excess_at c.args.procs.now n ≡ None) c.loop-number.number c.loop-number.invariant.before
          (no-excess c.args.procs.now c.loop-number.number proc c.loop-number-test.true (sym c.index-procs-number.is) (c.loop-number.up_to + c.count_operations-own.result) (sum at le)
          (omega (arith, few at le, le)) c.if-up_to-gt-MAX_ALL_OPS.false);
    }

pub returns : goal.returns
returns c =
    let done : take c.loop-number.number c.args.procs.now ≡ c.args.procs.now = take_all c.loop-number.number c.args.procs.now c.loop-number-test.false in
    within_limits c.args.procs.now (λ n within. c.loop-number.invariant.before n (omega (arith, within, c.loop-number-test.false)))
    (omega (arith, c.loop-number.invariant.few, c.loop-number.invariant.sum, ap all_operations done))
