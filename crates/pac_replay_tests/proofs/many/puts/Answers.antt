-- Each put is at a greater number than those after it.
use Rattle.std.proofs.Common.{◌≡◌, ◌+◌, List, ◌∷◌, sym, subst, arith}
use Rattle.std.specs.List.{AllByRecursion}
use Rattle.pac_tables.specs.declared.writes.Write.{Write}
use Rattle.pac_tables.specs.Written.{AreWithin, IsOnce}
use Rattle.pac_replay_tests.proofs.NumberedPuts.{IsBelow, below-more, not-written, within-more}
use Rattle.pac_replay_tests.proofs.many.puts.Goals as goal

pub loop-key-preserved : goal.loop-key-preserved
loop-key-preserved c =
    let i = c.loop-key.invariant in
    let key = c.loop-key.key in
    let write = c.in_ok-put_of.field-0 in
    let writes = c.loop-key.writes.items in
    let items : c.insert.new.self.items ≡ write ∷ writes = c.in_ok-insert.ensures.items in
    record {
      within = subst (λ (l : List Write). AreWithin 1 l) (sym items) (within-more write writes c.in_ok-put_of.ensures.table i.within);
      below = subst (λ (l : List Write). AllByRecursion (IsBelow (key + 1)) l) (sym items) (record { number = key; less = omega arith; at = c.in_ok-put_of.ensures.key }, below-more key writes i.below);
      once = subst (λ (l : List Write). IsOnce l) (sym items) (not-written key write writes c.in_ok-put_of.ensures.key i.below, i.once);
    }
