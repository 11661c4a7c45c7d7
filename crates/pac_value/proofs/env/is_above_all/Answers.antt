-- What stands before the last entry is less than that.
use Rattle.std.proofs.Common.{arith, ◌≡◌, ◌<◌, Less, subst, sym}
use Rattle.std.specs.Cmp.{nat_cmp_total, nat_cmp_is}
use Rattle.std.specs.Ordering.{nat_cmp}
use Rattle.std.proofs.lemmas.Grind.{common_steps}
use Rattle.pac_value.proofs.SortedLemmas.{above-gap}
use Rattle.pac_value.proofs.env.is_above_all.Goals as goal

pub returns-in-Some : goal.returns-in-Some
returns-in-Some c above =
    let lesser : c.in-Some.last.now.0 < c.args.var = grind (arith, common_steps, above) in
    let item = c.in-Some.ensures.item in
    above-gap nat_cmp_total c.args.values.now c.requires c.args.var
    (λ d. subst (λ entry. nat_cmp entry.0 c.args.var ≡ Less) (item.3.1 d) (sym (nat_cmp_is c.in-Some.last.now.0 c.args.var Less lesser)))
