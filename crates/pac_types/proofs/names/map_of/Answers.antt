-- Each name, from the last to the first, gets its index.
use Rattle.std.proofs.Common.{◌≡◌, ◌∙◌, ◌-◌, ◌+◌, ap, sym, arith, drop, cond, Some}
use Rattle.std.specs.Prelude.{bytes_eq}
use Rattle.std.specs.List.{position_from}
use Rattle.pac_types.proofs.NameLemmas.{number_is, number-from}
use Rattle.pac_types.proofs.names.map_of.Goals as goal

pub loop-i-preserved : goal.loop-i-preserved
loop-i-preserved c = λ q.
    let names = c.args.names.now in
    let i = c.loop-i.i - 1 in
    let same : c.loop-i.i ≡ i + 1 = omega (arith, c.loop-i-test.true) in
    c.in_ok-insert.ensures.updates.0 q ∙ ap (cond (bytes_eq c.index-names-i.result q) (Some i)) (c.loop-i.invariant q ∙ ap (λ n. position_from (bytes_eq q) n (drop n names)) same)
    ∙ number-from names i c.index-names-i.result q (omega (arith, c.loop-i-test.true, c.loop-i.auto.i)) c.index-names-i.is

pub returns : goal.returns
returns c = λ q.
    let end : c.loop-i.i ≡ 0 = omega (arith, c.loop-i-test.false) in
    c.loop-i.invariant q ∙ ap (λ n. position_from (bytes_eq q) n (drop n c.args.names.now)) end ∙ sym (number_is c.args.names.now q)
