-- A shifted word shows the bits from the position on.
use Rattle.std.proofs.Common.{sym, ◌∙◌, arith}
use Rattle.std.proofs.lemmas.Nat.Bits.{shr_and_one}
use Rattle.pac_graph.proofs.MatrixLemmas.{none_from, lowest_bit}
use Rattle.pac_graph.proofs.matrix.lowest_from.Goals as goal

pub returns-then-rest-eq1 : goal.returns-then-rest-eq1
returns-then-rest-eq1 c = (omega arith, c.requires, sym (shr_and_one c.args.word c.args.offset) ∙ c.if-rest-eq1.true, λ j ge lt. absurd (omega (arith, ge, lt)))

pub returns-then-rest-eq0 : goal.returns-then-rest-eq0
returns-then-rest-eq0 c = none_from c.args.word c.args.offset c.if-rest-eq0.true

pub returns : goal.returns
returns c = let found = lowest_bit c.args.word c.args.offset (omega (arith, c.ranges.word.fits)) c.if-rest-eq0.false in (omega arith, found.0, found.1, found.2)
