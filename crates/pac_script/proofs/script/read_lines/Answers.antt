use Rattle.std.proofs.Common.{◌≡◌, ◌≤◌, ◌+◌, [], ◌∷◌, length, arith}
use Rattle.std.proofs.lemmas.Result.{err_from_is_err_and}
use Rattle.pac_script.specs.Lines.{lines}
use Rattle.pac_script.proofs.ReadingLemmas.{reading-start, reading-next, next-by, first_of, refused-here, all-read, as_error}
use Rattle.pac_script.proofs.script.read_lines.Goals as goal

pub loop-batcher-init : goal.loop-batcher-init
loop-batcher-init c = record {
  reading = reading-start _ _ _ c.new-batcher.ensures;
  few = omega arith;
  numbers = rw c.new-batcher.ensures (omega arith);
}

pub returns-in_err-said-clause-fault : goal.returns-in_err-said-clause-fault
returns-in_err-said-clause-fault c =
    let p = err_from_is_err_and c.from_residual.result c.from_residual.ensures.1 in
    rw (p.1, p.2) (λ fault is.
    let first = first_of c.first_line.result.1 (λ r. lines r.now) (lines c.loop-batcher.rest.now) c.first_line.result.0.now c.first_line.ensures.lines in
    refused-here _ _ _ first.0 _ c.loop-batcher.number c.loop-batcher.batcher fault c.loop-batcher.invariant.reading first.1 (c.in_err-said.ensures.fault fault (as_error _ fault is)))

pub returns-in-None-clause-ok : goal.returns-in-None-clause-ok
returns-in-None-clause-ok c =
    let last : lines c.loop-batcher.rest.now ≡ c.first_line.result.0.now ∷ [] = rw c.in-None.is at c.first_line.ensures.lines in
    let read = reading-next _ _ _ [] _ c.loop-batcher.number c.loop-batcher.batcher c.take.new.self c.in_ok-said.said c.loop-batcher.invariant.reading last c.in_ok-said.ensures.ok c.in_ok-take.ensures.small c.in_ok-take.ensures.cut in
    all-read _ _ _ _ _ read c.in_ok-end-in-None.ensures

pub loop-batcher-preserved : goal.loop-batcher-preserved
loop-batcher-preserved c =
    let next : lines c.loop-batcher.rest.now ≡ c.first_line.result.0.now ∷ lines c.in-Some.next.now = rw c.in-Some.is at c.first_line.ensures.lines in
    let shorter : length c.in-Some.next.now + 1 ≤ length c.loop-batcher.rest.now = omega (arith, rw c.in-Some.is at c.first_line.ensures.within) in
    record {
      reading = reading-next _ _ _ (lines c.in-Some.next.now) _ c.loop-batcher.number c.loop-batcher.batcher c.take.new.self c.in_ok-said.said c.loop-batcher.invariant.reading next c.in_ok-said.ensures.ok c.in_ok-take.ensures.small c.in_ok-take.ensures.cut;
      few = omega arith;
      numbers = next-by c.in_ok-said.said c.loop-batcher.batcher c.take.new.self c.loop-batcher.number c.in_ok-take.ensures.cut c.loop-batcher.invariant.numbers;
    }
