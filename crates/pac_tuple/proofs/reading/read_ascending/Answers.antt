-- Each step reads one image.
use Rattle.std.proofs.lemmas.Result.{err_from_is_err_and}
use Rattle.pac_bytes.specs.Reading.{from}
use Rattle.pac_tuple.proofs.ReadingLemmas.{ascending-on, ascending-fails, ascending-done}
use Rattle.pac_tuple.proofs.reading.read_ascending.Goals as goal

pub returns-in_err-image : goal.returns-in_err-image
returns-in_err-image c =
    let p = err_from_is_err_and c.from_residual-in_err-image.result c.from_residual-in_err-image.ensures.1 in
    rw (p.1, p.2) (ascending-fails c.args.cat.now.tables c.in_err-image.field-0.0 c.loop.images.items c.loop.last c.args.count c.loop.counter (from c.args.bytes.now c.loop.offset) _ c.loop-test.true c.in_err-image.ensures c.loop.invariant.so_far)

pub loop-preserved : goal.loop-preserved
loop-preserved c = record {
  so_far = rw (c.in_ok-push.ensures.items, c.cell_of.ensures) (ascending-on c.args.cat.now.tables c.loop.images.items c.loop.last c.args.count c.loop.counter (from c.args.bytes.now c.loop.offset) (from c.args.bytes.now c.in_ok-image.end) c.in_ok-image.image _ c.loop-test.true c.in_ok-image.ensures c.loop.invariant.so_far);
}

pub returns : goal.returns
returns c = ascending-done c.args.cat.now.tables c.loop.images.items c.loop.last c.args.count c.loop.counter (from c.args.bytes.now c.loop.offset) _ c.loop-test.false c.loop.invariant.so_far
