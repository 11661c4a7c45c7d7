-- One program more is counted.
use Rattle.std.proofs.Common.{◌≡◌, ◌+◌, Some, length, refl, ap, arith, add-one}
use Rattle.std.specs.Prelude.{slice_get}
use Rattle.std.proofs.lemmas.Option.{slice_get_read}
use Rattle.pac_global.specs.Drawing.{first_of}
use Rattle.pac_global.proofs.OffsetLemmas.{first_next, first_within, first_all}
use Rattle.pac_global.proofs.draw.op_count.Goals as goal

pub overflow_add-count : goal.overflow_add-count
overflow_add-count c = let programs = c.args.programs.now in
    let l = c.loop-program in
    let program = c.program-item.result in
    let at : slice_get programs l.program-index ≡ Some program = slice_get_read programs (length programs) l.program-index program refl c.loop-program-test.true c.program-item.is in
    omega (arith, first_within programs l.program-index program at, ap length c.as_slice.ensures, l.invariant, c.requires)

pub loop-program-preserved : goal.loop-program-preserved
loop-program-preserved c = let programs = c.args.programs.now in
    let l = c.loop-program in
    let program = c.program-item.result in
    let at : slice_get programs l.program-index ≡ Some program = slice_get_read programs (length programs) l.program-index program refl c.loop-program-test.true c.program-item.is in
    let next : first_of programs (l.program-index + 1) ≡ first_of programs l.program-index + length program.ops = rw add-one (first_next programs l.program-index program at) in
    omega (arith, next, ap length c.as_slice.ensures, l.invariant)

pub returns : goal.returns
returns c = let l = c.loop-program in omega (arith, l.invariant, first_all c.args.programs.now l.program-index (omega (arith, c.loop-program-test.false)))
