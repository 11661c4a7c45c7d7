-- One program more is the same.
use Rattle.std.proofs.Common.{◌≡◌, ◌<◌, length, sym, ◌∙◌, arith}
use Rattle.std.proofs.lemmas.List.{take_more_same}
use Rattle.std.proofs.lemmas.Option.{slice_get_within}
use Rattle.pac_core.proofs.SameLists.{item_is}
use Rattle.pac_core.proofs.job.are_same_programs.Goals as goal

pub loop-proc-preserved : goal.loop-proc-preserved
loop-proc-preserved c =
    let programs = c.args.plan.now.programs in
    let others = c.args.other.now.programs in
    let i = c.loop-proc.proc in
    let x = c.program.result.now in
    let len = c.loop-proc.invariant.equal in
    let here : i < length programs = slice_get_within programs i x c.program.ensures in
    let same : x ≡ c.program-in-loop-proc.result.now = c.same.ensures.0 c.if-not-same.false in
    record {
      equal = len;
      so_far = take_more_same programs others i x here (omega (arith, here, len)) c.loop-proc.invariant.so_far
          (item_is programs i x x c.program.ensures ∙ same ∙ sym (item_is others i x c.program-in-loop-proc.result.now c.program-in-loop-proc.ensures));
    }
