-- One block more.
use Rattle.std.proofs.Common.{◌+◌, length, ap, ◌∙◌}
use Rattle.std.proofs.lemmas.List.{length_push}
use Rattle.pac_keys.specs.Interfaces.{IsInterfaceOf}
use Rattle.pac_keys.proofs.PushLemmas.{each_push}
use Rattle.pac_keys.proofs.interfaces.interfaces_of.Goals as goal

pub loop-block-preserved : goal.loop-block-preserved
loop-block-preserved c =
    let interfaces = c.loop-block.interfaces.items in
    let interface = c.in_ok-interface_of.field-0 in
    let more = c.in_ok-push.ensures.items in
    record {
      size = ap length more ∙ length_push interfaces interface ∙ ap (λ n. n + 1) c.loop-block.invariant.size;
      each = each_push (IsInterfaceOf c.args.code.now c.args.proc) interfaces c.push.new.self.items interface c.loop-block.block more c.loop-block.invariant.size c.loop-block.invariant.each c.in_ok-interface_of.ensures;
    }
