-- One procedure more.
use Rattle.std.proofs.Common.{◌≡◌, ◌+◌, List, [], ◌∷◌, ◌++◌, length, ap, ◌∙◌}
use Rattle.std.proofs.lemmas.List.{length_push}
use Rattle.pac_keys.specs.declared.interface.Interface.{Interface}
use Rattle.pac_keys.specs.Interfaces.{AreInterfacesOf}
use Rattle.pac_keys.proofs.PushLemmas.{each_push}
use Rattle.pac_keys.proofs.interfaces.interfaces.Goals as goal

pub loop-proc-preserved : goal.loop-proc-preserved
loop-proc-preserved c =
    let interfaces = c.loop-proc.interfaces.items in
    let own = c.in_ok-interfaces_of.field-0.items in
    let all = c.loop-proc.invariant.all in
    let more : c.push.new.self.items ≡ interfaces ++ own ∷ [] = c.in_ok-push.ensures.items ∙ ap (λ (l : List Interface). interfaces ++ l ∷ []) c.listed.ensures in
    record {
      all = ap length more ∙ length_push interfaces own ∙ ap (λ n. n + 1) all;
      size = each_push (λ proc (of_proc : List Interface). length of_proc ≡ c.args.code.now.blocks) interfaces c.push.new.self.items own c.loop-proc.proc more all c.loop-proc.invariant.size c.in_ok-interfaces_of.ensures.size;
      each = each_push (AreInterfacesOf c.args.code.now) interfaces c.push.new.self.items own c.loop-proc.proc more all c.loop-proc.invariant.each c.in_ok-interfaces_of.ensures.each;
    }
