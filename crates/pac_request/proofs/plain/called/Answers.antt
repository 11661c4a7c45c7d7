-- The word, the name and the bracket are read one after another.
use Rattle.std.proofs.Common.{◌-◌, length, take, drop, refl}
use Rattle.std.proofs.lemmas.List.{take_rest}
use Rattle.pac_request.specs.LineForms.{verb_word}
use Rattle.pac_request.specs.declared.node.Verb.TheVariants as verb
use Rattle.pac_request.proofs.PlainLemmas.{is_called}
use Rattle.pac_request.proofs.plain.called.Goals as goal

pub returns-clause-called : goal.returns-clause-called
returns-clause-called c =
    let word = c.after_gap-word.result.now in
    let len = c.in_ok-len.len in
    let name = c.after_gap-name.result.now in
    let size = c.in_ok-len-2.len in
    is_called c.args.catalogue.now c.args.line.now word (verb_word verb.Call) (take (length word - len) (drop len word)) name (take size name) (take (length name - size) (drop size name)) c.after_gap.result.now c.in_ok-after.after.now
    len size c.in_ok-number.number c.in_ok-number.proc.now
    c.after_gap-word.ensures c.in_ok-len.ensures.call refl (take_rest word len)
    c.after_gap-name.ensures c.in_ok-len-2.ensures.name (take_rest name size)
    c.in_ok-number.ensures.found c.after_gap.ensures c.in_ok-after.ensures
