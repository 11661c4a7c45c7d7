use Rattle.std.proofs.lemmas.List.{take_rest}
use Rattle.std.proofs.Common.{SFits, w64, ◌-◌, length, take, drop, rules}
use Rattle.std.proofs.lemmas.Int.{to_z-of_z}
use Rattle.pac_value.specs.declared.values.Value.TheVariants as value
use Rattle.pac_request.proofs.PlainLemmas.{argument_read}
use Rattle.pac_request.proofs.plain.argument.Goals as goal

pub returns-in_ok-number-in-Int-clause-read : goal.returns-in_ok-number-in-Int-clause-read
returns-in_ok-number-in-Int-clause-read c =
    let literal = c.after_gap-literal.result.now in
    let len = c.in_ok-number-in-Int.len in
    let fits : SFits w64 c.in_ok-number-in-Int.number = search rules in
    simp to_z-of_z (argument_read c.args.bytes.now literal (take (length literal - len) (drop len literal)) (value.Int c.in_ok-number-in-Int.number) len c.after_gap-literal.ensures c.in_ok-number-in-Int.ensures.int (take_rest literal len))

pub returns-in_ok-text-in-Text-clause-read : goal.returns-in_ok-text-in-Text-clause-read
returns-in_ok-text-in-Text-clause-read c =
    let literal = c.after_gap-literal.result.now in
    let len = c.in_ok-text-in-Text.len in
    argument_read c.args.bytes.now literal (take (length literal - len) (drop len literal)) (value.Text c.in_ok-text-in-Text.text) len c.after_gap-literal.ensures c.in_ok-text-in-Text.ensures.text (take_rest literal len)
