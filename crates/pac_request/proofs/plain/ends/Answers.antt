use Rattle.std.proofs.Common.{length, sym, ◌∙◌}
use Rattle.std.proofs.lemmas.Bool.{eqb-true}
use Rattle.pac_request.proofs.PlainLemmas.{end_read}
use Rattle.pac_request.proofs.plain.ends.Goals as goal

pub returns-in-Some : goal.returns-in-Some
returns-in-Some c = λ all. end_read c.args.bytes.now c.after_gap.result.now c.in-Some.after.now c.after_gap.ensures c.in-Some.ensures (sym c.gap_len.ensures.gap ∙ eqb-true c.gap_len.result (length c.in-Some.after.now) all)
