use Rattle.std.proofs.lemmas.List.{take_rest}
use Rattle.pac_script.proofs.LineDivision.{lines-none, lines-some}
use Rattle.pac_script.proofs.lines.first_line.Goals as goal

pub returns-in-None-clause-lines : goal.returns-in-None-clause-lines
returns-in-None-clause-lines c = lines-none _ c.in-None.ensures.offset

pub returns-in-Some-clause-lines : goal.returns-in-Some-clause-lines
returns-in-Some-clause-lines c = simp take_rest (lines-some c.args.text.now c.in-Some.at c.in-Some.ensures.offset)
