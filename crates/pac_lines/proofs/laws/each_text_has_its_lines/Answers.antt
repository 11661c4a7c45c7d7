use Rattle.pac_lines.proofs.LineLemmas.{lines_are, only_lines}
use Rattle.pac_lines.proofs.laws.each_text_has_its_lines.Goals as goal

pub returns-clause-are : goal.returns-clause-are
returns-clause-are c = lines_are

pub returns-clause-only : goal.returns-clause-only
returns-clause-only c = only_lines
