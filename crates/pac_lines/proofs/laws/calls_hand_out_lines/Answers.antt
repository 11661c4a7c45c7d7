use Rattle.pac_lines.proofs.CallLemmas.{end_of_text, lines_of_text}
use Rattle.pac_lines.proofs.laws.calls_hand_out_lines.Goals as goal

pub returns-clause-lines : goal.returns-clause-lines
returns-clause-lines c = lines_of_text

pub returns-clause-end : goal.returns-clause-end
returns-clause-end c = end_of_text
