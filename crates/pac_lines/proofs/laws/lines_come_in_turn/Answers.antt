use Rattle.pac_lines.proofs.LineLemmas.{all_lines-first_ones}
use Rattle.pac_lines.proofs.laws.lines_come_in_turn.Goals as goal

pub returns : goal.returns
returns c = all_lines-first_ones
