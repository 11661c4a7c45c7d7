-- That many texts, with nothing in them.
use Rattle.pac_report.specs.GroupTexts.{Hold, no_text}
use Rattle.pac_report.proofs.groups.empty_texts.Given as goal

abbrev pub invariant-loop : goal.invariant-loop
invariant-loop l = Hold l.texts.items no_text l.counter
