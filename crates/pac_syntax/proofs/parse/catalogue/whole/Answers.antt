use Rattle.std.proofs.Common.{◌∙◌}
use Rattle.pac_syntax.specs.Machine.{tree_end, tree_procs}
use Rattle.pac_syntax.proofs.Stepping.{ended, trailing}
use Rattle.pac_syntax.proofs.parse.catalogue.whole.Goals as goal

pub returns-in-None : goal.returns-in-None
returns-in-None c = rw (c.listed-tables.ensures, c.listed-procs.ensures) (
    c.in_ok-tables.ensures.run tree_procs ∙ c.in_ok-procedures.ensures.run (tree_end c.in_ok-tables.field-0.items) ∙ ended _ _ _ c.in-None.ensures)

pub returns-in-Some : goal.returns-in-Some
returns-in-Some c = rw c.refuse.ensures (
    c.in_ok-tables.ensures.run tree_procs ∙ c.in_ok-procedures.ensures.run (tree_end c.in_ok-tables.field-0.items) ∙ trailing _ _ _ _ _ c.in-Some.ensures)
