-- Copies that fit make rows that fit.
use Rattle.pac_piece.proofs.CopyLemmas.{copies_fit}
use Rattle.pac_piece.proofs.rows.rows_fit.Goals as goal

pub returns-clause-tables : goal.returns-clause-tables
returns-clause-tables c = λ t. copies_fit c.args.plan.now.tables c.args.rows.now (c.all_fit.ensures.0 t)
