-- The head and the tables are what is written, and are read again.
use Rattle.std.proofs.Common.{◌<◌, length, sym, ap, subst}
use Rattle.pac_check.proofs.WritingLemmas.{written-checkpoint, head-and-tables}
use Rattle.pac_check.proofs.text.checkpoint_text.Goals as goal

pub returns-clause-text : goal.returns-clause-text
returns-clause-text g c = head-and-tables _ (length c.args.cat.now.tables) c.args.head (g.R.Rows.held c.args.rows.now) _ _ _ (ap length c.tables-tables.ensures.value) c.in_ok-text.ensures.items c.in_ok-put_head.ensures.bytes c.in_ok-put_tables.ensures.bytes

pub returns-clause-form : goal.returns-clause-form
returns-clause-form g c = written-checkpoint c.args.cat.now.tables c.args.head (g.R.Rows.held c.args.rows.now) c.put_head.ensures.form c.requires.fits.rows (λ t lt. c.in_ok-put_tables.ensures.form t (subst (λ n. t < n) (sym (ap length c.tables-tables.ensures.value)) lt)) (λ t lt. c.requires.few t (subst (λ n. t < n) (sym c.requires.fits.count) lt))
