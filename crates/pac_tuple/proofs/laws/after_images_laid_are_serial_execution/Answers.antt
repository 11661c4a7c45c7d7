use Rattle.pac_tuple.proofs.AfterLemmas.{laid_is_serial}
use Rattle.pac_tuple.proofs.laws.after_images_laid_are_serial_execution.Goals as goal

pub returns : goal.returns
returns c = laid_is_serial
