use Rattle.std.proofs.Common.{refl}
use Rattle.clap.proofs.OnLiterals.{clap_on_literals}
use Rattle.pac_arguments.specs.Found.{found_rows}
use Rattle.pac_arguments.proofs.command.spelled_law.Goals as goal

pub returns : goal.returns
unfolding clap_on_literals found_rows
returns c = record { both = refl; value = refl; none = refl; again = refl; count = refl; missing = refl; help = refl; init = refl; more = refl; plain = refl; text = refl; replay = refl; images = refl; lay = refl }
