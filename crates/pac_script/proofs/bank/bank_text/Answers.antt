-- The text is spelled out twice.
use Rattle.std.proofs.Common.{refl}
use Rattle.pac_script.specs.BankText.{bank_text}
use Rattle.pac_script.proofs.bank.bank_text.Goals as goal

pub returns : goal.returns
unfolding bank_text
returns c = refl
