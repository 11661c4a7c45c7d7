use Rattle.std.proofs.Common.{map}
use Rattle.std.specs.String.{string_bytes}
use Rattle.pac_arguments.proofs.NameLemmas.{no_name}
use Rattle.pac_arguments.proofs.command.command_named.Goals as goal

pub returns-in_default : goal.returns-in_default
returns-in_default c = let n = c.in_default in no_name c.args.name.now (map string_bytes c.args.arguments.now) n.not-init n.not-run n.not-recover n.not-explain n.not-replay n.not-stress n.not-lay
