use Rattle.std.proofs.Common.{map, ◌∙◌}
use Rattle.std.specs.String.{string_bytes}
use Rattle.clap.specs.Words.{app_of}
use Rattle.pac_arguments.proofs.FoundLemmas.{is_taken, is_refused}
use Rattle.pac_arguments.proofs.found.find.Goals as goal

pub returns-in-Ok : goal.returns-in-Ok
returns-in-Ok c = is_taken (app_of c.args.command) (map string_bytes c.args.arguments.now) c.in-Ok.matches c.requires (c.in-Ok.ensures.kinds c.requires) c.in-Ok.ensures.matches

pub returns : goal.returns
returns c = is_refused (app_of c.args.command) (map string_bytes c.args.arguments.now) c.in-Err.error (λ e. c.in_default.not-OutOfMemory (c.kind.ensures ∙ e)) (c.in-Err.ensures.kinds c.requires)
