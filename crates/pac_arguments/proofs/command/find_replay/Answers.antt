use Rattle.std.proofs.Common.{◌≡◌, ◌∙◌, ap, subst, map, codes, option_map}
use Rattle.std.specs.Prelude.{IfOk}
use Rattle.std.specs.String.{string_bytes}
use Rattle.clap.specs.Words.{App, app_of, found_of, rows_of}
use Rattle.pac_arguments.specs.Found.{found_rows, with_option, with_flag}
use Rattle.pac_arguments.specs.Commands.{replay_app}
use Rattle.pac_arguments.proofs.command.find_replay.Goals as goal

pub returns : goal.returns
returns c =
    let is : app_of c.in_ok-with_flag.field-0 ≡ replay_app = c.in_ok-with_flag.ensures ∙ ap (with_flag (codes "images")) (c.in_ok-command.ensures ∙ ap (with_option (codes "rows")) (c.in_ok-with_workers.ensures ∙ ap (with_option (codes "workers")) c.plain_app.ensures)) in
    subst (λ (a : App). IfOk c.find.result (λ matches. option_map (λ m. rows_of (found_of m)) matches ≡ found_rows a (map string_bytes c.args.arguments.now))) is c.find.ensures
