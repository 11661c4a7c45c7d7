-- To append is to insert at the end.
use Rattle.std.proofs.Common.{ap, sym, ◌∙◌, arith}
use Rattle.std.specs.List.{insert}
use Rattle.std.proofs.lemmas.List.Edits.{insert_end}
use Rattle.pac_serial.proofs.write_set.add_at.Goals as goal

pub returns-in_ok-push-clause-ok : goal.returns-in_ok-push-clause-ok
returns-in_ok-push-clause-ok c =
    let all = c.args.changes.now.items in
    c.in_ok-push.ensures.items ∙ sym (insert_end all c.args.change) ∙ ap (λ n. insert all n c.args.change) (omega arith)
