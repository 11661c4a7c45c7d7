use Rattle.std.proofs.Common.{sym, ◌∙◌}
use Rattle.pac_tokens.proofs.Quoted.{closed}
use Rattle.pac_tokens.proofs.text.text.Goals as goal

pub unescape-requires : goal.unescape-requires
unescape-requires c = (closed c.args.after.now c.in-Some.closing (sym c.closing.ensures.closing ∙ c.in-Some.is)).printable
