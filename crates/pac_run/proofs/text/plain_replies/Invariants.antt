use Rattle.std.proofs.Common.{take}
use Rattle.std.specs.List.{AllByRecursion}
use Rattle.pac_run.specs.Texts.{IsPlain}
use Rattle.pac_run.proofs.text.plain_replies.Given as goal

abbrev pub invariant-loop-reply : goal.invariant-loop-reply
invariant-loop-reply l = AllByRecursion IsPlain (take l.reply-index l.replies)
