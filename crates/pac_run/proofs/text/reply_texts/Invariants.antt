use Rattle.std.proofs.Common.{◌≡◌, take}
use Rattle.std.specs.List.{AllByRecursion}
use Rattle.pac_run.specs.Texts.{IsPlain, texts}
use Rattle.pac_run.proofs.text.reply_texts.Given as goal

abbrev pub invariant-loop-reply : goal.invariant-loop-reply
invariant-loop-reply l = record {
  text : l.text.items ≡ texts l.cat (take l.reply-index l.replies);
  plain : AllByRecursion IsPlain (take l.reply-index l.replies);
}
