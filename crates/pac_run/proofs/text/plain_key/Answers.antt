use Rattle.std.proofs.Common.{sym, subst}
use Rattle.pac_value.specs.declared.values.Key.{Key}
use Rattle.pac_value.specs.Literals.{key_text}
use Rattle.pac_lines.specs.Lines.{HasNoFeed}
use Rattle.pac_run.proofs.PlainLemmas.{quoted_no_feed}
use Rattle.pac_run.proofs.text.plain_key.Goals as goal

pub returns-in-Text : goal.returns-in-Text
returns-in-Text c = subst (λ (k : Key). HasNoFeed (key_text k)) (sym c.in-Text.is) (quoted_no_feed c.in-Text.text c.bytes-bytes.ensures.is_text.1)
