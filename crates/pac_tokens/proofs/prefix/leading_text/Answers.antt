-- A text at the start is the next token.
use Rattle.std.proofs.Common.{sym, subst, ◌∙◌, arith}
use Rattle.std.proofs.lemmas.List.{take_rest}
use Rattle.pac_tokens.specs.declared.token.Token.{Token}
use Rattle.pac_tokens.specs.Tokens.{IsPlainNext}
use Rattle.pac_tokens.proofs.PrefixLemmas.{text_next, preceding_within}
use Rattle.pac_tokens.proofs.prefix.leading_text.Goals as goal

pub returns-clause-text : goal.returns-clause-text
returns-clause-text c =
    let next = text_next c.args.bytes.now c.in-Ok.token c.in-Ok.len (omega (arith, c.in-len1-up.len_at_least)) c.if-first-ne34.false (sym c.in-Ok.is ∙ simp take_rest at c.text.ensures) in
    subst (λ (t : Token). IsPlainNext c.args.bytes.now t c.in-Ok.len) c.in_ok-text.ensures next

pub returns-clause-within : goal.returns-clause-within
returns-clause-within c =
    preceding_within c.args.bytes.now c.in-Ok.token c.in-Ok.len (text_next c.args.bytes.now c.in-Ok.token c.in-Ok.len (omega (arith, c.in-len1-up.len_at_least)) c.if-first-ne34.false (sym c.in-Ok.is ∙ simp take_rest at c.text.ensures))
