use Rattle.std.proofs.Common.{◌≡◌, take, length, sym, ap, ◌∙◌, arith}
use Rattle.std.specs.List.{take_while}
use Rattle.std.proofs.lemmas.Grind.{common_steps}
use Rattle.pac_tokens.specs.Tokens.{is_name}
use Rattle.pac_tokens.proofs.PrefixLemmas.{name_next}
use Rattle.pac_tokens.proofs.prefix.leading_name.Goals as goal

pub returns-in-None-clause-name : goal.returns-in-None-clause-name
returns-in-None-clause-name c =
    let w = take c.word_len-len.result c.args.bytes.now in
    let same : take c.word_len-len.result c.args.bytes.now ≡ take_while is_name c.args.bytes.now = grind (arith, common_steps) in
    name_next c.args.bytes.now w c.word_len-len.result (omega (arith, c.in-len1-up.len_at_least)) (sym c.is_letter_byte.ensures ∙ c.if-not-is_letter_byte.false) same
    (c.word_len-len.ensures ∙ ap length (sym same)) c.if-len-gt-MAX.false (sym c.find_keyword.ensures ∙ c.in-None.is)
