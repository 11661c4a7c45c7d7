-- An int at the start is the next token.
use Rattle.std.proofs.Common.{SFits, w64, sym, ◌∙◌, arith, rules}
use Rattle.std.proofs.lemmas.Int.{to_z-of_z}
use Rattle.pac_tokens.specs.declared.token.Token.TheVariants.{Int}
use Rattle.pac_tokens.proofs.PrefixLemmas.{int_next, preceding_within}
use Rattle.pac_tokens.proofs.prefix.leading_int.Goals as goal

pub returns-clause-int : goal.returns-clause-int
returns-clause-int c =
    let fits : SFits w64 c.in_ok-number.number = search rules in
    simp to_z-of_z (int_next c.args.bytes.now (Int c.in_ok-number.number) c.in_ok-number.len (omega (arith, c.in-len1-up.len_at_least)) (sym c.is_digit_byte.ensures ∙ c.if-not-is_digit_byte.false) (sym c.in_ok-number.ensures))

pub returns-clause-within : goal.returns-clause-within
returns-clause-within c =
    preceding_within c.args.bytes.now (Int c.in_ok-number.number) c.in_ok-number.len
    (int_next c.args.bytes.now (Int c.in_ok-number.number) c.in_ok-number.len (omega (arith, c.in-len1-up.len_at_least)) (sym c.is_digit_byte.ensures ∙ c.if-not-is_digit_byte.false) (sym c.in_ok-number.ensures))
