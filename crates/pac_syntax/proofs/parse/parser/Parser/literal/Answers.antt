use Rattle.std.proofs.Common.{refl, sym}
use Rattle.pac_syntax.proofs.Stepping.{nothing_left, literal_before, bool_prefix, no_literal}
use Rattle.pac_syntax.proofs.parse.parser.Parser.literal.Goals as goal

pub returns-in_default-clause-run : goal.returns-in_default-clause-run
returns-in_default-clause-run c = λ k. rw (c.refuse.ensures) (nothing_left _ k _ c.in_default.ensures)

pub returns-in-Some-int_or_text-clause-run : goal.returns-in-Some-int_or_text-clause-run
returns-in-Some-int_or_text-clause-run c = λ k. literal_before _ _ _ k _ _ _ _ _ refl c.in-Some.ensures c.in-Some-int_or_text.ensures.prefix refl

pub returns-in-Some-bool_of-clause-run : goal.returns-in-Some-bool_of-clause-run
returns-in-Some-bool_of-clause-run c = λ k. bool_prefix _ _ _ k _ _ _ _ refl c.in-Some.ensures (sym c.in-Some-bool_of.ensures) refl

pub returns-clause-run : goal.returns-clause-run
returns-clause-run c = λ k. rw (c.refuse-2.ensures, c.takes_symbol-minus.ensures.end) (no_literal c.args.self.now.rest c.takes_symbol-minus.new.self.rest (λ rest. rest.now) _ k _ _ _ c.in-Some.ensures c.in_default-int_or_text.ensures.prefix (sym c.in_default-bool_of.ensures) c.takes_symbol-minus.ensures.token)
