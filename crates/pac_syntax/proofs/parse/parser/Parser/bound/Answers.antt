-- An int is a bound, and a text is none.
use Rattle.std.proofs.Common.{w64, SFits, refl, rules}
use Rattle.std.proofs.lemmas.Int.{to_z-of_z}
use Rattle.pac_syntax.proofs.Stepping.{bound_next, text_no_bound, no_bound}
use Rattle.pac_syntax.proofs.parse.parser.Parser.bound.Goals as goal

pub returns-in_default-clause-run : goal.returns-in_default-clause-run
returns-in_default-clause-run c = λ role limit k is.
    rw (c.refuse.ensures, c.takes_symbol-minus.ensures.end) (no_bound c.args.self.now.rest c.takes_symbol-minus.new.self.rest (λ rest. rest.now) _ role k _ c.in_default.ensures.prefix c.takes_symbol-minus.ensures.token)

pub returns-in_default-value : goal.returns-in_default-value
returns-in_default-value c = record {
  left = tt;
  run = λ role limit k is. rw c.refuse-in_default-value.ensures (text_no_bound _ role k _ _ _ c.in_default-value.not-Int c.in-Some.ensures.prefix);
}

pub returns-clause-run : goal.returns-clause-run
returns-clause-run c = λ role limit k is.
    let fits : SFits w64 c.in-Int.number = search rules in
    rw (to_z-of_z w64 c.in-Int.number fits) (bound_next _ _ role limit k _ _ _ is refl (rw c.in-Int.is at c.in-Some.ensures.prefix))
