use Rattle.std.proofs.Common.{◌≡◌, sym, ap, ◌∙◌, arith, nat_eq, true, false}
use Rattle.std.specs.Cmp.Lexicographic.{pointwise}
use Rattle.pac_tokens.specs.Spelling.{keyword_spelling}
use Rattle.pac_tokens.proofs.Candidates.{short_word, no_candidate, candidate_spelled, candidate_other}
use Rattle.pac_tokens.proofs.lexer.find_keyword.Goals as goal

pub returns-in_default : goal.returns-in_default
returns-in_default c = sym (short_word c.args.word.now (omega arith))

pub returns-in_default-keyword_like : goal.returns-in_default-keyword_like
returns-in_default-keyword_like c = sym (no_candidate c.args.word.now (sym c.keyword_like.ensures ∙ c.in_default-keyword_like.is))

pub returns-then-eq : goal.returns-then-eq
returns-then-eq c =
    let same : pointwise nat_eq (keyword_spelling c.in-Some.keyword) c.args.word.now ≡ true = ap (λ s. pointwise nat_eq s c.args.word.now) (sym c.spelling.ensures) ∙ sym c.eq.ensures ∙ c.if-eq.true in
    sym (candidate_spelled c.args.word.now c.in-Some.keyword same)

pub returns-else-eq : goal.returns-else-eq
returns-else-eq c =
    let other : pointwise nat_eq (keyword_spelling c.in-Some.keyword) c.args.word.now ≡ false = ap (λ s. pointwise nat_eq s c.args.word.now) (sym c.spelling.ensures) ∙ sym c.eq.ensures ∙ c.if-eq.false in
    sym (candidate_other c.args.word.now c.in-Some.keyword (sym c.keyword_like.ensures ∙ c.in-Some.is) other)
