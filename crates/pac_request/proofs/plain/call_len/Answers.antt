-- A word of these bytes is `call`.
use Rattle.std.proofs.Common.{List, ℕ, take, sym, subst, ◌∙◌}
use Rattle.std.proofs.lemmas.Bool.{not-false}
use Rattle.pac_tokens.specs.Tokens.{IsPlainNext}
use Rattle.pac_tokens.specs.declared.token.Token.TheVariants as token
use Rattle.pac_tokens.proofs.Spelled.{same_bytes}
use Rattle.pac_request.proofs.CallWord.{call_next}
use Rattle.pac_request.proofs.plain.call_len.Goals as goal

pub returns-clause-call : goal.returns-clause-call
returns-clause-call c =
    let len = c.in_ok-len.len in
    let word = same_bytes (take len c.args.bytes.now) c.word.result.now (not-false _ (sym c.ne.ensures ∙ c.if-ne.false)) ∙ c.word.ensures in
    subst (λ (w : List ℕ). IsPlainNext c.args.bytes.now (token.Name w) len) word c.in_ok-len.ensures.name

pub returns-then-begins_call-clause-call : goal.returns-then-begins_call-clause-call
returns-then-begins_call-clause-call c = call_next c.args.bytes.now (sym c.begins_call.ensures ∙ c.if-begins_call.true)
