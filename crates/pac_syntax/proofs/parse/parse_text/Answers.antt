use Rattle.std.proofs.Common.{◌≡◌, ◌∙◌, ◌≤◌, Option, Some, sym, subst, ap, List, length, arith, inr}
use Rattle.std.proofs.lemmas.Result.{IfOk-weaker}
use Rattle.pac_tokens.specs.declared.token.Spanned.{Spanned}
use Rattle.pac_syntax.specs.Faults.{ReadsTokens}
use Rattle.pac_tokens.specs.declared.fault.Fault.{Fault}
use Rattle.pac_tokens.specs.Tokens.{IsLexed}
use Rattle.pac_syntax.proofs.TextFaults.{reports_first, error_is}
use Rattle.pac_tokens.proofs.LexedOnce.{same_tokens, same_fault, some_none}
use Rattle.pac_syntax.proofs.WithinLimits.{reads-within}
use Rattle.pac_syntax.proofs.parse.parse_text.Goals as goal

pub returns-in-None-clause-only : goal.returns-in-None-clause-only
returns-in-None-clause-only c = λ tree h.
    let lexed : h.tokens ≡ c.in_ok-lexed.lexed.items.items = sym (same_tokens c.args.text.now c.in_ok-lexed.lexed.items.items h.tokens _ _ c.in_ok-lexed.ensures.lexed h.lexed) in
    let same : h.tokens ≡ c.deref.result.now = lexed ∙ sym c.deref.ensures.value in
    c.parse_tokens.ensures.only tree (subst (λ (ts : List Spanned). ReadsTokens ts tree) same h.parsed)

pub returns-clause-only : goal.returns-clause-only
returns-clause-only c = λ tree h. absurd (some_none _ (sym c.in-Some.is ∙ same_fault c.args.text.now c.in_ok-lexed.lexed.items.items h.tokens _ _ c.in_ok-lexed.ensures.lexed h.lexed))

pub returns-in-None-clause-within : goal.returns-in-None-clause-within
returns-in-None-clause-within c =
    let short : length c.deref.result.now ≤ 65536 = omega (arith, ap length c.deref.ensures.value, c.in_ok-lexed.ensures.few, c.if-text-gt-MAX_CATALOGUE.false) in
    IfOk-weaker c.parse_tokens.result _ _ (λ tree reads. reads-within c.deref.result.now tree short reads) c.parse_tokens.ensures.reads

pub returns-clause-fault : goal.returns-clause-fault
returns-clause-fault c = λ fault e.
    let short : length c.args.text.now ≤ 65536 = omega (arith, c.if-text-gt-MAX_CATALOGUE.false) in
    let lexed : IsLexed c.args.text.now c.in_ok-lexed.lexed.items.items (Some c.in-Some.fault) = subst (λ (f : Option Fault). IsLexed c.args.text.now c.in_ok-lexed.lexed.items.items f) c.in-Some.is c.in_ok-lexed.ensures.lexed in
    let same : IsLexed c.args.text.now c.deref-in-Some.result.now (Some c.in-Some.fault) = subst (λ (ts : List Spanned). IsLexed c.args.text.now ts (Some c.in-Some.fault)) (sym c.deref-in-Some.ensures.value) lexed in
    let first = reports_first (length c.args.text.now) c.deref-in-Some.result.now c.in-Some.fault fault c.parse_tokens-parsed.result c.parse_tokens-parsed.ensures.reads c.parse_tokens-parsed.ensures.fault (sym c.earlier.ensures ∙ error_is c.earlier.result fault e) in
    inr (short, c.deref-in-Some.result.now, Some c.in-Some.fault, same, first)
