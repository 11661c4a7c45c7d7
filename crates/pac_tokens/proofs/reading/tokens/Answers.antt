-- A text has one list of tokens, and one first fault of a token.
use Rattle.std.proofs.Common.{◌≡◌, List, Option, Some, Result, Err, sym, ◌∙◌}
use Rattle.std.specs.Prelude.{IsErrOf}
use Rattle.pac_tokens.specs.declared.token.Spanned.{Spanned}
use Rattle.pac_tokens.specs.declared.fault.Fault.{Fault}
use Rattle.pac_base.specs.declared.refusal.Refusal.{Refusal}
use Rattle.pac_base.specs.declared.refusal.Refusal.TheVariants as error
use Rattle.pac_tokens.proofs.LexedOnce.{same_tokens, same_fault, some_none}
use Rattle.pac_tokens.proofs.Spelled.{some_is}
use Rattle.pac_tokens.proofs.reading.tokens.Goals as goal

pub returns-in-None-clause-only : goal.returns-in-None-clause-only
returns-in-None-clause-only c = λ ts h. c.listed.ensures ∙ same_tokens c.args.text.now c.in_ok-lexed.lexed.items.items ts _ _ c.in_ok-lexed.ensures.lexed h

pub returns-in-Some-clause-only : goal.returns-in-Some-clause-only
returns-in-Some-clause-only c = λ ts h. absurd (some_none _ (sym c.in-Some.is ∙ same_fault c.args.text.now c.in_ok-lexed.lexed.items.items ts _ _ c.in_ok-lexed.ensures.lexed h))

abbrev failed : Fault → Result (List Spanned) (Refusal Fault)
failed f = Err (error.Fault f)

reported_is : (f g : Fault) → IsErrOf (failed f) (error.Fault g) → f ≡ g
reported_is f g h = cc

pub returns-in-Some-clause-one : goal.returns-in-Some-clause-one
returns-in-Some-clause-one c = λ fault other ts reported lexed.
    let same : ◌≡◌ {A = Option Fault} (Some c.in-Some.fault) (Some other) = sym c.in-Some.is ∙ same_fault c.args.text.now c.in_ok-lexed.lexed.items.items ts _ _ c.in_ok-lexed.ensures.lexed lexed in
    sym (some_is {A = Fault} c.in-Some.fault other same) ∙ reported_is c.in-Some.fault fault reported
