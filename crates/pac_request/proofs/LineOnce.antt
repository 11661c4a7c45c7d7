-- A line says one thing, and so it does in a script: what its tokens are read as, and what that asks.
use Rattle.std.proofs.Common.{◌≡◌, ◌≤◌, ℕ, List, length, inl, inr, Option, Some, None, Result, Ok, Err, refl, sym, ap, subst, ◌∙◌, arith}
use Rattle.pac_base.specs.Refusals.{Reports}
use Rattle.pac_base.specs.declared.refusal.Refusal.{Refusal}
use Rattle.pac_base.specs.declared.refusal.Refusal.TheVariants as error
use Rattle.pac_tokens.specs.declared.token.Spanned.{Spanned}
use Rattle.pac_tokens.specs.declared.fault.Fault.{Fault}
use Rattle.pac_tokens.specs.Tokens.{IsLexed}
use Rattle.pac_tokens.proofs.LexedOnce.{same_tokens, same_fault}
use Rattle.pac_types.specs.Typing.{CatalogueState}
use Rattle.pac_request.specs.declared.fault.LineFault.{LineFault}
use Rattle.pac_request.specs.declared.fault.LineFaultKind.TheVariants.{NotHere}
use Rattle.pac_request.specs.declared.node.LineNode.{LineNode}
use Rattle.pac_request.specs.declared.request.Request.{Request}
use Rattle.pac_request.specs.Answers.{AnswersBy}
use Rattle.pac_request.specs.LineKinds.{line_fault}
use Rattle.pac_request.specs.LineReading.{LineAnswer, TokensAsk, LineSays}
use Rattle.pac_request.specs.LineSteps.{tokens_read}
use Rattle.pac_request.specs.RequestMeaning.{request_of_tokens}
use Rattle.pac_request.specs.ScriptLines.{out_of_place, IsOutOfPlace, IsInPlace, ScriptLineSays}
use Rattle.pac_request.proofs.LineMeets.{tokens_reported, tokens_once}

-- ---- answers

-- what is meant is reported, unless there was no memory
answered : {X F : Type 0} (P : Result X F → Type 0) (meant : Result X F) (result : Result X (Refusal F)) → P meant → Reports (λ said. said) result meant → AnswersBy P result
answered P meant (Ok said) h e = subst P e h
answered P meant (Err (error.Fault fault)) h e = subst P e h
answered P meant (Err error.NoMemory) h e = tt

-- where one thing is meant, it is what is reported
pub only_answer : {X F : Type 0} (P : Result X F → Type 0) (meant : Result X F) (result : Result X (Refusal F)) → ((a b : Result X F) → P a → P b → a ≡ b) → AnswersBy P result → P meant
    → Reports (λ said. said) result meant
only_answer P meant (Ok said) one h is = one meant (Ok said) is h
only_answer P meant (Err (error.Fault fault)) one h is = one meant (Err fault) is h
only_answer P meant (Err error.NoMemory) one h is = tt

-- ---- what tokens ask

abbrev Answered : Type 0
Answered = Result (Option Request) (Refusal LineFault)

-- what these tokens ask
abbrev tokens_ask : CatalogueState → ℕ → List Spanned → Option Fault → LineAnswer
tokens_ask catalogue end ts lexical = request_of_tokens catalogue (tokens_read end ts lexical)

tokens_say : (catalogue : CatalogueState) (line : List ℕ) (ts : List Spanned) (lexical : Option Fault) → length line ≤ 4096 → IsLexed line ts lexical → TokensAsk catalogue line (tokens_ask catalogue (length line) ts lexical)
tokens_say catalogue line ts lexical short lexed = record {
  tokens = ts;
  lexical = lexical;
  are = record { short = short; lexed = lexed };
  said = tokens_read (length line) ts lexical;
  read = tokens_reported (length line) ts lexical;
  answers = refl;
}

-- what the tokens of a line ask is what the reading gives
asked_once : (catalogue : CatalogueState) (line : List ℕ) (ts : List Spanned) (lexical : Option Fault) (answer : LineAnswer) → IsLexed line ts lexical → TokensAsk catalogue line answer
    → answer ≡ tokens_ask catalogue (length line) ts lexical
asked_once catalogue line ts lexical answer lexed a =
    let same : a.tokens ≡ ts = same_tokens line a.tokens ts a.lexical lexical a.are.lexed lexed in
    let ended : a.lexical ≡ lexical = same_fault line a.tokens ts a.lexical lexical a.are.lexed lexed in
    a.answers ∙ ap (λ (r : Result LineNode LineFault). request_of_tokens catalogue r) (tokens_once (length line) a.tokens a.lexical a.said a.read)
    ∙ rw (same, ended) refl

tokens_ask_once : (catalogue : CatalogueState) (line : List ℕ) (a b : LineAnswer) → TokensAsk catalogue line a → TokensAsk catalogue line b → a ≡ b
tokens_ask_once catalogue line a b h k = asked_once catalogue line k.tokens k.lexical a k.are.lexed h ∙ sym (asked_once catalogue line k.tokens k.lexical b k.are.lexed k)

-- ---- lines

pub line_once : (catalogue : CatalogueState) (line : List ℕ) (a b : LineAnswer) → LineSays catalogue line a → LineSays catalogue line b → a ≡ b
line_once catalogue line a b (inl h) (inl k) = h.1 ∙ sym k.1
line_once catalogue line a b (inl h) (inr k) = absurd (omega (arith, h.0, k.are.short))
line_once catalogue line a b (inr h) (inl k) = absurd (omega (arith, k.0, h.are.short))
line_once catalogue line a b (inr h) (inr k) = tokens_ask_once catalogue line a b h k

pub short_says : (catalogue : CatalogueState) (line : List ℕ) (ts : List Spanned) (lexical : Option Fault) (result : Answered) → length line ≤ 4096 → IsLexed line ts lexical
    → Reports (λ said. said) result (tokens_ask catalogue (length line) ts lexical) → AnswersBy (LineSays catalogue line) result
short_says catalogue line ts lexical result short lexed e =
    answered (LineSays catalogue line) (tokens_ask catalogue (length line) ts lexical) result (inr (tokens_say catalogue line ts lexical short lexed)) e

-- ---- lines of a script

abbrev not_here : ℕ → LineAnswer
not_here at = Err (line_fault NotHere at)

abbrev offset : List Spanned → Option ℕ
offset ts = out_of_place ts

offset_once : (line : List ℕ) (i j : ℕ) → IsOutOfPlace line i → IsOutOfPlace line j → i ≡ j
offset_once line i j a b =
    let same : a.tokens ≡ b.tokens = same_tokens line a.tokens b.tokens a.lexical b.lexical a.are.lexed b.are.lexed in
    let both : ◌≡◌ {A = Option ℕ} (Some i) (Some j) = sym a.first ∙ ap offset same ∙ b.first in
    cc

in_place : (line : List ℕ) (ts : List Spanned) (lexical : Option Fault) → IsLexed line ts lexical → None ≡ out_of_place ts → IsInPlace line
in_place line ts lexical lexed none at out =
    let same : out.tokens ≡ ts = same_tokens line out.tokens ts out.lexical lexical out.are.lexed lexed in
    let both : ◌≡◌ {A = Option ℕ} (Some at) None = sym out.first ∙ ap offset same ∙ sym none in
    absurd cc

pub script_line_once : (catalogue : CatalogueState) (line : List ℕ) (a b : LineAnswer) → ScriptLineSays catalogue line a → ScriptLineSays catalogue line b → a ≡ b
script_line_once catalogue line a b (inl h) (inl k) = h.1 ∙ sym k.1
script_line_once catalogue line a b (inl h) (inr (inl k)) = absurd (omega (arith, h.0, k.1.are.short))
script_line_once catalogue line a b (inl h) (inr (inr k)) = absurd (omega (arith, h.0, k.1.are.short))
script_line_once catalogue line a b (inr (inl h)) (inl k) = absurd (omega (arith, k.0, h.1.are.short))
script_line_once catalogue line a b (inr (inl h)) (inr (inl k)) = h.2 ∙ ap not_here (offset_once line h.0 k.0 h.1 k.1) ∙ sym k.2
script_line_once catalogue line a b (inr (inl h)) (inr (inr k)) = absurd (k.0 h.0 h.1)
script_line_once catalogue line a b (inr (inr h)) (inl k) = absurd (omega (arith, k.0, h.1.are.short))
script_line_once catalogue line a b (inr (inr h)) (inr (inl k)) = absurd (h.0 k.0 k.1)
script_line_once catalogue line a b (inr (inr h)) (inr (inr k)) = tokens_ask_once catalogue line a b h.1 k.1

pub out_of_place_says : (catalogue : CatalogueState) (line : List ℕ) (ts : List Spanned) (lexical : Option Fault) (at : ℕ) → length line ≤ 4096 → IsLexed line ts lexical → Some at ≡ out_of_place ts
    → ScriptLineSays catalogue line (Err (line_fault NotHere at))
out_of_place_says catalogue line ts lexical at short lexed first = inr (inl (at, record { tokens = ts; lexical = lexical; are = record { short = short; lexed = lexed }; first = sym first }, refl))

pub in_place_says : (catalogue : CatalogueState) (line : List ℕ) (ts : List Spanned) (lexical : Option Fault) (result : Answered) → length line ≤ 4096 → IsLexed line ts lexical → None ≡ out_of_place ts
    → Reports (λ said. said) result (tokens_ask catalogue (length line) ts lexical) → AnswersBy (ScriptLineSays catalogue line) result
in_place_says catalogue line ts lexical result short lexed none e =
    answered (ScriptLineSays catalogue line) (tokens_ask catalogue (length line) ts lexical) result (inr (inr (in_place line ts lexical lexed none, tokens_say catalogue line ts lexical short lexed))) e
