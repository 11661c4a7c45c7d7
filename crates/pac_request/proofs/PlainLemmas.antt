-- What is read from the bytes of a line that is a call, one token after another.
use Rattle.std.proofs.Common.{◌≡◌, ℕ, ◌+◌, ◌≤◌, Bool, true, false, List, [], ◌∷◌, ◌++◌, length, drop, Option, Some, None, Ok, refl, sym, ap, subst, ◌∙◌, append_assoc, length-append, arith}
use Rattle.std.proofs.lemmas.List.{append-nil, drop_all, length-map}
use Rattle.std.specs.Borrow.{Bor}
use Rattle.std.specs.Prelude.{IfSome, IsTrue}
use Rattle.std.proofs.lemmas.Bool.{eq-eqb}
use Rattle.std.specs.List.{list_all}
use Rattle.pac_value.specs.declared.values.Ty.{Ty}
use Rattle.pac_value.specs.declared.values.Value.{Value}
use Rattle.pac_value.specs.declared.values.Value.TheVariants as value
use Rattle.pac_value.specs.Values.{type_of, is_stored}
use Rattle.pac_tokens.specs.declared.token.Token.{Token}
use Rattle.pac_tokens.specs.declared.token.Token.TheVariants as token
use Rattle.pac_tokens.specs.declared.token.Symbol.TheVariants as symbol
use Rattle.pac_tokens.specs.declared.lexer.Before.{Before}
use Rattle.pac_tokens.specs.declared.lexer.Before.TheVariants.{Value as AfterValue, Other}
use Rattle.pac_tokens.specs.Tokens.{gap, after, is_literal_minus, IsNext, IsPlainNext}
use Rattle.pac_tokens.specs.Literal.{literal_token}
use Rattle.pac_tokens.proofs.PrefixLemmas.{open_next, close_next, comma_next}
use Rattle.pac_syntax.specs.declared.tree.NameNode.{NameNode}
use Rattle.pac_types.specs.WellFormed.{types}
use Rattle.pac_types.specs.Typing.{CatalogueState}
use Rattle.pac_types.specs.declared.procedure.Proc.{Proc}
use Rattle.pac_request.specs.declared.node.PlacedLiteral.{PlacedLiteral}
use Rattle.pac_request.specs.declared.node.LineNode.TheVariants as line
use Rattle.pac_request.specs.declared.node.Verb.TheVariants as verb
use Rattle.pac_request.specs.declared.request.Request.{Request}
use Rattle.pac_request.specs.declared.request.Request.TheVariants as request
use Rattle.pac_request.specs.declared.fault.LineFaultKind.TheVariants.{Expected}
use Rattle.pac_request.specs.LineKinds.{line_fault}
use Rattle.pac_request.specs.LineReading.{LineSays}
use Rattle.pac_request.specs.RequestFits.{AskedFits}
use Rattle.pac_request.specs.ScriptLines.{ScriptLineSays}
use Rattle.pac_request.specs.LineForms.{verb_word}
use Rattle.pac_request.specs.LineSteps.{LineSteps, LineEnds, ThisSymbol, SomeLiteral, MoreLiterals, AllArguments, verb_steps, steps_after, said_at_end, line_run, tokens_read}
use Rattle.pac_request.specs.RequestMeaning.{value_of, proc_at, asked_values, asked_call, request_of_tokens}
use Rattle.pac_request.specs.PlainCalls.{LineGoesOn, LineReadsTo, IsCalled, arguments_after, argument_at, is_none, TakesLiteral, IsLiteralRead, IsEndRead, LineEndsWith, HasArguments, AsksPlainly}
use Rattle.pac_request.proofs.LineOnce.{short_says, in_place_says}
use Rattle.pac_request.proofs.RequestFitLemmas.{asked_fits}
use Rattle.pac_request.proofs.MeaningLemmas.{preceding, values_on, values_done, values_fit}

-- ---- one token

read_on : (text : List ℕ) (before : Before) (at : ℕ) (bytes : List ℕ) (k next : LineSteps) (t : Token) (len : ℕ) → LineGoesOn text before at bytes k → IsNext before (drop (gap bytes) bytes) t len
    → steps_after k (record { token = t; at = at + gap bytes }) ≡ Some next → LineGoesOn text (after before t) (at + gap bytes + len) (drop len (drop (gap bytes) bytes)) next
unfolding line_run
read_on text before at bytes k next t len on is_next following = λ ts lexed.
    let all = on (record { token = t; at = at + gap bytes } ∷ ts) (len, is_next, refl, lexed) in
    record { tokens = all.tokens; lexed = all.lexed; in_place = all.in_place; says = λ end. all.says end ∙ rw following refl }

-- where a token stands, and what is read on from after it
record After (text rest : List ℕ) (next : ℕ → LineSteps) : Type 0 where
  offset : ℕ
  left : LineReadsTo text rest (next offset)

-- the token here, after white space and comments, is read by its step
after_token : (text bytes here rest : List ℕ) (k : LineSteps) (next : ℕ → LineSteps) (t : Token) (len : ℕ) → LineReadsTo text bytes k → here ≡ drop (gap bytes) bytes → IsPlainNext here t len → rest ≡ drop len here
    → ((before : Before) → is_literal_minus (after before t) ≡ false) → ((at : ℕ) → steps_after k (record { token = t; at = at }) ≡ Some (next at)) → After text rest next
after_token text bytes here rest k next t len from is prefix is_rest other steps = record {
  offset = from.at + gap bytes;
  left = record {
    before = after from.before t;
    other = other from.before;
    at = from.at + gap bytes + len;
    on = rw (is_rest, is) (read_on text from.before from.at bytes k (next (from.at + gap bytes)) t len from.on (rw is at prefix from.before from.other) (steps (from.at + gap bytes)));
  };
}

-- ---- the procedure

call_read : (text here w rest : List ℕ) (len : ℕ) → here ≡ drop (gap text) text → IsPlainNext here (token.Name w) len → w ≡ verb_word verb.Call → rest ≡ drop len here → LineReadsTo text rest (verb_steps verb.Call)
unfolding line_run steps_after
call_read text here w rest len is prefix word is_rest = record {
  before = AfterValue;
  other = refl;
  at = 0 + gap text + len;
  on = rw (is_rest, is) (λ ts lexed. record {
    tokens = record { token = token.Name w; at = 0 + gap text } ∷ ts;
    lexed = (len, rw is at prefix Other refl, refl, lexed);
    in_place = rw word refl;
    says = λ end. rw word refl;
  });
}

pub is_called : (catalogue : CatalogueState) (text first w following second name after_name here rest : List ℕ) (len size : ℕ) (number : ℕ) (proc : Proc)
    → first ≡ drop (gap text) text → IsPlainNext first (token.Name w) len → w ≡ verb_word verb.Call → following ≡ drop len first
    → second ≡ drop (gap following) following → IsPlainNext second (token.Name name) size → after_name ≡ drop size second
    → ((node : NameNode) → node.name ≡ name → proc_at catalogue.procs node ≡ Ok (number, proc))
    → here ≡ drop (gap after_name) after_name → here ≡ 40 ∷ rest → IsCalled catalogue text number proc rest
unfolding steps_after
is_called catalogue text first w following second name after_name here rest len size number proc is_first prefix word is_after is_second named is_after_name proc_is is_here opens =
    let verb_read = call_read text first w following len is_first prefix word is_after in
    let name_read = after_token text following second after_name (verb_steps verb.Call) (λ at. ThisSymbol symbol.OpenParen (AllArguments (λ args. LineEnds (line.Call (record { at = at; name = name }) args)))) (token.Name name) size
    verb_read is_second named is_after_name (λ before. refl) (λ at. refl) in
    let open_read = after_token text after_name here rest (ThisSymbol symbol.OpenParen (AllArguments (λ args. LineEnds (line.Call (record { at = name_read.offset; name = name }) args))))
    (λ at. AllArguments (λ args. LineEnds (line.Call (record { at = name_read.offset; name = name }) args))) (token.Symbol symbol.OpenParen) 1
    name_read.left is_here (rw opens (open_next rest)) (rw opens refl) (λ before. refl) (λ at. refl) in
    record { name = record { at = name_read.offset; name = name }; is = proc_is (record { at = name_read.offset; name = name }) refl; left = open_read.left }

-- ---- the arguments

pub first_argument : (bytes : List ℕ) → TakesLiteral true bytes bytes
first_argument bytes = λ text ls k first from. by text ls k first from
  where
    by : (text : List ℕ) (ls : List PlacedLiteral) (k : List PlacedLiteral → LineSteps) → true ≡ is_none ls → LineReadsTo text bytes (arguments_after ls k) → LineReadsTo text bytes (argument_at ls k)
    by text [] k first from = from
    by text (l ∷ ls) k first from = absurd cc

pub next_argument : (bytes here rest : List ℕ) → here ≡ drop (gap bytes) bytes → here ≡ 44 ∷ rest → TakesLiteral false bytes rest
unfolding steps_after
next_argument bytes here rest is comma = λ text ls k first from. by text ls k first from
  where
    by : (text : List ℕ) (ls : List PlacedLiteral) (k : List PlacedLiteral → LineSteps) → false ≡ is_none ls → LineReadsTo text bytes (arguments_after ls k) → LineReadsTo text rest (argument_at ls k)
    by text [] k first from = absurd cc
    by text (l ∷ ls) k first from =
        (after_token text bytes here rest (MoreLiterals (l ∷ ls) k) (λ at. SomeLiteral (λ x. MoreLiterals ((l ∷ ls) ++ (x ∷ [])) k)) (token.Symbol symbol.Comma) 1
        from is (rw comma (comma_next rest)) (rw comma refl) (λ before. refl) (λ at. refl)).left

pub next_taken : (is_first : Bool) (bytes here : List ℕ) (found : Option (Bor (List ℕ))) → is_first ≡ false → here ≡ drop (gap bytes) bytes → IfSome found (λ rest. here ≡ 44 ∷ rest.now) → IfSome found (λ rest. TakesLiteral is_first bytes rest.now)
next_taken is_first bytes here (Some rest) later is comma = rw later (next_argument bytes here rest.now is comma)
next_taken is_first bytes here None later is comma = tt

pub argument_read : (bytes here rest : List ℕ) (v : Value) (len : ℕ) → here ≡ drop (gap bytes) bytes → IsPlainNext here (literal_token v) len → rest ≡ drop len here → IsLiteralRead bytes v rest
unfolding steps_after
argument_read bytes here rest v len is prefix is_rest = λ text ls k from.
    let read = after_token text bytes here rest (argument_at ls k) (λ at. MoreLiterals (ls ++ (record { at = at; value = v } ∷ [])) k) (literal_token v) len from is prefix is_rest (plain v) (step v ls k) in
    record { offset = read.offset; left = read.left }
  where
    plain : (v : Value) (before : Before) → is_literal_minus (after before (literal_token v)) ≡ false
    plain (value.Int z) before = refl
    plain (value.Text x) before = refl
    plain (value.Bool true) before = refl
    plain (value.Bool false) before = refl

    step : (v : Value) (ls : List PlacedLiteral) (k : List PlacedLiteral → LineSteps) (at : ℕ) → steps_after (argument_at ls k) (record { token = literal_token v; at = at }) ≡ Some (MoreLiterals (ls ++ (record { at = at; value = v } ∷ [])) k)
    step (value.Int z) [] k at = refl
    step (value.Int z) (l ∷ ls) k at = refl
    step (value.Text x) [] k at = refl
    step (value.Text x) (l ∷ ls) k at = refl
    step (value.Bool true) [] k at = refl
    step (value.Bool true) (l ∷ ls) k at = refl
    step (value.Bool false) [] k at = refl
    step (value.Bool false) (l ∷ ls) k at = refl

pub end_read : (bytes here rest : List ℕ) → here ≡ drop (gap bytes) bytes → here ≡ 41 ∷ rest → gap rest ≡ length rest → IsEndRead bytes
unfolding steps_after
end_read bytes here rest is close all = λ text ls k from.
    let read = after_token text bytes here rest (arguments_after ls k) (λ at. k ls) (token.Symbol symbol.CloseParen) 1 from is (rw close (close_next rest)) (rw close refl) (λ before. refl) (step ls k) in
    read.left.on [] (rw (all, drop_all (length rest) rest (omega arith)) refl)
  where
    step : (ls : List PlacedLiteral) (k : List PlacedLiteral → LineSteps) (at : ℕ) → steps_after (arguments_after ls k) (record { token = token.Symbol symbol.CloseParen; at = at }) ≡ Some (k ls)
    step [] k at = refl
    step (l ∷ ls) k at = refl

-- ---- the arguments so far

-- These values are those of arguments that were read up to the rest; others of these types, after them, give the whole.
pub record ReadSoFar (text rest : List ℕ) (k : List PlacedLiteral → LineSteps) (is_first : Bool) (tys left : List Ty) (vs : List Value) : Type 0 where
  pub literals : List PlacedLiteral
  pub first : is_first ≡ is_none literals
  pub many : length tys ≡ length literals + length left
  pub read : LineReadsTo text rest (arguments_after literals k)
  pub values : (more : List PlacedLiteral) → preceding vs (asked_values left more) ≡ asked_values tys (literals ++ more)

-- the same of each line and of all that may come after it
abbrev pub SoFar : List ℕ → List ℕ → Bool → List Ty → List Ty → List Value → Type 0
SoFar bytes rest is_first tys left vs = (text : List ℕ) (k : List PlacedLiteral → LineSteps) → LineReadsTo text bytes (AllArguments k) → ReadSoFar text rest k is_first tys left vs

pub one_more : (bytes rest here following : List ℕ) (is_first : Bool) (wanted : Ty) (tys left more : List Ty) (vs ws : List Value) (v : Value) → left ≡ wanted ∷ more → TakesLiteral is_first rest here → IsLiteralRead here v following
    → value_of wanted v ≡ Some v → ws ≡ vs ++ (v ∷ []) → SoFar bytes rest is_first tys left vs → SoFar bytes following false tys more ws
one_more bytes rest here following is_first wanted tys left more vs ws v is takes reads typed pushed so_far = λ text k from.
    let h = so_far text k from in
    let r = reads text h.literals k (takes text h.literals k h.first h.read) in
    let l : PlacedLiteral = record { at = r.offset; value = v } in
    record {
      literals = h.literals ++ (l ∷ []);
      first = some h.literals l;
      many = omega (arith, h.many, ap length is, length-append h.literals (l ∷ []));
      read = subst (λ (x : LineSteps). LineReadsTo text following x) (steps h.literals l k) r.left;
      values = λ later. values_on vs ws wanted more left l later (l ∷ later) v (asked_values tys ((h.literals ++ (l ∷ [])) ++ later)) is refl pushed (rw typed refl) (h.values (l ∷ later) ∙ ap (asked_values tys) (sym (append_assoc h.literals (l ∷ []) later)));
    }
  where
    some : (ls : List PlacedLiteral) (l : PlacedLiteral) → false ≡ is_none (ls ++ (l ∷ []))
    some [] l = refl
    some (x ∷ ls) l = refl

    steps : (ls : List PlacedLiteral) (l : PlacedLiteral) (k : List PlacedLiteral → LineSteps) → MoreLiterals (ls ++ (l ∷ [])) k ≡ arguments_after (ls ++ (l ∷ [])) k
    steps [] l k = refl
    steps (x ∷ ls) l k = refl

pub all_read : (bytes rest : List ℕ) (is_first : Bool) (tys left : List Ty) (vs : List Value) → left ≡ [] → IsEndRead rest → SoFar bytes rest is_first tys left vs
    → (text : List ℕ) (k : List PlacedLiteral → LineSteps) → LineReadsTo text bytes (AllArguments k) → LineEndsWith text k tys vs
unfolding asked_values
all_read bytes rest is_first tys left vs none ends so_far text k from =
    let h = so_far text k from in
    record {
      literals = h.literals;
      many = omega (arith, h.many, ap length none);
      values = ap (asked_values tys) (sym (append-nil h.literals)) ∙ values_done vs (asked_values left []) (asked_values tys (h.literals ++ [])) (rw none refl) (h.values []);
      says = ends text h.literals k h.read;
    }

-- ---- the call

-- the literals of a call, and what the line's tokens say
abbrev ended : (catalogue : CatalogueState) (text : List ℕ) (number : ℕ) (proc : Proc) (rest : List ℕ) (vs : List Value) (called : IsCalled catalogue text number proc rest) → HasArguments (types proc.params) rest vs
    → LineEndsWith text (λ args. LineEnds (line.Call called.name args)) (types proc.params) vs
ended catalogue text number proc rest vs called has = has text (λ args. LineEnds (line.Call called.name args)) called.left

pub args_fit : (catalogue : CatalogueState) (text : List ℕ) (number : ℕ) (proc : Proc) (rest : List ℕ) (vs : List Value) → IsCalled catalogue text number proc rest → HasArguments (types proc.params) rest vs → length proc.params ≤ 16
    → (length vs ≤ 16) × IsTrue (list_all is_stored vs)
args_fit catalogue text number proc rest vs called has few =
    let args = ended catalogue text number proc rest vs called has in
    let all = values_fit (types proc.params) args.literals vs args.many args.values in
    (omega (arith, few, sym (length-map vs type_of) ∙ ap (λ (x : List Ty). length x) all.are ∙ length-map proc.params (λ column. column.ty)), all.stored)

pub call_asked : (catalogue : CatalogueState) (text : List ℕ) (number : ℕ) (proc : Proc) (rest : List ℕ) (vs : List Value) → IsCalled catalogue text number proc rest → HasArguments (types proc.params) rest vs
    → AsksPlainly catalogue text (request.Call (record { proc = number; args = vs }))
unfolding asked_call line_run said_at_end
call_asked catalogue text number proc rest vs called has =
    let args = ended catalogue text number proc rest vs called has in
    record {
      node = line.Call called.name args.literals;
      says = args.says;
      asks = rw (called.is, eq-eqb (length (types proc.params)) (length args.literals) args.many, args.values) refl;
    }

-- ---- the line

-- what the line's tokens ask is this
reported : (catalogue : CatalogueState) (text : List ℕ) (asks : Request) (h : AsksPlainly catalogue text asks) → request_of_tokens catalogue (tokens_read (length text) h.says.tokens None) ≡ Ok (Some asks)
reported catalogue text asks h = rw (h.says.says (line_fault Expected (length text)), h.asks) refl

pub plain_says : (catalogue : CatalogueState) (text : List ℕ) (asks : Request) → length text ≤ 4096 → AsksPlainly catalogue text asks → LineSays catalogue text (Ok (Some asks))
plain_says catalogue text asks short h = short_says catalogue text h.says.tokens None (Ok (Some asks)) short h.says.lexed (reported catalogue text asks h)

pub plain_says_in_script : (catalogue : CatalogueState) (text : List ℕ) (asks : Request) → length text ≤ 4096 → AsksPlainly catalogue text asks → ScriptLineSays catalogue text (Ok (Some asks))
plain_says_in_script catalogue text asks short h = in_place_says catalogue text h.says.tokens None (Ok (Some asks)) short h.says.lexed (sym h.says.in_place) (reported catalogue text asks h)

pub plain_fits : (catalogue : CatalogueState) (text : List ℕ) (asks : Request) → AsksPlainly catalogue text asks → AskedFits catalogue (Some asks)
plain_fits catalogue text asks h = asked_fits catalogue h.node (Some asks) h.asks
