-- The reads of one call, one after another, and what the call then answers.
use Rattle.std.proofs.Common.{◌≡◌, ◌⊎◌, ◌+◌, ℕ, Bool, true, false, ◌||◌, eqb, ltb, List, [], ◌∷◌, ◌++◌, length, Option, Some, None, Result, Ok, Err, refl, sym, ap, subst, ◌∙◌, append_assoc, append-nil, length-append, arith, inl, inr}
use Rattle.std.proofs.lemmas.Bool.{ltb-true, ltb-false}
use Rattle.std.proofs.lemmas.List.Folds.{list_any-append}
use Rattle.std.specs.Io.KnownBytes.{prepend_known}
use Rattle.pac_outside.specs.Content.{Gave, IsAtEnd}
use Rattle.pac_outside.proofs.ContentLemmas.{Gave-append}
use Rattle.pac_lines.specs.Lines.{HandsOut, has_feed, HasFeed, HasNoFeed, IsEndedLine, IsLastLine}
use Rattle.pac_lines.specs.Reading.{HasNoLine, ReaderState}
use Rattle.pac_lines.specs.Calls.{AnswersLine, Calls, IsCall, known, IsChunk, IsReadOn, Keeps}
use Rattle.pac_lines.specs.declared.line_error.LineError.{LineError}
use Rattle.pac_lines.specs.declared.line_error.LineError.TheVariants.{Failed, TooLong, NoMemory}

-- reads alone: what the source gave stands after what was ahead
pub record IsReading (before now : ReaderState) (left left' : Option (List ℕ)) : Type 0 where
  pub given : List ℕ
  pub gave : Gave left given left'
  pub read : (given ≡ []) ⊎ IsReadOn before.ahead given
  pub ahead : now.ahead ≡ before.ahead ++ given
  pub counted : now.taken ≡ before.taken + length given
  pub limit : now.limit ≡ before.limit

-- a read more, where no line feed was ahead
pub one_more_read : (before now next : ReaderState) (left mid left' : Option (List ℕ)) (count : ℕ) → IsReading before now left mid → HasNoFeed now.ahead → IsChunk now next mid left' count
    → IsReading before next left left'
one_more_read before now next left mid left' count reading none chunk = record {
  given = reading.given ++ chunk.given;
  gave = Gave-append left mid left' reading.given chunk.given reading.gave chunk.gave;
  read = inr (record { earlier = reading.given; last = chunk.given; split = refl; none = subst HasNoFeed reading.ahead none; chunk = chunk.chunk });
  ahead = ap (λ (s : ReaderState). s.ahead) chunk.grown ∙ ap (λ (l : List ℕ). l ++ chunk.given) reading.ahead ∙ append_assoc before.ahead reading.given chunk.given;
  counted = omega (arith, ap (λ (s : ReaderState). s.taken) chunk.grown, reading.counted, length-append reading.given chunk.given);
  limit = ap (λ (s : ReaderState). s.limit) chunk.grown ∙ reading.limit;
}

either_is : (a b : Bool) → (a || b) ≡ false → a ≡ true → ⊥
either_is true b none one = absurd cc
either_is false b none one = absurd cc

-- a line feed that was ahead before is ahead now
pub feed_stays : (before now : ReaderState) (left left' : Option (List ℕ)) → IsReading before now left left' → HasNoFeed now.ahead → HasFeed before.ahead → ⊥
feed_stays before now left left' reading none feed =
    either_is (has_feed before.ahead) (has_feed reading.given) (sym (list_any-append (λ b. eqb b 10) before.ahead reading.given) ∙ ap has_feed (sym reading.ahead) ∙ none) feed

-- ---- what is answered

pub answers_line : (before now : ReaderState) (left left' : Option (List ℕ)) (line ahead : List ℕ) → IsReading before now left left' → IsEndedLine now.ahead line ahead
    → IsCall before (record { line = line; ahead = ahead; taken = now.taken; limit = now.limit }) left left' (Ok true)
answers_line before now left left' line ahead reading first = record {
  given = reading.given;
  gave = reading.gave;
  counted = reading.counted;
  limit = reading.limit;
  read = reading.read;
  answer = inl (subst (λ (l : List ℕ). IsEndedLine l line ahead) reading.ahead first);
}

none_of : (xs : List ℕ) → length xs ≡ 0 → xs ≡ []
none_of [] e = refl
none_of (x ∷ xs) e = absurd (omega (arith, e))

rest_answer : (text : List ℕ) (taken limit : ℕ) (left : Option (List ℕ)) → HasNoFeed text → IsAtEnd left
    → AnswersLine text (record { line = text; ahead = []; taken = taken; limit = limit }) left (Ok (ltb 0 (length text)))
rest_answer text taken limit left none end = by (ltb 0 (length text)) refl
  where
    by : (some : Bool) → ltb 0 (length text) ≡ some → AnswersLine text (record { line = text; ahead = []; taken = taken; limit = limit }) left (Ok some)
    by true is = inr (record { none = none; some = λ e. let len : length text ≡ 0 = ap (λ (l : List ℕ). length l) e in omega (arith, len, ltb-true _ _ is); all = refl; end = refl }, end)
    by false is = let nothing : text ≡ [] = none_of text (omega (arith, ltb-false _ _ is)) in ((nothing, sym nothing), nothing, end)

pub answers_rest : (before now next : ReaderState) (left mid left' : Option (List ℕ)) (count : ℕ) → IsReading before now left mid → HasNoFeed now.ahead → IsChunk now next mid left' count → count ≡ 0
    → IsCall before (record { line = next.ahead; ahead = []; taken = next.taken; limit = next.limit }) left left' (Ok (ltb 0 (length next.ahead)))
answers_rest before now next left mid left' count reading none chunk zero =
    let more = one_more_read before now next left mid left' count reading none chunk in
    let nothing : chunk.given ≡ [] = none_of chunk.given (sym chunk.counted ∙ zero) in
    let same : next.ahead ≡ now.ahead = ap (λ (s : ReaderState). s.ahead) chunk.grown ∙ ap (λ (l : List ℕ). now.ahead ++ l) nothing ∙ append-nil now.ahead in record {
      given = more.given;
      gave = more.gave;
      counted = more.counted;
      limit = more.limit;
      read = more.read;
      answer = subst (λ (l : List ℕ). AnswersLine l (record { line = next.ahead; ahead = []; taken = next.taken; limit = next.limit }) left' (Ok (ltb 0 (length next.ahead)))) more.ahead
          (rest_answer next.ahead next.taken next.limit left' (subst HasNoFeed (sym same) none) (chunk.end zero));
    }

error_answer : (text : List ℕ) (now : ReaderState) (left : Option (List ℕ)) (error : LineError) → Keeps text now → (error ≡ Failed → HasNoFeed text) → (error ≡ TooLong → HasNoLine text) → AnswersLine text now left (Err error)
error_answer text now left Failed keeps none long = (keeps, none refl)
error_answer text now left TooLong keeps none long = (keeps, long refl)
error_answer text now left NoMemory keeps none long = keeps

pub answers_error : (before now : ReaderState) (left left' : Option (List ℕ)) (error : LineError) → IsReading before now left left' → (error ≡ Failed → HasNoFeed now.ahead) → (error ≡ TooLong → HasNoLine now.ahead)
    → IsCall before (record now { line = [] }) left left' (Err error)
answers_error before now left left' error reading none long = record {
  given = reading.given;
  gave = reading.gave;
  counted = reading.counted;
  limit = reading.limit;
  read = reading.read;
  answer = error_answer (before.ahead ++ reading.given) (record now { line = [] }) left' error (refl, reading.ahead) (λ e. subst HasNoFeed reading.ahead (none e)) (λ e. subst HasNoLine reading.ahead (long e));
}

-- ---- what is known of the source

known-gave : (ahead given : List ℕ) (left' : Option (List ℕ)) → prepend_known ahead (prepend_known given left') ≡ prepend_known (ahead ++ given) left'
known-gave ahead given None = refl
known-gave ahead given (Some rest) = ap Some (sym (append_assoc ahead given rest))

pub known_before : (before now : ReaderState) (left left' : Option (List ℕ)) (result : Result Bool LineError) (call : IsCall before now left left' result) → known before left ≡ prepend_known (before.ahead ++ call.given) left'
known_before before now left left' result call = ap (prepend_known before.ahead) call.gave ∙ known-gave before.ahead call.given left'

kept : (text : List ℕ) (now : ReaderState) (left : Option (List ℕ)) (error : LineError) → AnswersLine text now left (Err error) → now.ahead ≡ text
kept text now left Failed answer = answer.0.1
kept text now left TooLong answer = answer.0.1
kept text now left NoMemory answer = answer.1

pub nothing_lost : (before now : ReaderState) (left left' : Option (List ℕ)) (error : LineError) → IsCall before now left left' (Err error) → known now left' ≡ known before left
nothing_lost before now left left' error call =
    ap (λ (l : List ℕ). prepend_known l left') (kept (before.ahead ++ call.given) now left' error call.answer) ∙ sym (known_before before now left left' (Err error) call)

-- a line of what was taken is one of the text
line_of_text : (taken : List ℕ) (now : ReaderState) (left' : Option (List ℕ)) (text : List ℕ) → AnswersLine taken now left' (Ok true) → prepend_known taken left' ≡ Some text
    → (rest : List ℕ) × (known now left' ≡ Some rest) × (IsEndedLine text now.line rest ⊎ IsLastLine text now.line rest)
line_of_text taken now None text answer is = absurd cc
line_of_text taken now (Some rest) text answer is = (now.ahead ++ rest, refl, by answer)
  where
    all : taken ++ rest ≡ text
    all = cc

    by : AnswersLine taken now (Some rest) (Ok true) → IsEndedLine text now.line (now.ahead ++ rest) ⊎ IsLastLine text now.line (now.ahead ++ rest)
    by (inl first) = inl (record { none = first.none; split = sym all ∙ ap (λ (l : List ℕ). l ++ rest) first.split ∙ append_assoc now.line _ rest })
    by (inr last) = inr (record {
      none = last.0.none;
      some = last.0.some;
      all = sym all ∙ ap (λ (l : List ℕ). taken ++ l) last.1 ∙ append-nil taken ∙ last.0.all;
      end = ap (λ (l : List ℕ). l ++ rest) last.0.end ∙ last.1;
    })

pub lines_of_text : (text : List ℕ) (before now : ReaderState) (left left' : Option (List ℕ)) (lines : List (List ℕ)) → Calls before left lines now left' → known before left ≡ Some text
    → (rest : List ℕ) × (known now left' ≡ Some rest) × HandsOut text lines rest
lines_of_text text before now left left' [] calls is = (text, rw (calls.0, calls.1) is, refl)
lines_of_text text before now left left' (line ∷ lines) calls is =
    let call = calls.2 in
    let one = line_of_text (before.ahead ++ call.given) calls.0 calls.1 text call.answer (sym (known_before before calls.0 left calls.1 (Ok true) call) ∙ is) in
    let more = lines_of_text one.0 calls.0 now calls.1 left' lines calls.4 one.1 in
    (more.0, more.1, (one.0, subst (λ (l : List ℕ). IsEndedLine text l one.0 ⊎ IsLastLine text l one.0) calls.3 one.2, more.2))

pub end_of_text : (text : List ℕ) (before now : ReaderState) (left left' : Option (List ℕ)) → IsCall before now left left' (Ok false) → known before left ≡ Some text → text ≡ []
end_of_text text before now left left' call is =
    by left' call.answer (sym (known_before before now left left' (Ok false) call) ∙ is)
  where
    by : (end : Option (List ℕ)) → AnswersLine (before.ahead ++ call.given) now end (Ok false) → prepend_known (before.ahead ++ call.given) end ≡ Some text → text ≡ []
    by None answer is = absurd cc
    by (Some rest) answer is =
        let all : (before.ahead ++ call.given) ++ rest ≡ text = cc in
        sym all ∙ ap (λ (l : List ℕ). l ++ rest) answer.1 ∙ answer.2
