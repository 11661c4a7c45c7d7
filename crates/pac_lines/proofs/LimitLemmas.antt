-- When a text is too long, and when that is reported.
use Rattle.std.proofs.Common.{◌≡◌, ◌+◌, ◌-◌, ◌<◌, ◌≤◌, ℕ, suc, Bool, true, false, ◌||◌, eqb, ltb, List, ◌∷◌, ◌++◌, take, length, Option, Some, None, Result, Ok, Err, MatchResult, refl, sym, ap, subst, ◌∙◌, append_assoc, append-nil, length-append, arith, inl, inr}
use Rattle.std.proofs.Math.Seq.{take-append-add}
use Rattle.std.proofs.lemmas.Bool.{ltb-true, ltb-false}
use Rattle.std.proofs.lemmas.List.{take-append-le}
use Rattle.std.proofs.lemmas.List.Folds.{list_any-append}
use Rattle.std.specs.Io.KnownBytes.{prepend_known}
use Rattle.pac_outside.specs.Content.{IsAtEnd}
use Rattle.pac_value.specs.Ascii.{line_feed}
use Rattle.pac_lines.specs.Lines.{has_feed, HasFeed, HasNoFeed, IsEndedLine}
use Rattle.pac_lines.specs.Reading.{HasNoLine, ReaderState}
use Rattle.pac_lines.specs.Calls.{AnswersLine, IsCall, HasTooMuch, KeepsLimit, known, room}
use Rattle.pac_lines.specs.declared.line_error.LineError.{LineError}
use Rattle.pac_lines.specs.declared.line_error.LineError.TheVariants.{Failed, TooLong, NoMemory}
use Rattle.pac_lines.proofs.CallLemmas.{known_before}

feed_before : (line more : List ℕ) (n : ℕ) → HasFeed (take (length line + suc n) (line ++ line_feed ∷ more))
feed_before line more n = ap has_feed (take-append-add line (line_feed ∷ more) (suc n)) ∙ list_any-append (λ b. eqb b 10) line (line_feed ∷ take n more) ∙ by (has_feed line)
  where
    by : (b : Bool) → (b || true) ≡ true
    by true = refl
    by false = refl

-- a line that is ended within the room
ended_within : (text line left : List ℕ) (room : ℕ) → text ≡ line ++ line_feed ∷ left → length line < room → HasNoFeed (take room text) → ⊥
ended_within text line left room is within none =
    let n = room - length line - 1 in
    let whole : room ≡ length line + suc n = omega (arith, within) in
    let feed : has_feed (take room text) ≡ true = rw (is, whole) (feed_before line left n) in
    absurd cc

-- what was taken, where it isn't too long
module _ (before now : ReaderState) (left' : Option (List ℕ)) (given text : List ℕ) (counted : now.taken ≡ before.taken + length given) (same : now.limit ≡ before.limit) (is : prepend_known (before.ahead ++ given) left' ≡ Some text) where
  fits : now.taken ≤ now.limit → length (before.ahead ++ given) ≤ room before
  fits most = omega (arith, most, counted, same, length-append before.ahead given)

  not_ended : (line : List ℕ) → IsEndedLine (before.ahead ++ given) line now.ahead → now.taken ≤ now.limit → HasTooMuch before text → ⊥
  not_ended line first most long = by left' is
    where
      by : (end : Option (List ℕ)) → prepend_known (before.ahead ++ given) end ≡ Some text → ⊥
      by None is = absurd cc
      by (Some rest) is =
          let all : (before.ahead ++ given) ++ rest ≡ text = cc in
          let split : text ≡ line ++ line_feed ∷ (now.ahead ++ rest) = sym all ∙ ap (λ (l : List ℕ). l ++ rest) first.split ∙ append_assoc line (line_feed ∷ now.ahead) rest in
          let len : length (before.ahead ++ given) ≡ length (line ++ line_feed ∷ now.ahead) = ap (λ (l : List ℕ). length l) first.split in
          ended_within text line (now.ahead ++ rest) (room before) split (omega (arith, fits most, len, length-append line (line_feed ∷ now.ahead))) long.none

  not_at_end : IsAtEnd left' → now.taken ≤ now.limit → HasTooMuch before text → ⊥
  not_at_end end most long = by left' end is
    where
      by : (end : Option (List ℕ)) → IsAtEnd end → prepend_known (before.ahead ++ given) end ≡ Some text → ⊥
      by None end is = absurd cc
      by (Some rest) end is =
          let all : (before.ahead ++ given) ++ rest ≡ text = cc in
          let whole : length text ≡ length (before.ahead ++ given) = ap (λ (l : List ℕ). length l) (sym all ∙ ap (λ (l : List ℕ). (before.ahead ++ given) ++ l) end ∙ append-nil (before.ahead ++ given)) in
          omega (arith, whole, fits most, long.longer)

  one_too_many : now.limit < now.taken → now.taken ≤ now.limit + 1 → HasNoLine (before.ahead ++ given) → HasTooMuch before text
  one_too_many over most line = by left' is
    where
      len : length (before.ahead ++ given) ≡ room before + 1
      len = omega (arith, over, most, counted, same, length-append before.ahead given, line.some)

      prefix : room before ≡ length (before.ahead ++ given) - 1
      prefix = omega (arith, len)

      by : (end : Option (List ℕ)) → prepend_known (before.ahead ++ given) end ≡ Some text → HasTooMuch before text
      by None is = absurd cc
      by (Some rest) is =
          let all : (before.ahead ++ given) ++ rest ≡ text = cc in record {
            longer = omega (arith, len, length-append (before.ahead ++ given) rest, ap (λ (l : List ℕ). length l) all);
            none = subst HasNoFeed (ap (λ (n : ℕ). take n (before.ahead ++ given)) (sym prefix) ∙ sym (take-append-le (room before) (before.ahead ++ given) rest (omega (arith, len))) ∙ ap (λ (l : List ℕ). take (room before) l) all) line.prefix;
          }

pub reported_exactly : (text : List ℕ) (before now : ReaderState) (left left' : Option (List ℕ)) (result : Result Bool LineError) → IsCall before now left left' result → KeepsLimit now result → known before left ≡ Some text
    → MatchResult result (λ _. ¬ HasTooMuch before text) (λ error. error ≡ TooLong → HasTooMuch before text)
reported_exactly text before now left left' result call limit is =
    by result call.answer limit
  where
    all : prepend_known (before.ahead ++ call.given) left' ≡ Some text
    all = sym (known_before before now left left' result call) ∙ is

    within : (ok : Bool) → KeepsLimit now (Ok ok) → now.taken ≤ now.limit
    within ok limit = by (ltb now.limit now.taken) refl
      where
        by : (over : Bool) → ltb now.limit now.taken ≡ over → now.taken ≤ now.limit
        by true is = let e = limit.long.1 (ltb-true _ _ is) in absurd cc
        by false is = ltb-false _ _ is

    by : (r : Result Bool LineError) → AnswersLine (before.ahead ++ call.given) now left' r → KeepsLimit now r → MatchResult r (λ _. ¬ HasTooMuch before text) (λ error. error ≡ TooLong → HasTooMuch before text)
    by (Ok true) (inl first) limit = not_ended before now left' call.given text call.counted call.limit all now.line first (within true limit)
    by (Ok true) (inr last) limit = not_at_end before now left' call.given text call.counted call.limit all last.1 (within true limit)
    by (Ok false) none limit = not_at_end before now left' call.given text call.counted call.limit all none.2 (within false limit)
    by (Err Failed) answer limit = λ e. absurd cc
    by (Err NoMemory) answer limit = λ e. absurd cc
    by (Err TooLong) answer limit = λ _. one_too_many before now left' call.given text call.counted call.limit all (limit.long.0 refl) limit.most answer.1
