-- Lines that were handed out one after another.
use Rattle.std.proofs.Common.{◌≡◌, ◌∙◌, ◌⊎◌, inl, inr, ℕ, ◌+◌, ◌≤◌, ◌<◌, Bool, true, false, ltb, List, [], ◌∷◌, ◌++◌, length, Option, Some, None, Result, Ok, Err, refl, sym, ap, subst, arith, append_assoc, length-append}
use Rattle.std.proofs.lemmas.Bool.{ltb-true, ltb-false, or_parts}
use Rattle.std.specs.Prelude.{IfSome, IsErrOf}
use Rattle.std.specs.Io.KnownBytes.{prepend_known}
use Rattle.std.proofs.KnownBytes.{prepend_known-nil}
use Rattle.pac_outside.specs.Content.{Gave, IsAtEnd}
use Rattle.pac_outside.proofs.ContentLemmas.{Gave-append}
use Rattle.pac_lines.specs.Calls.{IsCall, IsReadOn, KeepsLimit, known}
use Rattle.pac_lines.specs.Lines.{HandsOut, HasNoFeed, IsEndedLine, IsLastLine, has_feed}
use Rattle.pac_lines.specs.Reading.{ReaderState}
use Rattle.pac_lines.specs.declared.limits.TheConstants.{MAX_READ}
use Rattle.pac_lines.specs.declared.line_error.LineError.{LineError}
use Rattle.pac_lines.specs.declared.line_error.LineError.TheVariants as line
use Rattle.pac_lines.proofs.CallLemmas.{known_before, lines_of_text}
use Rattle.pac_request.specs.declared.request.Request.{Request}
use Rattle.pac_types.specs.Typing.{CatalogueState}
use Rattle.pac_run.specs.declared.limits.TheConstants.{MAX_INPUT}
use Rattle.pac_run.specs.Asked.{IsOverLong, LineAsks, LinesAsk, TookAtMost, WereHandled}
use Rattle.pac_run.specs.Serving.{HasRead}

-- ---- what lines ask

pub lines-ask : (catalogue : CatalogueState) (lines : List (List ℕ)) (text : List ℕ) (requests asked : List Request) → LinesAsk catalogue lines requests → LineAsks catalogue text asked → LinesAsk catalogue (lines ++ text ∷ []) (requests ++ asked)
lines-ask catalogue [] text requests asked before one = (asked, [], one, refl, ap (λ (l : List Request). l ++ asked) before ∙ sym (append-none asked))
  where
    append-none : (xs : List Request) → xs ++ [] ≡ xs
    append-none [] = refl
    append-none (x ∷ xs) = ap (λ (l : List Request). x ∷ l) (append-none xs)
lines-ask catalogue (l ∷ lines) text requests asked before one =
    (before.0, before.1 ++ asked, before.2, lines-ask catalogue lines text before.1 asked before.3 one, ap (λ (r : List Request). r ++ asked) before.4 ∙ assoc before.0 before.1 asked)
  where
    assoc : (xs ys zs : List Request) → (xs ++ ys) ++ zs ≡ xs ++ (ys ++ zs)
    assoc [] ys zs = refl
    assoc (x ∷ xs) ys zs = ap (λ (r : List Request). x ∷ r) (assoc xs ys zs)

-- ---- what is ahead of a line

-- bytes without a line feed reach no further than the line
pub feed-behind : (front last back rest : List ℕ) → HasNoFeed front → front ++ back ≡ last ++ 10 ∷ rest → length front ≤ length last
feed-behind [] last back rest none same = omega arith
feed-behind (b ∷ front) [] back rest none same = absurd (no (subst (λ (n : ℕ). has_feed (n ∷ front) ≡ false) (first same) none))
  where
    first : b ∷ (front ++ back) ≡ 10 ∷ rest → b ≡ 10
    first e = cc

    no : true ≡ false → ⊥
    no e = cc
feed-behind (b ∷ front) (c ∷ last) back rest none same =
    let shorter = feed-behind front last back rest (or_parts _ _ none).1 (others same) in
    omega (arith, shorter)
  where
    others : b ∷ (front ++ back) ≡ c ∷ (last ++ 10 ∷ rest) → front ++ back ≡ last ++ 10 ∷ rest
    others e = cc

-- what is ahead after a line is of the read that gave its end
short-ahead : (before now : ReaderState) (given : List ℕ) → (given ≡ []) ⊎ IsReadOn before.ahead given → length before.ahead < MAX_READ → IsEndedLine (before.ahead ++ given) now.line now.ahead → length now.ahead < MAX_READ
short-ahead before now given (inl none) short ended =
    omega (arith, short, length-append before.ahead given, ap (λ (t : List ℕ). length t) none, ap (λ (t : List ℕ). length t) ended.split, length-append now.line (10 ∷ now.ahead))
short-ahead before now given (inr read) short ended =
    let same : (before.ahead ++ read.earlier) ++ read.last ≡ now.line ++ 10 ∷ now.ahead = append_assoc before.ahead read.earlier read.last ∙ ap (λ (t : List ℕ). before.ahead ++ t) (sym read.split) ∙ ended.split in
    let reach = feed-behind (before.ahead ++ read.earlier) now.line read.last now.ahead read.none same in
    omega (arith, reach, read.chunk, ap (λ (t : List ℕ). length t) same, length-append (before.ahead ++ read.earlier) read.last, length-append now.line (10 ∷ now.ahead))

-- ---- one line more

hands-out-more : (text mid rest line : List ℕ) (lines : List (List ℕ)) → HandsOut text lines mid → IsEndedLine mid line rest ⊎ IsLastLine mid line rest → HandsOut text (lines ++ line ∷ []) rest
hands-out-more text mid rest line [] is one = (rest, subst (λ (t : List ℕ). IsEndedLine t line rest ⊎ IsLastLine t line rest) (sym is) one, refl)
hands-out-more text mid rest line (l ∷ lines) is one = (is.0, is.1, hands-out-more is.0 mid rest line lines is.2 one)

-- what a reader has read at first
pub first-read : (left : Option (List ℕ)) → HasRead left left (record { line = []; ahead = []; taken = 0; limit = MAX_INPUT }) []
first-read left = record { handed = by left; bytes = []; gave = sym (prepend_known-nil left); counted = refl; limit = refl; within = omega arith; short = omega arith }
  where
    by : (l : Option (List ℕ)) → IfSome l (λ text. (rest : List ℕ) × (prepend_known [] l ≡ Some rest) × HandsOut text [] rest)
    by None = tt
    by (Some text) = (text, refl, refl)

not-over : (a b : ℕ) → (b < a → ⊥) → a ≤ b
not-over a b none = by (ltb b a) refl
  where
    by : (t : Bool) → ltb b a ≡ t → a ≤ b
    by true is = absurd (none (ltb-true b a is))
    by false is = omega (arith, ltb-false b a is)

module _ (left mid left' : Option (List ℕ)) (before now : ReaderState) (lines : List (List ℕ)) (read : HasRead left mid before lines) where
  module _ (result : Result Bool LineError) (call : IsCall before now mid left' result) where
    taken-now : length (read.bytes ++ call.given) ≡ now.taken
    taken-now = omega (arith, length-append read.bytes call.given, read.counted, call.counted)

    gave-now : Gave left (read.bytes ++ call.given) left'
    gave-now = Gave-append left mid left' read.bytes call.given read.gave call.gave

    -- what was ahead, and what the call took, was not handled
    pub still-handled : WereHandled left lines (before.ahead ++ call.given) left'
    still-handled = by left read.handed
      where
        by : (l : Option (List ℕ)) → IfSome l (λ text. (rest : List ℕ) × (known before mid ≡ Some rest) × HandsOut text lines rest) → WereHandled l lines (before.ahead ++ call.given) left'
        by None handed = tt
        by (Some text) handed = (handed.0, sym (known_before before now mid left' result call) ∙ handed.1, handed.2)

    pub took-few : now.taken ≤ now.limit → TookAtMost MAX_INPUT left left'
    took-few few = record { bytes = read.bytes ++ call.given; gave = gave-now; few = omega (arith, taken-now, few, call.limit, read.limit) }

    pub not-long : KeepsLimit now result → ¬ IsErrOf result line.TooLong → TookAtMost MAX_INPUT left left'
    not-long keeps other = took-few (not-over now.taken now.limit (λ over. other (keeps.long.1 over)))

  pub over-long : (call : IsCall before now mid left' (Err line.TooLong)) → KeepsLimit now (Err line.TooLong) → IsOverLong (before.ahead ++ call.given) left left'
  over-long call keeps = record { bytes = read.bytes ++ call.given; gave = gave-now (Err line.TooLong) call; more = omega (arith, taken-now (Err line.TooLong) call, keeps.most, keeps.long.0 refl, call.limit, read.limit); none = call.answer.1 }

  pub at-end : (call : IsCall before now mid left' (Ok false)) → IsAtEnd (prepend_known (before.ahead ++ call.given) left')
  at-end call = by left' call.answer.2
    where
      by : (l : Option (List ℕ)) → IsAtEnd l → IsAtEnd (prepend_known (before.ahead ++ call.given) l)
      by None end = tt
      by (Some rest) end = ap (λ (t : List ℕ). t ++ rest) call.answer.1 ∙ end

  pub more-read : (call : IsCall before now mid left' (Ok true)) → KeepsLimit now (Ok true) → HasRead left left' now (lines ++ now.line ∷ [])
  more-read call keeps = record {
    handed = by left read.handed;
    bytes = read.bytes ++ call.given;
    gave = gave-now (Ok true) call;
    counted = taken-now (Ok true) call;
    limit = call.limit ∙ read.limit;
    within = (omega (arith, few, call.limit, read.limit));
    short = short call.answer;
  }
    where
      short : IsEndedLine (before.ahead ++ call.given) now.line now.ahead ⊎ (IsLastLine (before.ahead ++ call.given) now.line now.ahead × IsAtEnd left') → length now.ahead < MAX_READ
      short (inl ended) = short-ahead before now call.given call.read read.short ended
      short (inr last) = omega (arith, ap (λ (t : List ℕ). length t) last.0.end)

      no-err : ◌≡◌ {A = Result Bool LineError} (Ok true) (Err line.TooLong) → ⊥
      no-err e = cc

      few : now.taken ≤ now.limit
      few = not-over now.taken now.limit (λ over. no-err (keeps.long.1 over))

      by : (l : Option (List ℕ)) → IfSome l (λ text. (rest : List ℕ) × (known before mid ≡ Some rest) × HandsOut text lines rest)
          → IfSome l (λ text. (rest : List ℕ) × (known now left' ≡ Some rest) × HandsOut text (lines ++ now.line ∷ []) rest)
      by None handed = tt
      by (Some text) handed =
          let one = lines_of_text handed.0 before now mid left' (now.line ∷ []) (now, left', call, refl, (refl, refl)) handed.1 in
          (one.0, one.1, hands-out-more text handed.0 one.0 now.line lines handed.2 (ended one.2))
        where
          ended : HandsOut handed.0 (now.line ∷ []) (lines_of_text handed.0 before now mid left' (now.line ∷ []) (now, left', call, refl, (refl, refl)) handed.1).0
              → IsEndedLine handed.0 now.line (lines_of_text handed.0 before now mid left' (now.line ∷ []) (now, left', call, refl, (refl, refl)) handed.1).0 ⊎ IsLastLine handed.0 now.line (lines_of_text handed.0 before now mid left' (now.line ∷ []) (now, left', call, refl, (refl, refl)) handed.1).0
          ended is = subst (λ (t : List ℕ). IsEndedLine handed.0 now.line t ⊎ IsLastLine handed.0 now.line t) is.2 is.1
