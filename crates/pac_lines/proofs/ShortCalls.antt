-- The reads of one call of a reader that leaves bytes of long lines out, and what the call then answers.
use Rattle.std.proofs.Common.{◌≡◌, ◌+◌, ℕ, true, ltb, List, [], ◌++◌, take, length, Bool, Option, Ok, Err, refl, sym, ap, subst, ◌∙◌}
use Rattle.pac_lines.specs.Lines.{HasFeed, HasNoFeed, IsEndedLine}
use Rattle.pac_lines.specs.Reading.{AheadState, HasNoLine, ReaderState}
use Rattle.pac_lines.specs.Calls.{IsCall, IsChunk}
use Rattle.pac_lines.specs.Short.{IsShort, IsShortCall, IsShortOf, ShortState, kept}
use Rattle.pac_lines.specs.declared.line_error.LineError.{LineError}
use Rattle.pac_lines.specs.declared.line_error.LineError.TheVariants.{Failed, TooLong}
use Rattle.pac_lines.proofs.CallLemmas.{IsReading, answers_error, answers_line, answers_rest, feed_stays, one_more_read}
use Rattle.pac_lines.proofs.ShortLemmas.{all_held, ended_line, front_held, more_held, no_line_whole, same_feed, same_front, same_some}

-- reads alone, as of a reader that leaves nothing out
pub record IsReadingShort (before : ReaderState) (now : ShortState) (left left' : Option (List ℕ)) : Type 0 where
  pub whole : ReaderState
  pub reading : IsReading before whole left left'
  pub short : IsShortOf whole now

-- a reader that left nothing out yet
pub short_of_itself : (reader : ShortState) → IsShortOf reader.state reader
short_of_itself reader = record { ahead = all_held reader.most reader.state.ahead; taken = refl; limit = refl }

-- where no line feed was found, all is as before
pub still_reading_short : (before : ReaderState) (now : ShortState) (left left' : Option (List ℕ)) (old new : AheadState) (taken limit most : ℕ)
    → record { state = record { line = old.line; ahead = old.bytes; taken = taken; limit = limit }; most = most } ≡ now → new ≡ old
    → IsReadingShort before now left left' → IsReadingShort before (record { state = record { line = new.line; ahead = new.bytes; taken = taken; limit = limit }; most = most }) left left'
still_reading_short before now left left' old new taken limit most is same reading =
    subst (λ (s : ShortState). IsReadingShort before s left left') (sym (ap (λ (a : AheadState). record { state = record { line = a.line; ahead = a.bytes; taken = taken; limit = limit }; most = most }) same ∙ is)) reading

-- a line feed that was ahead before is ahead now
pub feed_stays_short : (before now : ShortState) (left left' : Option (List ℕ)) → IsReadingShort before.state now left left' → HasNoFeed now.state.ahead → HasFeed before.state.ahead → ⊥
feed_stays_short before now left left' reading none feed =
    feed_stays before.state reading.whole left left' reading.reading (same_feed now.most reading.whole.ahead now.state.ahead reading.short.ahead ∙ none) feed

-- a read more, where no line feed was ahead
module _ (before : ReaderState) (now next : ShortState) (left mid left' : Option (List ℕ)) (count : ℕ) (reading : IsReadingShort before now left mid) (none : HasNoFeed now.state.ahead) (chunk : IsChunk (kept now) next.state mid left' count) (same : next.most ≡ now.most) where
  abbrev grown : ReaderState
  grown = record { line = []; ahead = reading.whole.ahead ++ chunk.given; taken = reading.whole.taken + length chunk.given; limit = reading.whole.limit }

  none_whole : HasNoFeed reading.whole.ahead
  none_whole = same_feed now.most reading.whole.ahead now.state.ahead reading.short.ahead ∙ none

  chunk_whole : IsChunk reading.whole grown mid left' count
  chunk_whole = record { given = chunk.given; gave = chunk.gave; counted = chunk.counted; chunk = chunk.chunk; end = chunk.end; grown = refl }

  ahead_short : IsShort next.most grown.ahead next.state.ahead
  ahead_short = subst (λ (n : ℕ). IsShort n grown.ahead next.state.ahead) (sym same)
      (subst (λ (l : List ℕ). IsShort now.most grown.ahead l) (sym (ap (λ (s : ReaderState). s.ahead) chunk.grown))
      (more_held now.most reading.whole.ahead (take (now.most + 1) now.state.ahead) chunk.given (front_held now.most reading.whole.ahead now.state.ahead reading.short.ahead none)))

  taken_is : grown.taken ≡ next.state.taken
  taken_is = ap (λ (n : ℕ). n + length chunk.given) reading.short.taken ∙ sym (ap (λ (s : ReaderState). s.taken) chunk.grown)

  limit_is : grown.limit ≡ next.state.limit
  limit_is = reading.short.limit ∙ sym (ap (λ (s : ReaderState). s.limit) chunk.grown)

  pub one_more_read_short : IsReadingShort before next left left'
  one_more_read_short = record {
    whole = grown;
    reading = one_more_read before reading.whole grown left mid left' count reading.reading none_whole chunk_whole;
    short = record { ahead = ahead_short; taken = taken_is; limit = limit_is };
  }

  -- at the end of the source, the rest is handed out
  pub answers_rest_short : count ≡ 0 → IsShortCall before (record { state = record { line = next.state.ahead; ahead = []; taken = next.state.taken; limit = next.state.limit }; most = next.most }) left left' (Ok (ltb 0 (length next.state.ahead)))
  answers_rest_short zero = record {
    whole = record { line = grown.ahead; ahead = []; taken = grown.taken; limit = grown.limit };
    call = subst (λ (b : Bool). IsCall before (record { line = grown.ahead; ahead = []; taken = grown.taken; limit = grown.limit }) left left' (Ok b)) (same_some next.most grown.ahead next.state.ahead ahead_short)
        (answers_rest before reading.whole grown left mid left' count reading.reading none_whole chunk_whole zero);
    line = sym (same_front next.most grown.ahead next.state.ahead ahead_short);
    short = record { ahead = all_held next.most []; taken = taken_is; limit = limit_is };
  }

-- ---- what is answered

pub answers_line_short : (before : ReaderState) (now : ShortState) (left left' : Option (List ℕ)) (line ahead : List ℕ) → IsReadingShort before now left left' → IsEndedLine now.state.ahead line ahead
    → IsShortCall before (record { state = record { line = line; ahead = ahead; taken = now.state.taken; limit = now.state.limit }; most = now.most }) left left' (Ok true)
answers_line_short before now left left' line ahead reading first =
    let found = ended_line now.most reading.whole.ahead now.state.ahead line ahead reading.short.ahead first in record {
      whole = record { line = found.whole; ahead = ahead; taken = reading.whole.taken; limit = reading.whole.limit };
      call = answers_line before reading.whole left left' found.whole ahead reading.reading found.ended;
      line = found.front;
      short = record { ahead = all_held now.most ahead; taken = reading.short.taken; limit = reading.short.limit };
    }

-- a read that failed: what is ahead was made short before
pub answers_error_short : (before : ReaderState) (now next : ShortState) (left mid left' : Option (List ℕ)) (error : LineError) → IsReadingShort before now left mid → HasNoFeed now.state.ahead → next.state ≡ kept now → left' ≡ mid → next.most ≡ now.most → (error ≡ TooLong → ⊥)
    → IsShortCall before next left left' (Err error)
answers_error_short before now next left mid left' error reading none is unread same other =
    subst (λ (l : Option (List ℕ)). IsShortCall before next left l (Err error)) (sym unread) (record {
      whole = record reading.whole { line = [] };
      call = answers_error before reading.whole left mid error reading.reading (λ _. same_feed now.most reading.whole.ahead now.state.ahead reading.short.ahead ∙ none) (λ e. absurd (other e));
      line = ap (λ (s : ReaderState). take (next.most + 1) s.line) is;
      short = record {
        ahead = subst (λ (n : ℕ). IsShort n reading.whole.ahead next.state.ahead) (sym same)
            (subst (λ (l : List ℕ). IsShort now.most reading.whole.ahead l) (sym (ap (λ (s : ReaderState). s.ahead) is)) (front_held now.most reading.whole.ahead now.state.ahead reading.short.ahead none));
        taken = reading.short.taken ∙ sym (ap (λ (s : ReaderState). s.taken) is);
        limit = reading.short.limit ∙ sym (ap (λ (s : ReaderState). s.limit) is);
      };
    })

-- it is too long
pub answers_too_long_short : (before : ReaderState) (now : ShortState) (left left' : Option (List ℕ)) → IsReadingShort before now left left' → HasNoLine now.state.ahead
    → IsShortCall before (record { state = record { line = []; ahead = now.state.ahead; taken = now.state.taken; limit = now.state.limit }; most = now.most }) left left' (Err TooLong)
answers_too_long_short before now left left' reading none = record {
  whole = record reading.whole { line = [] };
  call = answers_error before reading.whole left left' TooLong reading.reading (λ e. absurd (not_failed e)) (λ _. no_line_whole now.most reading.whole.ahead now.state.ahead reading.short.ahead none);
  line = refl;
  short = record { ahead = reading.short.ahead; taken = reading.short.taken; limit = reading.short.limit };
}
  where
    not_failed : TooLong ≡ Failed → ⊥
    not_failed e = absurd cc

-- ---- the same of a reader that is seen as its fields

pub reading_in_view : (before : ReaderState) (now view : ShortState) (left left' : Option (List ℕ)) → view ≡ now → IsReadingShort before now left left' → IsReadingShort before view left left'
reading_in_view before now view left left' is reading = subst (λ (s : ShortState). IsReadingShort before s left left') (sym is) reading

abbrev rest_of : ShortState → ShortState
rest_of s = record { state = record { line = s.state.ahead; ahead = []; taken = s.state.taken; limit = s.state.limit }; most = s.most }

pub answers_rest_in_view : (before : ReaderState) (now next : ShortState) (left mid left' : Option (List ℕ)) (count : ℕ) → IsReadingShort before now left mid → HasNoFeed now.state.ahead → IsChunk (kept now) next.state mid left' count → next.most ≡ now.most → count ≡ 0
    → (inner rest : AheadState) (taken limit most : ℕ) (some : Bool) → record { state = record { line = inner.line; ahead = inner.bytes; taken = taken; limit = limit }; most = most } ≡ next
    → rest ≡ record { line = inner.bytes; bytes = [] } → some ≡ ltb 0 (length inner.bytes)
    → IsShortCall before (record { state = record { line = rest.line; ahead = rest.bytes; taken = taken; limit = limit }; most = most }) left left' (Ok some)
answers_rest_in_view before now next left mid left' count reading none chunk same zero inner rest taken limit most some is rest_is some_is =
    subst (λ (b : Bool). IsShortCall before (record { state = record { line = rest.line; ahead = rest.bytes; taken = taken; limit = limit }; most = most }) left left' (Ok b)) (sym some_is)
    (subst (λ (a : AheadState). IsShortCall before (record { state = record { line = a.line; ahead = a.bytes; taken = taken; limit = limit }; most = most }) left left' (Ok (ltb 0 (length inner.bytes)))) (sym rest_is)
    (subst (λ (s : ShortState). IsShortCall before (rest_of s) left left' (Ok (ltb 0 (length s.state.ahead)))) (sym is) (answers_rest_short before now next left mid left' count reading none chunk same zero)))

pub answers_too_long_in_view : (before : ReaderState) (now : ShortState) (left left' : Option (List ℕ)) (inner last : AheadState) (taken limit most : ℕ) → record { state = record { line = inner.line; ahead = inner.bytes; taken = taken; limit = limit }; most = most } ≡ now
    → last ≡ record { line = []; bytes = inner.bytes } → IsReadingShort before now left left' → HasNoLine inner.bytes
    → IsShortCall before (record { state = record { line = last.line; ahead = last.bytes; taken = taken; limit = limit }; most = most }) left left' (Err TooLong)
answers_too_long_in_view before now left left' inner last taken limit most is last_is reading none =
    let view : ShortState = record { state = record { line = inner.line; ahead = inner.bytes; taken = taken; limit = limit }; most = most } in
    subst (λ (a : AheadState). IsShortCall before (record { state = record { line = a.line; ahead = a.bytes; taken = taken; limit = limit }; most = most }) left left' (Err TooLong)) (sym last_is)
    (answers_too_long_short before view left left' (reading_in_view before now view left left' is reading) none)
