-- Each turn of the loop reads where no line feed is ahead.
use Rattle.std.proofs.lemmas.Result.{err_from_is_err_and}
use Rattle.std.proofs.Common.{rules, ◌<◌, Err, arith, refl, sym, ap, subst}
use Rattle.pac_lines.specs.Lines.{HasNoFeed}
use Rattle.pac_lines.specs.Reading.{AheadState}
use Rattle.pac_lines.specs.Short.{ShortState}
use Rattle.pac_lines.proofs.ShortCalls.{answers_error_short, answers_line_short, answers_rest_in_view, answers_too_long_in_view, feed_stays_short, one_more_read_short, reading_in_view, short_of_itself, still_reading_short}
use Rattle.pac_lines.proofs.reader.LineReader.next_line.Goals as goal

pub loop-self-preserved : goal.loop-self-preserved
loop-self-preserved g c =
    let kept = c.if-take_line.ensures.none refl in
    let none = subst (λ (a : AheadState). HasNoFeed a.bytes) (sym kept.1) kept.0 in
    let itself = still_reading_short _ _ _ _ _ _ _ _ _ c.self.view_is kept.1 (c.loop-self.invariant.reading _ (short_of_itself c.args.self.now)) in record {
      reading = λ whole short. one_more_read_short _ _ _ _ _ _ _ (still_reading_short _ _ _ _ _ _ _ _ _ c.self.view_is kept.1 (c.loop-self.invariant.reading whole short)) none c.in_ok-read.ensures.chunk c.in_ok-read.ensures.most;
      at_hand = λ feed. absurd (feed_stays_short c.args.self.now _ _ _ itself none feed);
      limit = search rules;
      most = search rules;
      over = λ over. absurd (omega (arith, over, itself.reading.counted, itself.short.taken, c.loop-self.invariant.limit, c.loop-self-test.true));
      later = search rules;
    }

pub returns-then-take_line-clause-call : goal.returns-then-take_line-clause-call
returns-then-take_line-clause-call g c = λ whole short.
    answers_line_short _ _ _ _ _ _ (reading_in_view _ _ _ _ _ c.self.view_is (c.loop-self.invariant.reading whole short)) (c.if-take_line.ensures.line refl)

-- ---- where the source failed

pub returns-in_err-read-clause-call : goal.returns-in_err-read-clause-call
returns-in_err-read-clause-call g c = λ whole short.
    let kept = c.if-take_line.ensures.none refl in
    let none = subst (λ (a : AheadState). HasNoFeed a.bytes) (sym kept.1) kept.0 in
    let p = err_from_is_err_and c.from_residual.result c.from_residual.ensures.1 in
    let reading = still_reading_short _ _ _ _ _ _ _ _ _ c.self.view_is kept.1 (c.loop-self.invariant.reading whole short) in
    let failed = c.in_err-read.ensures in
    rw (p.1, p.2) (answers_error_short _ _ _ _ _ _ c.in_err-read.field-0.0 reading none failed.chunk.0 failed.chunk.1 failed.most (λ e. failed.long (ap Err e)))

pub returns-in_err-read-clause-at_hand : goal.returns-in_err-read-clause-at_hand
returns-in_err-read-clause-at_hand g c =
    let kept = c.if-take_line.ensures.none refl in
    let none = subst (λ (a : AheadState). HasNoFeed a.bytes) (sym kept.1) kept.0 in
    let itself = still_reading_short _ _ _ _ _ _ _ _ _ c.self.view_is kept.1 (c.loop-self.invariant.reading _ (short_of_itself c.args.self.now)) in
    λ feed. absurd (feed_stays_short c.args.self.now _ _ _ itself none feed)

pub returns-in_err-read-clause-whole : goal.returns-in_err-read-clause-whole
returns-in_err-read-clause-whole g c =
    let kept = c.if-take_line.ensures.none refl in
    let none = subst (λ (a : AheadState). HasNoFeed a.bytes) (sym kept.1) kept.0 in
    let itself = still_reading_short _ _ _ _ _ _ _ _ _ c.self.view_is kept.1 (c.loop-self.invariant.reading _ (short_of_itself c.args.self.now)) in
    λ feed _. absurd (feed_stays_short c.args.self.now _ _ _ itself none feed)

pub returns-in_err-read-clause-over : goal.returns-in_err-read-clause-over
returns-in_err-read-clause-over g c =
    let kept = c.if-take_line.ensures.none refl in
    let none = subst (λ (a : AheadState). HasNoFeed a.bytes) (sym kept.1) kept.0 in
    let itself = still_reading_short _ _ _ _ _ _ _ _ _ c.self.view_is kept.1 (c.loop-self.invariant.reading _ (short_of_itself c.args.self.now)) in
    λ over. absurd (omega (arith, over, itself.reading.counted, itself.short.taken, c.loop-self.invariant.limit, ap (λ (s : ShortState). s.state.limit) c.self.view_is, c.loop-self-test.true))

-- ---- at the end of the source

pub returns-then-branch-eq0-clause-call : goal.returns-then-branch-eq0-clause-call
returns-then-branch-eq0-clause-call g c = λ whole short.
    let kept = c.if-take_line.ensures.none refl in
    let none = subst (λ (a : AheadState). HasNoFeed a.bytes) (sym kept.1) kept.0 in
    let reading = still_reading_short _ _ _ _ _ _ _ _ _ c.self.view_is kept.1 (c.loop-self.invariant.reading whole short) in
    answers_rest_in_view _ _ _ _ _ _ _ reading none c.in_ok-read.ensures.chunk c.in_ok-read.ensures.most c.if-branch-eq0.true _ _ _ _ _ _ c.self-in-loop-self.view_is c.take_rest.ensures.rest c.take_rest.ensures.some

pub returns-then-branch-eq0-clause-at_hand : goal.returns-then-branch-eq0-clause-at_hand
returns-then-branch-eq0-clause-at_hand g c =
    let kept = c.if-take_line.ensures.none refl in
    let none = subst (λ (a : AheadState). HasNoFeed a.bytes) (sym kept.1) kept.0 in
    let itself = still_reading_short _ _ _ _ _ _ _ _ _ c.self.view_is kept.1 (c.loop-self.invariant.reading _ (short_of_itself c.args.self.now)) in
    λ feed. absurd (feed_stays_short c.args.self.now _ _ _ itself none feed)

pub returns-then-branch-eq0-clause-whole : goal.returns-then-branch-eq0-clause-whole
returns-then-branch-eq0-clause-whole g c =
    let kept = c.if-take_line.ensures.none refl in
    let none = subst (λ (a : AheadState). HasNoFeed a.bytes) (sym kept.1) kept.0 in
    let itself = still_reading_short _ _ _ _ _ _ _ _ _ c.self.view_is kept.1 (c.loop-self.invariant.reading _ (short_of_itself c.args.self.now)) in
    λ feed _. absurd (feed_stays_short c.args.self.now _ _ _ itself none feed)

pub returns-then-branch-eq0-clause-over : goal.returns-then-branch-eq0-clause-over
returns-then-branch-eq0-clause-over g c =
    let kept = c.if-take_line.ensures.none refl in
    let none = subst (λ (a : AheadState). HasNoFeed a.bytes) (sym kept.1) kept.0 in
    let itself = still_reading_short _ _ _ _ _ _ _ _ _ c.self.view_is kept.1 (c.loop-self.invariant.reading _ (short_of_itself c.args.self.now)) in
    λ over. absurd (omega (arith, over, itself.reading.counted, itself.short.taken, c.loop-self.invariant.limit, ap (λ (s : ShortState). s.state.limit) c.self.view_is, c.loop-self-test.true))

-- ---- past the limit

pub returns-clause-call : goal.returns-clause-call
returns-clause-call g c = λ whole short.
    let over : c.self-2.inside.limit < c.self-2.inside.taken = omega (arith, c.loop-self-test.false, ap (λ (s : ShortState). s.state.taken) c.self.view_is, ap (λ (s : ShortState). s.state.limit) c.self.view_is, ap (λ (s : ShortState). s.state.taken) c.self-2.view_is, ap (λ (s : ShortState). s.state.limit) c.self-2.view_is) in
    answers_too_long_in_view _ _ _ _ _ _ _ _ _ c.self-2.view_is c.forget_line.ensures (c.loop-self.invariant.reading whole short) (c.self-2.invariant.3 over)
