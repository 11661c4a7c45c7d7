-- What one worker leaves of a feed is what several leave.
use Rattle.std.proofs.Common.{◌≡◌, ℕ, ◌+◌, [], ◌∷◌, ap, ◌∙◌, arith}
use Rattle.std.specs.Prelude.{sum}
use Rattle.pac_in_order.proofs.workers.execute_feed.Goals as goal

one_tally : (pieces drained : ℕ) → sum (pieces ∷ []) + drained ≡ pieces + drained
one_tally pieces drained = omega arith

pub returns-clause-executed : goal.returns-clause-executed
returns-clause-executed g c =
    let fed = c.in_ok-executed.ensures.executed in
    let executed = c.in_ok-executed.executed in
    record {
      batches = fed.batches;
      given = fed.given;
      tables_are = ap g.R.Rows.held c.by_one.ensures.tables ∙ fed.tables_are;
      note_is = c.by_one.ensures.note ∙ fed.note_is;
      counted = (λ i. sum (c.by_one.ensures.tallies i) + c.by_one.ensures.drained i) ∙ one_tally executed.pieces executed.drained ∙ fed.counted;
    }
