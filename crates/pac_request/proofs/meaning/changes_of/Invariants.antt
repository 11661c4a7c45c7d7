use Rattle.std.proofs.Common.{◌≡◌, ◌+◌, length}
use Rattle.pac_request.specs.RequestMeaning.{asked_changes}
use Rattle.pac_request.proofs.MeaningLemmas.{changes_before}
use Rattle.pac_request.proofs.meaning.changes_of.Given as goal

-- the changes so far, before those of what is left, are all changes
abbrev pub invariant-loop-first : goal.invariant-loop-first
invariant-loop-first l = record {
  prefix : changes_before l.changes.items (asked_changes l.catalogue.tables l.left) ≡ asked_changes l.catalogue.tables l.records;
  count : length l.changes.items + length l.left ≡ length l.records;
}

abbrev pub decreases-loop-first : goal.decreases-loop-first
decreases-loop-first l = length l.left
