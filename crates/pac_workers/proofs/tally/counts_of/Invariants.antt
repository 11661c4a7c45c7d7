use Rattle.std.specs.Prelude.{◌≡◌, ◌+◌, ◌++◌, length, map, sum, vec_len, vec_capacity}
use Rattle.std.specs.Vec.Iter.{into_iter_items, into_iter_len}
use Rattle.pac_workers.proofs.tally.counts_of.Given as goal

abbrev pub invariant-loop-tally : goal.invariant-loop-tally
invariant-loop-tally g l =
    (l.rest.parts ≡ vec_len l.counts + 1)
    × (l.rest.amount ≡ sum l.counts.items)
    × (l.counts.items ++ map (λ tally. tally.count) (into_iter_items l.tally-iterator) ≡ map (λ tally. tally.count) l.fn.tallies.items)
    × (into_iter_len l.tally-iterator ≡ length (into_iter_items l.tally-iterator))
    × (vec_len l.counts + into_iter_len l.tally-iterator ≡ vec_len l.fn.tallies)
    × (vec_capacity l.counts ≡ vec_len l.fn.tallies)
