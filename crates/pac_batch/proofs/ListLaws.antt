-- Accesses have one list of next pairs, which suffices for all conflicts.
use Rattle.std.proofs.Common.{◌≡◌, ℕ, ◌<◌, true, ◌&&◌, length, arith}
use Rattle.std.specs.Prelude.{nat_lt}
use Rattle.std.proofs.lemmas.Bool.{ltb-true, lt-ltb}
use Rattle.pac_base.proofs.TestLemmas.{and_left, and_right, and_both}
use Rattle.pac_graph.proofs.OneGrouping.{same_pairs}
use Rattle.pac_plan.specs.NextPairs.{IsNextPair}
use Rattle.pac_plan.proofs.NextLemmas.{next_pairs, closed_by_next}
use Rattle.pac_batch.specs.Conflicts.{access_in}
use Rattle.pac_batch.specs.NextLists.{OneList, PairsSuffice}

pub one_list : OneList
one_list accesses pairs others are are' = same_pairs pairs others are.ascending are'.ascending
    (λ r h. (are'.each r.0 r.1).1 ((are.each r.0 r.1).0 h)) (λ r h. (are.each r.0 r.1).1 ((are'.each r.0 r.1).0 h))

pub pairs_suffice : PairsSuffice
pairs_suffice accesses pairs are = (
  (λ i j h. let next = (are.each i j).0 h in (next.1.0, next.0, (next_pairs (access_in accesses) i j).0 next.1)),
  (λ F closed i j lt inside h f.
      let within = λ (m : ℕ). nat_lt m (length accesses) && F m in
      let step : (k l : ℕ) → IsNextPair (access_in accesses) k l → within l ≡ true → within k ≡ true = λ k l next w.
      let below : l < length accesses = ltb-true l (length accesses) (and_left (nat_lt l (length accesses)) (F l) w) in
      let less = next.0 in
      and_both (nat_lt k (length accesses)) (F k) (lt-ltb k (length accesses) (omega (arith, less, below)))
      (closed k l ((are.each k l).1 (below, next)) (and_right (nat_lt l (length accesses)) (F l) w)) in
      and_right (nat_lt i (length accesses)) (F i)
      (closed_by_next (access_in accesses) within step i j lt h (and_both (nat_lt j (length accesses)) (F j) (lt-ltb j (length accesses) inside) f))),
)
