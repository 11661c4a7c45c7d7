-- The first open set of the first blocks, and of one block more.
use Rattle.std.proofs.Common.{◌≡◌, ◌⊎◌, ◌<◌, ◌≤◌, ◌+◌, ℕ, true, List, get_or, Option, Some, None, refl, sym, ap, ◌∙◌, arith, inl, inr}
use Rattle.std.specs.Prelude.{position}
use Rattle.std.proofs.lemmas.Bool.{cases_lt}
use Rattle.std.proofs.lemmas.Option.{slice_get_read}
use Rattle.std.proofs.lemmas.Bool.Decides.{nat_tests}
use Rattle.pac_sets.specs.Sets.{Kept, is_unfinished_in, is_earlier, AreSets, AreFronts, IsFront, IsOpenSet, IsOpenBelow, IsFirstBelow, IsFirstOpen}
use Rattle.pac_sets.proofs.FrontLemmas.{open_front, left_stands}

module _ {P : Type 0} (edges : List (ℕ × ℕ)) (sets : List (Kept P)) (blocks : ℕ) (kept : AreSets blocks sets) (block : ℕ) where
  -- an open set of the block is its front
  pub own : (j : ℕ) (it : IsOpenSet edges sets j) → it.set.block ≡ block → position (is_unfinished_in block) sets ≡ Some j
  own j it is = ap (λ (b : ℕ). position (is_unfinished_in b) sets) (sym is) ∙ open_front sets kept.ascend edges j it.set it.kept it.there it.passed

  -- one of the blocks so far, or the front
  old_or_own : (j : ℕ) → IsOpenBelow (block + 1) edges sets j → IsOpenBelow block edges sets j ⊎ (position (is_unfinished_in block) sets ≡ Some j)
  old_or_own j (it, lt) = go (cases_lt it.set.block block)
    where
      go : (it.set.block < block) ⊎ (block ≤ it.set.block) → IsOpenBelow block edges sets j ⊎ (position (is_unfinished_in block) sets ≡ Some j)
      go (inl less) = inl (it, less)
      go (inr least) = inr (own j it (omega arith))

  -- the first so far stays, where the front isn't an earlier open one
  pub stays : (from : ℕ) (first : Option ℕ) → IsFirstBelow block edges sets from first
      → ((j : ℕ) → position (is_unfinished_in block) sets ≡ Some j → from ≤ j → is_earlier j first ≡ true → IsOpenSet edges sets j → ⊥) → IsFirstBelow (block + 1) edges sets from first
  stays from None old none = λ j least below. go j least below (old_or_own j below)
    where
      go : (j : ℕ) → from ≤ j → IsOpenBelow (block + 1) edges sets j → IsOpenBelow block edges sets j ⊎ (position (is_unfinished_in block) sets ≡ Some j) → ⊥
      go j least below (inl it) = old j least it
      go j least below (inr front) = none j front least refl below.0
  stays from (Some at) old none = (old.0, old.1, λ j least before below. go j least before below (old_or_own j below))
    where
      go : (j : ℕ) → from ≤ j → j < at → IsOpenBelow (block + 1) edges sets j → IsOpenBelow block edges sets j ⊎ (position (is_unfinished_in block) sets ≡ Some j) → ⊥
      go j least before below (inl it) = old.2 j least before it
      go j least before below (inr front) = none j front least (grind (arith, nat_tests)) below.0

  -- an earlier open front takes its place
  pub moves : (from : ℕ) (first : Option ℕ) → IsFirstBelow block edges sets from first
      → (at : ℕ) → position (is_unfinished_in block) sets ≡ Some at → from ≤ at → is_earlier at first ≡ true → IsOpenSet edges sets at → IsFirstBelow (block + 1) edges sets from (Some at)
  moves from first old at front least before it = (least, it, λ j from_on less below. go j from_on less (old_or_own j below))
    where
      none : (first : Option ℕ) → IsFirstBelow block edges sets from first → is_earlier at first ≡ true → (j : ℕ) → from ≤ j → j < at → IsOpenBelow block edges sets j → ⊥
      none None old before j from_on less below = old j from_on below
      none (Some o) old before j from_on less below = let lt : at < o = grind (arith, nat_tests) in old.2 j from_on (omega arith) below

      go : (j : ℕ) → from ≤ j → j < at → IsOpenBelow block edges sets j ⊎ (position (is_unfinished_in block) sets ≡ Some j) → ⊥
      go j from_on less (inl below) = none first old before j from_on less below
      go j from_on less (inr own) = let same : Some at ≡ Some j = sym front ∙ own in let n : at ≡ j = cc same in omega arith

-- a front that is found stands there
pub front_there : {P : Type 0} (sets : List (Kept P)) (block at : ℕ) → position (is_unfinished_in block) sets ≡ Some at → IsFront sets at
front_there sets block at is = left_stands sets block at is

-- with all blocks, it is the first of all
pub first_of_all : {P : Type 0} (edges : List (ℕ × ℕ)) (sets : List (Kept P)) (blocks : ℕ) → AreSets blocks sets → (from : ℕ) (first : Option ℕ) → IsFirstBelow blocks edges sets from first → IsFirstOpen edges sets from first
first_of_all edges sets blocks kept from None h = λ j least it. h j least (it, kept.inside j (it.set, Some it.kept) it.there)
first_of_all edges sets blocks kept from (Some at) h = (h.0, h.1, λ j least less it. h.2 j least less (it, kept.inside j (it.set, Some it.kept) it.there))

-- what is read of the fronts at a block is its first unfinished set
pub front_read : {P : Type 0} (sets : List (Kept P)) (blocks : ℕ) (fronts : List (Option ℕ)) → AreFronts blocks fronts sets
    → (block : ℕ) → block < blocks → (front : Option ℕ) → front ≡ get_or fronts block front → position (is_unfinished_in block) sets ≡ front
front_read sets blocks fronts are block inside front read = sym (are.each block front (slice_get_read fronts blocks block front (sym are.all) inside read))
