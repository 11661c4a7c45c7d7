-- The first unfinished set of a block, and when it waits for nothing more.
use Rattle.std.proofs.Common.{◌≡◌, ◌⊎◌, ◌<◌, ◌≤◌, ◌+◌, ℕ, Bool, true, false, cond, not, T, List, [], ◌∷◌, length, get_or, Option, Some, None, is_some, refl, sym, ap, subst, ◌∙◌, arith, inl, inr}
use Rattle.std.specs.Prelude.{slice_get, position, ◌==◌, ◌↔◌, nat_lt, unwrap_or, IsTrue}
use Rattle.std.specs.Ordering.{nat_cmp, ordering_then}
use Rattle.std.specs.List.{position_or_len}
use Rattle.std.specs.declared.cmp.Ordering.{Ordering}
use Rattle.std.specs.declared.cmp.Ordering.TheVariants.{Less, Equal, Greater}
use Rattle.std.specs.FinMap.{is_sorted}
use Rattle.std.proofs.lemmas.Option.{slice_get_within, get_or_from_slice_get, slice_get-get_or, slice_get_read}
use Rattle.std.proofs.lemmas.Bool.{cases_order}
use Rattle.std.proofs.lemmas.Bool.Decides.{nat_tests}
use Rattle.std.proofs.lemmas.Cmp.{ranked}
use Rattle.std.proofs.lemmas.List.Quantifiers.{position-Some}
use Rattle.std.proofs.lemmas.List.Sums.{AllPass-from_list_all, list_all-from_AllPass, position_or_len_is}
use Rattle.std.proofs.lemmas.List.Elements.{All-contains, Contains-get_or}
use Rattle.pac_base.proofs.ItemLemmas.{item_at}
use Rattle.pac_base.proofs.TestLemmas.{and_left, and_right, same_number, equal_number, and_both, unlike}
use Rattle.std.specs.Global.{Global}
use Rattle.std.specs.Prelude.{Vec}
use Rattle.pac_sets.specs.declared.set_id.SetId.{SetId}
use Rattle.pac_sets.specs.SetOrder.{set_cmp}
use Rattle.pac_sets.specs.Sets.{Kept, kept_of, WaitsForNothing, is_unfinished_in, is_done, are_done, AreSources, AreSets, AreAllSources, IsFront, IsOpenSet, with_kept_at}
use Rattle.pac_sets.proofs.SetLemmas.{kept_there, there_kept, less_there}
use Rattle.pac_sets.proofs.KeptLemmas.{earlier_stay}

-- a set of the block that is left
left_gives : {P : Type 0} (block : ℕ) (set : Kept P) → is_unfinished_in block set ≡ true → (set.0.block ≡ block) × ((p : P) × (set.1 ≡ Some p))
left_gives {P} block (set, None) h = absurd (cc (and_right (set.block == block) false h))
left_gives {P} block (set, Some p) h = (same_number set.block block (and_left (set.block == block) true h), (p, refl))

-- nothing is kept of what is done
none_kept : {P : Type 0} (o : Option P) → not (is_some o) ≡ true → o ≡ None
none_kept None h = refl
none_kept (Some p) h = absurd (cc h)

-- a set less than another of its block is of an earlier batch
earlier : (a b : SetId) → set_cmp a b ≡ Less → a.block ≡ b.block → a.batch < b.batch
earlier a b less same = go (nat_cmp a.batch b.batch) refl less
  where
    level : nat_cmp a.block b.block ≡ Equal
    level = grind (arith, nat_tests)

    go : (r : Ordering) → nat_cmp a.batch b.batch ≡ r → ordering_then r (nat_cmp a.block b.block) ≡ Less → a.batch < b.batch
    go Less is h = ranked a.batch b.batch Less (sym is)
    go Equal is h = absurd (cc (h, level))
    go Greater is h = absurd (cc h)

-- where a test passes first
position_is : {X : Type 0} (p : X → Bool) (xs : List X) (i : ℕ) (d : X) → i < length xs → p (get_or xs i d) ≡ true → ((k : ℕ) → k < i → p (get_or xs k d) ≡ false) → position p xs ≡ Some i
position_is p xs i d within passes before =
    let e : position_or_len p xs ≡ i = position_or_len_is p xs i d (omega arith) before (λ lt. passes) in
    let lt : nat_lt i (length xs) ≡ true = grind (arith, nat_tests) in
    subst (λ (n : ℕ). cond (nat_lt n (length xs)) (Some n) None ≡ Some i) (sym e) (ap (λ b. cond b (Some i) None) lt)

-- a position that is found is within
position_within : {X : Type 0} (p : X → Bool) (xs : List X) (i : ℕ) → position p xs ≡ Some i → i < length xs
position_within p [] i h = absurd (cc h)
position_within p (x ∷ xs) i h = (position-Some p (x ∷ xs) i x h).0

module _ {P : Type 0} (sets : List (Kept P)) (sorted : T (is_sorted set_cmp sets)) where
  -- an open set is the first unfinished one of its block
  pub open_front : (edges : List (ℕ × ℕ)) (at : ℕ) (set : SetId) (kept : P) → slice_get sets at ≡ Some (set, Some kept) → WaitsForNothing edges sets set → position (is_unfinished_in set.block) sets ≡ Some at
  open_front edges at set kept there passed =
      position_is (is_unfinished_in set.block) sets at d (slice_get_within sets at d there)
      (ap (is_unfinished_in set.block) (get_or_from_slice_get sets at d d there) ∙ and_both (set.block == set.block) true (equal_number set.block set.block refl) refl)
      (λ k lt. unlike (is_unfinished_in set.block (get_or sets k d)) (λ left. none k lt left))
    where
      d : Kept P
      d = (set, Some kept)

      none : (k : ℕ) → k < at → is_unfinished_in set.block (get_or sets k d) ≡ true → ⊥
      none k lt left =
          let within : at < length sets = slice_get_within sets at d there in
          let e : Kept P = get_or sets k d in
          let first : slice_get sets k ≡ Some e = slice_get-get_or sets k d (omega arith) in
          let gives = left_gives set.block e left in
          let less = earlier e.0 set (less_there sets sorted k at e d first there lt) gives.0 in
          let gone : kept_of e.0 sets ≡ None = passed e.0 (inr (gives.0, less)) in
          let stands : kept_of e.0 sets ≡ e.1 = kept_there sets sorted k e.0 e.1 first in
          let none : None ≡ Some gives.1.0 = sym gone ∙ stands ∙ gives.1.1 in
          cc none

  module _ (edges : List (ℕ × ℕ)) (at : ℕ) (set : SetId) (kept : P) (there : slice_get sets at ≡ Some (set, Some kept)) (front : position (is_unfinished_in set.block) sets ≡ Some at) where
    abbrev d : Kept P
    d = (set, Some kept)

    -- no unfinished set of the block and an earlier batch is there
    none_before : (other : SetId) (q : P) (i : ℕ) → slice_get sets i ≡ Some (other, Some q) → other.block ≡ set.block → other.batch < set.batch → ⊥
    none_before other q i stands same lt = go (cases_order i at)
      where
        go : (i ≡ at) ⊎ ((i < at) ⊎ (at < i)) → ⊥
        go (inl e) =
            let both : Some (other, Some q) ≡ Some d = sym stands ∙ ap (λ n. slice_get sets n) e ∙ there in
            let one : other ≡ set = ap (λ (r : Option (Kept P)). (unwrap_or r d).0) both in
            let batch : other.batch ≡ set.batch = ap (λ (s : SetId). s.batch) one in
            omega arith
        go (inr (inl before)) =
            let fails : is_unfinished_in set.block (get_or sets i d) ≡ false = (position-Some (is_unfinished_in set.block) sets at d front).2 i before in
            let passes : is_unfinished_in set.block (get_or sets i d) ≡ true =
            ap (is_unfinished_in set.block) (get_or_from_slice_get sets i (other, Some q) d stands) ∙ and_both (other.block == set.block) true (equal_number other.block set.block same) refl in
            let both : true ≡ false = sym passes ∙ fails in
            cc both
        go (inr (inr after)) =
            let less : set.batch < other.batch = earlier set other (less_there sets sorted at i d (other, Some q) there stands after) (sym same) in
            omega arith

    -- with the sets of its sources finished, it waits for nothing more
    pub passes : (sources : List ℕ) → AreSources edges set.block sources → are_done set.batch sources sets ≡ true → WaitsForNothing edges sets set
    passes sources are done other (inl (batch, edge)) =
        let all = AllPass-from_list_all (λ (block : ℕ). is_done (record { batch = set.batch; block = block }) sets) sources done in
        let is : is_done (record { batch = set.batch; block = other.block }) sets ≡ true = All-contains (λ (block : ℕ). is_done (record { batch = set.batch; block = block }) sets ≡ true) sources other.block all ((are other.block).1 edge) in
        none_kept (kept_of other sets) (ap (λ (b : ℕ). is_done (record { batch = b; block = other.block }) sets) batch ∙ is)
    passes sources are done other (inr (block, batch)) = go (kept_of other sets) refl
      where
        go : (o : Option P) → kept_of other sets ≡ o → o ≡ None
        go None is = refl
        go (Some q) is = let stands = there_kept sets sorted other q is in absurd (none_before other q stands.0 stands.1 block batch)

    -- and where it waits for nothing more, they are finished
    pub passed : (sources : List ℕ) → AreSources edges set.block sources → WaitsForNothing edges sets set → are_done set.batch sources sets ≡ true
    passed sources are h = list_all-from_AllPass (λ (block : ℕ). is_done (record { batch = set.batch; block = block }) sets) sources
        (λ k d lt. ap (λ o. not (is_some o)) (h (record { batch = set.batch; block = get_or sources k d }) (inl (refl, (are (get_or sources k d)).0 (Contains-get_or sources k d lt)))))

-- whether a front is open, by its sources alone: as it is found, with the set and the sources that are read
pub open_by : {P : Type 0} (edges : List (ℕ × ℕ)) (sets : List (Kept P)) (sources : List (Vec ℕ Global)) (blocks at : ℕ) → AreSets blocks sets → AreAllSources edges blocks sources → IsFront sets at
    → (e : Kept P) → e ≡ get_or sets at e → (block : ℕ) → block ≡ e.0.block → (list : Vec ℕ Global) → list ≡ get_or sources block list → (r : Bool) → r ≡ are_done e.0.batch list.items sets
    → IsTrue r ↔ IsOpenSet edges sets at
open_by {P} edges sets sources blocks at kept all front e read block of list listed r is = (opens, is_done_there)
  where
    same : e ≡ (front.set, Some front.kept)
    same = read ∙ get_or_from_slice_get sets at (front.set, Some front.kept) e front.there

    own : block ≡ front.set.block
    own = of ∙ ap (λ (x : Kept P). x.0.block) same

    within : block < blocks
    within = subst (λ (n : ℕ). n < blocks) (sym own) (kept.inside at (front.set, Some front.kept) front.there)

    stands : slice_get sources block ≡ Some list
    stands = slice_get_read sources blocks block list (sym all.all) within listed

    sourced : AreSources edges front.set.block list.items
    sourced = subst (λ (b : ℕ). AreSources edges b list.items) own (all.each block list stands)

    tested : r ≡ are_done front.set.batch list.items sets
    tested = is ∙ ap (λ (x : Kept P). are_done x.0.batch list.items sets) same

    opens : IsTrue r → IsOpenSet edges sets at
    opens h = record {
      set = front.set;
      kept = front.kept;
      there = front.there;
      passed = passes sets kept.ascend edges at front.set front.kept front.there front.first list.items sourced (sym tested ∙ h);
    }

    is_done_there : IsOpenSet edges sets at → IsTrue r
    is_done_there h =
        let one : h.set ≡ front.set = ap (λ (o : Option (Kept P)). (unwrap_or o (front.set, Some front.kept)).0) (sym h.there ∙ front.there) in
        tested ∙ passed sets kept.ascend edges at front.set front.kept front.there front.first list.items sourced (subst (λ (s : SetId). WaitsForNothing edges sets s) one h.passed)

-- where the first unfinished set of a block is found, it stands
pub left_stands : {P : Type 0} (sets : List (Kept P)) (block at : ℕ) → position (is_unfinished_in block) sets ≡ Some at → IsFront sets at
left_stands {P} sets block at is = go (item_at sets at within)
  where
    within : at < length sets
    within = position_within (is_unfinished_in block) sets at is

    go : (e : Kept P) × (slice_get sets at ≡ Some e) → IsFront sets at
    go (e, there) =
        let passes : is_unfinished_in block e ≡ true = ap (is_unfinished_in block) (sym (get_or_from_slice_get sets at e e there)) ∙ (position-Some (is_unfinished_in block) sets at e is).1 in
        let gives = left_gives block e passes in
        record {
          set = e.0;
          kept = gives.1.0;
          there = there ∙ (λ i. Some (e.0, gives.1.1 i));
          first = ap (λ (b : ℕ). position (is_unfinished_in b) sets) gives.0 ∙ is;
        }

-- it is of the block
pub front_block : {P : Type 0} (sets : List (Kept P)) (block at : ℕ) → position (is_unfinished_in block) sets ≡ Some at → (set : SetId) (kept : P) → slice_get sets at ≡ Some (set, Some kept) → set.block ≡ block
front_block {P} sets block at is set kept there =
    let d : Kept P = (set, Some kept) in
    (left_gives block d (ap (is_unfinished_in block) (sym (get_or_from_slice_get sets at d d there)) ∙ (position-Some (is_unfinished_in block) sets at d is).1)).0

-- before an open set no unfinished one of its block stands, nor does once it is finished
pub none_left : {P : Type 0} (edges : List (ℕ × ℕ)) (blocks at : ℕ) (sets new : List (Kept P)) → AreSets blocks sets → IsOpenSet edges sets at → new ≡ with_kept_at sets at None → (e : Kept P) → e ≡ get_or sets at e
    → (k : ℕ) (other : Kept P) → k < at → slice_get new k ≡ Some other → is_unfinished_in e.0.block other ≡ false
none_left {P} edges blocks at sets new are it is e read k other lt there =
    let d : Kept P = (it.set, Some it.kept) in
    let front = open_front sets are.ascend edges at it.set it.kept it.there it.passed in
    let fails : is_unfinished_in it.set.block (get_or sets k d) ≡ false = (position-Some (is_unfinished_in it.set.block) sets at d front).2 k lt in
    let stood : slice_get sets k ≡ Some other = sym (earlier_stay sets at None k lt) ∙ ap (λ s. slice_get s k) (sym is) ∙ there in
    let own : e ≡ d = read ∙ get_or_from_slice_get sets at d e it.there in
    (λ i. is_unfinished_in ((ap (λ (x : Kept P). x.0.block) own) i) (sym (get_or_from_slice_get sets k other d stood) i)) ∙ fails

-- the block of an open set is one of the blocks
pub open_block : {P : Type 0} (edges : List (ℕ × ℕ)) (blocks at block : ℕ) (sets : List (Kept P)) → AreSets blocks sets → IsOpenSet edges sets at → (e : Kept P) → e ≡ get_or sets at e → block ≡ e.0.block → block < blocks
open_block {P} edges blocks at block sets are it e read of =
    let d : Kept P = (it.set, Some it.kept) in
    let own : e ≡ d = read ∙ get_or_from_slice_get sets at d e it.there in
    subst (λ (n : ℕ). n < blocks) (sym (of ∙ ap (λ (x : Kept P). x.0.block) own)) (are.inside at d it.there)

-- ---- a search from an offset on, before which nothing passes

abbrev pub FailsBefore : {X : Type 0} → (X → Bool) → List X → ℕ → Type 0
FailsBefore {X} p xs n = (k : ℕ) (x : X) → k < n → slice_get xs k ≡ Some x → p x ≡ false

-- what passes next is first
pub first_found : {X : Type 0} (p : X → Bool) (xs : List X) (at : ℕ) (e : X) → FailsBefore p xs at → e ≡ get_or xs at e → at < length xs → p e ≡ true → Some at ≡ position p xs
first_found p xs at e fails read within passes =
    sym (position_is p xs at e within (ap p (sym read) ∙ passes) (λ k lt. fails k (get_or xs k e) lt (slice_get-get_or xs k e (omega arith))))

-- what fails next is one more
pub fails_next : {X : Type 0} (p : X → Bool) (xs : List X) (at : ℕ) (e : X) → FailsBefore p xs at → e ≡ get_or xs at e → p e ≡ false → FailsBefore p xs (at + 1)
fails_next {X} p xs at e fails read failed k x lt there = go (cases_order k at)
  where
    go : (k ≡ at) ⊎ ((k < at) ⊎ (at < k)) → p x ≡ false
    go (inl same) = ap p (sym (get_or_from_slice_get xs k x e there) ∙ ap (λ n. get_or xs n e) same ∙ sym read) ∙ failed
    go (inr (inl before)) = fails k x before there
    go (inr (inr after)) = absurd (omega arith)

-- where all fail, none is found
pub none_found : {X : Type 0} (p : X → Bool) (xs : List X) (at : ℕ) → FailsBefore p xs at → length xs ≤ at → None ≡ position p xs
none_found {X} p xs at fails all = go (position p xs) refl
  where
    go : (o : Option ℕ) → position p xs ≡ o → None ≡ position p xs
    go None is = sym is
    go (Some i) is = absurd (found (item_at xs i (position_within p xs i is)))
      where
        found : (x : X) × (slice_get xs i ≡ Some x) → ⊥
        found (x, there) =
            let passes : p x ≡ true = ap p (sym (get_or_from_slice_get xs i x x there)) ∙ (position-Some p xs i x is).1 in
            let within = position_within p xs i is in
            let fails_there : p x ≡ false = fails i x (omega arith) there in
            let both : true ≡ false = sym passes ∙ fails_there in
            cc both
