-- What becomes of sets where something else is kept of one, or a set is added.
use Rattle.std.proofs.Common.{◌≡◌, ◌⊎◌, ◌<◌, ◌≤◌, ◌+◌, ◌&&◌, ℕ, zero, suc, Bool, true, false, cond, not, eqb, T, List, [], ◌∷◌, ◌++◌, length, get_or, Option, Some, None, refl, sym, ap, subst, ◌∙◌, arith, inl, inr}
use Rattle.std.proofs.lemmas.Bool.{cases_lt}
use Rattle.std.proofs.Common.{set as list_set, is_lt, take, ◌-◌, IsSome}
use Rattle.std.specs.Prelude.{unwrap_or, slice_get, position, nat_lt, ◌==◌}
use Rattle.std.specs.List.{position_or_len}
use Rattle.std.specs.FinMap.{is_sorted}
use Rattle.std.specs.FinMap.Entries.{below_all}
use Rattle.std.proofs.lemmas.Option.{slice_get_within, get_or_from_slice_get, slice_get-get_or, slice_get_read}
use Rattle.std.proofs.lemmas.List.{length-set, length_push, get_or-set_same, get_or-set_other, get_or_append_left, get_or-append-add, length-append, length-take, length-take-le, take_more}
use Rattle.std.proofs.lemmas.List.Folds.{position_or_len-set, position_or_len_push, length-prefix_len}
use Rattle.std.proofs.lemmas.Bool.{cases_eq}
use Rattle.std.proofs.lemmas.Bool.Decides.{nat_tests}
use Rattle.pac_base.proofs.TestLemmas.{same_number, equal_number, and_both, and_left, unlike}
use Rattle.std.specs.Global.{Global}
use Rattle.std.specs.Prelude.{Vec}
use Rattle.pac_sets.specs.declared.set_id.SetId.{SetId}
use Rattle.pac_sets.specs.SetOrder.{set_cmp}
use Rattle.pac_sets.specs.Sets.{Kept, AreLeft, with_kept_at, is_unfinished_in, front_or, AreSets, AreAllSources, AreFronts, IsUnfinished}

-- what else is kept, written into the list
pub with_kept_set : {P : Type 0} (sets : List (Kept P)) (at : ℕ) (kept : Option P) (d : Kept P) → at < length sets → list_set sets at ((get_or sets at d).0, kept) ≡ with_kept_at sets at kept
with_kept_set [] at kept d lt = absurd (omega arith)
with_kept_set (s ∷ sets) zero kept d lt = refl
with_kept_set (s ∷ sets) (suc at) kept d lt = ap (λ (r : List (Kept _)). s ∷ r) (with_kept_set sets at kept d (omega arith))

pub length-with_kept_at : {P : Type 0} (sets : List (Kept P)) (at : ℕ) (kept : Option P) → length (with_kept_at sets at kept) ≡ length sets
length-with_kept_at [] at kept = refl
length-with_kept_at (s ∷ sets) zero kept = refl
length-with_kept_at (s ∷ sets) (suc at) kept = ap suc (length-with_kept_at sets at kept)

-- the numbers of the sets stay
pub numbers_stay : {P : Type 0} (sets : List (Kept P)) (at : ℕ) (kept : Option P) (j : ℕ) (e : Kept P) → slice_get (with_kept_at sets at kept) j ≡ Some e → (p : Option P) × (slice_get sets j ≡ Some (e.0, p))
numbers_stay [] at kept j e h = absurd (cc h)
numbers_stay {P} (s ∷ sets) zero kept zero e h = (s.1, λ i. Some ((unwrap_or (h i) e).0, s.1))
numbers_stay (s ∷ sets) zero kept (suc j) e h = (e.1, h)
numbers_stay (s ∷ sets) (suc at) kept zero e h = (e.1, h)
numbers_stay (s ∷ sets) (suc at) kept (suc j) e h = numbers_stay sets at kept j e h

-- what stands before it stays
pub earlier_stay : {P : Type 0} (sets : List (Kept P)) (at : ℕ) (kept : Option P) (k : ℕ) → k < at → slice_get (with_kept_at sets at kept) k ≡ slice_get sets k
earlier_stay [] at kept k lt = refl
earlier_stay (s ∷ sets) zero kept k lt = absurd (omega arith)
earlier_stay (s ∷ sets) (suc at) kept zero lt = refl
earlier_stay (s ∷ sets) (suc at) kept (suc k) lt = earlier_stay sets at kept k (omega arith)

-- and so does their order
below_stays : {P : Type 0} (set : SetId) (sets : List (Kept P)) (at : ℕ) (kept : Option P) → below_all set_cmp set (with_kept_at sets at kept) ≡ below_all set_cmp set sets
below_stays set [] at kept = refl
below_stays set (s ∷ sets) zero kept = refl
below_stays set (s ∷ sets) (suc at) kept = ap (λ b. is_lt (set_cmp set s.0) && b) (below_stays set sets at kept)

pub sorted_stays : {P : Type 0} (sets : List (Kept P)) (at : ℕ) (kept : Option P) → is_sorted set_cmp (with_kept_at sets at kept) ≡ is_sorted set_cmp sets
sorted_stays [] at kept = refl
sorted_stays (s ∷ sets) zero kept = refl
sorted_stays (s ∷ sets) (suc at) kept = λ i. below_stays s.0 sets at kept i && sorted_stays sets at kept i

pub sets_stay : {P : Type 0} (blocks : ℕ) (sets : List (Kept P)) (at : ℕ) (kept : Option P) → AreSets blocks sets → AreSets blocks (with_kept_at sets at kept)
sets_stay blocks sets at kept are = record {
  ascend = subst T (sym (sorted_stays sets at kept)) are.ascend;
  inside = λ j e there. let was = numbers_stay sets at kept j e there in are.inside j (e.0, was.0) was.1;
}

-- ---- the first unfinished sets

-- a test that answers the same of what is kept now passes first where it did
first_stays : {P : Type 0} (p : Kept P → Bool) (sets : List (Kept P)) (at : ℕ) (kept : Option P) (set : SetId) (old : Option P) → slice_get sets at ≡ Some (set, old) → p (set, kept) ≡ p (set, old)
    → position p (with_kept_at sets at kept) ≡ position p sets
first_stays {P} p sets at kept set old there same =
    let within : at < length sets = slice_get_within sets at (set, old) there in
    let d : Kept P = (set, old) in
    let is : get_or sets at d ≡ d = get_or_from_slice_get sets at d d there in
    let now : list_set sets at (set, kept) ≡ with_kept_at sets at kept = ap (λ (e : Kept P). list_set sets at (e.0, kept)) (sym is) ∙ with_kept_set sets at kept d within in
    let place : position_or_len p (with_kept_at sets at kept) ≡ position_or_len p sets = ap (position_or_len p) (sym now) ∙ position_or_len-set p sets at (set, kept) d (same ∙ ap p (sym is)) in
    let len = length-with_kept_at sets at kept in
    λ i. cond (nat_lt (place i) (len i)) (Some (place i)) None

-- where something else is kept of an unfinished set, no front moves
pub fronts_stay : {P : Type 0} (blocks : ℕ) (fronts : List (Option ℕ)) (sets : List (Kept P)) (at : ℕ) (kept : P) (set : SetId) (old : P) → slice_get sets at ≡ Some (set, Some old)
    → AreFronts blocks fronts sets → AreFronts blocks fronts (with_kept_at sets at (Some kept))
fronts_stay blocks fronts sets at kept set old there are = record {
  all = are.all;
  each = λ block front found. are.each block front found ∙ sym (first_stays (is_unfinished_in block) sets at (Some kept) set (Some old) there refl);
}

-- where a set is finished, the front of its block moves
pub fronts_move : {P : Type 0} (blocks : ℕ) (fronts : List (Option ℕ)) (sets : List (Kept P)) (at : ℕ) (set : SetId) (old : P) → slice_get sets at ≡ Some (set, Some old)
    → AreFronts blocks fronts sets → (front : Option ℕ) → front ≡ position (is_unfinished_in set.block) (with_kept_at sets at None)
    → AreFronts blocks (list_set fronts set.block front) (with_kept_at sets at None)
fronts_move blocks fronts sets at set old there are front is = record {
  all = length-set fronts set.block front ∙ are.all;
  each = each;
}
  where
    neither : (block : ℕ) → (block ≡ set.block → ⊥) → (set.block == block && false) ≡ (set.block == block && true)
    neither block other = go (set.block == block) refl
      where
        go : (b : Bool) → (set.block == block) ≡ b → (b && false) ≡ (b && true)
        go true h = absurd (other (sym (same_number set.block block h)))
        go false h = refl

    each : (block : ℕ) (f : Option ℕ) → slice_get (list_set fronts set.block front) block ≡ Some f → f ≡ position (is_unfinished_in block) (with_kept_at sets at None)
    each block f found = go (cases_eq block set.block)
      where
        within : block < length fronts
        within = subst (λ (n : ℕ). block < n) (length-set fronts set.block front) (slice_get_within (list_set fronts set.block front) block f found)

        go : (block ≡ set.block) ⊎ (block ≡ set.block → ⊥) → f ≡ position (is_unfinished_in block) (with_kept_at sets at None)
        go (inl same) =
            let read : get_or (list_set fronts set.block front) block f ≡ f = get_or_from_slice_get (list_set fronts set.block front) block f f found in
            let wrote : get_or (list_set fronts set.block front) block f ≡ front = ap (λ (n : ℕ). get_or (list_set fronts set.block front) n f) same ∙ get_or-set_same fronts set.block front f (subst (λ (n : ℕ). n < length fronts) same within) in
            sym read ∙ wrote ∙ is ∙ ap (λ (n : ℕ). position (is_unfinished_in n) (with_kept_at sets at None)) (sym same)
        go (inr other) =
            let read : get_or (list_set fronts set.block front) block f ≡ f = get_or_from_slice_get (list_set fronts set.block front) block f f found in
            let kept : get_or fronts block f ≡ f = sym (get_or-set_other fronts set.block block front f other) ∙ read in
            let stood : slice_get fronts block ≡ Some f = slice_get-get_or fronts block f within ∙ ap Some kept in
            are.each block f stood ∙ sym (first_stays (is_unfinished_in block) sets at None set (Some old) there (neither block other))

-- ---- one set more

-- a first position n of len, and the one with one more
spot : (n len m more : ℕ) (b : Bool) → n ≤ len → m ≡ cond (eqb n len) (len + cond b 0 1) n → more ≡ len + 1
    → cond (nat_lt m more) (Some m) None ≡ cond b (front_or (cond (nat_lt n len) (Some n) None) len) (cond (nat_lt n len) (Some n) None)
spot n len m more b within is one = go (cases_lt n len) b is
  where
    go : (n < len) ⊎ (len ≤ n) → (b : Bool) → m ≡ cond (eqb n len) (len + cond b 0 1) n
        → cond (nat_lt m more) (Some m) None ≡ cond b (front_or (cond (nat_lt n len) (Some n) None) len) (cond (nat_lt n len) (Some n) None)
    go (inl lt) b is =
        let unlike : eqb n len ≡ false = grind (arith, nat_tests) in
        let same : m ≡ n = is ∙ ap (λ c. cond c (len + cond b 0 1) n) unlike in
        let old : nat_lt n len ≡ true = grind (arith, nat_tests) in
        let new : nat_lt m more ≡ true = grind (arith, nat_tests) in
        let left : cond (nat_lt m more) (Some m) None ≡ Some n = ap (λ c. cond c (Some m) None) new ∙ ap Some same in
        let right : cond b (front_or (Some n) len) (Some n) ≡ Some n = elim b as (λ c. cond c (front_or (Some n) len) (Some n) ≡ Some n) [ true ↦ refl | false ↦ refl ] in
        left ∙ sym (ap (λ c. cond b (front_or (cond c (Some n) None) len) (cond c (Some n) None)) old ∙ right)
    go (inr least) true is =
        let alike : eqb n len ≡ true = grind (arith, nat_tests) in
        let same : m ≡ len + 0 = is ∙ ap (λ c. cond c (len + 0) n) alike in
        let old : nat_lt n len ≡ false = grind (arith, nat_tests) in
        let new : nat_lt m more ≡ true = grind (arith, nat_tests) in
        let end : m ≡ len = omega arith in
        ap (λ c. cond c (Some m) None) new ∙ ap Some end ∙ sym (ap (λ c. front_or (cond c (Some n) None) len) old)
    go (inr least) false is =
        let alike : eqb n len ≡ true = grind (arith, nat_tests) in
        let same : m ≡ len + 1 = is ∙ ap (λ c. cond c (len + 1) n) alike in
        let old : nat_lt n len ≡ false = grind (arith, nat_tests) in
        let new : nat_lt m more ≡ false = grind (arith, nat_tests) in
        ap (λ c. cond c (Some m) None) new ∙ sym (ap (λ c. cond c (Some n) None) old)

-- the first position at which a test passes, with one more at the end
pub first_push : {X : Type 0} (p : X → Bool) (xs : List X) (y : X) → position p (xs ++ y ∷ []) ≡ cond (p y) (front_or (position p xs) (length xs)) (position p xs)
first_push p xs y =
    let within : position_or_len p xs ≤ length xs = subst (λ (n : ℕ). n ≤ length xs) (length-prefix_len (λ x. not (p x)) xs) (omega (arith, length-take (position_or_len p xs) xs)) in
    spot (position_or_len p xs) (length xs) (position_or_len p (xs ++ y ∷ [])) (length (xs ++ y ∷ [])) (p y) within (position_or_len_push p xs y) (length_push xs y)

pub fronts_push : {P : Type 0} (blocks : ℕ) (fronts : List (Option ℕ)) (sets : List (Kept P)) (set : SetId) (kept : P) (front : Option ℕ) → AreFronts blocks fronts sets
    → set.block < blocks → front ≡ get_or fronts set.block front → AreFronts blocks (list_set fronts set.block (front_or front (length sets))) (sets ++ (set, Some kept) ∷ [])
fronts_push {P} blocks fronts sets set kept front are within read = record {
  all = length-set fronts set.block next ∙ are.all;
  each = each;
}
  where
    next : Option ℕ
    next = front_or front (length sets)

    old : front ≡ position (is_unfinished_in set.block) sets
    old = are.each set.block front (slice_get_read fronts blocks set.block front (sym are.all) within read)

    each : (block : ℕ) (f : Option ℕ) → slice_get (list_set fronts set.block next) block ≡ Some f → f ≡ position (is_unfinished_in block) (sets ++ (set, Some kept) ∷ [])
    each block f found = go (cases_eq block set.block)
      where
        inside : block < length fronts
        inside = subst (λ (n : ℕ). block < n) (length-set fronts set.block next) (slice_get_within (list_set fronts set.block next) block f found)

        is : get_or (list_set fronts set.block next) block f ≡ f
        is = get_or_from_slice_get (list_set fronts set.block next) block f f found

        not_left : (block ≡ set.block → ⊥) → is_unfinished_in block (set, Some kept) ≡ false
        not_left other = unlike (is_unfinished_in block (set, Some kept)) (λ h. other (sym (same_number set.block block (and_left (set.block == block) true h))))

        go : (block ≡ set.block) ⊎ (block ≡ set.block → ⊥) → f ≡ position (is_unfinished_in block) (sets ++ (set, Some kept) ∷ [])
        go (inl same) =
            let wrote : get_or (list_set fronts set.block next) block f ≡ next = ap (λ (n : ℕ). get_or (list_set fronts set.block next) n f) same ∙ get_or-set_same fronts set.block next f (subst (λ (n : ℕ). n < length fronts) same inside) in
            let left : is_unfinished_in set.block (set, Some kept) ≡ true = and_both (set.block == set.block) true (equal_number set.block set.block refl) refl in
            let first = first_push (is_unfinished_in set.block) sets (set, Some kept) in
            let own : next ≡ position (is_unfinished_in set.block) (sets ++ (set, Some kept) ∷ []) =
            ap (λ (o : Option ℕ). front_or o (length sets)) old ∙ sym (first ∙ ap (λ c. cond c (front_or (position (is_unfinished_in set.block) sets) (length sets)) (position (is_unfinished_in set.block) sets)) left) in
            sym is ∙ wrote ∙ own ∙ ap (λ (n : ℕ). position (is_unfinished_in n) (sets ++ (set, Some kept) ∷ [])) (sym same)
        go (inr other) =
            let stood : slice_get fronts block ≡ Some f = slice_get-get_or fronts block f inside ∙ ap Some (sym (get_or-set_other fronts set.block block next f other) ∙ is) in
            let fails : is_unfinished_in block (set, Some kept) ≡ false = not_left other in
            are.each block f stood ∙ sym (first_push (is_unfinished_in block) sets (set, Some kept) ∙ ap (λ c. cond c (front_or (position (is_unfinished_in block) sets) (length sets)) (position (is_unfinished_in block) sets)) fails)

-- ---- all that is kept of sets, as it is found in their fields

abbrev pub Holds : {P : Type 0} → List (ℕ × ℕ) → List (Vec ℕ Global) → List (Option ℕ) → List (Kept P) → Type 0
Holds edges sources fronts sets = AreSets (length fronts) sets × AreAllSources edges (length fronts) sources × AreFronts (length fronts) fronts sets

pub holds_keep : {P : Type 0} (edges : List (ℕ × ℕ)) (sources : List (Vec ℕ Global)) (fronts : List (Option ℕ)) (sets new : List (Kept P)) (at : ℕ) (kept : P) → IsUnfinished sets at
    → new ≡ with_kept_at sets at (Some kept) → Holds edges sources fronts sets → Holds edges sources fronts new
holds_keep {P} edges sources fronts sets new at kept left is h =
    subst (λ (n : List (Kept P)). Holds edges sources fronts n) (sym is)
    (sets_stay (length fronts) sets at (Some kept) h.0, h.1, fronts_stay (length fronts) fronts sets at kept left.0 left.1 left.2 h.2)

-- the blocks are as many as they were
moved_sources : (edges : List (ℕ × ℕ)) (sources : List (Vec ℕ Global)) (n m : ℕ) → n ≡ m → AreAllSources edges n sources → AreAllSources edges m sources
moved_sources edges sources n m same h = subst (λ (k : ℕ). AreAllSources edges k sources) same h

pub holds_finish : {P : Type 0} (edges : List (ℕ × ℕ)) (sources : List (Vec ℕ Global)) (fronts : List (Option ℕ)) (sets new seen : List (Kept P)) (at block : ℕ) (e : Kept P) (front : Option ℕ) → IsUnfinished sets at
    → e ≡ get_or sets at e → block ≡ e.0.block → new ≡ with_kept_at sets at None → seen ≡ new → front ≡ position (is_unfinished_in e.0.block) seen → Holds edges sources fronts sets → Holds edges sources (list_set fronts block front) new
holds_finish {P} edges sources fronts sets new seen at block e front left read of is same first h = (
  subst (λ (k : ℕ). AreSets k new) len (subst (λ (n : List (Kept P)). AreSets (length fronts) n) (sym is) (sets_stay (length fronts) sets at None h.0)),
  moved_sources edges sources (length fronts) (length (list_set fronts block front)) len h.1,
  subst (λ (k : ℕ). AreFronts k (list_set fronts block front) new) len moved,
)
  where
    len : length fronts ≡ length (list_set fronts block front)
    len = sym (length-set fronts block front)

    one : e ≡ (left.0, Some left.1)
    one = read ∙ get_or_from_slice_get sets at (left.0, Some left.1) e left.2

    own : block ≡ left.0.block
    own = of ∙ ap (λ (x : Kept P). x.0.block) one

    found : front ≡ position (is_unfinished_in left.0.block) (with_kept_at sets at None)
    found = first ∙ (λ i. position (is_unfinished_in ((ap (λ (x : Kept P). x.0.block) one) i)) ((same ∙ is) i))

    moved : AreFronts (length fronts) (list_set fronts block front) new
    moved = subst (λ (b : ℕ). AreFronts (length fronts) (list_set fronts b front) new) (sym own)
        (subst (λ (n : List (Kept P)). AreFronts (length fronts) (list_set fronts left.0.block front) n) (sym is) (fronts_move (length fronts) fronts sets at left.0 left.1 left.2 h.2 front found))

-- what is left of more sets is left of all, behind the others
pub left_behind : {P : Type 0} (blocks : ℕ) (sets more : List (Kept P)) → AreLeft blocks 0 more → AreLeft blocks (length sets) (sets ++ more)
left_behind {P} blocks sets more left j e past there =
    let n : ℕ = j - length sets in
    let at : length sets + n ≡ j = omega arith in
    let within : length sets + n < length sets + length more = subst (λ (k : ℕ). length sets + n < k) (length-append sets more) (subst (λ (k : ℕ). k < length (sets ++ more)) (sym at) (slice_get_within (sets ++ more) j e there)) in
    let few : n < length more = omega arith in
    left n e (omega arith) (slice_get-get_or more n e few ∙ ap Some (sym (get_or-append-add sets more n e) ∙ ap (λ (k : ℕ). get_or (sets ++ more) k e) at ∙ get_or_from_slice_get (sets ++ more) j e e there))

-- with sets added that ascend with the others, where their fronts are known
pub holds_add : {P : Type 0} (edges : List (ℕ × ℕ)) (sources : List (Vec ℕ Global)) (fronts next : List (Option ℕ)) (sets more new : List (Kept P)) → Holds edges sources fronts sets
    → T (is_sorted set_cmp (sets ++ more)) → AreLeft (length fronts) 0 more → new ≡ sets ++ more → length next ≡ length fronts → AreFronts (length fronts) next new → Holds edges sources next new
holds_add {P} edges sources fronts next sets more new h sorted left is len seen = (
  subst (λ (k : ℕ). AreSets k new) (sym len) (subst (λ (n : List (Kept P)). AreSets (length fronts) n) (sym is) (record { ascend = sorted; inside = inside })),
  moved_sources edges sources (length fronts) (length next) (sym len) h.1,
  subst (λ (k : ℕ). AreFronts k next new) (sym len) seen,
)
  where
    inside : (j : ℕ) (e : Kept P) → slice_get (sets ++ more) j ≡ Some e → e.0.block < length fronts
    inside j e there = go (cases_lt j (length sets))
      where
        go : (j < length sets) ⊎ (length sets ≤ j) → e.0.block < length fronts
        go (inl old) = h.0.inside j e (slice_get-get_or sets j e old ∙ ap Some (sym (get_or_append_left sets more e j old) ∙ get_or_from_slice_get (sets ++ more) j e e there))
        go (inr past) = (left_behind (length fronts) sets more left j e past there).0

-- the block of a set that is left
pub left_block : {P : Type 0} (blocks : ℕ) (sets : List (Kept P)) (from at : ℕ) (e : Kept P) (block : ℕ) → AreLeft blocks from sets → from ≤ at → at < length sets → e ≡ get_or sets at e → block ≡ e.0.block → block < blocks
left_block blocks sets from at e block left past within read of =
    let there : slice_get sets at ≡ Some e = slice_get_read sets (length sets) at e refl within read in
    subst (λ (n : ℕ). n < blocks) (sym of) (left at e past there).0

-- one set more was seen
pub fronts_next : {P : Type 0} (blocks : ℕ) (fronts : List (Option ℕ)) (sets : List (Kept P)) (from at : ℕ) (e : Kept P) (block : ℕ) (front next : Option ℕ)
    → AreFronts blocks fronts (take at sets) → at < length sets → from ≤ at → AreLeft blocks from sets → e ≡ get_or sets at e → block ≡ e.0.block → front ≡ get_or fronts block front → next ≡ front_or front at
    → AreFronts blocks (list_set fronts block next) (take (at + 1) sets)
fronts_next {P} blocks fronts sets from at e block front next are within past left read of was is = go e.1 refl own.1
  where
    there : slice_get sets at ≡ Some e
    there = slice_get_read sets (length sets) at e refl within read

    own : (e.0.block < blocks) × IsSome e.1
    own = left at e past there

    goes : next ≡ front_or front (length (take at sets))
    goes = is ∙ ap (front_or front) (sym (length-take-le at sets (omega arith)))

    go : (o : Option P) → e.1 ≡ o → IsSome o → AreFronts blocks (list_set fronts block next) (take (at + 1) sets)
    go None none some = cc some
    go (Some p) kept some =
        let last : get_or sets at e ≡ (e.0, Some p) = sym read ∙ (λ i. (e.0, kept i)) in
        let more : take (at + 1) sets ≡ take at sets ++ (e.0, Some p) ∷ [] = take_more sets at e within ∙ ap (λ (x : Kept P). take at sets ++ x ∷ []) last in
        subst (λ (s : List (Kept P)). AreFronts blocks (list_set fronts block next) s) (sym more)
        (subst (λ (f : List (Option ℕ)). AreFronts blocks f (take at sets ++ (e.0, Some p) ∷ [])) (λ i. list_set fronts (sym of i) (sym goes i))
        (fronts_push blocks fronts (take at sets) e.0 p front are own.0 (was ∙ ap (λ (b : ℕ). get_or fronts b front) of)))
