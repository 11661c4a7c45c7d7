-- An opening keeps the rule, and so does the count of a pair.
use Rattle.std.proofs.Common.{◌≡◌, ◌≢◌, ℕ, zero, suc, ◌+◌, ◌-◌, ◌*◌, ◌%◌, ◌^◌, ◌<◌, ◌≤◌, Bool, true, false, eqb, List, [], ◌∷◌, ◌++◌, length, get_or, set, sym, refl, ap, ◌∙◌, subst, ⊎_elim, eq-eqb, ne_eqb, arith, length-set, length-append, get_or-set_same, get_or-set_other}
use mathlib.Core.Logic.{dite}
use mathlib.Core.Option.{none, some}
use native.Mathlib.Decide.{ℕ_discrete}
use lib.ListN.{get_elem?}
use Rattle.atomic_table.specs.Table.{State, step, keeps, stepped, Allows}
use Rattle.atomic_table.proofs.Lists.{at_set}
use Rattle.pac_countdown.specs.Lists.{one_if, same, same_pair, times_in, pair_times, pairs_to, sum_over, below}
use Rattle.pac_countdown.specs.Counted.{IsCounted, Fits, FitsKind, InOrder, agenda_pairs, starting, word, is_opener, is_lent, opened_in, handed_in, counted_in, counted_to, openers_in, lent_in}
use Rattle.pac_countdown.specs.Steps.{handed_more, after_open, HasOpened, TakesOne, after_count, HasCounted}
use Rattle.pac_countdown.specs.declared.deeds.Deeds.{Deeds}
use Rattle.pac_countdown.specs.declared.deeds.PassKind.{PassKind}
use Rattle.pac_countdown.specs.declared.deeds.PassKind.TheVariants.{Opener, Lent, Spent}
use Rattle.pac_countdown.specs.declared.deeds.Agenda.{Agenda}
use Rattle.pac_countdown.proofs.Sums.{same_yes, same_no, pair_yes, pair_no, pair_discrete, times_snoc, pair_times_append, pairs_to_append, over_set, over_at, inside_default}
use Rattle.pac_countdown.proofs.Facts.{none_handed, counted_within, counted_room, not_counted, not_waited, not_opened}

times_more : (q : ℕ) (xs : List ℕ) (p : ℕ) (b : Bool) → times_in q (handed_more xs p b) ≡ times_in q xs + same q p * one_if b
times_more q xs p true = let r = times_snoc q xs p in omega arith
times_more q xs p false = omega arith

zero_if : (n m : ℕ) → n ≡ m + 1 → one_if (eqb m 0) ≡ one_if (eqb n 1)
zero_if n zero e = ap one_if (sym (eq-eqb n 1 e))
zero_if n (suc m) e = ap one_if (ne_eqb (suc m) 0 (λ (h : suc m ≡ 0). omega arith)) ∙ ap one_if (sym (ne_eqb n 1 (λ (h : n ≡ 1). omega arith)))

-- One is taken from the word of p, and the pass has one more opening of p or one more counted pair to it, and is handed p where that left 0
module _ (agenda : Agenda) (s : State (Unit {0}) Deeds) (r : IsCounted agenda s) (id : ℕ) (v w : Deeds) (at : get_elem? s.views id ≡ some v) (p n m : ℕ) (inside : p < length s.words)
    (found : word s.words p ≡ n) (less : n ≡ m + 1) where
  others : (f : Deeds → ℕ) → sum_over f (set s.views id w) + f v ≡ sum_over f s.views + f w
  others f = over_set f s.views id v w at

  word_here : word (set s.words p m) p ≡ m
  word_here = get_or-set_same s.words p m 1 inside

  word_there : (q : ℕ) → q ≢ p → word (set s.words p m) q ≡ word s.words q
  word_there q ne = get_or-set_other s.words p q m 1 ne

  pub takes_one : ((q : ℕ) → times_in q w.opened + pairs_to q w.counted ≡ times_in q v.opened + pairs_to q v.counted + same q p)
      → ((q : ℕ) → opened_in q (set s.views id w) ≤ 1)
      → ((q : ℕ × ℕ) → counted_in q (set s.views id w) ≤ pair_times q (agenda_pairs agenda))
      → w.handed ≡ handed_more v.handed p (eqb n 1)
      → w.kind ≡ v.kind
      → Fits (agenda_pairs agenda) (lent_in s.views) w
      → IsCounted agenda (stepped s p m id [] w keeps)
  takes_one one once pairs_once now kind fits = record { size = length-set s.words p m ∙ r.size; counts = counts; opened_once = once; pairs_once = r.pairs_once; counted_once = pairs_once; handed = handed; one_opener = one_opener; each = each }
    where
      counts : (q : ℕ) → word (set s.words p m) q + opened_in q (set s.views id w) + counted_to q (set s.views id w) ≡ starting (agenda_pairs agenda) q
      counts q = let a = others (λ u. times_in q u.opened) in let b = others (λ u. pairs_to q u.counted) in let c = r.counts q in let d = one q in
          dite (ℕ_discrete q p)
          (λ e. let here : word (set s.words p m) q ≡ m = ap (word (set s.words p m)) e ∙ word_here in let before : word s.words q ≡ n = ap (word s.words) e ∙ found in let y = same_yes q p e in omega arith)
          (λ ne. let there = word_there q ne in let z = same_no q p ne in omega arith)

      handed : (q : ℕ) → handed_in q (set s.views id w) ≡ one_if (eqb (word (set s.words p m) q) 0)
      handed q = let a = others (λ u. times_in q u.handed) in let c = r.handed q in
          let d : times_in q w.handed ≡ times_in q v.handed + same q p * one_if (eqb n 1) = ap (times_in q) now ∙ times_more q v.handed p (eqb n 1) in
          dite (ℕ_discrete q p)
          (λ e. let here : one_if (eqb (word (set s.words p m) q) 0) ≡ one_if (eqb m 0) = ap (λ (x : ℕ). one_if (eqb x 0)) (ap (word (set s.words p m)) e ∙ word_here) in
          let before : one_if (eqb (word s.words q) 0) ≡ 0 = ap (λ (x : ℕ). one_if (eqb x 0)) (ap (word s.words) e ∙ found ∙ less) ∙ ap one_if (ne_eqb (m + 1) 0 (λ (h : m + 1 ≡ 0). omega arith)) in
          let y = same_yes q p e in let z = zero_if n m less in
          let d' : times_in q w.handed ≡ times_in q v.handed + one_if (eqb n 1) = d ∙ ap (λ (x : ℕ). times_in q v.handed + x * one_if (eqb n 1)) y ∙ omega arith in omega arith)
          (λ ne. let there : one_if (eqb (word (set s.words p m) q) 0) ≡ one_if (eqb (word s.words q) 0) = ap (λ (x : ℕ). one_if (eqb x 0)) (word_there q ne) in
          let d' : times_in q w.handed ≡ times_in q v.handed = d ∙ ap (λ (x : ℕ). times_in q v.handed + x * one_if (eqb n 1)) (same_no q p ne) ∙ omega arith in omega arith)

      one_opener : openers_in (set s.views id w) ≡ 1
      one_opener = let a = others (λ u. one_if (is_opener u.kind)) in let b = ap (λ (x : PassKind). one_if (is_opener x)) kind in let c = r.one_opener in omega arith

      lent_same : lent_in (set s.views id w) ≡ lent_in s.views
      lent_same = let a = others (λ u. one_if (is_lent u.kind)) in let b = ap (λ (x : PassKind). one_if (is_lent x)) kind in omega arith

      each : (i : ℕ) (u : Deeds) → get_elem? (set s.views id w) i ≡ some u → Fits (agenda_pairs agenda) (lent_in (set s.views id w)) u
      each i u e = subst (λ (k : ℕ). Fits (agenda_pairs agenda) k u) (sym lent_same)
          (⊎_elim (λ here. subst (Fits (agenda_pairs agenda) (lent_in s.views)) here.1 fits) (λ other. r.each i u other.1) (at_set s.views id i w u e))

times_grow : (q : ℕ) (xs : List ℕ) (p : ℕ) (b : Bool) → times_in q xs ≤ times_in q (handed_more xs p b)
times_grow q xs p true = let r = times_snoc q xs p in omega arith
times_grow q xs p false = omega arith

less_one : (n : ℕ) → 0 < n → n < 18446744073709551616 → (n + (2 ^ 64 - 1)) % 2 ^ 64 ≡ n - 1
less_one n positive small = let big : n < 18446744073709551616 = small in omega arith

opens_fits : (pairs : List (ℕ × ℕ)) (lent : ℕ) (v : Deeds) (b : Bool) → v.kind ≡ Opener → Fits pairs lent v → Fits pairs lent (after_open v (length v.opened) b)
opens_fits pairs lent v b kind f = record { earlier = λ q h. let e = f.earlier q h in let g = times_grow q.0 v.handed (length v.opened) b in omega arith; kind = fits; splits = f.splits }
  where
    o : v.opened ≡ below (length v.opened)
    o = subst (λ (ro : PassKind). FitsKind pairs ro v) kind f.kind

    longer : length (v.opened ++ length v.opened ∷ []) ≡ suc (length v.opened)
    longer = omega (arith, length-append v.opened (length v.opened ∷ []))

    fits : FitsKind pairs v.kind (after_open v (length v.opened) b)
    fits = subst (λ (ro : PassKind). FitsKind pairs ro (after_open v (length v.opened) b)) (sym kind)
        (ap (λ (l : List ℕ). l ++ length v.opened ∷ []) o ∙ ap below (sym longer))

-- a step that leaves n
step_from : (agenda : Agenda) (s : State (Unit {0}) Deeds) (id : ℕ) (v w : Deeds) (p n : ℕ) → IsCounted agenda s → get_elem? s.views id ≡ some v → word s.words p ≡ n → 0 < n
    → IsCounted agenda (stepped s p (n - 1) id [] w keeps) → TakesOne agenda id p v (n - 1) w
step_from agenda s id v w p n held seen found positive holds = record { before = s; held = held; seen = seen; found = omega arith; holds = holds }

pub opens : (agenda : Agenda) (slots id : ℕ) (v : Deeds) → v.kind ≡ Opener → length v.opened < agenda.pieces
    → Allows (IsCounted agenda) slots id (v, []) (length v.opened) (λ n. (n + (2 ^ 64 - 1)) % 2 ^ 64) (HasOpened agenda id (step slots (length v.opened) 1 0 none) (v, []))
opens agenda slots id v kind some_left s r len at small =
    let p : ℕ = length v.opened in let n : ℕ = get_or s.words p 0 in let size = r.size in
    let inside : p < length s.words = omega arith in
    let found : word s.words p ≡ n = inside_default s.words p 1 0 inside in
    let none_open = not_opened agenda s r id v at kind in
    let c = r.counts p in let w = counted_within agenda s r p in
    let positive : 0 < n = omega arith in
    let less : n ≡ (n - 1) + 1 = omega arith in
    let next : IsCounted agenda (stepped s p (n - 1) id [] (after_open v p (eqb n 1)) keeps) =
    takes_one agenda s r id v (after_open v p (eqb n 1)) at p n (n - 1) inside found less
    (λ q. let t = times_snoc q v.opened p in omega arith)
    (λ q. let a = over_set (λ (u : Deeds). times_in q u.opened) s.views id v (after_open v p (eqb n 1)) at in let t = times_snoc q v.opened p in let o = r.opened_once q in
    dite (ℕ_discrete q p)
    (λ e. let y = same_yes q p e in let z : opened_in q s.views ≡ 0 = ap (λ (x : ℕ). opened_in x s.views) e ∙ none_open in omega arith)
    (λ ne. let y = same_no q p ne in omega arith))
    (λ q. let a = over_set (λ (u : Deeds). pair_times q u.counted) s.views id v (after_open v p (eqb n 1)) at in let o = r.counted_once q in omega arith)
    refl
    refl
    (opens_fits (agenda_pairs agenda) (lent_in s.views) v (eqb n 1) kind (r.each id v at)) in (
      after_open v p (eqb n 1),
      keeps,
      tt,
      subst (λ (k : ℕ). IsCounted agenda (stepped s p k id [] (after_open v p (eqb n 1)) keeps)) (sym (less_one n positive small)) next,
      (refl, positive, step_from agenda s id v (after_open v p (eqb n 1)) p n r at found positive next),
    )

in_order_snoc : (pairs : List (ℕ × ℕ)) (xs : List ℕ) (p : ℕ) → InOrder pairs xs → ((x : ℕ) → 0 < times_in x xs → pair_times (p, x) pairs ≡ 0) → InOrder pairs (xs ++ p ∷ [])
in_order_snoc pairs [] p o h = ((λ y z. absurd (omega arith)), tt)
in_order_snoc pairs (x ∷ xs) p o h = (first, in_order_snoc pairs xs p o.1 (λ z t. h z (omega arith)))
  where
    first : (y : ℕ) → 0 < times_in y (xs ++ p ∷ []) → pair_times (y, x) pairs ≡ 0
    first y t = dite (ℕ_discrete y p)
        (λ e. let one = same_yes x x refl in ap (λ (z : ℕ). pair_times (z, x) pairs) e ∙ h x (omega arith))
        (λ ne. let s = times_snoc y xs p in let z = same_no y p ne in o.0 y (omega arith))

-- who counts a pair of a piece that it was handed keeps to what passes keep to
counts_fits : (pairs : List (ℕ × ℕ)) (lent : ℕ) (v : Deeds) (from p : ℕ) (b : Bool) → 0 < times_in from v.handed → Fits pairs lent v
    → ((x : ℕ) → 0 < times_in x v.handed → pair_times (p, x) pairs ≡ 0) → Fits pairs lent (after_count v from p b)
counts_fits pairs lent v from p b has f free = record { earlier = earlier; kind = by_kind v.kind f.kind; splits = f.splits }
  where
    earlier : (q : ℕ × ℕ) → 0 < pair_times q (v.counted ++ (from, p) ∷ []) → 0 < times_in q.0 (handed_more v.handed p b)
    earlier q h = let g = times_grow q.0 v.handed p b in let a = pair_times_append q v.counted ((from, p) ∷ []) in dite (pair_discrete q (from, p))
        (λ e. let same_count : times_in q.0 v.handed ≡ times_in from v.handed = ap (λ (z : ℕ × ℕ). times_in z.0 v.handed) e in omega arith)
        (λ ne. let z = pair_no q (from, p) ne in let c = f.earlier q (omega arith) in omega arith)

    ordered : (b : Bool) → InOrder pairs v.handed → InOrder pairs (handed_more v.handed p b)
    ordered true o = in_order_snoc pairs v.handed p o free
    ordered false o = o

    by_kind : (ro : PassKind) → FitsKind pairs ro v → FitsKind pairs ro (after_count v from p b)
    by_kind Opener o = o
    by_kind Lent o = (o.0, ordered b o.1)
    by_kind Spent o = let z = ap (times_in from) o.2 in absurd (omega arith)

pub counts_pair : (agenda : Agenda) (slots id : ℕ) (v : Deeds) (from p : ℕ) → p < agenda.pieces → 0 < times_in from v.handed → 0 < pair_times (from, p) (agenda_pairs agenda) → pair_times (from, p) v.counted ≡ 0
    → Allows (IsCounted agenda) slots id (v, []) p (λ n. (n + (2 ^ 64 - 1)) % 2 ^ 64) (HasCounted agenda id from (step slots p 1 0 none) (v, []))
counts_pair agenda slots id v from p below_all has is new s r len at small =
    let n : ℕ = get_or s.words p 0 in let size = r.size in
    let inside : p < length s.words = omega arith in
    let found : word s.words p ≡ n = inside_default s.words p 1 0 inside in
    let none_yet = not_counted agenda s r id v (from, p) at has new in
    let more = counted_room agenda s r (from, p) is none_yet in
    let c = r.counts p in let once = r.opened_once p in
    let positive : 0 < n = omega arith in
    let positive_word : 0 < word s.words p = omega arith in
    let less : n ≡ (n - 1) + 1 = omega arith in
    let next : IsCounted agenda (stepped s p (n - 1) id [] (after_count v from p (eqb n 1)) keeps) =
    takes_one agenda s r id v (after_count v from p (eqb n 1)) at p n (n - 1) inside found less
    (λ x. let t = pairs_to_append x v.counted ((from, p) ∷ []) in omega arith)
    (λ x. let a = over_set (λ (u : Deeds). times_in x u.opened) s.views id v (after_count v from p (eqb n 1)) at in let o = r.opened_once x in omega arith)
    (λ x. let a = over_set (λ (u : Deeds). pair_times x u.counted) s.views id v (after_count v from p (eqb n 1)) at in let t = pair_times_append x v.counted ((from, p) ∷ []) in let o = r.counted_once x in
    dite (pair_discrete x (from, p))
    (λ e. let y : same_pair x (from, p) ≡ 1 = ap (λ (z : ℕ × ℕ). same_pair z (from, p)) e ∙ pair_yes (from, p) in
    let z : counted_in x s.views ≡ 0 = ap (λ (z : ℕ × ℕ). counted_in z s.views) e ∙ none_yet in
    let there : pair_times x (agenda_pairs agenda) ≡ pair_times (from, p) (agenda_pairs agenda) = ap (λ (z : ℕ × ℕ). pair_times z (agenda_pairs agenda)) e in omega arith)
    (λ ne. let y = pair_no x (from, p) ne in omega arith))
    refl
    refl
    (counts_fits (agenda_pairs agenda) (lent_in s.views) v from p (eqb n 1) has (r.each id v at)
    (λ x h. let a = over_at (λ (u : Deeds). times_in x u.handed) s.views id v at in not_waited agenda s r p x positive_word (omega arith))) in (
      after_count v from p (eqb n 1),
      keeps,
      tt,
      subst (λ (k : ℕ). IsCounted agenda (stepped s p k id [] (after_count v from p (eqb n 1)) keeps)) (sym (less_one n positive small)) next,
      (
        refl,
        positive,
        (let a = over_at (λ (u : Deeds). times_in p u.handed) s.views id v at in let z = none_handed agenda s r p positive_word in omega arith),
        step_from agenda s id v (after_count v from p (eqb n 1)) p n r at found positive next,
      ),
    )
