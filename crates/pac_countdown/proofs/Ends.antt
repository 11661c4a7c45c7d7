-- The rule holds at first, a load keeps it, and where all passes are joined the opener has all.
use Rattle.std.proofs.Common.{◌≡◌, ◌≢◌, ℕ, zero, suc, ◌<◌, ◌≤◌, List, [], ◌∷◌, length, get_or, set, sym, refl, ap, ◌∙◌, subst, ⊎_elim, eq-eqb, ne_eqb, arith}
use mathlib.Core.Logic.{dite}
use mathlib.Core.Option.{none, some, some-injective, some-ne-none}
use native.Mathlib.Decide.{ℕ_discrete}
use lib.ListN.{get_elem?}
use Rattle.atomic_table.specs.Table.{State, step, keeps, stepped, Allows, opening}
use Rattle.atomic_table.proofs.Lists.{at_set, set_again}
use Rattle.pac_countdown.specs.Lists.{one_if, times_in, pair_times, pairs_to, sum_over}
use Rattle.pac_countdown.specs.Counted.{IsCounted, Fits, FitsKind, agenda_pairs, starting, word, is_opener, is_lent, opened_in, handed_in, counted_in, lent_in, RuleSays}
use Rattle.pac_countdown.specs.Steps.{spent_deeds, IsDue, IsAll, HasLooked, HasLoaded, first_deeds}
use Rattle.pac_countdown.specs.declared.deeds.Deeds.{Deeds}
use Rattle.pac_countdown.specs.declared.deeds.PassKind.{PassKind}
use Rattle.pac_countdown.specs.declared.deeds.PassKind.TheVariants.{Opener, Lent, Spent}
use Rattle.pac_countdown.specs.declared.deeds.Agenda.{Agenda}
use Rattle.pac_countdown.proofs.Sums.{over_set, over_at, over_two, over_find, all_there, inside_default}
use Rattle.pac_countdown.proofs.Facts.{word_of_handed, handed_once, all_opened, all_counted, beside}

set_found : (l : List ℕ) (i : ℕ) → set l i (get_or l i 0) ≡ l
set_found [] i = refl
set_found (x ∷ xs) zero = refl
set_found (x ∷ xs) (suc i) = λ k. x ∷ set_found xs i k

-- where all others are joined, the opener's pass has all lists
module _ (agenda : Agenda) (s : State (Unit {0}) Deeds) (r : IsCounted agenda s) (id : ℕ) (v : Deeds) (at : get_elem? s.views id ≡ some v) (kind : v.kind ≡ Opener) (none_lent : lent_in s.views ≡ 0) where
  empty_beside : (i : ℕ) (u : Deeds) → get_elem? s.views i ≡ some u → i ≢ id → (ro : PassKind) → u.kind ≡ ro → (u.opened ≡ []) × (u.counted ≡ []) × (u.handed ≡ [])
  empty_beside i u e ne Opener is = absurd (beside agenda s r id i v u at e ne (ap is_opener kind) (ap is_opener is))
  empty_beside i u e ne Lent is = let a = over_at (λ (x : Deeds). one_if (is_lent x.kind)) s.views i u e in let b = ap (λ (x : PassKind). one_if (is_lent x)) is in absurd (omega arith)
  empty_beside i u e ne Spent is = subst (λ (ro : PassKind). FitsKind (agenda_pairs agenda) ro u) is (r.each i u e).kind

  pub alone : (f : Deeds → ℕ) → ((u : Deeds) → u.opened ≡ [] → u.counted ≡ [] → u.handed ≡ [] → f u ≡ 0) → sum_over f s.views ≡ f v
  alone f none_of = let a = over_set f s.views id v spent_deeds at in let z = none_of spent_deeds refl refl refl in
      dite (ℕ_discrete (sum_over f (set s.views id spent_deeds)) 0) (λ e. omega arith)
      (λ ne. let t = over_find f (set s.views id spent_deeds) (omega arith) in
      absurd (⊎_elim
      (λ here. let k : f t.1 ≡ f spent_deeds = ap f (sym here.1) in let some_there = t.3 in omega arith)
      (λ other. let m = empty_beside t.0 t.1 other.1 other.0 t.1.kind refl in let k = none_of t.1 m.0 m.1 m.2 in let some_there = t.3 in omega arith)
      (at_set s.views id t.0 spent_deeds t.1 t.2)))

  pub has_all : ((q : ℕ × ℕ) → pair_times q (agenda_pairs agenda) ≤ 1) → IsAll (agenda_pairs agenda) v
  has_all once = record { once = λ p. let h = handed_alone p in let o = handed_once agenda s r p in omega arith; due = due; handed = handed }
    where
      handed_alone : (p : ℕ) → handed_in p s.views ≡ times_in p v.handed
      handed_alone p = alone (λ u. times_in p u.handed) (λ u a b c. ap (times_in p) c)

      opened_alone : (p : ℕ) → opened_in p s.views ≡ times_in p v.opened
      opened_alone p = alone (λ u. times_in p u.opened) (λ u a b c. ap (times_in p) a)

      counted_alone : (q : ℕ × ℕ) → counted_in q s.views ≡ pair_times q v.counted
      counted_alone q = alone (λ u. pair_times q u.counted) (λ u a b c. ap (pair_times q) b)

      due : (p : ℕ) → 0 < times_in p v.handed → IsDue (agenda_pairs agenda) v p
      due p h = let is_zero = word_of_handed agenda s r p (let a = handed_alone p in omega arith) in (
        (let o = all_opened agenda s r p is_zero in let a = opened_alone p in omega arith),
        (λ e is. let c = all_counted agenda s r (e, p) is_zero is in let a = counted_alone (e, p) in omega arith),
      )

      handed : (p : ℕ) → IsDue (agenda_pairs agenda) v p → 0 < times_in p v.handed
      handed p is = let o = is.0 in let a = opened_alone p in let b = handed_alone p in let c = r.counts p in
          let t = all_there (λ (u : Deeds). u.counted) s.views p (agenda_pairs agenda) (λ e. let k = counted_alone (e, p) in let one = once (e, p) in
          dite (ℕ_discrete (pair_times (e, p) (agenda_pairs agenda)) 0) (λ z. omega arith) (λ ne. let d = is.1 e (omega arith) in omega arith)) in
          let z : word s.words p ≡ 0 = omega arith in let y = ap one_if (eq-eqb (word s.words p) 0 z) in let h = r.handed p in omega arith

pub looks : (agenda : Agenda) (slots id : ℕ) (v : Deeds) (p : ℕ) → p < agenda.pieces
    → Allows (IsCounted agenda) slots id (v, []) p (λ n. n) (HasLoaded agenda id (step slots p 0 0 none) (v, []))
looks agenda slots id v p below_all s r len at small = (
  v,
  keeps,
  tt,
  subst (IsCounted agenda) (sym unchanged) r,
  (refl, looked, record { moment = s; holds = r; seen = at; found = found }),
)
  where
    unchanged : stepped s p (get_or s.words p 0) id [] v keeps ≡ s
    unchanged = λ i. record { words = set_found s.words p i; homes = s.homes; views = set_again s.views id v at i }

    size : length s.words ≡ agenda.pieces
    size = r.size

    found : word s.words p ≡ get_or s.words p 0
    found = inside_default s.words p 1 0 (omega arith)

    looked : HasLooked (agenda_pairs agenda) p v (get_or s.words p 0)
    looked = record {
      done = λ h. let a = over_at (λ (u : Deeds). times_in p u.handed) s.views id v at in sym found ∙ word_of_handed agenda s r p (omega arith);
      most = let a = over_at (λ (u : Deeds). times_in p u.opened) s.views id v at in let b = over_at (λ (u : Deeds). pairs_to p u.counted) s.views id v at in let c = r.counts p in let f = found in omega arith;
      ordered = λ e. (subst (λ (ro : PassKind). FitsKind (agenda_pairs agenda) ro v) e (r.each id v at).kind).1;
      joins = λ e. let z = (r.each id v at).splits (ap is_opener e) in omega arith;
      all = λ e same_many. let z = (r.each id v at).splits (ap is_opener e) in has_all agenda s r id v at e (omega arith) r.pairs_once;
    }

pub opens_rule : (agenda : Agenda) (words : List ℕ) → ((q : ℕ × ℕ) → pair_times q (agenda_pairs agenda) ≤ 1) → length words ≡ agenda.pieces → ((p : ℕ) → word words p ≡ starting (agenda_pairs agenda) p) → IsCounted agenda (opening words [] first_deeds)
opens_rule agenda words once size starts = record {
  size = size;
  counts = λ p. let a = starts p in omega arith;
  opened_once = λ p. omega arith;
  pairs_once = once;
  counted_once = λ q. omega arith;
  handed = λ p. let a = starts p in sym (ap one_if (ne_eqb (word words p) 0 (λ (e : word words p ≡ 0). omega arith)));
  one_opener = refl;
  each = each;
}
  where
    each : (i : ℕ) (u : Deeds) → get_elem? (first_deeds ∷ []) i ≡ some u → Fits (agenda_pairs agenda) 0 u
    each zero u e = subst (Fits (agenda_pairs agenda) 0) (some-injective first_deeds u e) (record { earlier = λ q h. absurd (omega arith); kind = refl; splits = λ o. refl })
    each (suc i) u e = absurd (some-ne-none u (sym e))

pub rule_says : (agenda : Agenda) → RuleSays agenda
rule_says agenda s r = record { one = one; after = after }
  where
    one : (i j p : ℕ) (v w : Deeds) → get_elem? s.views i ≡ some v → get_elem? s.views j ≡ some w → 0 < times_in p v.handed → 0 < times_in p w.handed → i ≡ j
    one i j p v w e f a b = dite (ℕ_discrete i j) (λ h. h)
        (λ ne. let two = over_two (λ (u : Deeds). times_in p u.handed) s.views i j v w ne e f in let once = handed_once agenda s r p in absurd (omega arith))

    after : (i : ℕ) (v : Deeds) (q : ℕ × ℕ) → get_elem? s.views i ≡ some v → 0 < times_in q.1 v.handed → 0 < pair_times q (agenda_pairs agenda)
        → (j : ℕ) × (w : Deeds) × (get_elem? s.views j ≡ some w) × (0 < pair_times q w.counted) × (0 < times_in q.0 w.handed)
    after i v q e has is = let a = over_at (λ (u : Deeds). times_in q.1 u.handed) s.views i v e in
        let c = all_counted agenda s r q (word_of_handed agenda s r q.1 (omega arith)) is in
        let f = over_find (λ (u : Deeds). pair_times q u.counted) s.views c in (f.0, f.1, f.2, f.3, (r.each f.0 f.1 f.2).earlier q f.3)
