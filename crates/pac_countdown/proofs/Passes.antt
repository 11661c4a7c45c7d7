-- A split keeps the rule, and so does a join.
use Rattle.std.proofs.Common.{◌≡◌, ℕ, zero, suc, ◌+◌, ◌<◌, ◌≤◌, true, false, eqb, List, [], ◌∷◌, ◌++◌, set, sym, refl, ap, ◌∙◌, subst, ⊎_elim, arith}
use mathlib.Core.Logic.{dite}
use mathlib.Core.Option.{some}
use native.Mathlib.Decide.{ℕ_discrete}
use lib.ListN.{get_elem?}
use Rattle.atomic_table.specs.Table.{Joins, Splits}
use Rattle.atomic_table.proofs.Lists.{at_set, at_snoc, set_else}
use Rattle.pac_countdown.specs.Lists.{one_if, same, times_in, pair_times, pairs_to, sum_over, except, keep_if}
use Rattle.pac_countdown.specs.Counted.{IsCounted, Fits, FitsKind, InOrder, agenda_pairs, starting, word, is_opener, is_lent, opened_in, handed_in, counted_in, counted_to, openers_in, lent_in}
use Rattle.pac_countdown.specs.Steps.{after_split, lent_deeds, after_join, spent_deeds}
use Rattle.pac_countdown.specs.declared.deeds.Deeds.{Deeds}
use Rattle.pac_countdown.specs.declared.deeds.PassKind.{PassKind}
use Rattle.pac_countdown.specs.declared.deeds.PassKind.TheVariants.{Opener, Lent}
use Rattle.pac_countdown.specs.declared.deeds.Agenda.{Agenda}
use Rattle.pac_countdown.proofs.Sums.{same_yes, same_no, times_append, pair_times_append, pairs_to_append, over_set, over_snoc, over_at}
use Rattle.pac_countdown.proofs.Facts.{word_of_handed, handed_once, all_counted, not_counted, beside}

kept_step : (p : ℕ) (share xs : List ℕ) (x : ℕ) → times_in p share ≡ 0 → times_in p (except share xs) ≡ times_in p xs → (n : ℕ) → times_in x share ≡ n → times_in p (keep_if n x (except share xs)) ≡ same p x + times_in p xs
kept_step p share xs x none_there r zero e = omega arith
kept_step p share xs x none_there r (suc n) e = let z = same_no p x (λ (h : p ≡ x). let k : times_in p share ≡ times_in x share = ap (λ (y : ℕ). times_in y share) h in omega arith) in omega arith

times_kept : (p : ℕ) (share xs : List ℕ) → times_in p share ≡ 0 → times_in p (except share xs) ≡ times_in p xs
times_kept p share [] none_there = refl
times_kept p share (x ∷ xs) none_there = kept_step p share xs x none_there (times_kept p share xs none_there) (times_in x share) refl

shared_step : (p : ℕ) (share xs : List ℕ) (x : ℕ) → 0 < times_in p share → times_in p (except share xs) ≡ 0 → (n : ℕ) → times_in x share ≡ n → times_in p (keep_if n x (except share xs)) ≡ 0
shared_step p share xs x there r zero e = let z = same_no p x (λ (h : p ≡ x). let k : times_in p share ≡ times_in x share = ap (λ (y : ℕ). times_in y share) h in omega arith) in omega arith
shared_step p share xs x there r (suc n) e = r

times_shared : (p : ℕ) (share xs : List ℕ) → 0 < times_in p share → times_in p (except share xs) ≡ 0
times_shared p share [] there = refl
times_shared p share (x ∷ xs) there = shared_step p share xs x there (times_shared p share xs there) (times_in x share) refl

in_order_all : (pairs : List (ℕ × ℕ)) (xs : List ℕ) → ((x y : ℕ) → 0 < times_in x xs → 0 < times_in y xs → pair_times (y, x) pairs ≡ 0) → InOrder pairs xs
in_order_all pairs [] h = tt
in_order_all pairs (x ∷ xs) h = let one = same_yes x x refl in ((λ y t. h x y (omega arith) (omega arith)), in_order_all pairs xs (λ a b s t. h a b (omega arith) (omega arith)))

-- what a pass that isn't the opener's keeps to, it keeps to whatever was lent
no_opener_fits : (pairs : List (ℕ × ℕ)) (lent more : ℕ) (v : Deeds) → (is_opener v.kind ≡ true → ⊥) → Fits pairs lent v → Fits pairs more v
no_opener_fits pairs lent more v none_such f = record { earlier = f.earlier; kind = f.kind; splits = λ e. absurd (none_such e) }

pub splits_off : (agenda : Agenda) (id : ℕ) (v : Deeds) (share : List ℕ) → v.kind ≡ Opener
    → ((p : ℕ) → times_in p share ≤ 1)
    → ((p : ℕ) → 0 < times_in p share → 0 < times_in p v.handed)
    → ((p t : ℕ) → 0 < times_in p share → pair_times (p, t) v.counted ≡ 0)
    → Splits (IsCounted agenda) id v (after_split share v) (lent_deeds share)
splits_off agenda id v share kind differ among free s r at =
    record { size = r.size; counts = counts; opened_once = opened_once; pairs_once = r.pairs_once; counted_once = counted_once; handed = handed; one_opener = one_opener; each = each }
  where
    w : Deeds
    w = after_split share v

    new : Deeds
    new = lent_deeds share

    opener : is_opener v.kind ≡ true
    opener = ap is_opener kind

    sum : (f : Deeds → ℕ) → sum_over f (set s.views id w ++ new ∷ []) + f v ≡ sum_over f s.views + f w + f new
    sum f = let a = over_set f s.views id v w at in let b = over_snoc f (set s.views id w) new in omega arith

    -- each piece of the share is in one of the two lists
    parted : (p : ℕ) → times_in p v.handed ≡ times_in p (except share v.handed) + times_in p share
    parted p = let once = handed_once agenda s r p in let mine = over_at (λ (u : Deeds). times_in p u.handed) s.views id v at in dite (ℕ_discrete (times_in p share) 0)
        (λ z. let k = times_kept p share v.handed z in omega arith)
        (λ ne. let k = times_shared p share v.handed (omega arith) in let d = differ p in let a = among p (omega arith) in omega arith)

    counts : (p : ℕ) → word s.words p + opened_in p (set s.views id w ++ new ∷ []) + counted_to p (set s.views id w ++ new ∷ []) ≡ starting (agenda_pairs agenda) p
    counts p = let a = sum (λ u. times_in p u.opened) in let b = sum (λ u. pairs_to p u.counted) in let c = r.counts p in omega arith

    opened_once : (p : ℕ) → opened_in p (set s.views id w ++ new ∷ []) ≤ 1
    opened_once p = let a = sum (λ u. times_in p u.opened) in let c = r.opened_once p in omega arith

    counted_once : (q : ℕ × ℕ) → counted_in q (set s.views id w ++ new ∷ []) ≤ pair_times q (agenda_pairs agenda)
    counted_once q = let a = sum (λ u. pair_times q u.counted) in let c = r.counted_once q in omega arith

    handed : (p : ℕ) → handed_in p (set s.views id w ++ new ∷ []) ≡ one_if (eqb (word s.words p) 0)
    handed p = let a = sum (λ u. times_in p u.handed) in let b = parted p in let c = r.handed p in omega arith

    one_opener : openers_in (set s.views id w ++ new ∷ []) ≡ 1
    one_opener = let a = sum (λ u. one_if (is_opener u.kind)) in let c = r.one_opener in omega arith

    lent_more : lent_in (set s.views id w ++ new ∷ []) ≡ lent_in s.views + 1
    lent_more = let a = sum (λ u. one_if (is_lent u.kind)) in omega arith

    fits : Fits (agenda_pairs agenda) (lent_in s.views + 1) w
    fits = let f = r.each id v at in record {
      earlier = λ q h. let e = f.earlier q h in let b = parted q.0 in dite (ℕ_discrete (times_in q.0 share) 0)
          (λ z. omega arith)
          (λ ne. let z = free q.0 q.1 (omega arith) in absurd (omega arith));
      kind = subst (λ (ro : PassKind). FitsKind (agenda_pairs agenda) ro w) (sym kind) (subst (λ (ro : PassKind). FitsKind (agenda_pairs agenda) ro v) kind f.kind);
      splits = λ e. let z = f.splits e in omega arith;
    }

    new_fits : Fits (agenda_pairs agenda) (lent_in s.views + 1) new
    new_fits = record {
      earlier = λ q h. absurd (omega arith);
      kind = (refl, in_order_all (agenda_pairs agenda) share ordered);
      splits = λ e. absurd (bool_no e);
    }
      where
        bool_no : false ≡ true → ⊥
        bool_no e = cc

        ordered : (x y : ℕ) → 0 < times_in x share → 0 < times_in y share → pair_times (y, x) (agenda_pairs agenda) ≡ 0
        ordered x y hx hy = dite (ℕ_discrete (pair_times (y, x) (agenda_pairs agenda)) 0) (λ z. z)
            (λ ne. let mine = over_at (λ (u : Deeds). times_in x u.handed) s.views id v at in let a = among x hx in
            let c = all_counted agenda s r (y, x) (word_of_handed agenda s r x (omega arith)) (omega arith) in
            let z = not_counted agenda s r id v (y, x) at (among y hy) (free y x hy) in absurd (omega arith))

    each : (i : ℕ) (u : Deeds) → get_elem? (set s.views id w ++ new ∷ []) i ≡ some u → Fits (agenda_pairs agenda) (lent_in (set s.views id w ++ new ∷ [])) u
    each i u e = subst (λ (k : ℕ). Fits (agenda_pairs agenda) k u) (sym lent_more)
        (⊎_elim
        (λ there. ⊎_elim (λ here. subst (Fits (agenda_pairs agenda) (lent_in s.views + 1)) here.1 fits)
        (λ other. no_opener_fits (agenda_pairs agenda) (lent_in s.views) (lent_in s.views + 1) u (beside agenda s r id i v u at other.1 other.0 opener) (r.each i u other.1)) (at_set s.views id i w u there))
        (λ last. subst (Fits (agenda_pairs agenda) (lent_in s.views + 1)) last new_fits)
        (at_snoc (set s.views id w) new u i e))

false_no : false ≡ true → ⊥
false_no e = cc

spent_fits : (pairs : List (ℕ × ℕ)) (lent : ℕ) → Fits pairs lent spent_deeds
spent_fits pairs lent = record { earlier = λ q h. absurd (omega arith); kind = (refl, refl, refl); splits = λ e. absurd (false_no e) }

pub joins_in : (agenda : Agenda) (id : ℕ) (v : Deeds) (other : ℕ) (w : Deeds) → v.kind ≡ Opener → w.kind ≡ Lent → Joins (IsCounted agenda) id v other w (after_join v w) spent_deeds
joins_in agenda id v other w kind lent s r at apart at_other =
    record { size = r.size; counts = counts; opened_once = opened_once; pairs_once = r.pairs_once; counted_once = counted_once; handed = handed; one_opener = one_opener; each = each }
  where
    both : Deeds
    both = after_join v w

    l : List Deeds
    l = set (set s.views id both) other spent_deeds

    opener : is_opener v.kind ≡ true
    opener = ap is_opener kind

    there : get_elem? s.views other ≡ some w
    there = sym (set_else s.views id other both apart) ∙ at_other

    fit : Fits (agenda_pairs agenda) (lent_in s.views) v
    fit = r.each id v at

    fit_other : Fits (agenda_pairs agenda) (lent_in s.views) w
    fit_other = r.each other w there

    none_opened : w.opened ≡ []
    none_opened = (subst (λ (ro : PassKind). FitsKind (agenda_pairs agenda) ro w) lent fit_other.kind).0

    sum : (f : Deeds → ℕ) → sum_over f (set (set s.views id both) other spent_deeds) + f v + f w ≡ sum_over f s.views + f both + f spent_deeds
    sum f = let a = over_set f s.views id v both at in let b = over_set f (set s.views id both) other w spent_deeds at_other in omega arith

    counts : (p : ℕ) → word s.words p + opened_in p (set (set s.views id both) other spent_deeds) + counted_to p (set (set s.views id both) other spent_deeds) ≡ starting (agenda_pairs agenda) p
    counts p = let a = sum (λ u. times_in p u.opened) in let b = sum (λ u. pairs_to p u.counted) in let c = r.counts p in let z = ap (times_in p) none_opened in let t = pairs_to_append p v.counted w.counted in omega arith

    opened_once : (p : ℕ) → opened_in p (set (set s.views id both) other spent_deeds) ≤ 1
    opened_once p = let a = sum (λ u. times_in p u.opened) in let c = r.opened_once p in omega arith

    counted_once : (q : ℕ × ℕ) → counted_in q (set (set s.views id both) other spent_deeds) ≤ pair_times q (agenda_pairs agenda)
    counted_once q = let a = sum (λ u. pair_times q u.counted) in let c = r.counted_once q in let t = pair_times_append q v.counted w.counted in omega arith

    handed : (p : ℕ) → handed_in p (set (set s.views id both) other spent_deeds) ≡ one_if (eqb (word s.words p) 0)
    handed p = let a = sum (λ u. times_in p u.handed) in let c = r.handed p in let t = times_append p v.handed w.handed in omega arith

    not_opener : one_if (is_opener w.kind) ≡ 0
    not_opener = ap (λ (x : PassKind). one_if (is_opener x)) lent

    one_opener : openers_in (set (set s.views id both) other spent_deeds) ≡ 1
    one_opener = let a = sum (λ u. one_if (is_opener u.kind)) in let c = r.one_opener in let z = not_opener in omega arith

    fewer : lent_in s.views ≡ lent_in (set (set s.views id both) other spent_deeds) + 1
    fewer = let a = sum (λ u. one_if (is_lent u.kind)) in let z = ap (λ (x : PassKind). one_if (is_lent x)) lent in omega arith

    fits : (k : ℕ) → lent_in s.views ≡ k + 1 → Fits (agenda_pairs agenda) k both
    fits k e = record {
      earlier = λ q h. let t = pair_times_append q v.counted w.counted in let d = times_append q.0 v.handed w.handed in dite (ℕ_discrete (pair_times q v.counted) 0)
          (λ z. let f = fit_other.earlier q (omega arith) in omega arith)
          (λ ne. let f = fit.earlier q (omega arith) in omega arith);
      kind = subst (λ (ro : PassKind). FitsKind (agenda_pairs agenda) ro both) (sym kind) (subst (λ (ro : PassKind). FitsKind (agenda_pairs agenda) ro v) kind fit.kind);
      splits = λ o. let z = fit.splits o in omega arith;
    }

    each : (i : ℕ) (u : Deeds) → get_elem? (set (set s.views id both) other spent_deeds) i ≡ some u → Fits (agenda_pairs agenda) (lent_in (set (set s.views id both) other spent_deeds)) u
    each i u e = ⊎_elim
        (λ gone. subst (Fits (agenda_pairs agenda) (lent_in (set (set s.views id both) other spent_deeds))) gone.1 (spent_fits (agenda_pairs agenda) (lent_in (set (set s.views id both) other spent_deeds))))
        (λ left. ⊎_elim
        (λ here. subst (Fits (agenda_pairs agenda) (lent_in (set (set s.views id both) other spent_deeds))) here.1 (fits (lent_in (set (set s.views id both) other spent_deeds)) fewer))
        (λ before. no_opener_fits (agenda_pairs agenda) (lent_in s.views) (lent_in (set (set s.views id both) other spent_deeds)) u (beside agenda s r id i v u at before.1 before.0 opener) (r.each i u before.1))
        (at_set s.views id i both u left.1))
        (at_set (set s.views id both) other i spent_deeds u e)
